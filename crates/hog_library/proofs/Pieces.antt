-- The pieces of a text, by where the separator is first found.
use Rattle.std.proofs.Common.{◌≡◌, ◌<◌, ◌+◌, ◌-◌, ℕ, zero, suc, List, [], ◌∷◌, ◌++◌, Option, Some, None, length, take, drop, true, false, cond, ◌≢◌, arith, refl, ap, ap₂, sym, ◌∙◌, Bor, append_assoc, length-append, bytes_eq}
use Rattle.std.proofs.Math.Seq.{take-append_seam}
use Rattle.std.proofs.lemmas.List.{take-append-drop}
use Rattle.std.proofs.lemmas.Slice.Eq.{bytes_eq-Decides}
use Rattle.std.specs.Str.Pattern.{FindsText, SplitsAroundMatch}
use Rattle.std.specs.Prelude.{IfNone, IfSome, MatchOption}
use Rattle.std.specs.List.{join_by}
use Rattle.hog_library.specs.Texts.{begins_with, with_byte, pieces_from, pieces}

-- bytes that are passed over
pub pieces_from-skip : (s : List ℕ) (k : ℕ) (t : List ℕ) → pieces_from s k t ≡ pieces_from s 0 (drop k t)
pieces_from-skip s zero t = refl
pieces_from-skip s (suc k) [] = refl
pieces_from-skip s (suc k) (b ∷ t) = pieces_from-skip s k t

-- where the separator is nowhere in a text, there is one piece
pub pieces_from-none : (s t : List ℕ) → ((i : ℕ) → i < length t → begins_with (drop i t) s ≡ false) → pieces_from s 0 t ≡ t ∷ []
pieces_from-none s [] nowhere = refl
pieces_from-none s (b ∷ t) nowhere =
    let rest = pieces_from-none s t (λ i h. nowhere (suc i) (omega arith)) in
    rw (nowhere 0 (omega arith), rest) refl

-- where it is first found, a piece ends, and what is behind it goes on at n
pub pieces_from-first : (s t : List ℕ) (i n : ℕ) → n ≡ i + length s → 0 < length s → i < length t
    → ((k : ℕ) → k < i → begins_with (drop k t) s ≡ false) → begins_with (drop i t) s ≡ true
    → pieces_from s 0 t ≡ take i t ∷ pieces_from s 0 (drop n t)
pieces_from-first s [] i n at full within before here = absurd (omega arith)
pieces_from-first s (b ∷ t) i zero at full within before here = absurd (omega arith)
pieces_from-first s (b ∷ t) zero (suc n) at full within before here =
    let past : length s - 1 ≡ n = omega arith in
    rw here (ap (λ ps. [] ∷ ps) (ap (λ k. pieces_from s k t) past ∙ pieces_from-skip s n t))
pieces_from-first s (b ∷ t) (suc i) (suc n) at full within before here =
    let rest = pieces_from-first s t i n (omega arith) full (omega arith) (λ k h. before (suc k) (omega arith)) here in
    rw (before 0 (omega arith), rest) refl

-- a text begins with another where that is its front
pub begins_with-append : (s rest : List ℕ) → begins_with (s ++ rest) s ≡ true
unfolding begins_with
begins_with-append s rest = ap (bytes_eq s) (take-append_seam s rest) ∙ (bytes_eq-Decides s s).1 refl

-- and only there
pub begins_with-true : (t s : List ℕ) → begins_with t s ≡ true → t ≡ s ++ drop (length s) t
unfolding begins_with
begins_with-true t s begins =
    let front : s ≡ take (length s) t = (bytes_eq-Decides s (take (length s) t)).0 begins in
    sym (take-append-drop (length s) t) ∙ ap (λ x. x ++ drop (length s) t) (sym front)

-- where a text has no other at its front, it doesn't begin with it
pub begins_with-lacks : (t s : List ℕ) → ((rest : List ℕ) → t ≢ s ++ rest) → begins_with t s ≡ false
begins_with-lacks t s lacks = elim (begins_with t s) as (λ b. begins_with t s ≡ b → b ≡ false) [
  | true ↦ λ is. absurd (lacks _ (begins_with-true t s is))
  | false ↦ λ is. refl
] refl

-- there is at least one piece
pub some_piece : (s : List ℕ) (k : ℕ) (t : List ℕ) → 0 < length (pieces_from s k t)
some_piece s k [] = omega arith
some_piece s (suc k) (b ∷ t) = some_piece s k t
some_piece s zero (b ∷ t) = elim (begins_with (b ∷ t) s) as (λ x. 0 < length (cond x ([] ∷ pieces_from s (length s - 1) t) (with_byte b (pieces_from s 0 t)))) [
  | true ↦ omega arith
  | false ↦ with_one b (pieces_from s 0 t)
]
  where
    with_one : (b : ℕ) (ps : List (List ℕ)) → 0 < length (with_byte b ps)
    with_one b [] = omega arith
    with_one b (p ∷ ps) = omega arith

-- pieces joined, the first and then the others
pub join_by-cons : (to p : List ℕ) (ps : List (List ℕ)) → 0 < length ps → join_by (λ x. x) to (p ∷ ps) ≡ p ++ (to ++ join_by (λ x. x) to ps)
join_by-cons to p [] some = absurd (omega arith)
join_by-cons to p (q ∷ ps) some = ap (λ x. p ++ x) (append_assoc to q _)

-- where the separator is found nowhere, the text is one piece
pub pieces-none : (s t : List ℕ) → 0 < length s → FindsText s t None → pieces s t ≡ t ∷ []
unfolding pieces
pieces-none [] t full nowhere = absurd (omega arith)
pieces-none (x ∷ s) t full nowhere =
    pieces_from-none (x ∷ s) t (λ i h. begins_with-lacks (drop i t) (x ∷ s) (nowhere i (omega arith)))

-- where it is found first from i to j, the piece before it ends at i, and the others are behind j
pub pieces-first : (s t : List ℕ) (i j : ℕ) → 0 < length s → i < length t → FindsText s t (Some (i, j)) → pieces s t ≡ take i t ∷ pieces s (drop j t)
unfolding pieces
pieces-first [] t i j full within first = absurd (omega arith)
pieces-first (x ∷ s) t i j full within first =
    let here = ap (λ y. begins_with y (x ∷ s)) first.1.split ∙ begins_with-append (x ∷ s) (drop j t) in
    pieces_from-first (x ∷ s) t i j first.1.ends full within (λ k h. begins_with-lacks (drop k t) (x ∷ s) (first.0 k h)) here

-- what stands round a separator that was found
pub pieces-around : (s t front back : List ℕ) → 0 < length s → SplitsAroundMatch (FindsText s) t front back
    → (pieces s t ≡ front ∷ pieces s back) × (length back < length t)
pieces-around s t front back full around =
    let i = around.0 in
    let j = around.1 in
    let first = around.2 in
    let ends = first.1.ends in
    let shorter : length back < length t = omega (arith, ends, around.7) in
    let parts = pieces-first s t i j full (omega (arith, ends, around.7)) first in
    (parts ∙ ap₂ (λ x y. x ∷ pieces s y) (sym around.3) (sym around.4), shorter)

-- an empty separator is nowhere
pub pieces-empty : (s t : List ℕ) → length s ≡ 0 → pieces s t ≡ t ∷ []
unfolding pieces
pieces-empty [] t empty = refl
pieces-empty (x ∷ s) t empty = absurd (omega arith)

-- what comes of a search that finds nothing, or what stands round the first place
module _ (s t : List ℕ) (full : 0 < length s) where
  pub cut_none : {X : Type 0} (r : Option X) (Found : X → Type 0) → MatchOption r (FindsText s t None) Found → IfNone r (pieces s t ≡ t ∷ [])
  cut_none None Found nowhere = pieces-none s t full nowhere
  cut_none (Some x) Found found = tt

  abbrev pub Around : Bor (List ℕ) × Bor (List ℕ) → Type 0
  Around x = SplitsAroundMatch (FindsText s) t x.0.now x.1.now

  pub cut_some : (r : Option (Bor (List ℕ) × Bor (List ℕ))) → MatchOption r (FindsText s t None) Around
      → IfSome r (λ x. pieces s t ≡ x.0.now ∷ pieces s x.1.now)
  cut_some None nowhere = tt
  cut_some (Some x) around = (pieces-around s t x.0.now x.1.now full around).0

  pub cut_shorter : (r : Option (Bor (List ℕ) × Bor (List ℕ))) → MatchOption r (FindsText s t None) Around
      → IfSome r (λ x. length x.1.now < length t)
  cut_shorter None nowhere = tt
  cut_shorter (Some x) around = (pieces-around s t x.0.now x.1.now full around).1

-- there is at least one piece
pub some_pieces : (s t : List ℕ) → 0 < length (pieces s t)
unfolding pieces
some_pieces [] t = omega arith
some_pieces (x ∷ s) t = some_piece (x ∷ s) 0 t

-- one more piece is replaced
pub replaced_more : (whole made to piece s rest behind : List ℕ)
    → whole ≡ made ++ join_by (λ x. x) to (pieces s rest) → pieces s rest ≡ piece ∷ pieces s behind
    → whole ≡ ((made ++ piece) ++ to) ++ join_by (λ x. x) to (pieces s behind)
replaced_more whole made to piece s rest behind so_far cut =
    so_far
    ∙ ap (λ ps. made ++ join_by (λ x. x) to ps) cut
    ∙ ap (λ t. made ++ t) (join_by-cons to piece (pieces s behind) (some_pieces s behind))
    ∙ simp append_assoc

-- what is longer than so many bytes already is so in the end
pub longer_still : (whole front rest : List ℕ) (units : ℕ) → whole ≡ front ++ rest → units < length front → units < length whole
longer_still whole front rest units is long = omega (arith, ap length is, length-append front rest)
