-- Places of names.
use Rattle.std.proofs.Common.{◌≡◌, ℕ, zero, suc, ◌+◌, ◌-◌, ◌<◌, List, [], ◌∷◌, ◌++◌, length, reverse, map, take, drop, get_or, Option, Some, None, true, false, bytes_eq, refl, sym, ap, ◌∙◌, arith, length-append, length-drop, replicate}
use Rattle.std.specs.Borrow.{Bor}
use Rattle.std.proofs.lemmas.List.{map-append, take_more, take-append-drop, drop_more, reverse-append, length-reverse, length-map, length-take-le}
use Rattle.std.proofs.Math.Seq.{drop-append_seam}
use Rattle.hog_tree.specs.Plain.{Word}
use Rattle.hog_captures.specs.Frames.{Frame, find_local, find_up, next_index, capture, captures_of, with_local, with_hidden, with_params}
use Rattle.hog_captures.specs.View.{name_of, names_of, words_at, last_first}

-- lists that are seen from their end
module _ {X Y : Type 0} (g : X → Y) where
  abbrev turned : List X → List Y
  turned xs = reverse (map g xs)

  turned-append : (xs ys : List X) → turned (xs ++ ys) ≡ turned ys ++ turned xs
  turned-append xs ys = ap reverse (map-append g xs ys) ∙ reverse-append (map g xs) (map g ys)

  length-turned : (xs : List X) → length (turned xs) ≡ length xs
  length-turned xs = length-reverse (map g xs) ∙ length-map xs g

  -- the first of them are those that are left where the last go
  turned-take : (n : ℕ) (xs : List X) → turned (take n xs) ≡ drop (length (turned xs) - n) (turned xs)
  turned-take n xs =
      let split : turned (drop n xs) ++ turned (take n xs) ≡ turned xs = sym (turned-append (take n xs) (drop n xs)) ∙ ap turned (take-append-drop n xs) in
      let long : length (turned (drop n xs)) ≡ length (turned xs) - n =
      length-turned (drop n xs) ∙ length-drop n xs ∙ ap (λ m. m - n) (sym (length-turned xs)) in
      sym (drop-append_seam (turned (drop n xs)) (turned (take n xs))) ∙ ap (λ m. drop m (turned (drop n xs) ++ turned (take n xs))) long ∙ ap (drop (length (turned xs) - n)) split

pub names_of-take : (n : ℕ) (xs : List (Option (Bor Word))) → names_of (take n xs) ≡ drop (length (names_of xs) - n) (names_of xs)
names_of-take = turned-take name_of

pub last_first-take : (n : ℕ) (xs : List (Bor Word)) → last_first (take n xs) ≡ drop (length (last_first xs) - n) (last_first xs)
last_first-take = turned-take (λ w. w.now)

-- what is left where the nearest go
pub drop-front : {X : Type 0} (xs ys : List X) (n : ℕ) → n ≡ length ys → drop (length (xs ++ ys) - n) (xs ++ ys) ≡ ys
drop-front xs ys n is =
    let long : length (xs ++ ys) - n ≡ length xs = omega (arith, length-append xs ys, is) in
    ap (λ m. drop m (xs ++ ys)) long ∙ drop-append_seam xs ys

-- hidden locals
pub hidden_more : (n : ℕ) (fr : Frame) → with_hidden (n + 1) fr ≡ with_local None (with_hidden n fr)
hidden_more n fr = let on : n + 1 ≡ suc n = omega arith in ap (λ m. with_hidden m fr) on

pub hidden_before : (n : ℕ) (fr : Frame) → with_hidden n fr ≡ record { locals = replicate n None ++ fr.locals; ups = fr.ups }
hidden_before zero fr = refl
hidden_before (suc n) fr = ap (with_local None) (hidden_before n fr)

-- one more parameter
pub params_more : (ps : List Word) (p : Word) (locals : List (Option Word)) → with_params (ps ++ p ∷ []) locals ≡ Some p ∷ with_params ps locals
params_more [] p locals = refl
params_more (q ∷ ps) p locals = params_more ps p (Some q ∷ locals)

next_none : (o : Option ℕ) → next_index o ≡ None → o ≡ None
next_none None h = refl
next_none (Some n) h = grind arith

-- a captured variable that stands after others
find_up-missed : (xs : List Word) (v w : Word) → find_up xs w ≡ None → bytes_eq v w ≡ false → find_up (xs ++ v ∷ []) w ≡ None
find_up-missed [] v w none not = grind arith
find_up-missed (x ∷ xs) v w none not = grind (arith, next_none, find_up-missed xs v w)

find_up-hit : (xs ys : List Word) (v w : Word) → find_up xs w ≡ None → bytes_eq v w ≡ true → find_up (xs ++ v ∷ ys) w ≡ Some (length xs)
find_up-hit [] ys v w none is = grind arith
find_up-hit (x ∷ xs) ys v w none is = grind (arith, next_none, find_up-hit xs ys v w)

-- a list where an item of it stands
pub parted : {X : Type 0} (xs : List X) (i : ℕ) (x : X) → i < length xs → x ≡ get_or xs i x → take i xs ++ x ∷ drop (i + 1) xs ≡ xs
parted xs i x lt is =
    ap (λ y. take i xs ++ y ∷ drop (i + 1) xs) is ∙ ap (λ r. take i xs ++ r) (sym (drop_more xs i x lt)) ∙ take-append-drop i xs

pub up_passed : (xs : List (Bor Word)) (i : ℕ) (x : Bor Word) (w : Word) → i < length xs → x ≡ get_or xs i x
    → find_up (words_at (take i xs)) w ≡ None → bytes_eq x.now w ≡ false → find_up (words_at (take (i + 1) xs)) w ≡ None
up_passed xs i x w lt is none not =
    ap (λ ys. find_up (words_at ys) w) (take_more xs i x lt ∙ ap (λ y. take i xs ++ y ∷ []) (sym is))
    ∙ ap (λ ys. find_up ys w) (map-append (λ y. y.now) (take i xs) (x ∷ []))
    ∙ find_up-missed (words_at (take i xs)) x.now w none not

pub up_found : (xs : List (Bor Word)) (i : ℕ) (x : Bor Word) (w : Word) → i < length xs → x ≡ get_or xs i x
    → find_up (words_at (take i xs)) w ≡ None → bytes_eq x.now w ≡ true → Some i ≡ find_up (words_at xs) w
up_found xs i x w lt is none found =
    let whole = ap (λ ys. find_up (words_at ys) w) (parted xs i x lt is) in
    let one = ap (λ ys. find_up ys w) (map-append (λ y. y.now) (take i xs) (x ∷ drop (i + 1) xs)) in
    let hit = find_up-hit (words_at (take i xs)) (words_at (drop (i + 1) xs)) x.now w none found in
    let long : length (words_at (take i xs)) ≡ i = length-map (take i xs) (λ w. w.now) ∙ length-take-le i xs (omega (arith, lt)) in
    sym (sym whole ∙ one ∙ hit ∙ ap Some long)

-- one more captured variable
captures-snoc : (fr : Frame) (ws : List Word) (w : Word)
    → captures_of fr (ws ++ w ∷ []) ≡ captures_of fr ws ++ capture (find_local fr.locals w) (find_up fr.ups w) ∷ []
captures-snoc fr [] w = refl
captures-snoc fr (v ∷ ws) w = ap (λ r. capture (find_local fr.locals v) (find_up fr.ups v) ∷ r) (captures-snoc fr ws w)

pub captures_more : (fr : Frame) (xs : List (Bor Word)) (i : ℕ) (x : Bor Word) → i < length xs → x ≡ get_or xs i x
    → captures_of fr (words_at (take (i + 1) xs)) ≡ captures_of fr (words_at (take i xs)) ++ capture (find_local fr.locals x.now) (find_up fr.ups x.now) ∷ []
captures_more fr xs i x lt is =
    ap (λ ys. captures_of fr (words_at ys)) (take_more xs i x lt ∙ ap (λ y. take i xs ++ y ∷ []) (sym is))
    ∙ ap (captures_of fr) (map-append (λ y. y.now) (take i xs) (x ∷ []))
    ∙ captures-snoc fr (words_at (take i xs)) x.now
