-- Whole texts: a text is passed over in one way.
use Rattle.std.proofs.Common.{◌≡◌, ℕ, ◌+◌, ◌≤◌, List, [], ◌∷◌, ◌++◌, length, Option, Some, None, refl, sym, ap, ◌∙◌, subst, arith, length-append, ◌⊎◌, inl, inr}
use Rattle.hog_grammar.specs.declared.token.Fault.{Fault}
use Rattle.hog_grammar.specs.Pieces.{Piece, spelled, AreGood, Place, Code, After, Passes}
use Rattle.hog_grammar.specs.Faults.{Holds, size_of}
use Rattle.hog_tokens.specs.Reading.{Begun, begun, begin, spot_of, moved, first_found, shifted}
use Rattle.hog_tokens.proofs.PieceKinds.{piece_kind, first_fault, moves_goes}
use Rattle.hog_tokens.proofs.PieceReads.{piece_reads}
use Rattle.hog_tokens.proofs.PieceFaults.{FirstBy, holds_first, first_holds, fault_within, one_fault, none_good, good_none}

-- the first fault in these pieces, of which the first begins at that place
abbrev pub first_at : ℕ → List Piece → Option (Fault × ℕ)
first_at n [] = None
first_at n (p ∷ ps) = first_found (shifted n (first_fault p)) (first_at (n + length (spelled p)) ps)

-- one piece

abbrev pub Others : Type 1
Others = Place → List ℕ → Type 0

pub reads_as : (p : Piece) (O : Others) (place : Place) (text : List ℕ) (a : After p O place text) → begin (spot_of place) text ≡ begun (piece_kind p) a.more (first_fault p)
reads_as p O place text a = ap (begin (spot_of place)) a.bytes ∙ piece_reads p (spot_of place) a.more a.piece (moves_goes p place a.next a.moves).fits

pub record Agree (p q : Piece) (to other_to : Place) (rest other : List ℕ) : Type 0 where
  pub more : rest ≡ other
  pub next : to ≡ other_to
  pub kind : piece_kind p ≡ piece_kind q
  pub fault : first_fault p ≡ first_fault q
  pub size : length (spelled p) ≡ length (spelled q)

same_begun : (a b : Begun) → Some a ≡ Some b → a ≡ b
same_begun a b e = cc

same_size : (xs ys more other : List ℕ) → length (xs ++ more) ≡ length (ys ++ other) → more ≡ other → length xs ≡ length ys
same_size xs ys more other e is = omega (arith, e, length-append xs more, length-append ys other, ap length is)

-- A text begins with one piece.
pub one_piece : (p q : Piece) (O Q : Others) (place : Place) (text : List ℕ) (a : After p O place text) (b : After q Q place text) → Agree p q a.next b.next a.more b.more
one_piece p q O Q place text a b =
    let one : Begun = record { kind = piece_kind p; rest = a.more; fault = first_fault p } in
    let other : Begun = record { kind = piece_kind q; rest = b.more; fault = first_fault q } in
    let x : one ≡ other = same_begun one other (sym (reads_as p O place text a) ∙ reads_as q Q place text b) in
    let more : a.more ≡ b.more = ap (λ (z : Begun). z.rest) x in
    let kind : piece_kind p ≡ piece_kind q = ap (λ (z : Begun). z.kind) x in
    let bytes : length (spelled p ++ a.more) ≡ length (spelled q ++ b.more) = sym (ap length a.bytes) ∙ ap length b.bytes in
    record {
      more = more;
      next = (moves_goes p place a.next a.moves).to ∙ ap (λ k. moved k place) kind ∙ sym (moves_goes q place b.next b.moves).to;
      kind = kind;
      fault = ap (λ (z : Begun). z.fault) x;
      size = same_size (spelled p) (spelled q) a.more b.more bytes more;
    }

-- more pieces

pub passes-append : (ps qs : List Piece) (a b c : Place) (text mid rest : List ℕ) → Passes ps a text b mid → Passes qs b mid c rest → Passes (ps ++ qs) a text c rest
passes-append [] qs a b c text mid rest x y = subst (λ (z : Place). Passes qs z text c rest) (sym x.0) (subst (λ (z : List ℕ). Passes qs b z c rest) (sym x.1) y)
passes-append (p ∷ ps) qs a b c text mid rest x y = record { next = x.next; more = x.more; bytes = x.bytes; piece = x.piece; moves = x.moves; others = passes-append ps qs x.next b c x.more mid rest x.others y }

pub passes_front : (ps qs : List Piece) (a c : Place) (text rest : List ℕ) → Passes (ps ++ qs) a text c rest → (b : Place) × (mid : List ℕ) × Passes ps a text b mid
passes_front [] qs a c text rest x = (a, text, (refl, refl))
passes_front (p ∷ ps) qs a c text rest x =
    let y = passes_front ps qs x.next c x.more rest x.others in (y.0, y.1, record { next = x.next; more = x.more; bytes = x.bytes; piece = x.piece; moves = x.moves; others = y.2 })

-- the same text from the same place on
pub moved_on : (ps : List Piece) (a b c : Place) (text other rest : List ℕ) → a ≡ b → text ≡ other → Passes ps b other c rest → Passes ps a text c rest
moved_on ps a b c text other rest e f x = subst (λ (z : Place). Passes ps z text c rest) (sym e) (subst (λ (z : List ℕ). Passes ps b z c rest) (sym f) x)

-- faults

abbrev pub FoundBy : Option (Fault × ℕ) → ℕ → Type 0
FoundBy (Some x) most = x.1 ≤ most
FoundBy None most = ⊥

found_first : (a b : Option (Fault × ℕ)) (most : ℕ) → FoundBy a most → FoundBy (first_found a b) most
found_first (Some x) b most h = h
found_first None b most h = absurd h

found_here : (n : ℕ) (p q : Piece) (off : ℕ) (others : Option (Fault × ℕ)) → first_fault p ≡ first_fault q → FirstBy q off → FoundBy (first_found (shifted n (first_fault p)) others) (n + off)
found_here n p q off others same h =
    let is : first_fault p ≡ Some (h.fault, h.offset) = same ∙ h.is in
    subst (λ (z : Option (Fault × ℕ)). FoundBy (first_found (shifted n z) others) (n + off)) (sym is) (omega (arith, h.by))

-- A piece that holds a fault is among these, so that the first of theirs is not behind it, or comes after them.
pub fault_after : (ps qs : List Piece) (q : Piece) (a b c : Place) (text rest other : List ℕ) (n : ℕ) (f : Fault) (off : ℕ)
    → Passes ps a text b rest → Passes (qs ++ q ∷ []) a text c other → Holds q f off → FoundBy (first_at n ps) (n + (size_of qs + off)) ⊎ (size_of ps ≤ size_of qs + off)
fault_after [] qs q a b c text rest other n f off x y h = inr (omega arith)
fault_after (p ∷ ps) [] q a b c text rest other n f off x y h =
    let same = one_piece p q _ _ a text x y in
    let at : n + (0 + off) ≡ n + off = omega arith in
    inl (subst (λ (m : ℕ). FoundBy (first_at n (p ∷ ps)) m) (sym at) (found_here n p q off (first_at (n + length (spelled p)) ps) same.fault (holds_first q f off h)))
fault_after (p ∷ ps) (r ∷ qs) q a b c text rest other n f off x y h =
    let same = one_piece p r _ _ a text x y in
    let size : length (spelled p) ≡ length (spelled r) = same.size in
    let on = fault_after ps qs q x.next b c x.more rest other (n + length (spelled p)) f off x.others (moved_on (qs ++ q ∷ []) x.next y.next c x.more y.more other same.next same.more y.others) h in
    by (first_fault p) refl size on
  where
    by : (z : Option (Fault × ℕ)) → first_fault p ≡ z → length (spelled p) ≡ length (spelled r)
        → FoundBy (first_at (n + length (spelled p)) ps) (n + length (spelled p) + (size_of qs + off)) ⊎ (size_of ps ≤ size_of qs + off)
        → FoundBy (first_found (shifted n (first_fault p)) (first_at (n + length (spelled p)) ps)) (n + (length (spelled r) + size_of qs + off)) ⊎ (length (spelled p) + size_of ps ≤ length (spelled r) + size_of qs + off)
    by (Some z) is size on = inl (subst (λ (w : Option (Fault × ℕ)). FoundBy (first_found (shifted n w) (first_at (n + length (spelled p)) ps)) (n + (length (spelled r) + size_of qs + off))) (sym is) (omega (arith, size, fault_within p z.0 z.1 (first_holds p z.0 z.1 is))))
    by None is size (inl g) =
        let at : n + length (spelled p) + (size_of qs + off) ≡ n + (length (spelled r) + size_of qs + off) = omega (arith, size) in
        inl (subst (λ (w : Option (Fault × ℕ)). FoundBy (first_found (shifted n w) (first_at (n + length (spelled p)) ps)) (n + (length (spelled r) + size_of qs + off))) (sym is) (subst (λ (m : ℕ). FoundBy (first_at (n + length (spelled p)) ps) m) at g))
    by None is size (inr g) = inr (omega (arith, size, g))

-- Where nothing leads out of what begins there, it is not before the end of pieces that lead outside.
pub open_after : (ps qs : List Piece) (a : Place) (text rest other : List ℕ) → Passes ps a text (Code []) rest → Passes qs a text (Code []) other
    → ((p : Piece) (rs : List Piece) (out : List ℕ) → Passes (p ∷ rs) (Code []) other (Code []) out → ⊥) → size_of ps ≤ size_of qs
open_after [] qs a text rest other x y h = omega arith
open_after (p ∷ ps) [] a text rest other x y h = absurd (h p ps rest (moved_on (p ∷ ps) (Code []) a (Code []) other text rest (sym y.0) (sym y.1) x))
open_after (p ∷ ps) (q ∷ qs) a text rest other x y h =
    let same = one_piece p q _ _ a text x y in
    let size : length (spelled p) ≡ length (spelled q) = same.size in
    omega (arith, size, open_after ps qs x.next x.more rest other x.others (moved_on qs x.next y.next (Code []) x.more y.more other same.next same.more y.others) h)

-- pieces without a first fault are good, and the other way round

pub none_found : (n : ℕ) (ps : List Piece) → first_at n ps ≡ None → AreGood ps
none_found n [] e = tt
none_found n (p ∷ ps) e = by (first_fault p) refl e (none_found (n + length (spelled p)) ps)
  where
    by : (z : Option (Fault × ℕ)) → first_fault p ≡ z → first_found (shifted n z) (first_at (n + length (spelled p)) ps) ≡ None → (first_at (n + length (spelled p)) ps ≡ None → AreGood ps) → AreGood (p ∷ ps)
    by (Some z) is e on = absurd (cc)
    by None is e on = (none_good p is, on e)

pub good_found : (n : ℕ) (ps : List Piece) → AreGood ps → first_at n ps ≡ None
good_found n [] g = refl
good_found n (p ∷ ps) g = ap (λ z. first_found (shifted n z) (first_at (n + length (spelled p)) ps)) (good_none p g.0) ∙ good_found (n + length (spelled p)) ps g.1

-- where the first fault stands
pub record Stands (ps : List Piece) (f : Fault) (at : ℕ) : Type 0 where
  pub front : List Piece
  pub last : Piece
  pub back : List Piece
  pub offset : ℕ
  pub is : ps ≡ (front ++ last ∷ []) ++ back
  pub holds : Holds last f offset
  pub place : at ≡ size_of front + offset

pub first_stands : (n : ℕ) (ps : List Piece) (f : Fault) (at : ℕ) → first_at n ps ≡ Some (f, at) → (k : ℕ) × (at ≡ n + k) × Stands ps f k
first_stands n [] f at e = absurd (cc)
first_stands n (p ∷ ps) f at e = by (first_fault p) refl e (first_stands (n + length (spelled p)) ps f at)
  where
    by : (z : Option (Fault × ℕ)) → first_fault p ≡ z → first_found (shifted n z) (first_at (n + length (spelled p)) ps) ≡ Some (f, at)
        → (first_at (n + length (spelled p)) ps ≡ Some (f, at) → (k : ℕ) × (at ≡ n + length (spelled p) + k) × Stands ps f k) → (k : ℕ) × (at ≡ n + k) × Stands (p ∷ ps) f k
    by (Some z) is e on =
        let two = one_fault (z.0, n + z.1) (f, at) e in
        let fault : z.0 ≡ f = ap (λ y. y.0) two in
        let place : n + z.1 ≡ at = ap (λ y. y.1) two in
        (z.1, sym place, record { front = []; last = p; back = ps; offset = z.1; is = refl; holds = subst (λ (g : Fault). Holds p g z.1) fault (first_holds p z.0 z.1 is); place = omega arith })
    by None is e on =
        let x = on e in
        let y = x.2 in
        (length (spelled p) + x.0, omega (arith, x.1), record { front = p ∷ y.front; last = y.last; back = y.back; offset = y.offset; is = ap (λ z. p ∷ z) y.is; holds = y.holds; place = omega (arith, y.place) })
