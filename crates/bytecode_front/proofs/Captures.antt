-- One turn of a loop over captures.
use Rattle.std.proofs.Common.{◌≡◌, ℕ, suc, ◌+◌, ◌-◌, ◌<◌, ◌≤◌, List, [], ◌∷◌, ◌++◌, append_assoc, Option, Some, None, Bool, true, false, length, get_or, drop, take, refl, sym, ap, ap₂, ◌∙◌, arith}
use Rattle.std.proofs.lemmas.List.{take_all}
use Rattle.std.specs.Prelude.{is_some}
use Rattle.serde_json.specs.Data.{Data}
use Rattle.serde_json.specs.Find.{as_bool}
use Rattle.serde_json.specs.View.{view}
use Rattle.serde_json.specs.declared.value.Value.{Value}
use Rattle.hog_ops.specs.declared.capture.Capture.{Capture}
use Rattle.bytecode_front.specs.Front.{small_in, capture_by, with_more, captures_in}
use Rattle.bytecode_front.specs.Views.{views}

left : (n k : ℕ) → k < n → n - k ≡ suc (n - (k + 1))
left n k h = omega arith

pub captures_none : (n k : ℕ) → k < n → captures_in (n - k) [] ≡ None
captures_none n k h = ap (λ m. captures_in m []) (left n k h)

pub captures_one : (n k : ℕ) (d : Data) → k < n → captures_in (n - k) (d ∷ []) ≡ None
captures_one n k d h = ap (λ m. captures_in m (d ∷ [])) (left n k h)

pub captures_end : (n k : ℕ) (ds : List Data) → n ≤ k → captures_in (n - k) ds ≡ Some []
captures_end n k ds h = let none : n - k ≡ 0 = omega arith in ap (λ m. captures_in m ds) none

-- fewer than two elements hold no capture
pub captures_few : (n k : ℕ) (vs : List Value) → k < n → length vs < 2 → captures_in (n - k) (views vs) ≡ None
captures_few n k [] h few = captures_none n k h
captures_few n k (v ∷ []) h few = captures_one n k (view v) h
captures_few n k (v ∷ w ∷ vs) h few = absurd (omega arith)

open_two : (xs : List Value) (t n : Value) → 2 ≤ length xs → t ≡ get_or xs 0 t → n ≡ get_or xs 1 n → xs ≡ t ∷ n ∷ take (length xs - 2) (drop 2 xs)
open_two [] t n h a b = absurd (omega arith)
open_two (x ∷ []) t n h a b = absurd (omega arith)
open_two (x ∷ y ∷ xs) t n h a b = ap₂ (λ p q. p ∷ q ∷ xs) (sym a) (sym b) ∙ ap (λ zs. t ∷ n ∷ zs) (sym (take_all (suc (suc (length xs)) - 2) xs (omega arith)))

-- one turn
pub captures_turn : (n k : ℕ) (xs : List Value) (t i : Value) → k < n → 2 ≤ length xs → t ≡ get_or xs 0 t → i ≡ get_or xs 1 i
    → captures_in (n - k) (views xs) ≡ with_more (capture_by (as_bool (view t)) (small_in (view i))) (captures_in (n - (k + 1)) (views (take (length xs - 2) (drop 2 xs))))
captures_turn n k xs t i h two a b =
    let rest = take (length xs - 2) (drop 2 xs) in
    ap (λ ys. captures_in (n - k) (views ys)) (open_two xs t i two a b) ∙ ap (λ m. captures_in m (view t ∷ view i ∷ views rest)) (left n k h)

pub none_from : {A : Type 0} (o : Option A) → is_some o ≡ false → o ≡ None
none_from None h = refl
none_from (Some x) h = absurd cc

-- a capture that is there doesn't change whether those behind it are
pub more_some : (o : Option Capture) (p : Option (List Capture)) → is_some o ≡ true → is_some (with_more o p) ≡ is_some p
more_some None p h = absurd cc
more_some (Some c) None h = refl
more_some (Some c) (Some cs) h = refl

-- captures, and those behind them
abbrev pub prepend : List Capture → Option (List Capture) → Option (List Capture)
prepend xs None = None
prepend xs (Some cs) = Some (xs ++ cs)

pub prepend_none : (o : Option (List Capture)) → o ≡ prepend [] o
prepend_none None = refl
prepend_none (Some cs) = refl

pub prepend_more : (xs : List Capture) (c : Capture) (o : Option (List Capture)) → prepend xs (with_more (Some c) o) ≡ prepend (xs ++ c ∷ []) o
prepend_more xs c None = refl
prepend_more xs c (Some cs) = ap Some (sym (append_assoc xs (c ∷ []) cs))

-- where captures are to be there, some are
pub not_none : {C : Type 0} (xs : List Capture) (o p : Option (List Capture)) → is_some o ≡ true → o ≡ prepend xs p → p ≡ None → C
not_none xs o None there is none = let same : is_some o ≡ false = ap is_some is in absurd cc
not_none xs o (Some cs) there is none = absurd cc
