-- How many tokens have ended at a place.
use Rattle.std.proofs.Common.{◌≡◌, ℕ, zero, suc, ◌+◌, ◌<◌, cond, ap, ◌≤◌, Bool, true, List, [], ◌∷◌, length, arith}
use Rattle.std.specs.Prelude.{get_or, nat_le}
use Rattle.std.proofs.lemmas.Bool.Decides.{nat_tests}
use Rattle.std.proofs.lemmas.List.Sums.{sum_by-cons}
use Rattle.hog_grammar.specs.declared.token.Token.{Token}
use Rattle.hog_grammar.specs.Pieces.{AreInOrder}
use Rattle.hog_parser.specs.Before.{tokens_before}

begins_later : (from end : ℕ) (ts : List Token) (i : ℕ) (d : Token) → AreInOrder from ts end → i < length ts → from ≤ (get_or ts i d).from
begins_later from end [] i d h lt = absurd (omega (arith, lt))
begins_later from end (t ∷ ts) zero d h lt = h.0
begins_later from end (t ∷ ts) (suc i) d h lt = omega (arith, h.0, h.1, begins_later t.to end ts i d h.2 (omega (arith, lt)))

in_order_end : (from end : ℕ) (ts : List Token) → AreInOrder from ts end → from ≤ end
in_order_end from end [] h = h
in_order_end from end (t ∷ ts) h = omega (arith, h.0, h.1, in_order_end t.to end ts h.2)

abbrev counted_if : Bool → ℕ
counted_if b = cond b 1 0

one_ended : (at : ℕ) (t : Token) (ts : List Token) → t.to ≤ at → tokens_before at (t ∷ ts) ≡ suc (tokens_before at ts)
one_ended at t ts low =
    let test : nat_le t.to at ≡ true = grind (arith, nat_tests) in
    let counted : tokens_before at (t ∷ ts) ≡ counted_if (nat_le t.to at) + tokens_before at ts = sum_by-cons (λ (u : Token). counted_if (nat_le u.to at)) t ts in
    let one : counted_if (nat_le t.to at) ≡ 1 = ap counted_if test in
    omega (arith, counted, one)

pub ended_before : (from end : ℕ) (ts : List Token) (i : ℕ) (d : Token) → AreInOrder from ts end → i < length ts → i ≤ tokens_before (get_or ts i d).from ts
ended_before from end [] i d h lt = absurd (omega (arith, lt))
ended_before from end (t ∷ ts) zero d h lt = omega arith
ended_before from end (t ∷ ts) (suc i) d h lt =
    let j : i < length ts = omega (arith, lt) in
    let later = begins_later t.to end ts i d h.2 j in
    omega (arith, one_ended (get_or ts i d).from t ts later, ended_before t.to end ts i d h.2 j)

pub all_ended : (from end : ℕ) (ts : List Token) → AreInOrder from ts end → length ts ≤ tokens_before end ts
all_ended from end [] h = omega arith
all_ended from end (t ∷ ts) h =
    omega (arith, one_ended end t ts (in_order_end t.to end ts h.2), all_ended t.to end ts h.2)
