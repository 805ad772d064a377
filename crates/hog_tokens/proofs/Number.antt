-- A number only grows.
use Rattle.std.proofs.Common.{◌≡◌, ℕ, ◌+◌, ◌*◌, ◌-◌, ◌/◌, ◌<◌, ◌≤◌, List, [], ◌∷◌, Bool, true, false, nat_lt, cond, sym, ap, ◌∙◌, arith}
use Rattle.std.specs.Prelude.{◌||◌}
use Rattle.std.proofs.lemmas.Bool.Decides.{nat_tests}
use Rattle.hog_grammar.specs.Bytes.{value_from, class, Digit, is_digit, is_digit_class, greatest}
use Rattle.hog_tokens.specs.Reading.{during, after}

pub grows : (n : ℕ) (cs : List ℕ) → n ≤ value_from n cs
grows n [] = omega arith
grows n (c ∷ cs) = omega (arith, grows (10 * n + (c - 48)) cs)

pub passes : (v c : ℕ) (ts us : List ℕ) (r : Bool) → class c ≡ Digit → ts ≡ c ∷ us → (greatest - (c - 48)) / 10 < v → (false || nat_lt greatest (value_from v (during is_digit ts))) ≡ r → true ≡ r
passes v c ts us r q is big so_far =
    let next = 10 * v + (c - 48) in
    let more = grows next (during is_digit us) in
    let past : greatest < value_from next (during is_digit us) = omega (arith, more, big) in
    let t : nat_lt greatest (value_from next (during is_digit us)) ≡ true = grind (arith, nat_tests) in
    sym t ∙ ap (λ b. nat_lt greatest (value_from v (cond b (c ∷ during is_digit us) []))) (sym (ap is_digit_class q)) ∙ ap (λ z. nat_lt greatest (value_from v (during is_digit z))) (sym is) ∙ so_far

pub goes : (c : ℕ) (ts us : List ℕ) → class c ≡ Digit → ts ≡ c ∷ us → after is_digit us ≡ after is_digit ts
goes c ts us q is = ap (λ b. cond b (after is_digit us) (c ∷ us)) (sym (ap is_digit_class q)) ∙ ap (after is_digit) (sym is)
