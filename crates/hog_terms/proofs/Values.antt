-- The loops over the bytes of numbers and texts.
use Rattle.std.proofs.Common.{◌≡◌, ℕ, ◌+◌, ◌-◌, ◌*◌, ◌<◌, ◌≤◌, Bool, true, false, List, [], ◌∷◌, ◌++◌, length, get_or, drop, cond, sym, ap, ◌∙◌, append_assoc, arith}
use Rattle.std.specs.Prelude.{◌==◌}
use Rattle.std.proofs.lemmas.List.{drop_more}
use Rattle.hog_grammar.specs.Bytes.{value_from}
use Rattle.hog_grammar.specs.Terminal.{escaped, meant, meant_after}

value_grows : (n : ℕ) (cs : List ℕ) → n ≤ value_from n cs
value_grows n [] = omega arith
value_grows n (c ∷ cs) = omega (arith, value_grows (10 * n + (c - 48)) cs)

pub value_goes : (n : ℕ) (cs : List ℕ) (i : ℕ) → i < length cs → value_from n (drop i cs) ≡ value_from (10 * n + (get_or cs i 0 - 48)) (drop (i + 1) cs)
value_goes n cs i h = ap (value_from n) (drop_more cs i 0 h)

pub value_within : (n : ℕ) (cs : List ℕ) (i most : ℕ) → i < length cs → value_from n (drop i cs) ≤ most → 10 * n + (get_or cs i 0 - 48) ≤ most
value_within n cs i most h low = omega (arith, value_goes n cs i h, value_grows (10 * n + (get_or cs i 0 - 48)) (drop (i + 1) cs))

-- what characters mean, where a backslash may stand before them
abbrev pub meant_by : Bool → List ℕ → List ℕ
meant_by true cs = meant_after cs
meant_by false cs = meant cs

pub after_one : (front : List ℕ) (cs : List ℕ) (i : ℕ) (all : List ℕ) → i < length cs → front ++ meant_by true (drop i cs) ≡ all → (front ++ escaped (get_or cs i 0) ∷ []) ++ meant_by false (drop (i + 1) cs) ≡ all
after_one front cs i all h same = append_assoc front (escaped (get_or cs i 0) ∷ []) (meant (drop (i + 1) cs)) ∙ ap (λ z. front ++ meant_after z) (sym (drop_more cs i 0 h)) ∙ same

plain_is : (c : ℕ) (cs : List ℕ) → (c == 92) ≡ false → meant (c ∷ cs) ≡ c ∷ meant cs
plain_is c cs h = ap (λ b. cond b (meant_after cs) (c ∷ meant cs)) h

back_is : (c : ℕ) (cs : List ℕ) → (c == 92) ≡ true → meant (c ∷ cs) ≡ meant_after cs
back_is c cs h = ap (λ b. cond b (meant_after cs) (c ∷ meant cs)) h

pub plain_one : (front : List ℕ) (cs : List ℕ) (i : ℕ) (all : List ℕ) → i < length cs → (get_or cs i 0 == 92) ≡ false → front ++ meant_by false (drop i cs) ≡ all → (front ++ get_or cs i 0 ∷ []) ++ meant_by false (drop (i + 1) cs) ≡ all
plain_one front cs i all h not same = append_assoc front (get_or cs i 0 ∷ []) (meant (drop (i + 1) cs)) ∙ ap (λ z. front ++ z) (sym (ap meant (drop_more cs i 0 h) ∙ plain_is (get_or cs i 0) (drop (i + 1) cs) not)) ∙ same

pub back_one : (front : List ℕ) (cs : List ℕ) (i : ℕ) (all : List ℕ) → i < length cs → (get_or cs i 0 == 92) ≡ true → front ++ meant_by false (drop i cs) ≡ all → front ++ meant_by true (drop (i + 1) cs) ≡ all
back_one front cs i all h is same = ap (λ z. front ++ z) (sym (ap meant (drop_more cs i 0 h) ∙ back_is (get_or cs i 0) (drop (i + 1) cs) is)) ∙ same
