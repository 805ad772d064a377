-- What is made of two lists.
use Rattle.std.proofs.Common.{◌≡◌, ◌+◌, ℕ, suc, List, [], ◌∷◌, ◌++◌, length, refl, sym, ap, ◌∙◌, arith, append_assoc, append-nil}
use Rattle.event_reader.specs.Plans.{made}

-- one more of each
pub made_push : {A B X : Type 0} (make : ℕ → A → B → List X) (n : ℕ) (xs : List A) (ys : List B) (a : A) (b : B) → length xs ≡ length ys
    → made make n (xs ++ a ∷ []) (ys ++ b ∷ []) ≡ made make n xs ys ++ make (n + length xs) a b
made_push make n [] [] a b same = append-nil _ ∙ ap (λ m. make m a b) (omega arith)
made_push make n [] (y ∷ ys) a b same = absurd (omega arith)
made_push make n (x ∷ xs) [] a b same = absurd (omega arith)
made_push make n (x ∷ xs) (y ∷ ys) a b same =
    let here : suc n + length xs ≡ n + length (x ∷ xs) = omega arith in
    let rest = made_push make (suc n) xs ys a b (omega arith) in
    ap (λ zs. make n x y ++ zs) (rest ∙ ap (λ m. made make (suc n) xs ys ++ make m a b) here) ∙ sym (append_assoc (make n x y) (made make (suc n) xs ys) (make (n + length (x ∷ xs)) a b))
