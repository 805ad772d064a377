-- A line that is put together from the left.
use Rattle.std.proofs.Common.{◌≡◌, ℕ, List, [], ◌∷◌, ◌++◌, ap, ◌∙◌, append_assoc}

step : (s t u a b : List ℕ) → t ≡ s ++ a → u ≡ t ++ b → u ≡ s ++ (a ++ b)
step s t u a b p q = q ∙ ap (λ x. x ++ b) p ∙ append_assoc s a b

pub seven : (w s1 s2 s3 s4 s5 s6 s7 s8 a b c d e f g : List ℕ)
    → s1 ≡ w ++ a → s2 ≡ s1 ++ b → s3 ≡ s2 ++ c → s4 ≡ s3 ++ d → s5 ≡ s4 ++ e → s6 ≡ s5 ++ f → s7 ≡ s6 ++ g → s8 ≡ s7 ++ 10 ∷ []
    → s8 ≡ (w ++ (a ++ (b ++ (c ++ (d ++ (e ++ (f ++ g))))))) ++ 10 ∷ []
seven w s1 s2 s3 s4 s5 s6 s7 s8 a b c d e f g p1 p2 p3 p4 p5 p6 p7 p8 =
    let q6 : s7 ≡ s5 ++ (f ++ g) = step s5 s6 s7 f g p6 p7 in
    let q5 : s7 ≡ s4 ++ (e ++ (f ++ g)) = step s4 s5 s7 e (f ++ g) p5 q6 in
    let q4 : s7 ≡ s3 ++ (d ++ (e ++ (f ++ g))) = step s3 s4 s7 d (e ++ (f ++ g)) p4 q5 in
    let q3 : s7 ≡ s2 ++ (c ++ (d ++ (e ++ (f ++ g)))) = step s2 s3 s7 c (d ++ (e ++ (f ++ g))) p3 q4 in
    let q2 : s7 ≡ s1 ++ (b ++ (c ++ (d ++ (e ++ (f ++ g))))) = step s1 s2 s7 b (c ++ (d ++ (e ++ (f ++ g)))) p2 q3 in
    let q1 : s7 ≡ w ++ (a ++ (b ++ (c ++ (d ++ (e ++ (f ++ g)))))) = step w s1 s7 a (b ++ (c ++ (d ++ (e ++ (f ++ g))))) p1 q2 in
    p8 ∙ ap (λ x. x ++ 10 ∷ []) q1
