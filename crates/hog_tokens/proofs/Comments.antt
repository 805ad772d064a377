-- Block comments, and the reading of them.
use Rattle.std.proofs.Common.{◌≡◌, ℕ, false, List, [], ◌∷◌, ◌++◌, Some, None, cond, refl, sym, ap, ◌∙◌, arith, ◌⊎◌, inl, inr}
use Rattle.std.specs.Prelude.{◌==◌, ◌||◌, ◌&&◌}
use Rattle.std.proofs.lemmas.Bool.Decides.{nat_tests}
use Rattle.hog_grammar.specs.Bytes.{has_end}
use Rattle.hog_tokens.specs.Reading.{block_from}
use Rattle.hog_tokens.proofs.Tests.{tells, or_false, and_at, and_no}

-- p is the byte before
pub block_reads : (p : ℕ) (xs rest : List ℕ) → has_end (p ∷ (xs ++ 42 ∷ [])) ≡ false → block_from (p == 42) (xs ++ 42 ∷ 47 ∷ rest) ≡ Some rest
block_reads p [] rest no_end = elim (tells (p == 42)) [
  | inl h ↦ ap (λ b. block_from b (42 ∷ 47 ∷ rest)) h
  | inr h ↦ ap (λ b. block_from b (42 ∷ 47 ∷ rest)) h
]
block_reads p (x ∷ xs) rest no_end =
    let two = or_false ((p == 42) && (x == 47)) (has_end (x ∷ (xs ++ 42 ∷ []))) no_end in
    let ih = block_reads x xs rest two.1 in
    elim (tells (p == 42)) [
      | inl h ↦ ap (λ b. block_from b (x ∷ (xs ++ 42 ∷ 47 ∷ rest))) h ∙ ap (λ b. cond b (Some (xs ++ 42 ∷ 47 ∷ rest)) (block_from (x == 42) (xs ++ 42 ∷ 47 ∷ rest))) (and_at (p == 42) (x == 47) two.0 h) ∙ ih
      | inr h ↦ ap (λ b. block_from b (x ∷ (xs ++ 42 ∷ 47 ∷ rest))) h ∙ ih
    ]

pub record Inside (p : ℕ) (ts rest : List ℕ) : Type 0 where
  pub xs : List ℕ
  pub bytes : ts ≡ xs ++ 42 ∷ 47 ∷ rest
  pub no_end : has_end (p ∷ (xs ++ 42 ∷ [])) ≡ false

some_is : (a b : List ℕ) → Some a ≡ Some b → a ≡ b
some_is a b h = cc

block_next : (p c : ℕ) (cs rest : List ℕ) → ((p == 42) && (c == 47)) ≡ false → ((c ≡ 42) × (cs ≡ 47 ∷ rest)) ⊎ Inside c cs rest → Inside p (c ∷ cs) rest
block_next p c cs rest apart (inl e) = record { xs = []; bytes = ap (λ z. z ∷ cs) e.0 ∙ ap (λ z. 42 ∷ z) e.1; no_end = ap (λ b. b || false) (and_no (p == 42) false refl) }
block_next p c cs rest apart (inr i) = record { xs = c ∷ i.xs; bytes = ap (λ z. c ∷ z) i.bytes; no_end = ap (λ b. b || has_end (c ∷ (i.xs ++ 42 ∷ []))) apart ∙ i.no_end }

pub block_sound : (p : ℕ) (ts rest : List ℕ) → block_from (p == 42) ts ≡ Some rest → ((p ≡ 42) × (ts ≡ 47 ∷ rest)) ⊎ Inside p ts rest
block_sound p [] rest e = elim (tells (p == 42)) [
  | inl h ↦ (let e2 : None ≡ Some rest = ap (λ b. block_from b []) (sym h) ∙ e in absurd (cc))
  | inr h ↦ (let e2 : None ≡ Some rest = ap (λ b. block_from b []) (sym h) ∙ e in absurd (cc))
]
block_sound p (c ∷ cs) rest e = elim (tells (p == 42)) [
  | inl h ↦ (let e2 : cond (c == 47) (Some cs) (block_from (c == 42) cs) ≡ Some rest = ap (λ b. block_from b (c ∷ cs)) (sym h) ∙ e in
      elim (tells (c == 47)) [
        | inl g ↦ (let q : c ≡ 47 = grind (arith, nat_tests) in
            let r : p ≡ 42 = grind (arith, nat_tests) in
            let e3 : Some cs ≡ Some rest = ap (λ b. cond b (Some cs) (block_from (c == 42) cs)) (sym g) ∙ e2 in
            inl (r, ap (λ z. z ∷ cs) q ∙ ap (λ z. 47 ∷ z) (some_is cs rest e3)))
        | inr g ↦ (let e3 : block_from (c == 42) cs ≡ Some rest = ap (λ b. cond b (Some cs) (block_from (c == 42) cs)) (sym g) ∙ e2 in
            inr (block_next p c cs rest (and_no (p == 42) (c == 47) g) (block_sound c cs rest e3)))
      ])
  | inr h ↦ (let e2 : block_from (c == 42) cs ≡ Some rest = ap (λ b. block_from b (c ∷ cs)) (sym h) ∙ e in
      inr (block_next p c cs rest (ap (λ b. b && (c == 47)) h) (block_sound c cs rest e2)))
]

pub end_zero : (ys : List ℕ) → has_end (0 ∷ ys) ≡ has_end ys
end_zero [] = refl
end_zero (y ∷ ys) = refl
