-- Characters in quotes, and the reading of them.
use Rattle.std.proofs.Common.{◌≡◌, ℕ, suc, ◌-◌, false, List, [], ◌∷◌, ◌++◌, Option, Some, None, cond, refl, sym, ap, ◌∙◌, subst, arith, inl, inr}
use Rattle.std.specs.Prelude.{◌==◌}
use Rattle.std.proofs.lemmas.Bool.Decides.{nat_tests}
use Rattle.hog_grammar.specs.Bytes.{Begins}
use Rattle.hog_grammar.specs.Pieces.{Inner, Plain, Escape, inside, Quotes, OfText, OfTemplate, is_end, is_escape, AreInside}
use Rattle.hog_tokens.specs.Reading.{Run, run_from, escape_from, first_of}
use Rattle.hog_tokens.proofs.Tests.{tells}

-- the place of the first bad backslash, where the first of these stands at that place
abbrev pub bad_from : Quotes → ℕ → List Inner → Option ℕ
bad_from q n [] = None
bad_from q n (Plain c ∷ us) = bad_from q (suc n) us
bad_from q n (Escape c ∷ us) = cond (is_escape q c) (bad_from q (suc (suc n)) us) (Some n)

abbrev pub either : Option ℕ → Option ℕ → Option ℕ
either (Some b) other = Some b
either None other = other

abbrev run : List ℕ → Option ℕ → Option Run
run rest bad = Some (record { rest = rest; bad = bad })

first_either : (bad : Option ℕ) (n : ℕ) (other : Option ℕ) → either (first_of bad n) other ≡ either bad (Some n)
first_either (Some b) n other = refl
first_either None n other = refl

no_end : (q : Quotes) → is_end q 92 ≡ false
no_end OfText = refl
no_end OfTemplate = refl

-- Characters that end are read so.
pub run_reads : (q : Quotes) (us : List Inner) (n : ℕ) (bad : Option ℕ) (rest : List ℕ) → AreInside q us → Begins (is_end q) rest → run_from q n bad (inside us ++ rest) ≡ run rest (either bad (bad_from q n us))
run_reads q [] n bad [] all end = absurd end
run_reads q [] n None (c ∷ rest) all end = ap (λ b. cond b (run (c ∷ rest) None) (cond (c == 92) (escape_from q (suc n) None rest) (run_from q (suc n) None rest))) end
run_reads q [] n (Some k) (c ∷ rest) all end = ap (λ b. cond b (run (c ∷ rest) (Some k)) (cond (c == 92) (escape_from q (suc n) (Some k) rest) (run_from q (suc n) (Some k) rest))) end
run_reads q (Plain c ∷ us) n bad rest all end =
    let ts = inside us ++ rest in
    let other = cond (c == 92) (escape_from q (suc n) bad ts) (run_from q (suc n) bad ts) in
    ap (λ b. cond b (run (c ∷ ts) bad) other) all.1 ∙ ap (λ b. cond b (escape_from q (suc n) bad ts) (run_from q (suc n) bad ts)) all.0 ∙ run_reads q us (suc n) bad rest all.2 end
run_reads q (Escape c ∷ us) n bad rest all end =
    let ts = inside us ++ rest in
    let good = run_from q (suc (suc n)) bad ts in
    let poor = run_from q (suc (suc n)) (first_of bad (suc n - 1)) ts in
    let back : suc n - 1 ≡ n = omega arith in
    ap (λ b. cond b (run (92 ∷ c ∷ ts) bad) (cond (is_escape q c) good poor)) (no_end q) ∙ elim (tells (is_escape q c)) [
      | inl h ↦ ap (λ b. cond b good poor) h ∙ run_reads q us (suc (suc n)) bad rest all end ∙ ap (λ b. run rest (either bad (cond b (bad_from q (suc (suc n)) us) (Some n)))) (sym h)
      | inr h ↦ ap (λ b. cond b good poor) h ∙ run_reads q us (suc (suc n)) (first_of bad (suc n - 1)) rest all end
          ∙ ap (run rest) (first_either bad (suc n - 1) (bad_from q (suc (suc n)) us)) ∙ ap (λ m. run rest (either bad (Some m))) back
          ∙ ap (λ b. run rest (either bad (cond b (bad_from q (suc (suc n)) us) (Some n)))) (sym h)
    ]

pub record Characters (q : Quotes) (ts rest : List ℕ) : Type 0 where
  pub us : List Inner
  pub all : AreInside q us
  pub bytes : ts ≡ inside us ++ rest
  pub end : Begins (is_end q) rest

some_run : (a b : Run) → Some a ≡ Some b → a ≡ b
some_run a b h = cc

escaped : (q : Quotes) (c d : ℕ) (ds rest : List ℕ) → c ≡ 92 → Characters q ds rest → Characters q (c ∷ d ∷ ds) rest
escaped q c d ds rest is f = record { us = Escape d ∷ f.us; all = f.all; bytes = ap (λ z. z ∷ d ∷ ds) is ∙ ap (λ z. 92 ∷ d ∷ z) f.bytes; end = f.end }

mutual
  -- What is read are such characters.
  pub run_sound : (q : Quotes) (ts : List ℕ) (n : ℕ) (bad : Option ℕ) (r : Run) → run_from q n bad ts ≡ Some r → Characters q ts r.rest
  run_sound q [] n bad r e = absurd (cc)
  run_sound q (c ∷ cs) n bad r e =
      let on = cond (c == 92) (escape_from q (suc n) bad cs) (run_from q (suc n) bad cs) in
      elim (tells (is_end q c)) [
        | inl h ↦ (let is : record { rest = c ∷ cs; bad = bad } ≡ r = some_run _ r (ap (λ b. cond b (run (c ∷ cs) bad) on) (sym h) ∙ e) in
            subst (λ (x : Run). Characters q (c ∷ cs) x.rest) is (record { us = []; all = tt; bytes = refl; end = h }))
        | inr h ↦ (let e2 : on ≡ Some r = ap (λ b. cond b (run (c ∷ cs) bad) on) (sym h) ∙ e in
            elim (tells (c == 92)) [
              | inl g ↦ (let is : c ≡ 92 = grind (arith, nat_tests) in
                  escape_sound q c cs (suc n) bad r is (ap (λ b. cond b (escape_from q (suc n) bad cs) (run_from q (suc n) bad cs)) (sym g) ∙ e2))
              | inr g ↦ (let f = run_sound q cs (suc n) bad r (ap (λ b. cond b (escape_from q (suc n) bad cs) (run_from q (suc n) bad cs)) (sym g) ∙ e2) in
                  record { us = Plain c ∷ f.us; all = (g, h, f.all); bytes = ap (λ z. c ∷ z) f.bytes; end = f.end })
            ])
      ]

  pub escape_sound : (q : Quotes) (c : ℕ) (ts : List ℕ) (n : ℕ) (bad : Option ℕ) (r : Run) → c ≡ 92 → escape_from q n bad ts ≡ Some r → Characters q (c ∷ ts) r.rest
  escape_sound q c [] n bad r is e = absurd (cc)
  escape_sound q c (d ∷ ds) n bad r is e =
      let good = run_from q (suc n) bad ds in
      let poor = run_from q (suc n) (first_of bad (n - 1)) ds in
      elim (tells (is_escape q d)) [
        | inl h ↦ escaped q c d ds r.rest is (run_sound q ds (suc n) bad r (ap (λ b. cond b good poor) (sym h) ∙ e))
        | inr h ↦ escaped q c d ds r.rest is (run_sound q ds (suc n) (first_of bad (n - 1)) r (ap (λ b. cond b good poor) (sym h) ∙ e))
      ]
