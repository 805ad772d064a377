-- Tests of bytes, and the bytes that pass one.
use Rattle.std.proofs.Common.{◌≡◌, ℕ, Bool, true, false, List, [], ◌∷◌, ◌++◌, cond, refl, sym, ap, ◌∙◌, subst, ◌⊎◌, inl, inr}
use Rattle.std.specs.Prelude.{◌||◌, ◌&&◌}
use Rattle.hog_grammar.specs.Bytes.{AllOf, Stops, Begins}
use Rattle.hog_tokens.specs.Reading.{during, after}

pub tells : (b : Bool) → (b ≡ true) ⊎ (b ≡ false)
tells true = inl refl
tells false = inr refl

pub or_false : (a b : Bool) → a || b ≡ false → (a ≡ false) × (b ≡ false)
or_false true b h = absurd (cc)
or_false false b h = (refl, h)

pub or_true : (a b : Bool) → a || b ≡ true → (a ≡ true) ⊎ (b ≡ true)
or_true true b h = inl refl
or_true false b h = inr h

pub and_true : (a b : Bool) → a && b ≡ true → (a ≡ true) × (b ≡ true)
and_true true b h = (refl, h)
and_true false b h = absurd (cc)

pub and_at : (a b : Bool) → a && b ≡ false → a ≡ true → b ≡ false
and_at true b h e = h
and_at false b h e = absurd (cc)

pub and_no : (a b : Bool) → b ≡ false → a && b ≡ false
and_no true b h = h
and_no false b h = refl

pub after_all : (p : ℕ → Bool) (xs rest : List ℕ) → AllOf p xs → Stops p rest → after p (xs ++ rest) ≡ rest
after_all p [] [] all stop = refl
after_all p [] (c ∷ rest) all stop = ap (λ b. cond b (after p rest) (c ∷ rest)) stop
after_all p (x ∷ xs) rest all stop = ap (λ b. cond b (after p (xs ++ rest)) (x ∷ (xs ++ rest))) all.0 ∙ after_all p xs rest all.1 stop

pub during_all : (p : ℕ → Bool) (xs rest : List ℕ) → AllOf p xs → Stops p rest → during p (xs ++ rest) ≡ xs
during_all p [] [] all stop = refl
during_all p [] (c ∷ rest) all stop = ap (λ b. cond b (c ∷ during p rest) []) stop
during_all p (x ∷ xs) rest all stop = ap (λ b. cond b (x ∷ during p (xs ++ rest)) []) all.0 ∙ ap (λ z. x ∷ z) (during_all p xs rest all.1 stop)

pub span : (p : ℕ → Bool) (ts : List ℕ) → ts ≡ during p ts ++ after p ts
span p [] = refl
span p (c ∷ cs) = elim (tells (p c)) [
  | inl h ↦ ap (λ z. c ∷ z) (span p cs) ∙ ap (λ b. cond b (c ∷ during p cs) [] ++ cond b (after p cs) (c ∷ cs)) (sym h)
  | inr h ↦ ap (λ b. cond b (c ∷ during p cs) [] ++ cond b (after p cs) (c ∷ cs)) (sym h)
]

pub all_during : (p : ℕ → Bool) (ts : List ℕ) → AllOf p (during p ts)
all_during p [] = tt
all_during p (c ∷ cs) = elim (tells (p c)) [
  | inl h ↦ subst (λ (b : Bool). AllOf p (cond b (c ∷ during p cs) [])) (sym h) (h, all_during p cs)
  | inr h ↦ subst (λ (b : Bool). AllOf p (cond b (c ∷ during p cs) [])) (sym h) tt
]

pub stops_after : (p : ℕ → Bool) (ts : List ℕ) → Stops p (after p ts)
stops_after p [] = tt
stops_after p (c ∷ cs) = elim (tells (p c)) [
  | inl h ↦ subst (λ (b : Bool). Stops p (cond b (after p cs) (c ∷ cs))) (sym h) (stops_after p cs)
  | inr h ↦ subst (λ (b : Bool). Stops p (cond b (after p cs) (c ∷ cs))) (sym h) h
]

-- the first byte decides
pub stops_or_begins : (p : ℕ → Bool) (ts : List ℕ) → Stops p ts ⊎ Begins p ts
stops_or_begins p [] = inl tt
stops_or_begins p (c ∷ cs) = elim (tells (p c)) [ inl h ↦ inr h | inr h ↦ inl h ]
