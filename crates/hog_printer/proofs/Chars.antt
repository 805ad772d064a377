-- Texts are quoted character by character.
use Rattle.std.proofs.Common.{◌≡◌, ℕ, ◌<◌, ◌≤◌, Bool, true, false, cond, ltb, List, [], ◌∷◌, ◌++◌, map, refl, sym, ap, ◌∙◌, append_assoc, append-nil, arith, ◌⊎◌, inl, inr}
use Rattle.std.proofs.lemmas.Str.{encode_ascii}
use Rattle.std.proofs.lemmas.Bool.Decides.{nat_tests}
use lib.Utf8.{encode, encodes}
use Rattle.hog_grammar.specs.Pieces.{Inner, Escape, Plain, inside, Quotes}
use Rattle.hog_tokens.proofs.Tests.{tells}
use Rattle.hog_printer.specs.Print.{written, quoted}
use Rattle.hog_printer.proofs.Quoted.{Written, by_escape, by_itself, how_written}

inside-append : (us vs : List Inner) → inside (us ++ vs) ≡ inside us ++ inside vs
inside-append [] vs = refl
inside-append (Plain c ∷ us) vs = ap (λ z. c ∷ z) (inside-append us vs)
inside-append (Escape c ∷ us) vs = ap (λ z. 92 ∷ c ∷ z) (inside-append us vs)

written-append : (q : Quotes) (xs ys : List ℕ) → map (written q) (xs ++ ys) ≡ map (written q) xs ++ map (written q) ys
written-append q [] ys = refl
written-append q (x ∷ xs) ys = ap (λ z. written q x ∷ z) (written-append q xs ys)

pub quoted-append : (q : Quotes) (xs ys : List ℕ) → quoted q (xs ++ ys) ≡ quoted q xs ++ quoted q ys
unfolding quoted
quoted-append q xs ys = ap inside (written-append q xs ys) ∙ inside-append (map (written q) xs) (map (written q) ys)

abbrev AllHigh : List ℕ → Type 0
AllHigh [] = Unit {0}
AllHigh (c ∷ cs) = (128 ≤ c) × AllHigh cs

either : (b : Bool) (xs ys : List ℕ) → (b ≡ false → AllHigh ys) → (b ≡ true → AllHigh xs) → AllHigh (cond b xs ys)
either true xs ys f t = t refl
either false xs ys f t = f refl

not_low : (c : ℕ) → 128 ≤ c → ltb c 128 ≡ true → ⊥
not_low c h e = grind (arith, nat_tests)

high_encode : (c : ℕ) → 128 ≤ c → AllHigh (encode c)
unfolding encode
high_encode c h =
    either (ltb c 128) _ _
    (λ _. either (ltb c 2048) _ _
    (λ _. either (ltb c 65536) _ _ (λ _. (omega arith, (omega arith, (omega arith, (omega arith, tt))))) (λ _. (omega arith, (omega arith, (omega arith, tt)))))
    (λ _. (omega arith, (omega arith, tt))))
    (λ e. absurd (not_low c h e))

high_plain : (q : Quotes) (c : ℕ) → 128 ≤ c → Written q c → written q c ≡ Plain c
high_plain q c h (by_escape e is same good low small) = absurd (omega arith)
high_plain q c h (by_itself is plain end) = is

high_quoted : (q : Quotes) (cs : List ℕ) → AllHigh cs → inside (map (written q) cs) ≡ cs
high_quoted q [] all = refl
high_quoted q (c ∷ cs) all = ap (λ u. inside (u ∷ map (written q) cs)) (high_plain q c all.0 (how_written q c)) ∙ ap (λ z. c ∷ z) (high_quoted q cs all.1)

below : (c : ℕ) → (c < 128) ⊎ (128 ≤ c)
below c = elim (tells (ltb c 128)) [
  | inl h ↦ inl (grind (arith, nat_tests))
  | inr h ↦ inr (grind (arith, nat_tests))
]

-- a character of ASCII
pub low_char : (q : Quotes) (c : ℕ) → c < 128 → quoted q (encode c) ≡ inside (written q c ∷ [])
unfolding quoted
low_char q c low = ap (λ z. inside (map (written q) z)) (encode_ascii c low)

-- a character that stands for itself
pub plain_char : (q : Quotes) (c : ℕ) → written q c ≡ Plain c → quoted q (encode c) ≡ encode c
unfolding quoted
plain_char q c is = elim (below c) [
  | inl low ↦ ap (λ z. inside (map (written q) z)) (encode_ascii c low) ∙ ap (λ u. inside (u ∷ [])) is ∙ sym (encode_ascii c low)
  | inr high ↦ high_quoted q (encode c) (high_encode c high)
]

encodes-push : (cs : List ℕ) (c : ℕ) → encodes (cs ++ c ∷ []) ≡ encodes cs ++ encode c
encodes-push [] c = append-nil (encode c)
encodes-push (d ∷ cs) c = ap (λ z. encode d ++ z) (encodes-push cs c) ∙ sym (append_assoc (encode d) (encodes cs) (encode c))

pub quoted_push : (q : Quotes) (cs : List ℕ) (c : ℕ) → quoted q (encodes (cs ++ c ∷ [])) ≡ quoted q (encodes cs) ++ quoted q (encode c)
quoted_push q cs c = ap (quoted q) (encodes-push cs c) ∙ quoted-append q (encodes cs) (encode c)

pub same_map : (xs : List ℕ) → map (λ c. c) xs ≡ xs
same_map [] = refl
same_map (x ∷ xs) = ap (λ z. x ∷ z) (same_map xs)

pub quoted_nothing : (q : Quotes) (a : List ℕ) → a ≡ a ++ quoted q []
unfolding quoted
quoted_nothing q a = sym (append-nil a)
