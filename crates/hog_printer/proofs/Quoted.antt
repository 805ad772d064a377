-- Texts in quotes mean what they were.
use Rattle.std.proofs.Common.{◌≡◌, ◌≢◌, ℕ, ◌<◌, Bool, true, false, cond, List, [], ◌∷◌, ◌++◌, map, refl, sym, ap, ◌∙◌, subst, append_assoc, append-nil, arith, inl, inr}
use Rattle.std.specs.Prelude.{◌==◌, ◌||◌}
use Rattle.std.specs.Str.{IsUtf8}
use Rattle.std.proofs.lemmas.Str.{IsUtf8-append}
use Rattle.std.proofs.lemmas.Bool.Decides.{Decides-eqb}
use Rattle.hog_grammar.specs.Bytes.{is_text_escape, Begins}
use Rattle.hog_grammar.specs.Pieces as i
use Rattle.hog_grammar.specs.Pieces.{Inner, Escape, Plain, inside, Quotes, OfText, OfTemplate, is_end, is_escape, AreInside, AreEscapes, Code, Template}
use Rattle.hog_grammar.specs.Terminal.{escaped, meant, meant_after, unquoted}
use Rattle.hog_grammar.specs.Terminal as k
use Rattle.hog_grammar.proofs.Meaning.{unquoted_text}
use Rattle.hog_grammar.proofs.Utf8.{split_before, split_after, all_low}
use Rattle.hog_tokens.proofs.Tests.{tells, or_false, or_true}
use Rattle.hog_printer.specs.Print.{is_marked, written, quoted}
use Rattle.hog_printer.proofs.Pieces.{Prints, Any}

-- how a byte is written
pub data Written (q : Quotes) (c : ℕ) : Type 0 where
  -- by that escape
  by_escape : (e : ℕ) → written q c ≡ Escape e → escaped e ≡ c → is_escape q e ≡ true → e < 128 → c < 128 → Written q c
  -- by itself
  by_itself : written q c ≡ Plain c → c == 92 ≡ false → is_end q c ≡ false → Written q c

eq_of : (c d : ℕ) → (c == d) ≡ true → c ≡ d
eq_of c d e = (Decides-eqb c d).0 e

low_of : (c d : ℕ) → c ≡ d → d < 128 → c < 128
low_of c d e h = omega arith

escapes : (q : Quotes) → (is_escape q 110 ≡ true) × (is_escape q 114 ≡ true) × (is_escape q 116 ≡ true) × (is_escape q 48 ≡ true) × (is_escape q 92 ≡ true) × (is_escape q 39 ≡ true)
unfolding is_text_escape
escapes OfText = (refl, refl, refl, refl, refl, refl)
escapes OfTemplate = (refl, refl, refl, refl, refl, refl)

brace_escapes : is_escape OfTemplate 123 ≡ true
unfolding is_text_escape
brace_escapes = refl

-- the marked bytes are written after a backslash as they are
record Marked (q : Quotes) (c : ℕ) : Type 0 where
  itself : escaped c ≡ c
  escape : is_escape q c ≡ true
  low : c < 128

marked_at : (q : Quotes) (c d : ℕ) → c ≡ d → escaped d ≡ d → is_escape q d ≡ true → d < 128 → Marked q c
marked_at q c d e same escape low = subst (Marked q) (sym e) (record { itself = same; escape = escape; low = low })

marked : (q : Quotes) (c : ℕ) → is_marked q c ≡ true → Marked q c
marked OfText c h = elim (or_true (c == 92) (c == 39) h) [
  | inl e ↦ marked_at OfText c 92 (eq_of c 92 e) refl (escapes OfText).4 (omega arith)
  | inr e ↦ marked_at OfText c 39 (eq_of c 39 e) refl (escapes OfText).5 (omega arith)
]
marked OfTemplate c h = elim (or_true (c == 92 || c == 39) (c == 123) h) [
  | inl x ↦ (elim (or_true (c == 92) (c == 39) x) [
    | inl e ↦ marked_at OfTemplate c 92 (eq_of c 92 e) refl (escapes OfTemplate).4 (omega arith)
    | inr e ↦ marked_at OfTemplate c 39 (eq_of c 39 e) refl (escapes OfTemplate).5 (omega arith)
  ])
  | inr e ↦ marked_at OfTemplate c 123 (eq_of c 123 e) refl brace_escapes (omega arith)
]

unmarked : (q : Quotes) (c : ℕ) → is_marked q c ≡ false → (c == 92 ≡ false) × (is_end q c ≡ false)
unmarked OfText c h = or_false (c == 92) (c == 39) h
unmarked OfTemplate c h =
    let two = or_false (c == 92 || c == 39) (c == 123) h in
    let one = or_false (c == 92) (c == 39) two.0 in
    (one.0, ap (λ b. b || (c == 123)) one.1 ∙ two.1)

-- the choice at a test that is known
taken : {A : Type 0} (b : Bool) (x y : A) → b ≡ true → cond b x y ≡ x
taken b x y e = ap (λ z. cond z x y) e

passed : {A : Type 0} (b : Bool) (x y : A) → b ≡ false → cond b x y ≡ y
passed b x y e = ap (λ z. cond z x y) e

abbrev last : Quotes → ℕ → Inner
last q c = cond (is_marked q c) (Escape c) (Plain c)

abbrev fourth : Quotes → ℕ → Inner
fourth q c = cond (c == 0) (Escape 48) (last q c)

abbrev third : Quotes → ℕ → Inner
third q c = cond (c == 9) (Escape 116) (fourth q c)

abbrev second : Quotes → ℕ → Inner
second q c = cond (c == 13) (Escape 114) (third q c)

pub how_written : (q : Quotes) (c : ℕ) → Written q c
how_written q c = elim (tells (c == 10)) [
  | inl a ↦ (let e = eq_of c 10 a in by_escape 110 (taken (c == 10) (Escape 110) (second q c) a) (sym e) (escapes q).0 (omega arith) (low_of c 10 e (omega arith)))
  | inr a ↦ (let w = passed (c == 10) (Escape 110) (second q c) a in elim (tells (c == 13)) [
    | inl b ↦ (let e = eq_of c 13 b in by_escape 114 (w ∙ taken (c == 13) (Escape 114) (third q c) b) (sym e) (escapes q).1 (omega arith) (low_of c 13 e (omega arith)))
    | inr b ↦ (let v = w ∙ passed (c == 13) (Escape 114) (third q c) b in elim (tells (c == 9)) [
      | inl d ↦ (let e = eq_of c 9 d in by_escape 116 (v ∙ taken (c == 9) (Escape 116) (fourth q c) d) (sym e) (escapes q).2 (omega arith) (low_of c 9 e (omega arith)))
      | inr d ↦ (let u = v ∙ passed (c == 9) (Escape 116) (fourth q c) d in elim (tells (c == 0)) [
        | inl f ↦ (let e = eq_of c 0 f in by_escape 48 (u ∙ taken (c == 0) (Escape 48) (last q c) f) (sym e) (escapes q).3 (omega arith) (low_of c 0 e (omega arith)))
        | inr f ↦ (let t = u ∙ passed (c == 0) (Escape 48) (last q c) f in elim (tells (is_marked q c)) [
          | inl g ↦ (let m = marked q c g in by_escape c (t ∙ taken (is_marked q c) (Escape c) (Plain c) g) m.itself m.escape m.low m.low)
          | inr g ↦ (let m = unmarked q c g in by_itself (t ∙ passed (is_marked q c) (Escape c) (Plain c) g) m.0 m.1)
        ])
      ])
    ])
  ])
]

abbrev run : Quotes → List ℕ → List Inner
run q bs = map (written q) bs

means_more : (q : Quotes) (c : ℕ) (us : List Inner) → Written q c → meant (inside (written q c ∷ us)) ≡ c ∷ meant (inside us)
means_more q c us (by_escape e is same good low small) = ap (λ u. meant (inside (u ∷ us))) is ∙ ap (λ z. z ∷ meant (inside us)) same
means_more q c us (by_itself is plain end) = ap (λ u. meant (inside (u ∷ us))) is ∙ passed (c == 92) (meant_after (inside us)) (c ∷ meant (inside us)) plain

run_means : (q : Quotes) (bs : List ℕ) → meant (inside (run q bs)) ≡ bs
run_means q [] = refl
run_means q (c ∷ cs) = means_more q c (run q cs) (how_written q c) ∙ ap (λ z. c ∷ z) (run_means q cs)

inside_more : (q : Quotes) (c : ℕ) (us : List Inner) → Written q c → AreInside q us → AreInside q (written q c ∷ us)
inside_more q c us (by_escape e is same good low small) all = subst (λ (u : Inner). AreInside q (u ∷ us)) (sym is) all
inside_more q c us (by_itself is plain end) all = subst (λ (u : Inner). AreInside q (u ∷ us)) (sym is) (plain, end, all)

run_inside : (q : Quotes) (bs : List ℕ) → AreInside q (run q bs)
run_inside q [] = tt
run_inside q (c ∷ cs) = inside_more q c (run q cs) (how_written q c) (run_inside q cs)

escapes_more : (q : Quotes) (c : ℕ) (us : List Inner) → Written q c → AreEscapes q us → AreEscapes q (written q c ∷ us)
escapes_more q c us (by_escape e is same good low small) all = subst (λ (u : Inner). AreEscapes q (u ∷ us)) (sym is) (good, all)
escapes_more q c us (by_itself is plain end) all = subst (λ (u : Inner). AreEscapes q (u ∷ us)) (sym is) all

run_escapes : (q : Quotes) (bs : List ℕ) → AreEscapes q (run q bs)
run_escapes q [] = tt
run_escapes q (c ∷ cs) = escapes_more q c (run q cs) (how_written q c) (run_escapes q cs)

abbrev utf8_more : (q : Quotes) (c : ℕ) (cs xs : List ℕ) → Written q c → ((ys : List ℕ) → IsUtf8 (ys ++ cs) → IsUtf8 (ys ++ inside (run q cs))) → IsUtf8 (xs ++ c ∷ cs) → IsUtf8 (xs ++ inside (written q c ∷ run q cs))
utf8_more q c cs xs (by_escape e is same good low small) ih u =
    let front = (split_before xs (c ∷ cs) u small).0 in
    let after = ih [] (split_after xs c cs small u).1 in
    subst (λ (z : Inner). IsUtf8 (xs ++ inside (z ∷ run q cs))) (sym is) (IsUtf8-append xs (92 ∷ e ∷ inside (run q cs)) front (IsUtf8-append (92 ∷ e ∷ []) (inside (run q cs)) (all_low (92 ∷ e ∷ []) (omega arith, (low, tt))) after))
utf8_more q c cs xs (by_itself is plain end) ih u =
    subst (λ (z : Inner). IsUtf8 (xs ++ inside (z ∷ run q cs))) (sym is)
    (subst IsUtf8 (append_assoc xs (c ∷ []) (inside (run q cs))) (ih (xs ++ c ∷ []) (subst IsUtf8 (sym (append_assoc xs (c ∷ []) cs)) u)))

run_utf8 : (q : Quotes) (bs xs : List ℕ) → IsUtf8 (xs ++ bs) → IsUtf8 (xs ++ inside (run q bs))
run_utf8 q [] xs u = u
run_utf8 q (c ∷ cs) xs u = utf8_more q c cs xs (how_written q c) (run_utf8 q cs) u

pub quoted_utf8 : (q : Quotes) (bs : List ℕ) → IsUtf8 bs → IsUtf8 (quoted q bs)
unfolding quoted
quoted_utf8 q bs u = run_utf8 q bs [] u

run_some : (q : Quotes) (bs : List ℕ) → bs ≢ [] → run q bs ≢ []
run_some q [] some e = some refl
run_some q (c ∷ cs) some e = absurd (cc)

-- a text in its quotes
pub text_prints : (bs : List ℕ) → IsUtf8 bs → Prints Code Code Any (39 ∷ (quoted OfText bs ++ 39 ∷ [])) (k.Text bs ∷ [])
unfolding quoted
text_prints bs u = record {
  pieces = i.Text (run OfText bs) ∷ [];
  bytes = sym (append-nil (39 ∷ (inside (run OfText bs) ++ 39 ∷ [])));
  meaning = ap (λ z. k.Text (meant z) ∷ []) (unquoted_text (run OfText bs)) ∙ ap (λ z. k.Text z ∷ []) (run_means OfText bs);
  fits = λ more next. (run_inside OfText bs, tt);
  walks = λ holes. (Code holes, (holes, refl, refl), refl);
  good = (run_escapes OfText bs, tt);
  utf8 = IsUtf8-append (39 ∷ []) (inside (run OfText bs) ++ 39 ∷ []) (all_low (39 ∷ []) (omega arith, tt)) (IsUtf8-append (inside (run OfText bs)) (39 ∷ []) (quoted_utf8 OfText bs u) (all_low (39 ∷ []) (omega arith, tt)));
}

-- a run of characters of a template
pub characters_print : (bs : List ℕ) → bs ≢ [] → IsUtf8 bs → Prints Template Template (Begins (is_end OfTemplate)) (quoted OfTemplate bs) (k.Characters bs ∷ [])
unfolding quoted
characters_print bs some u = record {
  pieces = i.Characters (run OfTemplate bs) ∷ [];
  bytes = sym (append-nil (inside (run OfTemplate bs)));
  meaning = ap (λ z. k.Characters z ∷ []) (run_means OfTemplate bs);
  fits = λ more next. ((run_some OfTemplate bs some, run_inside OfTemplate bs, next), tt);
  walks = λ holes. (Template holes, (holes, refl, refl), refl);
  good = (run_escapes OfTemplate bs, tt);
  utf8 = quoted_utf8 OfTemplate bs u;
}
