-- What tokens mean can be read: numbers are not too large, and texts are UTF-8.
use Rattle.std.proofs.Common.{◌≡◌, ℕ, ◌+◌, ◌-◌, ◌<◌, ◌≤◌, Bool, true, false, cond, List, [], ◌∷◌, ◌++◌, length, take, drop, Option, Some, None, refl, sym, ap, ◌∙◌, subst, arith, length-append, append_assoc, ◌⊎◌, inl, inr}
use Rattle.std.specs.Prelude.{nat_lt, slice_range, All}
use Rattle.std.specs.Str.{IsUtf8}
use Rattle.std.proofs.Math.Seq.{take-append_seam, drop-append_seam}
use Rattle.std.proofs.lemmas.Bool.Decides.{nat_tests}
use Rattle.std.proofs.lemmas.List.Elements.{All-nil, All-cons}
use Rattle.std.proofs.lemmas.Str.{IsUtf8-append}
use Rattle.hog_grammar.specs.declared.token.Token.{Token}
use Rattle.hog_grammar.specs.declared.token.TokenKind.{TokenKind}
use Rattle.hog_grammar.specs.Bytes.{Class, Letter, Digit, Sign, Other, class, is_pair, is_space_class, is_word_class, is_digit_class, in_line, in_line_class, is_text_escape, AllOf, Stops, Begins}
use Rattle.hog_grammar.specs.Pieces.{Inner, Plain, Escape, inside, Quotes, OfText, OfTemplate, is_end, is_escape, AreInside, AreEscapes, Piece, Blank, LineComment, BlockComment, Word, Number, Text, Mark, LongMark, OpenBrace, CloseBrace, TemplateStart, Characters, HoleStart, HoleEnd, TemplateEnd, Stray, spelled, IsPiece, IsGood, AreGood, Place, Code, Passes, kind_of, with_token, tokens_at, IsTokensOf}
use Rattle.hog_grammar.specs.Terminal.{Terminal, escaped, meant, meant_after, unquoted, meaning_of, terminals, CanBeRead, AreReadable}
use Rattle.hog_grammar.proofs.Utf8.{StartsLow, AllLow, split_before, split_after, all_low, split_low}

-- bytes of ASCII

tells : (b : Bool) → (b ≡ true) ⊎ (b ≡ false)
tells true = inl refl
tells false = inr refl

high_class : (c : ℕ) → 128 ≤ c → class c ≡ Other
unfolding class
high_class c h = grind (arith, nat_tests)

low_class : (c : ℕ) (x : Class) → class c ≡ x → (x ≡ Other → ⊥) → c < 128
low_class c x is apart = elim (tells (nat_lt c 128)) [
  | inl h ↦ grind (arith, nat_tests)
  | inr h ↦ (let high : 128 ≤ c = grind (arith, nat_tests) in absurd (apart (sym is ∙ high_class c high)))
]

-- a test of the class that other bytes do not pass
by_test : (p : Class → Bool) (c : ℕ) → p Other ≡ false → p (class c) ≡ true → c < 128
by_test p c none is = low_class c (class c) refl (λ e. (let x : true ≡ false = sym is ∙ ap p e ∙ none in absurd (cc)))

all_low_by : (p : Class → Bool) (cs : List ℕ) → p Other ≡ false → AllOf (λ c. p (class c)) cs → AllLow cs
all_low_by p [] none all = tt
all_low_by p (c ∷ cs) none all = (by_test p c none all.0, all_low_by p cs none all.1)

high_pair : (c d : ℕ) → (128 ≤ c) ⊎ (128 ≤ d) → is_pair c d ≡ false
unfolding is_pair
high_pair c d (inl h) = grind (arith, nat_tests)
high_pair c d (inr h) = grind (arith, nat_tests)

low_pair : (c d : ℕ) → is_pair c d ≡ true → (c < 128) × (d < 128)
low_pair c d is = (by (λ h. inl h), by_second (λ h. inr h))
  where
    by : (128 ≤ c → (128 ≤ c) ⊎ (128 ≤ d)) → c < 128
    by f = elim (tells (nat_lt c 128)) [
      | inl h ↦ grind (arith, nat_tests)
      | inr h ↦ (let high : 128 ≤ c = grind (arith, nat_tests) in let x = high_pair c d (f high) in absurd (cc))
    ]

    by_second : (128 ≤ d → (128 ≤ c) ⊎ (128 ≤ d)) → d < 128
    by_second f = elim (tells (nat_lt d 128)) [
      | inl h ↦ grind (arith, nat_tests)
      | inr h ↦ (let high : 128 ≤ d = grind (arith, nat_tests) in let x = high_pair c d (f high) in absurd (cc))
    ]

high_escape : (q : Quotes) (c : ℕ) → 128 ≤ c → is_escape q c ≡ false
unfolding is_text_escape
high_escape OfText c h = grind (arith, nat_tests)
high_escape OfTemplate c h = grind (arith, nat_tests)

low_escape : (q : Quotes) (c : ℕ) → is_escape q c ≡ true → c < 128
low_escape q c is = elim (tells (nat_lt c 128)) [
  | inl h ↦ grind (arith, nat_tests)
  | inr h ↦ (let high : 128 ≤ c = grind (arith, nat_tests) in let x = high_escape q c high in absurd (cc))
]

escaped_low : (c : ℕ) → c < 128 → escaped c < 128
escaped_low c low = grind (arith, nat_tests)

-- what characters mean

pub means_utf8 : (q : Quotes) (us : List Inner) (xs : List ℕ) → AreInside q us → AreEscapes q us → IsUtf8 (xs ++ inside us) → IsUtf8 (xs ++ meant (inside us))
means_utf8 q [] xs all good u = u
means_utf8 q (Plain c ∷ us) xs all good u =
    let ih = means_utf8 q us (xs ++ c ∷ []) all.2 good (subst IsUtf8 (sym (append_assoc xs (c ∷ []) (inside us))) u) in
    let is : c ∷ meant (inside us) ≡ meant (c ∷ inside us) = ap (λ b. cond b (meant_after (inside us)) (c ∷ meant (inside us))) (sym all.0) in
    subst (λ (z : List ℕ). IsUtf8 (xs ++ z)) is (subst IsUtf8 (append_assoc xs (c ∷ []) (meant (inside us))) ih)
means_utf8 q (Escape c ∷ us) xs all good u =
    let low = low_escape q c good.0 in
    let two = split_before xs (92 ∷ c ∷ inside us) u (omega arith) in
    let rest = (split_after (92 ∷ []) c (inside us) low two.1).1 in
    let ih = means_utf8 q us [] all good.1 rest in
    IsUtf8-append xs (escaped c ∷ meant (inside us)) two.0 (IsUtf8-append (escaped c ∷ []) (meant (inside us)) (all_low (escaped c ∷ []) (escaped_low c low, tt)) ih)

-- pieces

abbrev Parts : Piece → List ℕ → Type 0
Parts p more = IsUtf8 (spelled p) × IsUtf8 more

-- the line that a comment ends
line_end : (more : List ℕ) → Stops in_line more → StartsLow more
line_end [] stop = tt
line_end (c ∷ cs) stop = low_class c (class c) refl (λ e. (let x : true ≡ false = sym (ap in_line_class e) ∙ stop in absurd (cc)))

characters_end : (more : List ℕ) → Begins (is_end OfTemplate) more → StartsLow more
characters_end [] begins = absurd begins
characters_end (c ∷ cs) begins = grind (arith, nat_tests)

-- a piece of a UTF-8 text and what follows it are UTF-8
piece_parts : (p : Piece) (more : List ℕ) → IsPiece p more → IsGood p → IsUtf8 (spelled p ++ more) → Parts p more
piece_parts (Blank c) more i g u = split_low (c ∷ []) more (by_test is_space_class c refl i, tt) u
piece_parts (LineComment cs) more i g u = split_before (47 ∷ 47 ∷ cs) more u (line_end more i.1)
piece_parts (BlockComment cs) more i g u =
    let e : (cs ++ 42 ∷ 47 ∷ []) ++ more ≡ (cs ++ 42 ∷ []) ++ 47 ∷ more = append_assoc cs (42 ∷ 47 ∷ []) more ∙ sym (append_assoc cs (42 ∷ []) (47 ∷ more)) in
    let x = split_after (47 ∷ 42 ∷ (cs ++ 42 ∷ [])) 47 more (omega arith) (subst (λ (z : List ℕ). IsUtf8 (47 ∷ 42 ∷ z)) e u) in
    (subst (λ (z : List ℕ). IsUtf8 (47 ∷ 42 ∷ z)) (append_assoc cs (42 ∷ []) (47 ∷ [])) x.0, x.1)
piece_parts (Word c cs) more i g u = split_low (c ∷ cs) more (low_class c Letter i.0 (λ e. absurd (cc)), all_low_by is_word_class cs refl i.1) u
piece_parts (Number c cs) more i g u = split_low (c ∷ cs) more (low_class c Digit i.0 (λ e. absurd (cc)), all_low_by is_digit_class cs refl i.1) u
piece_parts (Text us) more i g u = split_after (39 ∷ inside us) 39 more (omega arith) (subst (λ (z : List ℕ). IsUtf8 (39 ∷ z)) (append_assoc (inside us) (39 ∷ []) more) u)
piece_parts (Mark c) more i g u = split_low (c ∷ []) more (low_class c Sign i.0 (λ e. absurd (cc)), tt) u
piece_parts (LongMark c d) more i g u = let two = low_pair c d i in split_low (c ∷ d ∷ []) more (two.0, (two.1, tt)) u
piece_parts OpenBrace more i g u = split_low (123 ∷ []) more (omega arith, tt) u
piece_parts CloseBrace more i g u = split_low (125 ∷ []) more (omega arith, tt) u
piece_parts TemplateStart more i g u = split_low (102 ∷ 39 ∷ []) more (omega arith, (omega arith, tt)) u
piece_parts (Characters us) more i g u = split_before (inside us) more u (characters_end more i.2)
piece_parts HoleStart more i g u = split_low (123 ∷ []) more (omega arith, tt) u
piece_parts HoleEnd more i g u = split_low (125 ∷ []) more (omega arith, tt) u
piece_parts TemplateEnd more i g u = split_low (39 ∷ []) more (omega arith, tt) u
piece_parts (Stray c) more i g u = absurd g

-- a text's characters stand between its quotes
pub unquoted_text : (us : List Inner) → unquoted (spelled (Text us)) ≡ inside us
unquoted_text us =
    let e : length (spelled (Text us)) - 1 - 1 ≡ length (inside us) = omega (arith, length-append (inside us) (39 ∷ [])) in
    ap (λ n. take n (inside us ++ 39 ∷ [])) e ∙ take-append_seam (inside us) (39 ∷ [])

-- what a piece can be read as, if it is a token
abbrev OfKind : Option TokenKind → List ℕ → Type 0
OfKind None bytes = Unit {0}
OfKind (Some kind) bytes = CanBeRead kind bytes

piece_readable : (p : Piece) (more : List ℕ) → IsPiece p more → IsGood p → IsUtf8 (spelled p) → OfKind (kind_of p) (spelled p)
piece_readable (Blank c) more i g u = tt
piece_readable (LineComment cs) more i g u = tt
piece_readable (BlockComment cs) more i g u = tt
piece_readable (Word c cs) more i g u = u
piece_readable (Number c cs) more i g u = g
piece_readable (Text us) more i g u =
    let inner = (split_before (inside us) (39 ∷ []) (split_after [] 39 (inside us ++ 39 ∷ []) (omega arith) u).1 (omega arith)).0 in
    subst (λ (z : List ℕ). IsUtf8 (meant z)) (sym (unquoted_text us)) (means_utf8 OfText us [] i g inner)
piece_readable (Mark c) more i g u = tt
piece_readable (LongMark c d) more i g u = tt
piece_readable OpenBrace more i g u = tt
piece_readable CloseBrace more i g u = tt
piece_readable TemplateStart more i g u = tt
piece_readable (Characters us) more i g u = means_utf8 OfTemplate us [] i.1 g u
piece_readable HoleStart more i g u = tt
piece_readable HoleEnd more i g u = tt
piece_readable TemplateEnd more i g u = tt
piece_readable (Stray c) more i g u = absurd g

-- tokens

abbrev Readable : List ℕ → Token → Type 0
Readable text t = CanBeRead t.kind (slice_range text t.from t.to)

one_readable : (kind : Option TokenKind) (text bytes : List ℕ) (from to : ℕ) (ts : List Token) → slice_range text from to ≡ bytes → OfKind kind bytes → All (Readable text) ts → All (Readable text) (with_token kind from to ts)
one_readable None text bytes from to ts is h all = all
one_readable (Some kind) text bytes from to ts is h all = All-cons (Readable text) _ ts (subst (CanBeRead kind) (sym is) h) all

-- the bytes of a piece in its text
pub slice_of : (text front bytes more : List ℕ) (from to : ℕ) → text ≡ front ++ (bytes ++ more) → from ≡ length front → to ≡ from + length bytes → slice_range text from to ≡ bytes
slice_of text front bytes more from to is a b =
    let size : to - from ≡ length bytes = omega (arith, b) in
    ap (λ z. take (to - from) (drop from z)) is ∙ ap (λ n. take (to - from) (drop n (front ++ (bytes ++ more)))) a ∙ ap (take (to - from)) (drop-append_seam front (bytes ++ more))
    ∙ ap (λ n. take n (bytes ++ more)) size ∙ take-append_seam bytes more

pieces_readable : (ps : List Piece) (a b : Place) (text front part rest : List ℕ) (n : ℕ) → Passes ps a part b rest → AreGood ps → text ≡ front ++ part → n ≡ length front → IsUtf8 part → All (Readable text) (tokens_at n ps)
pieces_readable [] a b text front part rest n x g is at u = All-nil (Readable text)
pieces_readable (p ∷ ps) a b text front part rest n x g is at u =
    let parts = piece_parts p x.more x.piece g.0 (subst IsUtf8 x.bytes u) in
    let whole : text ≡ front ++ (spelled p ++ x.more) = is ∙ ap (λ z. front ++ z) x.bytes in
    let size : n + length (spelled p) ≡ length (front ++ spelled p) = omega (arith, at, length-append front (spelled p)) in
    one_readable (kind_of p) text (spelled p) n (n + length (spelled p)) (tokens_at (n + length (spelled p)) ps) (slice_of text front (spelled p) x.more n (n + length (spelled p)) whole at refl)
    (piece_readable p x.more x.piece g.0 parts.0)
    (pieces_readable ps x.next b text (front ++ spelled p) x.more rest (n + length (spelled p)) x.others g.1 (whole ∙ sym (append_assoc front (spelled p) x.more)) size parts.1)

-- The tokens of a text can be read.
pub readable : (text : List ℕ) (list : List Token) → IsTokensOf text list → AreReadable text list
readable text list t = subst (λ (z : List Token). AreReadable text z) (sym t.tokens) (pieces_readable t.pieces (Code []) (Code []) text [] text [] 0 t.cut t.good refl refl t.utf8)

-- what pieces mean, one after the other

abbrev pub with_meaning : Option TokenKind → List ℕ → List Terminal → List Terminal
with_meaning None bytes ts = ts
with_meaning (Some kind) bytes ts = meaning_of kind bytes ∷ ts

abbrev pub meanings : List Piece → List Terminal
meanings [] = []
meanings (p ∷ ps) = with_meaning (kind_of p) (spelled p) (meanings ps)

one_meaning : (kind : Option TokenKind) (text bytes : List ℕ) (from to : ℕ) (ts : List Token) (more : List Terminal) → slice_range text from to ≡ bytes → terminals text ts ≡ more → terminals text (with_token kind from to ts) ≡ with_meaning kind bytes more
one_meaning None text bytes from to ts more is e = e
one_meaning (Some kind) text bytes from to ts more is e = ap (λ z. meaning_of kind z ∷ terminals text ts) is ∙ ap (λ z. meaning_of kind bytes ∷ z) e

pieces_mean : (ps : List Piece) (a b : Place) (text front part rest : List ℕ) (n : ℕ) → Passes ps a part b rest → text ≡ front ++ part → n ≡ length front → terminals text (tokens_at n ps) ≡ meanings ps
pieces_mean [] a b text front part rest n x is at = refl
pieces_mean (p ∷ ps) a b text front part rest n x is at =
    let whole : text ≡ front ++ (spelled p ++ x.more) = is ∙ ap (λ z. front ++ z) x.bytes in
    let size : n + length (spelled p) ≡ length (front ++ spelled p) = omega (arith, at, length-append front (spelled p)) in
    one_meaning (kind_of p) text (spelled p) n (n + length (spelled p)) (tokens_at (n + length (spelled p)) ps) (meanings ps) (slice_of text front (spelled p) x.more n (n + length (spelled p)) whole at refl)
    (pieces_mean ps x.next b text (front ++ spelled p) x.more rest (n + length (spelled p)) x.others (whole ∙ sym (append_assoc front (spelled p) x.more)) size)

-- What the tokens of a text mean is what its pieces mean.
pub terminals_of_pieces : (ps : List Piece) (a b : Place) (text rest : List ℕ) → Passes ps a text b rest → terminals text (tokens_at 0 ps) ≡ meanings ps
terminals_of_pieces ps a b text rest x = pieces_mean ps a b text [] text rest 0 x refl refl
