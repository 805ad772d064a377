-- The tokens of a text mean what tokens can mean.
use Rattle.std.proofs.Common.{◌≡◌, ◌≢◌, ℕ, ◌+◌, true, false, cond, List, [], ◌∷◌, ◌++◌, length, Option, Some, None, refl, sym, ap, ◌∙◌, subst, arith, length-append, append_assoc}
use Rattle.std.specs.Prelude.{slice_range, All}
use Rattle.std.proofs.lemmas.List.Elements.{All-head, All-tail}
use Rattle.hog_grammar.specs.declared.token.Token.{Token}
use Rattle.hog_grammar.specs.declared.token.TokenKind.{TokenKind}
use Rattle.hog_grammar.specs.Bytes.{Begins}
use Rattle.hog_grammar.specs.Pieces.{Inner, Plain, Escape, inside, OfTemplate, is_end, AreInside, Piece, Blank, LineComment, BlockComment, Word, Number, Text, Mark, LongMark, OpenBrace, CloseBrace, TemplateStart, Characters, HoleStart, HoleEnd, TemplateEnd, Stray, spelled, IsPiece, Place, Code, Template, Moves, Passes, kind_of, with_token, tokens_at, IsTokensOf}
use Rattle.hog_grammar.specs.Terminal.{Terminal, meant, meant_after, terminals, CanBeRead}
use Rattle.hog_grammar.proofs.Meaning.{readable, slice_of, with_meaning, meanings, terminals_of_pieces}
use Rattle.hog_printer.proofs.Meant.{AreMeant, begins_characters, word_ordinary, mark_ordinary}

-- what can be read of pieces

abbrev OfKind : Option TokenKind → List ℕ → Type 0
OfKind None bytes = Unit {0}
OfKind (Some kind) bytes = CanBeRead kind bytes

abbrev AreRead : List Piece → Type 0
AreRead [] = Unit {0}
AreRead (p ∷ ps) = OfKind (kind_of p) (spelled p) × AreRead ps

abbrev Readable : List ℕ → Token → Type 0
Readable text t = CanBeRead t.kind (slice_range text t.from t.to)

one_read : (kind : Option TokenKind) (text bytes : List ℕ) (from to : ℕ) (ts : List Token) → slice_range text from to ≡ bytes → All (Readable text) (with_token kind from to ts) → OfKind kind bytes × All (Readable text) ts
one_read None text bytes from to ts is all = (tt, all)
one_read (Some kind) text bytes from to ts is all = (subst (CanBeRead kind) is (All-head (Readable text) _ ts all), All-tail (Readable text) _ ts all)

all_read : (ps : List Piece) (a b : Place) (text front part rest : List ℕ) (n : ℕ) → Passes ps a part b rest → text ≡ front ++ part → n ≡ length front → All (Readable text) (tokens_at n ps) → AreRead ps
all_read [] a b text front part rest n x is at all = tt
all_read (p ∷ ps) a b text front part rest n x is at all =
    let whole : text ≡ front ++ (spelled p ++ x.more) = is ∙ ap (λ z. front ++ z) x.bytes in
    let size : n + length (spelled p) ≡ length (front ++ spelled p) = omega (arith, at, length-append front (spelled p)) in
    let two = one_read (kind_of p) text (spelled p) n (n + length (spelled p)) (tokens_at (n + length (spelled p)) ps) (slice_of text front (spelled p) x.more n (n + length (spelled p)) whole at refl) all in
    (two.0, all_read ps x.next b text (front ++ spelled p) x.more rest (n + length (spelled p)) x.others (whole ∙ sym (append_assoc front (spelled p) x.more)) size two.1)

-- no run of characters follows another

no_begin : (us : List Inner) (more : List ℕ) → us ≢ [] → AreInside OfTemplate us → Begins (is_end OfTemplate) (inside us ++ more) → ⊥
no_begin [] more some all begins = some refl
no_begin (Plain c ∷ us) more some all begins = let e : true ≡ false = sym begins ∙ all.1 in absurd (cc)
no_begin (Escape c ∷ us) more some all begins = let e : false ≡ true = begins in absurd (cc)

in_code : (holes others : List ℕ) → Template holes ≡ Code others → ⊥
in_code holes others e = absurd (cc)

piece_free : (p : Piece) (ts : List Terminal) (holes : List ℕ) (next : Place) (more text : List ℕ) → Moves p (Template holes) next → IsPiece p more → text ≡ spelled p ++ more → Begins (is_end OfTemplate) text
    → begins_characters (with_meaning (kind_of p) (spelled p) ts) ≡ false
piece_free (Blank c) ts holes next more text m i is begins = absurd (in_code holes m.0 m.1)
piece_free (LineComment cs) ts holes next more text m i is begins = absurd (in_code holes m.0 m.1)
piece_free (BlockComment cs) ts holes next more text m i is begins = absurd (in_code holes m.0 m.1)
piece_free (Word c cs) ts holes next more text m i is begins = absurd (in_code holes m.0 m.1)
piece_free (Number c cs) ts holes next more text m i is begins = absurd (in_code holes m.0 m.1)
piece_free (Text us) ts holes next more text m i is begins = absurd (in_code holes m.0 m.1)
piece_free (Mark c) ts holes next more text m i is begins = absurd (in_code holes m.0 m.1)
piece_free (LongMark c d) ts holes next more text m i is begins = absurd (in_code holes m.0 m.1)
piece_free OpenBrace ts holes next more text m i is begins = absurd (in_code holes m.0 m.1)
piece_free CloseBrace ts holes next more text m i is begins = absurd (in_code holes _ m.1)
piece_free TemplateStart ts holes next more text m i is begins = absurd (in_code holes m.0 m.1)
piece_free (Characters us) ts holes next more text m i is begins = absurd (no_begin us more i.0 i.1 (subst (Begins (is_end OfTemplate)) is begins))
piece_free HoleStart ts holes next more text m i is begins = refl
piece_free HoleEnd ts holes next more text m i is begins = absurd (in_code holes _ m.1)
piece_free TemplateEnd ts holes next more text m i is begins = refl
piece_free (Stray c) ts holes next more text m i is begins = absurd (in_code holes m.0 m.1)

next_free : (ps : List Piece) (holes : List ℕ) (to : Place) (text rest : List ℕ) → Passes ps (Template holes) text to rest → Begins (is_end OfTemplate) text → begins_characters (meanings ps) ≡ false
next_free [] holes to text rest x begins = refl
next_free (p ∷ ps) holes to text rest x begins = piece_free p (meanings ps) holes x.next x.more text x.moves x.piece x.bytes begins

-- a run of characters has none after it
abbrev IsFree : Piece → List Terminal → Type 0
IsFree (Characters us) ts = begins_characters ts ≡ false
IsFree _ ts = Unit {0}

free_of : (p : Piece) (ps : List Piece) (a next b : Place) (more rest : List ℕ) → IsPiece p more → Moves p a next → Passes ps next more b rest → IsFree p (meanings ps)
free_of (Characters us) ps a next b more rest i m x = next_free ps m.0 b more rest (subst (λ (z : Place). Passes ps z more b rest) m.2 x) i.2
free_of _ ps a next b more rest i m x = tt

chars_some : (us : List Inner) → us ≢ [] → AreInside OfTemplate us → meant (inside us) ≢ []
chars_some [] some all e = some refl
chars_some (Plain c ∷ us) some all e =
    let is : c ∷ meant (inside us) ≡ [] = sym (ap (λ b. cond b (meant_after (inside us)) (c ∷ meant (inside us))) all.0) ∙ e in
    absurd (cc)
chars_some (Escape c ∷ us) some all e = absurd (cc)

piece_meant : (p : Piece) (more : List ℕ) (ts : List Terminal) → IsPiece p more → OfKind (kind_of p) (spelled p) → IsFree p ts → AreMeant ts → AreMeant (with_meaning (kind_of p) (spelled p) ts)
piece_meant (Blank c) more ts i r f m = m
piece_meant (LineComment cs) more ts i r f m = m
piece_meant (BlockComment cs) more ts i r f m = m
piece_meant (Word c cs) more ts i r f m = let o = word_ordinary (c ∷ cs) (record { first = c; others = cs; bytes = refl; letter = i.0; all = i.1 }) in (o.0, o.1 ts, m)
piece_meant (Number c cs) more ts i r f m = (r, tt, m)
piece_meant (Text us) more ts i r f m = (r, tt, m)
piece_meant (Mark c) more ts i r f m = let o = mark_ordinary (c ∷ []) in (o.0, o.1 ts, m)
piece_meant (LongMark c d) more ts i r f m = let o = mark_ordinary (c ∷ d ∷ []) in (o.0, o.1 ts, m)
piece_meant OpenBrace more ts i r f m = let o = mark_ordinary (123 ∷ []) in (o.0, o.1 ts, m)
piece_meant CloseBrace more ts i r f m = let o = mark_ordinary (125 ∷ []) in (o.0, o.1 ts, m)
piece_meant TemplateStart more ts i r f m = (tt, tt, m)
piece_meant (Characters us) more ts i r f m = ((chars_some us i.0 i.1, r), f, m)
piece_meant HoleStart more ts i r f m = (tt, tt, m)
piece_meant HoleEnd more ts i r f m = (tt, tt, m)
piece_meant TemplateEnd more ts i r f m = (tt, tt, m)
piece_meant (Stray c) more ts i r f m = m

all_meant : (ps : List Piece) (a b : Place) (text rest : List ℕ) → Passes ps a text b rest → AreRead ps → AreMeant (meanings ps)
all_meant [] a b text rest x r = tt
all_meant (p ∷ ps) a b text rest x r = piece_meant p x.more (meanings ps) x.piece r.0 (free_of p ps a x.next b x.more rest x.piece x.moves x.others) (all_meant ps x.next b x.more rest x.others r.1)

-- The tokens of a text mean what tokens can mean.
pub text_meant : (text : List ℕ) (list : List Token) → IsTokensOf text list → AreMeant (terminals text list)
text_meant text list t =
    let all = subst (λ (z : List Token). All (Readable text) z) t.tokens (readable text list t) in
    let read = all_read t.pieces (Code []) (Code []) text [] text [] 0 t.cut refl refl all in
    let same : terminals text list ≡ meanings t.pieces = ap (λ z. terminals text z) t.tokens ∙ terminals_of_pieces t.pieces (Code []) (Code []) text [] t.cut in
    subst AreMeant (sym same) (all_meant t.pieces (Code []) (Code []) text [] t.cut read)
