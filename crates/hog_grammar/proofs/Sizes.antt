-- Sizes of pieces, and the order of tokens.
use Rattle.std.proofs.Common.{◌≡◌, ℕ, ◌+◌, ◌<◌, ◌≤◌, List, [], ◌∷◌, ◌++◌, length, Option, Some, None, refl, sym, ap, subst, arith, length-append}
use Rattle.hog_grammar.specs.declared.token.Token.{Token}
use Rattle.hog_grammar.specs.declared.token.TokenKind.{TokenKind}
use Rattle.hog_grammar.specs.Pieces.{Piece, Blank, LineComment, BlockComment, Word, Number, Text, Mark, LongMark, OpenBrace, CloseBrace, TemplateStart, Characters, HoleStart, HoleEnd, TemplateEnd, Stray, Plain, Escape, spelled, IsPiece, Place, Code, Passes, kind_of, with_token, tokens_at, IsTokensOf, AreInOrder}
use Rattle.hog_grammar.specs.Faults.{size_of}

-- No piece is empty.
pub piece_some : (p : Piece) (rest : List ℕ) → IsPiece p rest → 0 < length (spelled p)
piece_some (Blank c) rest i = omega arith
piece_some (LineComment cs) rest i = omega arith
piece_some (BlockComment cs) rest i = omega arith
piece_some (Word c cs) rest i = omega arith
piece_some (Number c cs) rest i = omega arith
piece_some (Text us) rest i = omega arith
piece_some (Mark c) rest i = omega arith
piece_some (LongMark c d) rest i = omega arith
piece_some OpenBrace rest i = omega arith
piece_some CloseBrace rest i = omega arith
piece_some TemplateStart rest i = omega arith
piece_some (Characters []) rest i = absurd (i.0 refl)
piece_some (Characters (Plain c ∷ us)) rest i = omega arith
piece_some (Characters (Escape c ∷ us)) rest i = omega arith
piece_some HoleStart rest i = omega arith
piece_some HoleEnd rest i = omega arith
piece_some TemplateEnd rest i = omega arith
piece_some (Stray c) rest i = omega arith

pub passes_length : (ps : List Piece) (a b : Place) (text rest : List ℕ) → Passes ps a text b rest → length text ≡ size_of ps + length rest
passes_length [] a b text rest x = omega (arith, ap length x.1)
passes_length (p ∷ ps) a b text rest x = omega (arith, ap length x.bytes, length-append (spelled p) x.more, passes_length ps x.next b x.more rest x.others)

pub size-append : (ps qs : List Piece) → size_of (ps ++ qs) ≡ size_of ps + size_of qs
size-append [] qs = omega arith
size-append (p ∷ ps) qs = omega (arith, size-append ps qs)

-- what is in order from a later place on
later : (from to end : ℕ) (ts : List Token) → from ≤ to → AreInOrder to ts end → AreInOrder from ts end
later from to end [] le h = omega (arith, le, h)
later from to end (t ∷ ts) le h = (omega (arith, le, h.0), h.1, h.2)

one_more : (kind : Option TokenKind) (from to end : ℕ) (ts : List Token) → from < to → AreInOrder to ts end → AreInOrder from (with_token kind from to ts) end
one_more None from to end ts lt h = later from to end ts (omega (arith, lt)) h
one_more (Some kind) from to end ts lt h = (omega arith, lt, h)

pieces_in_order : (ps : List Piece) (a b : Place) (text rest : List ℕ) (n end : ℕ) → Passes ps a text b rest → n + size_of ps ≤ end → AreInOrder n (tokens_at n ps) end
pieces_in_order [] a b text rest n end x le = omega (arith, le)
pieces_in_order (p ∷ ps) a b text rest n end x le =
    one_more (kind_of p) n (n + length (spelled p)) end (tokens_at (n + length (spelled p)) ps) (omega (arith, piece_some p x.more x.piece)) (pieces_in_order ps x.next b x.more rest (n + length (spelled p)) end x.others (omega (arith, le)))

-- The tokens of a text are in order.
pub in_order : (text : List ℕ) (list : List Token) → IsTokensOf text list → AreInOrder 0 list (length text)
in_order text list t = subst (λ (z : List Token). AreInOrder 0 z (length text)) (sym t.tokens)
    (pieces_in_order t.pieces (Code []) (Code []) text [] 0 (length text) t.cut (omega (arith, passes_length t.pieces (Code []) (Code []) text [] t.cut)))
