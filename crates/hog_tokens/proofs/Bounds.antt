-- Sizes: what a loop over pieces can count on.
use Rattle.std.proofs.Common.{◌≡◌, ℕ, suc, ◌+◌, ◌<◌, ◌≤◌, List, [], ◌∷◌, length, Option, Some, sym, ap, ◌∙◌, arith, length-append}
use Rattle.hog_grammar.specs.declared.token.Fault.{Fault}
use Rattle.hog_grammar.specs.declared.token.Token.{Token}
use Rattle.hog_grammar.specs.Pieces.{inside, Piece, Blank, LineComment, BlockComment, Word, Number, Text, Mark, LongMark, OpenBrace, CloseBrace, TemplateStart, Characters, HoleStart, HoleEnd, TemplateEnd, Stray, spelled, Place, Code, Template, opened, InCode, Moves, Passes}
use Rattle.hog_grammar.specs.Faults.{size_of}
use Rattle.hog_grammar.proofs.Sizes.{piece_some, passes_length}
use Rattle.hog_tokens.specs.Reading.{Begun, begin, spot_of, holes_of, open_braces}
use Rattle.hog_tokens.proofs.PieceFaults.{first_holds, fault_within}
use Rattle.hog_tokens.proofs.Cutting.{IsRead, read_on}

-- What follows a piece is shorter.
pub shorter : (place : Place) (rest : List ℕ) (b : Begun) → begin (spot_of place) rest ≡ Some b → length b.rest < length rest
shorter place rest b e = let x = read_on place rest b e in omega (arith, ap length x.bytes, length-append (spelled x.p) b.rest, piece_some x.p b.rest x.piece)

-- A fault stands within what is left.
pub fault_inside : (place : Place) (rest : List ℕ) (b : Begun) (f : Fault) (n : ℕ) → begin (spot_of place) rest ≡ Some b → b.fault ≡ Some (f, n) → n < length rest
fault_inside place rest b f n e is = let x = read_on place rest b e in omega (arith, ap length x.bytes, length-append (spelled x.p) b.rest, fault_within x.p f n (first_holds x.p f n (sym x.fault ∙ is)))

braces : Place → ℕ
braces place = open_braces (holes_of place)

opened_one : (holes : List ℕ) → open_braces (opened holes) ≤ suc (open_braces holes)
opened_one [] = omega arith
opened_one (n ∷ holes) = omega arith

opened_more : (holes : List ℕ) → open_braces holes ≤ open_braces (opened holes)
opened_more [] = omega arith
opened_more (n ∷ holes) = omega arith

same_braces : (p : Piece) (from to : Place) → InCode from to → braces to ≤ braces from + length (spelled p)
same_braces p from to m = let a = ap braces m.1 in let b = ap braces m.2 in omega (arith, a, b)

at_most : (from to a b : Place) (n : ℕ) → from ≡ a → to ≡ b → braces b ≤ braces a + n → braces to ≤ braces from + n
at_most from to a b n is was le = omega (arith, ap braces is, ap braces was, le)

braces_piece : (p : Piece) (from to : Place) → Moves p from to → braces to ≤ braces from + length (spelled p)
unfolding braces
braces_piece (Blank c) from to m = same_braces (Blank c) from to m
braces_piece (LineComment cs) from to m = same_braces (LineComment cs) from to m
braces_piece (BlockComment cs) from to m = same_braces (BlockComment cs) from to m
braces_piece (Word c cs) from to m = same_braces (Word c cs) from to m
braces_piece (Number c cs) from to m = same_braces (Number c cs) from to m
braces_piece (Text us) from to m = same_braces (Text us) from to m
braces_piece (Mark c) from to m = same_braces (Mark c) from to m
braces_piece (LongMark c d) from to m = same_braces (LongMark c d) from to m
braces_piece OpenBrace from to m = at_most from to (Code m.0) (Code (opened m.0)) 1 m.1 m.2 (omega (arith, opened_one m.0))
braces_piece CloseBrace from to m = at_most from to (Code (opened m.0)) (Code m.0) 1 m.1 m.2 (omega (arith, opened_more m.0))
braces_piece TemplateStart from to m = at_most from to (Code m.0) (Template m.0) 2 m.1 m.2 (omega arith)
braces_piece (Characters us) from to m = at_most from to (Template m.0) (Template m.0) (length (inside us)) m.1 m.2 (omega arith)
braces_piece HoleStart from to m = at_most from to (Template m.0) (Code (0 ∷ m.0)) 1 m.1 m.2 (omega arith)
braces_piece HoleEnd from to m = at_most from to (Code (0 ∷ m.0)) (Template m.0) 1 m.1 m.2 (omega arith)
braces_piece TemplateEnd from to m = at_most from to (Template m.0) (Code m.0) 1 m.1 m.2 (omega arith)
braces_piece (Stray c) from to m = same_braces (Stray c) from to m

braces_pieces : (ps : List Piece) (a b : Place) (text rest : List ℕ) → Passes ps a text b rest → braces b ≤ braces a + size_of ps
braces_pieces [] a b text rest x = omega (arith, ap braces x.0)
braces_pieces (p ∷ ps) a b text rest x = omega (arith, braces_piece p a x.next x.moves, braces_pieces ps x.next b x.more rest x.others)

-- No more braces are open than bytes were read.
pub few_braces : (text : List ℕ) (place : Place) (rest : List ℕ) (start : ℕ) (found : Option (Fault × ℕ)) (list : List Token) → IsRead text place rest start found list → open_braces (holes_of place) + length rest ≤ length text
unfolding braces
few_braces text place rest start found list r = omega (arith, braces_pieces r.pieces (Code []) place text rest r.passes, passes_length r.pieces (Code []) place text rest r.passes)

pub not_longer : (text : List ℕ) (place : Place) (rest : List ℕ) (start : ℕ) (found : Option (Fault × ℕ)) (list : List Token) → IsRead text place rest start found list → length rest ≤ length text
not_longer text place rest start found list r = omega (arith, passes_length r.pieces (Code []) place text rest r.passes)
