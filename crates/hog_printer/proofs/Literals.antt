-- The words and marks that a printed text has of its own.
use Rattle.std.proofs.Common.{[], ◌∷◌, refl, arith}
use Rattle.std.specs.Prelude.{codes}
use Rattle.hog_grammar.specs.Bytes.{class, is_pair}
use Rattle.hog_grammar.specs.Pieces.{Blank, Word, Mark, LongMark, OpenBrace, CloseBrace, TemplateStart, HoleStart, HoleEnd, TemplateEnd, Code, Template, opened}
use Rattle.hog_grammar.specs.Terminal.{Terminal}
use Rattle.hog_grammar.specs.Terminal as k
use Rattle.hog_grammar.proofs.Utf8.{all_low}
use Rattle.hog_printer.proofs.Pieces.{Prints, Any}
use Rattle.hog_printer.proofs.WordPieces.{Quiet}
use Rattle.hog_printer.proofs.Stands.{lit, sp}

-- marks

pub comma : Prints Code Code Any (codes ", ") (k.Comma ∷ [])
unfolding class is_pair k.word k.mark
comma = lit (Mark 44 ∷ sp ∷ []) (k.Comma ∷ []) refl refl refl

pub open_mark : Prints Code Code Any (codes "(") (k.Open ∷ [])
unfolding class is_pair k.word k.mark
open_mark = lit (Mark 40 ∷ []) (k.Open ∷ []) refl refl refl

pub close_mark : Prints Code Code Any (codes ")") (k.Close ∷ [])
unfolding class is_pair k.word k.mark
close_mark = lit (Mark 41 ∷ []) (k.Close ∷ []) refl refl refl

pub open_bracket : Prints Code Code Any (codes "[") (k.OpenBracket ∷ [])
unfolding class is_pair k.word k.mark
open_bracket = lit (Mark 91 ∷ []) (k.OpenBracket ∷ []) refl refl refl

pub close_bracket : Prints Code Code Any (codes "]") (k.CloseBracket ∷ [])
unfolding class is_pair k.word k.mark
close_bracket = lit (Mark 93 ∷ []) (k.CloseBracket ∷ []) refl refl refl

pub dot : Prints Code Code Any (codes ".") (k.Dot ∷ [])
unfolding class is_pair k.word k.mark
dot = lit (Mark 46 ∷ []) (k.Dot ∷ []) refl refl refl

pub nullish_dot : Prints Code Code Any (codes "?.") (k.NullishDot ∷ [])
unfolding class is_pair k.word k.mark
nullish_dot = lit (LongMark 63 46 ∷ []) (k.NullishDot ∷ []) refl refl refl

pub colon : Prints Code Code Any (codes ": ") (k.Colon ∷ [])
unfolding class is_pair k.word k.mark
colon = lit (Mark 58 ∷ sp ∷ []) (k.Colon ∷ []) refl refl refl

pub semi : Prints Code Code Any (codes ";") (k.Semi ∷ [])
unfolding class is_pair k.word k.mark
semi = lit (Mark 59 ∷ []) (k.Semi ∷ []) refl refl refl

pub semi_blank : Prints Code Code Any (codes "; ") (k.Semi ∷ [])
unfolding class is_pair k.word k.mark
semi_blank = lit (Mark 59 ∷ sp ∷ []) (k.Semi ∷ []) refl refl refl

pub close_blank : Prints Code Code Any (codes ") ") (k.Close ∷ [])
unfolding class is_pair k.word k.mark
close_blank = lit (Mark 41 ∷ sp ∷ []) (k.Close ∷ []) refl refl refl

pub arrow : Prints Code Code Any (codes ") -> ") (k.Close ∷ k.Arrow ∷ [])
unfolding class is_pair k.word k.mark
arrow = lit (Mark 41 ∷ sp ∷ LongMark 45 62 ∷ sp ∷ []) (k.Close ∷ k.Arrow ∷ []) refl refl refl

pub assign : Prints Code Code Any (codes " := ") (k.Assign ∷ [])
unfolding class is_pair k.word k.mark
assign = lit (sp ∷ LongMark 58 61 ∷ sp ∷ []) (k.Assign ∷ []) refl refl refl

pub coalesce : Prints Code Code Any (codes " ?? ") (k.Coalesce ∷ [])
unfolding class is_pair k.word k.mark
coalesce = lit (sp ∷ LongMark 63 63 ∷ sp ∷ []) (k.Coalesce ∷ []) refl refl refl

pub not_word : Prints Code Code Any (codes "not ") (k.Not ∷ [])
unfolding class is_pair k.word k.mark
not_word = lit (Word 110 (codes "ot") ∷ sp ∷ []) (k.Not ∷ []) refl refl refl

pub let_word : Prints Code Code Any (codes "let ") (k.Let ∷ [])
unfolding class is_pair k.word k.mark
let_word = lit (Word 108 (codes "et") ∷ sp ∷ []) (k.Let ∷ []) refl refl refl

pub return_word : Prints Code Code Any (codes "return ") (k.Return ∷ [])
unfolding class is_pair k.word k.mark
return_word = lit (Word 114 (codes "eturn") ∷ sp ∷ []) (k.Return ∷ []) refl refl refl

pub return_alone : Prints Code Code Any (codes "return;") (k.Return ∷ k.Semi ∷ [])
unfolding class is_pair k.word k.mark
return_alone = lit (Word 114 (codes "eturn") ∷ Mark 59 ∷ []) (k.Return ∷ k.Semi ∷ []) refl refl refl

pub throw_word : Prints Code Code Any (codes "throw ") (k.Throw ∷ [])
unfolding class is_pair k.word k.mark
throw_word = lit (Word 116 (codes "hrow") ∷ sp ∷ []) (k.Throw ∷ []) refl refl refl

pub if_open : Prints Code Code Any (codes "if (") (k.If ∷ k.Open ∷ [])
unfolding class is_pair k.word k.mark
if_open = lit (Word 105 (codes "f") ∷ sp ∷ Mark 40 ∷ []) (k.If ∷ k.Open ∷ []) refl refl refl

pub else_word : Prints Code Code Any (codes " else ") (k.Else ∷ [])
unfolding class is_pair k.word k.mark
else_word = lit (sp ∷ Word 101 (codes "lse") ∷ sp ∷ []) (k.Else ∷ []) refl refl refl

pub while_open : Prints Code Code Any (codes "while (") (k.While ∷ k.Open ∷ [])
unfolding class is_pair k.word k.mark
while_open = lit (Word 119 (codes "hile") ∷ sp ∷ Mark 40 ∷ []) (k.While ∷ k.Open ∷ []) refl refl refl

pub for_open : Prints Code Code Any (codes "for (") (k.For ∷ k.Open ∷ [])
unfolding class is_pair k.word k.mark
for_open = lit (Word 102 (codes "or") ∷ sp ∷ Mark 40 ∷ []) (k.For ∷ k.Open ∷ []) refl refl refl

pub for_let : Prints Code Code Any (codes "for (let ") (k.For ∷ k.Open ∷ k.Let ∷ [])
unfolding class is_pair k.word k.mark
for_let = lit (Word 102 (codes "or") ∷ sp ∷ Mark 40 ∷ Word 108 (codes "et") ∷ sp ∷ []) (k.For ∷ k.Open ∷ k.Let ∷ []) refl refl refl

pub in_word : Prints Code Code Any (codes " in ") (k.In ∷ [])
unfolding class is_pair k.word k.mark
in_word = lit (sp ∷ Word 105 (codes "n") ∷ sp ∷ []) (k.In ∷ []) refl refl refl

pub fun_word : Prints Code Code Any (codes "fun ") (k.Fun ∷ [])
unfolding class is_pair k.word k.mark
fun_word = lit (Word 102 (codes "un") ∷ sp ∷ []) (k.Fun ∷ []) refl refl refl

pub try_word : Prints Code Code Any (codes "try ") (k.Try ∷ [])
unfolding class is_pair k.word k.mark
try_word = lit (Word 116 (codes "ry") ∷ sp ∷ []) (k.Try ∷ []) refl refl refl

pub catch_open : Prints Code Code Any (codes " catch (") (k.Catch ∷ k.Open ∷ [])
unfolding class is_pair k.word k.mark
catch_open = lit (sp ∷ Word 99 (codes "atch") ∷ sp ∷ Mark 40 ∷ []) (k.Catch ∷ k.Open ∷ []) refl refl refl

pub blank : Prints Code Code Any (codes " ") ([])
unfolding class is_pair k.word k.mark
blank = lit (sp ∷ []) ([]) refl refl refl

pub spaces : Prints Code Code Any (codes "    ") ([])
unfolding class is_pair k.word k.mark
spaces = lit (sp ∷ sp ∷ sp ∷ sp ∷ []) ([]) refl refl refl

pub line_feed : Prints Code Code Any (10 ∷ []) ([])
unfolding class is_pair k.word k.mark
line_feed = lit (Blank 10 ∷ []) ([]) refl refl refl

-- a minus before an operand
pub minus : Prints Code Code Quiet (codes "-") (k.Minus ∷ [])
unfolding class k.mark
minus = record {
  pieces = Mark 45 ∷ [];
  bytes = refl;
  meaning = refl;
  fits = λ more next. ((refl, next), tt);
  walks = λ holes. (Code holes, (holes, refl, refl), refl);
  good = (tt, tt);
  utf8 = all_low (45 ∷ []) (omega arith, tt);
}

-- braces, and the ends of templates and holes

pub open_brace : Prints Code (λ holes. Code (opened holes)) Any (codes "{") (k.OpenBrace ∷ [])
unfolding k.mark
open_brace = record {
  pieces = OpenBrace ∷ [];
  bytes = refl;
  meaning = refl;
  fits = λ more next. (tt, tt);
  walks = λ holes. (Code (opened holes), (holes, refl, refl), refl);
  good = (tt, tt);
  utf8 = all_low (123 ∷ []) (omega arith, tt);
}

pub close_brace : Prints (λ holes. Code (opened holes)) Code Any (codes "}") (k.CloseBrace ∷ [])
unfolding k.mark
close_brace = record {
  pieces = CloseBrace ∷ [];
  bytes = refl;
  meaning = refl;
  fits = λ more next. (tt, tt);
  walks = λ holes. (Code holes, (holes, refl, refl), refl);
  good = (tt, tt);
  utf8 = all_low (125 ∷ []) (omega arith, tt);
}

pub template_start : Prints Code Template Any (codes "f'") (k.TemplateStart ∷ [])
template_start = record {
  pieces = TemplateStart ∷ [];
  bytes = refl;
  meaning = refl;
  fits = λ more next. (tt, tt);
  walks = λ holes. (Template holes, (holes, refl, refl), refl);
  good = (tt, tt);
  utf8 = all_low (102 ∷ 39 ∷ []) (omega arith, (omega arith, tt));
}

pub template_end : Prints Template Code Any (codes "'") (k.TemplateEnd ∷ [])
template_end = record {
  pieces = TemplateEnd ∷ [];
  bytes = refl;
  meaning = refl;
  fits = λ more next. (tt, tt);
  walks = λ holes. (Code holes, (holes, refl, refl), refl);
  good = (tt, tt);
  utf8 = all_low (39 ∷ []) (omega arith, tt);
}

pub hole_start : Prints Template (λ holes. Code (0 ∷ holes)) Any (codes "{") (k.HoleStart ∷ [])
hole_start = record {
  pieces = HoleStart ∷ [];
  bytes = refl;
  meaning = refl;
  fits = λ more next. (tt, tt);
  walks = λ holes. (Code (0 ∷ holes), (holes, refl, refl), refl);
  good = (tt, tt);
  utf8 = all_low (123 ∷ []) (omega arith, tt);
}

pub hole_end : Prints (λ holes. Code (0 ∷ holes)) Template Any (codes "}") (k.HoleEnd ∷ [])
hole_end = record {
  pieces = HoleEnd ∷ [];
  bytes = refl;
  meaning = refl;
  fits = λ more next. (tt, tt);
  walks = λ holes. (Template holes, (holes, refl, refl), refl);
  good = (tt, tt);
  utf8 = all_low (125 ∷ []) (omega arith, tt);
}
