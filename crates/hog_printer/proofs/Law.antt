-- Printed programs read back.
use Rattle.std.proofs.Common.{List, [], sym, subst}
use Rattle.hog_grammar.specs.declared.token.Token.{Token}
use Rattle.hog_grammar.specs.Terminal.{Terminal, terminals}
use Rattle.hog_grammar.specs.Spelling.{Spells}
use Rattle.hog_tokens.proofs.TextLaws.{one_list}
use Rattle.hog_spelling.proofs.Complete.{one_tree}
use Rattle.hog_printer.specs.Laws.{ReadsBack, ReadsBackOnly}
use Rattle.hog_printer.specs.Print.{printed}
use Rattle.hog_printer.proofs.Tokens.{stms_tokens}
use Rattle.hog_printer.proofs.Spelled.{program_spelled}
use Rattle.hog_printer.proofs.Kept.{program_kept}
use Rattle.hog_printer.proofs.FromText.{text_meant}
use Rattle.hog_printer.proofs.Pieces.{has_tokens}
use Rattle.hog_printer.proofs.Printed.{program_prints}

pub reads_back : ReadsBack
reads_back text program is =
    let fit = program_kept program (terminals text is.list) [] is.height is.spells (text_meant text is.list is.tokens) in
    let has = has_tokens (printed program) (stms_tokens program) (program_prints program fit) in
    let sp = program_spelled program fit in
    record { list = has.list; height = sp.0; tokens = has.tokens; spells = subst (λ (ts : List Terminal). Spells program ts sp.0) (sym has.meaning) sp.1 }

pub reads_back_only : ReadsBackOnly
reads_back_only text program other is same =
    let mine = reads_back text program is in
    let lists = one_list (printed program) same.list mine.list same.tokens mine.tokens in
    let spelled = subst (λ (list : List Token). Spells other (terminals (printed program) list) same.height) lists same.spells in
    (one_tree other program (terminals (printed program) mine.list) same.height mine.height spelled mine.spells).0
