use Rattle.std.proofs.Common.{sym}
use Rattle.hog_grammar.specs.Names.{names_in}
use Rattle.hog_reading.specs.NamesOf.{stmts_names}
use Rattle.hog_parser.proofs.Named.{all_named}
use Rattle.hog_parser.proofs.parsing.whole.Goals as goal

pub returns-clause-names : goal.returns-clause-names
returns-clause-names c =
    all_named c.args.tokens.now c.in_ok-stmts.stmts.at (stmts_names c.in_ok-stmts.stmts.tree) (names_in c.args.tokens.now.text c.args.tokens.now.list)
    c.in_ok-stmts.ensures.ends (sym c.in-None.ensures.value) c.in_ok-stmts.ensures.places
