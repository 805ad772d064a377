use Rattle.std.proofs.Common.{◌<◌, length, arith}
use Rattle.std.proofs.lemmas.Bool.Decides.{nat_tests}
use Rattle.hog_library.proofs.Pieces.{pieces-empty, cut_none, cut_some, cut_shorter}
use Rattle.hog_library.proofs.texts.cut.Goals as goal

pub returns-then-is_empty-clause-none : goal.returns-then-is_empty-clause-none
returns-then-is_empty-clause-none c = pieces-empty _ _ (grind (arith, nat_tests))

pub returns-clause-none : goal.returns-clause-none
returns-clause-none c =
    let full : 0 < length c.args.separator.now = grind (arith, nat_tests) in
    cut_none _ _ full c.split_once.result _ c.split_once.ensures.cases

pub returns-clause-some : goal.returns-clause-some
returns-clause-some c =
    let full : 0 < length c.args.separator.now = grind (arith, nat_tests) in
    cut_some _ _ full c.split_once.result c.split_once.ensures.cases

pub returns-clause-shorter : goal.returns-clause-shorter
returns-clause-shorter c =
    let full : 0 < length c.args.separator.now = grind (arith, nat_tests) in
    cut_shorter _ _ full c.split_once.result c.split_once.ensures.cases
