use Rattle.std.proofs.Common.{subst}
use Rattle.hog_grammar.specs.Spelling.{Spells}
use Rattle.hog_grammar.specs.Terminal.{terminals}
use Rattle.hog_program.proofs.laws.one_tree.Goals as goal

pub returns : goal.returns
returns c source a b p q =
    let same = c.one_list.ensures source p.list q.list p.cut q.cut in
    let spelled = subst (λ l. Spells a (terminals source l) p.height) same p.spelled in
    (c.one_tree.ensures a b (terminals source q.list) p.height q.height spelled q.spelled).0
