use Rattle.std.proofs.Common.{ℕ, ◌<◌, List, subst, arith}
use Rattle.hog_tree.specs.Plain.{Stms}
use Rattle.hog_grammar.specs.declared.token.Fault.TheVariants as fault
use Rattle.hog_grammar.specs.Laws.{OneList, NotBoth}
use Rattle.hog_grammar.specs.Spelling.{Spells}
use Rattle.hog_grammar.specs.Terminal.{terminals}
use Rattle.hog_program.specs.declared.stop.BuildStop.{BuildStop}
use Rattle.hog_program.specs.declared.stop.BuildStop.TheVariants as stop
use Rattle.hog_program.specs.Source.{IsProgram, IsNone, highest}
use Rattle.hog_program.proofs.laws.program_or_none.Goals as goal

never : OneList → NotBoth → (source : List ℕ) (tree : Stms) (s : BuildStop) → IsProgram source tree → IsNone source s → ⊥
never one both source tree stop.TooLong p n = absurd (omega (arith, p.short, n))
never one both source tree (stop.NotUtf8 at) p n = n.1 p.cut.utf8
never one both source tree (stop.BadByte at) p n = both source p.list fault.BadByte at p.cut n.2.stands
never one both source tree (stop.Unclosed at) p n = both source p.list fault.Unclosed at p.cut n.2.stands
never one both source tree (stop.TooLarge at) p n = both source p.list fault.TooLarge at p.cut n.2.stands
never one both source tree (stop.Syntax at) p n =
    let same = one source p.list n.1.list p.cut n.1.cut in
    n.1.none tree p.height (subst (λ l. Spells tree (terminals source l) p.height) same p.spelled)
never one both source tree (stop.TooNested at) p n =
    let same = one source p.list n.1.list p.cut n.1.cut in
    let high : highest < p.height = n.1.high tree p.height (subst (λ l. Spells tree (terminals source l) p.height) same p.spelled) in
    absurd (omega (arith, high, p.low))
never one both source tree (stop.AlreadyDeclared at) p n = n
never one both source tree (stop.AssignsUnknown at) p n = n
never one both source tree (stop.UnknownFunction at) p n = n
never one both source tree (stop.WrongCount at) p n = n
never one both source tree stop.OutOfMemory p n = n

pub returns : goal.returns
returns c = never c.one_list.ensures c.not_both.ensures
