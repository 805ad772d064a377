use Rattle.std.proofs.Common.{◌≡◌, ◌∙◌, None, sym, ap, map, slice_get}
use Rattle.index_lists.specs.Lists.{nodes_of}
use Rattle.vm_course.specs.Stack.{close}
use Rattle.vm_frames.proofs.Closing.{none_left}
use Rattle.vm_frames.proofs.Found.{none-first}
use Rattle.vm_frames.proofs.OpenLists.{None-from_test}
use Rattle.vm_frames.proofs.upvalues.Upvalues.close.Goals as goal

pub returns-else-is_some : goal.returns-else-is_some
returns-else-is_some c =
    let us = c.self.inside.listed.list.items in
    let none : slice_get (nodes_of c.self.inside.listed.open_ones 0) 0 ≡ None = sym c.first.ensures ∙ None-from_test c.first.result (sym c.is_some.ensures ∙ c.if-is_some.false) in
    sym c.self.view_is ∙ none_left c.args.height c.args.stack.now us (λ n p at. absurd (none-first us c.self.inside.listed.open_ones c.self.invariant none n p at)) ∙ ap (map (close c.args.height c.args.stack.now)) c.self.view_is
