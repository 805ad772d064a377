use Rattle.std.proofs.Common.{ap, ◌∙◌}
use Rattle.std.specs.Prelude.{slice_get, slice_set}
use Rattle.vm_course.specs.State.{Closed}
use Rattle.vm_frames.proofs.Closing.{listed_closed, set_seen}
use Rattle.vm_frames.proofs.OpenLists.{IsOpenList-closed}
use Rattle.vm_frames.proofs.upvalues.Upvalues.set.Goals as goal

pub invariant_of-self : goal.invariant_of-self
invariant_of-self c =
    let old = c.requires.0 in
    IsOpenList-closed c.self.inside.listed.list.items c.args.number c.args.v c.self.inside.listed.open_ones old c.self.invariant
    (listed_closed c.self.inside.listed.list.items c.args.number old (ap (λ us. slice_get us c.args.number) c.self.view_is ∙ c.requires.1))

pub returns : goal.returns
returns c = set_seen c.self.inside.listed.list.items c.args.number c.args.v ∙ ap (λ us. slice_set us c.args.number (Closed c.args.v)) c.self.view_is
