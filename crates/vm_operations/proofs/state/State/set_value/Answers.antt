use Rattle.std.proofs.Common.{length, All, sym, subst}
use Rattle.hog_value.specs.Values.{NamesBelow}
use Rattle.vm_course.specs.State.{State}
use Rattle.vm_operations.proofs.Fit.{with_named}
use Rattle.vm_operations.proofs.state.State.set_value.Goals as goal

pub invariant_of-self : goal.invariant_of-self
invariant_of-self c =
    let n = length c.self.inside.heap in
    let new : NamesBelow n c.args.v = subst (λ (s : State). NamesBelow (length s.heap) c.args.v) (sym c.self.view_is) c.requires in
    record {
      values = subst (All (NamesBelow n)) (sym c.set.ensures) (with_named n c.self.inside.stack c.args.place c.args.v new c.self.invariant.values);
      taken = c.self.invariant.taken;
      covered = c.self.invariant.covered;
    }
