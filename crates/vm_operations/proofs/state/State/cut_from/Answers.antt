use Rattle.std.proofs.Common.{length, All, sym, subst}
use Rattle.hog_value.specs.Values.{NamesBelow}
use Rattle.vm_frames.specs.Parts.{ClosedBelow}
use Rattle.vm_frames.proofs.Lists.{All-keep}
use Rattle.vm_operations.proofs.Fit.{closed_named}
use Rattle.vm_operations.proofs.state.State.cut_from.Goals as goal

pub invariant_of-self : goal.invariant_of-self
invariant_of-self c =
    let n = length c.self.inside.heap in
    record {
      values = subst (All (NamesBelow n)) (sym c.keep.ensures) (All-keep (NamesBelow n) c.self.inside.stack c.args.len c.self.invariant.values);
      taken = subst (All (ClosedBelow n)) (sym c.close.ensures) (closed_named n c.args.height c.self.inside.stack c.self.inside.upvalues c.self.invariant.values c.self.invariant.taken);
      covered = c.self.invariant.covered;
    }
