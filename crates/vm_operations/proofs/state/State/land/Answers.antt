use Rattle.std.proofs.Common.{◌≡◌, length, arith, ap, sym, ◌∙◌}
use Rattle.vm_frames.proofs.Lists.{length-keep, some_first}
use Rattle.vm_operations.proofs.state.State.land.Goals as goal

pub unreachable-requires : goal.unreachable-requires
unreachable-requires c =
    let count : length c.keep.new.self ≡ c.args.frames = ap length c.keep.ensures ∙ length-keep c.self.inside.around c.args.frames (omega arith) in
    some_first c.keep.new.self (omega arith) (sym c.pop.ensures.last ∙ c.in-None.is)
