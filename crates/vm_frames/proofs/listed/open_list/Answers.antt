use Rattle.std.proofs.Common.{◌≡◌, length, arith}
use Rattle.vm_frames.proofs.Adding.{IsOpenList-listed}
use Rattle.vm_frames.proofs.listed.open_list.Goals as goal

pub returns : goal.returns
returns c =
    let all : c.loop-number.number ≡ length c.args.list.now = omega (arith, c.loop-number-test.false, c.loop-number.auto.number-end) in
    IsOpenList-listed c.args.list.now c.loop-number.open_ones c.loop-number.number c.loop-number.invariant.below all c.requires.few c.requires.apart
