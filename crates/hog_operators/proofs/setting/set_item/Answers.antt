use Rattle.std.proofs.Common.{subst}
use Rattle.std.proofs.lemmas.Int.{to_z-of_z}
use Rattle.std.specs.Int.{w64}
use Rattle.hog_value.specs.Operations.{set_item_of}
use Rattle.hog_operators.specs.Settles.{Sets}
use Rattle.hog_operators.proofs.Settled.{sets}
use Rattle.hog_operators.proofs.setting.set_item.Goals as goal

pub returns : goal.returns
returns c =
    let e = c.set_item.ensures in
    let h = c.args.heap.now in
    let m = c.args.m.now in
    subst (λ z. Sets (set_item_of h c.args.cell z c.args.v m.units) c.set_item.result h c.set_item.new.self m c.set_item.new.m) (to_z-of_z w64 c.args.index c.ranges.index)
    (sets _ _ _ _ _ _ e.ok e.turns_and_depth e.thrown e.spent e.err e.err_meter e.count e.covered)
