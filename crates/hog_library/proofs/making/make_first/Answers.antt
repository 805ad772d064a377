use Rattle.hog_library.proofs.Made.{makes_undone, closed_back}
use Rattle.hog_library.proofs.making.make_first.Goals as goal

pub or_undone-requires : goal.or_undone-requires
or_undone-requires c = closed_back _ _ _ c.len-cells.ensures.count c.try_first-made.ensures.grows c.len-cells.ensures.sound

pub returns : goal.returns
returns c =
    let e = c.or_undone.ensures in
    makes_undone _ _ _ _ _ _ _ _ _ _ c.try_first-made.ensures e.same c.len-cells.ensures.count e.ok e.ok_meter e.err e.err_meter c.requires
