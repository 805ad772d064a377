use Rattle.hog_library.specs.Natives.{replace_all_called}
use Rattle.hog_library.proofs.Found.{found_given, found_text}
use Rattle.hog_library.proofs.text_natives.replace_all.Goals as goal

pub returns : goal.returns
unfolding replace_all_called
returns c =
    let h = c.args.heap.now in
    let units = c.args.m.now.units in
    let r = c.new_text.result in
    found_given _ _ _ r h units c.in_ok-text.ensures.ok (found_given _ _ _ r h units c.in_ok-from.ensures.ok (found_given _ _ _ r h units c.in_ok-to.ensures.ok
    (found_text _ c.replaced.result _ h units _ c.new_text.ensures c.units_left.ensures c.replaced.ensures.ok c.replaced.ensures.spent)))
