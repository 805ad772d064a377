use Rattle.hog_library.specs.Natives.{upper_called}
use Rattle.hog_library.proofs.Found.{found_given, found_text}
use Rattle.hog_library.proofs.text_natives.upper.Goals as goal

pub returns : goal.returns
unfolding upper_called
returns c =
    let h = c.args.heap.now in
    let units = c.args.m.now.units in
    found_given _ _ _ c.new_text.result h units c.in_ok-text.ensures.ok
    (found_text _ c.upper.result _ h units _ c.new_text.ensures c.units_left.ensures c.upper.ensures.ok c.upper.ensures.spent)
