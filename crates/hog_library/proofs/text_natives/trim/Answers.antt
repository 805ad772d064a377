use Rattle.hog_library.specs.Natives.{trim_called}
use Rattle.hog_library.proofs.Found.{found_given, found_text}
use Rattle.hog_library.proofs.text_natives.trim.Goals as goal

pub returns : goal.returns
unfolding trim_called
returns c =
    let h = c.args.heap.now in
    let units = c.args.m.now.units in
    found_given _ _ _ c.new_text.result h units c.in_ok-text.ensures.ok
    (found_text _ c.trimmed.result _ h units _ c.new_text.ensures c.units_left.ensures c.trimmed.ensures.ok c.trimmed.ensures.spent)
