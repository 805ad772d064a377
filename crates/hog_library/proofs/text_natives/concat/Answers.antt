use Rattle.hog_library.specs.Natives.{concat_called}
use Rattle.hog_library.proofs.Found.{found_text}
use Rattle.hog_library.proofs.text_natives.concat.Goals as goal

pub returns : goal.returns
unfolding concat_called
returns c = found_text _ c.joined.result _ c.args.heap.now c.args.m.now.units _ c.new_text.ensures c.units_left.ensures c.joined.ensures.ok c.joined.ensures.spent
