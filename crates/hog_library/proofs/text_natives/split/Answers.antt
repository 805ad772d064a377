use Rattle.std.proofs.Common.{ap}
use Rattle.std.specs.Prelude.{Err}
use Rattle.hog_library.specs.Natives.{split_called}
use Rattle.hog_library.proofs.Found.{found_given, finds_stop}
use Rattle.hog_library.proofs.Together.{array_spends}
use Rattle.hog_library.proofs.text_natives.split.Goals as goal

pub returns-in_err-pieces : goal.returns-in_err-pieces
unfolding split_called
returns-in_err-pieces c =
    let h = c.args.heap.now in
    let units = c.args.m.now.units in
    let r = c.from_residual-in_err-pieces.result in
    found_given _ _ _ r h units c.in_ok-separator.ensures.ok (found_given _ _ _ r h units c.in_ok-text.ensures.ok
    (finds_stop _ c.in_err-pieces.field-0.0 r h units c.from_residual-in_err-pieces.ensures.1
    (λ is. array_spends _ h units _ c.units_left.ensures (c.in_err-pieces.ensures.spent (ap Err is)))))
