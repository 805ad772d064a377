use Rattle.std.proofs.Common.{ap}
use Rattle.std.specs.Prelude.{Err}
use Rattle.hog_library.specs.Natives.{error_called}
use Rattle.hog_library.proofs.Made.{tries_then, tries_stop, tries_made, error_same}
use Rattle.hog_library.proofs.making.try_error.Goals as goal

pub returns-in_err-name : goal.returns-in_err-name
unfolding error_called
returns-in_err-name c =
    let e = c.in_err-name.ensures in
    tries_stop _ _ c.in_err-name.field-0.0 _ _ _ _ _ c.from_residual.ensures.1 (λ is. e.spent (ap Err is)) e.turns_and_depth e.grows e.covered

pub returns : goal.returns
unfolding error_called
returns c =
    let e = c.in_ok-name.ensures in
    tries_then _ _ _ _ _ _ _ _ _ _ e.ok e.turns_and_depth e.grows (tries_made _ _ _ _ _ _ (error_same _ _ _ _ _ _ _ _ _ _ c.argument.ensures.value c.argument-2.ensures.value c.make_error.ensures))
