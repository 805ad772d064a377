use Rattle.std.proofs.Common.{ap}
use Rattle.std.specs.Prelude.{Err}
use Rattle.hog_library.proofs.Made.{tries_then, tries_stop, tries_made}
use Rattle.hog_library.proofs.making.try_first.Goals as goal

pub returns-in_err-make_texts : goal.returns-in_err-make_texts
returns-in_err-make_texts c =
    let e = c.in_err-make_texts.ensures in
    tries_stop _ _ c.in_err-make_texts.field-0.0 _ _ _ _ _ c.from_residual.ensures.1 (λ is. e.spent (ap Err is)) e.turns_and_depth e.grows e.covered

pub returns : goal.returns
returns c =
    let e = c.in_ok-make_texts.ensures in
    tries_then _ _ _ _ _ _ _ _ _ _ e.ok e.turns_and_depth e.grows (tries_made _ _ _ _ _ _ c.make_kept.ensures)
