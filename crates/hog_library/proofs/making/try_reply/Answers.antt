use Rattle.std.proofs.Common.{ap}
use Rattle.std.specs.Prelude.{Err}
use Rattle.hog_library.specs.Cells.{response}
use Rattle.hog_library.proofs.Made.{tries_then, tries_stop, tries_made}
use Rattle.hog_library.proofs.making.try_reply.Goals as goal

pub returns-in_err-v : goal.returns-in_err-v
unfolding response
returns-in_err-v c =
    let e = c.in_err-v.ensures in
    tries_stop _ _ c.in_err-v.field-0.0 _ _ _ _ _ c.from_residual.ensures.1 (λ is. e.spent (ap Err is)) e.turns_and_depth e.grows e.covered

pub returns : goal.returns
unfolding response
returns c =
    let e = c.in_ok-v.ensures in
    tries_then _ _ _ _ _ _ _ _ _ _ e.ok e.turns_and_depth e.grows (tries_made _ _ _ _ _ _ c.make_response.ensures)
