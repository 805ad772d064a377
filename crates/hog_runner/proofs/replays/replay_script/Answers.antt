use Rattle.std.proofs.Common.{refl}
use Rattle.hog_runner.specs.Serves.{Whole}
use Rattle.hog_runner.proofs.replays.replay_script.Goals as goal

pub returns-in-Ok-clause-output : goal.returns-in-Ok-clause-output
returns-in-Ok-clause-output g c =
    let p = c.in-Ok.ensures.played in
    Whole refl
    (p.0, record { before = _; after = _; rows = c.in-Ok.played.jobs.rows; history = c.in-Ok.played.jobs.history; plays = p.1 }, p.2)
