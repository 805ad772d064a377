-- Why the jobs are not worked to their ends.
use Rattle.std.specs.Prelude.{ℕ}
use Rattle.hog_outside.specs.Faults.{Rose}
use Rattle.hog_jobs.specs.Rows.{KeepsTheMeaning}
use Rattle.made_jobs.specs.declared.making.MakeStop.{MakeStop}
use Rattle.made_jobs.specs.declared.making.MakeStop.TheVariants as stop

-- A fault of the keeper comes only where its count rose, and what the queue keeps holds then too.
abbrev pub IsKeeperStop : {K : Type 0} → (K → ℕ) → K → MakeStop K → Type 0
IsKeeperStop faults keeper (stop.Keeper queue) = Rose (faults keeper) (faults queue.keeper) × KeepsTheMeaning queue.rows queue.history
IsKeeperStop faults keeper stop.OutOfMemory = Unit {0}
