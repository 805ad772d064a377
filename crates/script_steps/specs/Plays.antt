-- What is written where steps are played from an empty queue.
use Rattle.std.specs.Prelude.{◌≡◌, ℕ, List, [], ◌++◌, None, sum_by, take}
use Rattle.std.specs.Prelude.{replicate}
use Rattle.cyclotron_jobs.specs.declared.row.Row.{Row}
use Rattle.cyclotron_jobs.specs.declared.entry.Entry.{Entry}
use Rattle.script_steps.specs.Lines.{step_lines, closing_lines}
use Rattle.script_steps.specs.Play.{Stage, PlaysOn, RoseBy, faults_in}
use Rattle.script_steps.specs.declared.said.Said.{Said}
use Rattle.script_reader.specs.declared.step.Step.{Step}

-- no row, no entry, and sixteen empty hands
abbrev pub empty_stage : Stage
empty_stage = record { rows = []; history = []; hands = replicate 16 None }

-- the steps were played to these rows and this history, these are the lines, and no more faults were said than the
-- keeper's count rose
pub record Plays (before after : ℕ) (steps : List Step) (rows : List Row) (history : List Entry) (out : List ℕ) : Type 0 where
  pub saids : List Said
  pub stage : Stage
  pub played : PlaysOn steps empty_stage saids stage
  pub rows_are : stage.rows ≡ rows
  pub history_is : stage.history ≡ history
  pub lines : out ≡ step_lines steps saids ++ closing_lines rows history
  pub faults : RoseBy (sum_by faults_in saids) before after

-- No more of the keeper's faults are said than its count rose to that of some keeper of its type. So none is said where the count
-- of such keepers never rises.
pub record FitsKeeper {K : Type 0} (faults : K → ℕ) (keeper : K) (saids : List Said) : Type 0 where
  pub last : K
  pub rose : RoseBy (sum_by faults_in saids) (faults keeper) (faults last)

-- the first steps, as many as were played, and their lines; after the last the lines of the jobs and the counts may come
pub data PlaysPart {K : Type 0} (faults : K → ℕ) (keeper : K) (steps : List Step) (out : List ℕ) : Type 0 where
  Some_steps : (n : ℕ) (saids : List Said) (stage : Stage) → PlaysOn (take n steps) empty_stage saids stage
      → FitsKeeper faults keeper saids → out ≡ step_lines (take n steps) saids → PlaysPart faults keeper steps out
  All_steps : (saids : List Said) (stage : Stage) → PlaysOn steps empty_stage saids stage
      → FitsKeeper faults keeper saids → out ≡ step_lines steps saids ++ closing_lines stage.rows stage.history
      → PlaysPart faults keeper steps out
