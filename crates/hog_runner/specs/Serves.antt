-- What a command does with a source and a sink, by the status that it answers. Of a source `left` are the bytes that it has left,
-- where it tells them, and of a sink `taken` are those that it took; `reads` and `writes` are their counts of faults.
use Rattle.std.specs.Prelude.{◌≡◌, ◌⊎◌, ℕ, ◌+◌, ◌≤◌, List, [], Option, Some}
use Rattle.std.specs.List.{AllZip}
use Rattle.std.specs.Option.{ForSome}
use Rattle.hog_outside.specs.Faults.{Rose}
use Rattle.cyclotron_jobs.specs.declared.entry.Entry.{Entry}
use Rattle.cyclotron_jobs.specs.declared.input.JobInput.{JobInput}
use Rattle.cyclotron_jobs.specs.declared.row.Row.{Row}
use Rattle.line_writer.specs.Added.{AddsBytes, AddsSome, AddsSomePrefix, AddsUnless}
use Rattle.made_jobs.specs.Made.{Makes, IsCompletedOf}
use Rattle.made_jobs.specs.declared.making.MadeCounts.{MadeCounts}
use Rattle.script_reader.specs.declared.step.Step.{Step}
use Rattle.script_steps.specs.Plays.{Plays}
use Rattle.hog_runner.specs.Commands.{ScriptOf, make_line, most_bytes}
use Rattle.hog_runner.specs.Takes.{TakesAtMost}
use Rattle.hog_runner.specs.Writes.{refusal}

-- An output is written: the whole of it at 0; a prefix of a part of it at 4, which comes only where a write failed, and at 5,
-- for want of memory, where nothing may be written too.
pub data Puts {W : Type 0} (taken : W → Option (List ℕ)) (writes : W → ℕ) (output part : List ℕ → Type 0) (old new : W) (status : ℕ) : Type 0 where
  Whole : status ≡ 0 → AddsSome (taken old) (taken new) output → Puts taken writes output part old new status
  WriteFailed : status ≡ 4 → Rose (writes old) (writes new) → AddsSomePrefix (taken old) (taken new) part
      → Puts taken writes output part old new status
  NoMemory : status ≡ 5 → (new ≡ old) ⊎ AddsSomePrefix (taken old) (taken new) part → Puts taken writes output part old new status

-- The line of a refusal is written: at 1, all of it or a prefix of it at a fault. At 5 nothing is written, for want of memory.
pub data PutsRefusal {W : Type 0} (taken : W → Option (List ℕ)) (writes : W → ℕ) (cause : List ℕ) (old new : W) (status : ℕ) : Type 0 where
  Told : status ≡ 1 → AddsUnless (Rose (writes old) (writes new)) (taken old) (taken new) (refusal cause)
      → PutsRefusal taken writes cause old new status
  Untold : status ≡ 5 → new ≡ old → PutsRefusal taken writes cause old new status

-- What a command does at its status, by how its input may be refused, what it writes for it, and what parts of that there are.
pub data AtStatus {S W : Type 0} (left : S → Option (List ℕ)) (reads : S → ℕ) (taken : W → Option (List ℕ)) (writes : W → ℕ)
    (refuses output part : List ℕ → List ℕ → Type 0) (source after : S) (sink new : W) (status : ℕ) : Type 0 where
  -- 0, 4, 5: the input is taken
  Taken : Puts taken writes (λ out. ForSome (left source) (λ text. output text out)) (λ out. ForSome (left source) (λ text. part text out)) sink new status
      → AtStatus left reads taken writes refuses output part source after sink new status
  -- 1, 5: there is a cause to refuse it
  Refused : (cause : List ℕ) → ForSome (left source) (λ text. refuses text cause) → PutsRefusal taken writes cause sink new status
      → AtStatus left reads taken writes refuses output part source after sink new status
  -- 3: a read failed, and nothing is written
  Unread : status ≡ 3 → Rose (reads source) (reads after) → new ≡ sink → AtStatus left reads taken writes refuses output part source after sink new status
  -- 5: there was no memory for the input, and nothing is written
  NoRoom : status ≡ 5 → new ≡ sink → AtStatus left reads taken writes refuses output part source after sink new status

-- What is promised of each command: what it does at its status; that the input is read to its end where the command is done;
-- that not more is read than may be; and that counts never fall.
pub record Serves {S W : Type 0} (left : S → Option (List ℕ)) (reads : S → ℕ) (taken : W → Option (List ℕ)) (writes : W → ℕ)
    (refuses output part : List ℕ → List ℕ → Type 0) (source after : S) (sink new : W) (status : ℕ) : Type 0 where
  pub at : AtStatus left reads taken writes refuses output part source after sink new status
  pub end : status ≡ 0 → ForSome (left source) (λ text. left after ≡ Some [])
  pub bounded : TakesAtMost (most_bytes + 1) (left source) (left after)
  pub reads_rise : reads source ≤ reads after
  pub writes_rise : writes sink ≤ writes new

-- A queue was closed: a play of some steps leads to it, and all lines of the play were written. Where the source tells its bytes
-- they are a script of these steps.
pub record ClosesQueue (left taken after : Option (List ℕ)) (faults last : ℕ) (rows : List Row) (history : List Entry) : Type 0 where
  pub steps : List Step
  pub script : ForSome left (λ text. ScriptOf text steps)
  pub written : AddsSome taken after (Plays faults last steps rows history)

-- The queue of a made plan was closed: its jobs have the inputs of the plan in order and are all completed, and the line of their
-- counts was written.
pub record ClosesMade (n : ℕ) (taken after : Option (List ℕ)) (rows : List Row) : Type 0 where
  pub inputs : List JobInput
  pub counts : MadeCounts
  pub makes : Makes n inputs counts
  pub completed : AllZip IsCompletedOf inputs rows
  pub written : AddsBytes taken after (make_line n counts)
