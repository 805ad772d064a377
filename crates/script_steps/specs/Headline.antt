-- What a flush does, whatever it finds.
use Rattle.std.specs.Prelude.{◌≡◌, ◌⊎◌, ℕ, [], ◌∷◌, ◌++◌, Some, slice_get}
use Rattle.cyclotron_jobs.specs.declared.refused.LeaseStop.TheVariants as stop
use Rattle.cyclotron_core.specs.Refusals.{IsOwner}
use Rattle.script_reader.specs.declared.step.Step.TheVariants.{Flush}
use Rattle.script_steps.specs.declared.said.Held.{Held}
use Rattle.script_steps.specs.declared.said.Product.{Product}
use Rattle.script_steps.specs.declared.said.Said.{Said}
use Rattle.script_steps.specs.declared.said.Said.TheVariants.{Fine, Refused}
use Rattle.script_steps.specs.Play.{Stage, Acts, ProductBegan, entry_of}

-- A worker flushes under a lock that isn't the owner of its job: rows, history and what all workers hold stay as they were.
abbrev pub DeadFlushChangesNothing : Type 0
DeadFlushChangesNothing = (worker : ℕ) (old new : Stage) (said : Said) (held : Held)
    → Acts (Flush worker) old said new → slice_get old.hands worker ≡ Some (Some held)
    → ¬ (IsOwner old.history held.lock) → new ≡ old

-- The flush was done: it appended its entry, or the keeper's fault was said, and all stays as it was.
abbrev pub IsDone : Held → Product → Stage → Said → Stage → Type 0
IsDone held product old said new =
    ((said ≡ Fine) × (new.history ≡ old.history ++ entry_of held.lock product ∷ []))
    ⊎ ((said ≡ Refused stop.Keeper) × (new ≡ old))

-- A worker flushes under the owner of its job what began at the job's committed state: it is done, or a keeper's fault is said.
abbrev pub LiveFlushIsDone : Type 0
LiveFlushIsDone = (worker : ℕ) (old new : Stage) (said : Said) (held : Held) (product : Product)
    → Acts (Flush worker) old said new → slice_get old.hands worker ≡ Some (Some held) → held.product ≡ Some product
    → IsOwner old.history held.lock → ProductBegan old.rows held.lock.job product → IsDone held product old said new
