-- What a turn of the janitor does to a queue.
use Rattle.std.specs.Prelude.{ℕ, ◌≡◌, ◌⊎◌, List, ◌++◌, length, All}
use Rattle.std.specs.List.{AllZip}
use Rattle.cyclotron_jobs.specs.declared.row.Row.{Row}
use Rattle.cyclotron_jobs.specs.declared.entry.Entry.{Entry}
use Rattle.cyclotron_jobs.specs.declared.entry.Entry.TheVariants.{Queued, Taken, Beat, Ran, Replied, Swept, PutBack}
use Rattle.cyclotron_core.specs.Queue.{QueueOf}
use Rattle.cyclotron_core.specs.Changes.{row_after_sweep}

-- the entry is a sweep of this moment
abbrev pub IsSweptAt : ℕ → Entry → Type 0
IsSweptAt moment (Queued job priority at) = ⊥
IsSweptAt moment (Taken job on lock now) = ⊥
IsSweptAt moment (Beat job lock now) = ⊥
IsSweptAt moment (Ran job lock from to next) = ⊥
IsSweptAt moment (Replied job lock reply) = ⊥
IsSweptAt moment (Swept job now beat) = now ≡ moment
IsSweptAt moment (PutBack job lock at) = ⊥

-- the row is as before, or it was swept once
abbrev pub IsSameOrSwept : ℕ → Row → Row → Type 0
IsSameOrSwept moment before after = (after ≡ before) ⊎ (after ≡ row_after_sweep moment before)

-- n sweeps of one moment were appended and nothing else, and each row is as before or was swept once
pub record HasSwept {K : Type 0} (moment n : ℕ) (old new : QueueOf K) : Type 0 where
  pub more : List Entry
  pub history : new.history ≡ old.history ++ more
  pub count : length more ≡ n
  pub sweeps : All (IsSweptAt moment) more
  pub rows : AllZip (IsSameOrSwept moment) old.rows new.rows
