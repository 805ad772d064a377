-- The rows that a keeper tells, by job.
use Rattle.std.specs.Prelude.{ℕ, ◌≡◌, ◌==◌, Bool, true, if◌then◌else◌, Option, Some}
use Rattle.cyclotron_jobs.specs.declared.row.Row.{Row}

-- the rows by job after one was put
abbrev pub put_at : (ℕ → Option Row) → Row → ℕ → Option Row
put_at held row job = if job == row.job then Some row else held job

-- where rows are told, the row took the place of the one of its job, and no other row changed
abbrev pub PutsRow : Bool → (before after : ℕ → Option Row) → Row → Type 0
PutsRow tells before after row = tells ≡ true → (job : ℕ) → after job ≡ put_at before row job

-- where rows are told, none changed
abbrev pub SameRows : Bool → (before after : ℕ → Option Row) → Type 0
SameRows tells before after = tells ≡ true → (job : ℕ) → after job ≡ before job
