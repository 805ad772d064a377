-- What contracts see of a keeper in memory.
use Rattle.std.specs.Prelude.{ℕ, ◌≡◌, ◌≢◌, ◌==◌, ◌<◌, length, slice_index_or, List, Option, find}
use Rattle.cyclotron_jobs.specs.declared.row.Row.{Row}

-- the rows that it holds, the calls that are to fail, how many calls there were, and its count of faults
pub record MemoryOf : Type 0 where
  pub rows : List Row
  pub fails : List ℕ
  pub calls : ℕ
  pub faults : ℕ

-- the row that is held of a job
abbrev pub row_of : List Row → ℕ → Option Row
row_of rows job = find (λ row. row.job == job) rows

-- none of the rows is of the job
abbrev pub HasNone : List Row → ℕ → Type 0
HasNone rows job = (k : ℕ) (d : Row) → k < length rows → (slice_index_or rows k d).job ≢ job

-- the first row of the job stands here
pub record IsFirstOf (rows : List Row) (job at : ℕ) : Type 0 where
  pub within : at < length rows
  pub here : (d : Row) → (slice_index_or rows at d).job ≡ job
  pub first : (k : ℕ) (d : Row) → k < at → (slice_index_or rows k d).job ≢ job
