-- Laws of notes.
use Rattle.std.specs.Prelude.{◌≡◌, ℕ, ◌<◌, List, [], ◌∷◌, sum_by, filter, ◌==◌, if◌then◌else◌}
use Rattle.cyclotron_jobs.specs.declared.row.Row.{Row}
use Rattle.hog_watcher.specs.Costs.{cost_of}
use Rattle.hog_watcher.specs.Watched.{WatcherOf, fresh, noted, spent_at}

-- a row that was noted for a destination
pub record Note : Type 0 where
  pub function : ℕ
  pub row : Row

-- a watcher after notes, in order
abbrev pub after : WatcherOf → List Note → WatcherOf
after w [] = w
after w (n ∷ ns) = after (noted w n.function n.row) ns

-- what a note costs that destination
abbrev pub cost_to : ℕ → Note → ℕ
cost_to function n = if n.function == function then cost_of n.row else 0

-- the costs of the rows that were noted for a destination
abbrev pub spent_by : List Note → ℕ → ℕ
spent_by notes function = sum_by (cost_to function) notes

abbrev pub NotesAreSummed : Type 0
NotesAreSummed = (functions function : ℕ) (notes : List Note) → function < functions
    → spent_at (after (fresh functions) notes) function ≡ spent_by notes function

-- the notes for one destination
abbrev pub own : ℕ → List Note → List Note
own function notes = filter (λ (n : Note). n.function == function) notes

abbrev pub OwnNotesDecide : Type 0
OwnNotesDecide = (function : ℕ) (notes : List Note) → spent_by notes function ≡ spent_by (own function notes) function
