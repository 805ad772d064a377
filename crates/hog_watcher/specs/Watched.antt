-- What a watcher holds.
use Rattle.std.specs.Prelude.{ℕ, suc, ◌+◌, ◌*◌, ◌^◌, ◌≤◌, List, replicate, slice_index_or, slice_set}
use Rattle.std.specs.List.{All}
use Rattle.cyclotron_jobs.specs.declared.row.Row.{Row}
use Rattle.hog_watcher.specs.Costs.{cost_of}

-- what each destination has cost, and how many jobs were noted
pub record WatcherOf : Type 0 where
  pub spent : List ℕ
  pub notes : ℕ

abbrev pub fresh : ℕ → WatcherOf
fresh functions = record { spent = replicate functions 0; notes = 0 }

-- what a destination has cost
abbrev pub spent_at : WatcherOf → ℕ → ℕ
spent_at w function = slice_index_or w.spent function 0

-- a job of a destination was noted
abbrev pub noted : WatcherOf → ℕ → Row → WatcherOf
noted w function row = record {
  spent = slice_set w.spent function (spent_at w function + cost_of row);
  notes = suc w.notes;
}

-- so many jobs can't have cost more
abbrev pub AreSmall : ℕ → List ℕ → Type 0
AreSmall notes spent = All (λ cost. cost ≤ notes * 2 ^ 75) spent
