-- What a job costs, and how a destination does by what its jobs have cost.
use Rattle.std.specs.Prelude.{ℕ, ◌+◌, ◌*◌, Bool, nat_le, Option, Some, None, count_by, if◌then◌else◌}
use Rattle.hog_value.specs.declared.trace.End.{End}
use Rattle.hog_value.specs.declared.trace.End.TheVariants.{Done, Threw, TurnsSpent, MemorySpent, TooDeep, TooManyFetches}
use Rattle.cyclotron_jobs.specs.declared.input.Reply.{Reply}
use Rattle.cyclotron_jobs.specs.declared.row.Row.{Row}
use Rattle.hog_watcher.specs.declared.cost.Health.{Health}
use Rattle.hog_watcher.specs.declared.cost.Health.TheVariants.{Healthy, Degraded, Disabled}

-- a reply of status 500 or more
abbrev pub is_failure : Reply → Bool
is_failure reply = nat_le 500 reply.status

-- an end that is no result costs 10,000
abbrev pub end_cost : Option End → ℕ
end_cost None = 10000
end_cost (Some (Done text)) = 0
end_cost (Some (Threw text)) = 10000
end_cost (Some TurnsSpent) = 10000
end_cost (Some MemorySpent) = 10000
end_cost (Some TooDeep) = 10000
end_cost (Some TooManyFetches) = 10000

-- the job's operations, 1,000 for each failed reply that its program took, and what its end costs
abbrev pub cost_of : Row → ℕ
cost_of row = row.ops + 1000 * count_by is_failure row.replies + end_cost row.shown.end

-- disabled from 40,000 on, degraded from 20,000 on
abbrev pub health_of : ℕ → Health
health_of spent = if nat_le 40000 spent then Disabled else if nat_le 20000 spent then Degraded else Healthy
