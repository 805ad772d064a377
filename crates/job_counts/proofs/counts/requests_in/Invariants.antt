use Rattle.std.proofs.Common.{◌≡◌, ◌≤◌, take}
use Rattle.job_counts.specs.Counts.{requests_in}
use Rattle.job_counts.proofs.counts.requests_in.Given as goal

-- the items up to this one are counted
abbrev pub invariant-loop-item : goal.invariant-loop-item
invariant-loop-item l = record { counted : l.count ≡ requests_in (take l.item-index l.trace); few : l.count ≤ l.item-index }
