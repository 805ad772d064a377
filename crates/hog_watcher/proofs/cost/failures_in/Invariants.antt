use Rattle.std.proofs.Common.{◌≡◌, ◌≤◌, take}
use Rattle.std.specs.Prelude.{count_by}
use Rattle.hog_watcher.specs.Costs.{is_failure}
use Rattle.hog_watcher.proofs.cost.failures_in.Given as goal

-- the replies up to this one are counted
abbrev pub invariant-loop-reply : goal.invariant-loop-reply
invariant-loop-reply l = record { counted : l.count ≡ count_by is_failure (take l.reply-index l.replies); few : l.count ≤ l.reply-index }
