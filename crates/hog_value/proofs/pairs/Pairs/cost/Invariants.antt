use Rattle.std.proofs.Common.{◌≡◌, ◌^◌, ◌-◌, min, take, sum_by}
use Rattle.hog_value.specs.Cells.{cost_of_pair}
use Rattle.hog_value.proofs.pairs.Pairs.cost.Given as goal

abbrev pub invariant-loop-i : goal.invariant-loop-i
invariant-loop-i l = l.cost ≡ min (sum_by (λ p. cost_of_pair p.0) (take l.i l.self-inside.map.entries)) (2 ^ 64 - 1)
