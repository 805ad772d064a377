use Rattle.std.proofs.Common.{◌≡◌, Some, take}
use Rattle.event_plans.specs.Function.{answer_of}
use Rattle.event_plans.specs.Members.{read_all, views}
use Rattle.event_plans.proofs.function.answers_of.Given as goal

-- the values up to this one are these answers
abbrev pub invariant-loop-value : goal.invariant-loop-value
invariant-loop-value l = read_all answer_of (views (take l.value-index l.values)) ≡ Some l.answers.items
