use Rattle.std.proofs.Common.{◌≡◌, take}
use Rattle.std.specs.Prelude.{sum_by}
use Rattle.event_plans.specs.Drafts.{function_of}
use Rattle.event_plans.specs.declared.function.Function.{Function}
use Rattle.event_reader.specs.Plans.{inputs_nulled}
use Rattle.event_reader.proofs.reader.nulled_in_functions.Given as goal

-- so many are in the functions up to this one
abbrev pub invariant-loop-function : goal.invariant-loop-function
invariant-loop-function l = l.count ≡ sum_by (λ (f : Function). inputs_nulled (function_of f)) (take l.function-index l.functions)
