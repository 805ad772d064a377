use Rattle.std.proofs.Common.{◌≡◌, Some, take}
use Rattle.event_plans.specs.Drafts.{functions_of}
use Rattle.event_plans.specs.Function.{function_in}
use Rattle.event_plans.specs.Members.{read_all, views}
use Rattle.event_plans.proofs.draft.Draft.functions.Given as goal

-- the values up to this one are these functions
abbrev pub invariant-loop-value : goal.invariant-loop-value
invariant-loop-value l = read_all function_in (views (take l.value-index l.values)) ≡ Some (functions_of l.functions.items)
