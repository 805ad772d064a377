-- What is seen of destinations.
use Rattle.std.specs.Prelude.{map, List}
use Rattle.event_plans.specs.Drafts.{function_of}
use Rattle.event_plans.specs.Function.{FunctionOf}
use Rattle.event_destinations.specs.declared.destination.Destination.{Destination}

-- the functions that destinations were made of
abbrev pub of_destinations : List Destination → List FunctionOf
of_destinations ds = map (λ (d : Destination). function_of d.function) ds
