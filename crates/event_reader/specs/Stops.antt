-- Refusals of drafts and of destinations as refusals of plans.
use Rattle.event_plans.specs.declared.stop.DraftStop.{DraftStop}
use Rattle.event_plans.specs.declared.stop.DraftStop.TheVariants as draft
use Rattle.event_destinations.specs.declared.stop.DestinationStop.{DestinationStop}
use Rattle.event_destinations.specs.declared.stop.DestinationStop.TheVariants as destination
use Rattle.event_reader.specs.declared.stop.Counted.TheVariants.{Events, Functions}
use Rattle.event_reader.specs.declared.stop.Measured.TheVariants.{Event, Inputs}
use Rattle.event_reader.specs.declared.stop.PlanStop.{PlanStop}
use Rattle.event_reader.specs.declared.stop.PlanStop.TheVariants as stop

abbrev pub of_draft : DraftStop → PlanStop
of_draft draft.NotJson = stop.NotJson
of_draft draft.NotAPlan = stop.NotAPlan
of_draft draft.TooManyEvents = stop.TooMany Events
of_draft draft.TooManyFunctions = stop.TooMany Functions
of_draft (draft.Missing n) = stop.Missing n
of_draft (draft.BadUuid n) = stop.BadUuid n
of_draft (draft.TooLarge n) = stop.TooLarge (Event n)
of_draft draft.OutOfMemory = stop.OutOfMemory

abbrev pub of_destination : DestinationStop → PlanStop
of_destination (destination.BadFunction n why) = stop.BadFunction n why
of_destination (destination.BadPattern n) = stop.BadPattern n
of_destination (destination.TooLarge n) = stop.TooLarge (Inputs n)
of_destination destination.OutOfMemory = stop.OutOfMemory
