-- Refusals of drafts and of destinations are those of plans.
use Rattle.std.proofs.Common.{◌≡◌, ◌≢◌, ℕ, List, refl}
use Rattle.event_plans.specs.Draft.{DraftOf, IsDraft, IsNoDraft}
use Rattle.event_plans.specs.declared.stop.DraftStop.{DraftStop}
use Rattle.event_plans.specs.declared.stop.DraftStop.TheVariants as draft
use Rattle.event_destinations.specs.Destinations.{IsFirstStop}
use Rattle.event_destinations.specs.declared.stop.DestinationStop.{DestinationStop}
use Rattle.event_destinations.specs.declared.stop.DestinationStop.TheVariants as destination
use Rattle.event_reader.specs.Plans.{IsNoPlan, MakesNone, NoPlanOf}
use Rattle.event_reader.specs.Stops.{of_destination, of_draft}
use Rattle.event_reader.specs.declared.stop.Counted.TheVariants as counted
use Rattle.event_reader.specs.declared.stop.Measured.TheVariants as measured
use Rattle.event_reader.specs.declared.stop.PlanStop.{PlanStop}
use Rattle.event_reader.specs.declared.stop.PlanStop.TheVariants.{NotJson, NotAPlan, Missing, BadUuid, BadFunction, BadPattern, TooMany, TooLarge, OutOfMemory}

pub draft_stops : (text : List ℕ) (s : DraftStop) → IsNoDraft text s → IsNoPlan text (of_draft s)
draft_stops text draft.NotJson none = none
draft_stops text draft.NotAPlan none = none
draft_stops text draft.TooManyEvents none = none
draft_stops text draft.TooManyFunctions none = none
draft_stops text (draft.Missing n) none = none
draft_stops text (draft.BadUuid n) none = none
draft_stops text (draft.TooLarge n) none = none
draft_stops text draft.OutOfMemory none = none

pub destination_stops : (d : DraftOf) (s : DestinationStop) → s ≢ destination.OutOfMemory → IsFirstStop 0 d.functions s → NoPlanOf d (of_destination s)
destination_stops d (destination.BadFunction n why) other first = first
destination_stops d (destination.BadPattern n) other first = first
destination_stops d (destination.TooLarge n) other first = first
destination_stops d destination.OutOfMemory other first = absurd (other refl)

pub makes_none : (text : List ℕ) (d : DraftOf) → IsDraft text d → (stop : PlanStop) → NoPlanOf d stop → IsNoPlan text stop
makes_none text d is NotJson none = absurd none
makes_none text d is NotAPlan none = absurd none
makes_none text d is (Missing n) none = absurd none
makes_none text d is (BadUuid n) none = absurd none
makes_none text d is (BadFunction n why) none = record { draft = d; is_draft = is; none = none }
makes_none text d is (BadPattern n) none = record { draft = d; is_draft = is; none = none }
makes_none text d is (TooMany counted.Events) none = absurd none
makes_none text d is (TooMany counted.Functions) none = absurd none
makes_none text d is (TooMany counted.Jobs) none = record { draft = d; is_draft = is; none = none }
makes_none text d is (TooLarge (measured.Event n)) none = absurd none
makes_none text d is (TooLarge (measured.Inputs n)) none = record { draft = d; is_draft = is; none = none }
makes_none text d is (TooLarge measured.Jobs) none = record { draft = d; is_draft = is; none = none }
makes_none text d is OutOfMemory none = absurd none
