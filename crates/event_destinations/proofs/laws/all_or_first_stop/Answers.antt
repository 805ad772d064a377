use Rattle.event_destinations.proofs.Stops.{none_first}
use Rattle.event_destinations.proofs.laws.all_or_first_stop.Goals as goal

pub returns : goal.returns
returns c = none_first c.ready_or_stopped.ensures
