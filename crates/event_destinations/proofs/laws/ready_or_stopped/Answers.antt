use Rattle.event_destinations.proofs.Stops.{never_both}
use Rattle.event_destinations.proofs.laws.ready_or_stopped.Goals as goal

pub returns : goal.returns
returns c = never_both c.built_or_unbuilt.ensures
