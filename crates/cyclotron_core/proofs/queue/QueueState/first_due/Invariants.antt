use Rattle.index_lists.specs.Lists.{nodes_of}
use Rattle.index_lists.proofs.Walk.{IsWalk, left_at}
use Rattle.cyclotron_core.specs.Listing.{waiting_list}
use Rattle.cyclotron_core.proofs.Walks.{IsLate}
use Rattle.cyclotron_core.proofs.queue.QueueState.first_due.Given as goal

abbrev pub invariant-walk : goal.invariant-walk
invariant-walk g l = IsWalk (nodes_of l.self-inside.lists (waiting_list l.fn.queue)) (IsLate l.self-inside.rows.items l.now) l.at

abbrev pub decreases-walk : goal.decreases-walk
decreases-walk g l = left_at (nodes_of l.self-inside.lists (waiting_list l.fn.queue)) l.at
