use Rattle.std.proofs.Common.{◌≡◌, ◌≢◌, ◌<◌, length, Some, arith, rules}
use Rattle.cyclotron_core.proofs.Found.{IsOwner-from_row, IsOwnedBy-from_row, Finds-from_row}
use Rattle.cyclotron_core.proofs.queue.QueueState.find.Goals as goal

pub returns-then-ne-clause-refused : goal.returns-then-ne-clause-refused
returns-then-ne-clause-refused g c =
    let within : c.args.lock.job < length c.self.inside.rows.items = omega (arith, c.self.inside.rows.ok.0) in
    let other : c.index-row.result.now.lock ≢ Some c.args.lock = search rules in
    rw (← c.self.view_is) (IsOwnedBy-from_row c.self.invariant.sound.kept c.index-row.result.now within c.index-row.ensures other)

pub returns-clause-found : goal.returns-clause-found
returns-clause-found g c =
    let within : c.args.lock.job < length c.self.inside.rows.items = omega (arith, c.self.inside.rows.ok.0) in
    let live : c.index-row.result.now.lock ≡ Some c.args.lock = search rules in
    rw (← c.self.view_is) (Finds-from_row c.index-row.result.now within c.index-row.ensures live)

pub returns-clause-owner : goal.returns-clause-owner
returns-clause-owner g c =
    let within : c.args.lock.job < length c.self.inside.rows.items = omega (arith, c.self.inside.rows.ok.0) in
    let live : c.index-row.result.now.lock ≡ Some c.args.lock = search rules in
    rw (← c.self.view_is) (IsOwner-from_row c.self.invariant.sound.kept (Finds-from_row c.index-row.result.now within c.index-row.ensures live))
