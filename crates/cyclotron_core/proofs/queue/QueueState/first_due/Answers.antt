use Rattle.std.proofs.Common.{◌≡◌, length, Some, slice_get, refl, arith}
use Rattle.std.proofs.lemmas.Option.{slice_get_read, slice_get_within}
use Rattle.index_lists.specs.Lists.{nodes_of}
use Rattle.index_lists.proofs.Walk.{walk-begin, walk-step, walk-shrinks, walk-Contains}
use Rattle.cyclotron_core.specs.Orders.{by_turn, by_turn-strict}
use Rattle.cyclotron_core.specs.Listing.{waiting_list}
use Rattle.cyclotron_core.proofs.Found.{HasState-due}
use Rattle.cyclotron_core.proofs.Moves.{waiting_list-below}
use Rattle.cyclotron_core.proofs.Walks.{IsLate, IsLate-row, waits, walk-row, IsFirstDue-walk, NoneDue-walk}
use Rattle.cyclotron_core.proofs.queue.QueueState.first_due.Goals as goal

pub first-at-requires : goal.first-at-requires
first-at-requires g c = rw (c.waiting.ensures, c.self.invariant.listed.count) (waiting_list-below c.args.queue)

pub walk-init : goal.walk-init
walk-init g c = walk-begin (nodes_of c.self.inside.lists (waiting_list c.args.queue)) (IsLate c.self.inside.rows.items c.args.now) c.first-at.result (rw c.waiting.ensures at c.first-at.ensures)

pub index-requires : goal.index-requires
index-requires g c =
    let row = walk-row c.self.invariant.sound.kept c.self.inside.lists c.self.invariant.listed c.args.now c.args.queue c.in-Some.job (rw c.in-Some.is at c.walk.invariant) in
    omega (arith, c.self.inside.rows.ok.0, slice_get_within c.self.inside.rows.items c.in-Some.job row.0 row.1.0)

pub returns-then-index-now-clause-first : goal.returns-then-index-now-clause-first
returns-then-index-now-clause-first g c =
    let rows = c.self.inside.rows.items in
    let kept = c.self.invariant.sound.kept in
    let walk = rw c.in-Some.is at c.walk.invariant in
    let row = walk-row kept c.self.inside.lists c.self.invariant.listed c.args.now c.args.queue c.in-Some.job walk in
    let here : slice_get rows c.in-Some.job ≡ Some c.index.result.now = slice_get_read rows (length rows) c.in-Some.job c.index.result.now refl (slice_get_within rows c.in-Some.job row.0 row.1.0) c.index.ensures in
    rw (← c.self.view_is) (IsFirstDue-walk kept c.self.inside.lists c.self.invariant.listed c.args.now c.args.queue c.in-Some.job c.index.result.now walk here c.if-index-now.true)

pub returns-then-index-now-clause-row : goal.returns-then-index-now-clause-row
returns-then-index-now-clause-row g c =
    let rows = c.self.inside.rows.items in
    let kept = c.self.invariant.sound.kept in
    let walk = rw c.in-Some.is at c.walk.invariant in
    let row = walk-row kept c.self.inside.lists c.self.invariant.listed c.args.now c.args.queue c.in-Some.job walk in
    let here : slice_get rows c.in-Some.job ≡ Some c.index.result.now = slice_get_read rows (length rows) c.in-Some.job c.index.result.now refl (slice_get_within rows c.in-Some.job row.0 row.1.0) c.index.ensures in
    rw (← c.self.view_is) (HasState-due kept c.args.queue c.args.now (Some c.in-Some.job)
    (IsFirstDue-walk kept c.self.inside.lists c.self.invariant.listed c.args.now c.args.queue c.in-Some.job c.index.result.now walk here c.if-index-now.true))

pub next-at-requires : goal.next-at-requires
next-at-requires g c = (waiting_list c.args.queue, walk-Contains (nodes_of c.self.inside.lists (waiting_list c.args.queue)) (IsLate c.self.inside.rows.items c.args.now) c.in-Some.job (rw c.in-Some.is at c.walk.invariant))

pub walk-smaller : goal.walk-smaller
walk-smaller g c =
    let in_order = (waits c.self.invariant.sound.kept c.self.inside.lists c.self.invariant.listed c.args.now c.args.queue).in_order in
    rw c.in-Some.is (walk-shrinks (by_turn c.self.inside.rows.items) (by_turn-strict c.self.inside.rows.items) (nodes_of c.self.inside.lists (waiting_list c.args.queue)) (IsLate c.self.inside.rows.items c.args.now) c.in-Some.job c.next-at.result
    in_order (rw c.in-Some.is at c.walk.invariant) (λ i here. c.next-at.ensures (waiting_list c.args.queue) i here))

pub walk-preserved : goal.walk-preserved
walk-preserved g c =
    let rows = c.self.inside.rows.items in
    let walk = rw c.in-Some.is at c.walk.invariant in
    let row = walk-row c.self.invariant.sound.kept c.self.inside.lists c.self.invariant.listed c.args.now c.args.queue c.in-Some.job walk in
    let here : slice_get rows c.in-Some.job ≡ Some c.index.result.now = slice_get_read rows (length rows) c.in-Some.job c.index.result.now refl (slice_get_within rows c.in-Some.job row.0 row.1.0) c.index.ensures in
    walk-step (nodes_of c.self.inside.lists (waiting_list c.args.queue)) (IsLate rows c.args.now) c.in-Some.job c.next-at.result walk
    (IsLate-row rows c.args.now c.in-Some.job c.index.result.now here c.if-index-now.false) (λ i at. c.next-at.ensures (waiting_list c.args.queue) i at)

pub returns-clause-first : goal.returns-clause-first
returns-clause-first g c = rw (← c.self.view_is) (NoneDue-walk c.self.invariant.sound.kept c.self.inside.lists c.self.invariant.listed c.args.now c.args.queue (rw c.in_default.is at c.walk.invariant))
