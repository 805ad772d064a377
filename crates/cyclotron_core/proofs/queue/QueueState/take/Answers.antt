use Rattle.std.proofs.Common.{◌≡◌, ◌+◌, List, set, refl, ap, sym, ◌∙◌, subst, arith}
use Rattle.std.proofs.lemmas.Option.{same_Some}
use Rattle.cyclotron_jobs.specs.declared.row.Row.{Row}
use Rattle.queue_history.specs.Facts.{takes_of}
use Rattle.queue_history.proofs.Steps.{IsStep-take}
use Rattle.cyclotron_core.specs.Queue.{QueueOf, IsRoom}
use Rattle.cyclotron_core.specs.Listing.{IsListing}
use Rattle.cyclotron_core.proofs.Found.{HasState-read, HasState-inside, IsFirstDue-inside, IsLeaseAt-inside, IsTake-from, IsListingBefore-available}
use Rattle.cyclotron_core.proofs.Rooms.{IsQueue-step_room, IsQueue-refused}
use Rattle.cyclotron_core.proofs.Sound.{set-undone}
use Rattle.cyclotron_core.proofs.Flushed.{at_err}
use Rattle.cyclotron_core.proofs.queue.QueueState.take.Goals as goal

pub invariant_of-self-in_err-put_take : goal.invariant_of-self-in_err-put_take
invariant_of-self-in_err-put_take g c =
    rw c.in_ok-reserve.ensures.items (IsQueue-refused c.self.invariant c.in-Some.job c.index_mut-row.ensures.value c.in_err-put_take.ensures.err (c.in_err-put_take.ensures.put.err refl))

pub returns-in_err-put_take-clause-err : goal.returns-in_err-put_take-clause-err
returns-in_err-put_take-clause-err g c =
    at_err c.from_residual-in_err-put_take.result (rw (← c.self.view_is) record {
      rows = set-undone c.self.inside.rows.items c.in-Some.job c.index_mut-row.ensures.value c.in_err-put_take.ensures.err;
      history = c.in_ok-reserve.ensures.items;
      told = c.in_err-put_take.ensures.put.err refl;
      spare = omega (arith, c.in_ok-reserve.ensures.len, c.in_ok-reserve.ensures.capacity);
    })

pub move_job-requires : goal.move_job-requires
move_job-requires g c =
    let read = HasState-read (HasState-inside c.self.view_is c.in-Some.ensures.row) c.index_mut-row.result.now c.index_mut-row.ensures.value in
    IsListingBefore-available _ c.self.invariant.listed read.0 read.1 c.as_slice.ensures.value

pub invariant_of-self-2 : goal.invariant_of-self-2
invariant_of-self-2 g c =
    let at = c.in-Some.job in
    let old = c.index_mut-row.result.now in
    let has = HasState-inside c.self.view_is c.in-Some.ensures.row in
    let read = HasState-read has old c.index_mut-row.ensures.value in
    let first = IsFirstDue-inside c.self.view_is c.in-Some.ensures.first in
    let draw : c.next_draw-draw.result ≡ takes_of c.self.inside.history.items + 1 = c.next_draw-draw.ensures ∙ ap (λ (q : QueueOf _). takes_of q.history + 1) (sym c.self.view_is) in
    let looked = HasState-read has c.index.result.now c.index.ensures in
    let same : c.index.result.now ≡ old = same_Some _ _ (sym looked.0 ∙ read.0) in
    let room : IsRoom old.replies c.in_ok-room.room = record {
      items = c.in_ok-room.ensures.items ∙ ap (λ (r : Row). r.replies) same;
      space = c.in_ok-room.ensures.room;
    } in
    rw (c.push_reserved.ensures.items, c.in_ok-reserve.ensures.items, c.in_ok-put_take.ensures.ok)
    (IsQueue-step_room c.self.invariant read.0 (first, ap (λ d. record { job = at; draw = d }) draw)
    (IsStep-take c.self.invariant.sound.kept at read.0 at refl read.1 c.args.queue _ c.args.now)
    refl (c.in_ok-put_take.ensures.put.ok refl) (λ _. room)
    (subst (λ (rows : List Row). IsListing rows c.move_job.new.lists) (c.as_slice.ensures.value ∙ ap (λ (r : Row). set c.self.inside.rows.items at r) c.in_ok-put_take.ensures.ok) c.move_job.ensures))

pub returns-clause-some : goal.returns-clause-some
returns-clause-some g c =
    let old = c.index_mut-row.result.now in
    let has = HasState-inside c.self.view_is c.in-Some.ensures.row in
    let read = HasState-read has old c.index_mut-row.ensures.value in
    let draw : c.next_draw-draw.result ≡ takes_of c.self.inside.history.items + 1 = c.next_draw-draw.ensures ∙ ap (λ (q : QueueOf _). takes_of q.history + 1) (sym c.self.view_is) in
    rw (← c.self.view_is) (IsTake-from (IsLeaseAt-inside c.self.view_is c.in_ok-lease.ensures) draw (IsFirstDue-inside c.self.view_is c.in-Some.ensures.first) old read.0
    (rw c.in_ok-put_take.ensures.ok refl)
    (rw (c.push_reserved.ensures.items, c.in_ok-reserve.ensures.items) refl)
    (c.in_ok-put_take.ensures.put.ok refl)
    (omega (arith, c.in_ok-reserve.ensures.len, c.in_ok-reserve.ensures.capacity, c.push_reserved.ensures.len, c.push_reserved.ensures.capacity)))
