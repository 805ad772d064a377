use Rattle.std.proofs.Common.{◌≡◌, ◌<◌, ◌+◌, ◌++◌, ◌∷◌, [], List, length, arith, ap, sym, ◌∙◌, refl, subst}
use Rattle.cyclotron_jobs.specs.declared.row.Row.{Row}
use Rattle.queue_history.specs.declared.TheConstants.{MOST_JOBS}
use Rattle.cyclotron_core.specs.Queue.{QueueOf}
use Rattle.cyclotron_core.specs.Listing.{IsListing, IsListingBut}
use Rattle.cyclotron_core.proofs.Moves.{IsListingBut-pushed, IsListing-reserved}
use Rattle.cyclotron_core.proofs.Rooms.{IsQueue-enqueue, IsQueue-told}
use Rattle.cyclotron_core.proofs.queue.QueueState.enqueue.Goals as goal

pub place-requires : goal.place-requires
place-requires g c =
    let number : c.len-job.result ≡ length c.self.inside.rows.items = omega (arith, c.len-job.ensures, c.self.inside.rows.ok.0) in
    let pushed = c.push_reserved.ensures.items ∙ ap (λ (rows : List Row). rows ++ c.new_row-row.result ∷ []) c.in_ok-reserve.ensures.items in
    subst (λ (rows : List Row). IsListingBut c.len-job.result rows c.reserve-4.new.self) (sym (c.as_slice.ensures.value ∙ pushed))
    (IsListingBut-pushed c.self.inside.rows.items c.new_row-row.result c.len-job.result c.self.inside.lists c.reserve-4.new.self c.self.invariant.listed number c.in_ok-reserve-4.ensures.ok)

pub invariant_of-self-2 : goal.invariant_of-self-2
invariant_of-self-2 g c =
    let number : c.len-job.result ≡ length c.self.inside.rows.items = omega (arith, c.len-job.ensures, c.self.inside.rows.ok.0) in
    let few : c.len-job.result < MOST_JOBS = omega (arith, c.if-is_full.ensures.room, ap (λ (q : QueueOf _). length q.rows) c.self.view_is) in
    let pushed = c.push_reserved.ensures.items ∙ ap (λ (rows : List Row). rows ++ c.new_row-row.result ∷ []) c.in_ok-reserve.ensures.items in
    let listed = subst (λ (rows : List Row). IsListing rows c.place.new.lists) (c.as_slice.ensures.value ∙ pushed) c.place.ensures in
    rw (c.push_reserved.ensures.items, c.push_reserved-2.ensures.items, c.push_reserved-3.ensures.items, c.in_ok-reserve.ensures.items, c.in_ok-reserve-2.ensures.items, c.in_ok-reserve-3.ensures.items)
    (IsQueue-enqueue c.self.invariant _ c.new_row-row.ensures number few c.requires (g.C.Course.begins c.args.input c.requires) (c.in_ok-put_new.ensures.put.ok refl) listed)

pub invariant_of-self-in_err-put_new : goal.invariant_of-self-in_err-put_new
invariant_of-self-in_err-put_new g c =
    rw (c.in_ok-reserve.ensures.items, c.in_ok-reserve-2.ensures.items, c.in_ok-reserve-3.ensures.items)
    (IsQueue-told c.self.invariant (c.in_err-put_new.ensures.put.err refl)
    (IsListing-reserved c.self.inside.rows.items c.self.inside.lists c.reserve-4.new.self (c.len-job.result + 1) c.self.invariant.listed c.in_ok-reserve-4.ensures.ok))
