use Rattle.std.proofs.Common.{◌≡◌, List, ◌++◌, ◌∷◌, [], set, refl, ap, sym, ◌∙◌, subst, arith, add-zero}
use Rattle.cyclotron_jobs.specs.declared.row.Row.{Row}
use Rattle.cyclotron_jobs.specs.declared.row.JobState.TheVariants.{Available, Running}
use Rattle.cyclotron_jobs.specs.declared.entry.Entry.TheVariants.{PutBack}
use Rattle.queue_history.proofs.Steps.{IsStep-put_back}
use Rattle.cyclotron_core.specs.Listing.{IsListing}
use Rattle.cyclotron_core.proofs.Found.{IsLiveRow-from, IsListingBefore-live}
use Rattle.cyclotron_core.proofs.Rooms.{IsQueue-step}
use Rattle.cyclotron_core.proofs.queue.QueueState.put_back.Goals as goal

pub move_job-requires : goal.move_job-requires
move_job-requires g c =
    let live = IsLiveRow-from c.self.view_is c.in_ok-place.ensures.found c.in_ok-place.ensures.owner c.index_mut-row.result.now c.index_mut-row.ensures.value in
    IsListingBefore-live _ c.self.invariant.sound.kept c.self.invariant.listed live c.as_slice.ensures.value

pub invariant_of-self-2 : goal.invariant_of-self-2
invariant_of-self-2 g c =
    let live = IsLiveRow-from c.self.view_is c.in_ok-place.ensures.found c.in_ok-place.ensures.owner c.index_mut-row.result.now c.index_mut-row.ensures.value in
    rw (c.push_reserved.ensures.items, c.in_ok-make_room.ensures.items, c.in_ok-put_back.ensures.ok)
    (IsQueue-step c.self.invariant live.read live.owner
    (IsStep-put_back c.self.invariant.sound.kept c.in_ok-place.place live.read c.args.lock.job (sym live.place) c.args.lock live.locked c.args.at)
    (sym (add-zero _)) (c.in_ok-put_back.ensures.put.ok refl) (λ (e : Available ≡ Running). absurd cc)
    (subst (λ (rows : List Row). IsListing rows c.move_job.new.lists) (c.as_slice.ensures.value ∙ ap (λ (r : Row). set c.self.inside.rows.items c.in_ok-place.place r) c.in_ok-put_back.ensures.ok) c.move_job.ensures))

pub returns-clause-ok : goal.returns-clause-ok
returns-clause-ok g c =
    let old = c.index_mut-row.result.now in
    let live = IsLiveRow-from c.self.view_is c.in_ok-place.ensures.found c.in_ok-place.ensures.owner old c.index_mut-row.ensures.value in
    rw (← c.self.view_is) record {
      before = old;
      there = live.there;
      rows = rw (c.in_ok-put_back.ensures.ok, ← live.place) refl;
      history = c.push_reserved.ensures.items ∙ ap (λ h. h ++ PutBack c.args.lock.job c.args.lock c.args.at ∷ []) c.in_ok-make_room.ensures.items;
      told = c.in_ok-put_back.ensures.put.ok refl;
      spare = omega (arith, c.in_ok-make_room.ensures.len, c.in_ok-make_room.ensures.capacity, c.push_reserved.ensures.len, c.push_reserved.ensures.capacity);
    }
