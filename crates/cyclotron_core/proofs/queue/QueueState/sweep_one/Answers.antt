use Rattle.std.proofs.Common.{◌≡◌, List, set, refl, ap, sym, ◌∙◌, subst, add-zero, arith}
use Rattle.cyclotron_jobs.specs.declared.row.Row.{Row}
use Rattle.queue_history.specs.Facts.{facts_of}
use Rattle.queue_history.proofs.Steps.{IsStep-sweep, sweeps_few}
use Rattle.cyclotron_core.specs.Listing.{IsListing}
use Rattle.cyclotron_core.proofs.Found.{HasState-read, HasState-inside, IsFirstStale-inside, IsListingBefore-running}
use Rattle.cyclotron_core.proofs.Rooms.{IsQueue-step, swept_state-rests}
use Rattle.cyclotron_core.proofs.queue.QueueState.sweep_one.Goals as goal

pub put_sweep-requires : goal.put_sweep-requires
put_sweep-requires g c =
    let read = HasState-read (HasState-inside c.self.view_is c.in-Some.ensures.row) c.index_mut-row.result.now c.index_mut-row.ensures.value in
    sweeps_few c.self.invariant.sound.kept c.in-Some.job read.0 read.1

pub move_job-requires : goal.move_job-requires
move_job-requires g c =
    let read = HasState-read (HasState-inside c.self.view_is c.in-Some.ensures.row) c.index_mut-row.result.now c.index_mut-row.ensures.value in
    IsListingBefore-running _ c.self.invariant.listed read.0 read.1 c.as_slice.ensures.value

pub invariant_of-self-2 : goal.invariant_of-self-2
invariant_of-self-2 g c =
    let at = c.in-Some.job in
    let old = c.index_mut-row.result.now in
    let kept = c.self.invariant.sound.kept in
    let read = HasState-read (HasState-inside c.self.view_is c.in-Some.ensures.row) old c.index_mut-row.ensures.value in
    rw (c.push_reserved.ensures.items, c.in_ok-reserve.ensures.items, c.in_ok-put_sweep.ensures.ok)
    (IsQueue-step c.self.invariant read.0 (IsFirstStale-inside c.self.view_is c.in-Some.ensures.first, (kept.each at old read.0).beat)
    (IsStep-sweep kept at read.0 at refl read.1 c.args.now)
    (sym (add-zero _)) (c.in_ok-put_sweep.ensures.put.ok refl) (λ runs. absurd (swept_state-rests _ runs))
    (subst (λ (rows : List Row). IsListing rows c.move_job.new.lists) (c.as_slice.ensures.value ∙ ap (λ (r : Row). set c.self.inside.rows.items at r) c.in_ok-put_sweep.ensures.ok) c.move_job.ensures))

pub returns-clause-some : goal.returns-clause-some
returns-clause-some g c =
    let at = c.in-Some.job in
    let old = c.index_mut-row.result.now in
    let read = HasState-read (HasState-inside c.self.view_is c.in-Some.ensures.row) old c.index_mut-row.ensures.value in
    let beat : old.beat ≡ (facts_of at c.self.inside.history.items).beat = (c.self.invariant.sound.kept.each at old read.0).beat in
    rw (← c.self.view_is) record {
      first = IsFirstStale-inside c.self.view_is c.in-Some.ensures.first;
      step = record {
        before = old;
        there = read.0;
        rows = rw c.in_ok-put_sweep.ensures.ok refl;
        history = rw (c.push_reserved.ensures.items, c.in_ok-reserve.ensures.items, beat) refl;
        told = c.in_ok-put_sweep.ensures.put.ok refl;
        spare = omega (arith, c.in_ok-reserve.ensures.len, c.in_ok-reserve.ensures.capacity, c.push_reserved.ensures.len, c.push_reserved.ensures.capacity);
      };
      ran = read.1;
    }
