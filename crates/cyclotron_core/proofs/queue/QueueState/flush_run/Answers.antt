use Rattle.std.proofs.Common.{◌≡◌, ◌<◌, List, set, refl, ap, sym, ◌∙◌, subst, arith, add-zero}
use Rattle.cyclotron_jobs.specs.declared.row.Row.{Row}
use Rattle.cyclotron_jobs.specs.Course.{next_of}
use Rattle.cyclotron_jobs.specs.Leases.{AdvanceOf}
use Rattle.queue_history.specs.Facts.{facts_of}
use Rattle.queue_history.proofs.Steps.{IsStep-run}
use Rattle.cyclotron_core.specs.Queue.{QueueOf}
use Rattle.cyclotron_core.specs.Listing.{IsListing}
use Rattle.cyclotron_core.specs.Changes.{IsGrown}
use Rattle.cyclotron_core.specs.Refusals.{IsOwner, RunBegan, Refuses}
use Rattle.cyclotron_core.proofs.Found.{IsLiveRow-from, BeganAt-inside, IsListingBefore-live}
use Rattle.cyclotron_core.proofs.Rooms.{IsQueue-step, IsQueue-refused, state_after-rests}
use Rattle.cyclotron_core.proofs.Sound.{set-undone}
use Rattle.cyclotron_core.proofs.Flushed.{passed_on, Flushes-unready, Flushes-unkept, Flushes-kept}
use Rattle.cyclotron_core.proofs.queue.QueueState.flush_run.Goals as goal

pub returns-in-Err : goal.returns-in-Err
returns-in-Err g c =
    let old = c.args.self.now in
    Flushes-unready (record { stop = c.in-Err.stop; back = c.args.run }) c.in-Err.ensures.grown
    (subst (λ (run : AdvanceOf). Refuses old.history c.args.lock (RunBegan old.rows c.args.lock.job run) ⊥ c.in-Err.stop) c.run.view_is c.in-Err.ensures.refused)
    c.in-Err.ensures.full refl

pub invariant_of-self : goal.invariant_of-self
invariant_of-self g c =
    IsQueue-refused c.self.invariant c.in-Ok.at c.index_mut-row.ensures.value c.in_err-put_run.ensures.err (c.in_err-put_run.ensures.put.err refl)

pub returns-in_err-put_run : goal.returns-in_err-put_run
returns-in_err-put_run g c =
    let old = c.args.self.now in
    let grown = subst (λ (q : QueueOf _). IsGrown old q) (sym c.self.view_is) c.in-Ok.ensures.grown in
    let owner = subst (λ (q : QueueOf _). IsOwner q.history c.args.lock) (sym c.self.view_is) c.in-Ok.ensures.owner in
    let began = subst (λ (run : AdvanceOf). RunBegan c.begin_flush.new.self.rows c.args.lock.job run) c.run.view_is c.in-Ok.ensures.began in
    let refused = c.in_err-put_run.field-0.0 in
    rw (passed_on c.from_residual.result refused c.from_residual.ensures.1) (Flushes-unkept grown owner
    (subst (λ (rows : List Row). RunBegan rows c.args.lock.job c.args.run) c.in-Ok.ensures.grown.rows began)
    c.in_err-put_run.ensures.put.count refused c.in_err-put_run.ensures.refused c.in_err-put_run.ensures.back
    record {
      rows = set-undone c.self.inside.rows.items c.in-Ok.at c.index_mut-row.ensures.value c.in_err-put_run.ensures.err;
      history = refl;
      told = c.in_err-put_run.ensures.put.err refl;
      spare = omega arith;
    }
    c.in_err-put_run.ensures.put.always)

pub move_job-requires : goal.move_job-requires
move_job-requires g c =
    let live = IsLiveRow-from c.self.view_is c.in-Ok.ensures.found c.in-Ok.ensures.owner c.index_mut-row.result.now c.index_mut-row.ensures.value in
    IsListingBefore-live _ c.self.invariant.sound.kept c.self.invariant.listed live c.as_slice.ensures.value

pub push_reserved-requires : goal.push_reserved-requires
push_reserved-requires g c = omega (arith, c.in-Ok.ensures.room, ap (λ (q : QueueOf _). q.spare) c.self.view_is)

pub invariant_of-self-2 : goal.invariant_of-self-2
invariant_of-self-2 g c =
    let old = c.index_mut-row.result.now in
    let live = IsLiveRow-from c.self.view_is c.in-Ok.ensures.found c.in-Ok.ensures.owner old c.index_mut-row.ensures.value in
    let began = BeganAt-inside c.self.view_is c.args.lock.job c.in-Ok.ensures.began live.there in
    let from : c.run.inside.from ≡ c.args.run.from = ap (λ (a : AdvanceOf). a.from) c.run.view_is in
    let to : c.run.inside.to ≡ c.args.run.to = ap (λ (a : AdvanceOf). a.to) c.run.view_is in
    let after : c.run.inside.after ≡ c.args.run.after = ap (λ (a : AdvanceOf). a.after) c.run.view_is in
    let ops : c.args.run.from ≡ (facts_of c.args.lock.job c.self.inside.history.items).ops = sym from ∙ (began.2 ∙ (c.self.invariant.sound.kept.each c.args.lock.job old live.there).ops) in
    let rises : c.args.run.from < c.args.run.to = omega (arith, c.run.invariant.0) in
    let course : g.C.Course.on_course old.input old.replies c.args.run.to c.args.run.saved c.args.run.shown c.args.run.after = rw (← c.run.view_is, ← began.0, ← began.1) c.run.invariant.1 in
    rw (c.push_reserved.ensures.items, c.in_ok-put_run.ensures.ok, c.kind_of-next.ensures, from, to, after)
    (IsQueue-step c.self.invariant live.read (live.owner, ops, rises)
    (IsStep-run c.self.invariant.sound.kept c.in-Ok.at live.read c.args.lock.job (sym live.place) c.args.lock live.locked c.args.run.from c.args.run.to c.args.run.saved c.args.run.shown c.args.run.after course)
    (sym (add-zero _)) (c.in_ok-put_run.ensures.put.ok refl) (λ runs. absurd (state_after-rests (next_of c.args.run.after) runs))
    (subst (λ (rows : List Row). IsListing rows c.move_job.new.lists) (c.as_slice.ensures.value ∙ ap (λ (r : Row). set c.self.inside.rows.items c.in-Ok.at r) c.in_ok-put_run.ensures.ok) c.move_job.ensures))

pub returns : goal.returns
returns g c =
    let old = c.index_mut-row.result.now in
    let live = IsLiveRow-from c.self.view_is c.in-Ok.ensures.found c.in-Ok.ensures.owner old c.index_mut-row.ensures.value in
    let began = subst (λ (run : AdvanceOf). RunBegan c.begin_flush.new.self.rows c.args.lock.job run) c.run.view_is c.in-Ok.ensures.began in
    let grown = subst (λ (q : QueueOf _). IsGrown c.args.self.now q) (sym c.self.view_is) c.in-Ok.ensures.grown in
    let owner = subst (λ (q : QueueOf _). IsOwner q.history c.args.lock) (sym c.self.view_is) c.in-Ok.ensures.owner in
    Flushes-kept grown owner
    (subst (λ (rows : List Row). RunBegan rows c.args.lock.job c.args.run) c.in-Ok.ensures.grown.rows began)
    c.in_ok-put_run.ensures.put.count
    record {
      before = old;
      there = live.there;
      rows = rw (c.in_ok-put_run.ensures.ok, ← live.place) refl;
      history = rw (c.push_reserved.ensures.items, c.kind_of-next.ensures, ← c.run.view_is) refl;
      told = c.in_ok-put_run.ensures.put.ok refl;
      spare = omega (arith, c.push_reserved.ensures.len, c.push_reserved.ensures.capacity);
    }
