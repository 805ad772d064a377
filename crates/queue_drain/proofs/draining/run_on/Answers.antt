use Rattle.std.proofs.Common.{◌≡◌, ap, subst, arith}
use Rattle.lock_ids.specs.declared.lock.LockId.{LockId}
use Rattle.cyclotron_jobs.specs.declared.entry.Entry.TheVariants.{Ran}
use Rattle.cyclotron_jobs.specs.Course.{next_of}
use Rattle.cyclotron_jobs.specs.Leases.{LeaseOf, AdvanceOf}
use Rattle.cyclotron_core.specs.Changes.{IsOneStep, row_after_run}
use Rattle.queue_drain.proofs.DrainLemmas.{IsFlushed-run}
use Rattle.queue_drain.proofs.draining.run_on.Goals as goal

pub returns-in-Ok-clause-ok : goal.returns-in-Ok-clause-ok
returns-in-Ok-clause-ok g c =
    let run : AdvanceOf = c.in_ok-run.run' in
    let from : c.run.inside.from ≡ run.from = ap (λ (a : AdvanceOf). a.from) c.run.view_is in
    let to : c.run.inside.to ≡ run.to = ap (λ (a : AdvanceOf). a.to) c.run.view_is in
    let fits = c.run.ranges.1.1.1.0.1 in
    let lock : c.lease.inside.lock ≡ c.args.lease.now.lock = ap (λ (l : LeaseOf). l.lock) c.lease.view_is in
    IsFlushed-run c.requires.live run c.in_ok-run.ensures.began (omega (arith, from, to, c.run.invariant.0)) (omega (arith, to, fits))
    (subst (λ (k : LockId). IsOneStep g.K.Keeper.tells g.K.Keeper.held c.args.queue.now c.flush_run.new.self k.job (row_after_run run) (Ran k.job k run.from run.to (next_of run.after)))
    lock c.in-Ok.ensures.ok)
