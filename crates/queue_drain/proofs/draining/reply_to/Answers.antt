use Rattle.std.proofs.Common.{◌≡◌, ap, subst}
use Rattle.lock_ids.specs.declared.lock.LockId.{LockId}
use Rattle.cyclotron_jobs.specs.declared.entry.Entry.TheVariants.{Replied}
use Rattle.cyclotron_jobs.specs.Leases.{LeaseOf}
use Rattle.cyclotron_core.specs.Changes.{IsOneStep, row_after_reply}
use Rattle.queue_drain.proofs.DrainLemmas.{IsFlushed-reply}
use Rattle.queue_drain.proofs.draining.reply_to.Goals as goal

pub returns-in-Ok-clause-ok : goal.returns-in-Ok-clause-ok
returns-in-Ok-clause-ok g c =
    let reply = c.in_ok-answered.answered.reply in
    let lock : c.lease.inside.lock ≡ c.args.lease.now.lock = ap (λ (l : LeaseOf). l.lock) c.lease.view_is in
    IsFlushed-reply c.requires.live reply c.requires.on_fetch c.in_ok-answered.ensures.few
    (subst (λ (k : LockId). IsOneStep g.K.Keeper.tells g.K.Keeper.held c.args.queue.now c.flush_reply.new.self k.job (row_after_reply reply) (Replied k.job k reply))
    lock c.in-Ok.ensures.ok)
