use Rattle.std.proofs.Common.{◌≡◌, true, sym, subst, arith}
use Rattle.std.specs.Result.{IfOk}
use Rattle.cyclotron_jobs.specs.Leases.{LeaseOf}
use Rattle.vm_course.specs.Belongs.{belongs}
use Rattle.hog_jobs.specs.Course.{replies_of}
use Rattle.hog_jobs.specs.Laws.{GoesOn}
use Rattle.hog_worker.specs.Steps.{TakesNext, IsTakenUp}
use Rattle.hog_worker.proofs.Leased.{IfOk-both, goes_up}
use Rattle.hog_worker.proofs.worker.taken_up.Goals as goal

pub with_reply-requires-clause-counted : goal.with_reply-requires-clause-counted
with_reply-requires-clause-counted c =
    let is = c.in_ok-machine.ensures.loaded in
    let count = is.at.count in
    let few = is.few in
    omega (arith, count, few)

pub with_reply-requires-clause-goes_on : goal.with_reply-requires-clause-goes_on
with_reply-requires-clause-goes_on c =
    let r = c.in_ok-machine.machine.run in
    subst (λ (l : LeaseOf). GoesOn r.state.mode (replies_of l.replies) r.used) (sym c.lease.view_is) c.in_ok-machine.ensures.loaded.goes_on

pub returns-clause-up : goal.returns-clause-up
returns-clause-up c =
    let lease = c.args.lease.now in
    let code = c.args.program.now.code in
    let old = c.in_ok-machine.machine.run in
    let is = c.in_ok-machine.ensures.loaded in
    IfOk-both c.with_reply.result (λ m. TakesNext (replies_of lease.replies) old m.run) (λ m. belongs code m.run ≡ true)
    (λ m. IsTakenUp code lease.input.globals (replies_of lease.replies) lease.ops m.run)
    (λ m takes belong. goes_up code lease.input.globals (replies_of lease.replies) c.runs_take_replies.ensures lease.ops old m.run is takes belong)
    (subst (λ (l : LeaseOf). IfOk c.with_reply.result (λ m. TakesNext (replies_of l.replies) old m.run)) c.lease.view_is c.with_reply.ensures.takes)
    (c.with_reply.ensures.belongs code is.belongs)
