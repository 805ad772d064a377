use Rattle.std.proofs.Common.{◌≡◌, Some, sym, ap, ◌∙◌, inr}
use Rattle.std.specs.Prelude.{option_map}
use Rattle.std.specs.Option.{option_copied}
use Rattle.vm_course.specs.State.{Waiting}
use Rattle.hog_jobs.specs.Course.{reply_of, replies_of}
use Rattle.hog_worker.proofs.NextReply.{reply_got, reply_there}
use Rattle.hog_worker.proofs.worker.with_reply.Goals as goal

pub unreachable-requires : goal.unreachable-requires
unreachable-requires c =
    let run = c.args.machine.run in
    let replies = c.args.replies.now in
    let waiting : run.state.mode ≡ Waiting = c.is_waiting.ensures.0 c.if-not-is_waiting.false in
    let got = reply_got c.items.result.now c.used.result c.get.result replies run.used c.items.ensures c.used.ensures.count c.get.ensures.lookup in
    reply_there run.state.mode (replies_of replies) run.used c.requires.goes_on waiting (ap (λ r. option_map reply_of (option_copied r)) (sym c.in-None.is) ∙ got)

pub returns-clause-takes : goal.returns-clause-takes
returns-clause-takes c =
    let run = c.args.machine.run in
    let replies = c.args.replies.now in
    let waiting : run.state.mode ≡ Waiting = c.is_waiting.ensures.0 c.if-not-is_waiting.false in
    let got = reply_got c.items.result.now c.used.result (Some c.in-Some.reply) replies run.used c.items.ensures c.used.ensures.count c.in-Some.ensures.lookup in
    inr (waiting, reply_of c.in-Some.reply.now, sym got, c.in_ok-resume-in-Some.ensures.resumed)
