use Rattle.std.proofs.Common.{refl, subst}
use Rattle.cyclotron_jobs.specs.declared.row.JobState.{JobState}
use Rattle.cyclotron_jobs.specs.Course.{after_of, AsksOn}
use Rattle.queue_history.specs.Rows.{after_in}
use Rattle.cyclotron_core.proofs.Found.{HasState-read, HasState-inside}
use Rattle.cyclotron_core.proofs.queue.QueueState.leased.Goals as goal

pub invariant_of-result : goal.invariant_of-result
invariant_of-result g c =
    let row = c.index-row.result.now in
    let read = HasState-read (HasState-inside c.self.view_is c.requires) row c.index-row.ensures in
    let kept = c.self.invariant.sound.kept in
    let course : g.C.Course.on_course row.input row.replies row.ops row.saved row.shown (after_of row.asks) = subst (λ (s : JobState). g.C.Course.on_course row.input row.replies row.ops row.saved row.shown (after_in s row.asks)) read.1 (kept.courses c.args.job row read.0) in
    let asks : AsksOn row.queue row.asks = (kept.each c.args.job row read.0).asks in
    rw (c.in_ok-copy.ensures, c.in_ok-copy-2.ensures, c.in_ok-copy-3.ensures, c.in_ok-copy_asks.ensures, c.of.ensures) (asks, course)

pub returns : goal.returns
returns g c =
    let row = c.index-row.result.now in
    let read = HasState-read (HasState-inside c.self.view_is c.requires) row c.index-row.ensures in
    rw (← c.self.view_is) record {
      row = row;
      there = read.0;
      copied = rw (c.in_ok-copy.ensures, c.in_ok-copy-2.ensures, c.in_ok-copy-3.ensures, c.in_ok-copy_asks.ensures, c.of.ensures) refl;
    }
