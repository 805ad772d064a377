use Rattle.std.proofs.Common.{List, refl, sym, subst, arith}
use Rattle.std.specs.List.{AllZip}
use Rattle.cyclotron_jobs.specs.declared.row.Row.{Row}
use Rattle.queue_drain.proofs.DrainLemmas.{HasWorked-none, HasWorked-both, IsOn, IsOn-none, IsOn-step, IsDrained-all, left_in-step}
use Rattle.queue_drain.proofs.draining.drain.Goals as goal

pub jobs-init : goal.jobs-init
jobs-init g c = record {
  worked = HasWorked-none refl refl;
  rows = IsOn-none g.W.Worker.most_replies c.args.now c.args.queue.now.rows;
  count = omega arith;
}

pub returns-in_err-step-clause-worked : goal.returns-in_err-step-clause-worked
returns-in_err-step-clause-worked g c = HasWorked-both c.jobs.invariant.worked c.in_err-step.ensures.worked

pub jobs-smaller : goal.jobs-smaller
jobs-smaller g c = let step = rw c.if-branch.true at c.in_ok-step.ensures.some in left_in-step step

pub jobs-preserved : goal.jobs-preserved
jobs-preserved g c =
    let step = rw c.if-branch.true at c.in_ok-step.ensures.some in
    record {
      worked = HasWorked-both c.jobs.invariant.worked c.in_ok-step.ensures.worked;
      rows = IsOn-step c.args.queue.now c.jobs.invariant.rows step;
      count = omega (arith, c.jobs.invariant.count, c.in_ok-step.ensures.count);
    }

pub returns-clause-drained : goal.returns-clause-drained
returns-clause-drained g c =
    let same = rw c.if-branch.false at c.in_ok-step.ensures.none in
    let none = rw c.if-branch.false at c.in_ok-step.ensures.none_due in
    let kept = c.history.ensures.kept in
    IsDrained-all g.W.Worker.most_replies c.args.now c.args.queue.now.rows c.step.new.queue.rows c.step.new.queue.history kept none
    (subst (λ (rows : List Row). AllZip (IsOn g.W.Worker.most_replies c.args.now) c.args.queue.now.rows rows) (sym same.rows) c.jobs.invariant.rows)
