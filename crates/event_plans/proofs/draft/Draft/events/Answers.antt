use Rattle.std.proofs.Common.{◌≡◌, ◌≢◌, ◌+◌, ◌≤◌, None, Some, [], ◌∷◌, ◌++◌, length, take, sym, ap, ◌∙◌}
use Rattle.serde_json.specs.View.{view}
use Rattle.event_plans.specs.Drafts.{data_of, datas_of}
use Rattle.event_plans.specs.Event.{event_stop, events_stop}
use Rattle.event_plans.specs.Members.{views}
use Rattle.event_plans.specs.declared.stop.DraftStop.TheVariants.{OutOfMemory}
use Rattle.event_plans.proofs.Lists.{map_push, place_of, split_at, stop_none, stop_some, views_more}
use Rattle.event_plans.proofs.Passed.{err_passed}
use Rattle.event_plans.proofs.draft.Draft.events.Goals as goal

pub returns-in_err-read-clause-stop : goal.returns-in_err-read-clause-stop
returns-in_err-read-clause-stop c =
    let vs = c.args.values.now in
    let n = c.loop-n.n in
    let v = c.index-values-n.result in
    let split = split_at vs n v c.loop-n-test.true c.index-values-n.is in
    let place = place_of vs n c.loop-n-test.true in
    err_passed c.from_residual.result c.in_err-read.field-0.0 (λ s. s ≢ OutOfMemory → events_stop 0 (views vs) ≡ Some s) c.from_residual.ensures.1
    (λ other. ap (events_stop 0) split.1
    ∙ stop_some (views (take n vs)) 0 (view v) split.0 c.in_err-read.field-0.0 c.loop-n.invariant.are (ap (λ k. event_stop k (view v)) place ∙ c.in_err-read.ensures.stop other))

pub loop-n-preserved : goal.loop-n-preserved
loop-n-preserved c =
    let vs = c.args.values.now in
    let n = c.loop-n.n in
    let v = c.index-values-n.result in
    let es = c.loop-n.events.items in
    let e = c.in_ok-read.field-0 in
    let more = views_more vs n v c.loop-n-test.true c.index-values-n.is in
    let place = place_of vs n c.loop-n-test.true in
    record {
      events = ap datas_of c.in_ok-push.ensures.items
          ∙ map_push data_of es e
          ∙ ap (λ ds. ds ++ data_of e ∷ []) c.loop-n.invariant.events
          ∙ ap (λ d. views (take n vs) ++ d ∷ []) c.in_ok-read.ensures.event
          ∙ sym more;
      are = ap (events_stop 0) more
          ∙ stop_none (views (take n vs)) 0 (view v) c.loop-n.invariant.are (ap (λ k. event_stop k (view v)) place ∙ c.in_ok-read.ensures.is);
    }
