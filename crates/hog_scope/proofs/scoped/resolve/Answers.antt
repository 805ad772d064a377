use Rattle.std.proofs.Common.{map, ap, ◌∙◌}
use Rattle.std.specs.List.{filter_map}
use Rattle.hog_scope.specs.Events.{event_of, name_in}
use Rattle.hog_scope.specs.Scopes.{start}
use Rattle.hog_scope.proofs.Faults.{resolution-passed}
use Rattle.hog_scope.proofs.Runs.{run_more, named_more}
use Rattle.hog_scope.proofs.scoped.resolve.Goals as goal

pub returns-in_err-step-clause-refused : goal.returns-in_err-step-clause-refused
returns-in_err-step-clause-refused c = λ e is spent.
    let xs = c.deref-event-items.result.now in
    resolution-passed c.args.t.now xs
    (ap (map event_of) c.deref-event-items.ensures.value ∙ c.in_ok-words.ensures.words)
    (ap (filter_map name_in) c.deref-event-items.ensures.value ∙ c.in_ok-words.ensures.names)
    c.loop-event.event-index c.event-item.result c.loop-event-test.true c.event-item.is
    c.loop-event.resolver c.loop-event.invariant.ran c.loop-event.invariant.item_count
    c.from_residual-in_err-step.result c.in_err-step.field-0.0 e
    c.from_residual-in_err-step.ensures.1 c.in_err-step.ensures.stop is spent

pub loop-event-preserved : goal.loop-event-preserved
loop-event-preserved c =
    let xs = c.deref-event-items.result.now in
    let i = c.loop-event.event-index in
    record {
      ran = run_more xs i c.event-item.result c.loop-event-test.true c.event-item.is start c.loop-event.resolver c.step.new.self
          c.loop-event.invariant.ran c.in_ok-step.ensures.ok;
      item_count = named_more xs i c.event-item.result c.loop-event-test.true c.event-item.is start c.loop-event.resolver c.step.new.self
          c.loop-event.invariant.item_count c.in_ok-step.ensures.ok;
    }
