use Rattle.std.proofs.Common.{rules, ◌≡◌, ◌≢◌, ◌∷◌, ◌++◌, [], length, ap, ◌∙◌, arith}
use Rattle.std.proofs.lemmas.List.{length-append, nil_from_length}
use Rattle.std.specs.Vec.Iter.{into_iter_items}
use Rattle.event_plans.specs.Drafts.{functions_of}
use Rattle.event_destinations.specs.Destinations.{IsFirstStop}
use Rattle.event_destinations.specs.declared.stop.DestinationStop.TheVariants.{OutOfMemory}
use Rattle.event_destinations.proofs.Passed.{err_passed}
use Rattle.event_destinations.proofs.Stops.{ready_all, ready_more, split_more, stop_next}
use Rattle.event_destinations.proofs.functions.destinations.Goals as goal

-- src/functions.rt:29:27
pub returns-in_err-build-clause-stop : goal.returns-in_err-build-clause-stop
returns-in_err-build-clause-stop c =
    let fs = c.args.functions.items in
    let first : into_iter_items c.loop-function.function-iterator ≡ c.in-Some.function ∷ into_iter_items c.next.new.self = search rules in
    err_passed c.from_residual.result c.in_err-build.field-0.0 (λ s. s ≢ OutOfMemory → IsFirstStop 0 (functions_of fs) s) c.from_residual.ensures.1
    (λ other. stop_next fs c.loop-function.destinations.items c.in-Some.function (into_iter_items c.loop-function.function-iterator) (into_iter_items c.next.new.self)
    c.loop-function.n c.in_err-build.field-0.0 c.loop-function.invariant.split first c.loop-function.invariant.ready c.loop-function.invariant.place
    (c.in_err-build.ensures.stop other))

-- src/functions.rt:28:5
pub loop-function-preserved : goal.loop-function-preserved
loop-function-preserved c =
    let fs = c.args.functions.items in
    let ds = c.loop-function.destinations.items in
    let d = c.in_ok-build.field-0 in
    let first : into_iter_items c.loop-function.function-iterator ≡ c.in-Some.function ∷ into_iter_items c.next.new.self = search rules in
    let is : c.push.new.self.items ≡ ds ++ d ∷ [] = c.in_ok-push.ensures.items in
    rw (is) record {
      split = split_more fs ds c.in-Some.function (into_iter_items c.loop-function.function-iterator) (into_iter_items c.next.new.self) d
          c.loop-function.invariant.split first c.in_ok-build.ensures.function;
      ready = ready_more ds d c.in-Some.function c.loop-function.invariant.ready c.in_ok-build.ensures.function c.in_ok-build.ensures.ready;
      place = omega (arith, c.loop-function.invariant.place, length-append ds (d ∷ []));
      left = omega (arith, c.loop-function.invariant.left, ap length first, c.in-Some.ensures.steps.1);
      few = omega (arith, c.loop-function.invariant.few, length-append ds (d ∷ []), ap length first);
    }

-- src/functions.rt:16:1
pub returns-clause-ready : goal.returns-clause-ready
returns-clause-ready c =
    let ds = c.loop-function.destinations.items in
    let none : into_iter_items c.loop-function.function-iterator ≡ [] = nil_from_length (into_iter_items c.loop-function.function-iterator) (c.loop-function.invariant.left ∙ c.in-None.ensures.steps.0) in
    ready_all c.args.functions.items ds (into_iter_items c.loop-function.function-iterator) c.loop-function.invariant.split none c.loop-function.invariant.ready
