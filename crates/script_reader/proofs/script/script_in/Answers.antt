use Rattle.std.proofs.Common.{◌≡◌, ◌≢◌, ◌≤◌, length, Some, sym, ap, ◌∙◌, subst, arith}
use Rattle.std.specs.List.{AllZip}
use Rattle.std.proofs.lemmas.Result.{IfOk-weaker, IfErr-weaker}
use Rattle.serde_json.specs.View.{view}
use Rattle.script_reader.specs.Elements.{AreShallow, elements_of, views}
use Rattle.script_reader.specs.Script.{IsStepOf, NoScriptIn, ScriptIn, StopsIn, most_steps}
use Rattle.script_reader.specs.declared.step.ScriptStop.TheVariants.{OutOfMemory}
use Rattle.script_reader.proofs.Lists.{elements_are, shallow, views_length}
use Rattle.script_reader.proofs.Places.{stops_in}
use Rattle.script_reader.proofs.script.script_in.Goals as goal

pub returns-then-len-gt-MOST_STEPS-clause-stop : goal.returns-then-len-gt-MOST_STEPS-clause-stop
returns-then-len-gt-MOST_STEPS-clause-stop c = λ _.
    let vs = c.in-Some.elements.now in
    (views vs.items, elements_are (view c.args.value.now) vs.items c.in-Some.ensures, omega (arith, c.if-len-gt-MOST_STEPS.true, c.len.ensures, views_length vs.items, vs.ok.0))

pub script_of-requires-clause-shallow : goal.script_of-requires-clause-shallow
script_of-requires-clause-shallow c =
    subst AreShallow (sym c.as_slice.ensures.value) (shallow (view c.args.value.now) c.in-Some.elements.now.items c.in-Some.ensures c.requires)

pub returns-clause-script : goal.returns-clause-script
returns-clause-script c =
    let vs = c.as_slice.result.now in
    let d = view c.args.value.now in
    let are : elements_of d ≡ Some (views vs) = elements_are d c.in-Some.elements.now.items c.in-Some.ensures ∙ ap (λ xs. Some (views xs)) (sym c.as_slice.ensures.value) in
    let few : length (views vs) ≤ most_steps = omega (arith, c.if-len-gt-MOST_STEPS.false, c.len.ensures, views_length vs, c.as_slice.ensures.len) in
    IfOk-weaker c.script_of.result (AllZip IsStepOf (views vs)) (ScriptIn d) (λ steps each. record { elements = views vs; are = are; few = few; each = each }) c.script_of.ensures.steps

pub returns-clause-stop : goal.returns-clause-stop
returns-clause-stop c =
    let vs = c.as_slice.result.now in
    let d = view c.args.value.now in
    let are : elements_of d ≡ Some (views vs) = elements_are d c.in-Some.elements.now.items c.in-Some.ensures ∙ ap (λ xs. Some (views xs)) (sym c.as_slice.ensures.value) in
    let few : length (views vs) ≤ most_steps = omega (arith, c.if-len-gt-MOST_STEPS.false, c.len.ensures, views_length vs, c.as_slice.ensures.len) in
    IfErr-weaker c.script_of.result (λ stop. stop ≢ OutOfMemory → StopsIn (views vs) stop) (λ stop. stop ≢ OutOfMemory → NoScriptIn d stop)
    (λ stop stops known. stops_in d (views vs) are few stop (stops known)) c.script_of.ensures.stop
