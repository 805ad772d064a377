use Rattle.std.proofs.Common.{◌≤◌, List, [], ◌∷◌, ◌++◌, length, take, sym, ◌∙◌, subst, arith, length-take}
use Rattle.std.specs.List.{All, AllZip}
use Rattle.std.proofs.lemmas.List.Elements.{All-push}
use Rattle.serde_json.specs.View.{view}
use Rattle.script_reader.specs.Elements.{views}
use Rattle.script_reader.specs.Script.{IsStepOf, most_steps}
use Rattle.script_reader.specs.Steps.{Builds, IsFit}
use Rattle.script_reader.specs.declared.step.Step.{Step}
use Rattle.script_reader.proofs.Lists.{views_more, views_at, views_length}
use Rattle.script_reader.proofs.Places.{zip_push, zip_length, before}
use Rattle.script_reader.proofs.script.script_of.Goals as goal

pub returns-in_default-clause-stop : goal.returns-in_default-clause-stop
returns-in_default-clause-stop c = λ _. record {
  before = before c.loop-n.n (views c.args.elements.now) c.loop-n.steps.items c.loop-n.invariant.zipped;
  element = view c.index-elements-n.result;
  there = views_at c.args.elements.now c.loop-n.n c.index-elements-n.result c.loop-n-test.true c.index-elements-n.is;
  here = sym c.in_ok-step.ensures.step ∙ c.in_default.is;
}

pub returns-in-Some-2-clause-stop : goal.returns-in-Some-2-clause-stop
returns-in-Some-2-clause-stop c = λ _. record {
  before = before c.loop-n.n (views c.args.elements.now) c.loop-n.steps.items c.loop-n.invariant.zipped;
  element = view c.index-elements-n.result;
  there = views_at c.args.elements.now c.loop-n.n c.index-elements-n.result c.loop-n-test.true c.index-elements-n.is;
  here = record {
    step = c.in-Some.step;
    read = sym c.in_ok-step.ensures.step ∙ c.in-Some.is;
    fails = rw c.in-Some-2.is at c.in_ok-stop.ensures.fails;
  };
}

pub loop-n-preserved : goal.loop-n-preserved
loop-n-preserved c =
    let els = c.args.elements.now in
    let n = c.loop-n.n in
    let e = view c.index-elements-n.result in
    let s = c.in-Some.step in
    let builds : Builds s = rw c.in-None.is at c.in_ok-stop.ensures.builds in
    let is : IsStepOf e s = record { read = sym c.in_ok-step.ensures.step ∙ c.in-Some.is; builds = builds } in
    let fit : IsFit s = record { ranges = rw c.in-Some.is at c.in_ok-step.ensures.ranges; builds = builds } in
    let items = c.in_ok-push-in-None.ensures.items in
    let more = views_more els n c.index-elements-n.result c.loop-n-test.true c.index-elements-n.is in
    let zipped = zip_push (take n (views els)) c.loop-n.steps.items e s c.loop-n.invariant.zipped is in
    record {
      zipped = subst (λ ds. AllZip IsStepOf ds c.push.new.self.items) (sym more) (subst (AllZip IsStepOf (take n (views els) ++ e ∷ [])) (sym items) zipped);
      fit = subst (All IsFit) (sym items) (All-push IsFit c.loop-n.steps.items s c.loop-n.invariant.fit fit);
    }

pub invariant_of-result : goal.invariant_of-result
invariant_of-result c =
    subst (λ (steps : List Step). (length steps ≤ most_steps) × All IsFit steps) (sym c.new.ensures) (
      omega (arith, zip_length (take c.loop-n.n (views c.args.elements.now)) c.loop-n.steps.items c.loop-n.invariant.zipped, length-take c.loop-n.n (views c.args.elements.now), views_length c.args.elements.now, c.requires.few),
      c.loop-n.invariant.fit,
    )
