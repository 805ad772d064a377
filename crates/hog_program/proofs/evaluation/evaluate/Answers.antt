use Rattle.std.proofs.Common.{◌≡◌, ◌<◌, ◌≤◌, ◌+◌, ◌^◌, [], true, sym, ap, subst, ◌∙◌, arith}
use Rattle.std.specs.Bool.{OnFalse}
use Rattle.hog_value.specs.Meters.{max_turns}
use Rattle.vm_course.specs.State.{Running}
use Rattle.vm_course.specs.Run.{RunState, IsRunOf}
use Rattle.vm_course.specs.Belongs.{belongs}
use Rattle.hog_program.proofs.Evaluating.{running_if, asks_not, ended_not, is_short, shows_meaning}
use Rattle.hog_program.proofs.evaluation.evaluate.Goals as goal

pub loop-machine-init : goal.loop-machine-init
loop-machine-init c =
    let begun = c.in_ok-machine.ensures.begun in
    record {
      on = subst (IsRunOf c.args.code.now c.args.globals.now []) (sym begun) (c.begins_on_course.ensures c.args.code.now c.args.globals.now []);
      fresh = c.in_ok-machine.ensures.fresh;
      belongs = c.in_ok-machine.ensures.belongs;
      short = omega (arith, ap (λ (r : RunState). r.ops) begun);
    }

pub run-requires-clause-belongs : goal.run-requires-clause-belongs
run-requires-clause-belongs c =
    subst (λ b. OnFalse b (belongs c.args.code.now c.loop-machine.machine.run ≡ true)) (sym c.loop-machine.invariant.fresh) c.loop-machine.invariant.belongs

pub run-requires-clause-counted : goal.run-requires-clause-counted
run-requires-clause-counted c =
    subst (λ b. OnFalse b (c.loop-machine.machine.run.ops + 4294967295 < 18446744073709551616)) (sym c.loop-machine.invariant.fresh)
    (omega (arith, c.loop-machine.invariant.short))

goes_on : (c : goal.After-turns-turns) → IsRunOf c.args.code.now c.args.globals.now [] c.run.new.self.run
goes_on c =
    subst (IsRunOf c.args.code.now c.args.globals.now []) (sym c.in_ok-run.ensures.ran)
    (c.slices_on_course.ensures c.args.code.now c.args.globals.now [] 4294967295 c.loop-machine.machine.run c.loop-machine.invariant.on)

is_running : (c : goal.After-turns-turns) → c.run.new.self.run.state.mode ≡ Running
is_running c = running_if c.run.new.self.run.state.mode (sym c.in_ok-run.ensures.pause ∙ c.in-Sliced.is)

is_bounded : (c : goal.After-turns-turns) → c.run.new.self.run.ops < 2 ^ 49
is_bounded c =
    let few = subst (λ n. n ≤ max_turns) c.turns-turns.ensures.turns c.turns-turns.ensures.few in
    is_short c.args.code.now c.args.globals.now c.run.new.self.run (goes_on c) c.requires.compiled.whole c.course_is_bounded.ensures c.requires.compiled.named c.requires.compiled.is_code
    c.ops-ops.ensures.code (is_running c) few

pub loop-machine-smaller : goal.loop-machine-smaller
loop-machine-smaller c =
    let is = c.in_ok-run.ensures.ran in
    let count = c.slices_count.ensures c.args.code.now 4294967295 c.loop-machine.machine.run in
    let more = ap (λ (r : RunState). r.ops) is ∙ count.all_done (sym (ap (λ (r : RunState). r.state.mode) is) ∙ is_running c) in
    omega (arith, more, is_bounded c)

pub loop-machine-preserved : goal.loop-machine-preserved
loop-machine-preserved c = record {
  on = goes_on c;
  fresh = c.in_ok-run.ensures.fresh;
  belongs = ap (belongs c.args.code.now) c.in_ok-run.ensures.ran
      ∙ c.slices_belong.ensures c.args.code.now 4294967295 c.loop-machine.machine.run c.ops-ops.ensures.code c.loop-machine.invariant.belongs;
  short = omega (arith, is_bounded c);
}

pub returns-in-Asks : goal.returns-in-Asks
returns-in-Asks c = record {
  shows = shows_meaning c.args.code.now c.args.globals.now c.run.new.self.run
      (subst (IsRunOf c.args.code.now c.args.globals.now []) (sym c.in_ok-run.ensures.ran)
      (c.slices_on_course.ensures c.args.code.now c.args.globals.now [] 4294967295 c.loop-machine.machine.run c.loop-machine.invariant.on))
      c.course_is_meaning.ensures (asks_not c.run.new.self.run.state.mode (sym c.in_ok-run.ensures.pause ∙ c.in-Asks.is));
  not_an_object = λ e. absurd cc;
}

pub returns-in-Ended : goal.returns-in-Ended
returns-in-Ended c = record {
  shows = shows_meaning c.args.code.now c.args.globals.now c.run.new.self.run
      (subst (IsRunOf c.args.code.now c.args.globals.now []) (sym c.in_ok-run.ensures.ran)
      (c.slices_on_course.ensures c.args.code.now c.args.globals.now [] 4294967295 c.loop-machine.machine.run c.loop-machine.invariant.on))
      c.course_is_meaning.ensures (ended_not c.run.new.self.run.state.mode (sym c.in_ok-run.ensures.pause ∙ c.in-Ended.is));
  not_an_object = λ e. absurd cc;
}
