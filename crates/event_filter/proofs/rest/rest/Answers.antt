use Rattle.std.proofs.Common.{◌≡◌, ◌<◌, ◌≤◌, ◌+◌, ◌^◌, ℕ, [], true, false, sym, ap, subst, ◌∙◌, arith}
use Rattle.std.specs.Bool.{OnFalse}
use Rattle.hog_value.specs.Meters.{max_turns}
use Rattle.hog_ops.specs.Valid.{IsCode}
use Rattle.vm_course.specs.State.{Running}
use Rattle.vm_course.specs.Run.{RunState, IsRunOf}
use Rattle.vm_course.specs.Belongs.{belongs}
use Rattle.hog_program.proofs.Evaluating.{running_if, asks_not, ended_not, is_short, shows_meaning}
use Rattle.event_filter.proofs.rest.rest.Goals as goal

pub loop-machine-init : goal.loop-machine-init
loop-machine-init c =
    let begun = c.in_ok-machine.ensures.begun in
    record {
      on = subst (IsRunOf c.args.program.now.code c.args.globals.now []) (sym begun) (c.begins_on_course.ensures c.args.program.now.code c.args.globals.now []);
      fresh = c.in_ok-machine.ensures.fresh;
      belongs = c.in_ok-machine.ensures.belongs;
      short = omega (arith, ap (λ (r : RunState). r.ops) begun);
      object = c.in_ok-machine.ensures.globals;
    }

pub go-requires-clause-belongs : goal.go-requires-clause-belongs
go-requires-clause-belongs c =
    subst (λ b. OnFalse b (belongs c.args.program.now.code c.loop-machine.machine.run ≡ true)) (sym c.loop-machine.invariant.fresh) c.loop-machine.invariant.belongs

pub go-requires-clause-counted : goal.go-requires-clause-counted
go-requires-clause-counted c =
    subst (λ b. OnFalse b (c.loop-machine.machine.run.ops + 4294967295 < 18446744073709551616)) (sym c.loop-machine.invariant.fresh)
    (omega (arith, c.loop-machine.invariant.short))

goes_on : (c : goal.After-turns-turns) → IsRunOf c.args.program.now.code c.args.globals.now [] c.go.new.machine.run
goes_on c =
    subst (IsRunOf c.args.program.now.code c.args.globals.now []) (sym c.in_ok-go.ensures.ran)
    (c.slices_on_course.ensures c.args.program.now.code c.args.globals.now [] 4294967295 c.loop-machine.machine.run c.loop-machine.invariant.on)

is_running : (c : goal.After-turns-turns) → c.go.new.machine.run.state.mode ≡ Running
is_running c = running_if c.go.new.machine.run.state.mode (sym c.in_ok-go.ensures.pause ∙ c.in-Sliced.is)

is_code : (c : goal.After-turns-turns) → IsCode c.args.program.now.code
is_code c = subst IsCode c.code.ensures.value c.ops-ops.ensures.code

is_bounded : (c : goal.After-turns-turns) → c.go.new.machine.run.ops < 2 ^ 49
is_bounded c =
    let few = subst (λ n. n ≤ max_turns) c.turns-turns.ensures.turns c.turns-turns.ensures.few in
    let built = c.code.ensures.built in
    let named = c.built_is_named.ensures c.args.program.now.source built.whole built.is_built in
    is_short c.args.program.now.code c.args.globals.now c.go.new.machine.run (goes_on c) built.whole c.course_is_bounded.ensures named built.is_code
    (is_code c) (is_running c) few

pub loop-machine-smaller : goal.loop-machine-smaller
loop-machine-smaller c =
    let is = c.in_ok-go.ensures.ran in
    let count = c.slices_count.ensures c.args.program.now.code 4294967295 c.loop-machine.machine.run in
    let more = ap (λ (r : RunState). r.ops) is ∙ count.all_done (sym (ap (λ (r : RunState). r.state.mode) is) ∙ is_running c) in
    omega (arith, more, is_bounded c)

pub loop-machine-preserved : goal.loop-machine-preserved
loop-machine-preserved c = record {
  on = goes_on c;
  fresh = c.in_ok-go.ensures.fresh;
  belongs = ap (belongs c.args.program.now.code) c.in_ok-go.ensures.ran
      ∙ c.slices_belong.ensures c.args.program.now.code 4294967295 c.loop-machine.machine.run (is_code c) c.loop-machine.invariant.belongs;
  short = omega (arith, is_bounded c);
  object = c.loop-machine.invariant.object;
}

pub returns-in-Asks : goal.returns-in-Asks
returns-in-Asks c =
    let code = c.args.program.now.code in
    let run = c.go.new.machine.run in
    let built = c.code.ensures.built in
    let on : IsRunOf code c.args.globals.now [] run =
    subst (IsRunOf code c.args.globals.now []) (sym c.in_ok-go.ensures.ran)
    (c.slices_on_course.ensures code c.args.globals.now [] 4294967295 c.loop-machine.machine.run c.loop-machine.invariant.on) in
    let over = asks_not run.state.mode (sym c.in_ok-go.ensures.pause ∙ c.in-Asks.is) in
    record {
      shows = record {
        whole = built.whole;
        is_built = built.is_built;
        is = shows_meaning code c.args.globals.now run on c.course_is_meaning.ensures over built.whole
            (c.built_is_named.ensures c.args.program.now.source built.whole built.is_built) built.is_code;
      };
      object = c.loop-machine.invariant.object;
      not_an_object = λ e. absurd cc;
    }

pub returns-in-Ended : goal.returns-in-Ended
returns-in-Ended c =
    let code = c.args.program.now.code in
    let run = c.go.new.machine.run in
    let built = c.code.ensures.built in
    let on : IsRunOf code c.args.globals.now [] run =
    subst (IsRunOf code c.args.globals.now []) (sym c.in_ok-go.ensures.ran)
    (c.slices_on_course.ensures code c.args.globals.now [] 4294967295 c.loop-machine.machine.run c.loop-machine.invariant.on) in
    let over = ended_not run.state.mode (sym c.in_ok-go.ensures.pause ∙ c.in-Ended.is) in
    record {
      shows = record {
        whole = built.whole;
        is_built = built.is_built;
        is = shows_meaning code c.args.globals.now run on c.course_is_meaning.ensures over built.whole
            (c.built_is_named.ensures c.args.program.now.source built.whole built.is_built) built.is_code;
      };
      object = c.loop-machine.invariant.object;
      not_an_object = λ e. absurd cc;
    }
