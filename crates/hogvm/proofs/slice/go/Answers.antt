use Rattle.std.proofs.Common.{◌≡◌, ◌+◌, ◌≤◌, true, false, arith, ap, sym, ◌∙◌}
use Rattle.vm_frames.specs.Reading.{Reading}
use Rattle.vm_course.specs.State.{Running}
use Rattle.vm_course.specs.Run.{run_for}
use Rattle.vm_course.specs.Belongs.{literals_belong}
use Rattle.vm_operations.specs.Machine.{MachineView, one_read}
use Rattle.hogvm.proofs.Slices.{after_none, after_more, literals_of_run, early}
use Rattle.hogvm.proofs.slice.go.Goals as goal

pub loop-i-init : goal.loop-i-init
loop-i-init c = after_none c.args.code.now c.args.machine.now c.requires.belongs c.requires.fresh

pub step-requires-clause-fresh : goal.step-requires-clause-fresh
step-requires-clause-fresh c = c.loop-i.invariant.fresh

pub step-requires-clause-literals : goal.step-requires-clause-literals
step-requires-clause-literals c =
    let r = c.loop-i.machine.run in
    ap (λ (t : Reading). literals_belong t.literals r.globals r.state.heap) c.in_ok-table.ensures ∙ literals_of_run c.args.code.now r c.loop-i.invariant.belongs

pub step-requires-clause-counted : goal.step-requires-clause-counted
step-requires-clause-counted c = let h = c.loop-i.invariant.counted in omega (arith, h, c.requires.counted, c.loop-i-test.true)

pub loop-i-preserved : goal.loop-i-preserved
loop-i-preserved c =
    let m = c.loop-i.machine in
    after_more c.slices_compose.ensures c.keeps_belonging.ensures c.args.code.now c.loop-i._i c.args.machine.now.run m _ c.ops-ops.ensures.code
    (c.goes_on-in-loop-i.ensures.0 c.if-not-goes_on-2.false) c.loop-i.invariant
    (c.in_ok-step.ensures.done ∙ ap (λ (t : Reading). let v : MachineView = record { run = one_read t m.run; spent = false } in v) c.in_ok-table.ensures)

pub returns-then-not-goes_on-2-clause-ran : goal.returns-then-not-goes_on-2-clause-ran
returns-then-not-goes_on-2-clause-ran c =
    early c.slices_compose.ensures c.args.code.now c.loop-i._i c.args.slice c.args.machine.now.run c.loop-i.machine.run c.loop-i.invariant.ran c.loop-i.auto._i-end
    (λ runs. let going = c.goes_on-in-loop-i.ensures.1 runs in let no : false ≡ true = sym c.if-not-goes_on-2.true ∙ going in absurd cc)

pub returns-then-not-goes_on-2-clause-fresh : goal.returns-then-not-goes_on-2-clause-fresh
returns-then-not-goes_on-2-clause-fresh c = c.loop-i.invariant.fresh

pub returns-clause-ran : goal.returns-clause-ran
returns-clause-ran c =
    let all : c.loop-i._i ≡ c.args.slice = omega (arith, c.loop-i-test.false, c.loop-i.auto._i-end) in
    c.loop-i.invariant.ran ∙ ap (λ k. run_for c.args.code.now k c.args.machine.now.run) all

pub returns-clause-fresh : goal.returns-clause-fresh
returns-clause-fresh c = c.loop-i.invariant.fresh
