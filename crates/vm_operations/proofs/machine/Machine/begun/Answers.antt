use Rattle.std.proofs.Common.{◌≡◌, ◌<◌, ◌-◌, ℕ, Some, length, arith, refl, ap, ap₂, sym, ◌∙◌}
use Rattle.hog_value.specs.declared.value.Value.TheVariants.{Null}
use Rattle.vm_course.specs.State.{Running, Waiting, Ended, State}
use Rattle.vm_course.specs.Run.{RunState}
use Rattle.vm_operations.proofs.machine.Machine.begun.Goals as goal

pub invariant_of-result : goal.invariant_of-result
invariant_of-result c =
    let made = c.new.ensures Null in
    let cells = ap (λ (s : State). length s.heap) made in
    let count = c.len-globals.ensures.count in
    let runs = ap (λ (s : State). s.mode) made in
    record {
      globals = omega (arith, cells, count, c.requires.globals);
      asks = λ waits. absurd (let no : Running ≡ Waiting = sym runs ∙ waits in cc);
    }

pub returns-clause-run : goal.returns-clause-run
returns-clause-run c = λ v.
    ap₂ (λ (n : ℕ) (s : State). let r : RunState = record { ops = 1; used = 0; globals = Some (n - 1); state = s } in r) c.len-globals.ensures.count (c.new.ensures v)
