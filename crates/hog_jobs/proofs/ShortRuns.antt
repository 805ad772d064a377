-- How many operations a run on course has done at most.
use Rattle.std.proofs.Common.{◌≡◌, ℕ, zero, suc, ◌+◌, ◌-◌, ◌<◌, ◌≤◌, ◌^◌, Bool, true, false, refl, sym, ap, ◌∙◌, subst, arith}
use Rattle.std.specs.Prelude.{◌*◌, ◌&&◌}
use Rattle.std.proofs.lemmas.Bool.{leb-true}
use Rattle.hog_value.specs.Meters.{max_turns}
use Rattle.hog_ops.specs.Plain.{Op, Ops, NoOp, MoreOp, Callable}
use Rattle.hog_ops.specs.Table.{size, span}
use Rattle.vm_course.specs.Course.{machine}
use Rattle.vm_course.specs.Run.{RunState}
use Rattle.vm_course.specs.States.{is_state}
use Rattle.hog_bridge.specs.Laws.{op_operations, operations}
use Rattle.hog_program.specs.Course.{CourseIsShort}
use Rattle.hog_jobs.specs.Laws.{FewOperations}
use Rattle.hog_jobs.specs.CourseRuns.{turns_there, defined_there}

-- an operation takes an element at least

mutual
  op_few : (o : Op) → op_operations o ≤ size o
  op_few (Callable name params body captures) = let few = few_in body in omega (arith, few)
  op_few o = omega arith

  few_in : (os : Ops) → operations os ≤ span os
  few_in NoOp = omega arith
  few_in (MoreOp o os) = let first = op_few o in let rest = few_in os in omega (arith, first, rest)

left : (a b : Bool) → (a && b) ≡ true → a ≡ true
left true b e = refl
left false b e = e

turns_few : (r : RunState) → is_state r ≡ true → r.state.turns ≤ max_turns
unfolding is_state
turns_few r is = leb-true _ _ (left _ _ (left _ _ (left _ _ (left _ _ (left _ _ (left _ _ (left _ _ is)))))))

product : (t n : ℕ) → t ≤ max_turns → n < 2 ^ 32 → 1 + (t + 1) * (n + 1) < 2 ^ 63
product t n few short = grind (arith, few, short)

module _ (law : CourseIsShort) where
  pub few_operations : FewOperations
  few_operations text code globals replies zero r has is state at = omega arith
  few_operations text code globals replies (suc k) r has is state at =
      let here : suc k - 1 ≡ k = omega arith in
      let turns : (machine code globals replies k).turns ≤ max_turns =
      subst (λ t. t ≤ max_turns) (sym (turns_there code globals replies (suc k) r at) ∙ ap (λ n. (machine code globals replies n).turns) here) (turns_few r state) in
      let most = law text code has globals replies k (defined_there code globals replies (suc k) r at) in
      let few = few_in code in
      let short = is.short in
      let bound = product (machine code globals replies k).turns (operations code) turns (omega (arith, few, short)) in
      omega (arith, most, bound)
