-- What so many operations leave.
use Rattle.std.proofs.Common.{◌≡◌, ℕ, zero, suc, ◌+◌, ◌-◌, ◌≤◌, ◌<◌, List, [], ◌∷◌, length, Bool, true, false, Option, Some, None, Result, Ok, Err, refl, sym, ap, subst, ◌∙◌, arith}
use Rattle.std.specs.Prelude.{◌&&◌, OnOk}
use Rattle.hog_value.specs.declared.trace.End.{End}
use Rattle.hog_ops.specs.Plain.{Ops}
use Rattle.vm_course.specs.State.{code_slots, Running, Waiting, Ended, Mode, State}
use Rattle.vm_course.specs.Run.{RunState, one_more, where_running, run_for}
use Rattle.hog_ops.specs.Valid.{IsCode}
use Rattle.vm_course.specs.Course.{literals_of_code}
use Rattle.vm_course.specs.Belongs.{belongs, places_belong, literals_belong}
use Rattle.vm_course.specs.Laws.{SlicesCompose, KeepsBelonging}
use Rattle.vm_course.proofs.Slices.{goes, rests}
use Rattle.vm_operations.specs.Machine.{MachineView, HasEnded}
use Rattle.hogvm.specs.declared.steps.Pause.TheVariants.{Sliced, Asks}
use Rattle.hogvm.specs.Calls.{pause_of}

-- a reply that is taken in is one more at most
pub used_most : (m : Mode) (n : ℕ) → where_running m (n + 1) n ≤ n + 1
used_most Running n = omega arith
used_most Waiting n = omega arith
used_most (Ended e) n = omega arith

-- after so many operations, one more
pub one_on : SlicesCompose → (code : Ops) (i : ℕ) (r0 r : RunState) → r ≡ run_for code i r0 → r.state.mode ≡ Running → one_more code r ≡ run_for code (i + 1) r0
one_on slices code i r0 r is runs = sym (slices code i 1 r0 ∙ ap (run_for code 1) (sym is) ∙ goes code 0 r runs)

-- after so many operations, as many as may be, where it doesn't go on
pub early : SlicesCompose → (code : Ops) (i n : ℕ) (r0 r : RunState) → r ≡ run_for code i r0 → i ≤ n → (r.state.mode ≡ Running → ⊥) → r ≡ run_for code n r0
early slices code i n r0 r is within still =
    let whole : i + (n - i) ≡ n = omega arith in
    sym (ap (λ k. run_for code k r0) (sym whole) ∙ slices code i (n - i) r0 ∙ ap (run_for code (n - i)) (sym is) ∙ rests code (n - i) r still)

-- a machine that has done so many operations of a slice, and is not spent
pub record IsAfter (code : Ops) (i : ℕ) (r : RunState) (m : MachineView) : Type 0 where
  pub ran : m.run ≡ run_for code i r
  pub counted : m.run.ops ≡ r.ops + i
  pub belongs : belongs code m.run ≡ true
  pub fresh : m.spent ≡ false

pub after_none : (code : Ops) (m : MachineView) → belongs code m.run ≡ true → m.spent ≡ false → IsAfter code 0 m.run m
after_none code m belongs fresh = record { ran = refl; counted = omega arith; belongs = belongs; fresh = fresh }

-- the literals of a code that a machine's run belongs to
second : (a b : Bool) → (a && b) ≡ true → b ≡ true
second true b h = h
second false b h = absurd cc

pub literals_of_run : (code : Ops) (r : RunState) → belongs code r ≡ true → literals_belong (literals_of_code code) r.globals r.state.heap ≡ true
unfolding belongs
literals_of_run code r h = second (places_belong (code_slots code) r.state) (literals_belong (literals_of_code code) r.globals r.state.heap) h

-- one operation more
pub after_more : SlicesCompose → KeepsBelonging → (code : Ops) (i : ℕ) (r : RunState) (m m1 : MachineView) → IsCode code → m.run.state.mode ≡ Running
    → IsAfter code i r m → m1 ≡ record { run = one_more code m.run; spent = false } → IsAfter code (i + 1) r m1
after_more slices keeps code i r m m1 is_code runs h is = subst (IsAfter code (i + 1) r) (sym is) (record {
  ran = one_on slices code i r m.run h.ran runs;
  counted = omega (arith, h.counted);
  belongs = keeps code m.run is_code h.belongs;
  fresh = refl;
})

-- what a call gives where it has gone well, from what another does
pub on_ok : {A E : Type 0} {P Q : Type 0} (r : Result A E) → (P → Q) → OnOk r P → OnOk r Q
on_ok (Ok a) go h = go h
on_ok (Err e) go h = tt
