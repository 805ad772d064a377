-- A run without replies shows all that its program means, and is short.
use Rattle.std.proofs.Common.{◌≡◌, ◌<◌, ◌≤◌, ◌+◌, ◌-◌, ◌^◌, ℕ, zero, suc, List, [], ◌∷◌, Some, None, arith, refl, ap, sym, subst, ◌∙◌}
use Rattle.std.specs.Prelude.{◌*◌}
use Rattle.std.proofs.lemmas.List.{drop_all}
use Rattle.std.proofs.lemmas.Nat.{mul-le}
use Rattle.hog_value.specs.Meters.{max_turns}
use Rattle.hog_ops.specs.Plain.{Op, Ops, NoOp, MoreOp, Callable}
use Rattle.hog_ops.specs.Table.{size, span}
use Rattle.hog_ops.specs.Valid.{IsCode}
use Rattle.hog_meaning.specs.World.{Fixed, Reply, Got, Gives, Throws, Waits, Spends, Flow}
use Rattle.hog_meaning.specs.Program.{first_cells, shows, meaning}
use Rattle.vm_course.specs.State.{Slot, code_slots, Running, Waiting, Ended, Mode, State}
use Rattle.vm_course.specs.Step.{step, step_in, take_reply}
use Rattle.vm_course.specs.Course.{literals_of_code, started, fixed_by, steps, machine, is_over_in, IsOver, IsDefined, end_in}
use Rattle.vm_course.specs.Run.{RunState, with_replies, IsRunOf}
use Rattle.hog_tree.specs.Plain.{Stms}
use Rattle.hog_compiler.specs.Code.{code_of}
use Rattle.hog_bridge.specs.Laws.{WaitsAlike, IsNamed, IsOnMeaning, CourseIsMeaning, CourseIsBounded, operations, op_operations}
use Rattle.hogvm.specs.declared.steps.Pause.TheVariants as pause
use Rattle.hogvm.specs.Calls.{pause_of}
use Rattle.hog_program.specs.Evaluation.{ShowsMeaning}

module _ (fixed : Fixed) (code : List Slot) where
  rest_step : (m : Mode) (rs : List Reply) (s : State) → s.mode ≡ m → s.replies ≡ rs → is_over_in m rs → step fixed code s ≡ s
  rest_step Running rs s em er over = absurd over
  rest_step Waiting [] s em er over = ap (λ m. step_in m fixed code s) em ∙ ap (λ rs. take_reply rs s) er
  rest_step Waiting (r ∷ rs) s em er over = absurd over
  rest_step (Ended e) rs s em er over = ap (λ m. step_in m fixed code s) em

  -- one that is over stays as it is
  stays : (k : ℕ) (s : State) → IsOver s → steps fixed code k s ≡ s
  stays zero s over = refl
  stays (suc k) s over = ap (steps fixed code k) (rest_step s.mode s.replies s refl refl over) ∙ stays k s over

  steps_join : (j i : ℕ) (s : State) → steps fixed code (j + i) s ≡ steps fixed code i (steps fixed code j s)
  steps_join zero i s = let none : zero + i ≡ i = omega arith in ap (λ n. steps fixed code n s) none
  steps_join (suc j) i s = let more : suc j + i ≡ suc (j + i) = omega arith in ap (λ n. steps fixed code n s) more ∙ steps_join j i (step fixed code s)

  -- while it runs it wasn't over before
  not_over : (j k : ℕ) (s : State) → j ≤ k → (steps fixed code k s).mode ≡ Running → IsOver (steps fixed code j s) → ⊥
  not_over j k s le running over =
      let split : j + (k - j) ≡ k = omega arith in
      let t = steps fixed code j s in
      let same : steps fixed code k s ≡ t = ap (λ n. steps fixed code n s) (sym split) ∙ steps_join j (k - j) s ∙ stays (k - j) t over in
      subst (λ m. is_over_in m t.replies) (sym (ap (λ (x : State). x.mode) same) ∙ running) over

pub is_defined : (code : Ops) (globals : List ℕ) (replies : List Reply) (k : ℕ) → (machine code globals replies k).mode ≡ Running → IsDefined code globals replies (suc k)
unfolding machine
is_defined code globals replies k running j before over =
    let cells = first_cells (literals_of_code code) globals in
    not_over (fixed_by (literals_of_code code) cells) (code_slots code) j k (started replies cells) (omega arith) running over

-- a slice that is done leaves a machine that runs; one that isn't leaves none
pub running_if : (m : Mode) → pause_of m ≡ pause.Sliced → m ≡ Running
running_if Running e = refl
running_if Waiting e = absurd cc
running_if (Ended x) e = absurd cc

pub asks_not : (m : Mode) → pause_of m ≡ pause.Asks → m ≡ Running → ⊥
asks_not Running e running = absurd cc
asks_not Waiting e running = absurd cc
asks_not (Ended x) e running = absurd cc

pub ended_not : (m : Mode) → pause_of m ≡ pause.Ended → m ≡ Running → ⊥
ended_not Running e running = absurd cc
ended_not Waiting e running = absurd cc
ended_not (Ended x) e running = absurd cc

-- an operation takes at least one element
mutual
  op_few : (o : Op) → op_operations o ≤ size o
  op_few (Callable name params body captures) = omega (arith, ops_few body)
  op_few o = omega arith

  ops_few : (os : Ops) → operations os ≤ span os
  ops_few NoOp = omega arith
  ops_few (MoreOp o os) = omega (arith, op_few o, ops_few os)

waits_so : (got : Got Flow) (s : State) → WaitsAlike got s → shows got ≡ record { trace = s.trace; end = None }
waits_so (Gives flow w) s alike = absurd alike
waits_so (Throws v w) s alike = absurd alike
waits_so (Waits w) s alike = ap (λ t. record { trace = t; end = None }) (sym alike.trace)
waits_so (Spends limit w) s alike = absurd alike

module _ (code : Ops) (globals : List ℕ) (r : RunState) (on : IsRunOf code globals [] r) where
  abbrev behind : State
  behind = machine code globals [] (r.ops - 1)

  -- the run's state is the machine's
  same : r.state ≡ behind
  same = ap (λ rs. with_replies rs r.state) (on.none_left ∙ sym (drop_all r.used [] (omega arith))) ∙ on.state

  mode_is : behind.mode ≡ r.state.mode
  mode_is = sym (ap (λ (s : State). s.mode) same)

  trace_is : behind.trace ≡ r.state.trace
  trace_is = sym (ap (λ (s : State). s.trace) same)

  none_left : behind.replies ≡ []
  none_left = sym (ap (λ (s : State). s.replies) same) ∙ on.none_left

  pub is_short : (whole : Stms) → CourseIsBounded → IsNamed whole → code ≡ code_of whole → IsCode code → r.state.mode ≡ Running → r.state.turns ≤ max_turns → r.ops < 2 ^ 49
  is_short whole short named is_code valid running few =
      let k = r.ops - 1 in
      let bound : suc k ≤ 1 + (behind.turns + 1) * (operations code + 1) =
      subst (λ c. IsDefined c globals [] (suc k) → suc k ≤ 1 + ((machine c globals [] k).turns + 1) * (operations c + 1)) (sym is_code) (short whole named globals [] k)
      (is_defined code globals [] k (mode_is ∙ running)) in
      let turns : behind.turns ≤ 100000 = subst (λ n. n ≤ 100000) (ap (λ (s : State). s.turns) same) few in
      let many : operations code < 2 ^ 32 = omega (arith, ops_few code, valid.short) in
      let product : (behind.turns + 1) * (operations code + 1) ≤ 100001 * 4294967296 =
      mul-le (behind.turns + 1) (operations code + 1) 100001 4294967296 (omega arith) (omega arith) in
      omega (arith, on.begun, bound, product)

  shows_by : (whole : Stms) → IsOnMeaning whole globals [] → code ≡ code_of whole → (m : Mode) → r.state.mode ≡ m → (m ≡ Running → ⊥)
      → meaning whole globals [] ≡ record { trace = r.state.trace; end = end_in m }
  unfolding meaning
  shows_by whole law is_code Running e over = absurd (over refl)
  shows_by whole law is_code Waiting e over =
      let k = r.ops - 1 in
      let there : machine (code_of whole) globals [] k ≡ behind = ap (λ c. machine c globals [] k) (sym is_code) in
      waits_so _ (machine (code_of whole) globals [] k)
      (law.waits k (ap (λ (s : State). s.mode) there ∙ mode_is ∙ e) (ap (λ (s : State). s.replies) there ∙ none_left))
      ∙ ap (λ t. record { trace = t; end = None }) (ap (λ (s : State). s.trace) there ∙ trace_is)
  shows_by whole law is_code (Ended x) e over =
      let k = r.ops - 1 in
      let there : machine (code_of whole) globals [] k ≡ behind = ap (λ c. machine c globals [] k) (sym is_code) in
      law.ended k x (ap (λ (s : State). s.mode) there ∙ mode_is ∙ e)
      ∙ ap (λ t. record { trace = t; end = Some x }) (ap (λ (s : State). s.trace) there ∙ trace_is)

  pub shows_meaning : CourseIsMeaning → (r.state.mode ≡ Running → ⊥) → ShowsMeaning code globals r.state
  shows_meaning law over whole named is_code = shows_by whole (law whole named globals []) is_code r.state.mode refl over
