-- Each run on the machine's course is a machine of its code.
use Rattle.std.proofs.Common.{◌≡◌, ℕ, zero, suc, ◌-◌, ◌^◌, ◌<◌, List, [], ◌∷◌, length, Option, Some, None, true, refl, sym, ap, ◌∙◌, subst, arith}
use Rattle.std.specs.Prelude.{IfSome, is_some}
use Rattle.std.specs.List.{AllByRecursion}
use Rattle.hog_value.specs.declared.cell.FunCell.{FunCell}
use Rattle.hog_value.specs.declared.trace.End.TheVariants as end
use Rattle.hog_value.specs.Values.{Val}
use Rattle.hog_value.specs.Cells.{CellOf, Text, Array, Dict, Fun, HeapOf, pairs_at, HasDistinctKeys}
use Rattle.hog_value.specs.Operations as op
use Rattle.hog_value.specs.Operations.{Outcome}
use Rattle.state_forms.specs.Values.{CellFits}
use Rattle.hog_ops.specs.Plain.{Ops}
use Rattle.hog_ops.specs.Valid.{IsCode}
use Rattle.hog_meaning.specs.Program.{first_cells}
use Rattle.hog_meaning.specs.World.{Fixed, Reply}
use Rattle.vm_course.specs.State.{Slot, code_slots, Ended, State}
use Rattle.vm_course.specs.Step.{step_in}
use Rattle.vm_course.specs.Course.{literals_of_code, started, fixed_by, steps, machine}
use Rattle.vm_course.specs.Run.{RunState, globals_cell, begun_with, fixed_of, one_more, with_replies, IsRunOf}
use Rattle.vm_course.specs.Belongs.{belongs}
use Rattle.vm_course.proofs.CodesBelong.{begins_belonging, keeps_belonging}
use Rattle.vm_course.specs.States.{requests_in, is_state}
use Rattle.vm_state.specs.Laws.{CellNumbers, NumbersFit, IsMachineOf, AreGlobals, RunsAreMachines}
use Rattle.vm_state.proofs.Alls.{all_if}
use Rattle.vm_state.proofs.HeapsStand.{CellStands}
use Rattle.vm_state.proofs.StatesStand.{Stand}
use Rattle.vm_state.proofs.ActsStand.{steps_stand}
use Rattle.vm_state.proofs.StartsStand.{StartsStanding, starts_standing}
use Rattle.vm_state.proofs.IsStates.{is_a_state}

-- what is known of a run

pub record RunStands (r : RunState) : Type 0 where
  pub is : is_state r ≡ true
  pub turns : r.state.turns < 2 ^ 32
  pub units : r.state.units < 2 ^ 32
  pub asked : requests_in r.state.trace < 2 ^ 32
  pub globals : IfSome r.globals (λ n. n < 2 ^ 32)
  pub none_left : r.state.replies ≡ []
  pub keys : AllByRecursion HasDistinctKeys r.state.heap

cell_keys : (n u : ℕ) (c : CellOf FunCell) → CellStands n u c → HasDistinctKeys c
cell_keys n u (Text t) h = tt
cell_keys n u (Array vs) h = tt
cell_keys n u (Dict ps) h = h.1
cell_keys n u (Fun f) h = tt

cell_fits : (c : CellOf FunCell) → CellNumbers c → HasDistinctKeys c → CellFits c
cell_fits (Text t) n k = tt
cell_fits (Array vs) n k = n
cell_fits (Dict ps) n k = (n, k)
cell_fits (Fun f) n k = n

cells_fit : (h : HeapOf FunCell) → AllByRecursion CellNumbers h → AllByRecursion HasDistinctKeys h → AllByRecursion CellFits h
cells_fit [] n k = tt
cells_fit (c ∷ h) n k = (cell_fits c n.0 k.0, cells_fit h n.1 k.1)

within : (h : HeapOf FunCell) (n : ℕ) → is_some (pairs_at h n) ≡ true → n < length h
within [] n e = absurd cc
within (c ∷ h) zero e = omega arith
within (c ∷ h) (suc n) e = let lt = within h n e in omega (arith, lt)

other_replies : (fixed : Fixed) (rs : List Reply) (s : State) → Stand fixed s → Stand fixed (with_replies rs s)
other_replies fixed rs s st = record {
  heap = st.heap;
  turns = st.turns;
  stack = st.stack;
  upvalues = st.upvalues;
  calls = st.calls;
  deep = st.deep;
  asked = st.asked;
  waits = st.waits;
  globals = st.globals;
  literals = st.literals;
}

pub stands : (fixed : Fixed) (r : RunState) → Stand fixed r.state → r.globals ≡ Some fixed.globals → r.state.replies ≡ [] → RunStands r
stands fixed r st globals none =
    let turns = st.turns in
    let units = st.heap.within in
    let covered = st.heap.covered in
    let asked = st.asked in
    let there = within r.state.heap fixed.globals st.globals in
    record {
      is = is_a_state fixed r st globals;
      turns = omega (arith, turns);
      units = omega (arith, units);
      asked = omega (arith, asked);
      globals = subst (λ o. IfSome o (λ n. n < 2 ^ 32)) (sym globals) (omega (arith, there, covered, units));
      none_left = none;
      keys = all_if (CellStands (length r.state.heap) (length r.state.upvalues)) HasDistinctKeys (cell_keys (length r.state.heap) (length r.state.upvalues)) r.state.heap st.heap.cells;
    }

-- a run that ended with its first operation

ended_stays : (fixed : Fixed) (code : List Slot) (k : ℕ) (s : State) → s.mode ≡ Ended end.MemorySpent → steps fixed code k s ≡ s
ended_stays fixed code zero s e = refl
ended_stays fixed code (suc k) s e = ap (steps fixed code k) (ap (λ m. step_in m fixed code s) e) ∙ ended_stays fixed code k s e

spent : (ops used : ℕ) → RunStands (record { ops = ops; used = used; globals = None; state = started [] op.Spends })
unfolding is_state
spent ops used = record { is = refl; turns = omega arith; units = omega arith; asked = omega arith; globals = tt; none_left = refl; keys = tt }

spent_is : (r : RunState) → r.globals ≡ None → r.state ≡ started [] op.Spends → RunStands r
spent_is r globals state =
    subst (λ (s : State). RunStands (record r { state = s })) (sym state)
    (subst (λ o. RunStands (record r { globals = o; state = started [] op.Spends })) (sym globals) (spent r.ops r.used))

module _ (code : Ops) (globals : List ℕ) (replies : List Reply) where
  state_is : (r : RunState) → IsRunOf code globals replies r → r.state ≡ with_replies [] (machine code globals replies (r.ops - 1))
  state_is r on = ap (λ rs. with_replies rs r.state) on.none_left ∙ ap (with_replies []) on.state

  by_cells : (o : Outcome FunCell Val) → StartsStanding (literals_of_code code) replies o → (k : ℕ) (r : RunState) → r.globals ≡ globals_cell o
      → r.state ≡ with_replies [] (steps (fixed_by (literals_of_code code) o) (code_slots code) k (started replies o)) → RunStands r
  by_cells (op.Gives v h units) st k r cell state =
      let fixed : Fixed = fixed_by (literals_of_code code) (op.Gives v h units) in
      let s : State = steps fixed (code_slots code) k (started replies (op.Gives v h units)) in
      stands fixed r (subst (Stand fixed) (sym state) (other_replies fixed [] s (steps_stand fixed (code_slots code) k (started replies (op.Gives v h units)) st))) cell (ap (λ (x : State). x.replies) state)
  by_cells (op.Throws kind) st k r cell state =
      spent_is r cell (state ∙ ap (with_replies []) (ended_stays (fixed_by (literals_of_code code) (op.Throws kind)) (code_slots code) k (started replies (op.Throws kind)) refl))
  by_cells op.Spends st k r cell state =
      spent_is r cell (state ∙ ap (with_replies []) (ended_stays (fixed_by (literals_of_code code) op.Spends) (code_slots code) k (started replies op.Spends) refl))

  run_stands : AreGlobals globals → (r : RunState) → IsRunOf code globals replies r → RunStands r
  unfolding machine
  run_stands object r is = by_cells (first_cells (literals_of_code code) globals) (starts_standing (literals_of_code code) globals replies object.0 object.1) (r.ops - 1) r is.cell (state_is r is)

  -- belonging

  started_belongs : (o : Outcome FunCell Val) → belongs code (begun_with o) ≡ true → belongs code (record (begun_with o) { state = started replies o }) ≡ true
  unfolding belongs
  started_belongs (op.Gives v h units) e = e
  started_belongs (op.Throws kind) e = e
  started_belongs op.Spends e = e

  fixed_same : (o : Outcome FunCell Val) → fixed_by (literals_of_code code) o ≡ fixed_of code (globals_cell o)
  fixed_same (op.Gives v h units) = refl
  fixed_same (op.Throws kind) = refl
  fixed_same op.Spends = refl

  goes_on : IsCode code → (k : ℕ) (r : RunState) → belongs code r ≡ true → belongs code (record r { state = steps (fixed_of code r.globals) (code_slots code) k r.state }) ≡ true
  unfolding belongs
  goes_on is zero r e = e
  goes_on is (suc k) r e = goes_on is k (one_more code r) (keeps_belonging code r is e)

  run_belongs : IsCode code → (r : RunState) → IsRunOf code globals replies r → belongs code r ≡ true
  unfolding belongs machine
  run_belongs is r on =
      let o : Outcome FunCell Val = first_cells (literals_of_code code) globals in
      let first : RunState = record (begun_with o) { state = started replies o } in
      let k : ℕ = r.ops - 1 in
      let there = goes_on is k first (started_belongs o (begins_belonging code globals is)) in
      let after : Fixed → State = λ fixed. steps fixed (code_slots code) k (started replies o) in
      ap (λ (s : State). belongs code (record r { state = s })) (state_is r on)
      ∙ ap (λ (g : Option ℕ). belongs code (record r { globals = g; state = with_replies [] (after (fixed_by (literals_of_code code) o)) })) on.cell
      ∙ ap (λ (fixed : Fixed). belongs code (record r { globals = globals_cell o; state = with_replies [] (after fixed) })) (fixed_same o)
      ∙ there

-- a machine of a code, from what is known of a run
pub machine_from : (code : Ops) (r : RunState) → RunStands r → NumbersFit r → belongs code r ≡ true → IsMachineOf code r
machine_from code r s fit there = record {
  fits = record {
    ops = fit.ops;
    turns = s.turns;
    units = s.units;
    used = fit.used;
    asked = s.asked;
    globals = s.globals;
    stack = fit.stack;
    frames = fit.frames;
    throws = fit.throws;
    upvalues = fit.upvalues;
    heap = cells_fit r.state.heap fit.heap s.keys;
    replies = s.none_left;
  };
  state = s.is;
  belongs = there;
}

pub runs_are_machines : RunsAreMachines
runs_are_machines code globals replies r is object on fit =
    machine_from code r (run_stands code globals replies object r on) fit (run_belongs code globals replies is r on)
