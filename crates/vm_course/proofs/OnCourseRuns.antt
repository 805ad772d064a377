-- A run by slices and replies is the machine's course.
use Rattle.std.proofs.Common.{◌≡◌, ℕ, zero, suc, ◌+◌, ◌-◌, List, [], ◌∷◌, ◌++◌, length, Some, Bool, true, false, cond, refl, sym, ap, ◌∙◌, subst, arith, ⊎_elim}
use Rattle.std.proofs.lemmas.Bool.{cases_lt}
use Rattle.std.specs.Prelude.{drop, slice_get, nat_le}
use Rattle.serde_json.specs.Data.{Data, null, boolean, number, string, array, object, Items, no_items, item, Members, no_members, member}
use Rattle.hog_value.specs.declared.cell.FunCell.{FunCell}
use Rattle.hog_value.specs.declared.value.Value.TheVariants.{Ref}
use Rattle.hog_value.specs.Values.{Val}
use Rattle.hog_value.specs.Meters.{max_units}
use Rattle.hog_value.specs.Cells.{CellOf, Text, Array, Dict, HeapOf, cost_of_cell}
use Rattle.hog_value.specs.Operations as op
use Rattle.hog_value.specs.Operations.{Outcome, made}
use Rattle.hog_json.specs.Reading.{outcome_and_then, read_cells, read_items, read_members, kept_value}
use Rattle.hog_library.specs.Cells.{response, response_cell}
use Rattle.hog_ops.specs.Plain.{Ops}
use Rattle.hog_meaning.specs.Program.{first_cells}
use Rattle.hog_meaning.specs.World.{Fixed, Reply}
use Rattle.vm_course.specs.State.{Slot, code_slots, Running, Waiting, Ended, Mode, State}
use Rattle.vm_course.specs.Stack.{push}
use Rattle.vm_course.specs.Throws.{on_outcome}
use Rattle.vm_course.specs.Step.{step, step_in, take_reply}
use Rattle.vm_course.specs.Course.{literals_of_code, started, fixed_by, steps, machine, IsOver, is_over_in, IsDefined}
use Rattle.vm_course.specs.Run.{RunState, globals_cell, begun_with, fixed_of, one_more, where_running, run_for, with_replies, IsRunOf}
use Rattle.vm_course.specs.Laws.{BeginsOnCourse, SlicesOnCourse, RepliesOnCourse}
use Rattle.vm_course.proofs.OnCourseReplies.{step_same, step_leaves}

-- the machine after one operation more

one_after : (fixed : Fixed) (code : List Slot) (k : ℕ) (s : State) → steps fixed code (suc k) s ≡ step fixed code (steps fixed code k s)
one_after fixed code zero s = refl
one_after fixed code (suc k) s = one_after fixed code k (step fixed code s)

fixed_same : (code : Ops) (cells : Outcome FunCell Val) → fixed_by (literals_of_code code) cells ≡ fixed_of code (globals_cell cells)
fixed_same code (op.Gives v h units) = refl
fixed_same code (op.Throws kind) = refl
fixed_same code op.Spends = refl

next : (code : Ops) (globals : List ℕ) (replies : List Reply) (r : RunState) → IsRunOf code globals replies r
    → machine code globals replies ((r.ops + 1) - 1) ≡ step (fixed_of code r.globals) (code_slots code) (machine code globals replies (r.ops - 1))
unfolding machine
next code globals replies r is =
    let cells : Outcome FunCell Val = first_cells (literals_of_code code) globals in
    let begun = is.begun in
    let count : (r.ops + 1) - 1 ≡ suc (r.ops - 1) = omega (arith, begun) in
    ap (machine code globals replies) count
    ∙ one_after (fixed_by (literals_of_code code) cells) (code_slots code) (r.ops - 1) (started replies cells)
    ∙ ap (λ x. step x (code_slots code) (machine code globals replies (r.ops - 1))) (fixed_same code cells ∙ ap (fixed_of code) (sym is.cell))

-- one operation more is defined where the machine was not over

runs_on : (s : State) → s.mode ≡ Running → IsOver s → ⊥
runs_on s e over = subst (λ m. is_over_in m s.replies) e over

waits_on : (s : State) (reply : Reply) (rest : List Reply) → s.mode ≡ Waiting → s.replies ≡ reply ∷ rest → IsOver s → ⊥
waits_on s reply rest e f over = subst (is_over_in Waiting) f (subst (λ m. is_over_in m s.replies) e over)

still_defined : (code : Ops) (globals : List ℕ) (replies : List Reply) (r : RunState) → IsRunOf code globals replies r → (IsOver (with_replies (drop r.used replies) r.state) → ⊥) → IsDefined code globals replies (r.ops + 1)
still_defined code globals replies r is on j lt over =
    let begun = is.begun in
    ⊎_elim (λ before. is.defined j before over)
    (λ last.
    let at : j ≡ r.ops - 1 = omega (arith, lt, last) in
    on (subst IsOver (ap (machine code globals replies) at ∙ sym is.state) over))
    (cases_lt (suc j) r.ops)

-- beginning

begins : (replies : List Reply) (cells : Outcome FunCell Val) → with_replies replies (begun_with cells).state ≡ started replies cells
begins replies (op.Gives v h units) = refl
begins replies (op.Throws kind) = refl
begins replies op.Spends = refl

none_begun : (cells : Outcome FunCell Val) → (begun_with cells).state.replies ≡ []
none_begun (op.Gives v h units) = refl
none_begun (op.Throws kind) = refl
none_begun op.Spends = refl

pub begins_on_course : BeginsOnCourse
unfolding machine
begins_on_course code globals replies = record {
  begun = omega arith;
  cell = refl;
  state = begins replies (first_cells (literals_of_code code) globals);
  defined = λ j lt over. absurd (omega (arith, lt));
  none_left = none_begun (first_cells (literals_of_code code) globals);
}

-- slices

goes_on : (code : Ops) (globals : List ℕ) (replies : List Reply) (r : RunState) → r.state.mode ≡ Running → IsRunOf code globals replies r → IsRunOf code globals replies (one_more code r)
goes_on code globals replies r running is = record {
  begun = omega arith;
  cell = is.cell;
  state =
      sym (step_same (drop r.used replies) (fixed_of code r.globals) (code_slots code) r.state running)
      ∙ ap (step (fixed_of code r.globals) (code_slots code)) is.state
      ∙ sym (next code globals replies r is);
  defined = still_defined code globals replies r is (runs_on (with_replies (drop r.used replies) r.state) running);
  none_left = step_leaves (fixed_of code r.globals) (code_slots code) r.state running ∙ is.none_left;
}

pub slices_on_course : SlicesOnCourse
slices_on_course code globals replies zero r is = is
slices_on_course code globals replies (suc n) r is = by_mode (λ e. slices_on_course code globals replies n (one_more code r) (goes_on code globals replies r e is)) r.state.mode refl
  where
    by_mode : (r.state.mode ≡ Running → IsRunOf code globals replies (run_for code n (one_more code r))) → (m : Mode) → r.state.mode ≡ m
        → IsRunOf code globals replies (where_running m (run_for code n (one_more code r)) r)
    by_mode runs Running e = runs e
    by_mode runs Waiting e = is
    by_mode runs (Ended end) e = is

-- replies: making what a program sees of one throws no kind

abbrev IsUnthrown : {A : Type 0} → Outcome FunCell A → Type 0
IsUnthrown (op.Gives a h units) = Unit {0}
IsUnthrown (op.Throws kind) = ⊥
IsUnthrown op.Spends = Unit {0}

both_unthrown : {A B : Type 0} (o : Outcome FunCell A) (next : A → HeapOf FunCell → ℕ → Outcome FunCell B) → IsUnthrown o → ((a : A) (h : HeapOf FunCell) (units : ℕ) → IsUnthrown (next a h units)) → IsUnthrown (outcome_and_then o next)
both_unthrown (op.Gives a h units) next first after = after a h units
both_unthrown (op.Throws kind) next first after = first
both_unthrown op.Spends next first after = tt

made_unthrown : (c : CellOf FunCell) (h : HeapOf FunCell) (units : ℕ) → IsUnthrown (made c h units)
unfolding made
made_unthrown c h units = go (nat_le (units + cost_of_cell c) max_units)
  where
    go : (b : Bool) → IsUnthrown (cond b (op.Gives (Ref (length h)) (h ++ c ∷ []) (units + cost_of_cell c)) op.Spends)
    go true = tt
    go false = tt

mutual
  cells_unthrown : (d : Data) (h : HeapOf FunCell) (units : ℕ) → IsUnthrown (read_cells d h units)
  cells_unthrown null h units = tt
  cells_unthrown (boolean b) h units = tt
  cells_unthrown (number n) h units = tt
  cells_unthrown (string s) h units = made_unthrown (Text s) h units
  cells_unthrown (array ds) h units = both_unthrown (read_items ds h units) (λ vs. made (Array vs)) (items_unthrown ds h units) (λ vs h1 units1. made_unthrown (Array vs) h1 units1)
  cells_unthrown (object ms) h units = both_unthrown (read_members ms h units) (λ ps. made (Dict ps)) (members_unthrown ms h units) (λ ps h1 units1. made_unthrown (Dict ps) h1 units1)

  items_unthrown : (ds : Items) (h : HeapOf FunCell) (units : ℕ) → IsUnthrown (read_items ds h units)
  items_unthrown no_items h units = tt
  items_unthrown (item d ds) h units =
      both_unthrown (read_cells d h units) _ (cells_unthrown d h units) (λ v h1 units1.
      both_unthrown (read_items ds h1 units1) (λ vs. op.Gives (v ∷ vs)) (items_unthrown ds h1 units1) (λ vs h2 units2. tt))

  members_unthrown : (ms : Members) (h : HeapOf FunCell) (units : ℕ) → IsUnthrown (read_members ms h units)
  members_unthrown no_members h units = tt
  members_unthrown (member k d ms) h units =
      both_unthrown (read_cells d h units) _ (cells_unthrown d h units) (λ v h1 units1.
      both_unthrown (read_members ms h1 units1) (λ ps. op.Gives ((k, v) ∷ ps)) (members_unthrown ms h1 units1) (λ ps h2 units2. tt))

response_unthrown : (status : ℕ) (body : List ℕ) (h : HeapOf FunCell) (units : ℕ) → IsUnthrown (response status body h units)
unfolding response
response_unthrown status body h units =
    both_unthrown (read_cells (kept_value body) h units) (λ v. made (response_cell status v)) (cells_unthrown (kept_value body) h units)
    (λ v h1 units1. made_unthrown (response_cell status v) h1 units1)

-- taking one in, where others are to come or none

abbrev answered : List Reply → Outcome FunCell Val → State → State
answered rest o s = on_outcome o (λ v s1. push v (record s1 { replies = rest; mode = Running })) s

-- the next reply, and those behind it
abbrev left_by : State → ℕ → List Reply → List Reply
left_by after used replies = drop (where_running after.mode (used + 1) used) replies

taken_same : (replies : List Reply) (used : ℕ) (reply : Reply) (o : Outcome FunCell Val) (s : State) → IsUnthrown o → drop used replies ≡ reply ∷ drop (used + 1) replies
    → with_replies (left_by (answered [] o s) used replies) (answered [] o s) ≡ answered (drop (used + 1) replies) o (with_replies (drop used replies) s)
taken_same replies used reply (op.Gives v h units) s un first = refl
taken_same replies used reply (op.Throws kind) s un first = absurd un
taken_same replies used reply op.Spends s un first = refl

none_taken : (o : Outcome FunCell Val) (s : State) → IsUnthrown o → s.replies ≡ [] → (answered [] o s).replies ≡ []
none_taken (op.Gives v h units) s un none = refl
none_taken (op.Throws kind) s un none = absurd un
none_taken op.Spends s un none = none

-- taking in the only reply leaves none to come
pub reply_leaves : (reply : Reply) (s : State) → s.replies ≡ [] → (take_reply (reply ∷ []) s).replies ≡ []
reply_leaves reply s none =
    none_taken (response reply.status reply.body s.heap s.units) s (response_unthrown reply.status reply.body s.heap s.units) none

first_left : (replies : List Reply) (used : ℕ) (reply : Reply) → slice_get replies used ≡ Some reply → drop used replies ≡ reply ∷ drop (used + 1) replies
first_left [] used reply e = absurd cc
first_left (x ∷ xs) zero reply e = let same : x ≡ reply = cc in ap (λ y. y ∷ xs) same
first_left (x ∷ xs) (suc n) reply e = first_left xs n reply e ∙ (let on : suc n + 1 ≡ suc (n + 1) = omega arith in ap (λ k. reply ∷ drop k (x ∷ xs)) (sym on))

waits_for_one : (fixed : Fixed) (code : List Slot) (s : State) (reply : Reply) (rest : List Reply) → s.mode ≡ Waiting → s.replies ≡ reply ∷ rest
    → step fixed code s ≡ answered rest (response reply.status reply.body s.heap s.units) s
waits_for_one fixed code s reply rest e f = ap (λ m. step_in m fixed code s) e ∙ ap (λ rs. take_reply rs s) f

pub replies_on_course : RepliesOnCourse
replies_on_course code globals replies reply r is waiting there =
    let rest : List Reply = drop (r.used + 1) replies in
    let s : State = with_replies (drop r.used replies) r.state in
    let o : Outcome FunCell Val = response reply.status reply.body r.state.heap r.state.units in
    let un = response_unthrown reply.status reply.body r.state.heap r.state.units in
    let first = first_left replies r.used reply there in
    record {
      begun = omega arith;
      cell = is.cell;
      state =
          taken_same replies r.used reply o r.state un first
          ∙ sym (waits_for_one (fixed_of code r.globals) (code_slots code) s reply rest waiting first)
          ∙ ap (step (fixed_of code r.globals) (code_slots code)) is.state
          ∙ sym (next code globals replies r is);
      defined = still_defined code globals replies r is (waits_on s reply rest waiting first);
      none_left = none_taken o r.state un is.none_left;
    }
