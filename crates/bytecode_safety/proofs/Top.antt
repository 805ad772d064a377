-- The laws of accepted code, over whole runs.
use Rattle.std.proofs.Common.{◌≡◌, ℕ, zero, suc, ◌+◌, ◌*◌, ◌<◌, ◌≤◌, List, [], ◌∷◌, ◌++◌, length, replicate, None, Bool, true, false, refl, sym, ap, subst, ◌⊎◌, inl, inr, ⊎_elim, arith}
use Rattle.std.specs.Prelude.{slice_get, nat_lt}
use Rattle.std.proofs.lemmas.Bool.Decides.{nat_tests}
use Rattle.hog_value.specs.declared.cell.FunCell.{FunCell}
use Rattle.hog_value.specs.Values.{Val}
use Rattle.hog_value.specs.Cells.{HeapOf}
use Rattle.hog_value.specs.Operations as op
use Rattle.hog_value.specs.Operations.{Outcome}
use Rattle.hog_library.specs.Cells.{response}
use Rattle.hog_ops.specs.Plain.{Op, Ops, NoOp, MoreOp, Callable}
use Rattle.hog_ops.specs.Valid.{IsCode}
use Rattle.hog_meaning.specs.Program.{first_cells}
use Rattle.hog_meaning.specs.World.{Fixed, Reply}
use Rattle.vm_course.specs.State.{Slot, Begins, BodyEnds, Operand, op_slots, slots, code_slots, first_place, Mode, Running, Waiting, Ended, State}
use Rattle.vm_course.specs.Stack.{push}
use Rattle.vm_course.specs.Throws.{with_heap, on_outcome}
use Rattle.vm_course.specs.Step.{at_slot, in_frames, take_reply, step_in, step}
use Rattle.vm_course.specs.Course.{literals_of_code, started, fixed_by, steps, machine, is_over_in, IsOver, IsDefined}
use Rattle.bytecode_check.specs.Shape.{Shapes, shaped}
use Rattle.bytecode_check.specs.Verify.{IsAccepted}
use Rattle.bytecode_safety.specs.Lacks.{lacks_at, lacks_in_frames, lacks_in, lacks}
use Rattle.bytecode_safety.specs.Laws.{operations, op_operations, AcceptedIsSafe, AcceptedIsBounded, AcceptedRests}
use Rattle.bytecode_safety.proofs.Pass.{typed}
use Rattle.bytecode_safety.proofs.Places.{known, makes, program_first}
use Rattle.bytecode_safety.proofs.Heaps.{FunsFair, Fair, Keeps, response_fair}
use Rattle.bytecode_safety.proofs.Firsts.{IsUnthrown, response_unthrown, first_funs}
use Rattle.bytecode_safety.proofs.Stacks.{open_more}
use Rattle.bytecode_safety.proofs.Steady.{own_throws, tries_of, CellFits, CellsFit, Stands, SitsIn, begin_in, left, phi, fuel, fuel_total, psi_in, psi, Goes, left_less, seat_kept, lower_kept}
use Rattle.bytecode_safety.proofs.Moves.{seat_comes}
use Rattle.bytecode_safety.proofs.Steps.{fares}

module _ (fixed : Fixed) (code : List Slot) (Y : Shapes) where
  record Runs (s s' : State) (lacking : Bool) : Type 0 where
    whole : lacking ≡ false
    goes : Goes code Y s s'

  running : (s : State) → s.mode ≡ Running → Stands code Y 0 s → Runs s (in_frames fixed code s.frames s) (lacks_in_frames code s.frames s)
  running s m st =
      let t = st.steady in
      let f = st.frame in
      let fs = st.around in
      let k = known t.seat.body t.seat.shape t.seat.is in
      let r = fares fixed code Y s m f fs t t.seat.body.op k (λ name params body captures e. makes t.seat.body t.seat.shape name params body captures e t.seat.is) in
      let at : Runs s (at_slot fixed code (slice_get code f.place) f fs s) (lacks_at code (slice_get code f.place) f fs s) =
      subst (λ o. Runs s (at_slot fixed code o f fs s) (lacks_at code o f fs s)) (sym k.slot) record { whole = r.whole; goes = r.goes } in
      subst (λ xs. Runs s (in_frames fixed code xs s) (lacks_in_frames code xs s)) (sym t.frames) at

  -- a reply is taken in, or the run ends
  replied : (s : State) → s.mode ≡ Waiting → Stands code Y 1 s → (r : Reply) (rs : List Reply) → Goes code Y s (take_reply (r ∷ rs) s)
  replied s m st r rs =
      by_outcome (response r.status r.body s.heap s.units) (response_unthrown r.status r.body s.heap s.units)
      (response_fair (CellFits code Y st.steady.count) r.status r.body s.heap s.units st.steady.cells)
    where
      comes : (v : Val) (h : HeapOf FunCell) (units : ℕ) → Keeps s.heap h → CellsFit code Y st.steady.count h → Goes code Y s (push v (record (with_heap h units s) { replies = rs; mode = Running }))
      comes v h units keep fit =
          let t = st.steady in
          record {
            sits = record {
              frame = st.frame;
              around = st.around;
              steady = record {
                frames = t.frames;
                count = t.count;
                counted = t.counted;
                seat = seat_comes (seat_kept s.heap h keep t.count t.count 1 (length s.stack) st.frame (omega arith) t.seat);
                lower = lower_kept code Y s.heap h keep t.count t.count st.frame.base st.around (omega arith) t.lower;
                throws = t.throws;
                opened = open_more (length s.stack) (suc (length s.stack)) s.upvalues (omega arith) t.opened;
                cells = fit;
              };
            };
            paid = let b : psi code s ≡ suc (phi code s.frames + fuel (left code 0) s.turns) = ap (λ y. psi_in y (phi code s.frames + fuel (left code 0) s.turns)) m in omega arith;
          }

      by_outcome : (o : Outcome FunCell Val) → IsUnthrown o → Fair (CellFits code Y st.steady.count) s.heap o → Goes code Y s (on_outcome o (λ v s1. push v (record s1 { replies = rs; mode = Running })) s)
      by_outcome (op.Gives v h units) un fair = comes v h units fair.0 fair.1
      by_outcome (op.Throws kind) un fair = absurd un
      by_outcome op.Spends un fair = record {
        sits = tt;
        paid = let b : psi code s ≡ suc (phi code s.frames + fuel (left code 0) s.turns) = ap (λ y. psi_in y (phi code s.frames + fuel (left code 0) s.turns)) m in omega arith;
      }

  abbrev Sits : State → Type 0
  Sits s = SitsIn s.mode code Y s

  safe : (s : State) → Sits s → lacks code s ≡ false
  safe s h = by_mode s.mode refl h
    where
      by_mode : (o : Mode) → s.mode ≡ o → SitsIn o code Y s → lacks_in o code s ≡ false
      by_mode Running e h = (running s e h).whole
      by_mode Waiting e h = refl
      by_mode (Ended x) e h = refl

  -- a state that is over stays
  keeps : (s : State) → Sits s → Sits (step fixed code s)
  keeps s h = by_mode s.mode refl h
    where
      waits : (e : s.mode ≡ Waiting) → Stands code Y 1 s → (rs : List Reply) → Sits (take_reply rs s)
      waits e h [] = subst (λ o. SitsIn o code Y s) (sym e) h
      waits e h (r ∷ rs) = (replied s e h r rs).sits

      by_mode : (o : Mode) → s.mode ≡ o → SitsIn o code Y s → Sits (step_in o fixed code s)
      by_mode Running e h = (running s e h).goes.sits
      by_mode Waiting e h = waits e h s.replies
      by_mode (Ended x) e h = subst (λ o. SitsIn o code Y s) (sym e) tt

  pays : (s : State) → Sits s → (IsOver s → ⊥) → suc (psi code (step fixed code s)) ≤ psi code s
  pays s h over = by_mode s.mode refl h over
    where
      waits : (e : s.mode ≡ Waiting) → Stands code Y 1 s → (rs : List Reply) → (is_over_in Waiting rs → ⊥) → suc (psi code (take_reply rs s)) ≤ psi code s
      waits e h [] n = absurd (n tt)
      waits e h (r ∷ rs) n = (replied s e h r rs).paid

      by_mode : (o : Mode) → s.mode ≡ o → SitsIn o code Y s → (is_over_in o s.replies → ⊥) → suc (psi code (step_in o fixed code s)) ≤ psi code s
      by_mode Running e h n = (running s e h).goes.paid
      by_mode Waiting e h n = waits e h s.replies n
      by_mode (Ended x) e h n = absurd (n tt)

  one_more : (k : ℕ) (s : State) → steps fixed code (suc k) s ≡ step fixed code (steps fixed code k s)
  one_more zero s = refl
  one_more (suc k) s = one_more k (step fixed code s)

  sits_at : (k : ℕ) (s : State) → Sits s → Sits (steps fixed code k s)
  sits_at zero s h = h
  sits_at (suc k) s h = sits_at k (step fixed code s) (keeps s h)

  paid_at : (k : ℕ) (s : State) → Sits s → ((j : ℕ) → j < k → IsOver (steps fixed code j s) → ⊥) → k + psi code (steps fixed code k s) ≤ psi code s
  paid_at zero s h n = omega arith
  paid_at (suc k) s h n =
      let ih = paid_at k s h (λ j lt. n j (omega arith)) in
      let one = pays (steps fixed code k s) (sits_at k s h) (n k (omega arith)) in
      let e = ap (psi code) (one_more k s) in
      omega arith

begin_append : (xs ys : List Slot) → begin_in (xs ++ ys) ≡ begin_in xs + begin_in ys
begin_append [] ys = omega arith
begin_append (Begins o ∷ xs) ys = let h = begin_append xs ys in omega arith
begin_append (BodyEnds ∷ xs) ys = begin_append xs ys
begin_append (Operand ∷ xs) ys = begin_append xs ys

none_begin : (n : ℕ) → begin_in (replicate n Operand) ≡ 0
none_begin zero = refl
none_begin (suc n) = none_begin n

mutual
  op_begin : (o : Op) → begin_in (op_slots o) ≡ op_operations o
  op_begin (Callable name params body captures) =
      let n = 1 + (length captures + length captures) in
      let h = begin_append (slots body) (BodyEnds ∷ replicate n Operand) in let k = all_begin body in let e = none_begin n in omega arith
  op_begin o = refl

  -- as many operations begin as a code has
  all_begin : (os : Ops) → begin_in (slots os) ≡ operations os
  all_begin NoOp = refl
  all_begin (MoreOp o os) = let h = begin_append (op_slots o) (slots os) in let k = op_begin o in let l = all_begin os in omega arith

module _ (code : Ops) (is : IsCode code) (accepted : IsAccepted code) (globals : List ℕ) (replies : List Reply) where
  abbrev Y : Shapes
  Y = accepted.shapes

  abbrev cs : List Slot
  cs = code_slots code

  abbrev first : Outcome FunCell Val
  first = first_cells (literals_of_code code) globals

  abbrev fx : Fixed
  fx = fixed_by (literals_of_code code) first

  abbrev most : ℕ
  most = left cs first_place + fuel (left cs 0) 0

  begins_at : (o : Outcome FunCell Val) → FunsFair (CellFits cs Y 0) o → SitsIn (started replies o).mode cs Y (started replies o)
  begins_at (op.Throws kind) f = tt
  begins_at op.Spends f = tt
  begins_at (op.Gives v heap units) f =
      let a = typed code Y accepted.is in
      record {
        frame = record { place = first_place; base = 0; function = None };
        around = [];
        steady = record {
          frames = refl;
          count = 0;
          counted = refl;
          seat = record {
            shape = shaped 0 [];
            captures = 0;
            is = a.start;
            body = program_first code Y is a;
            level = refl;
            above = omega arith;
            before = refl;
            tried = tt;
            numbers = [];
            function = refl;
            captured = refl;
            below = tt;
          };
          lower = tt;
          throws = ap (λ o. own_throws 1 0 (tries_of o) ++ []) (sym a.start);
          opened = tt;
          cells = f;
        };
      }

  begins : SitsIn (started replies first).mode cs Y (started replies first)
  begins = begins_at first (first_funs (CellFits cs Y 0) (literals_of_code code) globals)

  begins_low : (o : Outcome FunCell Val) → psi cs (started replies o) ≤ most
  begins_low (op.Gives v heap units) = omega arith
  begins_low (op.Throws kind) = omega arith
  begins_low op.Spends = omega arith

  pub always_safe : (k : ℕ) → lacks cs (machine code globals replies k) ≡ false
  unfolding machine
  always_safe k = safe fx cs Y (steps fx cs k (started replies first)) (sits_at fx cs Y k (started replies first) begins)

  paid_by : (k : ℕ) → ((j : ℕ) → j < k → IsOver (machine code globals replies j) → ⊥) → k + psi cs (machine code globals replies k) ≤ most
  unfolding machine
  paid_by k n = let h = paid_at fx cs Y k (started replies first) begins n in let l = begins_low first in omega arith

  count : left cs 0 ≡ operations code
  count = all_begin code

  less_one : (o : Mode) (n : ℕ) → n ≤ psi_in o n + 1
  less_one Running n = omega arith
  less_one Waiting n = omega arith
  less_one (Ended e) n = omega arith

  total : (k n t a : ℕ) → k + a ≤ (n + t * suc n) + a + 1 → suc k ≤ 1 + (t + 1) * (n + 1)
  total k n t a h = let e : (t + 1) * (n + 1) ≡ (n + t * suc n) + 1 = omega arith in omega (arith, e, h)

  pub always_bounded : (k : ℕ) → IsDefined code globals replies (suc k) → suc k ≤ 1 + ((machine code globals replies k).turns + 1) * (operations code + 1)
  always_bounded k n =
      let s = machine code globals replies k in
      let p = paid_by k (λ j lt. n j (omega arith)) in
      let q = less_one s.mode (phi cs s.frames + fuel (left cs 0) s.turns) in
      let r = left_less cs first_place in
      let f = fuel_total (left cs 0) s.turns in
      subst (λ c. suc k ≤ 1 + (s.turns + 1) * (c + 1)) count (total k (left cs 0) s.turns (fuel (left cs 0) s.turns) (omega (arith, p, q, r, f)))

  -- over, or not
  decided : (o : Mode) (rs : List Reply) → is_over_in o rs ⊎ (is_over_in o rs → ⊥)
  decided Running rs = inr (λ h. h)
  decided Waiting [] = inl tt
  decided Waiting (r ∷ rs) = inr (λ h. h)
  decided (Ended e) rs = inl tt

  sought : (n : ℕ) → ((k : ℕ) × IsOver (machine code globals replies k)) ⊎ ((j : ℕ) → j < n → IsOver (machine code globals replies j) → ⊥)
  sought zero = inr (λ j lt. absurd (omega arith))
  sought (suc n) =
      ⊎_elim inl
      (λ no. ⊎_elim (λ yes. inl (n, yes)) (λ here. inr (λ j lt. ⊎_elim (λ less. no j less) (λ same. subst (λ i. IsOver (machine code globals replies i) → ⊥) (sym same) here) (last j n lt))) (decided (machine code globals replies n).mode (machine code globals replies n).replies))
      (sought n)
    where
      last : (j n : ℕ) → j < suc n → (j < n) ⊎ (j ≡ n)
      last j n lt = go (nat_lt j n) refl
        where
          go : (b : Bool) → nat_lt j n ≡ b → (j < n) ⊎ (j ≡ n)
          go true e = inl (grind (arith, nat_tests))
          go false e = inr (grind (arith, nat_tests))

  pub always_rests : (k : ℕ) × IsOver (machine code globals replies k)
  always_rests =
      let n = suc most in
      ⊎_elim (λ h. h) (λ no. let p = paid_by n no in absurd (omega arith)) (sought n)

pub accepted_is_safe : AcceptedIsSafe
accepted_is_safe code is accepted globals replies k = always_safe code is accepted globals replies k

pub accepted_is_bounded : AcceptedIsBounded
accepted_is_bounded code is accepted globals replies k n = always_bounded code is accepted globals replies k n

pub accepted_rests : AcceptedRests
accepted_rests code is accepted globals replies = always_rests code is accepted globals replies
