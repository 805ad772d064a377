-- A machine keeps the cell of its globals, and waits behind a request.
use Rattle.std.proofs.Common.{◌≡◌, ◌≤◌, ◌<◌, ◌+◌, ℕ, List, [], ◌∷◌, length, Bool, true, false, cond, Option, Some, None, refl, sym, ap, subst, ◌∙◌, arith}
use Rattle.std.specs.Prelude.{nat_le, IsSome, unwrap_or, ◌&&◌}
use Rattle.std.specs.Bool.{OnFalse}
use Rattle.hog_value.specs.declared.cell.FunCell.{FunCell}
use Rattle.hog_value.specs.declared.trace.End.{End}
use Rattle.hog_value.specs.declared.trace.End.TheVariants as end
use Rattle.hog_value.specs.declared.value.Kind.{Kind}
use Rattle.hog_value.specs.Values.{Val}
use Rattle.hog_value.specs.Meters.{max_units}
use Rattle.hog_value.specs.Cells.{HeapOf}
use Rattle.hog_value.specs.Operations as op
use Rattle.hog_value.specs.Operations.{Outcome}
use Rattle.hog_json.specs.Texts.{shown}
use Rattle.hog_library.specs.Cells.{thrown, response}
use Rattle.hog_meaning.specs.World.{Fixed, Reply}
use Rattle.vm_course.specs.State.{Slot, Frame, ThrowFrame, Running, Waiting, Ended, Mode, State}
use Rattle.vm_course.specs.Stack.{keep, push}
use Rattle.vm_course.specs.Throws.{ends, with_heap, ends_shown, caught, throw_to, throw_made, throw_kind, on_outcome}
use Rattle.vm_course.specs.Step.{take_reply, step_in, step}
use Rattle.vm_course.specs.Belongs.{begins_with, literals_belong, is_text}
use Rattle.vm_course.specs.Run.{RunState}
use Rattle.vm_course.specs.Laws.{HeapGrows}
use Rattle.vm_operations.specs.Machine.{HasEnded, GlobalsStand, IsStanding, asked_by}
use Rattle.vm_operations.proofs.Waits.{step_waits, reply_waits}

-- ---- the heap that a reply leaves doesn't hang on the replies to come

module _ (reply : Reply) (s : State) where
  abbrev next : State
  next = record s { replies = reply ∷ [] }

  shown_alike : (make : List ℕ → End) (v : Val) (h : HeapOf FunCell) (units : ℕ)
      → (ends_shown make v next (with_heap h units next)).heap ≡ (ends_shown make v s (with_heap h units s)).heap
  shown_alike make v h units = go (nat_le (units + length (shown h v)) max_units)
    where
      go : (b : Bool)
          → (cond b (ends (make (shown h v)) (record (with_heap h units next) { units = units + length (shown h v) })) (ends end.MemorySpent next)).heap
          ≡ (cond b (ends (make (shown h v)) (record (with_heap h units s) { units = units + length (shown h v) })) (ends end.MemorySpent s)).heap
      go true = refl
      go false = refl

  caught_alike : (v : Val) (t : ThrowFrame) (ts : List ThrowFrame) (fs : List Frame) (h : HeapOf FunCell) (units : ℕ)
      → (caught v t ts fs (with_heap h units next)).heap ≡ (caught v t ts fs (with_heap h units s)).heap
  caught_alike v t ts [] h units = refl
  caught_alike v t ts (f ∷ fs) h units = refl

  thrown_alike : (ts : List ThrowFrame) (v : Val) (h : HeapOf FunCell) (units : ℕ)
      → (throw_to ts v next (with_heap h units next)).heap ≡ (throw_to ts v s (with_heap h units s)).heap
  thrown_alike [] v h units = shown_alike end.Threw v h units
  thrown_alike (t ∷ ts) v h units = caught_alike v t ts (keep t.frames s.frames) h units

  kind_alike : (kind : Kind) → (throw_kind kind next).heap ≡ (throw_kind kind s).heap
  unfolding throw_kind
  kind_alike kind = go (thrown kind s.heap s.units)
    where
      go : (o : Outcome FunCell Val) → (throw_made next o).heap ≡ (throw_made s o).heap
      go (op.Gives v h units) = thrown_alike s.throws v h units
      go (op.Throws k) = refl
      go op.Spends = refl

  abbrev then : Val → State → State
  then v s1 = push v (record s1 { replies = []; mode = Running })

  reply_alike : (take_reply (reply ∷ []) next).heap ≡ (take_reply (reply ∷ []) s).heap
  reply_alike = go (response reply.status reply.body s.heap s.units)
    where
      go : (o : Outcome FunCell Val) → (on_outcome o then next).heap ≡ (on_outcome o then s).heap
      go (op.Gives v h units) = refl
      go (op.Throws kind) = kind_alike kind
      go op.Spends = refl

  -- a reply that is taken in takes no cell away
  reply_grows : HeapGrows → s.mode ≡ Waiting → length s.heap ≤ length (take_reply (reply ∷ []) s).heap
  reply_grows grows waits =
      let fixed : Fixed = record { literals = []; globals = 0 } in
      let same = ap (λ (m : Mode). length (step_in m fixed [] next).heap) waits ∙ ap length reply_alike in
      let all = grows fixed [] next in
      omega (arith, same, all)

-- ---- what a machine keeps

globals_stand : (globals : Option ℕ) (s s1 : State) → length s.heap ≤ length s1.heap → (HasEnded s.mode → ⊥) → GlobalsStand globals s → GlobalsStand globals s1
globals_stand (Some n) s s1 more goes there = omega arith
globals_stand None s s1 more goes ended = absurd (goes ended)

no_end : (m m1 : Mode) → m ≡ m1 → (HasEnded m1 → ⊥) → HasEnded m → ⊥
no_end m m1 same still h = still (subst HasEnded same h)

pub stands_on : HeapGrows → (fixed : Fixed) (code : List Slot) (r : RunState) (s1 : State) (ops used : ℕ) → r.state.mode ≡ Running → s1 ≡ step fixed code r.state
    → IsStanding r → IsStanding (record { ops = ops; used = used; globals = r.globals; state = s1 })
stands_on grows fixed code r s1 ops used runs is h = subst (λ (s : State). IsStanding (record { ops = ops; used = used; globals = r.globals; state = s })) (sym is) (record {
  globals = globals_stand r.globals r.state (step fixed code r.state) (grows fixed code r.state) (no_end r.state.mode Running runs (λ e. e)) h.globals;
  asks = step_waits fixed code r.state runs;
})

pub stands_replied : HeapGrows → (reply : Reply) (r : RunState) (s1 : State) (ops used : ℕ) → r.state.mode ≡ Waiting → s1 ≡ take_reply (reply ∷ []) r.state
    → IsStanding r → IsStanding (record { ops = ops; used = used; globals = r.globals; state = s1 })
stands_replied grows reply r s1 ops used waits is h = subst (λ (s : State). IsStanding (record { ops = ops; used = used; globals = r.globals; state = s })) (sym is) (record {
  globals = globals_stand r.globals r.state (take_reply (reply ∷ []) r.state) (reply_grows reply r.state grows waits) (no_end r.state.mode Waiting waits (λ e. e)) h.globals;
  asks = reply_waits reply r.state waits (h.asks waits);
})

second : (a b : Bool) → (a && b) ≡ true → b ≡ true
second true b h = h
second false b h = absurd cc

-- where a machine goes on its globals are there, and its literals
begins_long : (ts : List (List ℕ)) (h : HeapOf FunCell) → begins_with ts h ≡ true → length ts ≤ length h
begins_long [] h is = omega arith
begins_long (t ∷ ts) [] is = absurd cc
begins_long (t ∷ ts) (c ∷ cs) is = let others = begins_long ts cs (second (is_text t c) (begins_with ts cs) is) in omega arith

pub literals_there : (literals : List (List ℕ)) (r : RunState) → r.state.mode ≡ Running → IsStanding r → literals_belong literals r.globals r.state.heap ≡ true → length literals ≤ length r.state.heap
literals_there literals r runs h = go r.globals h.globals
  where
    go : (globals : Option ℕ) → GlobalsStand globals r.state → literals_belong literals globals r.state.heap ≡ true → length literals ≤ length r.state.heap
    go (Some n) there is = begins_long literals r.state.heap is
    go None ended is = absurd (no_end r.state.mode Running runs (λ e. e) ended)

-- what holds of a machine that isn't spent
pub fresh_holds : {P : Type 0} (b : Bool) → b ≡ false → OnFalse b P → P
fresh_holds true is h = absurd cc
fresh_holds false is h = h

pub on_fresh : {P Q : Type 0} (b : Bool) → (P → Q) → OnFalse b P → OnFalse b Q
on_fresh true go h = h
on_fresh false go h = go h
