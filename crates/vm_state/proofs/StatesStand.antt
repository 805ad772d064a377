-- What every state of a run keeps, by each operation.
use Rattle.std.proofs.Common.{◌≡◌, ℕ, suc, ◌+◌, ◌-◌, ◌<◌, ◌≤◌, List, [], ◌∷◌, ◌++◌, length, length-drop, Bool, true, false, cond, Result, Ok, Err, refl, sym, ap, subst, arith}
use Rattle.std.specs.Prelude.{nat_lt, nat_le, is_some, count_by}
use Rattle.std.specs.List.{AllByRecursion}
use Rattle.std.proofs.lemmas.Bool.{leb-true, ltb-true}
use Rattle.std.proofs.lemmas.List.{length-map}
use Rattle.hog_value.specs.declared.cell.FunCell.{FunCell}
use Rattle.hog_value.specs.declared.trace.TraceItem.{TraceItem}
use Rattle.hog_value.specs.declared.trace.End.{End}
use Rattle.hog_value.specs.declared.trace.End.TheVariants as end
use Rattle.hog_value.specs.declared.value.Kind.{Kind}
use Rattle.hog_value.specs.Values.{Val, NamesBelow}
use Rattle.hog_value.specs.Meters.{Spent, max_turns, max_units, max_depth}
use Rattle.hog_value.specs.Cells.{HeapOf, pairs_at}
use Rattle.hog_value.specs.Operations as op
use Rattle.hog_value.specs.Operations.{Outcome, made, truth_of, key_of}
use Rattle.hog_json.specs.Texts.{shown}
use Rattle.hog_library.specs.Cells.{thrown}
use Rattle.hog_meaning.specs.World.{Fixed}
use Rattle.hog_meaning.specs.Meaning.{most_requests, is_request}
use Rattle.vm_course.specs.State.{Frame, ThrowFrame, Running, State}
use Rattle.vm_course.specs.Stack.{with_value, close, keep, push, cut_to}
use Rattle.vm_course.specs.Throws.{ends, with_heap, ends_shown, caught, throw_to, throw_made, throw_kind, on_result, on_outcome, with_turn}
use Rattle.vm_course.specs.Step.{with_spent, said}
use Rattle.vm_course.specs.States.{waits_for}
use Rattle.vm_state.proofs.Alls.{all_drop}
use Rattle.vm_state.proofs.HeapsStand.{HeapStands, Keeps, all_names_more, Stands, Named, thrown_stands}
use Rattle.vm_state.proofs.OperatorsStand.{ResultNamed}
use Rattle.vm_state.proofs.FramesStand.{CallsStand, calls_up, lands, calls_kept}
use Rattle.vm_state.proofs.UpvaluesStand.{set_named, length-with_value, UpvaluesStand, upvalues_up, closed_stand}

pub record StateStands (fixed : Fixed) (s : State) : Type 0 where
  pub heap : HeapStands (length s.upvalues) s.heap s.units
  pub turns : s.turns ≤ max_turns
  pub stack : AllByRecursion (NamesBelow (length s.heap)) s.stack
  pub upvalues : UpvaluesStand (length s.heap) (length s.stack) s.upvalues
  pub calls : CallsStand s.heap s.frames (length s.stack) s.throws
  pub deep : length s.frames ≤ suc max_depth
  pub asked : count_by is_request s.trace ≤ most_requests
  pub waits : waits_for s.mode s.trace ≡ true
  pub globals : is_some (pairs_at s.heap fixed.globals) ≡ true
  pub literals : length fixed.literals < length s.heap

pub calls_stand_up : (h : HeapOf FunCell) (fs : List Frame) (height other : ℕ) (ts : List ThrowFrame) → CallsStand h fs height ts → height ≤ other → CallsStand h fs other ts
calls_stand_up h [] height other ts c le = c
calls_stand_up h (f ∷ fs) height other ts c le = calls_up h f.base f.function fs height other ts c le

pub length-keep : {A : Type 0} (n : ℕ) (xs : List A) → n ≤ length xs → length (keep n xs) ≡ n
length-keep n xs le = let long = length-drop (length xs - n) xs in omega (arith, long, le)

kept_below : (n : ℕ) (fs : List Frame) → length (keep n fs) ≤ length fs
kept_below n fs = let long = length-drop (length fs - n) fs in omega (arith, long)

module _ (fixed : Fixed) where
  abbrev pub Stand : State → Type 0
  Stand s = StateStands fixed s

  -- parts of a state that are replaced

  pub ends_stand : (e : End) (s : State) → Stand s → Stand (ends e s)
  ends_stand e s st = record {
    heap = st.heap;
    turns = st.turns;
    stack = st.stack;
    upvalues = st.upvalues;
    calls = st.calls;
    deep = st.deep;
    asked = st.asked;
    waits = refl;
    globals = st.globals;
    literals = st.literals;
  }

  pub heap_stands : (s : State) (h : HeapOf FunCell) (units : ℕ) → Stand s → HeapStands (length s.upvalues) h units → Keeps s.heap h → Stand (with_heap h units s)
  heap_stands s h units st new k =
      let more = k.cells in
      let literals = st.literals in
      record {
        heap = new;
        turns = st.turns;
        stack = all_names_more (length s.heap) (length h) s.stack more st.stack;
        upvalues = upvalues_up (length s.heap) (length h) (length s.stack) (length s.stack) s.upvalues more (omega arith) st.upvalues;
        calls = calls_kept s.heap h s.frames (length s.stack) s.throws k st.calls;
        deep = st.deep;
        asked = st.asked;
        waits = st.waits;
        globals = k.pairs fixed.globals st.globals;
        literals = omega (arith, more, literals);
      }

  pub spent_stands : (s : State) (m : Spent) → Stand s → HeapStands (length s.upvalues) s.heap m.units → m.turns ≤ max_turns → Stand (with_spent m s)
  spent_stands s m st heap turns = record {
    heap = heap;
    turns = turns;
    stack = st.stack;
    upvalues = st.upvalues;
    calls = st.calls;
    deep = st.deep;
    asked = st.asked;
    waits = st.waits;
    globals = st.globals;
    literals = st.literals;
  }

  pub units_stand : (s : State) (more : ℕ) → Stand s → nat_le (s.units + more) max_units ≡ true → Stand (record s { units = s.units + more })
  units_stand s more st e =
      let covered = st.heap.covered in
      record {
        heap = record { cells = st.heap.cells; covered = omega (arith, covered); within = leb-true _ _ e };
        turns = st.turns;
        stack = st.stack;
        upvalues = st.upvalues;
        calls = st.calls;
        deep = st.deep;
        asked = st.asked;
        waits = st.waits;
        globals = st.globals;
        literals = st.literals;
      }

  pub said_stands : (item : TraceItem) (s : State) → Stand s → s.mode ≡ Running → count_by is_request (s.trace ++ item ∷ []) ≤ most_requests → Stand (said item s)
  said_stands item s st running count = record {
    heap = st.heap;
    turns = st.turns;
    stack = st.stack;
    upvalues = st.upvalues;
    calls = st.calls;
    deep = st.deep;
    asked = count;
    waits = ap (λ m. waits_for m (s.trace ++ item ∷ [])) running;
    globals = st.globals;
    literals = st.literals;
  }

  pub cut_stands : (s : State) (rest : List Val) (ks : List Frame) (ts : List ThrowFrame) → Stand s → AllByRecursion (NamesBelow (length s.heap)) rest → CallsStand s.heap ks (length rest) ts → length ks ≤ suc max_depth
      → Stand (record (cut_to rest s) { frames = ks; throws = ts })
  cut_stands s rest ks ts st named calls deep = record {
    heap = subst (λ u. HeapStands u s.heap s.units) (sym (length-map s.upvalues (close (length rest) s.stack))) st.heap;
    turns = st.turns;
    stack = named;
    upvalues = closed_stand (length s.heap) (length rest) s.stack st.stack (length s.stack) s.upvalues st.upvalues;
    calls = calls;
    deep = deep;
    asked = st.asked;
    waits = st.waits;
    globals = st.globals;
    literals = st.literals;
  }

  pub stacked_stands : (s : State) (stack : List Val) (ks : List Frame) → Stand s → AllByRecursion (NamesBelow (length s.heap)) stack → length s.stack ≤ length stack → CallsStand s.heap ks (length stack) s.throws → length ks ≤ suc max_depth
      → Stand (record s { stack = stack; frames = ks })
  stacked_stands s stack ks st named le calls deep = record {
    heap = st.heap;
    turns = st.turns;
    stack = named;
    upvalues = upvalues_up (length s.heap) (length s.heap) (length s.stack) (length stack) s.upvalues (omega arith) le st.upvalues;
    calls = calls;
    deep = deep;
    asked = st.asked;
    waits = st.waits;
    globals = st.globals;
    literals = st.literals;
  }

  pub push_stands : (v : Val) (s : State) → Stand s → NamesBelow (length s.heap) v → Stand (push v s)
  push_stands v s st q = stacked_stands s (v ∷ s.stack) s.frames st (q, st.stack) (omega arith) (calls_stand_up s.heap s.frames (length s.stack) (suc (length s.stack)) s.throws st.calls (omega arith)) st.deep

  pub set_stands : (s : State) (place : ℕ) (v : Val) → Stand s → NamesBelow (length s.heap) v → Stand (record s { stack = with_value s.stack place v })
  set_stands s place v st q =
      let long = length-with_value s.stack place v in
      stacked_stands s (with_value s.stack place v) s.frames st (set_named (length s.heap) s.stack place v st.stack q) (omega (arith, long))
      (subst (λ n. CallsStand s.heap s.frames n s.throws) (sym long) st.calls) st.deep

  -- throws

  pub shown_stands : (make : List ℕ → End) (v : Val) (before s : State) → Stand before → Stand s → Stand (ends_shown make v before s)
  shown_stands make v before s sb st = go (nat_le (s.units + length (shown s.heap v)) max_units) refl
    where
      go : (b : Bool) → nat_le (s.units + length (shown s.heap v)) max_units ≡ b
          → Stand (cond b (ends (make (shown s.heap v)) (record s { units = s.units + length (shown s.heap v) })) (ends end.MemorySpent before))
      go true e = ends_stand (make (shown s.heap v)) (record s { units = s.units + length (shown s.heap v) }) (units_stand s (length (shown s.heap v)) st e)
      go false e = ends_stand end.MemorySpent before sb

  caught_stands : (v : Val) (t : ThrowFrame) (ts : List ThrowFrame) (ks : List Frame) (s : State) → Stand s → NamesBelow (length s.heap) v → CallsStand s.heap ks t.height ts → t.height ≤ length s.stack → length ks ≤ suc max_depth → Stand (caught v t ts ks s)
  caught_stands v t ts [] s st q c le deep = absurd c
  caught_stands v t ts (f ∷ fs) s st q c le deep =
      let rest : List Val = keep t.height s.stack in
      let long = length-keep t.height s.stack le in
      let ks : List Frame = record f { place = t.catch } ∷ fs in
      push_stands v (record (cut_to rest s) { frames = ks; throws = ts })
      (cut_stands s rest ks ts st (all_drop (NamesBelow (length s.heap)) (length s.stack - t.height) s.stack st.stack) (subst (λ n. CallsStand s.heap ks n ts) (sym long) c) deep) q

  pub throw_stands : (ts : List ThrowFrame) (v : Val) (before s : State) → Stand before → Stand s → CallsStand s.heap s.frames (length s.stack) ts → NamesBelow (length s.heap) v → Stand (throw_to ts v before s)
  throw_stands [] v before s sb st c q = shown_stands end.Threw v before s sb st
  throw_stands (t ∷ ts) v before s sb st c q =
      let l = lands s.heap t ts s.frames (length s.stack) c in
      let le = kept_below t.frames s.frames in
      let deep = st.deep in
      caught_stands v t ts (keep t.frames s.frames) s st q l.calls l.within (omega (arith, le, deep))

  pub kind_stands : (kind : Kind) (s : State) → Stand s → Stand (throw_kind kind s)
  unfolding throw_kind
  kind_stands kind s st = go (thrown kind s.heap s.units) (thrown_stands (length s.upvalues) kind s.heap s.units st.heap)
    where
      go : (o : Outcome FunCell Val) → Stands Named (length s.upvalues) s.heap o → Stand (throw_made s o)
      go (op.Gives v h units) g = let s1 = heap_stands s h units st g.heap g.keeps in throw_stands s.throws v s (with_heap h units s) st s1 s1.calls g.value
      go (op.Throws k) g = ends_stand end.MemorySpent s st
      go op.Spends g = ends_stand end.MemorySpent s st

  pub result_stands : (r : Result Val Kind) (go : Val → State → State) (s : State) → Stand s → ResultNamed (length s.heap) r → ((v : Val) → NamesBelow (length s.heap) v → Stand (go v s)) → Stand (on_result r go s)
  result_stands (Ok v) go s st q k = k v q
  result_stands (Err kind) go s st q k = kind_stands kind s st

  pub outcome_stands : {A : Type 0} (Q : ℕ → A → Type 0) (o : Outcome FunCell A) (go : A → State → State) (s : State) → Stand s → Stands Q (length s.upvalues) s.heap o
      → ((a : A) (h : HeapOf FunCell) (units : ℕ) → Stand (with_heap h units s) → length s.heap ≤ length h → Q (length h) a → Stand (go a (with_heap h units s))) → Stand (on_outcome o go s)
  outcome_stands Q (op.Gives a h units) go s st g k = k a h units (heap_stands s h units st g.heap g.keeps) g.keeps.cells g.value
  outcome_stands Q (op.Throws kind) go s st g k = kind_stands kind s st
  outcome_stands Q op.Spends go s st g k = ends_stand end.MemorySpent s st

  pub turn_stands : (go : State → State) (s : State) → Stand s → (Stand (record s { turns = s.turns + 1 }) → Stand (go (record s { turns = s.turns + 1 }))) → Stand (with_turn go s)
  turn_stands go s st k = either (nat_lt s.turns max_turns) refl
    where
      either : (b : Bool) → nat_lt s.turns max_turns ≡ b → Stand (cond b (go (record s { turns = s.turns + 1 })) (ends end.TurnsSpent s))
      either true e =
          let lt = ltb-true s.turns max_turns e in
          k (record {
            heap = st.heap;
            turns = omega (arith, lt);
            stack = st.stack;
            upvalues = st.upvalues;
            calls = st.calls;
            deep = st.deep;
            asked = st.asked;
            waits = st.waits;
            globals = st.globals;
            literals = st.literals;
          })
      either false e = ends_stand end.TurnsSpent s st
