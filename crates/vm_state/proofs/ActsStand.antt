-- Each operation keeps what every state of a run keeps.
use Rattle.std.proofs.Common.{◌≡◌, ℕ, zero, suc, ◌+◌, ◌-◌, ◌<◌, ◌≤◌, max, ℤ, pos, negsuc, List, [], ◌∷◌, ◌++◌, length, length-append, drop, Option, Some, None, Bool, true, false, cond, Result, Ok, Err, refl, sym, ap, ◌∙◌, subst, arith}
use Rattle.std.specs.Prelude.{◌&&◌, ◌==◌, nat_lt, nat_le, replicate, reverse, slice_get, slice_range, unwrap_or, is_some, count_by, bytes_eq}
use Rattle.std.specs.List.{AllByRecursion}
use Rattle.std.proofs.lemmas.Bool.{leb-true, leb-false, ltb-true, ltb-false}
use Rattle.std.proofs.lemmas.List.{length-take, length-replicate}
use Rattle.std.proofs.lemmas.List.Sums.{sum_by_push}
use Rattle.hog_value.specs.declared.cell.FunCell.{FunCell}
use Rattle.hog_value.specs.declared.native.Native.{Native}
use Rattle.hog_value.specs.declared.trace.TraceItem.{TraceItem}
use Rattle.hog_value.specs.declared.trace.TraceItem.TheVariants.{Printed, Asked}
use Rattle.hog_value.specs.declared.trace.Request.{Request}
use Rattle.hog_value.specs.declared.trace.End.TheVariants as end
use Rattle.hog_value.specs.declared.value.Kind.{Kind}
use Rattle.hog_value.specs.declared.value.Kind.TheVariants.{TypeError, ArgumentError}
use Rattle.hog_value.specs.Values.{Val, NamesBelow}
use Rattle.hog_value.specs.declared.value.Value.TheVariants.{Null, Bool as Truth, Int, Ref}
use Rattle.hog_value.specs.Meters.{max_turns, max_depth}
use Rattle.hog_value.specs.Cells.{Array, Fun, HeapOf}
use Rattle.hog_value.specs.Operations as op
use Rattle.hog_value.specs.Operations.{Outcome, made, truth_of, key_of}
use Rattle.hog_json.specs.Texts.{named_text}
use Rattle.hog_library.specs.Called as native
use Rattle.hog_library.specs.Called.{called}
use Rattle.hog_library.specs.Cells.{response}
use Rattle.hog_tree.specs.declared.tree.BinaryOp.{BinaryOp}
use Rattle.hog_ops.specs.declared.capture.Capture.{Capture}
use Rattle.hog_ops.specs.Plain as o
use Rattle.hog_ops.specs.Plain.{Op}
use Rattle.hog_ops.specs.Table.{size}
use Rattle.hog_meaning.specs.Operators.{operated, accessed, assigned, dictionary_made}
use Rattle.hog_meaning.specs.World.{Fixed, Reply}
use Rattle.hog_meaning.specs.Meaning.{place_in, most_requests, is_request, is_fetch, is_null}
use Rattle.vm_course.specs.State.{Slot, Begins, BodyEnds, Operand, Upvalue, Opened, Closed, Frame, ThrowFrame, Running, Waiting, Ended, Mode, State, header, function_at, params_at}
use Rattle.vm_course.specs.Stack.{keep, push, cut_to, height_of, floor_of, top_of, taken, captured_by, capture_all, write_to, write_numbered}
use Rattle.vm_course.specs.Throws.{ends, with_heap, goto, throw_kind, on_result, on_outcome, with_turn}
use Rattle.vm_course.specs.Step.{Here, on_with, on_and_push, place_at, jump, jump_or_back, in_pairs, in_place, with_arguments, enter, get_global, of_native, call_global, call_function, call_found, call_value, throws_around, without_try, give_back, make_function, act, at_slot, here_at, in_frames, take_reply, step_in, step, property_path, global_of, spent_by, with_spent, said, binary}
use Rattle.vm_course.specs.Course.{steps}
use Rattle.vm_course.specs.States.{ends_with_request}
use Rattle.vm_state.proofs.Alls.{all_append, all_back, all_drop, all_take, all_replicate}
use Rattle.vm_state.proofs.HeapsStand.{HeapStands, all_names_more, upvalues_more, Stands, Named, made_stands, response_stands}
use Rattle.vm_state.proofs.NativesStand.{CallStands, called_stands}
use Rattle.vm_state.proofs.OperatorsStand.{ResultNamed, Nothing, operated_named, key_of_named, accessed_named, assigned_stands, dictionary_stands}
use Rattle.vm_state.proofs.FramesStand.{Calls, CallsStand, calls_base, calls_floor, calls_at, calls_up, calls_tried, calls_without, calls_around, calls_entered, calls_kept, Below, Choice}
use Rattle.vm_state.proofs.UpvaluesStand.{value_named, UpvaluesStand, upvalues_up, upvalue_named, upvalues_set, length-upvalues_set, captured_below, all_captured}
use Rattle.vm_state.proofs.StatesStand.{length-keep, Stand, ends_stand, heap_stands, spent_stands, said_stands, cut_stands, stacked_stands, push_stands, set_stands, shown_stands, throw_stands, kind_stands, result_stands, outcome_stands, turn_stands}

-- operands

record TopTaken (n floor : ℕ) (v : Val) (rest : List Val) : Type 0 where
  value : NamesBelow n v
  left : AllByRecursion (NamesBelow n) rest
  enough : floor ≤ length rest

top_taken : (n floor : ℕ) (stack : List Val) → AllByRecursion (NamesBelow n) stack → floor ≤ length stack → TopTaken n floor (top_of floor stack).0 (top_of floor stack).1
top_taken n floor [] h le = record { value = tt; left = tt; enough = le }
top_taken n floor (v ∷ vs) h le = go (nat_lt (length vs) floor) refl
  where
    go : (b : Bool) → nat_lt (length vs) floor ≡ b → let t : Val × List Val = cond b (Null, v ∷ vs) (v, vs) in TopTaken n floor t.0 t.1
    go true e = record { value = tt; left = h; enough = le }
    go false e = record { value = h.0; left = h.1; enough = ltb-false (length vs) floor e }

record AllTaken (n floor : ℕ) (vs rest : List Val) : Type 0 where
  values : AllByRecursion (NamesBelow n) vs
  left : AllByRecursion (NamesBelow n) rest
  enough : floor ≤ length rest

all_taken : (n floor count : ℕ) (stack : List Val) → AllByRecursion (NamesBelow n) stack → floor ≤ length stack → AllTaken n floor (taken floor count stack).0 (taken floor count stack).1
all_taken n floor zero stack h le = record { values = tt; left = h; enough = le }
all_taken n floor (suc count) stack h le =
    let one = top_taken n floor stack h le in
    let others = all_taken n floor count (top_of floor stack).1 one.left one.enough in
    record { values = (one.value, others.values); left = others.left; enough = others.enough }

pairs_named : (n : ℕ) (vs : List Val) → AllByRecursion (NamesBelow n) vs → AllByRecursion (λ kv. NamesBelow n kv.1) (in_pairs vs)
pairs_named n [] h = tt
pairs_named n (v ∷ []) h = tt
pairs_named n (k ∷ v ∷ vs) h = (h.1.0, pairs_named n vs h.1.1)

place_within : (texts : List (List ℕ)) (t : List ℕ) → place_in texts t ≤ length texts
place_within [] t = omega arith
place_within (l ∷ ls) t = go (place_within ls t) (bytes_eq l t)
  where
    go : place_in ls t ≤ length ls → (b : Bool) → cond b 0 (suc (place_in ls t)) ≤ suc (length ls)
    go rest true = omega arith
    go rest false = omega (arith, rest)

-- arguments

record Arguments (n floor count : ℕ) (rest arguments : List Val) : Type 0 where
  named : AllByRecursion (NamesBelow n) arguments
  counted : floor + count ≤ length arguments
  longer : length rest ≤ length arguments

arguments_stand : (n floor count : ℕ) (rest : List Val) → AllByRecursion (NamesBelow n) rest → floor ≤ length rest → Arguments n floor count rest (with_arguments floor count rest)
arguments_stand n floor count rest h le = go (nat_le count (length rest - floor)) refl
  where
    there : ℕ
    there = length rest - floor

    more : List Val
    more = slice_range rest 0 there ++ (replicate (count - there) Null ++ keep floor rest)

    long : count - there + (there + floor) ≡ length more
    long =
        let a = length-append (slice_range rest 0 there) (replicate (count - there) Null ++ keep floor rest) in
        let b = length-append (replicate (count - there) Null) (keep floor rest) in
        let c = length-replicate (count - there) Null in
        let d = length-keep floor rest le in
        let e = length-take (there - 0) (drop 0 rest) in
        omega (arith, a, b, c, d, e, le)

    go : (b : Bool) → nat_le count there ≡ b → Arguments n floor count rest (cond b rest more)
    go true e = let few = leb-true count there e in record { named = h; counted = omega (arith, few, le); longer = omega arith }
    go false e =
        let many = leb-false count there e in
        record {
          named =
              all_append (NamesBelow n) (slice_range rest 0 there) _ (all_take (NamesBelow n) (there - 0) (drop 0 rest) (all_drop (NamesBelow n) 0 rest h))
              (all_append (NamesBelow n) (replicate (count - there) Null) _ (all_replicate (NamesBelow n) (count - there) Null tt) (all_drop (NamesBelow n) (length rest - floor) rest h));
          counted = omega (arith, long, many, le);
          longer = omega (arith, long, many, le);
        }

-- what stays on the stack in a call
record InPlace (n floor : ℕ) (rest stays : List Val) : Type 0 where
  named : AllByRecursion (NamesBelow n) stays
  enough : floor ≤ length stays
  shorter : length stays ≤ length rest

in_place_stands : (n floor count : ℕ) (rest : List Val) → AllByRecursion (NamesBelow n) rest → floor ≤ length rest → InPlace n floor rest (in_place floor count rest)
in_place_stands n floor count rest h le = go (nat_le count (length rest - floor))
  where
    go : (b : Bool) → InPlace n floor rest (cond b rest (keep floor rest))
    go true = record { named = h; enough = le; shorter = omega arith }
    go false =
        let k = length-keep floor rest le in
        record { named = all_drop (NamesBelow n) (length rest - floor) rest h; enough = omega (arith, k); shorter = omega (arith, k, le) }

-- traces

printed_count : (trace : List TraceItem) (text : List ℕ) → count_by is_request (trace ++ Printed text ∷ []) ≡ count_by is_request trace
printed_count trace text = let e = sum_by_push (λ x. cond (is_request x) 1 0) trace (Printed text) in omega (arith, e)

asked_count : (trace : List TraceItem) (request : Request) → count_by is_request (trace ++ Asked request ∷ []) ≡ count_by is_request trace + 1
asked_count trace request = sum_by_push (λ x. cond (is_request x) 1 0) trace (Asked request)

last_asked : (trace : List TraceItem) (request : Request) → ends_with_request (trace ++ Asked request ∷ []) ≡ true
last_asked [] request = refl
last_asked (x ∷ []) request = refl
last_asked (x ∷ y ∷ xs) request = last_asked (y ∷ xs) request

not_many : (count : ℕ) (fetch : Bool) → fetch ≡ true → (fetch && nat_le most_requests count) ≡ false → count + 1 ≤ most_requests
not_many count true e f = let few = leb-false most_requests count f in omega (arith, few)
not_many count false e f = absurd cc

program_frame : (h : HeapOf FunCell) (base : ℕ) (function : Option ℕ) (height : ℕ) (ts : List ThrowFrame) → Calls h base function [] height ts → Calls h base function [] 0 []
program_frame h base function height [] c = c
program_frame h base function height (t ∷ ts) c = go (program_frame h base function t.height ts) (t.frames == 1) c
  where
    go : (Calls h base function [] t.height ts → Calls h base function [] 0 []) → (b : Bool) → Choice b ((t.height ≤ height) × Calls h base function [] t.height ts) (Below h base function [] height (t ∷ ts)) → Calls h base function [] 0 []
    go rest true c = rest c.1
    go rest false c = (c.0, c.1, refl)

module _ (fixed : Fixed) where
  -- where the innermost frame stands
  module _ (behind : ℕ) (f : Frame) (fs : List Frame) (s : State) (e : s.frames ≡ f ∷ fs) (st : Stand fixed s) where
    here : Here
    here = here_at behind f fs s

    calls : Calls s.heap f.base f.function fs (length s.stack) s.throws
    calls = subst (λ ks. CallsStand s.heap ks (length s.stack) s.throws) e st.calls

    deep : length (f ∷ fs) ≤ suc max_depth
    deep = subst (λ ks. length ks ≤ suc max_depth) e st.deep

    floor_is : floor_of f s ≡ max f.base (height_of (suc (length fs)) s.throws)
    floor_is = ap (λ (ks : List Frame). max f.base (height_of (length ks) s.throws)) e

    enough : floor_of f s ≤ length s.stack
    enough = let a = calls_floor s.heap f.base f.function fs (length s.stack) s.throws calls in omega (arith, a, floor_is)

    went : (place : ℕ) (rest : List Val) → AllByRecursion (NamesBelow (length s.heap)) rest → floor_of f s ≤ length rest → Stand fixed (goto place f fs (cut_to rest s))
    went place rest named le =
        cut_stands fixed s rest (record f { place = place } ∷ fs) s.throws st named (calls_at s.heap f.base f.function fs (length s.stack) (length rest) s.throws calls (omega (arith, le, floor_is))) deep

    gone : (place : ℕ) → Stand fixed (goto place f fs s)
    gone place = stacked_stands fixed s s.stack (record f { place = place } ∷ fs) st st.stack (omega arith) calls deep

    pushed : (rest : List Val) (v : Val) → AllByRecursion (NamesBelow (length s.heap)) rest → floor_of f s ≤ length rest → NamesBelow (length s.heap) v → Stand fixed (on_and_push (here_at behind f fs s) rest v s)
    pushed rest v named le q = push_stands fixed v (goto behind f fs (cut_to rest s)) (went behind rest named le) q

    top : TopTaken (length s.heap) (floor_of f s) (top_of (floor_of f s) s.stack).0 (top_of (floor_of f s) s.stack).1
    top = top_taken (length s.heap) (floor_of f s) s.stack st.stack enough

    many : (n : ℕ) → AllTaken (length s.heap) (floor_of f s) (taken (floor_of f s) n s.stack).0 (taken (floor_of f s) n s.stack).1
    many n = all_taken (length s.heap) (floor_of f s) n s.stack st.stack enough

    pushed_result : (r : Result Val Kind) (rest : List Val) → ResultNamed (length s.heap) r → AllByRecursion (NamesBelow (length s.heap)) rest → floor_of f s ≤ length rest → Stand fixed (on_result r (on_and_push (here_at behind f fs s) rest) s)
    pushed_result r rest q named le = result_stands fixed r (on_and_push (here_at behind f fs s) rest) s st q (λ v n. pushed rest v named le n)

    binary_stands : (op : BinaryOp) → Stand fixed (binary op (here_at behind f fs s) s)
    binary_stands op =
        let x = top in
        let y = top_taken (length s.heap) (floor_of f s) (top_of (floor_of f s) s.stack).1 x.left x.enough in
        pushed_result (operated op s.heap _ _) _ (operated_named (length s.heap) op s.heap _ _) y.left y.enough

    path_named : (r : Result Val Kind) (ks : List Val) → ResultNamed (length s.heap) r → ResultNamed (length s.heap) (property_path r ks s)
    path_named (Err kind) ks q = tt
    path_named (Ok v) [] q = q
    path_named (Ok v) (k ∷ ks) q = path_named (accessed s.heap v k) ks (accessed_named (length s.heap) (length s.upvalues) s.heap v k st.heap.cells)

    global_named : (name : Option (List ℕ)) → ResultNamed (length s.heap) (global_of fixed s name)
    global_named None = tt
    global_named (Some name) = key_of_named (length s.heap) (length s.upvalues) s.heap fixed.globals name st.heap.cells

    global_stands : (ks rest : List Val) → AllByRecursion (NamesBelow (length s.heap)) rest → floor_of f s ≤ length rest → Stand fixed (get_global fixed (here_at behind f fs s) ks rest s)
    global_stands [] rest named le = pushed rest Null named le tt
    global_stands (k ∷ ks) rest named le =
        pushed_result (property_path (global_of fixed s (named_text s.heap k)) ks s) rest (path_named (global_of fixed s (named_text s.heap k)) ks (global_named (named_text s.heap k))) named le

    set_local_stands : (i : ℕ) → Stand fixed (act fixed [] (o.SetLocal i) (here_at behind f fs s) s)
    unfolding act
    set_local_stands i =
        let t = top in
        set_stands fixed (goto behind f fs (cut_to (top_of (floor_of f s) s.stack).1 s)) (f.base + i) (top_of (floor_of f s) s.stack).0 (went behind _ t.left t.enough) t.value

    test_stands : (d : ℤ) (b : Bool) → Stand fixed (cond b (on_with (here_at behind f fs s) (top_of (floor_of f s) s.stack).1 s) (jump (here_at behind f fs s) d (cut_to (top_of (floor_of f s) s.stack).1 s)))
    test_stands d true = let t = top in went behind _ t.left t.enough
    test_stands d false = let t = top in went (place_at behind d) _ t.left t.enough

    null_stands : (d : ℤ) (b : Bool) → Stand fixed (cond b (on_with (here_at behind f fs s) s.stack s) (jump (here_at behind f fs s) d s))
    null_stands d true = went behind s.stack st.stack enough
    null_stands d false = gone (place_at behind d)

    get_stands : (x k : Val) (rest : List Val) → AllByRecursion (NamesBelow (length s.heap)) rest → floor_of f s ≤ length rest → Stand fixed (on_result (accessed s.heap x k) (on_and_push (here_at behind f fs s) rest) s)
    get_stands x k rest named le = pushed_result (accessed s.heap x k) rest (accessed_named (length s.heap) (length s.upvalues) s.heap x k st.heap.cells) named le

    nullish_stands : (x k : Val) (rest : List Val) (b : Bool) → AllByRecursion (NamesBelow (length s.heap)) rest → floor_of f s ≤ length rest
        → Stand fixed (cond b (on_and_push (here_at behind f fs s) rest Null s) (on_result (accessed s.heap x k) (on_and_push (here_at behind f fs s) rest) s))
    nullish_stands x k rest true named le = pushed rest Null named le tt
    nullish_stands x k rest false named le = get_stands x k rest named le

    tried_stands : (d : ℤ) → Stand fixed (act fixed [] (o.Try d) (here_at behind f fs s) s)
    unfolding act
    tried_stands d =
        let t : ThrowFrame = record { frames = length s.frames; height = length s.stack; catch = place_at behind d } in
        let ks : List Frame = record f { place = behind } ∷ fs in
        let n : length s.frames ≡ suc (length fs) = ap (λ (ks : List Frame). length ks) e in
        cut_stands fixed s s.stack ks (t ∷ s.throws) st st.stack
        (subst (λ k. Calls s.heap f.base f.function fs (length s.stack) (record { frames = k; height = length s.stack; catch = place_at behind d } ∷ s.throws)) (sym n)
        (calls_tried s.heap f.base f.function fs (length s.stack) (place_at behind d) s.throws calls)) deep

    untried_stands : Stand fixed (act fixed [] o.PopTry (here_at behind f fs s) s)
    unfolding act
    untried_stands =
        let ks : List Frame = record f { place = behind } ∷ fs in
        let n : length s.frames ≡ suc (length fs) = ap (λ (ks : List Frame). length ks) e in
        cut_stands fixed s s.stack ks (without_try (length s.frames) s.throws) st st.stack
        (subst (λ k. Calls s.heap f.base f.function fs (length s.stack) (without_try k s.throws)) (sym n) (calls_without s.heap f.base f.function fs (length s.stack) s.throws calls)) deep

    jump_stands : (d : ℤ) → Stand fixed (jump_or_back (here_at behind f fs s) d s)
    jump_stands (pos n) = gone (place_at behind (pos n))
    jump_stands (negsuc n) =
        turn_stands fixed (jump (here_at behind f fs s) (negsuc n)) s st
        (λ s1. stacked_stands fixed (record s { turns = s.turns + 1 }) s.stack (record f { place = place_at behind (negsuc n) } ∷ fs) s1 s1.stack (omega arith) calls deep)

    -- a return
    give_stands : (v : Val) → NamesBelow (length s.heap) v → Stand fixed (give_back v (here_at behind f fs s) fs s)
    give_stands v q = by_frames fs refl
      where
        by_frames : (gs : List Frame) → fs ≡ gs → Stand fixed (give_back v (here_at behind f fs s) gs s)
        by_frames [] none =
            let c : Calls s.heap f.base f.function [] (length s.stack) s.throws = subst (λ gs. Calls s.heap f.base f.function gs (length s.stack) s.throws) none calls in
            let same : s.frames ≡ f ∷ [] = e ∙ ap (λ gs. f ∷ gs) none in
            shown_stands fixed end.Done v s (record (cut_to [] s) { throws = [] }) st
            (cut_stands fixed s [] s.frames [] st tt (subst (λ ks. CallsStand s.heap ks 0 []) (sym same) (program_frame s.heap f.base f.function (length s.stack) s.throws c)) st.deep)
        by_frames (g ∷ gs) some =
            let c : Calls s.heap f.base f.function (g ∷ gs) (length s.stack) s.throws = subst (λ ks. Calls s.heap f.base f.function ks (length s.stack) s.throws) some calls in
            let le = calls_base s.heap f.base f.function (g ∷ gs) (length s.stack) s.throws c in
            let rest : List Val = keep f.base s.stack in
            let ts : List ThrowFrame = throws_around (suc (length (g ∷ gs))) s.throws in
            let deeper : length (f ∷ g ∷ gs) ≤ suc max_depth = subst (λ ks. length (f ∷ ks) ≤ suc max_depth) some deep in
            push_stands fixed v (record (cut_to rest s) { frames = g ∷ gs; throws = ts })
            (cut_stands fixed s rest (g ∷ gs) ts st (all_drop (NamesBelow (length s.heap)) (length s.stack - f.base) s.stack st.stack)
            (subst (λ n. CallsStand s.heap (g ∷ gs) n ts) (sym (length-keep f.base s.stack le)) (calls_around s.heap f.base f.function g gs (length s.stack) s.throws c)) (omega (arith, deeper))) q

  -- where a state comes before the operation goes on
  module _ (behind : ℕ) (f : Frame) (fs : List Frame) (s : State) (e : s.frames ≡ f ∷ fs) (st : Stand fixed s) where
    -- a native
    native_stands : (name : Native) (rest : List Val) (c : native.Called FunCell) → s.mode ≡ Running → (is_fetch name && nat_le most_requests (count_by is_request s.trace)) ≡ false → CallStands (length s.upvalues) name s.heap c
        → AllByRecursion (NamesBelow (length s.heap)) rest → floor_of f s ≤ length rest → Stand fixed (of_native (here_at behind f fs s) rest c s)
    native_stands name rest (native.Throws kind) running few c named le = kind_stands fixed kind s st
    native_stands name rest native.TurnsSpent running few c named le = ends_stand fixed end.TurnsSpent s st
    native_stands name rest native.UnitsSpent running few c named le = ends_stand fixed end.MemorySpent s st
    native_stands name rest (native.Gives v h m) running few c named le =
        let s1 : State = with_heap h m.units s in
        let st1 = heap_stands fixed s h m.units st c.heap c.keeps in
        let st2 = spent_stands fixed s1 m st1 c.heap c.turns in
        pushed behind f fs (with_spent m s1) e st2 rest v (all_names_more (length s.heap) (length h) rest c.keeps.cells named) le c.value
    native_stands name rest (native.Prints text m) running few c named le =
        let st1 = spent_stands fixed s m st c.0 c.1 in
        let count = printed_count s.trace text in
        let asked = st.asked in
        let st2 = said_stands fixed (Printed text) (with_spent m s) st1 running (omega (arith, count, asked)) in
        pushed behind f fs (said (Printed text) (with_spent m s)) e st2 rest Null named le tt
    native_stands name rest (native.Asks request m) running few c named le =
        let st1 = spent_stands fixed s m st c.0 c.1 in
        let count = asked_count s.trace request in
        let room = not_many (count_by is_request s.trace) (is_fetch name) c.2 few in
        let st2 = said_stands fixed (Asked request) (with_spent m s) st1 running (omega (arith, count, room)) in
        let st3 = went behind f fs (said (Asked request) (with_spent m s)) e st2 behind rest named le in
        record {
          heap = st3.heap;
          turns = st3.turns;
          stack = st3.stack;
          upvalues = st3.upvalues;
          calls = st3.calls;
          deep = st3.deep;
          asked = st3.asked;
          waits = last_asked s.trace request;
          globals = st3.globals;
          literals = st3.literals;
        }

    call_global_stands : (name : Native) (n : ℕ) → s.mode ≡ Running → Stand fixed (call_global name (here_at behind f fs s) (taken (floor_of f s) n s.stack) s)
    call_global_stands name n running = go (is_fetch name && nat_le most_requests (count_by is_request s.trace)) refl
      where
        operands : List Val × List Val
        operands = taken (floor_of f s) n s.stack

        go : (b : Bool) → (is_fetch name && nat_le most_requests (count_by is_request s.trace)) ≡ b
            → Stand fixed (cond b (ends end.TooManyFetches s) (of_native (here_at behind f fs s) operands.1 (called name (reverse operands.0) s.heap (spent_by s)) s))
        go true is = ends_stand fixed end.TooManyFetches s st
        go false is =
            let t = many behind f fs s e st n in
            native_stands name operands.1 (called name (reverse operands.0) s.heap (spent_by s)) running is
            (called_stands (length s.upvalues) name (reverse operands.0) s.heap (spent_by s) st.heap st.turns (all_back (NamesBelow (length s.heap)) operands.0 t.values)) t.left t.enough

    -- cells that are made or set
    pushed_outcome : (o : Outcome FunCell Val) (rest : List Val) → Stands Named (length s.upvalues) s.heap o → AllByRecursion (NamesBelow (length s.heap)) rest → floor_of f s ≤ length rest → Stand fixed (on_outcome o (on_and_push (here_at behind f fs s) rest) s)
    pushed_outcome o rest g named le =
        outcome_stands fixed Named o (on_and_push (here_at behind f fs s) rest) s st g
        (λ v h units st1 more q. pushed behind f fs (with_heap h units s) e st1 rest v (all_names_more (length s.heap) (length h) rest more named) le q)

    dict_stands : (n : ℕ) → let t = taken (floor_of f s) (n + n) s.stack in Stand fixed (on_outcome (dictionary_made (in_pairs (reverse t.0)) s.heap s.units) (on_and_push (here_at behind f fs s) t.1) s)
    dict_stands n =
        let t = many behind f fs s e st (n + n) in
        let vs : List Val = (taken (floor_of f s) (n + n) s.stack).0 in
        pushed_outcome (dictionary_made (in_pairs (reverse vs)) s.heap s.units) _
        (dictionary_stands (length s.upvalues) s.heap s.units st.heap (in_pairs (reverse vs)) (pairs_named (length s.heap) (reverse vs) (all_back (NamesBelow (length s.heap)) vs t.values))) t.left t.enough

    array_stands : (n : ℕ) → let t = taken (floor_of f s) n s.stack in Stand fixed (on_outcome (made (Array (reverse t.0)) s.heap s.units) (on_and_push (here_at behind f fs s) t.1) s)
    array_stands n =
        let t = many behind f fs s e st n in
        let vs : List Val = (taken (floor_of f s) n s.stack).0 in
        pushed_outcome (made (Array (reverse vs)) s.heap s.units) _ (made_stands (length s.upvalues) (Array (reverse vs)) s.heap s.units st.heap (all_back (NamesBelow (length s.heap)) vs t.values)) t.left t.enough

    set_property_stands : (x k v : Val) (rest : List Val) → NamesBelow (length s.heap) v → AllByRecursion (NamesBelow (length s.heap)) rest → floor_of f s ≤ length rest
        → Stand fixed (on_outcome (assigned s.heap x k v s.units) (λ u s1. on_with (here_at behind f fs s) rest s1) s)
    set_property_stands x k v rest q named le =
        outcome_stands fixed Nothing (assigned s.heap x k v s.units) (λ u s1. on_with (here_at behind f fs s) rest s1) s st (assigned_stands (length s.upvalues) s.heap s.units st.heap x k v q)
        (λ u h units st1 more t. went behind f fs (with_heap h units s) e st1 behind rest (all_names_more (length s.heap) (length h) rest more named) le)

    make_stands : (captures : List Capture) → Stand fixed (make_function (here_at behind f fs s) captures s)
    make_stands captures =
        let height : ℕ = suc (length s.stack) in
        let numbers : List ℕ × List Upvalue = capture_all height f (captured_by s f) captures s.upvalues in
        let all = all_captured (length s.heap) height f (captured_by s f) captures s.upvalues (captured_below (length s.heap) (length s.upvalues) s f st.heap.cells)
        (upvalues_up (length s.heap) (length s.heap) (length s.stack) height s.upvalues (omega arith) (omega arith) st.upvalues) in
        go numbers.0 numbers.1 all.grown all.below all.stand
        (made (Fun (record { place = f.place + header; captured = numbers.0 })) s.heap s.units)
        (made_stands (length numbers.1) (Fun (record { place = f.place + header; captured = numbers.0 })) s.heap s.units (upvalues_more (length s.upvalues) (length numbers.1) s.heap s.units all.grown st.heap) all.below)
      where
        go : (numbers : List ℕ) (us : List Upvalue) → length s.upvalues ≤ length us → AllByRecursion (λ n. n < length us) numbers → UpvaluesStand (length s.heap) (suc (length s.stack)) us
            → (o : Outcome FunCell Val) → Stands Named (length us) s.heap o
            → Stand fixed (on_outcome o (λ v s1. record (on_and_push (here_at behind f fs s) s1.stack v s1) { upvalues = us }) s)
        go numbers us grown below stand (op.Throws kind) g = kind_stands fixed kind s st
        go numbers us grown below stand op.Spends g = ends_stand fixed end.MemorySpent s st
        go numbers us grown below stand (op.Gives v h units) g =
            let more = g.keeps.cells in
            let literals = st.literals in
            record {
              heap = g.heap;
              turns = st.turns;
              stack = (g.value, all_names_more (length s.heap) (length h) s.stack more st.stack);
              upvalues = upvalues_up (length s.heap) (length h) (suc (length s.stack)) (suc (length s.stack)) us more (omega arith) stand;
              calls = calls_kept s.heap h (record f { place = behind } ∷ fs) (suc (length s.stack)) s.throws g.keeps
                  (calls_up s.heap f.base f.function fs (length s.stack) (suc (length s.stack)) s.throws (calls behind f fs s e st) (omega arith));
              deep = deep behind f fs s e st;
              asked = st.asked;
              waits = st.waits;
              globals = g.keeps.pairs fixed.globals st.globals;
              literals = omega (arith, more, literals);
            }

    -- upvalues
    write_stands : (u : ℕ) (v : Val) (o : Option Upvalue) → NamesBelow (length s.heap) v → Stand fixed (write_to u v o s)
    write_stands u v None q = st
    write_stands u v (Some (Opened p)) q = set_stands fixed s p v st q
    write_stands u v (Some (Closed old)) q = record {
      heap = subst (λ n. HeapStands n s.heap s.units) (sym (length-upvalues_set s.upvalues u (Closed v))) st.heap;
      turns = st.turns;
      stack = st.stack;
      upvalues = upvalues_set (length s.heap) (length s.stack) s.upvalues u v q st.upvalues;
      calls = st.calls;
      deep = st.deep;
      asked = st.asked;
      waits = st.waits;
      globals = st.globals;
      literals = st.literals;
    }

    numbered_stands : (u : Option ℕ) (v : Val) → NamesBelow (length s.heap) v → Stand fixed (write_numbered u v s)
    numbered_stands None v q = st
    numbered_stands (Some u) v q = write_stands u v (slice_get s.upvalues u) q

    -- calls
    enter_stands : (n cell : ℕ) (fc : FunCell) (params : ℕ) (rest : List Val) → is_some (function_at s.heap cell) ≡ true → length fs < max_depth → AllByRecursion (NamesBelow (length s.heap)) rest → floor_of f s ≤ length rest
        → Stand fixed (enter (here_at behind f fs s) n cell fc params rest s)
    enter_stands n cell fc params rest there room named le =
        let args : List Val = with_arguments (floor_of f s) n rest in
        let a = arguments_stand (length s.heap) (floor_of f s) n rest named le in
        let counted = a.counted in
        let longer = a.longer in
        let stack : List Val = replicate (params - n) Null ++ args in
        let base : ℕ = length args - n in
        let ks : List Frame = record { place = fc.place; base = base; function = Some cell } ∷ record f { place = behind } ∷ fs in
        let more = length-append (replicate (params - n) Null) args in
        let is = floor_is behind f fs s e st in
        let c = calls behind f fs s e st in
        let stays : List Val = in_place (floor_of f s) n rest in
        let p = in_place_stands (length s.heap) (floor_of f s) n rest named le in
        let enough = p.enough in
        let shorter = p.shorter in
        let cut = cut_stands fixed s stays s.frames s.throws st p.named
        (subst (λ gs. CallsStand s.heap gs (length stays) s.throws) (sym e) (calls_at s.heap f.base f.function fs (length s.stack) (length stays) s.throws c (omega (arith, enough, is)))) st.deep in
        stacked_stands fixed (cut_to stays s) stack ks cut
        (all_append (NamesBelow (length s.heap)) (replicate (params - n) Null) args (all_replicate (NamesBelow (length s.heap)) (params - n) Null tt) a.named)
        (omega (arith, shorter, longer, more))
        (calls_entered s.heap cell base (record f { place = behind }) fs (length s.stack) (length stack) s.throws c (omega (arith, counted, is)) (omega (arith, more)) there)
        (omega (arith, room))

  module _ (code : List Slot) (behind : ℕ) (f : Frame) (fs : List Frame) (s : State) (e : s.frames ≡ f ∷ fs) (st : Stand fixed s) where
    function_stands : (n cell : ℕ) (fc : FunCell) (params : ℕ) (rest : List Val) → is_some (function_at s.heap cell) ≡ true → AllByRecursion (NamesBelow (length s.heap)) rest → floor_of f s ≤ length rest
        → Stand fixed (call_function (here_at behind f fs s) n cell fc params rest s)
    function_stands n cell fc params rest there named le = counted (nat_lt params n)
      where
        deepest : (b : Bool) → Stand fixed (cond b (ends end.TooDeep s) (ends end.TurnsSpent s))
        deepest true = ends_stand fixed end.TooDeep s st
        deepest false = ends_stand fixed end.TurnsSpent s st

        entered : (b : Bool) → nat_lt (length fs) max_depth ≡ b
            → Stand fixed (cond b (with_turn (enter (here_at behind f fs s) n cell fc params rest) s) (cond (nat_lt s.turns max_turns) (ends end.TooDeep s) (ends end.TurnsSpent s)))
        entered true room =
            turn_stands fixed (enter (here_at behind f fs s) n cell fc params rest) s st
            (λ st1. enter_stands behind f fs (record s { turns = s.turns + 1 }) e st1 n cell fc params rest there (ltb-true (length fs) max_depth room) named le)
        entered false room = deepest (nat_lt s.turns max_turns)

        counted : (b : Bool) → Stand fixed (cond b (throw_kind ArgumentError s) (cond (nat_lt (length fs) max_depth) (with_turn (enter (here_at behind f fs s) n cell fc params rest) s) (cond (nat_lt s.turns max_turns) (ends end.TooDeep s) (ends end.TurnsSpent s))))
        counted true = kind_stands fixed ArgumentError s st
        counted false = entered (nat_lt (length fs) max_depth) refl

    found_stands : (n cell : ℕ) (o : Option FunCell) (rest : List Val) → function_at s.heap cell ≡ o → AllByRecursion (NamesBelow (length s.heap)) rest → floor_of f s ≤ length rest → Stand fixed (call_found code (here_at behind f fs s) n cell o rest s)
    found_stands n cell None rest is named le = kind_stands fixed TypeError s st
    found_stands n cell (Some fc) rest is named le = function_stands n cell fc (unwrap_or (params_at code fc.place) 0) rest (ap is_some is) named le

    call_stands : (n : ℕ) (v : Val) (rest : List Val) → AllByRecursion (NamesBelow (length s.heap)) rest → floor_of f s ≤ length rest → Stand fixed (call_value code (here_at behind f fs s) n (v, rest) s)
    call_stands n Null rest named le = kind_stands fixed TypeError s st
    call_stands n (Truth t) rest named le = kind_stands fixed TypeError s st
    call_stands n (Int z) rest named le = kind_stands fixed TypeError s st
    call_stands n (Ref cell) rest named le = found_stands n cell (function_at s.heap cell) rest refl named le

    act_stands : (p : Op) → s.mode ≡ Running → Stand fixed (act fixed code p (here_at behind f fs s) s)
    unfolding act
    act_stands (o.GetGlobal n) running = let t = many behind f fs s e st n in global_stands behind f fs s e st _ _ t.left t.enough
    act_stands (o.CallGlobal g n) running = call_global_stands behind f fs s e st g n running
    act_stands (o.And n) running = let t = many behind f fs s e st n in pushed behind f fs s e st _ (Truth _) t.left t.enough tt
    act_stands (o.Or n) running = let t = many behind f fs s e st n in pushed behind f fs s e st _ (Truth _) t.left t.enough tt
    act_stands o.Not running = let t = top behind f fs s e st in pushed behind f fs s e st _ (Truth _) t.left t.enough tt
    act_stands o.Plus running = binary_stands behind f fs s e st _
    act_stands o.Minus running = binary_stands behind f fs s e st _
    act_stands o.Multiply running = binary_stands behind f fs s e st _
    act_stands o.Eq running = binary_stands behind f fs s e st _
    act_stands o.NotEq running = binary_stands behind f fs s e st _
    act_stands o.Gt running = binary_stands behind f fs s e st _
    act_stands o.GtEq running = binary_stands behind f fs s e st _
    act_stands o.Lt running = binary_stands behind f fs s e st _
    act_stands o.LtEq running = binary_stands behind f fs s e st _
    act_stands o.IsIn running = binary_stands behind f fs s e st _
    act_stands o.NotIn running = binary_stands behind f fs s e st _
    act_stands o.PushTrue running = pushed behind f fs s e st s.stack (Truth true) st.stack (enough behind f fs s e st) tt
    act_stands o.PushFalse running = pushed behind f fs s e st s.stack (Truth false) st.stack (enough behind f fs s e st) tt
    act_stands o.PushNull running = pushed behind f fs s e st s.stack Null st.stack (enough behind f fs s e st) tt
    act_stands (o.Str text) running =
        let there = place_within fixed.literals text in
        let literals = st.literals in
        pushed behind f fs s e st s.stack (Ref (place_in fixed.literals text)) st.stack (enough behind f fs s e st) (omega (arith, there, literals))
    act_stands (o.Integer z) running = pushed behind f fs s e st s.stack (Int z) st.stack (enough behind f fs s e st) tt
    act_stands o.Pop running = let t = top behind f fs s e st in went behind f fs s e st behind _ t.left t.enough
    act_stands (o.GetLocal i) running = pushed behind f fs s e st s.stack _ st.stack (enough behind f fs s e st) (value_named (length s.heap) s.stack (f.base + i) st.stack)
    act_stands (o.SetLocal i) running = set_local_stands behind f fs s e st i
    act_stands o.Return running = let t = top behind f fs s e st in give_stands behind f fs s e st _ t.value
    act_stands (o.Jump d) running = jump_stands behind f fs s e st d
    act_stands (o.JumpIfFalse d) running = test_stands behind f fs s e st d (truth_of s.heap (top_of (floor_of f s) s.stack).0)
    act_stands (o.Dict n) running = dict_stands behind f fs s e st n
    act_stands (o.Array n) running = array_stands behind f fs s e st n
    act_stands o.GetProperty running =
        let k = top behind f fs s e st in
        let x = top_taken (length s.heap) (floor_of f s) _ k.left k.enough in
        get_stands behind f fs s e st _ _ _ x.left x.enough
    act_stands o.SetProperty running =
        let v = top behind f fs s e st in
        let k = top_taken (length s.heap) (floor_of f s) _ v.left v.enough in
        let x = top_taken (length s.heap) (floor_of f s) _ k.left k.enough in
        set_property_stands behind f fs s e st _ _ _ _ v.value x.left x.enough
    act_stands (o.JumpIfStackNotNull d) running = null_stands behind f fs s e st d (is_null (top_of (floor_of f s) s.stack).0)
    act_stands o.GetPropertyNullish running =
        let k = top behind f fs s e st in
        let x = top_taken (length s.heap) (floor_of f s) _ k.left k.enough in
        nullish_stands behind f fs s e st _ _ _ (is_null _) x.left x.enough
    act_stands o.Throw running = let t = top behind f fs s e st in throw_stands fixed s.throws _ s s st st st.calls t.value
    act_stands (o.Try d) running = tried_stands behind f fs s e st d
    act_stands o.PopTry running = untried_stands behind f fs s e st
    act_stands (o.Callable name params body captures) running = make_stands behind f fs s e st captures
    act_stands (o.CallLocal n) running = let t = top behind f fs s e st in call_stands n _ _ t.left t.enough
    act_stands (o.GetUpvalue i) running =
        pushed behind f fs s e st s.stack _ st.stack (enough behind f fs s e st) (upvalue_named (length s.heap) (length s.stack) s.stack s.upvalues (slice_get (captured_by s f) i) st.stack st.upvalues)
    act_stands (o.SetUpvalue i) running =
        let t = top behind f fs s e st in
        let s1 : State = goto behind f fs (cut_to (top_of (floor_of f s) s.stack).1 s) in
        numbered_stands behind (record f { place = behind }) fs s1 refl (went behind f fs s e st behind _ t.left t.enough) (slice_get (captured_by s1 f) i) _ t.value
    act_stands o.CloseUpvalue running = let t = top behind f fs s e st in went behind f fs s e st behind _ t.left t.enough

  slot_stands : (code : List Slot) (x : Option Slot) (f : Frame) (fs : List Frame) (s : State) → s.frames ≡ f ∷ fs → s.mode ≡ Running → Stand fixed s → Stand fixed (at_slot fixed code x f fs s)
  slot_stands code (Some (Begins p)) f fs s e running st = act_stands code (f.place + size p) f fs s e st p running
  slot_stands code (Some BodyEnds) f fs s e running st = give_stands f.place f fs s e st Null tt
  slot_stands code (Some Operand) f fs s e running st = give_stands f.place f fs s e st Null tt
  slot_stands code None f fs s e running st = give_stands f.place f fs s e st Null tt

  frames_stand : (code : List Slot) (ks : List Frame) (s : State) → s.frames ≡ ks → s.mode ≡ Running → Stand fixed s → Stand fixed (in_frames fixed code ks s)
  frames_stand code [] s e running st = st
  frames_stand code (f ∷ fs) s e running st = slot_stands code (slice_get code f.place) f fs s e running st

  pub reply_stands : (rs : List Reply) (s : State) → Stand fixed s → Stand fixed (take_reply rs s)
  reply_stands [] s st = st
  reply_stands (r ∷ rs) s st =
      outcome_stands fixed Named (response r.status r.body s.heap s.units) (λ v s1. push v (record s1 { replies = rs; mode = Running })) s st (response_stands (length s.upvalues) r.status r.body s.heap s.units st.heap)
      (λ v h units st1 more q. push_stands fixed v (record (with_heap h units s) { replies = rs; mode = Running })
      (record {
        heap = st1.heap;
        turns = st1.turns;
        stack = st1.stack;
        upvalues = st1.upvalues;
        calls = st1.calls;
        deep = st1.deep;
        asked = st1.asked;
        waits = refl;
        globals = st1.globals;
        literals = st1.literals;
      }) q)

  mode_stands : (code : List Slot) (m : Mode) (s : State) → s.mode ≡ m → Stand fixed s → Stand fixed (step_in m fixed code s)
  mode_stands code Running s e st = frames_stand code s.frames s refl e st
  mode_stands code Waiting s e st = reply_stands s.replies s st
  mode_stands code (Ended end) s e st = st

  pub steps_stand : (code : List Slot) (k : ℕ) (s : State) → Stand fixed s → Stand fixed (steps fixed code k s)
  steps_stand code zero s st = st
  steps_stand code (suc k) s st = steps_stand code k (step fixed code s) (mode_stands code s.mode s refl st)
