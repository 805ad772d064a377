-- What each operation keeps: places of frames and catches stay such ones, functions too, and the heap loses neither cells nor texts.
use Rattle.std.proofs.Common.{◌≡◌, ℕ, zero, suc, ◌+◌, ◌-◌, ℤ, pos, negsuc, List, [], ◌∷◌, length, drop, Option, Some, None, Bool, true, false, cond, Result, Ok, Err, refl, sym, subst}
use Rattle.std.specs.Prelude.{◌&&◌, ◌==◌, nat_lt, nat_le, unwrap_or, slice_get, reverse, count_by}
use Rattle.std.proofs.lemmas.Option.{none-some}
use Rattle.hog_value.specs.declared.cell.FunCell.{FunCell}
use Rattle.hog_value.specs.declared.native.Native.{Native}
use Rattle.hog_value.specs.declared.trace.End.{End}
use Rattle.hog_value.specs.declared.trace.End.TheVariants as end
use Rattle.hog_value.specs.declared.value.Kind.{Kind}
use Rattle.hog_value.specs.declared.value.Kind.TheVariants.{TypeError, ArgumentError}
use Rattle.hog_value.specs.Values.{Val}
use Rattle.hog_value.specs.declared.value.Value.TheVariants.{Null, Bool as Truth, Int, Ref}
use Rattle.hog_value.specs.Meters.{max_turns, max_units, max_depth}
use Rattle.hog_value.specs.Cells.{CellOf, Text, Array, Dict, Fun, HeapOf}
use Rattle.hog_value.specs.Operations as op
use Rattle.hog_value.specs.Operations.{Outcome, made, truth_of}
use Rattle.hog_json.specs.Texts.{shown, named_text}
use Rattle.hog_library.specs.Called as native
use Rattle.hog_library.specs.Called.{called}
use Rattle.hog_library.specs.Cells.{thrown, response}
use Rattle.hog_tree.specs.declared.tree.BinaryOp.{BinaryOp}
use Rattle.hog_ops.specs.declared.capture.Capture.{Capture}
use Rattle.hog_ops.specs.Plain as o
use Rattle.hog_ops.specs.Plain.{Op}
use Rattle.hog_ops.specs.Table.{Row, Alone, Counts, Leads, Calls, Spells, Gives, Holds, row, size}
use Rattle.hog_meaning.specs.Operators.{operated, accessed, assigned, dictionary_made}
use Rattle.hog_meaning.specs.World.{Fixed, Reply}
use Rattle.hog_meaning.specs.Meaning.{most_requests, is_request, is_fetch, is_null}
use Rattle.vm_course.specs.State.{Slot, Begins, BodyEnds, Operand, Upvalue, Opened, Closed, Frame, ThrowFrame, Running, Waiting, Ended, Mode, State, header, function_in, function_at, params_at}
use Rattle.vm_course.specs.Stack.{keep, push, cut_to, top_of, taken, captured_by, capture_all, write_to, write_numbered}
use Rattle.vm_course.specs.Throws.{ends, with_heap, ends_shown, caught, throw_to, throw_made, throw_kind, on_result, on_outcome, with_turn}
use Rattle.vm_course.specs.Step.{Here, on_with, on_and_push, place_at, jump, jump_or_back, in_pairs, enter, get_global, of_native, call_global, call_function, call_found, call_value, throws_around, without_try, give_back, make_function, act, at_slot, here_at, in_frames, take_reply, step_in, step, property_path, global_of, spent_by, binary}
use Rattle.vm_course.proofs.CodesHeaps.{AllFuns, FunIs, Keeps, keeps_same, Fair, CallFair, called_fair, thrown_fair, response_fair, made_fair, dictionary_fair, assigned_fair}

-- Functions are such ones, and places such ones.
module _ (P : FunCell → Type 0) (Q : ℕ → Type 0) where
  abbrev pub FramesAre : List Frame → Type 0
  FramesAre [] = Unit {0}
  FramesAre (f ∷ fs) = Q f.place × FramesAre fs

  abbrev pub CatchesAre : List ThrowFrame → Type 0
  CatchesAre [] = Unit {0}
  CatchesAre (t ∷ ts) = Q t.catch × CatchesAre ts

  pub record Sound (s : State) : Type 0 where
    pub frames : FramesAre s.frames
    pub catches : CatchesAre s.throws
    pub funs : AllFuns P s.heap

  -- what comes of a state: a sound one, whose heap has kept what it had
  pub record Moves (s s' : State) : Type 0 where
    pub heap : Keeps s.heap s'.heap
    pub sound : Sound s'

  frames_kept : (n : ℕ) (fs : List Frame) → FramesAre fs → FramesAre (drop n fs)
  frames_kept zero fs h = h
  frames_kept (suc n) [] h = h
  frames_kept (suc n) (f ∷ fs) h = frames_kept n fs h.1

  -- where frames, catches and heap are as before
  stays : {s s' : State} → Sound s → s'.frames ≡ s.frames → s'.throws ≡ s.throws → s'.heap ≡ s.heap → Moves s s'
  stays {s} h a b c = record {
    heap = subst (Keeps s.heap) (sym c) (keeps_same s.heap);
    sound = record { frames = subst FramesAre (sym a) h.frames; catches = subst CatchesAre (sym b) h.catches; funs = subst (AllFuns P) (sym c) h.funs };
  }

  -- where the frames alone are others
  goes : {s s' : State} (fs : List Frame) → Sound s → FramesAre fs → s'.frames ≡ fs → s'.throws ≡ s.throws → s'.heap ≡ s.heap → Moves s s'
  goes {s} fs h k a b c = record {
    heap = subst (Keeps s.heap) (sym c) (keeps_same s.heap);
    sound = record { frames = subst FramesAre (sym a) k; catches = subst CatchesAre (sym b) h.catches; funs = subst (AllFuns P) (sym c) h.funs };
  }

  shown_moves : (base : State) (make : List ℕ → End) (v : Val) (before s : State) → Moves base before → Moves base s → Moves base (ends_shown make v before s)
  shown_moves base make v before s k h = go (nat_le (s.units + length (shown s.heap v)) max_units)
    where
      go : (b : Bool) → Moves base (cond b (ends (make (shown s.heap v)) (record s { units = s.units + length (shown s.heap v) })) (ends end.MemorySpent before))
      go true = record { heap = h.heap; sound = record { frames = h.sound.frames; catches = h.sound.catches; funs = h.sound.funs } }
      go false = record { heap = k.heap; sound = record { frames = k.sound.frames; catches = k.sound.catches; funs = k.sound.funs } }

  caught_moves : (base : State) (v : Val) (t : ThrowFrame) (ts : List ThrowFrame) (fs : List Frame) (s : State) → Moves base s → Q t.catch → CatchesAre ts → FramesAre fs → Moves base (caught v t ts fs s)
  caught_moves base v t ts [] s h c k f = h
  caught_moves base v t ts (g ∷ fs) s h c k f = record { heap = h.heap; sound = record { frames = (c, f.1); catches = k; funs = h.sound.funs } }

  throw_moves : (base : State) (ts : List ThrowFrame) (v : Val) (before s : State) → Moves base before → Moves base s → CatchesAre ts → Moves base (throw_to ts v before s)
  throw_moves base [] v before s k h c = shown_moves base end.Threw v before s k h
  throw_moves base (t ∷ ts) v before s k h c = caught_moves base v t ts (keep t.frames s.frames) s h c.0 c.1 (frames_kept (length s.frames - t.frames) s.frames h.sound.frames)

  same_moves : (s : State) → Sound s → Moves s s
  same_moves s h = record { heap = keeps_same s.heap; sound = h }

  ended_moves : (e : End) (s : State) → Sound s → Moves s (ends e s)
  ended_moves e s h = stays h refl refl refl

  kind_moves : (kind : Kind) (s : State) → Sound s → Moves s (throw_kind kind s)
  unfolding throw_kind
  kind_moves kind s h = go (thrown kind s.heap s.units) (thrown_fair P kind s.heap s.units h.funs)
    where
      go : (o : Outcome FunCell Val) → Fair P s.heap o → Moves s (throw_made s o)
      go (op.Gives v h1 units) f =
          throw_moves s s.throws v s (with_heap h1 units s) (same_moves s h)
          (record { heap = f.0; sound = record { frames = h.frames; catches = h.catches; funs = f.1 } }) h.catches
      go (op.Throws k) f = ended_moves end.MemorySpent s h
      go op.Spends f = ended_moves end.MemorySpent s h

  result_moves : {A : Type 0} (r : Result A Kind) (go : A → State → State) (s : State) → Sound s → ((a : A) → Moves s (go a s)) → Moves s (on_result r go s)
  result_moves (Ok a) go s h k = k a
  result_moves (Err kind) go s h k = kind_moves kind s h

  outcome_moves : {A : Type 0} (o : Outcome FunCell A) (go : A → State → State) (s : State) → Sound s → Fair P s.heap o
      → ((a : A) (h1 : HeapOf FunCell) (units : ℕ) → Keeps s.heap h1 → AllFuns P h1 → Moves s (go a (with_heap h1 units s))) → Moves s (on_outcome o go s)
  outcome_moves (op.Gives a h1 units) go s h f k = k a h1 units f.0 f.1
  outcome_moves (op.Throws kind) go s h f k = kind_moves kind s h
  outcome_moves op.Spends go s h f k = ended_moves end.MemorySpent s h

  turn_moves : (go : State → State) (s : State) → Sound s → Moves s (go (record s { turns = s.turns + 1 })) → Moves s (with_turn go s)
  turn_moves go s h k = either (nat_lt s.turns max_turns)
    where
      either : (b : Bool) → Moves s (cond b (go (record s { turns = s.turns + 1 })) (ends end.TurnsSpent s))
      either true = k
      either false = ended_moves end.TurnsSpent s h

  -- where an operation stands
  pub record Ready (here : Here) (s : State) : Type 0 where
    pub sound : Sound s
    pub behind : Q here.behind
    pub around : FramesAre here.around

  -- on to the next operation, the heap as it was or with what was made
  next_moves : {s s' : State} (here : Here) → Ready here s → s'.frames ≡ record here.frame { place = here.behind } ∷ here.around → s'.throws ≡ s.throws → s'.heap ≡ s.heap → Moves s s'
  next_moves here r a b c = goes (record here.frame { place = here.behind } ∷ here.around) r.sound (r.behind, r.around) a b c

  made_moves : {s s' : State} (here : Here) (h1 : HeapOf FunCell) → Ready here s → Keeps s.heap h1 → AllFuns P h1
      → s'.frames ≡ record here.frame { place = here.behind } ∷ here.around → s'.throws ≡ s.throws → s'.heap ≡ h1 → Moves s s'
  made_moves {s} here h1 r k f a b c = record {
    heap = subst (Keeps s.heap) (sym c) k;
    sound = record { frames = subst FramesAre (sym a) (r.behind, r.around); catches = subst CatchesAre (sym b) r.sound.catches; funs = subst (AllFuns P) (sym c) f };
  }

  native_moves : (here : Here) (rest : List Val) (c : native.Called FunCell) (s : State) → Ready here s → CallFair P s.heap c → Moves s (of_native here rest c s)
  native_moves here rest (native.Gives v h1 m) s r f = made_moves here h1 r f.0 f.1 refl refl refl
  native_moves here rest (native.Prints text m) s r f = next_moves here r refl refl refl
  native_moves here rest (native.Throws kind) s r f = kind_moves kind s r.sound
  native_moves here rest (native.Asks request m) s r f = next_moves here r refl refl refl
  native_moves here rest native.TurnsSpent s r f = ended_moves end.TurnsSpent s r.sound
  native_moves here rest native.UnitsSpent s r f = ended_moves end.MemorySpent s r.sound

  function_moves : (here : Here) (n cell : ℕ) (f : FunCell) (params : ℕ) (rest : List Val) (s : State) → Ready here s → Q f.place → Moves s (call_function here n cell f params rest s)
  function_moves here n cell f params rest s r q = counted (nat_lt params n)
    where
      deep : (b : Bool) → Moves s (cond b (ends end.TooDeep s) (ends end.TurnsSpent s))
      deep true = ended_moves end.TooDeep s r.sound
      deep false = ended_moves end.TurnsSpent s r.sound

      entered : (b : Bool) → Moves s (cond b (with_turn (enter here n cell f params rest) s) (cond (nat_lt s.turns max_turns) (ends end.TooDeep s) (ends end.TurnsSpent s)))
      entered true = turn_moves (enter here n cell f params rest) s r.sound (record { heap = keeps_same s.heap; sound = record { frames = (q, (r.behind, r.around)); catches = r.sound.catches; funs = r.sound.funs } })
      entered false = deep (nat_lt s.turns max_turns)

      counted : (b : Bool) → Moves s (cond b (throw_kind ArgumentError s) (cond (nat_lt (length here.around) max_depth) (with_turn (enter here n cell f params rest) s) (cond (nat_lt s.turns max_turns) (ends end.TooDeep s) (ends end.TurnsSpent s))))
      counted true = kind_moves ArgumentError s r.sound
      counted false = entered (nat_lt (length here.around) max_depth)

  -- the functions of a heap are such ones
  fun_found : (h : HeapOf FunCell) (n : ℕ) (f : FunCell) → AllFuns P h → function_at h n ≡ Some f → P f
  fun_found [] n f a e = absurd (none-some f e)
  fun_found (c ∷ h) zero f a e = go c a.0 e
    where
      go : (c : CellOf FunCell) → FunIs P c → function_in c ≡ Some f → P f
      go (Text t) p e = absurd (none-some f e)
      go (Array vs) p e = absurd (none-some f e)
      go (Dict ps) p e = absurd (none-some f e)
      go (Fun g) p e = let same : g ≡ f = cc in subst P same p
  fun_found (c ∷ h) (suc n) f a e = fun_found h n f a.1 e

  -- a function's body begins at such a place
  abbrev pub BodiesAre : Type 0
  BodiesAre = (f : FunCell) → P f → Q f.place

  found_moves : BodiesAre → (code : List Slot) (here : Here) (n cell : ℕ) (f : Option FunCell) (rest : List Val) (s : State) → Ready here s → function_at s.heap cell ≡ f → Moves s (call_found code here n cell f rest s)
  found_moves body code here n cell None rest s r e = kind_moves TypeError s r.sound
  found_moves body code here n cell (Some f) rest s r e = function_moves here n cell f (unwrap_or (params_at code f.place) 0) rest s r (body f (fun_found s.heap cell f r.sound.funs e))

  call_moves : BodiesAre → (code : List Slot) (here : Here) (n : ℕ) (v : Val) (rest : List Val) (s : State) → Ready here s → Moves s (call_value code here n (v, rest) s)
  call_moves body code here n Null rest s r = kind_moves TypeError s r.sound
  call_moves body code here n (Truth t) rest s r = kind_moves TypeError s r.sound
  call_moves body code here n (Int z) rest s r = kind_moves TypeError s r.sound
  call_moves body code here n (Ref cell) rest s r = found_moves body code here n cell (function_at s.heap cell) rest s r refl

  around_kept : (n : ℕ) (ts : List ThrowFrame) → CatchesAre ts → CatchesAre (throws_around n ts)
  around_kept n [] h = h
  around_kept n (t ∷ ts) h = go (nat_lt t.frames n) (around_kept n ts h.1)
    where
      go : (b : Bool) → CatchesAre (throws_around n ts) → CatchesAre (cond b (t ∷ ts) (throws_around n ts))
      go true ih = h
      go false ih = ih

  try_kept : (n : ℕ) (ts : List ThrowFrame) → CatchesAre ts → CatchesAre (without_try n ts)
  try_kept n [] h = h
  try_kept n (t ∷ ts) h = go (t.frames == n)
    where
      go : (b : Bool) → CatchesAre (cond b ts (t ∷ ts))
      go true = h.1
      go false = h

  give_moves : (v : Val) (here : Here) (fs : List Frame) (s : State) → Sound s → FramesAre fs → Moves s (give_back v here fs s)
  give_moves v here [] s h k = shown_moves s end.Done v s (record (cut_to [] s) { throws = [] }) (same_moves s h) (record { heap = keeps_same s.heap; sound = record { frames = h.frames; catches = tt; funs = h.funs } })
  give_moves v here (g ∷ gs) s h k = record { heap = keeps_same s.heap; sound = record { frames = k; catches = around_kept (suc (length (g ∷ gs))) s.throws h.catches; funs = h.funs } }

  -- writing to an upvalue
  write_frames : (u : ℕ) (v : Val) (o : Option Upvalue) (s : State) → (write_to u v o s).frames ≡ s.frames
  write_frames u v None s = refl
  write_frames u v (Some (Opened p)) s = refl
  write_frames u v (Some (Closed x)) s = refl

  write_throws : (u : ℕ) (v : Val) (o : Option Upvalue) (s : State) → (write_to u v o s).throws ≡ s.throws
  write_throws u v None s = refl
  write_throws u v (Some (Opened p)) s = refl
  write_throws u v (Some (Closed x)) s = refl

  write_heap : (u : ℕ) (v : Val) (o : Option Upvalue) (s : State) → (write_to u v o s).heap ≡ s.heap
  write_heap u v None s = refl
  write_heap u v (Some (Opened p)) s = refl
  write_heap u v (Some (Closed x)) s = refl

  written_moves : (here : Here) (rest : List Val) (u : Option ℕ) (v : Val) (s : State) → Ready here s → Moves s (write_numbered u v (on_with here rest s))
  written_moves here rest None v s r = next_moves here r refl refl refl
  written_moves here rest (Some u) v s r =
      let s1 : State = on_with here rest s in
      next_moves here r (write_frames u v (slice_get s1.upvalues u) s1) (write_throws u v (slice_get s1.upvalues u) s1) (write_heap u v (slice_get s1.upvalues u) s1)

  to_moves : (here : Here) (d : ℤ) (s s1 : State) → Ready here s → Q (place_at here.behind d) → s1.throws ≡ s.throws → s1.heap ≡ s.heap → Moves s (jump here d s1)
  to_moves here d s s1 r q b c = goes (record here.frame { place = place_at here.behind d } ∷ here.around) r.sound (q, r.around) refl b c

  jump_moves : (here : Here) (d : ℤ) (s : State) → Ready here s → Q (place_at here.behind d) → Moves s (jump_or_back here d s)
  jump_moves here (pos n) s r q = to_moves here (pos n) s s r q refl refl
  jump_moves here (negsuc n) s r q = turn_moves (jump here (negsuc n)) s r.sound (to_moves here (negsuc n) s (record s { turns = s.turns + 1 }) r q refl refl)

  global_moves : (fixed : Fixed) (here : Here) (ks rest : List Val) (s : State) → Ready here s → Moves s (get_global fixed here ks rest s)
  global_moves fixed here [] rest s r = next_moves here r refl refl refl
  global_moves fixed here (k ∷ ks) rest s r = result_moves (property_path (global_of fixed s (named_text s.heap k)) ks s) (on_and_push here rest) s r.sound (λ a. next_moves here r refl refl refl)

  binary_moves : (b : BinaryOp) (here : Here) (s : State) → Ready here s → Moves s (binary b here s)
  binary_moves b here s r =
      let x = top_of here.floor s.stack in
      let y = top_of here.floor x.1 in
      result_moves (operated b s.heap x.0 y.0) (on_and_push here y.1) s r.sound (λ a. next_moves here r refl refl refl)

  global_call_moves : (f : Native) (here : Here) (operands : List Val × List Val) (s : State) → Ready here s → Moves s (call_global f here operands s)
  global_call_moves f here operands s r = go (is_fetch f && nat_le most_requests (count_by is_request s.trace))
    where
      go : (b : Bool) → Moves s (cond b (ends end.TooManyFetches s) (of_native here operands.1 (called f (reverse operands.0) s.heap (spent_by s)) s))
      go true = ended_moves end.TooManyFetches s r.sound
      go false = native_moves here operands.1 (called f (reverse operands.0) s.heap (spent_by s)) s r (called_fair P f (reverse operands.0) s.heap (spent_by s) r.sound.funs)

  get_moves : (here : Here) (s : State) → Ready here s → Moves s (let k = top_of here.floor s.stack in let x = top_of here.floor k.1 in on_result (accessed s.heap x.0 k.0) (on_and_push here x.1) s)
  get_moves here s r =
      let k = top_of here.floor s.stack in
      let x = top_of here.floor k.1 in
      result_moves (accessed s.heap x.0 k.0) (on_and_push here x.1) s r.sound (λ a. next_moves here r refl refl refl)

  nullish_moves : (here : Here) (s : State) (b : Bool) → Ready here s → Moves s (let k = top_of here.floor s.stack in let x = top_of here.floor k.1 in cond b (on_and_push here x.1 Null s) (on_result (accessed s.heap x.0 k.0) (on_and_push here x.1) s))
  nullish_moves here s true r = next_moves here r refl refl refl
  nullish_moves here s false r = get_moves here s r

  test_moves : (d : ℤ) (here : Here) (s : State) (b : Bool) → Ready here s → Q (place_at here.behind d) → Moves s (let t = top_of here.floor s.stack in cond b (on_with here t.1 s) (jump here d (cut_to t.1 s)))
  test_moves d here s true r q = next_moves here r refl refl refl
  test_moves d here s false r q = let t = top_of here.floor s.stack in to_moves here d s (cut_to t.1 s) r q refl refl

  null_moves : (d : ℤ) (here : Here) (s : State) (b : Bool) → Ready here s → Q (place_at here.behind d) → Moves s (cond b (on_with here s.stack s) (jump here d s))
  null_moves d here s true r q = next_moves here r refl refl refl
  null_moves d here s false r q = to_moves here d s s r q refl refl

  make_moves : (here : Here) (captures : List Capture) (s : State) → Ready here s → ((cs : List ℕ) → P (record { place = here.frame.place + header; captured = cs })) → Moves s (make_function here captures s)
  make_moves here captures s r p =
      let numbers = capture_all (suc (length s.stack)) here.frame (captured_by s here.frame) captures s.upvalues in
      let f : FunCell = record { place = here.frame.place + header; captured = numbers.0 } in
      outcome_moves (made (Fun f) s.heap s.units) (λ v s1. record (on_and_push here s1.stack v s1) { upvalues = numbers.1 }) s r.sound
      (made_fair P (Fun f) s.heap s.units (p numbers.0) r.sound.funs)
      (λ a h1 units k all. made_moves here h1 r k all refl refl refl)

  -- where an operation leads, and what it makes
  abbrev pub LeadsTo : ℕ → Row → Type 0
  LeadsTo behind (Alone n) = Unit {0}
  LeadsTo behind (Counts n least count) = Unit {0}
  LeadsTo behind (Leads n d) = Q (place_at behind d)
  LeadsTo behind (Calls f n) = Unit {0}
  LeadsTo behind (Spells t) = Unit {0}
  LeadsTo behind (Gives z) = Unit {0}
  LeadsTo behind (Holds name params inner captures) = Unit {0}

  abbrev pub Makes : ℕ → Row → Type 0
  Makes place (Alone n) = Unit {0}
  Makes place (Counts n least count) = Unit {0}
  Makes place (Leads n d) = Unit {0}
  Makes place (Calls f n) = Unit {0}
  Makes place (Spells t) = Unit {0}
  Makes place (Gives z) = Unit {0}
  Makes place (Holds name params inner captures) = (cs : List ℕ) → P (record { place = place + header; captured = cs })

  act_moves : BodiesAre → (fixed : Fixed) (code : List Slot) (p : Op) (here : Here) (s : State) → Ready here s → LeadsTo here.behind (row p) → Makes here.frame.place (row p) → Moves s (act fixed code p here s)
  unfolding act
  act_moves body fixed code (o.GetGlobal n) here s r l m = global_moves fixed here (taken here.floor n s.stack).0 (taken here.floor n s.stack).1 s r
  act_moves body fixed code (o.CallGlobal f n) here s r l m = global_call_moves f here (taken here.floor n s.stack) s r
  act_moves body fixed code (o.And n) here s r l m = next_moves here r refl refl refl
  act_moves body fixed code (o.Or n) here s r l m = next_moves here r refl refl refl
  act_moves body fixed code o.Not here s r l m = next_moves here r refl refl refl
  act_moves body fixed code o.Plus here s r l m = binary_moves _ here s r
  act_moves body fixed code o.Minus here s r l m = binary_moves _ here s r
  act_moves body fixed code o.Multiply here s r l m = binary_moves _ here s r
  act_moves body fixed code o.Eq here s r l m = binary_moves _ here s r
  act_moves body fixed code o.NotEq here s r l m = binary_moves _ here s r
  act_moves body fixed code o.Gt here s r l m = binary_moves _ here s r
  act_moves body fixed code o.GtEq here s r l m = binary_moves _ here s r
  act_moves body fixed code o.Lt here s r l m = binary_moves _ here s r
  act_moves body fixed code o.LtEq here s r l m = binary_moves _ here s r
  act_moves body fixed code o.IsIn here s r l m = binary_moves _ here s r
  act_moves body fixed code o.NotIn here s r l m = binary_moves _ here s r
  act_moves body fixed code o.PushTrue here s r l m = next_moves here r refl refl refl
  act_moves body fixed code o.PushFalse here s r l m = next_moves here r refl refl refl
  act_moves body fixed code o.PushNull here s r l m = next_moves here r refl refl refl
  act_moves body fixed code (o.Str text) here s r l m = next_moves here r refl refl refl
  act_moves body fixed code (o.Integer z) here s r l m = next_moves here r refl refl refl
  act_moves body fixed code o.Pop here s r l m = next_moves here r refl refl refl
  act_moves body fixed code (o.GetLocal i) here s r l m = next_moves here r refl refl refl
  act_moves body fixed code (o.SetLocal i) here s r l m = next_moves here r refl refl refl
  act_moves body fixed code o.Return here s r l m = give_moves (top_of here.floor s.stack).0 here here.around s r.sound r.around
  act_moves body fixed code (o.Jump d) here s r l m = jump_moves here d s r l
  act_moves body fixed code (o.JumpIfFalse d) here s r l m = test_moves d here s (truth_of s.heap (top_of here.floor s.stack).0) r l
  act_moves body fixed code (o.Dict n) here s r l m =
      let t = taken here.floor (n + n) s.stack in
      outcome_moves (dictionary_made (in_pairs (reverse t.0)) s.heap s.units) (on_and_push here t.1) s r.sound
      (dictionary_fair P (in_pairs (reverse t.0)) s.heap s.units r.sound.funs) (λ a h1 units k all. made_moves here h1 r k all refl refl refl)
  act_moves body fixed code (o.Array n) here s r l m =
      let t = taken here.floor n s.stack in
      outcome_moves (made (Array (reverse t.0)) s.heap s.units) (on_and_push here t.1) s r.sound
      (made_fair P (Array (reverse t.0)) s.heap s.units tt r.sound.funs) (λ a h1 units k all. made_moves here h1 r k all refl refl refl)
  act_moves body fixed code o.GetProperty here s r l m = get_moves here s r
  act_moves body fixed code o.SetProperty here s r l m =
      let v = top_of here.floor s.stack in
      let k = top_of here.floor v.1 in
      let x = top_of here.floor k.1 in
      outcome_moves (assigned s.heap x.0 k.0 v.0 s.units) (λ u s1. on_with here x.1 s1) s r.sound
      (assigned_fair P s.heap r.sound.funs x.0 k.0 v.0 s.units) (λ a h1 units kept all. made_moves here h1 r kept all refl refl refl)
  act_moves body fixed code (o.JumpIfStackNotNull d) here s r l m = null_moves d here s (is_null (top_of here.floor s.stack).0) r l
  act_moves body fixed code o.GetPropertyNullish here s r l m = nullish_moves here s (is_null (top_of here.floor (top_of here.floor s.stack).1).0) r
  act_moves body fixed code o.Throw here s r l m = throw_moves s s.throws (top_of here.floor s.stack).0 s s (same_moves s r.sound) (same_moves s r.sound) r.sound.catches
  act_moves body fixed code (o.Try d) here s r l m =
      record { heap = keeps_same s.heap; sound = record { frames = (r.behind, r.around); catches = (l, r.sound.catches); funs = r.sound.funs } }
  act_moves body fixed code o.PopTry here s r l m =
      record { heap = keeps_same s.heap; sound = record { frames = (r.behind, r.around); catches = try_kept (length s.frames) s.throws r.sound.catches; funs = r.sound.funs } }
  act_moves body fixed code (o.Callable name params inner captures) here s r l m = make_moves here captures s r m
  act_moves body fixed code (o.CallLocal n) here s r l m = call_moves body code here n (top_of here.floor s.stack).0 (top_of here.floor s.stack).1 s r
  act_moves body fixed code (o.GetUpvalue i) here s r l m = next_moves here r refl refl refl
  act_moves body fixed code (o.SetUpvalue i) here s r l m =
      let t = top_of here.floor s.stack in
      let s1 : State = on_with here t.1 s in
      written_moves here t.1 (slice_get (captured_by s1 here.frame) i) t.0 s r
  act_moves body fixed code o.CloseUpvalue here s r l m = next_moves here r refl refl refl

  -- what holds of an operation that begins at a place
  pub record Fitting (place : ℕ) (p : Op) : Type 0 where
    pub goes_on : Q (place + size p)
    pub leads : LeadsTo (place + size p) (row p)
    pub makes : Makes place (row p)

  -- a reply that is taken in
  pub reply_moves : (rs : List Reply) (s : State) → Sound s → Moves s (take_reply rs s)
  reply_moves [] s h = same_moves s h
  reply_moves (r ∷ rs) s h =
      outcome_moves (response r.status r.body s.heap s.units) (λ v s1. push v (record s1 { replies = rs; mode = Running })) s h (response_fair P r.status r.body s.heap s.units h.funs)
      (λ a h1 units k all. record { heap = k; sound = record { frames = h.frames; catches = h.catches; funs = all } })

  module _ (body : BodiesAre) (fixed : Fixed) (code : List Slot) (fits : (place : ℕ) (p : Op) → slice_get code place ≡ Some (Begins p) → Fitting place p) where
    slot_moves : (x : Option Slot) (f : Frame) (fs : List Frame) (s : State) → slice_get code f.place ≡ x → Sound s → FramesAre fs → Moves s (at_slot fixed code x f fs s)
    slot_moves (Some (Begins p)) f fs s e h k =
        let fit = fits f.place p e in
        act_moves body fixed code p (here_at (f.place + size p) f fs s) s (record { sound = h; behind = fit.goes_on; around = k }) fit.leads fit.makes
    slot_moves (Some BodyEnds) f fs s e h k = give_moves Null (here_at f.place f fs s) fs s h k
    slot_moves (Some Operand) f fs s e h k = give_moves Null (here_at f.place f fs s) fs s h k
    slot_moves None f fs s e h k = give_moves Null (here_at f.place f fs s) fs s h k

    frames_move : (fs : List Frame) (s : State) → Sound s → FramesAre fs → Moves s (in_frames fixed code fs s)
    frames_move [] s h k = same_moves s h
    frames_move (f ∷ fs) s h k = slot_moves (slice_get code f.place) f fs s refl h k.1

    in_moves : (m : Mode) (s : State) → Sound s → Moves s (step_in m fixed code s)
    in_moves Running s h = frames_move s.frames s h h.frames
    in_moves Waiting s h = reply_moves s.replies s h
    in_moves (Ended e) s h = same_moves s h

    -- one operation
    pub step_moves : (s : State) → Sound s → Moves s (step fixed code s)
    step_moves s h = in_moves s.mode s h
