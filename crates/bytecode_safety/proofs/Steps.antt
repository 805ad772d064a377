-- Each operation of an accepted code has what it needs, keeps the invariant and is paid.
use Rattle.std.proofs.Common.{◌≡◌, ℕ, suc, ◌+◌, ◌-◌, ◌*◌, ◌<◌, ◌≤◌, List, [], ◌∷◌, ◌++◌, length, map, drop, replicate, Option, Some, None, Bool, true, false, cond, refl, sym, ap, ap₂, ◌∙◌, subst, arith, length-append}
use Rattle.std.specs.Prelude.{◌==◌, ◌&&◌, ℤ, pos, negsuc, not, nat_lt, nat_le, slice_get, option_and_then, unwrap_or, slice_range, reverse, count_by}
use Rattle.std.proofs.lemmas.Bool.Decides.{nat_tests}
use Rattle.std.proofs.lemmas.List.{length-replicate}
use Rattle.hog_value.specs.declared.cell.FunCell.{FunCell}
use Rattle.hog_value.specs.declared.native.Native.{Native}
use Rattle.hog_value.specs.declared.trace.End.TheVariants as end
use Rattle.hog_value.specs.declared.trace.TraceItem.{TraceItem}
use Rattle.hog_value.specs.declared.trace.TraceItem.TheVariants.{Printed, Asked}
use Rattle.hog_value.specs.declared.value.Kind.TheVariants.{TypeError, ArgumentError}
use Rattle.hog_value.specs.Values.{Val}
use Rattle.hog_value.specs.declared.value.Value.TheVariants.{Null, Bool as Truth, Int, Ref}
use Rattle.hog_value.specs.Meters.{max_turns, max_depth}
use Rattle.hog_value.specs.Cells.{HeapOf, Array as ArrayCell, Fun}
use Rattle.hog_value.specs.Operations as op
use Rattle.hog_value.specs.Operations.{Outcome, made, truth_of}
use Rattle.hog_json.specs.Texts.{named_text}
use Rattle.hog_library.specs.Called.{called}
use Rattle.hog_library.specs.Called as native
use Rattle.hog_tree.specs.declared.tree.BinaryOp.{BinaryOp}
use Rattle.hog_tree.specs.declared.tree.BinaryOp.TheVariants as b
use Rattle.hog_ops.specs.declared.capture.Capture.{Capture}
use Rattle.hog_ops.specs.Plain.{Op, Ops, GetGlobal, CallGlobal, And, Or, Not, Plus, Minus, Multiply, Eq, NotEq, Gt, GtEq, Lt, LtEq, IsIn, NotIn, PushTrue, PushFalse, PushNull, Str, Integer, Pop, GetLocal, SetLocal, Return, Jump, JumpIfFalse, Dict, Array, GetProperty, SetProperty, JumpIfStackNotNull, GetPropertyNullish, Throw, Try, PopTry, Callable, CallLocal, GetUpvalue, SetUpvalue, CloseUpvalue}
use Rattle.hog_ops.specs.Table.{size}
use Rattle.hog_meaning.specs.Operators.{operated, accessed, assigned, dictionary_made}
use Rattle.hog_meaning.specs.Meaning.{place_in, most_requests, is_request, is_fetch, is_null}
use Rattle.hog_meaning.specs.World.{Fixed}
use Rattle.vm_course.specs.State.{header, Slot, Begins, Upvalue, Opened, Closed, Frame, Running, Waiting, State, function_at}
use Rattle.vm_course.specs.Stack.{value_at, with_value, or_null, close, keep, floor_of, top_of, taken, captured_by, upvalue_of, upvalue_value, write_to, write_numbered, capture_all, cut_to}
use Rattle.vm_course.specs.Throws.{ends, with_heap, throw_kind, on_outcome, with_turn}
use Rattle.vm_course.specs.Step.{Here, on_with, on_and_push, place_at as led_to, jump, binary, property_path, global_of, get_global, spent_by, with_spent, said, of_native, with_arguments, in_place, enter, call_function, call_found, call_value, give_back, throws_around, without_try, in_pairs, all_true, any_true, act, here_at}
use Rattle.bytecode_check.specs.Shape.{OpenTry, shaped, floor, Shapes, open_try}
use Rattle.bytecode_check.specs.Verify.{is_empty}
use Rattle.bytecode_safety.specs.Lacks.{needs, is_none, lacks_upvalue, lacks_try, lacks_body, lacks_callee, lacks_other, lacks_at}
use Rattle.bytecode_safety.proofs.Places.{InBody, Led, Known, Makes}
use Rattle.bytecode_safety.proofs.Heaps.{Fair, CallFair, Keeps, keeps_same, made_fair, dictionary_fair, assigned_fair, called_fair}
use Rattle.bytecode_safety.proofs.Stacks.{Took, Below, below_more, open_more, open_set, closed_below, closed_length, keep_length, top_length, taken_length, with_value_length, with_upvalue_length, value_there, takes_all, captures_there}
use Rattle.bytecode_safety.proofs.Steady.{own_throws, tries_of, throws_of, Opens, AllOpen, Lower, CellFits, CellsFit, Steady, SitsIn, left, phi, fuel, fuel_spent, psi_in, psi, Goes, left_less, left_ahead, left_some, own_gone, last_gone, function_kept, lower_kept, cells_more, cell_get, numbers_are, goes_before}
use Rattle.bytecode_safety.proofs.Landing.{at_place, open_deeper, open_floor}
use Rattle.bytecode_safety.proofs.Turns.{TurnsOf, called_turns}
use Rattle.bytecode_safety.proofs.Moves.{or_false, up_there, seat_comes, seat_at, sh, psi_is, floor_is, throws_are, depth_is, has_operands, enough, goes_running, goes_waiting, stops, shows, thrown_from, turned, moved, cut, cut_turns, cut_goes, cut_goes_turns, at_heap, kind_goes, result_goes, outcome_goes}

-- what is to be shown of an operation
pub record Fares (fixed : Fixed) (code : List Slot) (Y : Shapes) (s : State) (f : Frame) (fs : List Frame) (op : Op) : Type 0 where
  pub whole : lacks_at code (Some (Begins op)) f fs s ≡ false
  pub goes : Goes code Y s (act fixed code op (here_at (f.place + size op) f fs s) s)

-- the stack is cut, and has one value more, or not

module _ (code : List Slot) (Y : Shapes) (s : State) (m : s.mode ≡ Running) (f : Frame) (fs : List Frame) (t : Steady code Y 0 s f fs) where
  abbrev Kn : Op → Type 0
  Kn op = Known code Y t.seat.captures f.place op (sh code Y s m f fs t)

  -- so many values are taken off, and one is pushed; turns may be spent, and the trace may grow
  replaces_turns : (op : Op) (n q : ℕ) (rest : List Val) (v : Val) (tr : List TraceItem) (turns : ℕ) → Kn op → Led code Y t.seat.captures q (shaped ((t.seat.shape.depth - n) + 1) t.seat.shape.tries) → s.turns ≤ turns → f.place < q
      → needs op ≡ n → length rest + n ≡ length s.stack → Goes code Y s (cut_turns code Y s m f fs t rest (v ∷ rest) q tr turns)
  replaces_turns op n q rest v tr turns k l more lt is len =
      let a = t.seat.level in let h = has_operands code Y s m f fs t k in let c = floor_is code Y s m f fs t in
      cut_goes_turns code Y s m f fs t rest (v ∷ rest) q ((t.seat.shape.depth - n) + 1) tr turns k l more lt (omega arith) (omega arith) (omega arith)

  replaces : (op : Op) (n q : ℕ) (rest : List Val) (v : Val) → Kn op → Led code Y t.seat.captures q (shaped ((t.seat.shape.depth - n) + 1) t.seat.shape.tries) → f.place < q
      → needs op ≡ n → length rest + n ≡ length s.stack → Goes code Y s (cut code Y s m f fs t rest (v ∷ rest) q)
  replaces op n q rest v k l lt is len = replaces_turns op n q rest v s.trace s.turns k l (omega arith) lt is len

  -- so many values are taken off
  drops : (op : Op) (n q : ℕ) (rest : List Val) → Kn op → Led code Y t.seat.captures q (shaped ((t.seat.shape.depth - n) + 0) t.seat.shape.tries) → f.place < q
      → needs op ≡ n → length rest + n ≡ length s.stack → Goes code Y s (cut code Y s m f fs t rest rest q)
  drops op n q rest k l lt is len =
      let a = t.seat.level in let h = has_operands code Y s m f fs t k in let c = floor_is code Y s m f fs t in
      cut_goes code Y s m f fs t rest rest q ((t.seat.shape.depth - n) + 0) k l lt (omega arith) (omega arith) (omega arith)

by_test : {code : List Slot} {Y : Shapes} {s s1 s2 : State} (b : Bool) → Goes code Y s s1 → Goes code Y s s2 → Goes code Y s (cond b s1 s2)
by_test true g h = g
by_test false g h = h

module _ (fixed : Fixed) (code : List Slot) (Y : Shapes) (s : State) (m : s.mode ≡ Running) (f : Frame) (fs : List Frame) (t : Steady code Y 0 s f fs) where
  abbrev K : Op → Type 0
  K op = Known code Y t.seat.captures f.place op (sh code Y s m f fs t)

  abbrev F : Op → Type 0
  F op = Fares fixed code Y s f fs op

  abbrev fl : ℕ
  fl = floor_of f s

  some : {op : Op} → K op → 1 ≤ left code f.place
  some {op} k = left_some code f.place op k.slot

  -- nothing but operands is needed
  alone : {op : Op} → K op → lacks_other code op (here_at (f.place + size op) f fs s) s ≡ false → lacks_at code (Some (Begins op)) f fs s ≡ false
  alone {op} k e = or_false (nat_lt (length s.stack) (floor_of f s + needs op)) (lacks_other code op (here_at (f.place + size op) f fs s) s) (enough code Y s m f fs t k) e

  abbrev P : FunCell → Type 0
  P = CellFits code Y t.count

  -- one value taken off the top, two, three
  one_off : {op : Op} → K op → 1 ≤ needs op → suc (length (top_of fl s.stack).1) ≡ length s.stack
  one_off {op} k n = let h = has_operands code Y s m f fs t k in top_length fl s.stack (omega arith)

  abbrev second : Val × List Val
  second = top_of fl (top_of fl s.stack).1

  two_off : {op : Op} → K op → 2 ≤ needs op → suc (suc (length second.1)) ≡ length s.stack
  two_off {op} k n =
      let h = has_operands code Y s m f fs t k in let one = top_length fl s.stack (omega arith) in
      let two = top_length fl (top_of fl s.stack).1 (omega arith) in omega arith

  abbrev third : Val × List Val
  third = top_of fl second.1

  three_off : {op : Op} → K op → 3 ≤ needs op → suc (suc (suc (length third.1))) ≡ length s.stack
  three_off {op} k n =
      let h = has_operands code Y s m f fs t k in let two = two_off k (omega arith) in
      let three = top_length fl second.1 (omega arith) in omega arith

  many_off : {op : Op} (n : ℕ) → K op → n ≤ needs op → length (taken fl n s.stack).1 + n ≡ length s.stack
  many_off {op} n k le = let h = has_operands code Y s m f fs t k in taken_length fl n s.stack (omega arith)

  pushes : (op : Op) (q : ℕ) (v : Val) → K op → Led code Y t.seat.captures q (shaped ((t.seat.shape.depth - 0) + 1) t.seat.shape.tries) → f.place < q → needs op ≡ 0 → Goes code Y s (cut code Y s m f fs t s.stack (v ∷ s.stack) q)
  pushes op q v k l lt is = replaces code Y s m f fs t op 0 q s.stack v k l lt is (omega arith)

  -- operators
  binary_goes : (op : Op) (o : BinaryOp) → K op → needs op ≡ 2 → Led code Y t.seat.captures (f.place + 1) (shaped ((t.seat.shape.depth - 2) + 1) t.seat.shape.tries) → Goes code Y s (binary o (here_at (f.place + 1) f fs s) s)
  binary_goes op o k is l =
      let two = two_off k (omega arith) in
      result_goes code Y s m f fs t (some k) (operated o s.heap (top_of fl s.stack).0 second.0) (on_and_push (here_at (f.place + 1) f fs s) second.1)
      (λ v. replaces code Y s m f fs t op 2 (f.place + 1) second.1 v k l (omega arith) is (omega arith))

  op_plus : K Plus → F Plus
  unfolding act
  op_plus k = record { whole = alone k refl; goes = binary_goes Plus b.Plus k refl k.leads.0 }

  op_minus : K Minus → F Minus
  unfolding act
  op_minus k = record { whole = alone k refl; goes = binary_goes Minus b.Minus k refl k.leads.0 }

  op_multiply : K Multiply → F Multiply
  unfolding act
  op_multiply k = record { whole = alone k refl; goes = binary_goes Multiply b.Times k refl k.leads.0 }

  op_eq : K Eq → F Eq
  unfolding act
  op_eq k = record { whole = alone k refl; goes = binary_goes Eq b.Equal k refl k.leads.0 }

  op_not_eq : K NotEq → F NotEq
  unfolding act
  op_not_eq k = record { whole = alone k refl; goes = binary_goes NotEq b.NotEqual k refl k.leads.0 }

  op_gt : K Gt → F Gt
  unfolding act
  op_gt k = record { whole = alone k refl; goes = binary_goes Gt b.Greater k refl k.leads.0 }

  op_gt_eq : K GtEq → F GtEq
  unfolding act
  op_gt_eq k = record { whole = alone k refl; goes = binary_goes GtEq b.GreaterEqual k refl k.leads.0 }

  op_lt : K Lt → F Lt
  unfolding act
  op_lt k = record { whole = alone k refl; goes = binary_goes Lt b.Less k refl k.leads.0 }

  op_lt_eq : K LtEq → F LtEq
  unfolding act
  op_lt_eq k = record { whole = alone k refl; goes = binary_goes LtEq b.LessEqual k refl k.leads.0 }

  op_is_in : K IsIn → F IsIn
  unfolding act
  op_is_in k = record { whole = alone k refl; goes = binary_goes IsIn b.IsIn k refl k.leads.0 }

  op_not_in : K NotIn → F NotIn
  unfolding act
  op_not_in k = record { whole = alone k refl; goes = binary_goes NotIn b.NotIn k refl k.leads.0 }

  op_push_true : K PushTrue → F PushTrue
  unfolding act
  op_push_true k = record { whole = alone k refl; goes = pushes PushTrue (f.place + 1) (Truth true) k k.leads.0 (omega arith) refl }

  op_push_false : K PushFalse → F PushFalse
  unfolding act
  op_push_false k = record { whole = alone k refl; goes = pushes PushFalse (f.place + 1) (Truth false) k k.leads.0 (omega arith) refl }

  op_push_null : K PushNull → F PushNull
  unfolding act
  op_push_null k = record { whole = alone k refl; goes = pushes PushNull (f.place + 1) Null k k.leads.0 (omega arith) refl }

  op_str : (x : List ℕ) → K (Str x) → F (Str x)
  unfolding act
  op_str x k = record { whole = alone k refl; goes = pushes (Str x) (f.place + 2) (Ref (place_in fixed.literals x)) k k.leads.0 (omega arith) refl }

  op_integer : (x : ℤ) → K (Integer x) → F (Integer x)
  unfolding act
  op_integer x k = record { whole = alone k refl; goes = pushes (Integer x) (f.place + 2) (Int x) k k.leads.0 (omega arith) refl }

  op_not : K Not → F Not
  unfolding act
  op_not k =
      let one = one_off k (omega arith) in
      let x = top_of fl s.stack in
      record { whole = alone k refl; goes = replaces code Y s m f fs t Not 1 (f.place + 1) x.1 (Truth (not (truth_of s.heap x.0))) k k.leads.0 (omega arith) refl (omega arith) }

  op_and : (n : ℕ) → K (And n) → F (And n)
  unfolding act
  op_and n k =
      let x = taken fl n s.stack in
      record { whole = alone k refl; goes = replaces code Y s m f fs t (And n) n (f.place + 2) x.1 (Truth (all_true s x.0)) k k.leads.0 (omega arith) refl (many_off n k (omega arith)) }

  op_or : (n : ℕ) → K (Or n) → F (Or n)
  unfolding act
  op_or n k =
      let x = taken fl n s.stack in
      record { whole = alone k refl; goes = replaces code Y s m f fs t (Or n) n (f.place + 2) x.1 (Truth (any_true s x.0)) k k.leads.0 (omega arith) refl (many_off n k (omega arith)) }

  op_array : (n : ℕ) → K (Array n) → F (Array n)
  unfolding act
  op_array n k =
      let x = taken fl n s.stack in
      record {
        whole = alone k refl;
        goes = outcome_goes code Y s m f fs t (some k) (made (ArrayCell (reverse x.0)) s.heap s.units) (on_and_push (here_at (f.place + 2) f fs s) x.1) (made_fair P (ArrayCell (reverse x.0)) s.heap s.units tt t.cells)
            (λ v h units ke fi. replaces code Y (with_heap h units s) m f fs (at_heap code Y s m f fs t (some k) h units ke fi) (Array n) n (f.place + 2) x.1 v k k.leads.0 (omega arith) refl (many_off n k (omega arith)));
      }

  op_dict : (n : ℕ) → K (Dict n) → F (Dict n)
  unfolding act
  op_dict n k =
      let x = taken fl (n + n) s.stack in
      let len = many_off (n + n) k (omega arith) in
      record {
        whole = alone k refl;
        goes = outcome_goes code Y s m f fs t (some k) (dictionary_made (in_pairs (reverse x.0)) s.heap s.units) (on_and_push (here_at (f.place + 2) f fs s) x.1) (dictionary_fair P (in_pairs (reverse x.0)) s.heap s.units t.cells)
            (λ v h units ke fi. replaces code Y (with_heap h units s) m f fs (at_heap code Y s m f fs t (some k) h units ke fi) (Dict n) (2 * n) (f.place + 2) x.1 v k k.leads.0 (omega arith) refl (omega arith));
      }

  op_get_property : K GetProperty → F GetProperty
  unfolding act
  op_get_property k =
      let two = two_off k (omega arith) in
      record {
        whole = alone k refl;
        goes = result_goes code Y s m f fs t (some k) (accessed s.heap second.0 (top_of fl s.stack).0) (on_and_push (here_at (f.place + 1) f fs s) second.1)
            (λ v. replaces code Y s m f fs t GetProperty 2 (f.place + 1) second.1 v k k.leads.0 (omega arith) refl (omega arith));
      }

  op_get_nullish : K GetPropertyNullish → F GetPropertyNullish
  unfolding act
  op_get_nullish k =
      let two = two_off k (omega arith) in
      record {
        whole = alone k refl;
        goes = by_test (is_null second.0) (replaces code Y s m f fs t GetPropertyNullish 2 (f.place + 1) second.1 Null k k.leads.0 (omega arith) refl (omega arith))
            (result_goes code Y s m f fs t (some k) (accessed s.heap second.0 (top_of fl s.stack).0) (on_and_push (here_at (f.place + 1) f fs s) second.1)
            (λ v. replaces code Y s m f fs t GetPropertyNullish 2 (f.place + 1) second.1 v k k.leads.0 (omega arith) refl (omega arith)));
      }

  op_set_property : K SetProperty → F SetProperty
  unfolding act
  op_set_property k =
      let three = three_off k (omega arith) in
      record {
        whole = alone k refl;
        goes = outcome_goes code Y s m f fs t (some k) (assigned s.heap third.0 second.0 (top_of fl s.stack).0 s.units) (λ u s1. on_with (here_at (f.place + 1) f fs s) third.1 s1) (assigned_fair P s.heap t.cells third.0 second.0 (top_of fl s.stack).0 s.units)
            (λ u h units ke fi. drops code Y (with_heap h units s) m f fs (at_heap code Y s m f fs t (some k) h units ke fi) SetProperty 3 (f.place + 1) third.1 k k.leads.0 (omega arith) refl (omega arith));
      }

  op_pop : K Pop → F Pop
  unfolding act
  op_pop k =
      let one = one_off k (omega arith) in
      record { whole = alone k refl; goes = drops code Y s m f fs t Pop 1 (f.place + 1) (top_of fl s.stack).1 k k.leads.0 (omega arith) refl (omega arith) }

  op_close : K CloseUpvalue → F CloseUpvalue
  unfolding act
  op_close k =
      let one = one_off k (omega arith) in
      record { whole = alone k refl; goes = drops code Y s m f fs t CloseUpvalue 1 (f.place + 1) (top_of fl s.stack).1 k k.leads.0 (omega arith) refl (omega arith) }

  -- a global, and properties of it
  op_global : (n : ℕ) → K (GetGlobal n) → F (GetGlobal n)
  unfolding act
  op_global n k = record { whole = alone k refl; goes = by_names (taken fl n s.stack).0 (taken fl n s.stack).1 (many_off n k (omega arith)) }
    where
      by_names : (vs rest : List Val) → length rest + n ≡ length s.stack → Goes code Y s (get_global fixed (here_at (f.place + 2) f fs s) vs rest s)
      by_names [] rest len = replaces code Y s m f fs t (GetGlobal n) n (f.place + 2) rest Null k k.leads.0 (omega arith) refl len
      by_names (name ∷ keys) rest len = result_goes code Y s m f fs t (some k) (property_path (global_of fixed s (named_text s.heap name)) keys s) (on_and_push (here_at (f.place + 2) f fs s) rest)
          (λ v. replaces code Y s m f fs t (GetGlobal n) n (f.place + 2) rest v k k.leads.0 (omega arith) refl len)

  -- natives
  op_native : (x : Native) (n : ℕ) → K (CallGlobal x n) → F (CallGlobal x n)
  unfolding act
  op_native x n k =
      let vs = reverse (taken fl n s.stack).0 in
      record {
        whole = alone k refl;
        goes = by_test (is_fetch x && nat_le most_requests (count_by is_request s.trace)) (stops code Y s m f fs t {e = end.TooManyFetches} refl refl refl (some k))
            (by_called (called x vs s.heap (spent_by s)) (taken fl n s.stack).1 (many_off n k (omega arith)) (called_fair P x vs s.heap (spent_by s) t.cells) (called_turns x vs s.heap (spent_by s)));
      }
    where
      by_called : (o : native.Called FunCell) (rest : List Val) → length rest + n ≡ length s.stack → CallFair P s.heap o → TurnsOf o s.turns → Goes code Y s (of_native (here_at (f.place + 3) f fs s) rest o s)
      by_called (native.Gives v h x1) rest len fair more =
          goes_before code Y s _ h x1.units
          (replaces_turns code Y (with_heap h x1.units s) m f fs (at_heap code Y s m f fs t (some k) h x1.units fair.0 fair.1) (CallGlobal x n) n (f.place + 3) rest v s.trace x1.turns k k.leads.0 more (omega arith) refl len)
      by_called (native.Prints text x1) rest len fair more =
          goes_before code Y s _ s.heap x1.units
          (replaces_turns code Y (with_heap s.heap x1.units s) m f fs (at_heap code Y s m f fs t (some k) s.heap x1.units (keeps_same s.heap) t.cells) (CallGlobal x n) n (f.place + 3) rest Null (s.trace ++ Printed text ∷ []) x1.turns k k.leads.0 more (omega arith) refl len)
      by_called (native.Throws kind) rest len fair more = kind_goes code Y s m f fs t (some k) kind
      by_called (native.Asks request x1) rest len fair more =
          let a = t.seat.level in let h = has_operands code Y s m f fs t k in let c = floor_is code Y s m f fs t in
          let q = f.place + 3 in
          let less = left_ahead code f.place q (CallGlobal x n) k.slot (omega arith) in
          let spent = fuel_spent (left code 0) s.turns more.0 in
          let fu = ap (fuel (left code 0)) more.1 in
          let asked : State = on_with (here_at q f fs s) rest (said (Asked request) (with_spent x1 s)) in
          let s' : State = record asked { mode = Waiting } in
          let lead = k.leads.0 in
          goes_waiting code Y s m f fs t {s' = s'} refl lead
          (moved code Y s m f fs t {k = 1} s' q ((t.seat.shape.depth - n) + 1) refl refl refl (closed_length (length rest) s.stack s.upvalues) (closed_below (length rest) s.stack s.upvalues) (omega arith) (omega arith) (omega arith))
          (omega arith)
      by_called native.TurnsSpent rest len fair more = stops code Y s m f fs t {e = end.TurnsSpent} refl refl refl (some k)
      by_called native.UnitsSpent rest len fair more = stops code Y s m f fs t {e = end.MemorySpent} refl refl refl (some k)

  past : (d i : ℕ) → nat_le d i ≡ false → i < d
  past d i e = grind (arith, nat_tests)

  get_local : (i : ℕ) → K (GetLocal i) → F (GetLocal i)
  unfolding act
  get_local i k =
      let a = t.seat.level in let b = k.fine.operands in let lt = past t.seat.shape.depth i k.fine.local in
      record {
        whole = alone k (value_there s.stack (f.base + i) (omega arith));
        goes = cut_goes code Y s m f fs t s.stack (or_null (value_at s.stack (f.base + i)) ∷ s.stack) (f.place + 2) ((t.seat.shape.depth - 0) + 1) k k.leads.0 (omega arith) (omega arith) (omega arith) (omega arith);
      }

  set_local : (i : ℕ) → K (SetLocal i) → F (SetLocal i)
  unfolding act
  set_local i k =
      let a = t.seat.level in let b = k.fine.operands in let h = has_operands code Y s m f fs t k in
      let x = top_of fl s.stack in
      let one = top_length fl s.stack (omega arith) in
      let lt = past (t.seat.shape.depth - 1) i k.fine.local in
      let same = with_value_length x.1 (f.base + i) x.0 in
      record {
        whole = alone k (value_there x.1 (f.base + i) (omega arith));
        goes = cut_goes code Y s m f fs t x.1 (with_value x.1 (f.base + i) x.0) (f.place + 2) ((t.seat.shape.depth - 1) + 0) k k.leads.0 (omega arith) (omega arith) (omega arith) (omega arith);
      }

  -- the numbers of the frame's upvalues
  numbers : captured_by s f ≡ t.seat.numbers
  numbers = numbers_are s.heap f.function t.seat.numbers t.seat.function

  get_upvalue : (i : ℕ) → K (GetUpvalue i) → F (GetUpvalue i)
  unfolding act
  get_upvalue i k =
      let a = t.seat.level in let b = k.fine.operands in let lt = past t.seat.captures i k.fine.upvalue in let c = t.seat.captured in
      let below = subst (λ n. Below n t.seat.numbers) (sym t.counted) t.seat.below in
      record {
        whole = alone k (subst (λ ns. lacks_upvalue s.stack (option_and_then (slice_get s.upvalues) (slice_get ns i)) ≡ false) (sym numbers) (up_there s.stack s.upvalues t.seat.numbers i (omega arith) below t.opened));
        goes = cut_goes code Y s m f fs t s.stack (upvalue_value s.stack (upvalue_of s f i) ∷ s.stack) (f.place + 2) ((t.seat.shape.depth - 0) + 1) k k.leads.0 (omega arith) (omega arith) (omega arith) (omega arith);
      }

  -- a value is written to an upvalue after the cut
  written : (rest : List Val) (q depth : ℕ) (v : Val) {op : Op} → K op → Led code Y t.seat.captures q (shaped depth t.seat.shape.tries) → f.place < q → length rest ≡ f.base + depth → floor t.seat.shape.tries ≤ depth
      → (o : Option ℕ) → Goes code Y s (write_numbered o v (cut code Y s m f fs t rest rest q))
  written rest q depth v {op} k l lt is le None = cut_goes code Y s m f fs t rest rest q depth k l lt (omega arith) is le
  written rest q depth v {op} k l lt is le (Some u) = by_upvalue (slice_get (map (close (length rest) s.stack) s.upvalues) u)
    where
      by_upvalue : (o : Option Upvalue) → Goes code Y s (write_to u v o (cut code Y s m f fs t rest rest q))
      by_upvalue None = cut_goes code Y s m f fs t rest rest q depth k l lt (omega arith) is le
      by_upvalue (Some (Opened p)) =
          let same = with_value_length rest p v in
          cut_goes code Y s m f fs t rest (with_value rest p v) q depth k l lt (omega arith) (omega arith) le
      by_upvalue (Some (Closed old)) =
          let us = map (close (length rest) s.stack) s.upvalues in
          let less = left_ahead code f.place q op k.slot lt in
          goes_running code Y s m f fs t m l
          (moved code Y s m f fs t {k = 0} (write_to u v (Some (Closed old)) (cut code Y s m f fs t rest rest q)) q depth refl refl refl (with_upvalue_length us u (Closed v) ∙ closed_length (length rest) s.stack s.upvalues)
          (open_set (length rest) u v us (closed_below (length rest) s.stack s.upvalues)) (omega arith) (omega arith) le)
          (omega arith)

  set_upvalue : (i : ℕ) → K (SetUpvalue i) → F (SetUpvalue i)
  unfolding act
  set_upvalue i k =
      let a = t.seat.level in let b = k.fine.operands in let h = has_operands code Y s m f fs t k in let lt = past t.seat.captures i k.fine.upvalue in let c = t.seat.captured in
      let x = top_of fl s.stack in
      let one = top_length fl s.stack (omega arith) in
      let us = map (close (length x.1) s.stack) s.upvalues in
      let n : length us ≡ t.count = closed_length (length x.1) s.stack s.upvalues ∙ t.counted in
      let below = subst (λ n. Below n t.seat.numbers) (sym n) t.seat.below in
      record {
        whole = alone k (subst (λ ns. lacks_upvalue x.1 (option_and_then (slice_get us) (slice_get ns i)) ≡ false) (sym numbers) (up_there x.1 us t.seat.numbers i (omega arith) below (closed_below (length x.1) s.stack s.upvalues)));
        goes = written x.1 (f.place + 2) ((t.seat.shape.depth - 1) + 0) x.0 k k.leads.0 (omega arith) (omega arith) (omega arith) (slice_get (captured_by s f) i);
      }

  throw : K Throw → F Throw
  unfolding act
  throw k = record { whole = alone k refl; goes = thrown_from code Y s m f fs t (top_of fl s.stack).0 s refl refl (some k) }

  jump_ahead : (n : ℕ) → K (Jump (pos n)) → F (Jump (pos n))
  unfolding act
  jump_ahead n k =
      let a = t.seat.level in let b = t.seat.above in
      let q = f.place + 2 + n in
      let less = left_ahead code f.place q (Jump (pos n)) k.slot (omega arith) in
      record {
        whole = alone k refl;
        goes = goes_running code Y s m f fs t m k.leads.0 (moved code Y s m f fs t {k = 0} (jump (here_at (f.place + 2) f fs s) (pos n) s) q t.seat.shape.depth refl refl refl refl t.opened (omega arith) (omega arith) (omega arith)) (omega arith);
      }

  jump_back : (n : ℕ) → K (Jump (negsuc n)) → F (Jump (negsuc n))
  unfolding act
  jump_back n k =
      let a = t.seat.level in let b = t.seat.above in
      let q = (f.place + 2) - suc n in
      record {
        whole = alone k refl;
        goes = turned code Y s m f fs t (jump (here_at (f.place + 2) f fs s) (negsuc n)) (some k)
            (λ lt.
            let s1 : State = record s { turns = s.turns + 1 } in
            let spent = fuel_spent (left code 0) s.turns lt in
            let less = left_less code q in
            let one = some k in
            goes_running code Y s m f fs t m k.leads.0 (moved code Y s m f fs t {k = 0} (jump (here_at (f.place + 2) f fs s) (negsuc n) s1) q t.seat.shape.depth refl refl refl refl t.opened (omega arith) (omega arith) (omega arith)) (omega arith));
      }

  jump_if_false : (n : ℕ) → K (JumpIfFalse (pos n)) → F (JumpIfFalse (pos n))
  unfolding act
  jump_if_false n k =
      let a = t.seat.level in let b = k.fine.operands in let h = has_operands code Y s m f fs t k in
      let x = top_of fl s.stack in
      let one = top_length fl s.stack (omega arith) in
      let d = (t.seat.shape.depth - 1) + 0 in
      record {
        whole = alone k refl;
        goes = by_truth (truth_of s.heap x.0)
            (cut_goes code Y s m f fs t x.1 x.1 (f.place + 2) d k k.leads.0 (omega arith) (omega arith) (omega arith) (omega arith))
            (cut_goes code Y s m f fs t x.1 x.1 (f.place + 2 + n) d k k.leads.1.0 (omega arith) (omega arith) (omega arith) (omega arith));
      }
    where
      by_truth : {s1 s2 : State} (b : Bool) → Goes code Y s s1 → Goes code Y s s2 → Goes code Y s (cond b s1 s2)
      by_truth true g h = g
      by_truth false g h = h

  jump_if_value : (n : ℕ) → K (JumpIfStackNotNull (pos n)) → F (JumpIfStackNotNull (pos n))
  unfolding act
  jump_if_value n k =
      let a = t.seat.level in let b = k.fine.operands in let c = t.seat.above in
      let q = f.place + 2 + n in
      let less = left_ahead code f.place q (JumpIfStackNotNull (pos n)) k.slot (omega arith) in
      record {
        whole = alone k refl;
        goes = by_truth (is_null (top_of fl s.stack).0)
            (cut_goes code Y s m f fs t s.stack s.stack (f.place + 2) t.seat.shape.depth k k.leads.0 (omega arith) (omega arith) (omega arith) (omega arith))
            (goes_running code Y s m f fs t m k.leads.1.0 (moved code Y s m f fs t {k = 0} (jump (here_at (f.place + 2) f fs s) (pos n) s) q t.seat.shape.depth refl refl refl refl t.opened (omega arith) (omega arith) (omega arith)) (omega arith));
      }
    where
      by_truth : {s1 s2 : State} (b : Bool) → Goes code Y s s1 → Goes code Y s s2 → Goes code Y s (cond b s1 s2)
      by_truth true g h = g
      by_truth false g h = h

  return : K Return → F Return
  unfolding act
  return k =
      let v = (top_of fl s.stack).0 in
      record { whole = alone k refl; goes = by_frames fs t.lower (throws_are code Y s m f fs t) (psi_is code Y s m f fs t) (some k) }
    where
      by_frames : (gs : List Frame) → Lower code Y s.heap t.count f.base gs → s.throws ≡ own_throws (suc (length gs)) f.base t.seat.shape.tries ++ throws_of Y gs → psi code s ≡ (left code f.place + phi code gs) + fuel (left code 0) s.turns → 1 ≤ left code f.place
          → Goes code Y s (give_back (top_of fl s.stack).0 (here_at (f.place + 1) f fs s) gs s)
      by_frames [] l th p some = shows code Y s m f fs t end.Done (top_of fl s.stack).0 s (record (cut_to [] s) { throws = [] }) refl refl refl refl some
      by_frames (g ∷ gs) l th p some =
          let rest = keep f.base s.stack in
          let above = t.seat.above in
          let n = keep_length f.base s.stack (omega arith) in
          let s' : State = give_back (top_of fl s.stack).0 (here_at (f.place + 1) f fs s) (g ∷ gs) s in
          record {
            sits = subst (λ y. SitsIn y code Y s') (sym m) record {
              frame = g;
              around = gs;
              steady = record {
                frames = refl;
                count = t.count;
                counted = closed_length (length rest) s.stack s.upvalues ∙ t.counted;
                seat = seat_at (ap suc (sym n)) (seat_comes l.0);
                lower = l.1;
                throws = ap (throws_around (suc (length (g ∷ gs)))) th ∙ own_gone Y (g ∷ gs) f.base t.seat.shape.tries;
                opened = open_more (length rest) (suc (length rest)) s'.upvalues (omega arith) (closed_below (length rest) s.stack s.upvalues);
                cells = t.cells;
              };
            };
            paid =
                let b : psi code s' ≡ phi code (g ∷ gs) + fuel (left code 0) s.turns = ap (λ y. psi_in y (phi code s'.frames + fuel (left code 0) s.turns)) m in
                omega arith;
          }

  try : (d : ℤ) → K (Try d) → F (Try d)
  unfolding act
  try d k =
      let a = t.seat.level in let b = t.seat.above in
      let catch = k.leads.0 in
      let q = f.place + 2 in
      let less = left_ahead code f.place q (Try d) k.slot (omega arith) in
      let s' : State = act fixed code (Try d) (here_at q f fs s) s in
      let one : OpenTry = open_try t.seat.shape.depth (led_to q d) in
      let high : length s.stack ≡ f.base + t.seat.shape.depth = omega arith in
      let here : Opens code Y t.seat.captures t.seat.shape.depth one t.seat.shape.tries = record { low = omega arith; shape = catch.given.is; before = catch.given.before; body = catch.body } in
      let first : (record { frames = length s.frames; height = length s.stack; catch = led_to q d } ∷ s.throws) ≡ own_throws (suc (length fs)) f.base (one ∷ t.seat.shape.tries) ++ throws_of Y fs =
      ap₂ (λ x y. record { frames = x; height = y; catch = led_to q d } ∷ s.throws) (depth_is code Y s m f fs t) high ∙ ap (λ ts. record { frames = suc (length fs); height = f.base + t.seat.shape.depth; catch = led_to q d } ∷ ts) (throws_are code Y s m f fs t) in
      record {
        whole = alone k refl;
        goes = goes_running code Y s m f fs t m k.leads.1.0 record {
          frames = refl;
          throws = first;
          counted = closed_length (length s.stack) s.stack s.upvalues;
          opened = closed_below (length s.stack) s.stack s.upvalues;
          cells = refl;
          level = a;
          above = omega arith;
          tried = (here, t.seat.tried);
        } (omega arith);
      }

  pop_try : K PopTry → F PopTry
  unfolding act
  pop_try k =
      let a = t.seat.level in
      let q = f.place + 1 in
      let less = left_ahead code f.place q PopTry k.slot (omega arith) in
      let p = by_tries t.seat.shape.tries k.fine.open_try t.seat.tried in
      record {
        whole = alone k (ap₂ lacks_try (depth_is code Y s m f fs t) (throws_are code Y s m f fs t) ∙ p.0);
        goes = goes_running code Y s m f fs t m k.leads.0 record {
          frames = refl;
          throws = ap₂ without_try (depth_is code Y s m f fs t) (throws_are code Y s m f fs t) ∙ p.1;
          counted = closed_length (length s.stack) s.stack s.upvalues;
          opened = closed_below (length s.stack) s.stack s.upvalues;
          cells = refl;
          level = a;
          above = let c = p.3 in omega arith;
          tried = p.2;
        } (omega arith);
      }
    where
      by_tries : (ts : List OpenTry) → is_empty ts ≡ false → AllOpen code Y t.seat.captures t.seat.shape.depth ts
          → (lacks_try (suc (length fs)) (own_throws (suc (length fs)) f.base ts ++ throws_of Y fs) ≡ false) × (without_try (suc (length fs)) (own_throws (suc (length fs)) f.base ts ++ throws_of Y fs) ≡ own_throws (suc (length fs)) f.base (drop 1 ts) ++ throws_of Y fs)
          × AllOpen code Y t.seat.captures t.seat.shape.depth (drop 1 ts) × (floor (drop 1 ts) ≤ t.seat.shape.depth)
      by_tries [] e o = absurd cc
      by_tries (u ∷ us) e o =
          let yes : (suc (length fs) == suc (length fs)) ≡ true = grind (arith, nat_tests) in
          let low = o.0.low in
          let deep = open_floor code Y t.seat.captures u.depth us o.1 in
          (ap not yes, last_gone (suc (length fs)) f.base u us (throws_of Y fs), open_deeper code Y t.seat.captures u.depth t.seat.shape.depth us (omega arith) o.1, omega arith)

  -- a new function's body was checked, and its captures are there
  op_callable : (name : List ℕ) (params : ℕ) (body : Ops) (captures : List Capture) → K (Callable name params body captures) → Makes code Y f.place params captures → F (Callable name params body captures)
  unfolding act
  op_callable name params body captures k makes = record {
    whole = alone k (captures_there f t.seat.shape.depth (length s.stack) t.seat.captures (captured_by s f) captures high (sym t.seat.captured ∙ ap (length {A = ℕ}) (sym numbers)) k.fine.local k.fine.upvalue);
    goes = by_made (made (Fun cell) s.heap s.units) (made_fair (CellFits code Y (length us)) (Fun cell) s.heap s.units fit (cells_more code Y s.heap t.count (length us) grown t.cells));
  }
    where
      o : Op
      o = Callable name params body captures

      q : ℕ
      q = f.place + size o

      high : length s.stack ≡ f.base + t.seat.shape.depth
      high = let a = t.seat.level in omega arith

      below : Below (length s.upvalues) (captured_by s f)
      below = subst (Below (length s.upvalues)) (sym numbers) (subst (λ n. Below n t.seat.numbers) (sym t.counted) t.seat.below)

      nums : List ℕ
      nums = (capture_all (suc (length s.stack)) f (captured_by s f) captures s.upvalues).0

      us : List Upvalue
      us = (capture_all (suc (length s.stack)) f (captured_by s f) captures s.upvalues).1

      took : Took (suc (length s.stack)) (length captures) s.upvalues nums us
      took = takes_all (suc (length s.stack)) f (captured_by s f) captures s.upvalues (open_more (length s.stack) (suc (length s.stack)) s.upvalues (omega arith) t.opened) below

      cell : FunCell
      cell = record { place = f.place + header; captured = nums }

      grown : t.count ≤ length us
      grown = let g = took.more in let counted = t.counted in omega arith

      fit : CellFits code Y (length us) cell
      fit = record {
        params = params;
        takes = makes.takes;
        shape = makes.shape;
        body = subst (λ n. InBody code Y n (f.place + header)) (sym took.count') makes.body;
        below = took.below;
      }

      made_goes : (v : Val) (h : HeapOf FunCell) (units : ℕ) → Keeps s.heap h → CellsFit code Y (length us) h
          → Goes code Y s (record (on_and_push (here_at q f fs s) s.stack v (with_heap h units s)) { upvalues = us })
      made_goes v h units kept fits =
          let a = t.seat.level in let b = t.seat.above in
          let lead = k.leads.0 in
          let depth = (t.seat.shape.depth - 0) + 1 in
          let less = left_ahead code f.place q o k.slot (omega arith) in
          let b2 = k.fine.operands in
          let s' : State = record (on_and_push (here_at q f fs s) s.stack v (with_heap h units s)) { upvalues = us } in
          record {
            sits = subst (λ y. SitsIn y code Y s') (sym m) record {
              frame = at_place q f;
              around = fs;
              steady = record {
                frames = refl;
                count = length us;
                counted = refl;
                seat = record {
                  shape = shaped depth t.seat.shape.tries;
                  captures = t.seat.captures;
                  is = lead.given.is;
                  body = lead.body;
                  level = omega arith;
                  above = omega arith;
                  before = lead.given.before;
                  tried = open_deeper code Y t.seat.captures t.seat.shape.depth depth t.seat.shape.tries (omega arith) t.seat.tried;
                  numbers = t.seat.numbers;
                  function = function_kept s.heap h kept f.function t.seat.numbers t.seat.function;
                  captured = t.seat.captured;
                  below = below_more t.count (length us) t.seat.numbers grown t.seat.below;
                };
                lower = lower_kept code Y s.heap h kept t.count (length us) f.base fs grown t.lower;
                throws = throws_are code Y s m f fs t ∙ ap (λ o. own_throws (suc (length fs)) f.base (tries_of o) ++ throws_of Y fs) (sym lead.given.is);
                opened = took.opened;
                cells = fits;
              };
            };
            paid =
                let p = psi_is code Y s m f fs t in
                let p2 : psi code s' ≡ (left code q + phi code fs) + fuel (left code 0) s.turns = ap (λ y. psi_in y (phi code s'.frames + fuel (left code 0) s.turns)) m in
                omega arith;
          }

      by_made : (r : Outcome FunCell Val) → Fair (CellFits code Y (length us)) s.heap r
          → Goes code Y s (on_outcome r (λ v s1. record (on_and_push (here_at q f fs s) s1.stack v s1) { upvalues = us }) s)
      by_made (op.Gives v h units) fair = made_goes v h units fair.0 fair.1
      by_made (op.Throws kind) fair = kind_goes code Y s m f fs t (some k) kind
      by_made op.Spends fair = stops code Y s m f fs t {e = end.MemorySpent} refl refl refl (some k)

  -- calls

  -- the stack and the frames behind a call, with these arguments
  abbrev entered : ℕ → ℕ → FunCell → ℕ → List Val → List Val → State → State
  entered n cell c params rest args s1 =
      let there : State = cut_to rest s1 in
      record there {
        stack = replicate (params - n) Null ++ args;
        frames = record { place = c.place; base = length args - n; function = Some cell } ∷ at_place (f.place + 2) f ∷ fs;
      }

  enters : (n cell : ℕ) (c : FunCell) (rest : List Val) → K (CallLocal n) → function_at s.heap cell ≡ Some c → (fit : CellFits code Y t.count c) → suc (length rest) ≡ length s.stack → n ≤ fit.params → s.turns < max_turns
      → Goes code Y s (entered n cell c fit.params rest rest (record s { turns = s.turns + 1 }))
  enters n cell c rest k e fit len le lt =
      let a = t.seat.level in let b = k.fine.operands in let h = has_operands code Y s m f fs t k in
      let lead = k.leads.0 in
      let q = f.place + 2 in
      let depth = (t.seat.shape.depth - suc n) + 1 in
      let s' : State = entered n cell c fit.params rest rest (record s { turns = s.turns + 1 }) in
      let long : length (replicate (fit.params - n) Null ++ rest) ≡ (fit.params - n) + length rest = length-append (replicate (fit.params - n) Null) rest ∙ ap (λ x. x + length rest) (length-replicate (fit.params - n) Null) in
      record {
        sits = subst (λ y. SitsIn y code Y s') (sym m) record {
          frame = record { place = c.place; base = length rest - n; function = Some cell };
          around = at_place q f ∷ fs;
          steady = record {
            frames = refl;
            count = t.count;
            counted = closed_length (length rest) s.stack s.upvalues ∙ t.counted;
            seat = record {
              shape = shaped fit.params [];
              captures = length c.captured;
              is = fit.shape;
              body = fit.body;
              level = omega arith;
              above = omega arith;
              before = refl;
              tried = tt;
              numbers = c.captured;
              function = (c, e, refl);
              captured = refl;
              below = fit.below;
            };
            lower = (
              record {
                shape = shaped depth t.seat.shape.tries;
                captures = t.seat.captures;
                is = lead.given.is;
                body = lead.body;
                level = omega arith;
                above = omega arith;
                before = lead.given.before;
                tried = open_deeper code Y t.seat.captures t.seat.shape.depth depth t.seat.shape.tries (omega arith) t.seat.tried;
                numbers = t.seat.numbers;
                function = t.seat.function;
                captured = t.seat.captured;
                below = t.seat.below;
              },
              t.lower,
            );
            throws = throws_are code Y s m f fs t
                ∙ ap (λ o. own_throws (suc (length fs)) f.base (tries_of o) ++ throws_of Y fs) (sym lead.given.is)
                ∙ ap (λ o. own_throws (suc (suc (length fs))) (length rest - n) (tries_of o) ++ throws_of Y (at_place q f ∷ fs)) (sym fit.shape);
            opened = open_more (length rest) (length s'.stack) s'.upvalues (omega arith) (closed_below (length rest) s.stack s.upvalues);
            cells = t.cells;
          };
        };
        paid =
            let p = psi_is code Y s m f fs t in
            let p2 : psi code s' ≡ (left code c.place + (left code q + phi code fs)) + fuel (left code 0) (s.turns + 1) = ap (λ y. psi_in y (phi code s'.frames + fuel (left code 0) (s.turns + 1))) m in
            let spent = fuel_spent (left code 0) s.turns lt in
            let less = left_ahead code f.place q (CallLocal n) k.slot (omega arith) in
            let inner = left_less code c.place in
            omega arith;
      }

  functions : (n cell : ℕ) (c : FunCell) (rest : List Val) → K (CallLocal n) → function_at s.heap cell ≡ Some c → (fit : CellFits code Y t.count c) → suc (length rest) ≡ length s.stack → Goes code Y s (call_function (here_at (f.place + 2) f fs s) n cell c fit.params rest s)
  functions n cell c rest k e fit len = by_count (nat_lt fit.params n) refl
    where
      here : Here
      here = here_at (f.place + 2) f fs s

      either : (b : Bool) → Goes code Y s (cond b (ends end.TooDeep s) (ends end.TurnsSpent s))
      either true = stops code Y s m f fs t {e = end.TooDeep} refl refl refl (some k)
      either false = stops code Y s m f fs t {e = end.TurnsSpent} refl refl refl (some k)

      args : with_arguments (floor_of f s) n rest ≡ rest
      args =
          let h = has_operands code Y s m f fs t k in
          let yes : nat_le n (length rest - floor_of f s) ≡ true = grind (arith, nat_tests) in
          ap (λ b. cond b rest (slice_range rest 0 (length rest - floor_of f s) ++ (replicate (n - (length rest - floor_of f s)) Null ++ keep (floor_of f s) rest))) yes

      kept : in_place (floor_of f s) n rest ≡ rest
      kept =
          let h = has_operands code Y s m f fs t k in
          let yes : nat_le n (length rest - floor_of f s) ≡ true = grind (arith, nat_tests) in
          ap (λ b. cond b rest (keep (floor_of f s) rest)) yes

      by_depth : (b : Bool) → n ≤ fit.params → Goes code Y s (cond b (with_turn (enter (here_at (f.place + 2) f fs s) n cell c fit.params rest) s) (cond (nat_lt s.turns max_turns) (ends end.TooDeep s) (ends end.TurnsSpent s)))
      by_depth true le = turned code Y s m f fs t (enter (here_at (f.place + 2) f fs s) n cell c fit.params rest) (some k)
          (λ lt. subst (λ xs. Goes code Y s (entered n cell c fit.params xs (with_arguments (floor_of f s) n rest) (record s { turns = s.turns + 1 }))) (sym kept) (subst (λ xs. Goes code Y s (entered n cell c fit.params rest xs (record s { turns = s.turns + 1 }))) (sym args) (enters n cell c rest k e fit len le lt)))
      by_depth false le = either (nat_lt s.turns max_turns)

      by_count : (b : Bool) → nat_lt fit.params n ≡ b → Goes code Y s (cond b (throw_kind ArgumentError s)
          (cond (nat_lt (length fs) max_depth) (with_turn (enter (here_at (f.place + 2) f fs s) n cell c fit.params rest) s) (cond (nat_lt s.turns max_turns) (ends end.TooDeep s) (ends end.TurnsSpent s))))
      by_count true q = kind_goes code Y s m f fs t (some k) ArgumentError
      by_count false q = by_depth (nat_lt (length fs) max_depth) (grind (arith, nat_tests))

  op_call : (n : ℕ) → K (CallLocal n) → F (CallLocal n)
  unfolding act
  op_call n k =
      let x = top_of fl s.stack in
      let h = has_operands code Y s m f fs t k in
      let one = top_length fl s.stack (omega arith) in
      record { whole = alone k (lacking x.0); goes = by_value x.0 x.1 one }
    where
      found_fits : (cell : ℕ) (c : FunCell) → function_at s.heap cell ≡ Some c → CellFits code Y t.count c
      found_fits cell c e = cell_get s.heap t.count cell c t.cells e

      lacking_cell : (cell : ℕ) (o : Option FunCell) → function_at s.heap cell ≡ o → lacks_body code o ≡ false
      lacking_cell cell None e = refl
      lacking_cell cell (Some c) e = ap is_none (found_fits cell c e).takes

      lacking : (v : Val) → lacks_callee code s.heap v ≡ false
      lacking Null = refl
      lacking (Int z) = refl
      lacking (Truth z) = refl
      lacking (Ref cell) = lacking_cell cell (function_at s.heap cell) refl

      by_cell : (cell : ℕ) (o : Option FunCell) → function_at s.heap cell ≡ o → (rest : List Val) → suc (length rest) ≡ length s.stack → Goes code Y s (call_found code (here_at (f.place + 2) f fs s) n cell o rest s)
      by_cell cell None e rest len = kind_goes code Y s m f fs t (some k) TypeError
      by_cell cell (Some c) e rest len =
          let fit = found_fits cell c e in
          subst (λ p. Goes code Y s (call_function (here_at (f.place + 2) f fs s) n cell c (unwrap_or p 0) rest s)) (sym fit.takes) (functions n cell c rest k e fit len)

      by_value : (v : Val) (rest : List Val) → suc (length rest) ≡ length s.stack → Goes code Y s (call_value code (here_at (f.place + 2) f fs s) n (v, rest) s)
      by_value Null rest len = kind_goes code Y s m f fs t (some k) TypeError
      by_value (Truth z) rest len = kind_goes code Y s m f fs t (some k) TypeError
      by_value (Int z) rest len = kind_goes code Y s m f fs t (some k) TypeError
      by_value (Ref cell) rest len = by_cell cell (function_at s.heap cell) refl rest len

  -- every operation
  pub fares : (op : Op) → K op → ((name : List ℕ) (params : ℕ) (body : Ops) (captures : List Capture) → op ≡ Callable name params body captures → Makes code Y f.place params captures) → F op
  fares (GetGlobal n) k c = op_global n k
  fares (CallGlobal x n) k c = op_native x n k
  fares (And n) k c = op_and n k
  fares (Or n) k c = op_or n k
  fares Not k c = op_not k
  fares Plus k c = op_plus k
  fares Minus k c = op_minus k
  fares Multiply k c = op_multiply k
  fares Eq k c = op_eq k
  fares NotEq k c = op_not_eq k
  fares Gt k c = op_gt k
  fares GtEq k c = op_gt_eq k
  fares Lt k c = op_lt k
  fares LtEq k c = op_lt_eq k
  fares IsIn k c = op_is_in k
  fares NotIn k c = op_not_in k
  fares PushTrue k c = op_push_true k
  fares PushFalse k c = op_push_false k
  fares PushNull k c = op_push_null k
  fares (Str x) k c = op_str x k
  fares (Integer x) k c = op_integer x k
  fares Pop k c = op_pop k
  fares (GetLocal i) k c = get_local i k
  fares (SetLocal i) k c = set_local i k
  fares Return k c = return k
  fares (Jump (pos n)) k c = jump_ahead n k
  fares (Jump (negsuc n)) k c = jump_back n k
  fares (JumpIfFalse (pos n)) k c = jump_if_false n k
  fares (JumpIfFalse (negsuc n)) k c = absurd k.forth
  fares (Dict n) k c = op_dict n k
  fares (Array n) k c = op_array n k
  fares GetProperty k c = op_get_property k
  fares SetProperty k c = op_set_property k
  fares (JumpIfStackNotNull (pos n)) k c = jump_if_value n k
  fares (JumpIfStackNotNull (negsuc n)) k c = absurd k.forth
  fares GetPropertyNullish k c = op_get_nullish k
  fares Throw k c = throw k
  fares (Try d) k c = try d k
  fares PopTry k c = pop_try k
  fares (Callable name params body captures) k c = op_callable name params body captures k (c name params body captures refl)
  fares (CallLocal n) k c = op_call n k
  fares (GetUpvalue i) k c = get_upvalue i k
  fares (SetUpvalue i) k c = set_upvalue i k
  fares CloseUpvalue k c = op_close k
