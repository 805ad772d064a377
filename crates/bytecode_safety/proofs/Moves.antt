-- One operation at a time keeps the invariant and is paid: what all operations have in common.
use Rattle.std.proofs.Common.{◌≡◌, ℕ, suc, ◌+◌, ◌-◌, ◌<◌, ◌≤◌, List, [], ◌∷◌, ◌++◌, length, map, Some, Bool, true, false, cond, refl, sym, ap, ap₂, ◌∙◌, subst, arith}
use Rattle.std.specs.Prelude.{◌==◌, ◌||◌, max, nat_lt, nat_le, slice_get, option_and_then, Result, Ok, Err}
use Rattle.std.proofs.lemmas.Bool.Decides.{nat_tests}
use Rattle.hog_value.specs.declared.cell.FunCell.{FunCell}
use Rattle.hog_value.specs.declared.value.Kind.{Kind}
use Rattle.hog_value.specs.declared.trace.End.{End}
use Rattle.hog_value.specs.declared.trace.End.TheVariants as end
use Rattle.hog_value.specs.declared.trace.TraceItem.{TraceItem}
use Rattle.hog_value.specs.Values.{Val}
use Rattle.hog_value.specs.Cells.{HeapOf}
use Rattle.hog_value.specs.Meters.{max_turns, max_units}
use Rattle.hog_value.specs.Operations as op
use Rattle.hog_value.specs.Operations.{Outcome}
use Rattle.hog_json.specs.Texts.{shown}
use Rattle.hog_library.specs.Cells.{thrown}
use Rattle.hog_ops.specs.Plain.{Op, GetGlobal}
use Rattle.vm_course.specs.State.{Slot, Upvalue, Opened, Closed, Frame, ThrowFrame, Running, Waiting, Ended, State}
use Rattle.vm_course.specs.Stack.{close, keep, height_of, floor_of}
use Rattle.vm_course.specs.Throws.{ends, with_heap, ends_shown, caught, throw_to, throw_made, throw_kind, on_result, on_outcome, with_turn}
use Rattle.bytecode_check.specs.Shape.{OpenTry, Shape, shaped, floor, Shapes}
use Rattle.bytecode_check.specs.Effects.{effect}
use Rattle.bytecode_safety.specs.Lacks.{needs, lacks_upvalue}
use Rattle.bytecode_safety.proofs.Places.{Led, Known}
use Rattle.bytecode_safety.proofs.Heaps.{Fair, Keeps, thrown_fair}
use Rattle.bytecode_safety.proofs.Stacks.{OpenBelow, Below, below_get, open_get, open_more, closed_below, closed_length, keep_length, get_there, value_there}
use Rattle.bytecode_safety.proofs.Steady.{own_throws, tries_of, throws_of, AllOpen, Seat, Lower, CellFits, CellsFit, Steady, Stands, SitsIn, left, phi, fuel, fuel_less, psi_in, psi, Goes, left_ahead, few_throws, steady_heap, goes_before}
use Rattle.bytecode_safety.proofs.Landing.{at_place, Landing, lands, open_deeper}

-- the table of operations and the test of operands agree
looks_are : (op : Op) → (effect op).looks ≡ needs op
looks_are (GetGlobal n) = refl
looks_are op = refl

pub or_false : (a b : Bool) → a ≡ false → b ≡ false → (a || b) ≡ false
or_false a b e f = ap₂ (λ x y. x || y) e f

-- an upvalue that is named is there
pub up_there : (st : List Val) (us : List Upvalue) (numbers : List ℕ) (i : ℕ) → i < length numbers → Below (length us) numbers → OpenBelow (length st) us → lacks_upvalue st (option_and_then (slice_get us) (slice_get numbers i)) ≡ false
up_there st us numbers i lt b o =
    let (u, e) = get_there numbers i lt in
    let (x, g) = get_there us u (below_get (length us) numbers i u b e) in
    ap (λ n. lacks_upvalue st (option_and_then (slice_get us) n)) e ∙ ap (lacks_upvalue st) g ∙ by_kind u x g
  where
    by_kind : (u : ℕ) (x : Upvalue) → slice_get us u ≡ Some x → lacks_upvalue st (Some x) ≡ false
    by_kind u (Opened p) g = value_there st p (open_get (length st) us u p o g)
    by_kind u (Closed v) g = refl

-- a seat at another height
pub seat_at : {code : List Slot} {Y : Shapes} {cells : HeapOf FunCell} {n k h h' : ℕ} {f : Frame} → h ≡ h' → Seat code Y cells n k h f → Seat code Y cells n k h' f
seat_at {code} {Y} {cells} {n} {k} {h} {h'} {f} e x = subst (λ z. Seat code Y cells n k z f) e x

-- the value that a frame waited for has come
pub seat_comes : {code : List Slot} {Y : Shapes} {cells : HeapOf FunCell} {n h : ℕ} {f : Frame} → Seat code Y cells n 1 h f → Seat code Y cells n 0 (suc h) f
seat_comes {code} {Y} {cells} {n} {h} {f} x =
    let level = x.level in let above = x.above in
    record {
      shape = x.shape;
      captures = x.captures;
      is = x.is;
      body = x.body;
      level = omega arith;
      above = omega arith;
      before = x.before;
      tried = x.tried;
      numbers = x.numbers;
      function = x.function;
      captured = x.captured;
      below = x.below;
    }

floor_by : (Y : Shapes) (fs : List Frame) (base : ℕ) (ts : List OpenTry) → max base (height_of (suc (length fs)) (own_throws (suc (length fs)) base ts ++ throws_of Y fs)) ≡ base + floor ts
floor_by Y fs base [] = let e = few_throws Y fs (suc (length fs)) (omega arith) in ap (max base) e ∙ omega arith
floor_by Y fs base (t ∷ ts) =
    let yes : (suc (length fs) == suc (length fs)) ≡ true = grind (arith, nat_tests) in
    ap (λ b. max base (cond b (base + t.depth) 0)) yes ∙ omega arith

module _ (code : List Slot) (Y : Shapes) (s : State) (m : s.mode ≡ Running) (f : Frame) (fs : List Frame) (t : Steady code Y 0 s f fs) where
  abbrev pub sh : Shape
  sh = t.seat.shape

  pub psi_is : psi code s ≡ (left code f.place + phi code fs) + fuel (left code 0) s.turns
  psi_is = ap (λ x. psi_in x (phi code s.frames + fuel (left code 0) s.turns)) m ∙ ap (λ xs. phi code xs + fuel (left code 0) s.turns) t.frames

  pub throws_are : s.throws ≡ own_throws (suc (length fs)) f.base sh.tries ++ throws_of Y fs
  throws_are = t.throws ∙ ap (λ o. own_throws (suc (length fs)) f.base (tries_of o) ++ throws_of Y fs) t.seat.is

  pub depth_is : length s.frames ≡ suc (length fs)
  depth_is = ap (length {A = Frame}) t.frames

  pub floor_is : floor_of f s ≡ f.base + floor sh.tries
  floor_is = ap₂ (λ n ts. max f.base (height_of n ts)) depth_is throws_are ∙ floor_by Y fs f.base sh.tries

  -- the operands are there
  pub has_operands : {captures : ℕ} {op : Op} → Known code Y captures f.place op sh → floor_of f s + needs op ≤ length s.stack
  has_operands {captures} {op} k = let a = k.fine.operands in let e = looks_are op in let b = floor_is in let c = t.seat.level in omega arith

  pub enough : {captures : ℕ} {op : Op} → Known code Y captures f.place op sh → nat_lt (length s.stack) (floor_of f s + needs op) ≡ false
  enough k = let h = has_operands k in grind (arith, nat_tests)

  -- what an operation leaves, that goes on in its frame
  pub record Moved (k : ℕ) (s' : State) (q : ℕ) (shape : Shape) : Type 0 where
    pub frames : s'.frames ≡ at_place q f ∷ fs
    pub throws : s'.throws ≡ own_throws (suc (length fs)) f.base shape.tries ++ throws_of Y fs
    pub counted : length s'.upvalues ≡ length s.upvalues
    pub opened : OpenBelow (length s'.stack) s'.upvalues
    pub cells : s'.heap ≡ s.heap
    pub level : k + length s'.stack ≡ f.base + shape.depth
    pub above : f.base + floor shape.tries ≤ length s'.stack
    pub tried : AllOpen code Y t.seat.captures shape.depth shape.tries

  arrives : {k : ℕ} {s' : State} {q : ℕ} {shape : Shape} → Led code Y t.seat.captures q shape → Moved k s' q shape → Stands code Y k s'
  arrives {k} {s'} {q} {shape} l v = record {
    frame = at_place q f;
    around = fs;
    steady = record {
      frames = v.frames;
      count = t.count;
      counted = v.counted ∙ t.counted;
      seat = subst (λ cs. Seat code Y cs t.count k (length s'.stack) (at_place q f)) (sym v.cells) record {
        shape = shape;
        captures = t.seat.captures;
        is = l.given.is;
        body = l.body;
        level = v.level;
        above = v.above;
        before = l.given.before;
        tried = v.tried;
        numbers = t.seat.numbers;
        function = t.seat.function;
        captured = t.seat.captured;
        below = t.seat.below;
      };
      lower = subst (λ cs. Lower code Y cs t.count f.base fs) (sym v.cells) t.lower;
      throws = v.throws ∙ ap (λ o. own_throws (suc (length fs)) f.base (tries_of o) ++ throws_of Y fs) (sym l.given.is);
      opened = v.opened;
      cells = subst (λ cs. CellsFit code Y t.count cs) (sym v.cells) t.cells;
    };
  }

  pub goes_running : {s' : State} {q : ℕ} {shape : Shape} → s'.mode ≡ Running → Led code Y t.seat.captures q shape → Moved 0 s' q shape
      → suc (left code q + fuel (left code 0) s'.turns) ≤ left code f.place + fuel (left code 0) s.turns → Goes code Y s s'
  goes_running {s'} {q} {shape} r l v p = record {
    sits = subst (λ x. SitsIn x code Y s') (sym r) (arrives l v);
    paid =
        let a = psi_is in
        let b : psi code s' ≡ (left code q + phi code fs) + fuel (left code 0) s'.turns = ap (λ x. psi_in x (phi code s'.frames + fuel (left code 0) s'.turns)) r ∙ ap (λ xs. phi code xs + fuel (left code 0) s'.turns) v.frames in
        omega arith;
  }

  pub goes_waiting : {s' : State} {q : ℕ} {shape : Shape} → s'.mode ≡ Waiting → Led code Y t.seat.captures q shape → Moved 1 s' q shape
      → suc (suc (left code q + fuel (left code 0) s'.turns)) ≤ left code f.place + fuel (left code 0) s.turns → Goes code Y s s'
  goes_waiting {s'} {q} {shape} r l v p = record {
    sits = subst (λ x. SitsIn x code Y s') (sym r) (arrives l v);
    paid =
        let a = psi_is in
        let b : psi code s' ≡ suc ((left code q + phi code fs) + fuel (left code 0) s'.turns) = ap (λ x. psi_in x (phi code s'.frames + fuel (left code 0) s'.turns)) r ∙ ap (λ xs. suc (phi code xs + fuel (left code 0) s'.turns)) v.frames in
        omega arith;
  }

  -- an operation that ends the run
  pub stops : {s' : State} {e : End} → s'.mode ≡ Ended e → s'.frames ≡ s.frames → s'.turns ≡ s.turns → 1 ≤ left code f.place → Goes code Y s s'
  stops {s'} {e} r fr tu some = record {
    sits = subst (λ x. SitsIn x code Y s') (sym r) tt;
    paid =
        let a = psi_is in
        let b : psi code s' ≡ ((left code f.place + phi code fs) + fuel (left code 0) s.turns) - 1 = ap (λ x. psi_in x (phi code s'.frames + fuel (left code 0) s'.turns)) r ∙ ap₂ (λ xs n. (phi code xs + fuel (left code 0) n) - 1) (fr ∙ t.frames) tu in
        omega arith;
  }

  caught_goes : (v : Val) (h : ThrowFrame) (hs : List ThrowFrame) (x : Landing code Y s.heap t.count (length s.stack) (f ∷ fs) h hs) → Goes code Y s (caught v h hs (x.top ∷ x.around) s)
  caught_goes v h hs x =
      let s' : State = caught v h hs (x.top ∷ x.around) s in
      let n = keep_length h.height s.stack x.low in
      record {
        sits = subst (λ y. SitsIn y code Y s') (sym m) record {
          frame = at_place h.catch x.top;
          around = x.around;
          steady = record {
            frames = refl;
            count = t.count;
            counted = closed_length (length (keep h.height s.stack)) s.stack s.upvalues ∙ t.counted;
            seat = seat_at (ap suc (sym n)) x.seat;
            lower = x.lower;
            throws = x.throws;
            opened = open_more (length (keep h.height s.stack)) (suc (length (keep h.height s.stack))) s'.upvalues (omega arith) (closed_below (length (keep h.height s.stack)) s.stack s.upvalues);
            cells = t.cells;
          };
        };
        paid =
            let a = psi_is in
            let b : psi code s' ≡ phi code (at_place h.catch x.top ∷ x.around) + fuel (left code 0) s.turns = ap (λ y. psi_in y (phi code s'.frames + fuel (left code 0) s.turns)) m in
            let c = x.ahead in
            omega arith;
      }

  -- an end whose text is shown, or that memory is spent
  pub shows : (make : List ℕ → End) (v : Val) (before s' : State) → before.frames ≡ s.frames → before.turns ≡ s.turns → s'.frames ≡ s.frames → s'.turns ≡ s.turns → 1 ≤ left code f.place
      → Goes code Y s (ends_shown make v before s')
  shows make v before s' f1 t1 f2 t2 some = by_test (nat_le (s'.units + length (shown s'.heap v)) max_units)
    where
      by_test : (b : Bool) → Goes code Y s (cond b (ends (make (shown s'.heap v)) (record s' { units = s'.units + length (shown s'.heap v) })) (ends end.MemorySpent before))
      by_test true = stops {e = make (shown s'.heap v)} refl f2 t2 some
      by_test false = stops {e = end.MemorySpent} refl f1 t1 some

  -- a throw lands, or ends the run
  pub thrown_from : (v : Val) (before : State) → before.frames ≡ s.frames → before.turns ≡ s.turns → 1 ≤ left code f.place → Goes code Y s (throw_to s.throws v before s)
  thrown_from v before fr tu some = by_throws s.throws (sym t.throws)
    where
      by_throws : (ts : List ThrowFrame) → throws_of Y (f ∷ fs) ≡ ts → Goes code Y s (throw_to ts v before s)
      by_throws [] e = shows end.Threw v before s fr tu refl refl some
      by_throws (h ∷ hs) e =
          let x = lands code Y s.heap t.count 0 (length s.stack) f fs t.seat t.lower h hs e in
          subst (λ xs. Goes code Y s (caught v h hs xs s)) (sym (ap (keep h.frames) t.frames ∙ x.kept)) (caught_goes v h hs x)

  -- with a turn, or at the end of turns
  pub turned : (go : State → State) → 1 ≤ left code f.place → (s.turns < max_turns → Goes code Y s (go (record s { turns = s.turns + 1 }))) → Goes code Y s (with_turn go s)
  turned go some h = by_test (nat_lt s.turns max_turns) refl
    where
      by_test : (b : Bool) → nat_lt s.turns max_turns ≡ b → Goes code Y s (cond b (go (record s { turns = s.turns + 1 })) (ends end.TurnsSpent s))
      by_test true e = h (grind (arith, nat_tests))
      by_test false e = stops {e = end.TurnsSpent} refl refl refl some

  -- the tries stay
  pub moved : {k : ℕ} (s' : State) (q depth : ℕ) → s'.frames ≡ at_place q f ∷ fs → s'.throws ≡ s.throws → s'.heap ≡ s.heap → length s'.upvalues ≡ length s.upvalues → OpenBelow (length s'.stack) s'.upvalues
      → k + length s'.stack ≡ f.base + depth → f.base + floor sh.tries ≤ length s'.stack → floor sh.tries ≤ depth → Moved k s' q (shaped depth sh.tries)
  moved s' q depth fr th ce co op le ab fl = record {
    frames = fr;
    throws = th ∙ throws_are;
    counted = co;
    opened = op;
    cells = ce;
    level = le;
    above = ab;
    tried = open_deeper code Y t.seat.captures sh.depth depth sh.tries fl t.seat.tried;
  }

  -- the stack is cut to `rest`, and then there are these values; turns may be spent
  abbrev pub cut_turns : List Val → List Val → ℕ → List TraceItem → ℕ → State
  cut_turns rest st q tr turns = record s { stack = st; frames = at_place q f ∷ fs; upvalues = map (close (length rest) s.stack) s.upvalues; trace = tr; turns = turns }

  abbrev pub cut : List Val → List Val → ℕ → State
  cut rest st q = record s { stack = st; frames = at_place q f ∷ fs; upvalues = map (close (length rest) s.stack) s.upvalues }

  pub cut_goes_turns : (rest st : List Val) (q depth : ℕ) (tr : List TraceItem) (turns : ℕ) {captures : ℕ} {op : Op} → Known code Y captures f.place op sh → Led code Y t.seat.captures q (shaped depth sh.tries)
      → s.turns ≤ turns → f.place < q → length rest ≤ length st → length st ≡ f.base + depth → floor sh.tries ≤ depth → Goes code Y s (cut_turns rest st q tr turns)
  cut_goes_turns rest st q depth tr turns {captures} {op} k l more lt le is fl =
      let less = left_ahead code f.place q op k.slot lt in
      let fu = fuel_less (left code 0) s.turns turns more in
      goes_running m l
      (moved {k = 0} (cut_turns rest st q tr turns) q depth refl refl refl (closed_length (length rest) s.stack s.upvalues)
      (open_more (length rest) (length st) (map (close (length rest) s.stack) s.upvalues) le (closed_below (length rest) s.stack s.upvalues))
      (omega arith) (omega arith) fl)
      (omega arith)

  pub cut_goes : (rest st : List Val) (q depth : ℕ) {captures : ℕ} {op : Op} → Known code Y captures f.place op sh → Led code Y t.seat.captures q (shaped depth sh.tries)
      → f.place < q → length rest ≤ length st → length st ≡ f.base + depth → floor sh.tries ≤ depth → Goes code Y s (cut rest st q)
  cut_goes rest st q depth k l lt le is fl = cut_goes_turns rest st q depth s.trace s.turns k l (omega arith) lt le is fl

-- kinds and outcomes

module _ (code : List Slot) (Y : Shapes) (s : State) (m : s.mode ≡ Running) (f : Frame) (fs : List Frame) (t : Steady code Y 0 s f fs) (some : 1 ≤ left code f.place) where
  -- at another heap, which keeps functions
  abbrev pub at_heap : (h : HeapOf FunCell) (units : ℕ) → Keeps s.heap h → CellsFit code Y t.count h → Steady code Y 0 (with_heap h units s) f fs
  at_heap h units keep fit = steady_heap code Y 0 s f fs h units t keep fit

  -- a kind is thrown
  pub kind_goes : (kind : Kind) → Goes code Y s (throw_kind kind s)
  unfolding throw_kind
  kind_goes kind = by_outcome (thrown kind s.heap s.units) (thrown_fair (CellFits code Y t.count) kind s.heap s.units t.cells)
    where
      by_outcome : (o : Outcome FunCell Val) → Fair (CellFits code Y t.count) s.heap o → Goes code Y s (throw_made s o)
      by_outcome (op.Gives v h units) k = goes_before code Y s (throw_to s.throws v s (with_heap h units s)) h units
          (thrown_from code Y (with_heap h units s) m f fs (at_heap h units k.0 k.1) v s refl refl some)
      by_outcome (op.Throws x) k = stops code Y s m f fs t {e = end.MemorySpent} refl refl refl some
      by_outcome op.Spends k = stops code Y s m f fs t {e = end.MemorySpent} refl refl refl some

  pub result_goes : {A : Type 0} (r : Result A Kind) (go : A → State → State) → ((a : A) → Goes code Y s (go a s)) → Goes code Y s (on_result r go s)
  result_goes (Ok a) go g = g a
  result_goes (Err kind) go g = kind_goes kind

  pub outcome_goes : {A : Type 0} (o : Outcome FunCell A) (go : A → State → State) → Fair (CellFits code Y t.count) s.heap o
      → ((a : A) (h : HeapOf FunCell) (units : ℕ) → Keeps s.heap h → CellsFit code Y t.count h → Goes code Y (with_heap h units s) (go a (with_heap h units s))) → Goes code Y s (on_outcome o go s)
  outcome_goes (op.Gives a h units) go k g = goes_before code Y s (go a (with_heap h units s)) h units (g a h units k.0 k.1)
  outcome_goes (op.Throws kind) go k g = kind_goes kind
  outcome_goes op.Spends go k g = stops code Y s m f fs t {e = end.MemorySpent} refl refl refl some
