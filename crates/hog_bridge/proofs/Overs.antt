-- A turn of a loop over values.
use Rattle.std.proofs.Common.{◌≡◌, ℕ, ◌+◌, ℤ, List, [], ◌∷◌, ◌++◌, length, Option, Some, None, true, refl, sym, ap, ◌∙◌, subst, arith}
use Rattle.std.specs.Prelude.{◌==◌, slice_get}
use Rattle.std.proofs.lemmas.Bool.Decides.{nat_tests}
use Rattle.hog_value.specs.Values.{Val}
use Rattle.hog_value.specs.declared.value.Value.TheVariants.{Int}
use Rattle.hog_tree.specs.Plain.{Word}
use Rattle.hog_captures.specs.Frames as names
use Rattle.hog_captures.specs.Frames.{find_local, find_up, with_local, with_name, with_hidden}
use Rattle.hog_compiler.specs.Pieces.{key_count, key_code, item_code}
use Rattle.hog_meaning.specs.Operators.{accessed}
use Rattle.hog_meaning.specs.World.{Env, World, Got, Gives, Throws, Waits, Spends, and_then, Flow, GoesOn, Returns, declare, named}
use Rattle.hog_meaning.specs.World as m
use Rattle.hog_meaning.specs.Meaning.{leave, on_flow, bind_key, bind_item}
use Rattle.hog_ops.specs.Plain as o
use Rattle.hog_ops.specs.Plain.{Op, Ops, NoOp, MoreOp, ◌⊕◌}
use Rattle.hog_ops.specs.Table.{size, span}
use Rattle.vm_course.specs.State.{Begins, State}
use Rattle.vm_course.specs.Stack.{with_value}
use Rattle.vm_course.specs.Step.{act, on_with}
use Rattle.hog_bridge.proofs.Words.{with_word}
use Rattle.hog_bridge.proofs.Places.{Seat, Temp, seat_at, stack_of, length-stack, seat_top, seat_push, lower}
use Rattle.hog_bridge.proofs.Ahead.{HasAt}
use Rattle.hog_bridge.proofs.Picture.{Given, Ghost, Landing, Comes, comes_then, at_once, one_step, stays, Under, under_less, Ctx, landings, at, Fits, Extends, extends_same, extends_then, Run, run_after, run_then, gives}
use Rattle.hog_bridge.proofs.Steps.{spot, on_pic, top_pic, kept_on, fits_push, op_is}
use Rattle.hog_bridge.proofs.Parts.{ExpAt, passes}
use Rattle.hog_bridge.proofs.Exps.{exp_then, fits_on}
use Rattle.hog_bridge.proofs.Operators.{get_step, get_item_runs}
use Rattle.hog_bridge.proofs.Follow.{scoped, StmAt, run_on, framed_scope, hidden_frame, turn_frame, key_seats}
use Rattle.hog_bridge.proofs.Blocks.{StmEnd, count_name, ArePops, pops_run, plain, stm_then, let_runs, more_goes}

-- a hidden local has no name
pub fits_hide : {g : Given} {n d : ℕ} {c : Ctx} {ρ : Env} {L : List Seat} {G : Ghost} {w : World} (v : Val) → Fits g n d c ρ L G w → Fits g n d (scoped c (with_local None c.scope) c.words c.sight) ρ (Temp v ∷ L) G w
fits_hide {c = c} {ρ = ρ} {L = L} v h =
    let h1 = fits_push v h in
    record { kept = h1.kept; framed = framed_scope (with_local None c.scope) c.words c.sight h1.framed; sees = h1.sees; captured = h1.captured; sight = h1.sight }

abbrev pub hidden : Option Word → Ctx → Ctx
hidden k c = scoped c (hidden_frame k c.scope) c.words c.sight

abbrev pub seats : Option Word → Val → Val → ℤ → Val → ℤ → List Seat → List Seat
seats k keys values size v i L = Temp (Int i) ∷ Temp (Int size) ∷ Temp values ∷ key_seats k keys (Temp v ∷ L)

pub fits_hidden : {g : Given} {n d : ℕ} {c : Ctx} {ρ : Env} {L : List Seat} {G : Ghost} {w : World} (k : Option Word) (keys values : Val) (size : ℤ) (v : Val) (i : ℤ) → Fits g n d c ρ L G w → Fits g n d (hidden k c) ρ (seats k keys values size v i L) G w
fits_hidden None keys values size v i h = fits_hide (Int i) (fits_hide (Int size) (fits_hide values (fits_hide v h)))
fits_hidden (Some x) keys values size v i h = fits_hide (Int i) (fits_hide (Int size) (fits_hide values (fits_hide keys (fits_hide v h))))

pub length-keys : (k : Option Word) (keys : Val) (L : List Seat) → length (key_seats k keys L) ≡ key_count k + length L
length-keys None keys L = omega arith
length-keys (Some x) keys L = omega arith

pub length-hidden : (k : Option Word) (fr : names.Frame) → length (hidden_frame k fr).locals ≡ 4 + key_count k + length fr.locals
length-hidden None fr = omega arith
length-hidden (Some x) fr = omega arith

-- the hidden locals as a list
abbrev pub seat_list : Option Word → Val → Val → ℤ → Val → ℤ → List Seat
seat_list None keys values size v i = Temp (Int i) ∷ Temp (Int size) ∷ Temp values ∷ Temp v ∷ []
seat_list (Some x) keys values size v i = Temp (Int i) ∷ Temp (Int size) ∷ Temp values ∷ Temp keys ∷ Temp v ∷ []

pub seats_are : (k : Option Word) (keys values : Val) (size : ℤ) (v : Val) (i : ℤ) (L : List Seat) → seat_list k keys values size v i ++ L ≡ seats k keys values size v i L
seats_are None keys values size v i L = refl
seats_are (Some x) keys values size v i L = refl

pub length-list : (k : Option Word) (keys values : Val) (size : ℤ) (v : Val) (i : ℤ) → length (seat_list k keys values size v i) ≡ 4 + key_count k
length-list None keys values size v i = refl
length-list (Some x) keys values size v i = refl

seat_over : (N L : List Seat) (p : ℕ) (s : Seat) → seat_at L p ≡ Some s → seat_at (N ++ L) p ≡ Some s
seat_over [] L p s e = e
seat_over (t ∷ N) L p s e = seat_push t (N ++ L) p s (seat_over N L p s e)

pub then_assoc : {A B C : Type 0} (o1 : Got A) (f : A → World → Got B) (k : B → World → Got C) → and_then o1 (λ a w. and_then (f a w) k) ≡ and_then (and_then o1 f) k
then_assoc (Gives a w) f k = refl
then_assoc (Throws v w) f k = refl
then_assoc (Waits w) f k = refl
then_assoc (Spends limit w) f k = refl

module _ (g : Given) (n d : ℕ) where
  -- an item of a list that stands in a hidden local
  item_get : (c : Ctx) (ρ : Env) (p : ℕ) (list index : ℕ) (x y : Val) (M : List Seat) (G : Ghost) (w : World) (q : ℕ) → HasAt g.code p (item_code list index) → seat_at M (c.base + list) ≡ Some (Temp x) → seat_at M (c.base + index) ≡ Some (Temp y) → Fits g n d c ρ M G w → p + 5 ≡ q → Under q c.own → Run g n (landings c) (at c p M G w) G (ExpAt g n c q M) (m.of_result (accessed w.heap x y) w)
  item_get c ρ p list index x y M G w q has sx sy h e u =
      let there : p + 2 + 2 + 1 ≡ q = omega (arith, e) in
      let one1 = get_step g n d c ρ p M G w h list x q has.0 sx (omega arith) u in
      let two = get_step g n d c ρ (p + 2) (Temp x ∷ M) G w (fits_push x h) index y q has.2.0 (seat_push (Temp x) M (c.base + index) (Temp y) sy) (omega arith) u in
      run_after g n (comes_then g one1 two) (extends_same G) (get_item_runs g n d c ρ (p + 2 + 2) M G w h y x q there u has.2.2.0)

  -- a hidden local on the top is set
  pub set_top : (c : Ctx) (ρ : Env) (p i : ℕ) (x y : Val) (M : List Seat) (G : Ghost) (w : World) → slice_get g.code p ≡ Some (Begins (o.SetLocal i)) → c.base + i ≡ length M → Fits g n d c ρ (Temp y ∷ M) G w → Comes g (at c p (Temp x ∷ Temp y ∷ M) G w) (at c (p + 2) (Temp x ∷ M) G w)
  unfolding act
  set_top c ρ p i x y M G w is e h =
      let S : State = at c p (Temp x ∷ Temp y ∷ M) G w in
      let here = spot c p (p + 2) in
      let l = length-stack w.store M in
      let t : (length (stack_of w.store M) == c.base + i) ≡ true = grind (arith, nat_tests) in
      let set : with_value (y ∷ stack_of w.store M) (c.base + i) x ≡ x ∷ stack_of w.store M = rw t refl in
      one_step g S (at c (p + 2) (Temp x ∷ M) G w)
      (op_is g (o.SetLocal i) c p (Temp x ∷ Temp y ∷ M) G w is
      ∙ ap (λ t. let there : State = on_with here t.1 S in record there { stack = with_value there.stack (c.base + i) t.0 }) (top_pic c (Temp x) (Temp y ∷ M) w h.framed)
      ∙ ap (λ (z : State). record z { stack = with_value z.stack (c.base + i) x }) (on_pic c p (p + 2) (Temp x ∷ []) (Temp y ∷ M) G w h.kept.layout)
      ∙ ap (λ st. record (at c (p + 2) (Temp x ∷ M) G w) { stack = st }) set)
      (passes g c p (p + 2) (Temp x ∷ Temp y ∷ M) (Temp x ∷ M) G G w w is (omega arith) (omega arith))

  -- after a block whose locals come off, with the names in sight that were there before
  leave_goes : (c : Ctx) (ρ : Env) (p1 k p2 : ℕ) (fr1 : names.Frame) (ws1 V1 : List Word) (ops : Ops) (L : List Seat) (ls : List Landing) (G G1 : Ghost) (w0 : World) (P : Flow → World → Ghost → State → Type 0) (go : Env → World → Got Flow) → Fits g n d c ρ L G w0 → ArePops k ops → HasAt g.code p1 ops → p2 ≡ p1 + span ops → Extends G G1 → ((w : World) (G2 : Ghost) → Extends G1 G2 → Fits g n d c ρ L G2 w → Run g n ls (at c p2 L G2 w) G2 P (go ρ w)) → ((v : Val) (w : World) (s1 : State) → StmAt g n d c p1 fr1 ws1 V1 k L (Returns v) w G1 s1 → P (Returns v) w G1 s1) → (f : Flow) (w : World) (s1 : State) → StmAt g n d c p1 fr1 ws1 V1 k L f w G1 s1 → Run g n ls s1 G1 P (and_then (leave ρ f w) (λ f w. on_flow f w go))
  leave_goes c ρ p1 k p2 fr1 ws1 V1 ops L ls G G1 w0 P go h are has e x next ret (GoesOn ρ1) w s1 q =
      let are2 = subst (λ j. ArePops j ops) (sym q.many) are in
      let run = pops_run g n d q.new L ops c p1 p2 G1 w are2 has e h.framed q.fits.kept.layout in
      let kept = kept_on L q.fits.kept (lower (length w.store) q.new L q.fits.kept.layout) in
      run_after g n (comes_then g (at_once g q.is) run) (extends_same G1) (next w G1 (extends_same G1) (fits_on h x kept))
  leave_goes c ρ p1 k p2 fr1 ws1 V1 ops L ls G G1 w0 P go h are has e x next ret (Returns v) w s1 q = gives g n (stays g s1) (ret v w s1 q)

  pub leave_then : {c : Ctx} {ρ : Env} {p1 k : ℕ} (p2 : ℕ) {fr1 : names.Frame} {ws1 V1 : List Word} (ops : Ops) {L : List Seat} {ls : List Landing} {s : State} {G : Ghost} {w0 : World} {P : Flow → World → Ghost → State → Type 0} {o1 : Got Flow} (go : Env → World → Got Flow) → Fits g n d c ρ L G w0 → ArePops k ops → HasAt g.code p1 ops → p2 ≡ p1 + span ops → Run g n ls s G (StmAt g n d c p1 fr1 ws1 V1 k L) o1 → ((w : World) (G1 : Ghost) → Extends G G1 → Fits g n d c ρ L G1 w → Run g n ls (at c p2 L G1 w) G1 P (go ρ w)) → ((v : Val) (w : World) (G1 : Ghost) (s1 : State) → StmAt g n d c p1 fr1 ws1 V1 k L (Returns v) w G1 s1 → P (Returns v) w G1 s1) → Run g n ls s G P (and_then (and_then o1 (leave ρ)) (λ f w. on_flow f w go))
  leave_then {c} {ρ} {p1} {k} p2 {fr1} {ws1} {V1} ops {L} {ls} {s} {G} {w0} {P} {o1} go h are has e r next ret =
      subst (λ z. Run g n ls s G P z) (then_assoc o1 (leave ρ) (λ f w. on_flow f w go))
      (run_then g n r (λ f w G1 s1 x q. leave_goes c ρ p1 k p2 fr1 ws1 V1 ops L ls G G1 w0 P go h are has e x (λ w2 G2 x2 h2. next w2 G2 (extends_then x x2) h2) (λ v w2 s2 q2. ret v w2 G1 s2 q2) f w s1 q))

-- where the hidden locals stand
module _ (k : Option Word) (keys values : Val) (size : ℤ) (v : Val) (i : ℤ) (L : List Seat) (base first : ℕ) (full : length L ≡ base + first) where
  abbrev K : ℕ
  K = first + key_count k

  abbrev M : List Seat
  M = seats k keys values size v i L

  lengths : length (key_seats k keys (Temp v ∷ L)) ≡ base + (K + 1)
  lengths = omega (arith, length-keys k keys (Temp v ∷ L), full)

  pub values_seat : seat_at M (base + (K + 1)) ≡ Some (Temp values)
  values_seat =
      let T = key_seats k keys (Temp v ∷ L) in
      ap (seat_at M) (sym lengths)
      ∙ seat_push (Temp (Int i)) (Temp (Int size) ∷ Temp values ∷ T) (length T) (Temp values) (seat_push (Temp (Int size)) (Temp values ∷ T) (length T) (Temp values) (seat_top (Temp values) T))

  pub size_seat : seat_at M (base + (K + 2)) ≡ Some (Temp (Int size))
  size_seat =
      let T = Temp values ∷ key_seats k keys (Temp v ∷ L) in
      let e : length T ≡ base + (K + 2) = omega (arith, lengths) in
      ap (seat_at M) (sym e) ∙ seat_push (Temp (Int i)) (Temp (Int size) ∷ T) (length T) (Temp (Int size)) (seat_top (Temp (Int size)) T)

  pub index_length : length (Temp (Int size) ∷ Temp values ∷ key_seats k keys (Temp v ∷ L)) ≡ base + (K + 3)
  index_length = omega (arith, lengths)

  pub index_seat : seat_at M (base + (K + 3)) ≡ Some (Temp (Int i))
  index_seat = ap (seat_at M) (sym index_length) ∙ seat_top (Temp (Int i)) (Temp (Int size) ∷ Temp values ∷ key_seats k keys (Temp v ∷ L))

keys_seat : (x : Word) (keys values : Val) (size : ℤ) (v : Val) (i : ℤ) (L : List Seat) (base first : ℕ) → length L ≡ base + first → seat_at (seats (Some x) keys values size v i L) (base + (first + key_count (Some x))) ≡ Some (Temp keys)
keys_seat x keys values size v i L base first full =
    let T = Temp v ∷ L in
    let e : length T ≡ base + (first + 1) = omega arith in
    ap (seat_at (seats (Some x) keys values size v i L)) (sym e)
    ∙ seat_push (Temp (Int i)) (Temp (Int size) ∷ Temp values ∷ Temp keys ∷ T) (length T) (Temp keys) (seat_push (Temp (Int size)) (Temp values ∷ Temp keys ∷ T) (length T) (Temp keys) (seat_push (Temp values) (Temp keys ∷ T) (length T) (Temp keys) (seat_top (Temp keys) T)))

module _ (g : Given) (n d : ℕ) (c : Ctx) (L : List Seat) (full : length L ≡ c.base + length c.scope.locals) where
  abbrev first : ℕ
  first = length c.scope.locals

  pub full_hidden : (k : Option Word) (keys values : Val) (size : ℤ) (v : Val) (i : ℤ) → length (seats k keys values size v i L) ≡ c.base + length (hidden_frame k c.scope).locals
  full_hidden k keys values size v i = omega (arith, full, length-keys k keys (Temp v ∷ L), length-hidden k c.scope)

  -- the key of a turn
  key_runs : (k : Option Word) (keys values : Val) (size : ℤ) (v : Val) (i : ℤ) (ρ : Env) (p : ℕ) (G : Ghost) (w : World) (q : ℕ) → HasAt g.code p (key_code k (first + key_count k) (first + key_count k + 3)) → q ≡ p + span (key_code k (first + key_count k) (first + key_count k + 3)) → Under q c.own → Fits g n d (hidden k c) ρ (seats k keys values size v i L) G w → Run g n (landings c) (at c p (seats k keys values size v i L) G w) G (StmEnd g n d (hidden k c) q k (seats k keys values size v i L)) (bind_key k keys i ρ w)
  key_runs None keys values size v i ρ p G w q has e u h =
      plain g n d q (stays g _) (ap (λ z. at c z (seats None keys values size v i L) G w) (omega (arith, e))) h (full_hidden None keys values size v i)
  key_runs (Some x) keys values size v i ρ p G w q has e u h =
      let ch = hidden (Some x) c in
      let M1 = seats (Some x) keys values size v i L in
      exp_then g n (item_get g n d ch ρ p (first + 1) (first + 1 + 3) keys (Int i) M1 G w q has (keys_seat x keys values size v i L c.base first full) (index_seat (Some x) keys values size v i L c.base first full) h (omega (arith, e)) u)
      (λ y w1 G1 x1 k1. let_runs g n d ch ρ q x M1 y G1 w1 (fits_on h x1 k1) (full_hidden (Some x) keys values size v i))

  -- the key and the item of a turn
  pub bind_runs : (k : Option Word) (x : Word) (keys values : Val) (size size2 : ℤ) (v : Val) (i : ℤ) (ρ : Env) (p : ℕ) (G : Ghost) (w : World) (p1 q : ℕ) → HasAt g.code p (key_code k (first + key_count k) (first + key_count k + 3)) → p1 ≡ p + span (key_code k (first + key_count k) (first + key_count k + 3)) → HasAt g.code p1 (item_code (first + key_count k + 1) (first + key_count k + 3)) → q ≡ p1 + 5 → Under q c.own → Fits g n d (hidden k c) ρ (seats k keys values size v i L) G w → Run g n (landings c) (at c p (seats k keys values size v i L) G w) G (StmAt g n d (hidden k c) q (turn_frame k x c.scope) (x ∷ with_word k c.words) (x ∷ with_word k c.sight) (1 + count_name k) (seats k keys values size v i L)) (bind_item (record { key = k; value = x; keys = keys; values = values; size = size2 }) i ρ w)
  bind_runs k x keys values size size2 v i ρ p G w p1 q has e has1 e1 u h =
      let ch = hidden k c in
      let M1 = seats k keys values size v i L in
      let c1 = scoped ch (with_name k ch.scope) (with_word k c.words) (with_word k c.sight) in
      let K = first + key_count k in
      stm_then g n d (key_runs k keys values size v i ρ p G w p1 has e (under_less c.own (omega (arith, e1)) u) h)
      (λ ρ1 w1 G1 s1 x1 gone.
      run_on g n (StmAt g n d ch q (turn_frame k x c.scope) (x ∷ with_word k c.words) (x ∷ with_word k c.sight) (1 + count_name k) M1)
      (λ f w2 G2 s2 r. more_goes g n d ch (with_name k ch.scope) (with_word k c.words) (with_word k c.sight) q (turn_frame k x c.scope) (x ∷ with_word k c.words) (x ∷ with_word k c.sight) 1 (count_name k) gone.new M1 gone.many f w2 G2 s2 r)
      (exp_then g n (item_get g n d c1 ρ1 p1 (K + 1) (K + 3) values (Int i) (gone.new ++ M1) G1 w1 q has1
      (seat_over gone.new M1 (c.base + (K + 1)) (Temp values) (values_seat k keys values size v i L c.base first full))
      (seat_over gone.new M1 (c.base + (K + 3)) (Temp (Int i)) (index_seat k keys values size v i L c.base first full)) gone.fits (sym e1) u)
      (λ y w2 G2 x2 k2. let_runs g n d c1 ρ1 q x (gone.new ++ M1) y G2 w2 (fits_on gone.fits x2 k2) gone.full)))
