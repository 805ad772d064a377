-- Statements' parts: pops, flows, jumps, returns and throws on the picture.
use Rattle.std.proofs.Common.{◌≡◌, ℕ, zero, suc, ◌+◌, ◌-◌, ◌<◌, ◌≤◌, pos, List, [], ◌∷◌, ◌++◌, length, Option, Some, None, Bool, true, false, cond, refl, sym, ap, ◌∙◌, subst, ◌⊎◌, inl, inr, arith, length-append, append_assoc}
use Rattle.std.specs.Prelude.{nat_lt, slice_get}
use Rattle.std.proofs.lemmas.Bool.Decides.{nat_tests}
use Rattle.hog_value.specs.declared.trace.End.TheVariants as end
use Rattle.hog_value.specs.Values.{Val}
use Rattle.hog_value.specs.Meters.{max_turns}
use Rattle.hog_value.specs.Cells.{heap_map}
use Rattle.hog_value.specs.Operations.{truth_of}
use Rattle.hog_tree.specs.Plain.{Word, Stm, Stms, Let, Assign, Do, Return, Throw, If, While, For, ForIn, Fun, Try, Block, Done, Then}
use Rattle.hog_captures.specs.Frees.{is_among, name_by, stms_frees}
use Rattle.hog_captures.specs.Frames as names
use Rattle.hog_captures.specs.Frames.{with_local, with_name}
use Rattle.hog_compiler.specs.Pieces.{pop_op, pops}
use Rattle.hog_compiler.specs.Code.{name_pop, block_pops}
use Rattle.hog_meaning.specs.World.{Env, World, Got, Gives, Throws, Waits, Spends, and_then, Flow, GoesOn, Returns, declare, named}
use Rattle.hog_meaning.specs.World as m
use Rattle.hog_meaning.specs.Meaning.{leave, on_flow}
use Rattle.hog_ops.specs.Plain as o
use Rattle.hog_ops.specs.Plain.{Op, Ops, NoOp, MoreOp, ◌⊕◌}
use Rattle.hog_ops.specs.Table.{size, span}
use Rattle.vm_course.specs.State.{Begins, Frame, State}
use Rattle.vm_course.specs.Stack.{cut_to, push, keep}
use Rattle.vm_course.specs.Throws.{goto, throw_value}
use Rattle.vm_course.specs.Step.{step, act, on_with, jump, give_back, throws_around}
use Rattle.hog_bridge.proofs.Words.{with_word}
use Rattle.hog_bridge.proofs.Places.{Seat, Temp, Var, stack_of, Distinct, lower}
use Rattle.hog_bridge.proofs.Ahead.{HasAt, left_past}
use Rattle.hog_bridge.proofs.Heaps.{keeps_same}
use Rattle.hog_bridge.proofs.Picture.{Given, Ghost, meant, built, Landing, throws_of, frame, pic, phi, psi, Comes, comes_then, at_once, one_step, stays, stops, Under, under_less, Ctx, landings, at, OwnLands, OuterLands, Framed, Kept, Fits, Extends, extends_same, Reaches, ThrowEnds, Run, run_after, run_then, gives}
use Rattle.hog_bridge.proofs.Steps.{spot, pop_pic, on_pic, top_pic, keep_stack, framed_push, kept_on, kept_push, raised, op_is, shown_halts}
use Rattle.hog_bridge.proofs.Parts.{passes}
use Rattle.hog_bridge.proofs.Exps.{fits_on}
use Rattle.hog_bridge.proofs.Lookups.{truth_same}
use Rattle.hog_bridge.proofs.Writes.{becomes, kept_new, sees_local}
use Rattle.hog_bridge.proofs.Follow.{scoped, ReturnEnds, GoneOn, StmAt, run_on, framed_scope}

-- how many locals a name is
abbrev pub count_name : Option Word → ℕ
count_name None = 0
count_name (Some w) = 1

-- what statements in order leave: names of the frame, words, and locals
abbrev pub after_frame : Stms → names.Frame → names.Frame
after_frame Done fr = fr
after_frame (Then s ss) fr = after_frame ss (with_name (name_by s) fr)

abbrev pub after_words : Stms → List Word → List Word
after_words Done ws = ws
after_words (Then s ss) ws = after_words ss (with_word (name_by s) ws)

abbrev pub lets : Stms → ℕ
lets Done = 0
lets (Then s ss) = lets ss + count_name (name_by s)

-- what a statement, statements and a block come to
abbrev pub StmEnd : Given → ℕ → ℕ → Ctx → ℕ → Option Word → List Seat → Flow → World → Ghost → State → Type 0
StmEnd g n d c q name L = StmAt g n d c q (with_name name c.scope) (with_word name c.words) (with_word name c.sight) (count_name name) L

abbrev pub StmsEnd : Given → ℕ → ℕ → Ctx → ℕ → Stms → List Seat → Flow → World → Ghost → State → Type 0
StmsEnd g n d c q ss L = StmAt g n d c q (after_frame ss c.scope) (after_words ss c.words) (after_words ss c.sight) (lets ss) L

abbrev pub PlainEnd : Given → ℕ → ℕ → Ctx → ℕ → List Seat → Flow → World → Ghost → State → Type 0
PlainEnd g n d c q L = StmAt g n d c q c.scope c.words c.sight 0 L

-- operations that take one value off the stack each
abbrev pub IsPop : Op → Type 0
IsPop op = (op ≡ o.Pop) ⊎ (op ≡ o.CloseUpvalue)

abbrev pub ArePops : ℕ → Ops → Type 0
ArePops zero NoOp = Unit {0}
ArePops zero (MoreOp op ops) = ⊥
ArePops (suc k) NoOp = ⊥
ArePops (suc k) (MoreOp op ops) = IsPop op × ArePops k ops

pub pop_is : (w : Word) (frees : List Word) → IsPop (pop_op w frees)
pop_is w frees = go (is_among w frees)
  where
    go : (b : Bool) → IsPop (cond b o.CloseUpvalue o.Pop)
    go true = inr refl
    go false = inl refl

pub pops_after : (j k : ℕ) (a b : Ops) → ArePops j a → ArePops k b → ArePops (j + k) (a ⊕ b)
pops_after zero k NoOp b p q = let e : k ≡ 0 + k = omega arith in subst (λ z. ArePops z b) e q
pops_after zero k (MoreOp op a) b p q = absurd p
pops_after (suc j) k NoOp b p q = absurd p
pops_after (suc j) k (MoreOp op a) b p q = let e : suc (j + k) ≡ suc j + k = omega arith in subst (λ z. ArePops z (MoreOp op (a ⊕ b))) e (p.0, pops_after j k a b p.1 q)

pub hidden_pops : (k : ℕ) → ArePops k (pops k)
hidden_pops zero = tt
hidden_pops (suc k) = (inl refl, hidden_pops k)

pub name_pops : (s : Stm) (frees : List Word) → ArePops (count_name (name_by s)) (name_pop s frees)
name_pops (Let w x) frees = (pop_is w frees, tt)
name_pops (Fun w ps b) frees = (pop_is w _, tt)
name_pops (Assign x y) frees = tt
name_pops (Do x) frees = tt
name_pops (Return x) frees = tt
name_pops (Throw x) frees = tt
name_pops (If c b e) frees = tt
name_pops (While c b) frees = tt
name_pops (For a c s b) frees = tt
name_pops (ForIn k v x b) frees = tt
name_pops (Try b w c) frees = tt
name_pops (Block b) frees = tt

pub block_are_pops : (ss : Stms) → ArePops (lets ss) (block_pops ss)
block_are_pops Done = tt
block_are_pops (Then s ss) = pops_after (lets ss) (count_name (name_by s)) (block_pops ss) (name_pop s (stms_frees false ss)) (block_are_pops ss) (name_pops s (stms_frees false ss))

pub framed_over : {d : ℕ} (c : Ctx) (N L : List Seat) → Framed d c L → Framed d c (N ++ L)
framed_over c [] L f = f
framed_over c (s ∷ N) L f = framed_push c s (N ++ L) (framed_over c N L f)

handlers_gone : (k : ℕ) (own outer : List Landing) → OwnLands k own → OuterLands k outer → throws_around (suc k) (throws_of (own ++ outer)) ≡ throws_of outer
handlers_gone k [] [] o u = refl
handlers_gone k [] (l ∷ ls) o u = let t : nat_lt (suc (length l.frames)) (suc k) ≡ true = grind (arith, nat_tests, u) in rw t refl
handlers_gone k (l ∷ own) outer o u =
    let f : nat_lt (suc (length l.frames)) (suc k) ≡ false = grind (arith, nat_tests, o.0) in
    rw f (handlers_gone k own outer o.1 u)

module _ (g : Given) (n d : ℕ) where
  pop_one : (c : Ctx) (p : ℕ) (s : Seat) (M : List Seat) (G : Ghost) (w : World) (op : Op) → IsPop op → slice_get g.code p ≡ Some (Begins op) → Framed d c M → Distinct (length w.store) (s ∷ M) → Comes g (at c p (s ∷ M) G w) (at c (p + 1) M G w)
  unfolding act
  pop_one c p s M G w op (inl e) is f dist =
      let is2 : slice_get g.code p ≡ Some (Begins o.Pop) = is ∙ ap (λ z. Some (Begins z)) e in
      one_step g _ _ (op_is g o.Pop c p (s ∷ M) G w is2 ∙ ap (λ t. on_with (spot c p (p + 1)) t.1 (at c p (s ∷ M) G w)) (top_pic c s M w f) ∙ on_pic c p (p + 1) (s ∷ []) M G w dist)
      (passes g c p (p + 1) (s ∷ M) M G G w w is2 (omega arith) (omega arith))
  pop_one c p s M G w op (inr e) is f dist =
      let is2 : slice_get g.code p ≡ Some (Begins o.CloseUpvalue) = is ∙ ap (λ z. Some (Begins z)) e in
      one_step g _ _ (op_is g o.CloseUpvalue c p (s ∷ M) G w is2 ∙ ap (λ t. on_with (spot c p (p + 1)) t.1 (at c p (s ∷ M) G w)) (top_pic c s M w f) ∙ on_pic c p (p + 1) (s ∷ []) M G w dist)
      (passes g c p (p + 1) (s ∷ M) M G G w w is2 (omega arith) (omega arith))

  one_size : (op : Op) → IsPop op → size op ≡ 1
  one_size op (inl e) = ap size e
  one_size op (inr e) = ap size e

  -- locals come off
  pub pops_run : (N L : List Seat) (ops : Ops) (c : Ctx) (p q : ℕ) (G : Ghost) (w : World) → ArePops (length N) ops → HasAt g.code p ops → q ≡ p + span ops → Framed d c L → Distinct (length w.store) (N ++ L) → Comes g (at c p (N ++ L) G w) (at c q L G w)
  pops_run [] L NoOp c p q G w are has e f dist = at_once g (ap (λ z. at c z L G w) (omega arith))
  pops_run [] L (MoreOp op ops) c p q G w are has e f dist = absurd are
  pops_run (s ∷ N) L NoOp c p q G w are has e f dist = absurd are
  pops_run (s ∷ N) L (MoreOp op ops) c p q G w are has e f dist =
      let z = one_size op are.0 in
      let has2 : HasAt g.code (p + 1) ops = subst (λ k. HasAt g.code (p + k) ops) z has.2 in
      comes_then g (pop_one c p s (N ++ L) G w op are.0 has.0 (framed_over c N L f) dist)
      (pops_run N L ops c (p + 1) q G w are.1 has2 (omega (arith, e, z)) f (lower (length w.store) (s ∷ []) (N ++ L) dist))

  flow_goes : {c : Ctx} {p1 k1 p2 k2 : ℕ} {fr1 fr2 : names.Frame} {ws1 V1 ws2 V2 : List Word} {L L2 : List Seat} {ls : List Landing} {go : Env → World → Got Flow} (f : Flow) (w : World) (G1 : Ghost) (s1 : State) → ((ρ1 : Env) (w : World) (s1 : State) (p : GoneOn g n d c p1 fr1 ws1 V1 k1 L ρ1 w G1 s1) → Run g n ls (at c p1 (p.new ++ L) G1 w) G1 (StmAt g n d c p2 fr2 ws2 V2 k2 L2) (go ρ1 w)) → StmAt g n d c p1 fr1 ws1 V1 k1 L f w G1 s1 → Run g n ls s1 G1 (StmAt g n d c p2 fr2 ws2 V2 k2 L2) (on_flow f w go)
  flow_goes {c} {p1} {k1} {p2} {k2} {fr1} {fr2} {ws1} {V1} {ws2} {V2} {L} {L2} {ls} {go} (GoesOn ρ1) w G1 s1 k p =
      subst (λ (z : State). Run g n ls z G1 (StmAt g n d c p2 fr2 ws2 V2 k2 L2) (go ρ1 w)) (sym p.is) (k ρ1 w s1 p)
  flow_goes {c} (Returns v) w G1 s1 k p = gives g n (stays g s1) p

  -- one statement after another
  pub stm_then : {c : Ctx} {p1 k1 p2 k2 : ℕ} {fr1 fr2 : names.Frame} {ws1 V1 ws2 V2 : List Word} {L L2 : List Seat} {ls : List Landing} {s : State} {G : Ghost} {o : Got Flow} {go : Env → World → Got Flow} → Run g n ls s G (StmAt g n d c p1 fr1 ws1 V1 k1 L) o → ((ρ1 : Env) (w : World) (G1 : Ghost) (s1 : State) → Extends G G1 → (p : GoneOn g n d c p1 fr1 ws1 V1 k1 L ρ1 w G1 s1) → Run g n ls (at c p1 (p.new ++ L) G1 w) G1 (StmAt g n d c p2 fr2 ws2 V2 k2 L2) (go ρ1 w)) → Run g n ls s G (StmAt g n d c p2 fr2 ws2 V2 k2 L2) (and_then o (λ f w. on_flow f w go))
  stm_then r k = run_then g n r (λ f w G1 s1 x p. flow_goes f w G1 s1 (λ ρ1 w s1 q. k ρ1 w G1 s1 x q) p)

  leave_goes : (c : Ctx) (ρ : Env) (p1 k p2 : ℕ) (fr1 : names.Frame) (ws1 V1 : List Word) (ops : Ops) (L : List Seat) (ls : List Landing) (G G1 : Ghost) (w0 : World) → Fits g n d c ρ L G w0 → length L ≡ c.base + length c.scope.locals → ArePops k ops → HasAt g.code p1 ops → p2 ≡ p1 + span ops → Extends G G1 → (f : Flow) (w : World) (s1 : State) → StmAt g n d c p1 fr1 ws1 V1 k L f w G1 s1 → Run g n ls s1 G1 (PlainEnd g n d c p2 L) (leave ρ f w)
  leave_goes c ρ p1 k p2 fr1 ws1 V1 ops L ls G G1 w0 h full are has e x (GoesOn ρ1) w s1 p =
      let are2 = subst (λ j. ArePops j ops) (sym p.many) are in
      let run = pops_run p.new L ops c p1 p2 G1 w are2 has e h.framed p.fits.kept.layout in
      let kept = kept_on L p.fits.kept (lower (length w.store) p.new L p.fits.kept.layout) in
      run_after g n (at_once g p.is) (extends_same G1)
      (gives g n run (record { new = []; many = refl; is = refl; fits = fits_on h x kept; full = full }))
  leave_goes c ρ p1 k p2 fr1 ws1 V1 ops L ls G G1 w0 h full are has e x (Returns v) w s1 p = gives g n (stays g s1) p

  -- a block's end
  pub run_leave : {c : Ctx} {ρ : Env} {p1 k : ℕ} (p2 : ℕ) {fr1 : names.Frame} {ws1 V1 : List Word} (ops : Ops) {L : List Seat} {ls : List Landing} {s : State} {G : Ghost} {w0 : World} {o : Got Flow} → Fits g n d c ρ L G w0 → length L ≡ c.base + length c.scope.locals → ArePops k ops → HasAt g.code p1 ops → p2 ≡ p1 + span ops → Run g n ls s G (StmAt g n d c p1 fr1 ws1 V1 k L) o → Run g n ls s G (PlainEnd g n d c p2 L) (and_then o (leave ρ))
  run_leave {c} {ρ} {p1} {k} p2 {fr1} {ws1} {V1} ops {L} {ls} {s} {G} {w0} {o} h full are has e r =
      run_then g n r (λ f w G1 s1 x p. leave_goes c ρ p1 k p2 fr1 ws1 V1 ops L ls G G1 w0 h full are has e x f w s1 p)

  -- nothing is left on the stack
  pub plain : {c : Ctx} {ρ : Env} {L : List Seat} {ls : List Landing} {s s1 : State} {G : Ghost} {w : World} (p : ℕ) → Comes g s s1 → s1 ≡ at c p L G w → Fits g n d c ρ L G w → length L ≡ c.base + length c.scope.locals → Run g n ls s G (PlainEnd g n d c p L) (Gives (GoesOn ρ) w)
  plain {c} {ρ} {L} {ls} {s} {s1} {G} {w} p k e h full =
      gives g n k (record { new = []; many = refl; is = e; fits = h; full = full })

  pub fits_local : {c : Ctx} {ρ : Env} (x : Word) {L : List Seat} (v : Val) {G : Ghost} {w : World} → Fits g n d c ρ L G w → length L ≡ c.base + length c.scope.locals → Fits g n d (scoped c (with_local (Some x) c.scope) (x ∷ c.words) (x ∷ c.sight)) (named x w ρ) (Var (length w.store) ∷ L) G (declare v w)
  fits_local {c} {ρ} x {L} v {G} {w} h full = record {
    kept = kept_new v L w h.kept;
    framed = framed_scope (with_local (Some x) c.scope) (x ∷ c.words) (x ∷ c.sight) (framed_push c (Var (length w.store)) L h.framed);
    sees = sees_local c.words c.scope ρ c.base c.captured x (length w.store) L G.owners full h.sees;
    captured = h.captured;
    sight = ap (λ V. x ∷ V) h.sight;
  }

  -- the value on the top becomes a variable
  pub let_runs : (c : Ctx) (ρ : Env) (p : ℕ) (x : Word) (L : List Seat) (v : Val) (G : Ghost) (w : World) → Fits g n d c ρ L G w → length L ≡ c.base + length c.scope.locals → Run g n (landings c) (at c p (Temp v ∷ L) G w) G (StmEnd g n d c p (Some x) L) (Gives (GoesOn (named x w ρ)) (declare v w))
  let_runs c ρ p x L v G w h full =
      gives g n (stays g _) (record {
        new = Var (length w.store) ∷ [];
        many = refl;
        is = becomes (frame p c.base c.function ∷ c.frames) (landings c) [] v L G w h.kept.layout h.kept.owners;
        fits = fits_local x v h full;
        full = omega arith;
      })

  -- a throw of the value on the top
  pub throw_runs : {c : Ctx} {ρ : Env} {P : Flow → World → Ghost → State → Type 0} (p q : ℕ) (L : List Seat) (v : Val) (G : Ghost) (w : World) → slice_get g.code p ≡ Some (Begins o.Throw) → suc p ≤ q → Under q c.own → Fits g n d c ρ L G w → Run g n (landings c) (at c p (Temp v ∷ L) G w) G P (Throws v w)
  unfolding act
  throw_runs {c} p q L v G w is le u h =
      let S : State = at c p (Temp v ∷ L) G w in
      let f = framed_push c (Temp v) L h.framed in
      let k = kept_push v h.kept in
      let same = sym (ap (λ z. m.with_heap w z w.units) h.kept.heap) in
      let k2 : Kept g n (Temp v ∷ L) (record G { heap = G.heap }) (m.with_heap w (heap_map meant G.heap) w.units) = record { layout = k.layout; owners = k.owners; heap = refl; funs = k.funs; texts = k.texts; turns = k.turns } in
      record {
        ends = subst (λ z. ThrowEnds g n (landings c) S G v z) same
            (raised g n c p (Temp v ∷ L) G w v G.heap w.units is (under_less c.own le u) f (keeps_same G.heap) k2
            (op_is g o.Throw c p (Temp v ∷ L) G w is ∙ ap (λ t. throw_value t.0 S) (top_pic c (Temp v) L w h.framed)));
      }

  -- a return to the caller, or the end
  return_falls : (v : Val) (p q : ℕ) (c : Ctx) (f2 : Frame) (fs : List Frame) (M M2 : List Seat) (ls2 : List Landing) (G : Ghost) (w : World) → c.frames ≡ f2 ∷ fs → slice_get g.code p ≡ Some (Begins o.Return) → suc (psi g (pic (f2 ∷ fs) ls2 M2 G w)) ≤ psi g (at c p M G w)
  return_falls v p q c f2 fs M M2 ls2 G w e is =
      let l = left_past g.code p (suc p) o.Return is (omega arith) in
      let x = ap (phi g.code) e in omega (arith, l, x)

  return_goes : (v : Val) (p : ℕ) (c : Ctx) (N : List Seat) (G : Ghost) (w : World) (fs : List Frame) → c.frames ≡ fs → slice_get g.code p ≡ Some (Begins o.Return) → c.base ≡ length c.below → OwnLands (length c.frames) c.own → OuterLands (length c.frames) c.outer → Kept g n (N ++ c.below) G w → step g.fixed g.code (at c p (Temp v ∷ (N ++ c.below)) G w) ≡ give_back v (spot c p (p + 1)) fs (at c p (Temp v ∷ (N ++ c.below)) G w) → Reaches g (at c p (Temp v ∷ (N ++ c.below)) G w) G (ReturnEnds g n fs c.outer c.below v w)
  return_goes v p c N G w [] e is b own outer k first =
      let S : State = at c p (Temp v ∷ (N ++ c.below)) G w in
      let done = shown_halts g end.Done v S S (record (cut_to [] S) { throws = [] }) w G.heap first refl k.heap refl refl refl refl refl refl refl (stops g p c.base c.function c.frames (max_turns - w.turns) is) in
      record { last = done.last; ghost' = G; comes = done.comes; extends = extends_same G; holds = (done.mode, done.trace) }
  return_goes v p c N G w (f2 ∷ fs) e is b own outer k first =
      let S : State = at c p (Temp v ∷ (N ++ c.below)) G w in
      let f = frame p c.base c.function in
      let j = suc (length (f2 ∷ fs)) in
      let lens = ap (length {A = Frame}) e in
      let done : step g.fixed g.code S ≡ pic (f2 ∷ fs) c.outer (Temp v ∷ c.below) G w =
      first
      ∙ ap (λ z. push v (record (cut_to (keep z S.stack) S) { frames = f2 ∷ fs; throws = throws_around j S.throws })) b
      ∙ ap (λ st. push v (record (cut_to st S) { frames = f2 ∷ fs; throws = throws_around j S.throws })) (keep_stack w.store (Temp v ∷ N) c.below)
      ∙ ap (λ (z : State). push v (record z { frames = f2 ∷ fs; throws = throws_around j S.throws })) (pop_pic (f ∷ c.frames) (landings c) (Temp v ∷ N) c.below G w k.layout)
      ∙ ap (λ ts. record (pic (f2 ∷ fs) c.outer (Temp v ∷ c.below) G w) { throws = ts }) (handlers_gone (length (f2 ∷ fs)) c.own c.outer (subst (λ z. OwnLands z c.own) lens own) (subst (λ z. OuterLands z c.outer) lens outer)) in
      record {
        last = pic (f2 ∷ fs) c.outer (Temp v ∷ c.below) G w;
        ghost' = G;
        extends = extends_same G;
        comes = one_step g S (pic (f2 ∷ fs) c.outer (Temp v ∷ c.below) G w) done (return_falls v p p c f2 fs (Temp v ∷ (N ++ c.below)) (Temp v ∷ c.below) c.outer G w e is);
        holds = (refl, kept_on c.below k (lower (length w.store) N c.below k.layout));
      }

  pub return_reaches : (c : Ctx) (ρ : Env) (p : ℕ) (L : List Seat) (v : Val) (G : Ghost) (w : World) → slice_get g.code p ≡ Some (Begins o.Return) → Fits g n d c ρ L G w → Reaches g (at c p (Temp v ∷ L) G w) G (ReturnEnds g n c.frames c.outer c.below v w)
  unfolding act
  return_reaches c ρ p L v G w is h =
      let fl = h.framed.floor in
      let f = framed_push c (Temp v) L h.framed in
      let S : State = at c p (Temp v ∷ L) G w in
      let first : step g.fixed g.code S ≡ give_back v (spot c p (p + 1)) c.frames S = op_is g o.Return c p (Temp v ∷ L) G w is ∙ ap (λ t. give_back t.0 (spot c p (p + 1)) c.frames S) (top_pic c (Temp v) L w h.framed) in
      let kept : Kept g n (fl.0 ++ c.below) G w = subst (λ M. Kept g n M G w) fl.1 h.kept in
      subst (λ M. Reaches g (at c p (Temp v ∷ M) G w) G (ReturnEnds g n c.frames c.outer c.below v w)) (sym fl.1)
      (return_goes v p c fl.0 G w c.frames refl is h.framed.base h.framed.own h.framed.outer kept
      (subst (λ M. step g.fixed g.code (at c p (Temp v ∷ M) G w) ≡ give_back v (spot c p (p + 1)) c.frames (at c p (Temp v ∷ M) G w)) fl.1 first))

  pub return_runs : {c : Ctx} {ρ : Env} {q : ℕ} {fr : names.Frame} {ws V : List Word} {k : ℕ} (p : ℕ) (L : List Seat) (v : Val) (G : Ghost) (w : World) → slice_get g.code p ≡ Some (Begins o.Return) → Fits g n d c ρ L G w → Run g n (landings c) (at c p (Temp v ∷ L) G w) G (StmAt g n d c q fr ws V k L) (Gives (Returns v) w)
  return_runs {c} {ρ} p L v G w is h = record { ends = return_reaches c ρ p L v G w is h }

  -- jumps
  if_ahead : (b : Bool) (p k : ℕ) → p < cond b (p + 2) (p + 2 + k)
  if_ahead true p k = omega arith
  if_ahead false p k = omega arith

  pub test_step : (c : Ctx) (ρ : Env) (p k : ℕ) (L : List Seat) (v : Val) (G : Ghost) (w : World) → slice_get g.code p ≡ Some (Begins (o.JumpIfFalse (pos k))) → Fits g n d c ρ L G w → Comes g (at c p (Temp v ∷ L) G w) (at c (cond (truth_of w.heap v) (p + 2) (p + 2 + k)) L G w)
  unfolding act
  test_step c ρ p k L v G w is h =
      let S : State = at c p (Temp v ∷ L) G w in
      let here = spot c p (p + 2) in
      one_step g S _
      (op_is g (o.JumpIfFalse (pos k)) c p (Temp v ∷ L) G w is
      ∙ ap (λ t. cond (truth_of (heap_map built G.heap) t.0) (on_with here t.1 S) (jump here (pos k) (cut_to t.1 S))) (top_pic c (Temp v) L w h.framed)
      ∙ ap (λ b. cond b (on_with here (stack_of w.store L) S) (jump here (pos k) (cut_to (stack_of w.store L) S))) (truth_same h.kept v)
      ∙ either (truth_of w.heap v))
      (passes g c p (cond (truth_of w.heap v) (p + 2) (p + 2 + k)) (Temp v ∷ L) L G G w w is (if_ahead (truth_of w.heap v) p k) (omega arith))
    where
      either : (b : Bool) → cond b (on_with (spot c p (p + 2)) (stack_of w.store L) (at c p (Temp v ∷ L) G w)) (jump (spot c p (p + 2)) (pos k) (cut_to (stack_of w.store L) (at c p (Temp v ∷ L) G w))) ≡ at c (cond b (p + 2) (p + 2 + k)) L G w
      either true = on_pic c p (p + 2) (Temp v ∷ []) L G w h.kept.layout
      either false = ap (λ z. goto (p + 2 + k) (frame p c.base c.function) c.frames z) (pop_pic (frame p c.base c.function ∷ c.frames) (landings c) (Temp v ∷ []) L G w h.kept.layout)

  pub goto_step : (c : Ctx) (p k : ℕ) (L : List Seat) (G : Ghost) (w : World) → slice_get g.code p ≡ Some (Begins (o.Jump (pos k))) → Comes g (at c p L G w) (at c (p + 2 + k) L G w)
  unfolding act
  goto_step c p k L G w is = one_step g _ _ (op_is g (o.Jump (pos k)) c p L G w is) (passes g c p (p + 2 + k) L L G G w w is (omega arith) (omega arith))

  plain_goes : (c : Ctx) (p1 p2 : ℕ) (L : List Seat) → ((G : Ghost) (w : World) → Comes g (at c p1 L G w) (at c p2 L G w)) → (f : Flow) (w : World) (G : Ghost) (s : State) → PlainEnd g n d c p1 L f w G s → Reaches g s G (PlainEnd g n d c p2 L f w)
  plain_goes c p1 p2 L k (GoesOn ρ) w G s p = none p.new p.many p
    where
      empty : (N : List Seat) → length N ≡ 0 → N ≡ []
      empty [] z = refl
      empty (x ∷ N) z = absurd (cc)

      none : (new : List Seat) → length new ≡ 0 → (q : GoneOn g n d c p1 c.scope c.words c.sight 0 L ρ w G s) → Reaches g s G (GoneOn g n d c p2 c.scope c.words c.sight 0 L ρ w)
      none new e q = record {
        last = at c p2 L G w;
        ghost' = G;
        extends = extends_same G;
        comes = comes_then g (at_once g (q.is ∙ ap (λ N. at c p1 (N ++ L) G w) (empty q.new q.many))) (k G w);
        holds = record {
          new = [];
          many = refl;
          is = refl;
          fits = subst (λ N. Fits g n d c ρ (N ++ L) G w) (empty q.new q.many) q.fits;
          full = ap (λ N. length (N ++ L)) (sym (empty q.new q.many)) ∙ q.full;
        };
      }
  plain_goes c p1 p2 L k (Returns v) w G s p = record { last = s; ghost' = G; comes = stays g s; extends = extends_same G; holds = p }

  -- jumps after a block
  pub run_plain : {c : Ctx} {p1 : ℕ} {L : List Seat} {ls : List Landing} {s : State} {G : Ghost} {o : Got Flow} (p2 : ℕ) → ((G : Ghost) (w : World) → Comes g (at c p1 L G w) (at c p2 L G w)) → Run g n ls s G (PlainEnd g n d c p1 L) o → Run g n ls s G (PlainEnd g n d c p2 L) o
  run_plain {c} {p1} {L} p2 k r = run_on g n (PlainEnd g n d c p2 L) (plain_goes c p1 p2 L k) r

  -- what a later statement leaves stands over what an earlier one left
  pub more_goes : (c : Ctx) (fr1 : names.Frame) (ws1 V1 : List Word) (p : ℕ) (fr : names.Frame) (ws V : List Word) (k1 k2 : ℕ) (N L : List Seat) → length N ≡ k2 → (f : Flow) (w : World) (G : Ghost) (s : State) → StmAt g n d (scoped c fr1 ws1 V1) p fr ws V k1 (N ++ L) f w G s → Reaches g s G (StmAt g n d c p fr ws V (k1 + k2) L f w)
  more_goes c fr1 ws1 V1 p fr ws V k1 k2 N L m (GoesOn ρ) w G s q =
      let both = append_assoc q.new N L in
      record {
        last = s;
        ghost' = G;
        comes = stays g s;
        extends = extends_same G;
        holds = record {
          new = q.new ++ N;
          many = omega (arith, q.many, m, length-append q.new N);
          is = q.is ∙ ap (λ M. at c p M G w) (sym both);
          fits = subst (λ M. Fits g n d (scoped c fr ws V) ρ M G w) (sym both) q.fits;
          full = ap length both ∙ q.full;
        };
      }
  more_goes c fr1 ws1 V1 p fr ws V k1 k2 N L m (Returns v) w G s q = record { last = s; ghost' = G; comes = stays g s; extends = extends_same G; holds = q }
