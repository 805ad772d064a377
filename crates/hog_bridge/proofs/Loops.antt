-- Tries and loops on the picture.
use Rattle.std.proofs.Common.{◌≡◌, ℕ, suc, ◌+◌, ◌-◌, ◌<◌, ◌≤◌, pos, negsuc, neg_ℤ, List, [], ◌∷◌, ◌++◌, length, Some, Bool, true, false, cond, refl, sym, ap, ◌∙◌, subst, inl, arith}
use Rattle.std.specs.Prelude.{◌==◌, nat_lt, slice_get}
use Rattle.std.proofs.lemmas.Bool.Decides.{nat_tests}
use Rattle.hog_value.specs.declared.trace.End.TheVariants as end
use Rattle.hog_value.specs.Values.{Val}
use Rattle.hog_value.specs.Meters.{max_turns}
use Rattle.hog_value.specs.Operations.{truth_of}
use Rattle.hog_tree.specs.Plain.{Word, Exp, Stms, OptionExp, OptionStm, While}
use Rattle.hog_captures.specs.Frees.{stm_frees}
use Rattle.hog_captures.specs.Frames as names
use Rattle.hog_compiler.specs.Pieces.{loop_code, one}
use Rattle.hog_compiler.specs.Code.{stm_code}
use Rattle.hog_meaning.specs.World.{Env, World, Got, Gives, Throws, Waits, Spends, and_then, Flow, GoesOn, Returns}
use Rattle.hog_meaning.specs.World as m
use Rattle.hog_meaning.specs.Meaning.{Effect, Loop, LoopWithStep, on_flow, catch}
use Rattle.hog_ops.specs.Plain as o
use Rattle.hog_ops.specs.Plain.{Op, Ops, NoOp, MoreOp, ◌⊕◌}
use Rattle.hog_ops.specs.Table.{span}
use Rattle.vm_course.specs.State.{Begins, State, ThrowFrame}
use Rattle.vm_course.specs.Throws.{ends}
use Rattle.vm_course.specs.Step.{step, act, jump, jump_or_back, without_try}
use Rattle.hog_bridge.proofs.Words.{Sub}
use Rattle.hog_bridge.proofs.Resolved.{StmOk, StmsOk, OptionExpOk, OptionStmOk}
use Rattle.hog_bridge.proofs.Places.{Seat, Temp, stack_of, length-stack}
use Rattle.hog_bridge.proofs.Ahead.{HasAt, has_front, has_back, span-after, left, left_past, left_later}
use Rattle.hog_bridge.proofs.Picture.{Given, Ghost, Landing, throws_of, Comes, comes_then, comes_to, at_once, one_step, stays, Under, Ctx, landings, at, Framed, Kept, Fits, Ends, Extends, extends_same, Reaches, Run, run_after}
use Rattle.hog_bridge.proofs.Steps.{spot, on_pic, op_is}
use Rattle.hog_bridge.proofs.Parts.{ExpAt, passes, spends}
use Rattle.hog_bridge.proofs.Exps.{exp_then, fits_on}
use Rattle.hog_bridge.proofs.Operators.{ready_with}
use Rattle.hog_bridge.proofs.Follow.{StmAt, Follows, run_more, stm_more, for_loop, for_words}
use Rattle.hog_bridge.proofs.Calls.{turn_less}
use Rattle.hog_bridge.proofs.Blocks.{PlainEnd, stm_then, test_step, goto_step}

-- at the landing of a `try`
abbrev pub landing_of : Ctx → ℕ → List Seat → Landing
landing_of c target L = record { target = target; base = c.base; function = c.function; frames = c.frames; layout = L }

abbrev pub guarded : Ctx → Landing → Ctx
guarded c l = record c { own = l ∷ c.own }

empty : (N : List Seat) → length N ≡ 0 → N ≡ []
empty [] z = refl
empty (x ∷ N) z = absurd (cc)

module _ (g : Given) (n d : ℕ) where
  -- after a block: nothing is left of it
  pub plain_then : {c : Ctx} {p1 p2 k2 : ℕ} {fr2 : names.Frame} {ws2 V2 : List Word} {L L2 : List Seat} {ls : List Landing} {s : State} {G : Ghost} {o : Got Flow} {go : Env → World → Got Flow} → Run g n ls s G (PlainEnd g n d c p1 L) o → ((ρ1 : Env) (w : World) (G1 : Ghost) → Extends G G1 → Fits g n d c ρ1 L G1 w → Run g n ls (at c p1 L G1 w) G1 (StmAt g n d c p2 fr2 ws2 V2 k2 L2) (go ρ1 w)) → Run g n ls s G (StmAt g n d c p2 fr2 ws2 V2 k2 L2) (and_then o (λ f w. on_flow f w go))
  plain_then {c} {p1} {p2} {k2} {fr2} {ws2} {V2} {L} {L2} {ls} {s} {G} {o} {go} r k =
      stm_then g n d r (λ ρ1 w G1 s1 x p.
      let e = empty p.new p.many in
      subst (λ N. Run g n ls (at c p1 (N ++ L) G1 w) G1 (StmAt g n d c p2 fr2 ws2 V2 k2 L2) (go ρ1 w)) (sym e)
      (k ρ1 w G1 x (subst (λ N. Fits g n d c ρ1 (N ++ L) G1 w) e p.fits)))

  pub fits_guarded : (c : Ctx) (ρ : Env) (target : ℕ) (L : List Seat) (G : Ghost) (w : World) → Fits g n d c ρ L G w → Fits g n d (guarded c (landing_of c target L)) ρ L G w
  fits_guarded c ρ target L G w h = record {
    kept = h.kept;
    sees = h.sees;
    captured = h.captured;
    sight = h.sight;
    framed = record {
      lands = (inl (refl, refl, refl), ([], refl), h.framed.lands);
      floor = h.framed.floor;
      base = h.framed.base;
      own = (refl, h.framed.own);
      outer = h.framed.outer;
      depth = h.framed.depth;
    };
  }

  -- a throw frame is set
  pub try_step : (c : Ctx) (ρ : Env) (p k : ℕ) (L : List Seat) (G : Ghost) (w : World) → slice_get g.code p ≡ Some (Begins (o.Try (pos k))) → Fits g n d c ρ L G w → Comes g (at c p L G w) (at (guarded c (landing_of c (p + 2 + k) L)) (p + 2) L G w)
  unfolding act
  try_step c ρ p k L G w is h =
      let S : State = at c p L G w in
      let t : ℕ → ThrowFrame = λ j. record { frames = suc (length c.frames); height = j; catch = p + 2 + k } in
      one_step g S (at (guarded c (landing_of c (p + 2 + k) L)) (p + 2) L G w)
      (op_is g (o.Try (pos k)) c p L G w is
      ∙ ap (λ (z : State). record z { throws = t (length (stack_of w.store L)) ∷ throws_of (landings c) }) (on_pic c p (p + 2) [] L G w h.kept.layout)
      ∙ ap (λ j. record (at c (p + 2) L G w) { throws = t j ∷ throws_of (landings c) }) (length-stack w.store L))
      (passes g c p (p + 2) L L G G w w is (omega arith) (omega arith))

  -- what a guarded block comes to, with its throw caught
  pub catch_ends : (c : Ctx) (target p1 p2 : ℕ) (L : List Seat) (s : State) (G : Ghost) (o : Got Flow) (go : Val → World → Got Flow) → Ends g n (landing_of c target L ∷ landings c) s G (PlainEnd g n d (guarded c (landing_of c target L)) p1 L) o → ((f : Flow) (w : World) (G1 : Ghost) (s1 : State) → PlainEnd g n d (guarded c (landing_of c target L)) p1 L f w G1 s1 → Extends G G1 → Reaches g s1 G1 (PlainEnd g n d c p2 L f w)) → ((v : Val) (w : World) (G1 : Ghost) → Extends G G1 → Kept g n L G1 w → Run g n (landings c) (at c target (Temp v ∷ L) G1 w) G1 (PlainEnd g n d c p2 L) (go v w)) → Run g n (landings c) s G (PlainEnd g n d c p2 L) (catch o go)
  catch_ends c target p1 p2 L s G (Gives f w) go r k j = run_after g n r.comes r.extends (record { ends = k f w r.ghost' r.last r.holds r.extends })
  catch_ends c target p1 p2 L s G (Throws v w) go r k j =
      run_after g n (comes_to g r.comes r.holds.is) r.extends (j v w r.ghost' r.extends r.holds.kept)
  catch_ends c target p1 p2 L s G (Waits w) go r k j = record { ends = r }
  catch_ends c target p1 p2 L s G (Spends e w) go r k j = record { ends = r }

  -- the throw frame goes
  untry_step : (c : Ctx) (target p : ℕ) (L : List Seat) (G : Ghost) (w : World) → slice_get g.code p ≡ Some (Begins o.PopTry) → Kept g n L G w → Comes g (at (guarded c (landing_of c target L)) p L G w) (at c (p + 1) L G w)
  unfolding act
  untry_step c target p L G w is k =
      let c2 = guarded c (landing_of c target L) in
      let S : State = at c2 p L G w in
      let t : ThrowFrame = record { frames = suc (length c.frames); height = length L; catch = target } in
      one_step g S (at c (p + 1) L G w)
      (op_is g o.PopTry c2 p L G w is
      ∙ ap (λ (z : State). record z { throws = without_try (suc (length c.frames)) (throws_of (landings c2)) }) (on_pic c2 p (p + 1) [] L G w k.layout)
      ∙ ap (λ b. record (at c (p + 1) L G w) { throws = cond b (throws_of (landings c)) (t ∷ throws_of (landings c)) }) (same_number (suc (length c.frames))))
      (passes g c2 p (p + 1) L L G G w w is (omega arith) (omega arith))
    where
      same_number : (j : ℕ) → (j == j) ≡ true
      same_number j = grind (arith, nat_tests)

  -- the end of a guarded block: its throw frame goes, and the handler is passed
  pub unguard : (c : Ctx) (ρ : Env) (target p k p2 : ℕ) (L : List Seat) (G : Ghost) (w0 : World) → Fits g n d c ρ L G w0 → length L ≡ c.base + length c.scope.locals → slice_get g.code p ≡ Some (Begins o.PopTry) → slice_get g.code (p + 1) ≡ Some (Begins (o.Jump (pos k))) → p + 3 + k ≡ p2 → (f : Flow) (w : World) (G1 : Ghost) (s1 : State) → PlainEnd g n d (guarded c (landing_of c target L)) p L f w G1 s1 → Extends G G1 → Reaches g s1 G1 (PlainEnd g n d c p2 L f w)
  unguard c ρ target p k p2 L G w0 h full at1 at2 e (GoesOn ρ1) w G1 s1 q x =
      let en = empty q.new q.many in
      let c2 = guarded c (landing_of c target L) in
      let f2 = subst (λ N. Fits g n d c2 ρ1 (N ++ L) G1 w) en q.fits in
      let is = q.is ∙ ap (λ N. at c2 p (N ++ L) G1 w) en in
      record {
        last = at c p2 L G1 w;
        ghost' = G1;
        extends = extends_same G1;
        comes = comes_then g (comes_to g (at_once g is) refl) (comes_then g (untry_step c target p L G1 w at1 f2.kept) (comes_to g (goto_step g n d c (p + 1) k L G1 w at2) (ap (λ z. at c z L G1 w) (omega (arith, e)))));
        holds = record {
          new = [];
          many = refl;
          is = refl;
          full = full;
          fits = record { kept = f2.kept; sees = f2.sees; framed = h.framed; captured = f2.captured; sight = f2.sight };
        };
      }
  unguard c ρ target p k p2 L G w0 h full at1 at2 e (Returns v) w G1 s1 q x =
      record { last = s1; ghost' = G1; comes = stays g s1; extends = extends_same G1; holds = q }

  -- one turn more spent
  pub fits_turn : {c : Ctx} {ρ : Env} {L : List Seat} {G : Ghost} {w : World} → w.turns < max_turns → Fits g n d c ρ L G w → Fits g (n - 1) d c ρ L G (record w { turns = w.turns + 1 })
  fits_turn lt h = record {
    kept = record { layout = h.kept.layout; owners = h.kept.owners; heap = h.kept.heap; funs = h.kept.funs; texts = h.kept.texts; turns = omega (arith, h.kept.turns, lt) };
    framed = h.framed;
    sees = h.sees;
    captured = h.captured;
    sight = h.sight;
  }

back_is : (k : ℕ) → neg_ℤ (pos (k + 4)) ≡ negsuc (k + 3)
back_is k = let e : k + 4 ≡ suc (k + 3) = omega arith in ap (λ z. neg_ℤ (pos z)) e

-- a jump back, at which a turn is spent
module _ (g : Given) (n d : ℕ) (c : Ctx) (p1 p k : ℕ) (M : List Seat) (G : Ghost) (w : World) (P : Flow → World → Ghost → State → Type 0) (go : World → Got Flow) (is : slice_get g.code p1 ≡ Some (Begins (o.Jump (neg_ℤ (pos (k + 4)))))) (e : (p1 + 2) - (k + 4) ≡ p) (q : ℕ) (le : suc p1 ≤ q) (u : Under q c.own) (framed : Framed d c M) (kept : Kept g n M G w) where
  abbrev S : State
  S = at c p1 M G w

  turned : (b : Bool) → nat_lt w.turns max_turns ≡ b → step g.fixed g.code S ≡ cond b (jump (spot c p1 (p1 + 2)) (negsuc (k + 3)) (record S { turns = w.turns + 1 })) (ends end.TurnsSpent S) → (w.turns < max_turns → Run g n (landings c) (at c p M G (record w { turns = w.turns + 1 })) G P (go (record w { turns = w.turns + 1 }))) → Run g n (landings c) S G P (cond b (go (record w { turns = w.turns + 1 })) (m.Spends m.TurnsSpent w))
  turned true eb first later =
      let lt : w.turns < max_turns = grind (arith, nat_tests) in
      let w1 : World = record w { turns = w.turns + 1 } in
      let there : (p1 + 2) - suc (k + 3) ≡ p = omega (arith, e) in
      let m1 = turn_less w.turns (left g.code 0) lt in
      let a = left_past g.code p1 (suc p1) (o.Jump (neg_ℤ (pos (k + 4)))) is (omega arith) in
      let b = left_later g.code 0 p (omega arith) in
      run_after g n (one_step g S (at c p M G w1) (first ∙ ap (λ z. at c z M G w1) there) (omega (arith, m1, a, b))) (extends_same G) (later lt)
  turned false eb first later = spends g n d c p1 M G w (ready_with is le u framed kept) m.TurnsSpent first

  pub back_runs : (w.turns < max_turns → Run g n (landings c) (at c p M G (record w { turns = w.turns + 1 })) G P (go (record w { turns = w.turns + 1 }))) → Run g n (landings c) S G P (m.with_turn w go)
  unfolding act
  back_runs later = turned (nat_lt w.turns max_turns) refl
      (op_is g (o.Jump (neg_ℤ (pos (k + 4)))) c p1 M G w is ∙ ap (λ z. jump_or_back (spot c p1 (p1 + 2)) z S) (back_is k)) later

-- where the parts of a loop stand
module _ (g : Given) (p : ℕ) (C X : Ops) (has : HasAt g.code p (loop_code C X)) where
  abbrev p1 : ℕ
  p1 = p + span C

  abbrev p2 : ℕ
  p2 = p1 + 2 + span X

  loop_rest : HasAt g.code p1 (MoreOp (o.JumpIfFalse (pos (span X + 2))) (X ⊕ one (o.Jump (neg_ℤ (pos (span C + span X + 4))))))
  loop_rest = has_back g.code p C (MoreOp (o.JumpIfFalse (pos (span X + 2))) (X ⊕ one (o.Jump (neg_ℤ (pos (span C + span X + 4)))))) has

  pub loop_test : HasAt g.code p C
  loop_test = has_front g.code p C (MoreOp (o.JumpIfFalse (pos (span X + 2))) (X ⊕ one (o.Jump (neg_ℤ (pos (span C + span X + 4)))))) has

  pub loop_jump : slice_get g.code p1 ≡ Some (Begins (o.JumpIfFalse (pos (span X + 2))))
  loop_jump = loop_rest.0

  pub loop_body : HasAt g.code (p1 + 2) X
  loop_body = has_front g.code (p1 + 2) X (one (o.Jump (neg_ℤ (pos (span C + span X + 4))))) loop_rest.2

  pub loop_back : slice_get g.code p2 ≡ Some (Begins (o.Jump (neg_ℤ (pos (span C + span X + 4)))))
  loop_back = (has_back g.code (p1 + 2) X (one (o.Jump (neg_ℤ (pos (span C + span X + 4))))) loop_rest.2).0

pub loop_end : (p q : ℕ) (C X : Ops) → q ≡ p + span (loop_code C X) → p + span C + 2 + (span X + 2) ≡ q
loop_end p q C X e = omega (arith, e, span-after C (MoreOp (o.JumpIfFalse (pos (span X + 2))) (X ⊕ one (o.Jump (neg_ℤ (pos (span C + span X + 4)))))), span-after X (one (o.Jump (neg_ℤ (pos (span C + span X + 4))))))

pub loop_again : (p : ℕ) (C X : Ops) → (p + span C + 2 + span X + 2) - (span C + span X + 4) ≡ p
loop_again p C X = omega arith

-- a turn of a loop: the test, and then what comes of it
module _ (g : Given) (n d : ℕ) (c : Ctx) (ρ : Env) (p q : ℕ) (C X : Ops) (M : List Seat) (G : Ghost) (w : World) (e : q ≡ p + span (loop_code C X)) (has : HasAt g.code p (loop_code C X)) where
  pub tested_runs : {P : Flow → World → Ghost → State → Type 0} (o1 : Got Val) (go : World → Got Flow) (gone : World → Got Flow) → Fits g n d c ρ M G w → Run g n (landings c) (at c p M G w) G (ExpAt g n c (p + span C) M) o1 → ((w1 : World) (G1 : Ghost) → Extends G G1 → Fits g n d c ρ M G1 w1 → Run g n (landings c) (at c (p + span C + 2) M G1 w1) G1 P (go w1)) → ((w1 : World) (G1 : Ghost) → Extends G G1 → Fits g n d c ρ M G1 w1 → Run g n (landings c) (at c q M G1 w1) G1 P (gone w1)) → Run g n (landings c) (at c p M G w) G P (and_then o1 (λ v w1. cond (truth_of w1.heap v) (go w1) (gone w1)))
  tested_runs {P} o1 go gone h r turn stop =
      exp_then g n r (λ v w1 G1 x1 k1.
      let h1 = fits_on h x1 k1 in
      run_after g n (test_step g n d c ρ (p + span C) (span X + 2) M v G1 w1 (loop_jump g p C X has) h1) (extends_same G1) (either G1 w1 x1 h1 (truth_of w1.heap v)))
    where
      either : (G1 : Ghost) (w1 : World) → Extends G G1 → Fits g n d c ρ M G1 w1 → (b : Bool) → Run g n (landings c) (at c (cond b (p + span C + 2) (p + span C + 2 + (span X + 2))) M G1 w1) G1 P (cond b (go w1) (gone w1))
      either G1 w1 x1 h1 true = turn w1 G1 x1 h1
      either G1 w1 x1 h1 false = subst (λ z. Run g n (landings c) (at c z M G1 w1) G1 P (gone w1)) (sym (loop_end p q C X e)) (stop w1 G1 x1 h1)

-- the further turns of a `while` and of a `for`
module _ (g : Given) (n d : ℕ) (again : Effect) (ih : Follows g again n) (c : Ctx) (ρ : Env) (p q : ℕ) (L : List Seat) (G : Ghost) (w : World) (h : Fits g n d c ρ L G w) (full : length L ≡ c.base + length c.scope.locals) (u : Under q c.own) where
  pub while_again : (a : Exp) (b : Stms) (p1 k : ℕ) → slice_get g.code p1 ≡ Some (Begins (o.Jump (neg_ℤ (pos (k + 4))))) → (p1 + 2) - (k + 4) ≡ p → suc p1 ≤ q → q ≡ p + span (stm_code c.scope (While a b)) → HasAt g.code p (stm_code c.scope (While a b)) → Sub (stm_frees true (While a b)) c.words → StmOk c.sight (While a b) → Run g n (landings c) (at c p1 L G w) G (PlainEnd g n d c q L) (m.with_turn w (again d (Loop a b) ρ))
  while_again a b p1 k is back le e has sub ok =
      back_runs g n d c p1 p k L G w (PlainEnd g n d c q L) (again d (Loop a b) ρ) is back q le u h.framed h.kept
      (λ lt. run_more g (n - 1) n (omega arith) (PlainEnd g n d c q L) (stm_more g (n - 1) n (omega arith) d c q c.scope c.words c.sight 0 L)
      (ih.loop (n - 1) (omega (arith, h.kept.turns, lt)) d a b c ρ p q L G (record w { turns = w.turns + 1 }) e has sub ok (fits_turn g n d lt h) full u))

  pub for_again : (a : OptionExp) (s : OptionStm) (b : Stms) (p1 k : ℕ) → slice_get g.code p1 ≡ Some (Begins (o.Jump (neg_ℤ (pos (k + 4))))) → (p1 + 2) - (k + 4) ≡ p → suc p1 ≤ q → q ≡ p + span (for_loop c.scope a s b) → HasAt g.code p (for_loop c.scope a s b) → Sub (for_words a s b) c.words → OptionExpOk c.sight a × OptionStmOk c.sight s × StmsOk c.sight b → Run g n (landings c) (at c p1 L G w) G (PlainEnd g n d c q L) (m.with_turn w (again d (LoopWithStep a s b) ρ))
  for_again a s b p1 k is back le e has sub ok =
      back_runs g n d c p1 p k L G w (PlainEnd g n d c q L) (again d (LoopWithStep a s b) ρ) is back q le u h.framed h.kept
      (λ lt. run_more g (n - 1) n (omega arith) (PlainEnd g n d c q L) (stm_more g (n - 1) n (omega arith) d c q c.scope c.words c.sight 0 L)
      (ih.stepped (n - 1) (omega (arith, h.kept.turns, lt)) d a s b c ρ p q L G (record w { turns = w.turns + 1 }) e has sub ok (fits_turn g n d lt h) full u))
