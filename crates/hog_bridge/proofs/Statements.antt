-- Statements: the machine follows the meaning.
use Rattle.std.proofs.Common.{◌≡◌, ℕ, ◌+◌, ◌≤◌, pos, neg_ℤ, List, [], ◌∷◌, ◌++◌, length, Some, true, false, cond, refl, sym, ap, subst, inl, arith}
use Rattle.std.specs.Prelude.{slice_get}
use Rattle.hog_value.specs.Operations.{truth_of}
use Rattle.hog_tree.specs.Plain as t
use Rattle.hog_tree.specs.Plain.{Word, Exp, Stm, Stms, OptionExp, OptionStm, OptionStms, Let, Assign, Do, Return, Throw, If, While, For, ForIn, Fun, Try, Block, Done, Then, NoneExp, SomeExp, NoneStm, SomeStm, NoneStms, SomeStms}
use Rattle.hog_captures.specs.Frees.{exp_frees, stm_frees, stms_frees, option_exp_frees, option_stm_frees, without, without_name, name_by, option_name_by}
use Rattle.hog_captures.specs.Frames.{find_local, find_up, with_local, with_name}
use Rattle.hog_compiler.specs.Pieces.{one, write_op, pop_op, key_count, hidden_code, more_code, pops}
use Rattle.hog_compiler.specs.Code.{exp_code, stm_code, stms_code, block_pops, value_code, option_stm_code, option_name_pop}
use Rattle.hog_meaning.specs.World.{Env, World, and_then, find_var, declare, named}
use Rattle.hog_meaning.specs.Meaning.{Effect, leave, run_for, run_over, value, effect, effects, optional, otherwise, begin, condition}
use Rattle.hog_ops.specs.Plain as o
use Rattle.hog_ops.specs.Plain.{Op, Ops, NoOp, MoreOp, ◌⊕◌}
use Rattle.hog_ops.specs.Table.{size, span}
use Rattle.vm_course.specs.State.{Begins}
use Rattle.hog_bridge.proofs.Words.{Sub, sub_left, sub_right, sub_past, sub_name, with_word}
use Rattle.hog_bridge.proofs.Resolved.{StmOk, StmsOk, OptionExpOk, OptionStmOk}
use Rattle.hog_bridge.proofs.Places.{Seat, Temp, Var}
use Rattle.hog_bridge.proofs.Ahead.{HasAt, has_front, has_back, has_join, span-after}
use Rattle.hog_bridge.proofs.Picture.{Given, Ghost, frame, comes_then, comes_to, at_once, stays, Under, under_less, Ctx, landings, at, Fits, extends_same, Run, run_after}
use Rattle.hog_bridge.proofs.Steps.{kept_on, fits_push}
use Rattle.hog_bridge.proofs.Parts.{ExpAt}
use Rattle.hog_bridge.proofs.Exps.{exp_then, fits_on}
use Rattle.hog_bridge.proofs.Lookups.{null_runs, true_runs}
use Rattle.hog_bridge.proofs.Operators.{ready_with, text_step}
use Rattle.hog_bridge.proofs.Writes.{becomes}
use Rattle.hog_bridge.proofs.Follow.{scoped, StmAt, Follows, run_on, block, for_loop, for_words, over_loop, over_code, over_words, turn_frame, turn_code}
use Rattle.hog_bridge.proofs.Callees.{pop_step}
use Rattle.hog_bridge.proofs.Blocks.{StmEnd, StmsEnd, PlainEnd, count_name, lets, after_frame, after_words, ArePops, pop_is, pops_after, name_pops, block_are_pops, stm_then, run_leave, plain, fits_local, let_runs, throw_runs, return_runs, test_step, goto_step, run_plain, more_goes}
use Rattle.hog_bridge.proofs.Assigns.{word_runs, item_runs, property_set_runs, define_runs}
use Rattle.hog_bridge.proofs.Loops.{plain_then, landing_of, guarded, fits_guarded, try_step, catch_ends, unguard, loop_test, loop_body, loop_back, loop_end, loop_again, tested_runs, while_again, for_again}
use Rattle.hog_bridge.proofs.Overs.{hidden, seats}
use Rattle.hog_bridge.proofs.Rounds.{over_runs, has_loop, has_stms, pb, pe, in_row}
use Rattle.hog_bridge.proofs.Copying.{copied_runs}
use Rattle.hog_bridge.proofs.Expressions.{one_end, exp_runs}

pub option_name_pops : (s : OptionStm) (frees : List Word) → ArePops (count_name (option_name_by s)) (option_name_pop s frees)
option_name_pops NoneStm frees = tt
option_name_pops (SomeStm s) frees = name_pops s frees

module _ (g : Given) (n d : ℕ) (again : Effect) (ih : Follows g again n) where
  -- a value that may be left out, and a condition
  pub value_runs : (x : OptionExp) (c : Ctx) (ρ : Env) (p q : ℕ) (L : List Seat) (G : Ghost) (w : World) → q ≡ p + span (value_code c.scope o.PushNull x) → HasAt g.code p (value_code c.scope o.PushNull x) → Sub (option_exp_frees true x) c.words → OptionExpOk c.sight x → Fits g n d c ρ L G w → Under q c.own → Run g n (landings c) (at c p L G w) G (ExpAt g n c q L) (optional g.fixed again d x ρ w)
  value_runs NoneExp c ρ p q L G w e has sub ok h u = null_runs g n d c p L G w q has.0 (ready_with has.0 (omega arith) u h.framed h.kept) (sym e)
  value_runs (SomeExp x) c ρ p q L G w e has sub ok h u = exp_runs g n d again ih x c ρ p q L G w e has sub ok h u

  pub condition_runs : (x : OptionExp) (c : Ctx) (ρ : Env) (p q : ℕ) (L : List Seat) (G : Ghost) (w : World) → q ≡ p + span (value_code c.scope o.PushTrue x) → HasAt g.code p (value_code c.scope o.PushTrue x) → Sub (option_exp_frees true x) c.words → OptionExpOk c.sight x → Fits g n d c ρ L G w → Under q c.own → Run g n (landings c) (at c p L G w) G (ExpAt g n c q L) (condition g.fixed again d x ρ w)
  condition_runs NoneExp c ρ p q L G w e has sub ok h u = true_runs g n d c p L G w q has.0 (ready_with has.0 (omega arith) u h.framed h.kept) (sym e)
  condition_runs (SomeExp x) c ρ p q L G w e has sub ok h u = exp_runs g n d again ih x c ρ p q L G w e has sub ok h u

  -- a block, from the run of its statements
  pub block_runs : (b : Stms) (c : Ctx) (ρ : Env) (p q : ℕ) (L : List Seat) (G : Ghost) (w : World) → q ≡ p + span (block c.scope b) → HasAt g.code p (block c.scope b) → Fits g n d c ρ L G w → length L ≡ c.base + length c.scope.locals → Run g n (landings c) (at c p L G w) G (StmsEnd g n d c (p + span (stms_code c.scope b)) b L) (effects g.fixed again d b ρ w) → Run g n (landings c) (at c p L G w) G (PlainEnd g n d c q L) (and_then (effects g.fixed again d b ρ w) (leave ρ))
  block_runs b c ρ p q L G w e has h full r =
      run_leave g n d q (block_pops b) h full (block_are_pops b) (has_back g.code p (stms_code c.scope b) (block_pops b) has) (omega (arith, e, span-after (stms_code c.scope b) (block_pops b))) r

  -- a turn of a `for` and those after it
  pub for_turn : (a : OptionExp) (s : OptionStm) (b : Stms) (c : Ctx) (ρ : Env) (p q : ℕ) (L : List Seat) (G : Ghost) (w : World) → q ≡ p + span (for_loop c.scope a s b) → HasAt g.code p (for_loop c.scope a s b) → Sub (for_words a s b) c.words → OptionExpOk c.sight a × OptionStmOk c.sight s × StmsOk c.sight b → Fits g n d c ρ L G w → length L ≡ c.base + length c.scope.locals → Under q c.own → ((w1 : World) (G1 : Ghost) (p1 : ℕ) → HasAt g.code p1 (block c.scope b) → p1 + span (block c.scope b) ≤ q → Fits g n d c ρ L G1 w1 → Run g n (landings c) (at c p1 L G1 w1) G1 (PlainEnd g n d c (p1 + span (block c.scope b)) L) (and_then (effects g.fixed again d b ρ w1) (leave ρ))) → ((ρ1 : Env) (w1 : World) (G1 : Ghost) (p1 : ℕ) → HasAt g.code p1 (option_stm_code c.scope s ⊕ option_name_pop s []) → p1 + span (option_stm_code c.scope s ⊕ option_name_pop s []) ≤ q → Fits g n d c ρ1 L G1 w1 → Run g n (landings c) (at c p1 L G1 w1) G1 (PlainEnd g n d c (p1 + span (option_stm_code c.scope s ⊕ option_name_pop s [])) L) (and_then (begin g.fixed again d s ρ1 w1) (leave ρ1))) → Run g n (landings c) (at c p L G w) G (PlainEnd g n d c q L) (run_for again d a s b (condition g.fixed again d a) (effects g.fixed again d b) (begin g.fixed again d s) ρ w)
  for_turn a s b c ρ p q L G w e has sub ok h full u blk stp =
      let C = value_code c.scope o.PushTrue a in
      let B = block c.scope b in
      let S = option_stm_code c.scope s ⊕ option_name_pop s [] in
      let X = B ⊕ S in
      let hx = loop_body g p C X has in
      let p1 = p + span C + 2 in
      let p2 = p1 + span B in
      let p3 = p2 + span S in
      let le = loop_end p q C X e in
      let sp = span-after B S in
      let row : p3 ≡ p + span C + 2 + span X = omega (arith, sp) in
      tested_runs g n d c ρ p q C X L G w e has (condition g.fixed again d a ρ w) _ _ h
      (condition_runs a c ρ p (p + span C) L G w refl (loop_test g p C X has) (sub_left (option_exp_frees true a) (option_stm_frees true s ++ stms_frees true b) sub) ok.0 h (under_less c.own (omega (arith, le)) u))
      (λ w1 G1 x1 h1.
      plain_then g n d (blk w1 G1 p1 (has_front g.code p1 B S hx) (omega (arith, le, sp)) h1)
      (λ ρ1 w2 G2 x2 h2.
      plain_then g n d (stp ρ1 w2 G2 p2 (has_back g.code p1 B S hx) (omega (arith, le, sp)) h2)
      (λ ρ2 w3 G3 x3 h3.
      for_again g n d again ih c ρ2 p q L G3 w3 h3 full u a s b p3 (span C + span X) (subst (λ z. slice_get g.code z ≡ Some (Begins (o.Jump (neg_ℤ (pos (span C + span X + 4)))))) (sym row) (loop_back g p C X has))
      (omega (arith, row)) (omega (arith, le, sp)) e has sub ok)))
      (λ w1 G1 x1 h1. plain g n d q (stays g _) refl h1 full)

  mutual
    pub stm_runs : (s : Stm) (c : Ctx) (ρ : Env) (p q : ℕ) (L : List Seat) (G : Ghost) (w : World) → q ≡ p + span (stm_code c.scope s) → HasAt g.code p (stm_code c.scope s) → Sub (stm_frees true s) c.words → StmOk c.sight s → Fits g n d c ρ L G w → length L ≡ c.base + length c.scope.locals → Under q c.own → Run g n (landings c) (at c p L G w) G (StmEnd g n d c q (name_by s) L) (effect g.fixed again d s ρ w)
    stm_runs (Let x a) c ρ p q L G w e has sub ok h full u =
        exp_then g n (value_runs a c ρ p q L G w e has sub ok h u)
        (λ v w1 G1 x1 k1. let_runs g n d c ρ q x L v G1 w1 (fits_on h x1 k1) full)
    stm_runs (Assign (t.Name x) a) c ρ p q L G w e has sub ok h full u =
        let ca = exp_code c.scope a in
        let op = write_op (find_local c.scope.locals x) (find_up c.scope.ups x) in
        let p1 = p + span ca in
        let end : p1 + size op ≡ q = one_end p q ca op e in
        exp_then g n (exp_runs g n d again ih a c ρ p p1 L G w refl (has_front g.code p ca (one op) has) (sub_right (x ∷ []) (exp_frees true a) sub) ok.1 h (under_less c.own (omega arith) u))
        (λ v w1 G1 x1 k1.
        let h1 = fits_on h x1 k1 in
        word_runs g n d c ρ p1 L G1 w1 h1 full (find_local c.scope.locals x) (find_up c.scope.ups x) (find_var ρ x) v q (h1.sees x (sub.all x (inl refl))) (has_back g.code p ca (one op) has).0 end u)
    stm_runs (Assign (t.Prop base x) a) c ρ p q L G w e has sub ok h full u =
        let cb = exp_code c.scope base in let ca = exp_code c.scope a in
        let p1 = p + span cb in let p2 = p1 + 2 in let p3 = p2 + span ca in
        let rest = MoreOp (o.Str x) (ca ⊕ one o.SetProperty) in
        let has1 = has_back g.code p cb rest has in
        let at_op = (has_back g.code p2 ca (one o.SetProperty) has1.2).0 in
        let end : p3 + 1 ≡ q = omega (arith, e, span-after cb rest, span-after ca (one o.SetProperty)) in
        exp_then g n (exp_runs g n d again ih base c ρ p p1 L G w refl (has_front g.code p cb rest has) (sub_left (exp_frees true base) (exp_frees true a) sub) ok.0 h (under_less c.own (omega arith) u))
        (λ b w1 G1 x1 k1.
        let h1 = fits_on h x1 k1 in
        let hb = fits_push b h1 in
        run_after g n (text_step g n d c ρ p1 (Temp b ∷ L) G1 w1 hb x q has1.0 (omega arith) u) (extends_same G1)
        (exp_then g n (exp_runs g n d again ih a c ρ p2 p3 _ G1 w1 refl (has_front g.code p2 ca (one o.SetProperty) has1.2) (sub_right (exp_frees true base) (exp_frees true a) sub) ok.1 (fits_push _ hb) (under_less c.own (omega arith) u))
        (λ v w2 G2 x2 k2. property_set_runs g n d c ρ p3 L G2 w2 (fits_on h1 x2 (kept_on L k2 k2.layout)) full b v x p1 q has1.0 at_op end u)))
    stm_runs (Assign (t.Index base key) a) c ρ p q L G w e has sub ok h full u =
        let cb = exp_code c.scope base in let ck = exp_code c.scope key in let ca = exp_code c.scope a in
        let p1 = p + span cb in let p2 = p1 + span ck in let p3 = p2 + span ca in
        let rest = ck ⊕ (ca ⊕ one o.SetProperty) in
        let has1 = has_back g.code p cb rest has in
        let has2 = has_back g.code p1 ck (ca ⊕ one o.SetProperty) has1 in
        let at_op = (has_back g.code p2 ca (one o.SetProperty) has2).0 in
        let sub0 = sub_left (exp_frees true base ++ exp_frees true key) (exp_frees true a) sub in
        let end : p3 + 1 ≡ q = omega (arith, e, span-after cb rest, span-after ck (ca ⊕ one o.SetProperty), span-after ca (one o.SetProperty)) in
        exp_then g n (exp_runs g n d again ih base c ρ p p1 L G w refl (has_front g.code p cb rest has) (sub_left (exp_frees true base) (exp_frees true key) sub0) ok.0.0 h (under_less c.own (omega arith) u))
        (λ b w1 G1 x1 k1.
        let h1 = fits_on h x1 k1 in
        exp_then g n (exp_runs g n d again ih key c ρ p1 p2 (Temp b ∷ L) G1 w1 refl (has_front g.code p1 ck (ca ⊕ one o.SetProperty) has1) (sub_right (exp_frees true base) (exp_frees true key) sub0) ok.0.1 (fits_push b h1) (under_less c.own (omega arith) u))
        (λ k w2 G2 x2 k2.
        let h2 = fits_on (fits_push b h1) x2 k2 in
        exp_then g n (exp_runs g n d again ih a c ρ p2 p3 (Temp k ∷ Temp b ∷ L) G2 w2 refl (has_front g.code p2 ca (one o.SetProperty) has2) (sub_right (exp_frees true base ++ exp_frees true key) (exp_frees true a) sub) ok.1 (fits_push k h2) (under_less c.own (omega arith) u))
        (λ v w3 G3 x3 k3. item_runs g n d c ρ p3 L G3 w3 (fits_on (fits_on h1 x2 (kept_on L k2 k2.layout)) x3 (kept_on L k3 k3.layout)) full b k v q at_op end u)))
    stm_runs (Assign x a) c ρ p q L G w e has sub ok h full u =
        let cx = exp_code c.scope x in let ca = exp_code c.scope a in
        let p1 = p + span cx in let p2 = p1 + span ca in
        let two = MoreOp o.Pop (one o.Pop) in
        let has1 = has_back g.code p cx (ca ⊕ two) has in
        let has2 = has_back g.code p1 ca two has1 in
        let end : p2 + 1 + 1 ≡ q = omega (arith, e, span-after cx (ca ⊕ two), span-after ca two) in
        exp_then g n (exp_runs g n d again ih x c ρ p p1 L G w refl (has_front g.code p cx (ca ⊕ two) has) (sub_left (exp_frees true x) (exp_frees true a) sub) ok.0 h (under_less c.own (omega arith) u))
        (λ b w1 G1 x1 k1.
        let h1 = fits_on h x1 k1 in
        exp_then g n (exp_runs g n d again ih a c ρ p1 p2 (Temp b ∷ L) G1 w1 refl (has_front g.code p1 ca two has1) (sub_right (exp_frees true x) (exp_frees true a) sub) ok.1 (fits_push b h1) (under_less c.own (omega arith) u))
        (λ v w2 G2 x2 k2.
        let h2 = fits_on (fits_push b h1) x2 k2 in
        let h3 = fits_on h1 x2 (kept_on L k2 k2.layout) in
        plain g n d q (comes_then g (pop_step g n d c ρ p2 (Temp b ∷ L) G2 w2 h2 v q has2.0 (omega arith) u) (pop_step g n d c ρ (p2 + 1) L G2 w2 h3 b q has2.2.0 (omega arith) u)) (ap (λ z. at c z L G2 w2) end) h3 full))
    stm_runs (Do a) c ρ p q L G w e has sub ok h full u =
        let ca = exp_code c.scope a in
        let p1 = p + span ca in
        let end : p1 + 1 ≡ q = one_end p q ca o.Pop e in
        exp_then g n (exp_runs g n d again ih a c ρ p p1 L G w refl (has_front g.code p ca (one o.Pop) has) sub ok h (under_less c.own (omega arith) u))
        (λ v w1 G1 x1 k1.
        let h1 = fits_on h x1 k1 in
        plain g n d q (pop_step g n d c ρ p1 L G1 w1 h1 v q (has_back g.code p ca (one o.Pop) has).0 (omega arith) u) (ap (λ z. at c z L G1 w1) end) h1 full)
    stm_runs (Return a) c ρ p q L G w e has sub ok h full u =
        let ca = value_code c.scope o.PushNull a in
        let p1 = p + span ca in
        let end : p1 + 1 ≡ q = one_end p q ca o.Return e in
        exp_then g n (value_runs a c ρ p p1 L G w refl (has_front g.code p ca (one o.Return) has) sub ok h (under_less c.own (omega arith) u))
        (λ v w1 G1 x1 k1. return_runs g n d p1 L v G1 w1 (has_back g.code p ca (one o.Return) has).0 (fits_on h x1 k1))
    stm_runs (Throw a) c ρ p q L G w e has sub ok h full u =
        let ca = exp_code c.scope a in
        let p1 = p + span ca in
        let end : p1 + 1 ≡ q = one_end p q ca o.Throw e in
        exp_then g n (exp_runs g n d again ih a c ρ p p1 L G w refl (has_front g.code p ca (one o.Throw) has) sub ok h (under_less c.own (omega arith) u))
        (λ v w1 G1 x1 k1. throw_runs g n d p1 q L v G1 w1 (has_back g.code p ca (one o.Throw) has).0 (omega arith) u (fits_on h x1 k1))
    stm_runs (If a b NoneStms) c ρ p q L G w e has sub ok h full u =
        let ca = exp_code c.scope a in
        let B = block c.scope b in
        let cb = stms_code c.scope b in
        let p1 = p + span ca in
        let rest = MoreOp (o.JumpIfFalse (pos (span B))) B in
        let has1 = has_back g.code p ca rest has in
        let end : p1 + 2 + span B ≡ q = omega (arith, e, span-after ca rest) in
        let sb = span-after cb (block_pops b) in
        exp_then g n (exp_runs g n d again ih a c ρ p p1 L G w refl (has_front g.code p ca rest has) (sub_left (exp_frees true a) (stms_frees true b ++ []) sub) ok.0 h (under_less c.own (omega arith) u))
        (λ v w1 G1 x1 k1.
        let h1 = fits_on h x1 k1 in
        run_after g n (test_step g n d c ρ p1 (span B) L v G1 w1 has1.0 h1) (extends_same G1)
        (elim (truth_of w1.heap v) as (λ z. Run g n (landings c) (at c (cond z (p1 + 2) (p1 + 2 + span B)) L G1 w1) G1 (PlainEnd g n d c q L) (and_then (cond z (effects g.fixed again d b ρ w1) (otherwise g.fixed again d NoneStms ρ w1)) (leave ρ))) [
          | true ↦ block_runs b c ρ (p1 + 2) q L G1 w1 (sym end) has1.2 h1 full (stms_runs b c ρ (p1 + 2) (p1 + 2 + span cb) L G1 w1 refl (has_front g.code (p1 + 2) cb (block_pops b) has1.2) (sub_left (stms_frees true b) [] (sub_right (exp_frees true a) (stms_frees true b ++ []) sub)) ok.1 h1 full (under_less c.own (omega (arith, sb)) u))
          | false ↦ plain g n d q (stays g _) (ap (λ z. at c z L G1 w1) end) h1 full
        ]))
    stm_runs (If a b (SomeStms b2)) c ρ p q L G w e has sub ok h full u =
        let ca = exp_code c.scope a in
        let B = block c.scope b in let B2 = block c.scope b2 in
        let cb = stms_code c.scope b in let cb2 = stms_code c.scope b2 in
        let p1 = p + span ca in
        let p2 = p1 + 2 + span B in
        let tail = MoreOp (o.Jump (pos (span B2))) B2 in
        let rest = MoreOp (o.JumpIfFalse (pos (span B + 2))) (B ⊕ tail) in
        let has1 = has_back g.code p ca rest has in
        let has2 = has_back g.code (p1 + 2) B tail has1.2 in
        let end : p2 + 2 + span B2 ≡ q = omega (arith, e, span-after ca rest, span-after B tail) in
        let there : p1 + 2 + (span B + 2) ≡ p2 + 2 = omega arith in
        let sb = span-after cb (block_pops b) in
        let sb2 = span-after cb2 (block_pops b2) in
        let sub1 = sub_right (exp_frees true a) (stms_frees true b ++ stms_frees true b2) sub in
        exp_then g n (exp_runs g n d again ih a c ρ p p1 L G w refl (has_front g.code p ca rest has) (sub_left (exp_frees true a) (stms_frees true b ++ stms_frees true b2) sub) ok.0 h (under_less c.own (omega arith) u))
        (λ v w1 G1 x1 k1.
        let h1 = fits_on h x1 k1 in
        let yes_run = run_plain g n d q (λ G2 w2. comes_to g (goto_step g n d c p2 (span B2) L G2 w2 has2.0) (ap (λ z. at c z L G2 w2) end))
        (block_runs b c ρ (p1 + 2) p2 L G1 w1 refl (has_front g.code (p1 + 2) B tail has1.2) h1 full (stms_runs b c ρ (p1 + 2) (p1 + 2 + span cb) L G1 w1 refl (has_front g.code (p1 + 2) cb (block_pops b) (has_front g.code (p1 + 2) B tail has1.2)) (sub_left (stms_frees true b) (stms_frees true b2) sub1) ok.1 h1 full (under_less c.own (omega (arith, sb, end)) u))) in
        let no_run = block_runs b2 c ρ (p2 + 2) q L G1 w1 (sym end) has2.2 h1 full (stms_runs b2 c ρ (p2 + 2) (p2 + 2 + span cb2) L G1 w1 refl (has_front g.code (p2 + 2) cb2 (block_pops b2) has2.2) (sub_right (stms_frees true b) (stms_frees true b2) sub1) ok.2 h1 full (under_less c.own (omega (arith, sb2, end)) u)) in
        run_after g n (test_step g n d c ρ p1 (span B + 2) L v G1 w1 has1.0 h1) (extends_same G1)
        (elim (truth_of w1.heap v) as (λ z. Run g n (landings c) (at c (cond z (p1 + 2) (p1 + 2 + (span B + 2))) L G1 w1) G1 (PlainEnd g n d c q L) (and_then (cond z (effects g.fixed again d b ρ w1) (otherwise g.fixed again d (SomeStms b2) ρ w1)) (leave ρ))) [
          | true ↦ yes_run
          | false ↦ subst (λ z. Run g n (landings c) (at c z L G1 w1) G1 (PlainEnd g n d c q L) (and_then (effects g.fixed again d b2 ρ w1) (leave ρ))) (sym there) no_run
        ]))
    stm_runs (While a b) c ρ p q L G w e has sub ok h full u =
        let C = exp_code c.scope a in
        let X = block c.scope b in
        let cb = stms_code c.scope b in
        let p1 = p + span C + 2 in
        let p2 = p1 + span X in
        let hx = loop_body g p C X has in
        let le = loop_end p q C X e in
        let sb = span-after cb (block_pops b) in
        tested_runs g n d c ρ p q C X L G w e has (value g.fixed again d a ρ w) _ _ h
        (exp_runs g n d again ih a c ρ p (p + span C) L G w refl (loop_test g p C X has) (sub_left (exp_frees true a) (stms_frees true b) sub) ok.0 h (under_less c.own (omega (arith, le)) u))
        (λ w1 G1 x1 h1.
        plain_then g n d (block_runs b c ρ p1 p2 L G1 w1 refl hx h1 full (stms_runs b c ρ p1 (p1 + span cb) L G1 w1 refl (has_front g.code p1 cb (block_pops b) hx) (sub_right (exp_frees true a) (stms_frees true b) sub) ok.1 h1 full (under_less c.own (omega (arith, le, sb)) u)))
        (λ ρ1 w2 G2 x2 h2. while_again g n d again ih c ρ1 p q L G2 w2 h2 full u a b p2 (span C + span X) (loop_back g p C X has) (loop_again p C X) (omega (arith, le)) e has sub ok))
        (λ w1 G1 x1 h1. plain g n d q (stays g _) refl h1 full)
    stm_runs (For a cd s b) c ρ p q L G w e has sub ok h full u =
        let name = option_name_by a in
        let inside = with_name name c.scope in
        let c1 = scoped c inside (with_word name c.words) (with_word name c.sight) in
        let A = option_stm_code c.scope a in
        let F = for_loop inside cd s b in
        let frees = option_exp_frees false cd ++ (option_stm_frees false s ++ stms_frees false b) in
        let PA = option_name_pop a frees in
        let p1 = p + span A in
        let p2 = p1 + span F in
        let has1 = has_back g.code p A (F ⊕ PA) has in
        let end : q ≡ p2 + span PA = omega (arith, e, span-after A (F ⊕ PA), span-after F PA) in
        let sub1 = sub_right (option_stm_frees true a) (without_name name (for_words cd s b)) sub in
        let sub2 : Sub (for_words cd s b) c1.words = sub_name name (for_words cd s b) sub1 in
        let zero_more : count_name name ≡ 0 + count_name name = omega arith in
        let cb = stms_code inside b in
        let sb = span-after cb (block_pops b) in
        let cs = option_stm_code inside s in
        let ss = span-after cs (option_name_pop s []) in
        let sw = sub_right (option_exp_frees true cd) (option_stm_frees true s ++ stms_frees true b) sub2 in
        run_leave g n d {k = 0 + count_name name} q PA h full (subst (λ z. ArePops z PA) zero_more (option_name_pops a frees)) (has_back g.code p1 F PA has1) end
        (stm_then g n d (option_stm_runs a c ρ p p1 L G w refl (has_front g.code p A (F ⊕ PA) has) (sub_left (option_stm_frees true a) (without_name name (for_words cd s b)) sub) ok.0 h full (under_less c.own (omega (arith, end)) u))
        (λ ρ1 w1 G1 s1 x1 gone.
        run_on g n (StmAt g n d c p2 inside (with_word name c.words) (with_word name c.sight) (0 + count_name name) L)
        (λ f w2 G2 s2 y. more_goes g n d c inside (with_word name c.words) (with_word name c.sight) p2 inside (with_word name c.words) (with_word name c.sight) 0 (count_name name) gone.new L gone.many f w2 G2 s2 y)
        (for_turn cd s b c1 ρ1 p1 p2 (gone.new ++ L) G1 w1 refl (has_front g.code p1 F PA has1) sub2 (ok.1, ok.2, ok.3) gone.fits gone.full (under_less c.own (omega (arith, end)) u)
        (λ w2 G2 pp hasb le h2. block_runs b c1 ρ1 pp (pp + span (block inside b)) (gone.new ++ L) G2 w2 refl hasb h2 gone.full (stms_runs b c1 ρ1 pp (pp + span cb) (gone.new ++ L) G2 w2 refl (has_front g.code pp cb (block_pops b) hasb) (sub_right (option_stm_frees true s) (stms_frees true b) sw) ok.3 h2 gone.full (under_less c.own (omega (arith, le, sb, end)) u)))
        (λ ρ2 w2 G2 pp hass le h2. run_leave g n d (pp + span (cs ⊕ option_name_pop s [])) (option_name_pop s []) h2 gone.full (option_name_pops s []) (has_back g.code pp cs (option_name_pop s []) hass) (omega (arith, ss)) (option_stm_runs s c1 ρ2 pp (pp + span cs) (gone.new ++ L) G2 w2 refl (has_front g.code pp cs (option_name_pop s []) hass) (sub_left (option_stm_frees true s) (stms_frees true b) sw) ok.2 h2 gone.full (under_less c.own (omega (arith, le, ss, end)) u))))))
    stm_runs (ForIn k x a b) c ρ p q L G w e has sub ok h full u =
        let ca = exp_code c.scope a in
        let first = length c.scope.locals in
        let H = hidden_code k first in
        let O = over_code k x c.scope b in
        let p1 = p + span ca in
        let p2 = p1 + span H in
        let has1 = has_back g.code p ca (H ⊕ O) has in
        let has2 = has_back g.code p1 H O has1 in
        let end : q ≡ p2 + span O = omega (arith, e, span-after ca (H ⊕ O), span-after H O) in
        let sub2 = sub_right (exp_frees true a) (over_words k x b) sub in
        exp_then g n (exp_runs g n d again ih a c ρ p p1 L G w refl (has_front g.code p ca (H ⊕ O) has) (sub_left (exp_frees true a) (over_words k x b) sub) ok.0 h (under_less c.own (omega (arith, end)) u))
        (λ v w1 G1 x1 k1.
        let h1 = fits_on h x1 k1 in
        copied_runs g n d c ρ L v full k x p1 p2 G1 w1 (λ copies w2. run_over again d copies (pos 1) b (λ ρ1 w3. effects g.fixed again d b ρ1 w3) ρ w2) (has_front g.code p1 H O has1) refl (under_less c.own (omega (arith, end)) u) h1
        (λ keys values count w2 G2 small x2 h2.
        let hl = has_loop g n d again ih c L full k x keys values (pos count) v b p2 q end has2 sub2 ok.1 u in
        let row = in_row g c k x b p2 hl in
        over_runs g n d again ih c L full k x keys values (pos count) v b p2 q end has2 sub2 ok.1 u ρ 1 G2 w2 count refl small h2 (λ ρ1 w3. effects g.fixed again d b ρ1 w3)
        (λ ρ1 G3 w3 N fits fullN.
        stms_runs b (scoped (hidden k c) (turn_frame k x c.scope) (x ∷ with_word k c.words) (x ∷ with_word k c.sight)) ρ1 (pb g c k x b p2 hl) (pe g c k x b p2 hl) (N ++ seats k keys values (pos count) v (pos 1) L) G3 w3 refl (has_stms g c k x b p2 hl)
        (sub_past x (stms_frees true b) (sub_name k (without x (stms_frees true b)) sub2)) ok.1 fits fullN (under_less c.own (omega (arith, end, row, loop_end p2 (p2 + span (over_loop k x c.scope b)) (more_code (first + key_count k + 2) (first + key_count k + 3)) (turn_code k x c.scope b) refl, span-after (over_loop k x c.scope b) (pops (4 + key_count k)))) u))))
    stm_runs (Fun f ps b) c ρ p q L G w e has sub ok h full u =
        define_runs g n d c ρ p q f L ps b G w (has.0, has.1, omega (arith, e), omega (arith, e)) sub ok h full u
    stm_runs (Try b x hb) c ρ p q L G w e has sub ok h full u =
        let fr2 = with_local (Some x) c.scope in
        let cb = stms_code c.scope b in let B = block c.scope b in
        let ch = stms_code fr2 hb in
        let PH = block_pops hb in
        let PX = one (pop_op x (stms_frees false hb)) in
        let H = (ch ⊕ PH) ⊕ PX in
        let tail = MoreOp o.PopTry (MoreOp (o.Jump (pos (span H))) H) in
        let p1 = p + 2 in
        let p2 = p1 + span B in
        let target = p + 2 + (span B + 3) in
        let l = landing_of c target L in
        let hasB = has_front g.code p1 B tail has.2 in
        let hasT = has_back g.code p1 B tail has.2 in
        let e1 : p2 + 1 + 2 ≡ target = omega arith in
        let sH = span-after (ch ⊕ PH) PX in
        let sh = span-after ch PH in
        let sb = span-after cb (block_pops b) in
        let e2 : p2 + 3 + span H ≡ q = omega (arith, e, span-after B tail) in
        let hasH : HasAt g.code target H = subst (λ z. HasAt g.code z H) e1 hasT.2.2 in
        let hasC = has_front g.code target ch PH (has_front g.code target (ch ⊕ PH) PX hasH) in
        let pc = target + span ch in
        let hasP : HasAt g.code pc (PH ⊕ PX) =
        has_join g.code pc PH PX (has_back g.code target ch PH (has_front g.code target (ch ⊕ PH) PX hasH))
        (subst (λ z. HasAt g.code z PX) (omega (arith, sh)) (has_back g.code target (ch ⊕ PH) PX hasH)) in
        let h1 = fits_guarded g n d c ρ target L G w h in
        let r = block_runs b (guarded c l) ρ p1 p2 L G w refl hasB h1 full (stms_runs b (guarded c l) ρ p1 (p1 + span cb) L G w refl (has_front g.code p1 cb (block_pops b) hasB) (sub_left (stms_frees true b) (without x (stms_frees true hb)) sub) ok.0 h1 full (omega (arith, sb))) in
        run_after g n (try_step g n d c ρ p (span B + 3) L G w has.0 h) (extends_same G)
        (catch_ends g n d c target p2 q L (at (guarded c l) p1 L G w) G (and_then (effects g.fixed again d b ρ w) (leave ρ)) _ r.ends
        (unguard g n d c ρ target p2 (span H) q L G w h full hasT.0 hasT.2.0 e2)
        (λ v w1 G1 x1 k1.
        let h2 = fits_on h x1 k1 in
        let var = length w1.store in
        let w2 = declare v w1 in
        let h3 = fits_local g n d x v h2 full in
        let full3 : length (Var var ∷ L) ≡ c.base + length fr2.locals = omega (arith, full) in
        let is : at c target (Temp v ∷ L) G1 w1 ≡ at c target (Var var ∷ L) G1 w2 = becomes (frame target c.base c.function ∷ c.frames) (landings c) [] v L G1 w1 k1.layout k1.owners in
        let r2 = stms_runs hb (scoped c fr2 (x ∷ c.words) (x ∷ c.sight)) (named x w1 ρ) target pc (Var var ∷ L) G1 w2 refl hasC (sub_past x (stms_frees true hb) (sub_right (stms_frees true b) (without x (stms_frees true hb)) sub)) ok.1 h3 full3 (under_less c.own (omega (arith, e2, sH, sh)) u) in
        let r3 = run_on g n (StmAt g n d c pc (after_frame hb fr2) (after_words hb (x ∷ c.words)) (after_words hb (x ∷ c.sight)) (lets hb + 1) L)
        (λ f w3 G3 s3 y. more_goes g n d c fr2 (x ∷ c.words) (x ∷ c.sight) pc (after_frame hb fr2) (after_words hb (x ∷ c.words)) (after_words hb (x ∷ c.sight)) (lets hb) 1 (Var var ∷ []) L refl f w3 G3 s3 y) r2 in
        run_after g n (at_once g is) (extends_same G1)
        (run_leave g n d q (PH ⊕ PX) h2 full (pops_after (lets hb) 1 PH PX (block_are_pops hb) (pop_is x (stms_frees false hb), tt)) hasP (omega (arith, e2, sH, sh, span-after PH PX)) r3)))
    stm_runs (Block b) c ρ p q L G w e has sub ok h full u =
        let cb = stms_code c.scope b in
        let sb = span-after cb (block_pops b) in
        block_runs b c ρ p q L G w e has h full (stms_runs b c ρ p (p + span cb) L G w refl (has_front g.code p cb (block_pops b) has) sub ok h full (under_less c.own (omega (arith, sb)) u))

    pub stms_runs : (ss : Stms) (c : Ctx) (ρ : Env) (p q : ℕ) (L : List Seat) (G : Ghost) (w : World) → q ≡ p + span (stms_code c.scope ss) → HasAt g.code p (stms_code c.scope ss) → Sub (stms_frees true ss) c.words → StmsOk c.sight ss → Fits g n d c ρ L G w → length L ≡ c.base + length c.scope.locals → Under q c.own → Run g n (landings c) (at c p L G w) G (StmsEnd g n d c q ss L) (effects g.fixed again d ss ρ w)
    stms_runs Done c ρ p q L G w e has sub ok h full u =
        plain g n d q (stays g _) (ap (λ z. at c z L G w) (omega arith)) h full
    stms_runs (Then s ss) c ρ p q L G w e has sub ok h full u =
        let name = name_by s in
        let fr1 = with_name name c.scope in
        let cs = stm_code c.scope s in let cr = stms_code fr1 ss in
        let p1 = p + span cs in
        let end : q ≡ p1 + span cr = omega (arith, e, span-after cs cr) in
        let ws1 = with_word name c.words in let V1 = with_word name c.sight in
        stm_then g n d (stm_runs s c ρ p p1 L G w refl (has_front g.code p cs cr has) (sub_left (stm_frees true s) (without_name name (stms_frees true ss)) sub) ok.0 h full (under_less c.own (omega (arith, end)) u))
        (λ ρ1 w1 G1 s1 x1 gone.
        run_on g n (StmsEnd g n d c q (Then s ss) L)
        (λ f w2 G2 s2 y. more_goes g n d c fr1 ws1 V1 q (after_frame ss fr1) (after_words ss ws1) (after_words ss V1) (lets ss) (count_name name) gone.new L gone.many f w2 G2 s2 y)
        (stms_runs ss (scoped c fr1 ws1 V1) ρ1 p1 q (gone.new ++ L) G1 w1 end (has_back g.code p cs cr has) (sub_name name (stms_frees true ss) (sub_right (stm_frees true s) (without_name name (stms_frees true ss)) sub)) ok.1 gone.fits gone.full u))

    pub option_stm_runs : (s : OptionStm) (c : Ctx) (ρ : Env) (p q : ℕ) (L : List Seat) (G : Ghost) (w : World) → q ≡ p + span (option_stm_code c.scope s) → HasAt g.code p (option_stm_code c.scope s) → Sub (option_stm_frees true s) c.words → OptionStmOk c.sight s → Fits g n d c ρ L G w → length L ≡ c.base + length c.scope.locals → Under q c.own → Run g n (landings c) (at c p L G w) G (StmEnd g n d c q (option_name_by s) L) (begin g.fixed again d s ρ w)
    option_stm_runs NoneStm c ρ p q L G w e has sub ok h full u = plain g n d q (stays g _) (ap (λ z. at c z L G w) (omega arith)) h full
    option_stm_runs (SomeStm s) c ρ p q L G w e has sub ok h full u = stm_runs s c ρ p q L G w e has sub ok h full u
