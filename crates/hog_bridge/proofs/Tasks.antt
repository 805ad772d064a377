-- What costs a turn: with any number of turns, the machine follows the meaning.
use Rattle.std.proofs.Common.{◌≡◌, ℕ, zero, suc, ◌+◌, ◌≤◌, ℤ, pos, List, [], ◌∷◌, ◌++◌, length, true, refl, sym, subst, arith}
use Rattle.hog_value.specs.Values.{Val}
use Rattle.hog_tree.specs.Plain.{Word, Stms, Body, OneExp, ManyStms, OptionExp, OptionStm, While}
use Rattle.hog_captures.specs.Frees.{stms_frees, body_frees, option_exp_frees, option_stm_frees, without}
use Rattle.hog_captures.specs.Frames as names
use Rattle.hog_compiler.specs.Pieces.{one, key_count, more_code, pops, return_null}
use Rattle.hog_compiler.specs.Code.{exp_code, stms_code, block_pops, body_code, option_stm_code, option_name_pop}
use Rattle.hog_meaning.specs.World.{Env, World, Gives, Flow, GoesOn, Returns}
use Rattle.hog_meaning.specs.Meaning.{Effect, Copies, effects, begin, condition, run_for, run_over, fall, body_effect, effect_at}
use Rattle.hog_ops.specs.Plain as o
use Rattle.hog_ops.specs.Plain.{Ops, NoOp, MoreOp, ◌⊕◌}
use Rattle.hog_ops.specs.Table.{span}
use Rattle.vm_course.specs.State.{State}
use Rattle.hog_bridge.proofs.Words.{Sub, sub_left, sub_right, sub_past, sub_name, with_word}
use Rattle.hog_bridge.proofs.Resolved.{BodyOk, StmsOk, OptionExpOk, OptionStmOk}
use Rattle.hog_bridge.proofs.Places.{Seat}
use Rattle.hog_bridge.proofs.Ahead.{HasAt, has_front, has_back, span-after}
use Rattle.hog_bridge.proofs.Picture.{Given, Ghost, at_once, stays, Under, under_less, Ctx, landings, at, Fits, extends_same, Run, run_after, run_then, gives}
use Rattle.hog_bridge.proofs.Exps.{exp_then, fits_on}
use Rattle.hog_bridge.proofs.Lookups.{null_runs}
use Rattle.hog_bridge.proofs.Operators.{ready_with}
use Rattle.hog_bridge.proofs.Follow.{scoped, StmAt, BodyAt, Follows, block, for_loop, for_words, over_loop, over_code, over_words, hidden_seats, turn_frame, turn_code, InRange}
use Rattle.hog_bridge.proofs.Blocks.{PlainEnd, after_frame, after_words, lets, run_leave, return_reaches}
use Rattle.hog_bridge.proofs.Loops.{loop_end}
use Rattle.hog_bridge.proofs.Overs.{hidden, seats}
use Rattle.hog_bridge.proofs.Rounds.{over_runs, has_loop, has_stms, pb, pe, in_row}
use Rattle.hog_bridge.proofs.Expressions.{exp_runs}
use Rattle.hog_bridge.proofs.Statements.{option_name_pops, block_runs, for_turn, stm_runs, stms_runs, option_stm_runs}

pub less : {g : Given} {again : Effect} (i n : ℕ) → i ≤ n → Follows g again n → Follows g again i
less i n le f = record {
  loop = λ j lt. f.loop j (omega arith);
  stepped = λ j lt. f.stepped j (omega arith);
  over = λ j lt. f.over j (omega arith);
  body = λ j lt. f.body j (omega arith);
}

module _ (g : Given) (n d : ℕ) (again : Effect) (f : Follows g again n) where
  pub stepped_runs : (a : OptionExp) (s : OptionStm) (b : Stms) (c : Ctx) (ρ : Env) (p q : ℕ) (L : List Seat) (G : Ghost) (w : World) → q ≡ p + span (for_loop c.scope a s b) → HasAt g.code p (for_loop c.scope a s b) → Sub (for_words a s b) c.words → OptionExpOk c.sight a × OptionStmOk c.sight s × StmsOk c.sight b → Fits g n d c ρ L G w → length L ≡ c.base + length c.scope.locals → Under q c.own → Run g n (landings c) (at c p L G w) G (PlainEnd g n d c q L) (run_for again d a s b (condition g.fixed again d a) (effects g.fixed again d b) (begin g.fixed again d s) ρ w)
  stepped_runs a s b c ρ p q L G w e has sub ok h full u =
      let cb = stms_code c.scope b in
      let sb = span-after cb (block_pops b) in
      let cs = option_stm_code c.scope s in
      let ss = span-after cs (option_name_pop s []) in
      let sw = sub_right (option_exp_frees true a) (option_stm_frees true s ++ stms_frees true b) sub in
      for_turn g n d again f a s b c ρ p q L G w e has sub ok h full u
      (λ w2 G2 pp hasb le h2. block_runs g n d again f b c ρ pp (pp + span (block c.scope b)) L G2 w2 refl hasb h2 full (stms_runs g n d again f b c ρ pp (pp + span cb) L G2 w2 refl (has_front g.code pp cb (block_pops b) hasb) (sub_right (option_stm_frees true s) (stms_frees true b) sw) ok.2 h2 full (under_less c.own (omega (arith, le, sb)) u)))
      (λ ρ2 w2 G2 pp hass le h2. run_leave g n d (pp + span (cs ⊕ option_name_pop s [])) (option_name_pop s []) h2 full (option_name_pops s []) (has_back g.code pp cs (option_name_pop s []) hass) (omega (arith, ss)) (option_stm_runs g n d again f s c ρ2 pp (pp + span cs) L G2 w2 refl (has_front g.code pp cs (option_name_pop s []) hass) (sub_left (option_stm_frees true s) (stms_frees true b) sw) ok.1 h2 full (under_less c.own (omega (arith, le, ss)) u)))

  pub over_task_runs : (copies : Copies) (index : ℤ) (v : Val) (b : Stms) (c : Ctx) (ρ : Env) (p q : ℕ) (L : List Seat) (G : Ghost) (w : World) → q ≡ p + span (over_code copies.key copies.value c.scope b) → HasAt g.code p (over_code copies.key copies.value c.scope b) → Sub (over_words copies.key copies.value b) c.words → StmsOk (copies.value ∷ with_word copies.key c.sight) b → Fits g n d c ρ L G w → length L ≡ c.base + length c.scope.locals → InRange copies.size index → Under q c.own → Run g n (landings c) (at c p (hidden_seats copies v index L) G w) G (PlainEnd g n d c q L) (run_over again d copies index b (λ ρ1 w1. effects g.fixed again d b ρ1 w1) ρ w)
  over_task_runs copies index v b c ρ p q L G w e has sub ok h full range u =
      let k = copies.key in let x = copies.value in
      let first = length c.scope.locals in
      let hl = has_loop g n d again f c L full k x copies.keys copies.values copies.size v b p q e has sub ok u in
      let row = in_row g c k x b p hl in
      subst (λ z. Run g n (landings c) (at c p (hidden_seats copies v z L) G w) G (PlainEnd g n d c q L) (run_over again d copies z b (λ ρ1 w1. effects g.fixed again d b ρ1 w1) ρ w)) (sym range.index_is)
      (over_runs g n d again f c L full k x copies.keys copies.values copies.size v b p q e has sub ok u ρ range.index G w range.count range.size_is range.small h (λ ρ1 w3. effects g.fixed again d b ρ1 w3)
      (λ ρ1 G3 w3 N fits fullN.
      stms_runs g n d again f b (scoped (hidden k c) (turn_frame k x c.scope) (x ∷ with_word k c.words) (x ∷ with_word k c.sight)) ρ1 (pb g c k x b p hl) (pe g c k x b p hl) (N ++ seats k copies.keys copies.values copies.size v (pos range.index) L) G3 w3 refl (has_stms g c k x b p hl)
      (sub_past x (stms_frees true b) (sub_name k (without x (stms_frees true b)) sub)) ok fits fullN
      (under_less c.own (omega (arith, e, row, loop_end p (p + span (over_loop k x c.scope b)) (more_code (first + key_count k + 2) (first + key_count k + 3)) (turn_code k x c.scope b) refl, span-after (over_loop k x c.scope b) (pops (4 + key_count k)))) u)))

  -- a body that falls off its end gives null
  fall_goes : (c : Ctx) (p1 k : ℕ) (fr : names.Frame) (ws V : List Word) (L : List Seat) → HasAt g.code p1 return_null → Under (p1 + 2) c.own → (flow : Flow) (w : World) (G1 : Ghost) (s1 : State) → StmAt g n d c p1 fr ws V k L flow w G1 s1 → Run g n (landings c) s1 G1 (BodyAt g n c) (fall flow w)
  fall_goes c p1 k fr ws V L has u (GoesOn ρ) w G1 s1 p =
      let M = p.new ++ L in
      let c1 = scoped c fr ws V in
      let h = p.fits in
      run_after g n (at_once g p.is) (extends_same G1)
      (exp_then g n {c = c1} {go = λ v w1. Gives (Returns v) w1} (null_runs g n d c1 p1 M G1 w (p1 + 1) has.0 (ready_with has.0 (omega arith) u h.framed h.kept) refl)
      (λ v w1 G2 x2 k2. record { ends = return_reaches g n d c1 ρ (p1 + 1) M v G2 w1 has.2.0 (fits_on h x2 k2) }))
  fall_goes c p1 k fr ws V L has u (Returns v) w G1 s1 p = gives g n (stays g s1) p

  pub body_runs : (b : Body) (c : Ctx) (ρ : Env) (p : ℕ) (L : List Seat) (G : Ghost) (w : World) → HasAt g.code p (body_code c.scope b) → Sub (body_frees b) c.words → BodyOk c.sight b → Fits g n d c ρ L G w → length L ≡ c.base + length c.scope.locals → Under (p + span (body_code c.scope b)) c.own → Run g n (landings c) (at c p L G w) G (BodyAt g n c) (body_effect g.fixed again d b ρ w)
  body_runs (OneExp x) c ρ p L G w has sub ok h full u =
      let cx = exp_code c.scope x in
      let p1 = p + span cx in
      exp_then g n (exp_runs g n d again f x c ρ p p1 L G w refl (has_front g.code p cx (one o.Return) has) sub ok h (under_less c.own (omega (arith, span-after cx (one o.Return))) u))
      (λ v w1 G1 x1 k1. record { ends = return_reaches g n d c ρ p1 L v G1 w1 (has_back g.code p cx (one o.Return) has).0 (fits_on h x1 k1) })
  body_runs (ManyStms ss) c ρ p L G w has sub ok h full u =
      let cs = stms_code c.scope ss in
      let p1 = p + span cs in
      let e = span-after cs return_null in
      run_then g n (stms_runs g n d again f ss c ρ p p1 L G w refl (has_front g.code p cs return_null has) sub ok h full (under_less c.own (omega (arith, e)) u))
      (λ flow w1 G1 s1 x1 r. fall_goes c p1 (lets ss) (after_frame ss c.scope) (after_words ss c.words) (after_words ss c.sight) L (has_back g.code p cs return_null has) (under_less c.own (omega (arith, e)) u) flow w1 G1 s1 r)

pub follows_at : (g : Given) (k : ℕ) → Follows g (effect_at g.fixed k) k
follows_at g zero = record { loop = λ i lt. absurd (omega arith); stepped = λ i lt. absurd (omega arith); over = λ i lt. absurd (omega arith); body = λ i lt. absurd (omega arith) }
follows_at g (suc m) = record {
  loop = λ i lt d a b c ρ p q L G w e has sub ok h full u. stm_runs g i d (effect_at g.fixed m) (less i m (omega arith) (follows_at g m)) (While a b) c ρ p q L G w e has sub ok h full u;
  stepped = λ i lt d a s b c ρ p q L G w e has sub ok h full u. stepped_runs g i d (effect_at g.fixed m) (less i m (omega arith) (follows_at g m)) a s b c ρ p q L G w e has sub ok h full u;
  over = λ i lt d copies index v b c ρ p q L G w e has sub ok h full range u. over_task_runs g i d (effect_at g.fixed m) (less i m (omega arith) (follows_at g m)) copies index v b c ρ p q L G w e has sub ok h full range u;
  body = λ i lt d b c ρ p L G w has sub ok h full u. body_runs g i d (effect_at g.fixed m) (less i m (omega arith) (follows_at g m)) b c ρ p L G w has sub ok h full u;
}
