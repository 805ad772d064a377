-- The turns of a loop over values, to its end.
use Rattle.std.proofs.Common.{◌≡◌, ℕ, ◌+◌, ◌-◌, ◌≤◌, ℤ, pos, ◌+ℤ◌, List, ◌∷◌, ◌++◌, length, Option, Some, None, Bool, true, false, cond, Ok, refl, sym, ap, subst, arith}
use Rattle.std.specs.Prelude.{int_le, nat_le}
use Rattle.std.proofs.lemmas.Bool.Decides.{nat_tests}
use Rattle.hog_value.specs.Values.{Val}
use Rattle.hog_value.specs.declared.value.Value.TheVariants.{Bool as Truth, Int}
use Rattle.hog_value.specs.Meters.{max_units}
use Rattle.hog_value.specs.Operations.{truth_of}
use Rattle.hog_tree.specs.declared.tree.BinaryOp.TheVariants as binary
use Rattle.hog_tree.specs.Plain.{Word, Stms}
use Rattle.hog_captures.specs.Frees.{stms_frees}
use Rattle.hog_captures.specs.Frames as names
use Rattle.hog_captures.specs.Frames.{find_local, find_up, with_local, with_name, with_hidden}
use Rattle.hog_compiler.specs.Pieces.{key_count, key_code, item_code, more_code, next_code, key_pop, pop_op, pops}
use Rattle.hog_compiler.specs.Code.{stms_code, block_pops}
use Rattle.hog_meaning.specs.Operators.{operated}
use Rattle.hog_meaning.specs.World.{Env, World, Got, Gives, Throws, Waits, Spends, and_then, Flow, GoesOn, Returns, declare, named}
use Rattle.hog_meaning.specs.World as m
use Rattle.hog_meaning.specs.Meaning.{Effect, Copies, LoopOver, leave, on_flow, bind_item, run_over}
use Rattle.hog_ops.specs.Plain.{Ops, MoreOp, ◌⊕◌}
use Rattle.hog_ops.specs.Table.{span}
use Rattle.hog_bridge.proofs.Words.{Sub, with_word}
use Rattle.hog_bridge.proofs.Resolved.{StmsOk}
use Rattle.hog_bridge.proofs.Places.{Seat, Temp, Distinct, seat_push}
use Rattle.hog_bridge.proofs.Ahead.{HasAt, has_front, has_back, has_join, span-after}
use Rattle.hog_bridge.proofs.Picture.{Given, Ghost, Comes, comes_then, comes_to, Under, under_less, Ctx, landings, at, Fits, extends_same, Run, run_after}
use Rattle.hog_bridge.proofs.Steps.{kept_on, fits_push}
use Rattle.hog_bridge.proofs.Exps.{fits_on}
use Rattle.hog_bridge.proofs.Operators.{get_step, integer_step, plus_step, at_most_step}
use Rattle.hog_bridge.proofs.Follow.{scoped, StmAt, Follows, run_more, run_on, stm_more, framed_scope, turn_frame, turn_code, over_loop, over_code, over_words, key_seats}
use Rattle.hog_bridge.proofs.Blocks.{StmsEnd, PlainEnd, count_name, lets, after_frame, after_words, ArePops, pop_is, pops_after, hidden_pops, block_are_pops, pops_run, plain, stm_then, more_goes, test_step}
use Rattle.hog_bridge.proofs.Loops.{back_runs, fits_turn, loop_test, loop_jump, loop_body, loop_back, loop_end, loop_again}
use Rattle.hog_bridge.proofs.Copied.{at_most_is, next_is}
use Rattle.hog_bridge.proofs.Overs.{hidden, seats, fits_hidden, seat_list, seats_are, length-list, set_top, leave_then, index_seat, size_seat, index_length, bind_runs}

key_pops : (k : Option Word) (frees : List Word) → ArePops (count_name k) (key_pop k frees)
key_pops None frees = tt
key_pops (Some x) frees = (pop_is x frees, tt)

-- where the parts of a turn stand
module _ (g : Given) (c : Ctx) (k : Option Word) (x : Word) (b : Stms) (p : ℕ) (has : HasAt g.code p (over_loop k x c.scope b)) where
  abbrev pub K : ℕ
  K = length c.scope.locals + key_count k

  abbrev pub tf : names.Frame
  tf = turn_frame k x c.scope

  abbrev pub C : Ops
  C = more_code (K + 2) (K + 3)

  abbrev pub X : Ops
  X = turn_code k x c.scope b

  abbrev pub KC : Ops
  KC = key_code k K (K + 3)

  abbrev pub IC : Ops
  IC = item_code (K + 1) (K + 3)

  abbrev pub NC : Ops
  NC = next_code (K + 3)

  abbrev pub PK : Ops
  PK = MoreOp (pop_op x (stms_frees false b)) (key_pop k (stms_frees false b))

  abbrev pub BP : Ops
  BP = block_pops b

  abbrev pub BC : Ops
  BC = stms_code tf b

  abbrev pub pk : ℕ
  pk = p + span C + 2

  abbrev pub pi : ℕ
  pi = pk + span KC

  abbrev pub pb : ℕ
  pb = pi + span IC

  abbrev pub pe : ℕ
  pe = pb + span BC

  abbrev pub pn : ℕ
  pn = pe + span (BP ⊕ PK)

  has_x : HasAt g.code pk X
  has_x = loop_body g p C X has

  has_rest : HasAt g.code pi (IC ⊕ ((BC ⊕ BP) ⊕ (PK ⊕ NC)))
  has_rest = has_back g.code pk KC (IC ⊕ ((BC ⊕ BP) ⊕ (PK ⊕ NC))) has_x

  pub has_key : HasAt g.code pk KC
  has_key = has_front g.code pk KC (IC ⊕ ((BC ⊕ BP) ⊕ (PK ⊕ NC))) has_x

  pub has_item : HasAt g.code pi IC
  has_item = has_front g.code pi IC ((BC ⊕ BP) ⊕ (PK ⊕ NC)) has_rest

  has_block : HasAt g.code pb ((BC ⊕ BP) ⊕ (PK ⊕ NC))
  has_block = has_back g.code pi IC ((BC ⊕ BP) ⊕ (PK ⊕ NC)) has_rest

  pub has_stms : HasAt g.code pb BC
  has_stms = has_front g.code pb BC BP (has_front g.code pb (BC ⊕ BP) (PK ⊕ NC) has_block)

  has_last : HasAt g.code (pb + span (BC ⊕ BP)) (PK ⊕ NC)
  has_last = has_back g.code pb (BC ⊕ BP) (PK ⊕ NC) has_block

  pub has_pops : HasAt g.code pe (BP ⊕ PK)
  has_pops =
      let e : pb + span (BC ⊕ BP) ≡ pe + span BP = omega (arith, span-after BC BP) in
      has_join g.code pe BP PK (has_back g.code pb BC BP (has_front g.code pb (BC ⊕ BP) (PK ⊕ NC) has_block))
      (subst (λ z. HasAt g.code z PK) e (has_front g.code (pb + span (BC ⊕ BP)) PK NC has_last))

  pub has_next : HasAt g.code pn NC
  has_next =
      let e : pb + span (BC ⊕ BP) + span PK ≡ pn = omega (arith, span-after BC BP, span-after BP PK) in
      subst (λ z. HasAt g.code z NC) e (has_back g.code (pb + span (BC ⊕ BP)) PK NC has_last)

  -- the places in a row
  pub in_row : pn + 7 ≡ p + span C + 2 + span X
  in_row = omega (arith, span-after KC (IC ⊕ ((BC ⊕ BP) ⊕ (PK ⊕ NC))), span-after IC ((BC ⊕ BP) ⊕ (PK ⊕ NC)), span-after (BC ⊕ BP) (PK ⊕ NC), span-after PK NC, span-after BC BP, span-after BP PK)

module _ (g : Given) (n d : ℕ) (again : Effect) (ih : Follows g again n) (c : Ctx) (L : List Seat) (full : length L ≡ c.base + length c.scope.locals) (k : Option Word) (x : Word) (keys values : Val) (size : ℤ) (v : Val) (b : Stms) (p q : ℕ) (e : q ≡ p + span (over_code k x c.scope b)) (has : HasAt g.code p (over_code k x c.scope b)) (sub : Sub (over_words k x b) c.words) (ok : StmsOk (x ∷ with_word k c.sight) b) (u : Under q c.own) where
  abbrev copies : Copies
  copies = record { key = k; value = x; keys = keys; values = values; size = size }

  abbrev K1 : ℕ
  K1 = length c.scope.locals + key_count k

  abbrev ch : Ctx
  ch = hidden k c

  abbrev X1 : Ops
  X1 = turn_code k x c.scope b

  abbrev C1 : Ops
  C1 = more_code (K1 + 2) (K1 + 3)

  abbrev PS : Ops
  PS = pops (4 + key_count k)

  pub has_loop : HasAt g.code p (over_loop k x c.scope b)
  has_loop = has_front g.code p (over_loop k x c.scope b) PS has

  ends_at : q ≡ p + span (over_loop k x c.scope b) + span PS
  ends_at = omega (arith, e, span-after (over_loop k x c.scope b) PS)

  loop_ends : p + span C1 + 2 + (span X1 + 2) ≡ p + span (over_loop k x c.scope b)
  loop_ends = loop_end p (p + span (over_loop k x c.scope b)) C1 X1 refl

  -- the index is one more, and back
  next_runs : (ρ : Env) (j : ℕ) (count : ℕ) (G : Ghost) (w : World) → size ≡ pos count → count ≤ max_units → j ≤ count → Fits g n d c ρ L G w → Fits g n d ch ρ (seats k keys values size v (pos j) L) G w → Run g n (landings c) (at c (pn g c k x b p has_loop) (seats k keys values size v (pos j) L) G w) G (PlainEnd g n d c q L) (m.with_turn w (again d (LoopOver copies (pos j +ℤ pos 1) b) ρ))
  next_runs ρ j count G w sized small le h hh =
      let M = seats k keys values size v (pos j) L in
      let M2 = Temp (Int size) ∷ Temp values ∷ key_seats k keys (Temp v ∷ L) in
      let i2 = pos j +ℤ pos 1 in
      let p0 = pn g c k x b p has_loop in
      let hn = has_next g c k x b p has_loop in
      let row = in_row g c k x b p has_loop in
      let less : p0 + 7 + 2 ≤ q = omega (arith, row, ends_at, loop_ends) in
      let s1 = integer_step g n d ch ρ p0 M G w hh (pos 1) q hn.0 (omega (arith, less)) u in
      let s2 = get_step g n d ch ρ (p0 + 2) (Temp (Int (pos 1)) ∷ M) G w (fits_push (Int (pos 1)) hh) (K1 + 3) (Int (pos j)) q hn.2.0 (seat_push (Temp (Int (pos 1))) M (c.base + (K1 + 3)) (Temp (Int (pos j))) (index_seat k keys values size v (pos j) L c.base (length c.scope.locals) full)) (omega (arith, less)) u in
      let s3 = plus_step g n d ch ρ (p0 + 2 + 2) M G w hh (Int (pos j)) (Int (pos 1)) (p0 + 2 + 2 + 1) refl (under_less c.own (omega (arith, less)) u) (Int i2) hn.2.2.0 (next_is w.heap j (omega (arith, small, le))) in
      let s4 = set_top g n d ch ρ (p0 + 2 + 2 + 1) (K1 + 3) (Int i2) (Int (pos j)) M2 G w hn.2.2.2.0 (sym (index_length k keys values size v (pos j) L c.base (length c.scope.locals) full)) hh in
      let pj = p + span C1 + 2 + span X1 in
      let there : p0 + 2 + 2 + 1 + 2 ≡ pj = omega (arith, row) in
      let M1 = seats k keys values size v i2 L in
      let hh2 = fits_hidden k keys values size v i2 h in
      run_after g n (comes_then g s1 (comes_then g s2 (comes_then g s3 (comes_to g s4 (ap (λ z. at c z M1 G w) there))))) (extends_same G)
      (back_runs g n d c pj p (span C1 + span X1) M1 G w (PlainEnd g n d c q L) (again d (LoopOver copies i2 b) ρ) (loop_back g p C1 X1 has_loop) (loop_again p C1 X1) q (omega (arith, less, there)) u (framed_scope c.scope c.words c.sight hh2.framed) hh2.kept
      (λ lt. run_more g (n - 1) n (omega arith) (PlainEnd g n d c q L) (stm_more g (n - 1) n (omega arith) d c q c.scope c.words c.sight 0 L)
      (ih.over (n - 1) (omega (arith, h.kept.turns, lt)) d copies i2 v b c ρ p q L G (record w { turns = w.turns + 1 }) e has sub ok (fits_turn g n d lt h) full
      (record { count = count; index = j + 1; size_is = sized; index_is = refl; small = small; within = omega (arith, le) }) u)))

  distinct_seats : (k : Option Word) (j : ℕ) (z : ℕ) → Distinct z (seats k keys values size v (pos j) L) → Distinct z L
  distinct_seats None j z dist = dist
  distinct_seats (Some y) j z dist = dist

  module _ (ρ : Env) (j : ℕ) (G : Ghost) (w : World) (count : ℕ) (sized : size ≡ pos count) (small : count ≤ max_units) (h : Fits g n d c ρ L G w) where
    abbrev M : List Seat
    M = seats k keys values size v (pos j) L

    hh : Fits g n d ch ρ M G w
    hh = fits_hidden k keys values size v (pos j) h

    -- the test
    tested : Comes g (at c p M G w) (at c (p + span C1) (Temp (Truth (int_le (pos j) size)) ∷ M) G w)
    tested =
        let hl = loop_test g p C1 X1 has_loop in
        let less : p + span C1 + 2 ≤ q = omega (arith, ends_at, loop_ends) in
        let s1 = get_step g n d ch ρ p M G w hh (K1 + 2) (Int size) q hl.0 (size_seat k keys values size v (pos j) L c.base (length c.scope.locals) full) (omega (arith, less)) u in
        let s2 = get_step g n d ch ρ (p + 2) (Temp (Int size) ∷ M) G w (fits_push (Int size) hh) (K1 + 3) (Int (pos j)) q hl.2.0 (seat_push (Temp (Int size)) M (c.base + (K1 + 3)) (Temp (Int (pos j))) (index_seat k keys values size v (pos j) L c.base (length c.scope.locals) full)) (omega (arith, less)) u in
        let gave : operated binary.LessEqual w.heap (Int (pos j)) (Int size) ≡ Ok (Truth (int_le (pos j) size)) = subst (λ z. operated binary.LessEqual w.heap (Int (pos j)) (Int z) ≡ Ok (Truth (int_le (pos j) z))) (sym sized) (at_most_is w.heap j count) in
        let s3 = at_most_step g n d ch ρ (p + 2 + 2) M G w hh (Int (pos j)) (Int size) (p + 2 + 2 + 1) refl (under_less c.own (omega (arith, less)) u) (Truth (int_le (pos j) size)) hl.2.2.0 gave in
        comes_then g s1 (comes_then g s2 (comes_to g s3 (ap (λ z. at c z (Temp (Truth (int_le (pos j) size)) ∷ M) G w) (omega arith))))

    abbrev TF : names.Frame
    TF = turn_frame k x c.scope

    abbrev WS : List Word
    WS = x ∷ with_word k c.words

    abbrev VS : List Word
    VS = x ∷ with_word k c.sight

    module _ (block_run : Env → World → Got Flow) (run : (ρ1 : Env) (G1 : Ghost) (w1 : World) (N : List Seat) → Fits g n d (scoped ch TF WS VS) ρ1 (N ++ M) G1 w1 → length (N ++ M) ≡ c.base + length TF.locals → Run g n (landings c) (at c (pb g c k x b p has_loop) (N ++ M) G1 w1) G1 (StmsEnd g n d (scoped ch TF WS VS) (pe g c k x b p has_loop) b (N ++ M)) (block_run ρ1 w1)) where
      turn : int_le (pos j) size ≡ true → Run g n (landings c) (at c (p + span C1 + 2) M G w) G (PlainEnd g n d c q L) (and_then (and_then (and_then (bind_item copies (pos j) ρ w) (λ flow w1. on_flow flow w1 block_run)) (leave ρ)) (λ flow w2. on_flow flow w2 (λ ρ1 w3. m.with_turn w3 (again d (LoopOver copies (pos j +ℤ pos 1) b) ρ1))))
      turn t =
          let le : j ≤ count = let t2 : int_le (pos j) (pos count) ≡ true = subst (λ z. int_le (pos j) z ≡ true) sized t in within t2 in
          let less : pb g c k x b p has_loop ≤ q = omega (arith, ends_at, loop_ends, in_row g c k x b p has_loop) in
          let are = pops_after (lets b) (1 + count_name k) (block_pops b) (MoreOp (pop_op x (stms_frees false b)) (key_pop k (stms_frees false b))) (block_are_pops b) (more_pops k) in
          let r = stm_then g n d (bind_runs g n d c L full k x keys values size size v (pos j) ρ (pk g c k x b p has_loop) G w (pi g c k x b p has_loop) (pb g c k x b p has_loop) (has_key g c k x b p has_loop) refl (has_item g c k x b p has_loop) refl (under_less c.own less u) hh)
          (λ ρ1 w1 G1 s1 x1 gone.
          run_on g n (StmAt g n d ch (pe g c k x b p has_loop) (after_frame b TF) (after_words b WS) (after_words b VS) (lets b + (1 + count_name k)) M)
          (λ f w2 G2 s2 y. more_goes g n d ch TF WS VS (pe g c k x b p has_loop) (after_frame b TF) (after_words b WS) (after_words b VS) (lets b) (1 + count_name k) gone.new M gone.many f w2 G2 s2 y)
          (run ρ1 G1 w1 gone.new gone.fits gone.full)) in
          leave_then g n d (pn g c k x b p has_loop) (block_pops b ⊕ MoreOp (pop_op x (stms_frees false b)) (key_pop k (stms_frees false b))) (λ ρ1 w3. m.with_turn w3 (again d (LoopOver copies (pos j +ℤ pos 1) b) ρ1)) hh are (has_pops g c k x b p has_loop) refl r
          (λ w2 G2 x2 hh2.
          let h2 = fits_on h x2 (kept_on L hh2.kept (distinct_seats k j (length w2.store) hh2.kept.layout)) in
          next_runs ρ j count G2 w2 sized small le h2 hh2)
          (λ v2 w2 G2 s2 y. y)
        where
          within : int_le (pos j) (pos count) ≡ true → j ≤ count
          within t2 = let t3 : nat_le j count ≡ true = t2 in grind (arith, nat_tests)

          more_pops : (k : Option Word) → ArePops (1 + count_name k) (MoreOp (pop_op x (stms_frees false b)) (key_pop k (stms_frees false b)))
          more_pops None = (pop_is x (stms_frees false b), tt)
          more_pops (Some y) = (pop_is x (stms_frees false b), key_pops (Some y) (stms_frees false b))

      over_end : Run g n (landings c) (at c (p + span C1 + 2 + (span X1 + 2)) M G w) G (PlainEnd g n d c q L) (Gives (GoesOn ρ) w)
      over_end =
          let N = seat_list k keys values size v (pos j) in
          let is = seats_are k keys values size v (pos j) L in
          let p3 = p + span C1 + 2 + (span X1 + 2) in
          let hasp : HasAt g.code p3 PS = subst (λ z. HasAt g.code z PS) (sym loop_ends) (has_back g.code p (over_loop k x c.scope b) PS has) in
          let are = subst (λ z. ArePops z PS) (sym (length-list k keys values size v (pos j))) (hidden_pops (4 + key_count k)) in
          let dist = subst (Distinct (length w.store)) (sym is) hh.kept.layout in
          let run = pops_run g n d N L PS c p3 q G w are hasp (omega (arith, ends_at, loop_ends)) h.framed dist in
          plain g n d q (subst (λ z. Comes g (at c p3 z G w) (at c q L G w)) is run) refl h full

      -- a turn and those after it, where `run` is that of the statements of its block
      pub over_runs : Run g n (landings c) (at c p M G w) G (PlainEnd g n d c q L) (run_over again d copies (pos j) b block_run ρ w)
      unfolding truth_of
      over_runs = run_after g n (comes_then g tested (test_step g n d ch ρ (p + span C1) (span X1 + 2) M (Truth (int_le (pos j) size)) G w (loop_jump g p C1 X1 has_loop) hh)) (extends_same G) (either (int_le (pos j) size) refl)
        where
          either : (t : Bool) → int_le (pos j) size ≡ t → Run g n (landings c) (at c (cond t (p + span C1 + 2) (p + span C1 + 2 + (span X1 + 2))) M G w) G (PlainEnd g n d c q L) (cond t (and_then (and_then (and_then (bind_item copies (pos j) ρ w) (λ flow w1. on_flow flow w1 block_run)) (leave ρ)) (λ flow w2. on_flow flow w2 (λ ρ1 w3. m.with_turn w3 (again d (LoopOver copies (pos j +ℤ pos 1) b) ρ1)))) (Gives (GoesOn ρ) w))
          either true t = turn t
          either false t = over_end
