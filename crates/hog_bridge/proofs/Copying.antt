-- The copies of a loop over values are made, and the loop begins.
use Rattle.std.proofs.Common.{◌≡◌, ℕ, ◌+◌, ◌≤◌, pos, List, [], ◌∷◌, length, Option, Some, None, refl, sym, ap, ◌∙◌, subst, arith}
use Rattle.hog_value.specs.Values.{Val}
use Rattle.hog_value.specs.declared.value.Value.TheVariants.{Null, Int}
use Rattle.hog_value.specs.Meters.{max_units}
use Rattle.hog_tree.specs.Plain.{Word}
use Rattle.hog_compiler.specs.Pieces.{one, key_count}
use Rattle.hog_meaning.specs.World.{Env, World, Got, Gives, Throws, Waits, Spends, and_then, Flow}
use Rattle.hog_meaning.specs.Meaning.{Copies}
use Rattle.hog_ops.specs.Plain as o
use Rattle.hog_ops.specs.Plain.{Op, Ops, NoOp, MoreOp, ◌⊕◌}
use Rattle.hog_ops.specs.Table.{span}
use Rattle.vm_course.specs.State.{State}
use Rattle.hog_bridge.proofs.Places.{Seat, Temp, seat_at, seat_top, seat_push}
use Rattle.hog_bridge.proofs.Ahead.{HasAt, has_front, has_back, span-after}
use Rattle.hog_bridge.proofs.Picture.{Given, Ghost, Landing, comes_then, comes_to, at_once, stays, Under, under_less, Ctx, landings, at, Kept, Fits, Extends, extends_same, extends_then, Run, run_after, gives}
use Rattle.hog_bridge.proofs.Steps.{kept_on, fits_push}
use Rattle.hog_bridge.proofs.Exps.{fits_on}
use Rattle.hog_bridge.proofs.Operators.{get_step, integer_step}
use Rattle.hog_bridge.proofs.Follow.{run_on, key_seats}
use Rattle.hog_value.specs.declared.native.Native.TheVariants.{Keys, Values, Length}
use Rattle.hog_compiler.specs.Pieces.{hidden_code, keys_code, called_on}
use Rattle.hog_meaning.specs.Meaning.{copied, keys_copied, number_in, call_native}
use Rattle.hog_bridge.proofs.Operators.{native_call_runs}
use Rattle.hog_bridge.proofs.Copied.{GotList, values_got, GotCount, length_got}
use Rattle.hog_bridge.proofs.Overs.{seats, length-keys}

-- one part after another, where a third follows, with what the first gives
run_with : (g : Given) (n : ℕ) {A B C : Type 0} {ls : List Landing} {s : State} {G : Ghost} {P : A → World → Ghost → State → Type 0} {P2 : C → World → Ghost → State → Type 0} (o1 : Got A) (f : A → World → Got B) (f2 : B → World → Got C) → Run g n ls s G P o1 → ((a : A) (w : World) (G1 : Ghost) (s1 : State) → o1 ≡ Gives a w → Extends G G1 → P a w G1 s1 → Run g n ls s1 G1 P2 (and_then (f a w) f2)) → Run g n ls s G P2 (and_then (and_then o1 f) f2)
run_with g n (Gives a w) f f2 r k = run_after g n r.ends.comes r.ends.extends (k a w r.ends.ghost' r.ends.last refl r.ends.extends r.ends.holds)
run_with g n (Throws v w) f f2 r k = record { ends = r.ends }
run_with g n (Waits w) f f2 r k = record { ends = r.ends }
run_with g n (Spends limit w) f f2 r k = record { ends = r.ends }

-- the keys stand on the stack, where a key is named
record KeysAt (g : Given) (n : ℕ) (c : Ctx) (k : Option Word) (p : ℕ) (L : List Seat) (v : Val) (keys : Val) (w : World) (G : Ghost) (s : State) : Type 0 where
  is : s ≡ at c p (key_seats k keys (Temp v ∷ L)) G w
  kept : Kept g n L G w

fits_keys : {g : Given} {n d : ℕ} {c : Ctx} {ρ : Env} {L : List Seat} {G : Ghost} {w : World} (k : Option Word) (keys v : Val) → Fits g n d c ρ L G w → Fits g n d c ρ (key_seats k keys (Temp v ∷ L)) G w
fits_keys None keys v h = fits_push v h
fits_keys (Some y) keys v h = fits_push keys (fits_push v h)

kept_keys : {g : Given} {n : ℕ} {G : Ghost} {w : World} (k : Option Word) (keys v : Val) (L : List Seat) → Kept g n (key_seats k keys (Temp v ∷ L)) G w → Kept g n L G w
kept_keys None keys v L k = kept_on L k k.layout
kept_keys (Some y) keys v L k = kept_on L k k.layout

module _ (g : Given) (n d : ℕ) (c : Ctx) (ρ : Env) (L : List Seat) (v : Val) (full : length L ≡ c.base + length c.scope.locals) where
  base_seat : (k : Option Word) (keys : Val) → seat_at (key_seats k keys (Temp v ∷ L)) (c.base + length c.scope.locals) ≡ Some (Temp v)
  base_seat None keys = ap (seat_at (Temp v ∷ L)) (sym full) ∙ seat_top (Temp v) L
  base_seat (Some y) keys = ap (seat_at (Temp keys ∷ Temp v ∷ L)) (sym full) ∙ seat_push (Temp keys) (Temp v ∷ L) (length L) (Temp v) (seat_top (Temp v) L)

  keys_run : (k : Option Word) (p q : ℕ) (G : Ghost) (w : World) → HasAt g.code p (keys_code k (length c.scope.locals)) → q ≡ p + span (keys_code k (length c.scope.locals)) → Under q c.own → Fits g n d c ρ L G w → Run g n (landings c) (at c p (Temp v ∷ L) G w) G (KeysAt g n c k q L v) (keys_copied k d v w)
  keys_run None p q G w has e u h = gives g n (stays g _) (record { is = ap (λ z. at c z (Temp v ∷ L) G w) (omega (arith, e)); kept = h.kept })
  keys_run (Some y) p q G w has e u h =
      let s1 = get_step g n d c ρ p (Temp v ∷ L) G w (fits_push v h) (length c.scope.locals) v q has.0 (base_seat None Null) (omega (arith, e)) u in
      run_after g n s1 (extends_same G)
      (run_on g n (KeysAt g n c (Some y) q L v) (λ keys w1 G1 s1 at_end. record { last = s1; ghost' = G1; comes = stays g s1; extends = extends_same G1; holds = record { is = at_end.is; kept = kept_on L at_end.kept at_end.kept.layout } })
      (native_call_runs g n d c ρ (p + 2) (Temp v ∷ L) G w (fits_push v h) q u Keys (v ∷ []) has.2.0 (omega (arith, e))))

  pub copied_runs : (k : Option Word) (x : Word) (p q : ℕ) (G : Ghost) (w : World) {P2 : Flow → World → Ghost → State → Type 0} (go : Copies → World → Got Flow) → HasAt g.code p (hidden_code k (length c.scope.locals)) → q ≡ p + span (hidden_code k (length c.scope.locals)) → Under q c.own → Fits g n d c ρ L G w → ((keys values : Val) (count : ℕ) (w1 : World) (G1 : Ghost) → count ≤ max_units → Extends G G1 → Fits g n d c ρ L G1 w1 → Run g n (landings c) (at c q (seats k keys values (pos count) v (pos 1) L) G1 w1) G1 P2 (go (record { key = k; value = x; keys = keys; values = values; size = pos count }) w1)) → Run g n (landings c) (at c p (Temp v ∷ L) G w) G P2 (and_then (copied k x d v w) go)
  copied_runs k x p q G w {P2} go has e u h next =
      let first = length c.scope.locals in
      let KC = keys_code k first in
      let VC = called_on Values first in
      let LC = called_on Length (first + key_count k + 1) in
      let IC = one (o.Integer (pos 1)) in
      let p1 = p + span KC in
      let p2 = p1 + 5 in
      let p3 = p2 + 5 in
      let hasK = has_front g.code p KC (VC ⊕ (LC ⊕ IC)) has in
      let has1 = has_back g.code p KC (VC ⊕ (LC ⊕ IC)) has in
      let has2 : HasAt g.code p2 (LC ⊕ IC) = has_back g.code p1 VC (LC ⊕ IC) has1 in
      let has3 : HasAt g.code p3 IC = has_back g.code p2 LC IC has2 in
      let end : q ≡ p3 + 2 = omega (arith, e, span-after KC (VC ⊕ (LC ⊕ IC)), span-after VC (LC ⊕ IC), span-after LC IC) in
      run_with g n (keys_copied k d v w) _ go (keys_run k p p1 G w hasK refl (under_less c.own (omega (arith, end)) u) h)
      (λ keys w1 G1 s1 e1 x1 at1.
      let T = key_seats k keys (Temp v ∷ L) in
      let h1 = fits_on h x1 at1.kept in
      let t1 = fits_keys k keys v h1 in
      let g1 = get_step g n d c ρ p1 T G1 w1 t1 first v q has1.0 (base_seat k keys) (omega (arith, end)) u in
      run_after g n (comes_then g (at_once g at1.is) g1) (extends_same G1)
      (run_with g n (call_native d Values (v ∷ []) w1) _ go (native_call_runs g n d c ρ (p1 + 2) T G1 w1 t1 p2 (under_less c.own (omega (arith, end)) u) Values (v ∷ []) has1.2.0 (omega arith))
      (λ values w2 G2 s2 e2 x2 at2.
      let t2 = fits_on t1 x2 at2.kept in
      let list : GotList (Gives values w2) = subst GotList e2 (values_got d (v ∷ []) w1) in
      let items = list.0 in
      let lt : length T ≡ c.base + (first + key_count k + 1) = omega (arith, length-keys k keys (Temp v ∷ L), full) in
      let seat : seat_at (Temp values ∷ T) (c.base + (first + key_count k + 1)) ≡ Some (Temp values) = ap (seat_at (Temp values ∷ T)) (sym lt) ∙ seat_top (Temp values) T in
      let g2 = get_step g n d c ρ p2 (Temp values ∷ T) G2 w2 (fits_push values t2) (first + key_count k + 1) values q has2.0 seat (omega (arith, end)) u in
      run_after g n (comes_then g (at_once g at2.is) g2) (extends_same G2)
      (run_with g n (call_native d Length (values ∷ []) w2) _ go (native_call_runs g n d c ρ (p2 + 2) (Temp values ∷ T) G2 w2 (fits_push values t2) p3 (under_less c.own (omega (arith, end)) u) Length (values ∷ []) has2.2.0 (omega arith))
      (λ size w3 G3 s3 e3 x3 at3.
      let counted : GotCount (length items) (call_native d Length (values ∷ []) w2) = subst (λ z. GotCount (length items) (call_native d Length (z ∷ []) w2)) (sym list.1.1) (length_got d list.1.0 w2 items list.1.2) in
      let sized : size ≡ Int (pos (length items)) = subst (GotCount (length items)) e3 counted in
      let t3 = fits_on (fits_push values t2) x3 at3.kept in
      let i1 = integer_step g n d c ρ p3 (Temp size ∷ Temp values ∷ T) G3 w3 (fits_push size t3) (pos 1) q has3.0 (omega (arith, end)) u in
      let h3 = fits_on h (extends_then x1 (extends_then x2 x3)) (kept_keys k keys v L (kept_on T at3.kept at3.kept.layout)) in
      let there : p3 + 2 ≡ q = sym end in
      run_after g n (comes_then g (at_once g at3.is) (comes_to g i1 (ap (λ z. at c z (Temp (Int (pos 1)) ∷ Temp size ∷ Temp values ∷ T) G3 w3) there))) (extends_same G3)
      (subst (λ z. Run g n (landings c) (at c q (Temp (Int (pos 1)) ∷ Temp z ∷ Temp values ∷ T) G3 w3) G3 P2 (go (record { key = k; value = x; keys = keys; values = values; size = number_in z }) w3)) (sym sized)
      (next keys values (length items) w3 G3 list.2 (extends_then x1 (extends_then x2 x3)) h3)))))))
