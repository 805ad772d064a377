-- What one pass over a code shows of each of its operations.
use Rattle.std.proofs.Common.{◌≡◌, ℕ, suc, ◌+◌, ◌<◌, ◌≤◌, List, [], ◌∷◌, ◌++◌, length, Option, Some, None, Bool, true, false, cond, refl, ap, ap₂, ◌∙◌, subst, ◌⊎◌, inl, inr, ⊎_elim, arith}
use Rattle.std.specs.Prelude.{◌&&◌, ◌==◌, nat_lt, Result, Ok, Err}
use Rattle.std.proofs.lemmas.Bool.Decides.{nat_tests}
use Rattle.hog_ops.specs.Plain.{Op, Ops, NoOp, MoreOp, Callable}
use Rattle.hog_ops.specs.Table.{size, span}
use Rattle.bytecode_check.specs.declared.stops.VerifyStop.{VerifyStop}
use Rattle.bytecode_check.specs.declared.stops.VerifyStop.TheVariants.{Underflow, NoLocal, NoUpvalue, NoTry, FallsOff, ShapesDiffer}
use Rattle.bytecode_check.specs.declared.checker.Around.{Around}
use Rattle.bytecode_check.specs.Shape.{OpenTry, Shape, shaped, same_tries, same_shape, floor, before_catches, Shapes, shape_at, given_over, given}
use Rattle.bytecode_check.specs.Effects.{effect, Lead, leads}
use Rattle.bytecode_check.specs.Verify.{program_start, body_offset, underflows, no_local, no_upvalue, no_try, agrees, may_get, give_all, leads_off, judge, and_then, where_shaped, begun, check_op, check_all, verified}
use Rattle.bytecode_safety.specs.Typed.{Given, EachLead, Fine, HasFirst, SoundOp, Sound, Typed}

pub and_both : (a b : Bool) → (a && b) ≡ true → (a ≡ true) × (b ≡ true)
and_both true b e = (refl, e)
and_both false b e = absurd cc

eq_is : (m n : ℕ) → (m == n) ≡ true → m ≡ n
eq_is m n h = grind (arith, nat_tests)

same_tries_is : (ts us : List OpenTry) → same_tries ts us ≡ true → ts ≡ us
same_tries_is [] [] e = refl
same_tries_is [] (u ∷ us) e = absurd cc
same_tries_is (t ∷ ts) [] e = absurd cc
same_tries_is (t ∷ ts) (u ∷ us) e =
    let (d, more) = and_both (t.depth == u.depth) ((t.catch == u.catch) && same_tries ts us) e in
    let (c, rest) = and_both (t.catch == u.catch) (same_tries ts us) more in
    ap₂ (λ x y. record { depth = x; catch = y } ∷ ts) (eq_is t.depth u.depth d) (eq_is t.catch u.catch c) ∙ ap (λ r. u ∷ r) (same_tries_is ts us rest)

pub same_shape_is : (a b : Shape) → same_shape a b ≡ true → a ≡ b
same_shape_is a b e =
    let (d, t) = and_both (a.depth == b.depth) (same_tries a.tries b.tries) e in
    ap₂ shaped (eq_is a.depth b.depth d) (same_tries_is a.tries b.tries t)

-- ---- shapes of places

at_kept : (xs ys : Shapes) (p : ℕ) (s : Shape) → shape_at xs p ≡ Some s → shape_at (xs ++ ys) p ≡ Some s
at_kept [] ys p s e = absurd cc
at_kept (x ∷ xs) ys p s e = go (p == x.0) e (at_kept xs ys p s)
  where
    go : (b : Bool) → cond b (Some x.1) (shape_at xs p) ≡ Some s → (shape_at xs p ≡ Some s → shape_at (xs ++ ys) p ≡ Some s) → cond b (Some x.1) (shape_at (xs ++ ys) p) ≡ Some s
    go true h f = h
    go false h f = f h

at_new : (xs ys : Shapes) (p : ℕ) → shape_at xs p ≡ None → shape_at (xs ++ ys) p ≡ shape_at ys p
at_new [] ys p e = refl
at_new (x ∷ xs) ys p e = go (p == x.0) e (at_new xs ys p)
  where
    go : (b : Bool) → cond b (Some x.1) (shape_at xs p) ≡ None → (shape_at xs p ≡ None → shape_at (xs ++ ys) p ≡ shape_at ys p) → cond b (Some x.1) (shape_at (xs ++ ys) p) ≡ shape_at ys p
    go true h f = absurd cc
    go false h f = f h

-- Later in the pass: places keep their shapes, and one below a limit that had none gets none.
pub record Later (limit : ℕ) (X Y : Shapes) : Type 0 where
  pub grows : (p : ℕ) (s : Shape) → shape_at X p ≡ Some s → shape_at Y p ≡ Some s
  pub none : (p : ℕ) → p < limit → shape_at X p ≡ None → shape_at Y p ≡ None

pub later_same : (limit : ℕ) (X : Shapes) → Later limit X X
later_same limit X = record { grows = λ p s e. e; none = λ p lt e. e }

pub later_then : {l m n : ℕ} {X Y Z : Shapes} → n ≤ l → n ≤ m → Later l X Y → Later m Y Z → Later n X Z
later_then {l} {m} {n} {X} {Y} {Z} le1 le2 a b = record {
  grows = λ p s e. b.grows p s (a.grows p s e);
  none = λ p lt e. b.none p (omega arith) (a.none p (omega arith) e);
}

pub later_less : {l n : ℕ} {X Y : Shapes} → n ≤ l → Later l X Y → Later n X Y
later_less {l} {n} {X} {Y} le a = record { grows = a.grows; none = λ p lt e. a.none p (omega arith) e }

pub each_map : (P Q : ℕ → Shape → Type 0) (ls : List Lead) → ((p : ℕ) (s : Shape) → P p s → Q p s) → EachLead P ls → EachLead Q ls
each_map P Q [] f h = tt
each_map P Q (l ∷ ls) f h = (f l.0 l.1 h.0, each_map P Q ls f h.1)

given_later : {limit : ℕ} {X Y : Shapes} → Later limit X Y → (ls : List Lead) → EachLead (Given X) ls → EachLead (Given Y) ls
given_later {limit} {X} {Y} k ls h = each_map (Given X) (Given Y) ls (λ p s g. record { is = k.grows p s g.is; before = g.before }) h

gives_one : (at q : ℕ) (sh : Shape) (X : Shapes) (o : Option Shape) → shape_at X q ≡ o → agrees at q sh o ≡ true → Later (suc at) X (given_over o X q sh) × (shape_at (given_over o X q sh) q ≡ Some sh)
gives_one at q sh X None e h =
    let self : (q == q) ≡ true = grind (arith, nat_tests) in
    let ahead : at < q = grind (arith, nat_tests) in (
      record {
        grows = λ p s k. at_kept X ((q, sh) ∷ []) p s k;
        none = λ p lt k. let other : (p == q) ≡ false = grind (arith, nat_tests) in at_new X ((q, sh) ∷ []) p k ∙ ap (λ b. cond b (Some sh) None) other;
      },
      at_new X ((q, sh) ∷ []) q e ∙ ap (λ b. cond b (Some sh) None) self,
    )
gives_one at q sh X (Some old) e h = (later_same (suc at) X, e ∙ ap Some (same_shape_is old sh h))

abbrev ok : Shapes → Result Shapes VerifyStop
ok X = Ok X

same_ok : (X Y : Shapes) → ok X ≡ ok Y → X ≡ Y
same_ok X Y e = cc

-- a test that refuses was passed
pub passes : (b : Bool) (x : Result Shapes VerifyStop) (r : VerifyStop) (Y : Shapes) → cond b x (Err r) ≡ Ok Y → (b ≡ true) × (x ≡ Ok Y)
passes true x r Y e = (refl, e)
passes false x r Y e = absurd cc

pub gone_by : (b : Bool) (x : Result Shapes VerifyStop) (r : VerifyStop) (Y : Shapes) → cond b (Err r) x ≡ Ok Y → (b ≡ false) × (x ≡ Ok Y)
gone_by false x r Y e = (refl, e)
gone_by true x r Y e = absurd cc

pub gives_all : (at : ℕ) (ls : List Lead) (X Y : Shapes) → give_all at ls X ≡ Ok Y → Later (suc at) X Y × EachLead (Given Y) ls
gives_all at [] X Y e = (subst (Later (suc at) X) (same_ok X Y e) (later_same (suc at) X), tt)
gives_all at (l ∷ ls) X Y e =
    let (test, more) = passes (may_get at X l) (give_all at ls (given X l.0 l.1)) (ShapesDiffer at) Y e in
    let (before, fits) = and_both (before_catches l.0 l.1.tries) (agrees at l.0 l.1 (shape_at X l.0)) test in
    let (here, is) = gives_one at l.0 l.1 X (shape_at X l.0) refl fits in
    let (there, others) = gives_all at ls (given X l.0 l.1) Y more in
    (later_then (omega arith) (omega arith) here there, (record { is = there.grows l.0 l.1 is; before = before }, others))

fine_later : {limit : ℕ} {Y Z : Shapes} (b : Around) (at : ℕ) (op : Op) (sh : Shape) → Later limit Y Z → Fine Y b at op sh → Fine Z b at op sh
fine_later b at op sh k f = record {
  operands = f.operands;
  local = f.local;
  upvalue = f.upvalue;
  open_try = f.open_try;
  inside = f.inside;
  given = given_later k (leads (at + size op) op sh) f.given;
}

judge_fine : (b : Around) (at : ℕ) (op : Op) (sh : Shape) (X Y : Shapes) → judge b at op sh X ≡ Ok Y → Later (suc at) X Y × Fine Y b at op sh
judge_fine b at op sh X Y e =
    let ls = leads (at + size op) op sh in
    let x5 = give_all at ls X in
    let x4 = cond (leads_off b.end ls) (Err (FallsOff at)) x5 in
    let x3 = cond (no_try op sh.tries) (Err (NoTry at)) x4 in
    let x2 = cond (no_upvalue op b.captures) (Err (NoUpvalue at)) x3 in
    let x1 = cond (no_local op sh.depth) (Err (NoLocal at)) x2 in
    let g0 = gone_by (underflows op sh) x1 (Underflow at) Y e in
    let g1 = gone_by (no_local op sh.depth) x2 (NoLocal at) Y g0.1 in
    let g2 = gone_by (no_upvalue op b.captures) x3 (NoUpvalue at) Y g1.1 in
    let g3 = gone_by (no_try op sh.tries) x4 (NoTry at) Y g2.1 in
    let g4 = gone_by (leads_off b.end ls) x5 (FallsOff at) Y g3.1 in
    let g5 = gives_all at ls X Y g4.1 in
    (g5.0, record { operands = enough (sh.depth) (floor sh.tries + (effect op).looks) g0.0; local = g1.0; upvalue = g2.0; open_try = g3.0; inside = g4.0; given = g5.1 })
  where
    enough : (d n : ℕ) → nat_lt d n ≡ false → n ≤ d
    enough d n h = grind (arith, nat_tests)

-- ---- sound operations

pub size_some : (o : Op) → 1 ≤ size o
size_some (Callable name params body captures) = omega arith
size_some o = omega arith

-- a step of the pass, and what follows it
steps_then : (r : Result Shapes VerifyStop) (go : Shapes → Result Shapes VerifyStop) (Y : Shapes) → and_then r go ≡ Ok Y → (X : Shapes) × (r ≡ Ok X) × (go X ≡ Ok Y)
steps_then (Ok X) go Y e = (X, refl, e)
steps_then (Err r) go Y e = absurd cc

where_was : (o : Option Shape) (X Y : Shapes) (go : Shape → Result Shapes VerifyStop) → where_shaped o X go ≡ Ok Y → ((o ≡ None) × (X ≡ Y)) ⊎ ((sh : Shape) × (o ≡ Some sh) × (go sh ≡ Ok Y))
where_was None X Y go e = inl (refl, same_ok X Y e)
where_was (Some sh) X Y go e = inr (sh, refl, e)

some_same : (o : Option Shape) (a c : Shape) → o ≡ Some a → o ≡ Some c → a ≡ c
some_same o a c e f = cc

none_some : {A : Type 0} (o : Option Shape) (a : Shape) → o ≡ None → o ≡ Some a → A
none_some o a e f = absurd cc

begun_was : (at start params : ℕ) (body : Ops) (X Y : Shapes) (go : Shapes → Result Shapes VerifyStop) → begun at body start params X go ≡ Ok Y → HasFirst body × ((X1 : Shapes) × Later (suc at) X X1 × (shape_at X1 start ≡ Some (shaped params [])) × (go X1 ≡ Ok Y))
begun_was at start params NoOp X Y go e = absurd cc
begun_was at start params (MoreOp o os) X Y go e =
    let (X1, one, more) = steps_then (give_all at ((start, shaped params []) ∷ []) X) go Y e in
    let (later, gave) = gives_all at ((start, shaped params []) ∷ []) X X1 one in
    (tt, (X1, later, gave.0.is, more))

-- what is kept of the pass over some operations, whatever comes later
pub record Checked (b : Around) (at : ℕ) (end : ℕ) (X Y : Shapes) (S : Shapes → Type 0) : Type 0 where
  pub later : Later (suc at) X Y
  pub sound : (Z : Shapes) → Later end Y Z → S Z

simple : (b : Around) (at : ℕ) (op : Op) (X Y : Shapes) → where_shaped (shape_at X at) X (λ sh. judge b at op sh X) ≡ Ok Y → Checked b at (at + size op) X Y (λ Z. (sh : Shape) → shape_at Z at ≡ Some sh → Fine Z b at op sh)
simple b at op X Y e =
    let some = size_some op in
    ⊎_elim
    (λ h. record {
      later = subst (Later (suc at) X) h.1 (later_same (suc at) X);
      sound = λ Z k sh is. let lt : at < at + size op = omega arith in none_some (shape_at Z at) sh (k.none at lt (subst (λ x. shape_at x at ≡ None) h.1 h.0)) is;
    })
    (λ h. let (later, fine) = judge_fine b at op h.0 X Y h.2 in
    record {
      later = later;
      sound = λ Z k sh is. subst (Fine Z b at op) (some_same (shape_at Z at) h.0 sh (k.grows at h.0 (later.grows at h.0 h.1)) is) (fine_later b at op h.0 k fine);
    })
    (where_was (shape_at X at) X Y (λ sh. judge b at op sh X) e)

mutual
  op_checked : (b : Around) (at : ℕ) (o : Op) (X Y : Shapes) → check_op b at o X ≡ Ok Y → Checked b at (at + size o) X Y (λ Z. SoundOp Z b at o)
  op_checked b at (Callable name params body captures) X Y e =
      let o = Callable name params body captures in
      let start = at + body_offset in
      let c : Around = record { captures = length captures; end = at + body_offset + span body } in
      let go : Shape → Result Shapes VerifyStop = λ sh. and_then (judge b at o sh X) (λ X1. begun at body start params X1 (check_all c start body)) in
      ⊎_elim
      (λ h. record {
        later = subst (Later (suc at) X) h.1 (later_same (suc at) X);
        sound = λ Z k sh is. let lt : at < at + size o = omega arith in none_some (shape_at Z at) sh (k.none at lt (subst (λ x. shape_at x at ≡ None) h.1 h.0)) is;
      })
      (λ h.
      let (X1, one, two) = steps_then (judge b at o h.0 X) (λ X1. begun at body start params X1 (check_all c start body)) Y h.2 in
      let (later, fine) = judge_fine b at o h.0 X X1 one in
      let (first, begin) = begun_was at start params body X1 Y (check_all c start body) two in
      let inner = all_checked c start body begin.0 Y begin.3 in
      let later2 : Later (suc at) X1 Y = later_then (omega arith) (omega arith) begin.1 inner.later in
      record {
        later = later_then (omega arith) (omega arith) later later2;
        sound = λ Z k sh is.
            let fineZ = fine_later b at o h.0 k (fine_later b at o h.0 later2 fine) in (
              subst (Fine Z b at o) (some_same (shape_at Z at) h.0 sh (k.grows at h.0 (later2.grows at h.0 (later.grows at h.0 h.1))) is) fineZ,
              first,
              k.grows start (shaped params []) (inner.later.grows start (shaped params []) begin.2),
              inner.sound Z (later_less (omega arith) k),
            );
      })
      (where_was (shape_at X at) X Y go e)
  op_checked b at o X Y e = simple b at o X Y e

  pub all_checked : (b : Around) (at : ℕ) (os : Ops) (X Y : Shapes) → check_all b at os X ≡ Ok Y → Checked b at (at + span os) X Y (λ Z. Sound Z b at os)
  all_checked b at NoOp X Y e = record { later = subst (Later (suc at) X) (same_ok X Y e) (later_same (suc at) X); sound = λ Z k. tt }
  all_checked b at (MoreOp o os) X Y e =
      let (X1, one, more) = steps_then (check_op b at o X) (check_all b (at + size o) os) Y e in
      let here = op_checked b at o X X1 one in
      let there = all_checked b (at + size o) os X1 Y more in
      record {
        later = later_then (omega arith) (omega arith) here.later there.later;
        sound = λ Z k. (here.sound Z (later_then (omega arith) (omega arith) there.later k), there.sound Z (later_less (omega arith) k));
      }

pub typed : (code : Ops) (Y : Shapes) → verified code ≡ Ok Y → Typed code Y
unfolding verified
typed code Y e =
    let b : Around = record { captures = 0; end = program_start + span code } in
    let (first, begin) = begun_was 0 program_start 0 code [] Y (check_all b program_start code) e in
    let all = all_checked b program_start code begin.0 Y begin.3 in
    record { some = first; start = all.later.grows program_start (shaped 0 []) begin.2; sound = all.sound Y (later_same (program_start + span code) Y) }
