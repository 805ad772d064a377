-- Pieces of code are codes: their operands are allowed, and their distances lead to places of their own.
use Rattle.std.proofs.Common.{◌≡◌, ◌≤◌, ℕ, ◌+◌, ◌&&◌, pos, Bool, true, cond, Some, None, refl, sym, ap, ap₂, ◌∙◌, arith}
use Rattle.hog_ops.specs.Plain as o
use Rattle.hog_ops.specs.Plain.{Op, Ops, NoOp, MoreOp, ◌⊕◌}
use Rattle.hog_ops.specs.Table.{size, span}
use Rattle.hog_ops.specs.Valid.{op_allowed, allowed, op_height, height, is_place, or_then, op_lost, lost_in, lost}
use Rattle.hog_ops.proofs.Join.{join_assoc, join_none, span-join, allowed-join, height-join, is_place-join, is_place-seam, lost-within, lost-join}
use Rattle.hog_compiler.specs.Pieces.{one, coalesce_code, if_code, if_else_code, try_code}

-- a code by itself, in which at most so many bodies stand in one another
pub record Fine (n : ℕ) (os : Ops) : Type 0 where
  pub allowed : allowed os ≡ true
  pub leads : lost 0 os ≡ None
  pub low : height os ≤ n

pub fine_none : (n : ℕ) → Fine n NoOp
fine_none n = record { allowed = refl; leads = refl; low = omega arith }

both_true : (a b : Bool) → a ≡ true → b ≡ true → (a && b) ≡ true
both_true a b p q = ap₂ (λ x y. x && y) p q

pub fine_join : {n : ℕ} {os qs : Ops} → Fine n os → Fine n qs → Fine n (os ⊕ qs)
fine_join {n} {os} {qs} f g = record {
  allowed = allowed-join os qs ∙ both_true (allowed os) (allowed qs) f.allowed g.allowed;
  leads = lost-join os qs f.leads g.leads;
  low = omega (arith, height-join os qs, f.low, g.low);
}

-- what stands behind an operation, by itself, stands there as it should
behind_one : (o : Op) (os : Ops) → lost 0 os ≡ None → lost_in 0 (MoreOp o os) (0 + size o) os ≡ None
behind_one o os h =
    let here : 0 + size o ≡ span (one o) = omega arith in
    ap (λ n. lost_in 0 (MoreOp o os) n os) here
    ∙ ap (λ qs. lost_in 0 (MoreOp o qs) (span (one o)) os) (sym (join_none os))
    ∙ lost-within 0 (one o) os NoOp h

-- an operation before a code
pub fine_more : {n : ℕ} (o : Op) {os : Ops} → op_allowed o ≡ true → op_lost 0 (MoreOp o os) 0 o ≡ None → op_height o ≤ n → Fine n os → Fine n (MoreOp o os)
fine_more o {os} a l h f = record {
  allowed = both_true (op_allowed o) (allowed os) a f.allowed;
  leads = ap₂ or_then l (behind_one o os f.leads);
  low = omega (arith, h, f.low);
}

-- an operation without a distance
pub fine_one : (n : ℕ) (o : Op) → op_allowed o ≡ true → op_lost 0 (one o) 0 o ≡ None → op_height o ≤ n → Fine n (one o)
fine_one n o a l h = fine_more o a l h (fine_none n)

-- ---- distances ahead

led : (b : Bool) (p : ℕ) → b ≡ true → cond b None (Some p) ≡ None
led b p e = ap (λ x. cond x None (Some p)) e

-- two elements and so many are a place behind an operation of two elements
two_on : (o : Op) (os : Ops) (k : ℕ) → size o ≡ 2 → is_place os k ≡ true → is_place (MoreOp o os) (2 + k) ≡ true
two_on o os k two h =
    let there : 2 + k ≡ span (one o) + k = omega (arith, two) in
    ap (is_place (MoreOp o os)) there ∙ is_place-join (one o) os k h

end_place : (os : Ops) → is_place os (span os) ≡ true
end_place os = ap (λ qs. is_place qs (span os)) (sym (join_none os)) ∙ is_place-seam os NoOp

pub fine_when : {n : ℕ} {os : Ops} (k : ℕ) → is_place os k ≡ true → Fine n os → Fine n (MoreOp (o.JumpIfFalse (pos k)) os)
fine_when {n} {os} k h f = fine_more (o.JumpIfFalse (pos k)) refl (led _ _ (two_on (o.JumpIfFalse (pos k)) os k refl h)) (omega arith) f

pub fine_jump : {n : ℕ} {os : Ops} (k : ℕ) → is_place os k ≡ true → Fine n os → Fine n (MoreOp (o.Jump (pos k)) os)
fine_jump {n} {os} k h f = fine_more (o.Jump (pos k)) refl (led _ _ (two_on (o.Jump (pos k)) os k refl h)) (omega arith) f

pub fine_not_null : {n : ℕ} {os : Ops} (k : ℕ) → is_place os k ≡ true → Fine n os → Fine n (MoreOp (o.JumpIfStackNotNull (pos k)) os)
fine_not_null {n} {os} k h f = fine_more (o.JumpIfStackNotNull (pos k)) refl (led _ _ (two_on (o.JumpIfStackNotNull (pos k)) os k refl h)) (omega arith) f

pub fine_opens : {n : ℕ} {os : Ops} (k : ℕ) → is_place os k ≡ true → Fine n os → Fine n (MoreOp (o.Try (pos k)) os)
fine_opens {n} {os} k h f = fine_more (o.Try (pos k)) refl (led _ _ (two_on (o.Try (pos k)) os k refl h)) (omega arith) f

-- ---- the pieces

pub fine_coalesce : {n : ℕ} {x y : Ops} → Fine n x → Fine n y → Fine n (coalesce_code x y)
fine_coalesce {n} {x} {y} f g =
    let last : span y + 1 ≡ span (MoreOp o.Pop y) = omega arith in
    fine_join f (fine_not_null (span y + 1) (ap (is_place (MoreOp o.Pop y)) last ∙ end_place (MoreOp o.Pop y)) (fine_more o.Pop refl refl (omega arith) g))

pub fine_if : {n : ℕ} {c b : Ops} → Fine n c → Fine n b → Fine n (if_code c b)
fine_if {n} {c} {b} f g = fine_join f (fine_when (span b) (end_place b) g)

-- the place behind so many operations and two elements
past : (os qs : Ops) (o : Op) → size o ≡ 2 → is_place (os ⊕ MoreOp o qs) (span os + 2) ≡ true
past os qs o two =
    let there : span os + 2 ≡ span (os ⊕ one o) = omega (arith, span-join os (one o), two) in
    ap (is_place (os ⊕ MoreOp o qs)) there ∙ ap (λ rs. is_place rs (span (os ⊕ one o))) (sym (join_assoc os (one o) qs)) ∙ is_place-seam (os ⊕ one o) qs

pub fine_if_else : {n : ℕ} {c b e : Ops} → Fine n c → Fine n b → Fine n e → Fine n (if_else_code c b e)
fine_if_else {n} {c} {b} {e} f g h =
    fine_join f (fine_when (span b + 2) (past b e (o.Jump (pos (span e))) refl) (fine_join g (fine_jump (span e) (end_place e) h)))

pub fine_try : {n : ℕ} {b h : Ops} → Fine n b → Fine n h → Fine n (try_code b h)
fine_try {n} {b} {h} f g =
    let tail = MoreOp o.PopTry (MoreOp (o.Jump (pos (span h))) h) in
    fine_opens (span b + 3) over_both (fine_join f (fine_more o.PopTry refl refl (omega arith) (fine_jump (span h) (end_place h) g)))
  where
    over_both : is_place (b ⊕ MoreOp o.PopTry (MoreOp (o.Jump (pos (span h))) h)) (span b + 3) ≡ true
    over_both =
        let front = b ⊕ one o.PopTry in
        let jump = o.Jump (pos (span h)) in
        let there : span b + 3 ≡ span front + 2 = omega (arith, span-join b (one o.PopTry)) in
        ap (is_place (b ⊕ MoreOp o.PopTry (MoreOp jump h))) there
        ∙ ap (λ rs. is_place rs (span front + 2)) (sym (join_assoc b (one o.PopTry) (MoreOp jump h)))
        ∙ past front h jump refl
