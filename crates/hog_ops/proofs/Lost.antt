-- Whether a distance leads nowhere doesn't depend on where a code begins.
use Rattle.std.proofs.Common.{◌≡◌, ℕ, ◌+◌, Option, Some, None, Bool, true, false, cond, refl, ap₂, ◌∙◌}
use Rattle.hog_ops.specs.Plain.{Op, Ops, Callable, NoOp, MoreOp}
use Rattle.hog_ops.specs.Table.{row, size}
use Rattle.hog_ops.specs.Valid.{row_leads, or_then, op_lost, lost_in, lost}

pub or_then_none : {A : Type 0} (x y : Option A) → or_then x y ≡ None → (x ≡ None) × (y ≡ None)
or_then_none None y e = (refl, e)
or_then_none (Some a) y e = absurd cc

one_none : (t : Bool) (p q : ℕ) → cond t None (Some p) ≡ None → cond t None (Some q) ≡ None
one_none true p q e = refl
one_none false p q e = absurd cc

mutual
  op_none : (b c : ℕ) (body : Ops) (at : ℕ) (o : Op) → op_lost b body at o ≡ None → op_lost c body at o ≡ None
  op_none b c body at (Callable name params inner captures) e = ops_none (b + (at + 5)) (c + (at + 5)) inner 0 inner e
  op_none b c body at o e = one_none (row_leads body (at + size o) (row o)) (b + at) (c + at) e

  ops_none : (b c : ℕ) (body : Ops) (at : ℕ) (os : Ops) → lost_in b body at os ≡ None → lost_in c body at os ≡ None
  ops_none b c body at NoOp e = refl
  ops_none b c body at (MoreOp o os) e =
      let h = or_then_none (op_lost b body at o) (lost_in b body (at + size o) os) e in
      ap₂ or_then (op_none b c body at o h.0) (ops_none b c body (at + size o) os h.1)

pub lost_none : (b c : ℕ) (ops : Ops) → lost b ops ≡ None → lost c ops ≡ None
lost_none b c ops e = ops_none b c ops 0 ops e
