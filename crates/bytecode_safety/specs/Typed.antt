-- A typing of a code: shapes of places with which each operation that has one has what it needs, and leads to places of its
-- body that have the shapes which it leaves. How it was found doesn't matter.
use Rattle.std.specs.Prelude.{◌≡◌, ℕ, ◌+◌, ◌≤◌, List, [], ◌∷◌, length, true, false, Some}
use Rattle.hog_ops.specs.Plain.{Op, Ops, NoOp, MoreOp, Callable}
use Rattle.hog_ops.specs.Table.{size, span}
use Rattle.bytecode_check.specs.declared.checker.Around.{Around}
use Rattle.bytecode_check.specs.Shape.{Shape, shaped, floor, before_catches, Shapes, shape_at}
use Rattle.bytecode_check.specs.Effects.{effect, Lead, leads}
use Rattle.bytecode_check.specs.Verify.{program_start, body_offset, no_local, no_upvalue, no_try, leads_off}

-- a place has this shape, and stands before the catch places of the tries that are open in it
pub record Given (Y : Shapes) (place : ℕ) (shape : Shape) : Type 0 where
  pub is : shape_at Y place ≡ Some shape
  pub before : before_catches place shape.tries ≡ true

abbrev pub EachLead : (ℕ → Shape → Type 0) → List Lead → Type 0
EachLead P [] = Unit {0}
EachLead P (l ∷ ls) = P l.0 l.1 × EachLead P ls

-- an operation with this shape has its operands above the innermost try, its locals, upvalues and try, and stays in its body
pub record Fine (Y : Shapes) (b : Around) (at : ℕ) (op : Op) (sh : Shape) : Type 0 where
  pub operands : floor sh.tries + (effect op).looks ≤ sh.depth
  pub local : no_local op sh.depth ≡ false
  pub upvalue : no_upvalue op b.captures ≡ false
  pub open_try : no_try op sh.tries ≡ false
  pub inside : leads_off b.end (leads (at + size op) op sh) ≡ false
  pub given : EachLead (Given Y) (leads (at + size op) op sh)

abbrev pub HasFirst : Ops → Type 0
HasFirst NoOp = ⊥
HasFirst (MoreOp o os) = Unit {0}

abbrev mutual
  -- an operation with a shape is fine, and so is its body, which begins with its parameters and no tries
  pub SoundOp : Shapes → Around → ℕ → Op → Type 0
  SoundOp Y b at (Callable name params body captures) =
      (sh : Shape) → shape_at Y at ≡ Some sh → Fine Y b at (Callable name params body captures) sh × HasFirst body × (shape_at Y (at + body_offset) ≡ Some (shaped params []))
      × Sound Y (record { captures = length captures; end = at + body_offset + span body }) (at + body_offset) body
  SoundOp Y b at op = (sh : Shape) → shape_at Y at ≡ Some sh → Fine Y b at op sh

  pub Sound : Shapes → Around → ℕ → Ops → Type 0
  Sound Y b at NoOp = Unit {0}
  Sound Y b at (MoreOp o os) = SoundOp Y b at o × Sound Y b (at + size o) os

pub record Typed (code : Ops) (Y : Shapes) : Type 0 where
  pub some : HasFirst code
  pub start : shape_at Y program_start ≡ Some (shaped 0 [])
  pub sound : Sound Y (record { captures = 0; end = program_start + span code }) program_start code
