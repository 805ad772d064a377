-- Which code is accepted: its operations are taken from left to right, and the first that breaks a rule refuses it.
pub use Rattle.bytecode_check.specs.declared.checker.Around.{Around}
use Rattle.std.specs.Prelude.{◌≡◌, ℕ, ◌+◌, ◌-◌, List, [], ◌∷◌, length, Bool, true, false, not, ◌&&◌, ◌==◌, Option, Some, None, if◌then◌else◌, nat_lt, nat_le, Result, Ok, Err}
use Rattle.std.specs.List.{list_any}
use Rattle.hog_ops.specs.declared.capture.Capture.{Capture}
use Rattle.hog_ops.specs.Plain.{Op, Ops, NoOp, MoreOp, GetLocal, SetLocal, GetUpvalue, SetUpvalue, PopTry, Callable}
use Rattle.hog_ops.specs.Table.{size, span}
use Rattle.bytecode_check.specs.declared.stops.VerifyStop.{VerifyStop}
use Rattle.bytecode_check.specs.declared.stops.VerifyStop.TheVariants.{Underflow, NoLocal, NoUpvalue, NoTry, FallsOff, ShapesDiffer}
use Rattle.bytecode_check.specs.Shape.{OpenTry, Shape, shaped, same_shape, floor, before_catches, Shapes, shape_at, given}
use Rattle.bytecode_check.specs.Effects.{effect, Lead, leads}

-- a program begins behind the two elements of the header
abbrev pub program_start : ℕ
program_start = 2

-- how far behind its CALLABLE a body begins
abbrev pub body_offset : ℕ
body_offset = 5

-- fewer operands than it takes off or looks at above the depth of the innermost try
abbrev pub underflows : Op → Shape → Bool
underflows op shape = nat_lt shape.depth (floor shape.tries + (effect op).looks)

-- a function may capture its own place, which is at the depth
abbrev pub captures_past : ℕ → Capture → Bool
captures_past depth c = c.local && nat_lt depth c.index

-- a local at or past the depth that is left when the operands are taken off
abbrev pub no_local : Op → ℕ → Bool
no_local (GetLocal i) depth = nat_le depth i
no_local (SetLocal i) depth = nat_le (depth - 1) i
no_local (Callable name params body captures) depth = list_any (captures_past depth) captures
no_local op depth = false

abbrev pub captures_none : ℕ → Capture → Bool
captures_none there c = not c.local && nat_le there c.index

-- an upvalue at or past the captures of the body
abbrev pub no_upvalue : Op → ℕ → Bool
no_upvalue (GetUpvalue i) there = nat_le there i
no_upvalue (SetUpvalue i) there = nat_le there i
no_upvalue (Callable name params body captures) there = list_any (captures_none there) captures
no_upvalue op there = false

abbrev pub is_empty : List OpenTry → Bool
is_empty [] = true
is_empty (t ∷ ts) = false

abbrev pub no_try : Op → List OpenTry → Bool
no_try PopTry tries = is_empty tries
no_try op tries = false

-- one of the places is the end of the body
abbrev pub leads_off : ℕ → List Lead → Bool
leads_off end ls = list_any (λ lead. lead.0 == end) ls

-- a place has the very shape that it is given, or it has none yet and stands ahead
abbrev pub agrees : ℕ → ℕ → Shape → Option Shape → Bool
agrees at place shape None = nat_lt at place
agrees at place shape (Some old) = same_shape old shape

-- what the operation at `at` may give: the place stands before the catch place of each try that is open in the shape, too
abbrev pub may_get : ℕ → Shapes → Lead → Bool
may_get at shapes lead = before_catches lead.0 lead.1.tries && agrees at lead.0 lead.1 (shape_at shapes lead.0)

-- each place to which the operation leads gets its shape
abbrev pub give_all : ℕ → List Lead → Shapes → Result Shapes VerifyStop
give_all at [] shapes = Ok shapes
give_all at (lead ∷ leads) shapes = if may_get at shapes lead then give_all at leads (given shapes lead.0 lead.1) else Err (ShapesDiffer at)

-- an operation with its shape: the first rule that it breaks refuses the code
abbrev pub judge : Around → ℕ → Op → Shape → Shapes → Result Shapes VerifyStop
judge around at op shape shapes =
    if underflows op shape then Err (Underflow at)
    else (if no_local op shape.depth then Err (NoLocal at)
    else (if no_upvalue op around.captures then Err (NoUpvalue at)
    else (if no_try op shape.tries then Err (NoTry at)
    else (if leads_off around.end (leads (at + size op) op shape) then Err (FallsOff at)
    else give_all at (leads (at + size op) op shape) shapes))))

abbrev pub and_then : Result Shapes VerifyStop → (Shapes → Result Shapes VerifyStop) → Result Shapes VerifyStop
and_then (Ok shapes) go = go shapes
and_then (Err stop) go = Err stop

-- an operation without a shape is passed over, with its body
abbrev pub where_shaped : Option Shape → Shapes → (Shape → Result Shapes VerifyStop) → Result Shapes VerifyStop
where_shaped None shapes go = Ok shapes
where_shaped (Some shape) shapes go = go shape

-- a body begins with its parameters and no tries; an empty one falls off where it begins
abbrev pub begun : ℕ → Ops → ℕ → ℕ → Shapes → (Shapes → Result Shapes VerifyStop) → Result Shapes VerifyStop
begun at NoOp start params shapes go = Err (FallsOff start)
begun at (MoreOp o os) start params shapes go = and_then (give_all at ((start, shaped params []) ∷ []) shapes) go

abbrev mutual
  pub check_op : Around → ℕ → Op → Shapes → Result Shapes VerifyStop
  check_op around at (Callable name params body captures) shapes =
      where_shaped (shape_at shapes at) shapes
      (λ shape. and_then (judge around at (Callable name params body captures) shape shapes)
      (λ shapes1. begun at body (at + body_offset) params shapes1
      (check_all (record { captures = length captures; end = at + body_offset + span body }) (at + body_offset) body)))
  check_op around at op shapes = where_shaped (shape_at shapes at) shapes (λ shape. judge around at op shape shapes)

  -- the operations of a body; a function's body is taken at its CALLABLE, before what follows
  pub check_all : Around → ℕ → Ops → Shapes → Result Shapes VerifyStop
  check_all around at NoOp shapes = Ok shapes
  check_all around at (MoreOp o os) shapes = and_then (check_op around at o shapes) (check_all around (at + size o) os)

-- the program is a body without parameters and captures
unfoldable pub verified : Ops → Result Shapes VerifyStop
verified code =
    begun 0 code program_start 0 []
    (check_all (record { captures = 0; end = program_start + span code }) program_start code)

pub record IsAccepted (code : Ops) : Type 0 where
  pub shapes : Shapes
  pub is : verified code ≡ Ok shapes
