-- The table of operations: what each takes off the stack and leaves there, and to which places it leads.
pub use Rattle.bytecode_check.specs.declared.table.Effect.{Effect}
use Rattle.std.specs.Prelude.{ℕ, suc, ◌+◌, ◌-◌, ◌*◌, ℤ, pos, negsuc, List, [], ◌∷◌, drop}
use Rattle.hog_ops.specs.Plain.{Op, GetGlobal, CallGlobal, And, Or, Not, Plus, Minus, Multiply, Eq, NotEq, Gt, GtEq, Lt, LtEq, IsIn, NotIn, PushTrue, PushFalse, PushNull, Str, Integer, Pop, GetLocal, SetLocal, Return, Jump, JumpIfFalse, Dict, Array, GetProperty, SetProperty, JumpIfStackNotNull, GetPropertyNullish, Throw, Try, PopTry, Callable, CallLocal, GetUpvalue, SetUpvalue, CloseUpvalue}
use Rattle.bytecode_check.specs.Shape.{Shape, shaped, open_try}

-- an operation that takes so many values off and leaves so many
abbrev pub takes : ℕ → ℕ → Effect
takes pops leaves = record { looks = pops; pops = pops; leaves = leaves }

abbrev pub effect : Op → Effect
effect (GetGlobal n) = takes n 1
effect (CallGlobal native n) = takes n 1
effect (And n) = takes n 1
effect (Or n) = takes n 1
effect Not = takes 1 1
effect Plus = takes 2 1
effect Minus = takes 2 1
effect Multiply = takes 2 1
effect Eq = takes 2 1
effect NotEq = takes 2 1
effect Gt = takes 2 1
effect GtEq = takes 2 1
effect Lt = takes 2 1
effect LtEq = takes 2 1
effect IsIn = takes 2 1
effect NotIn = takes 2 1
effect PushTrue = takes 0 1
effect PushFalse = takes 0 1
effect PushNull = takes 0 1
effect (Str text) = takes 0 1
effect (Integer z) = takes 0 1
effect Pop = takes 1 0
effect (GetLocal i) = takes 0 1
effect (SetLocal i) = takes 1 0
effect Return = takes 1 0
effect (Jump d) = takes 0 0
effect (JumpIfFalse d) = takes 1 0
effect (Dict n) = takes (2 * n) 1
effect (Array n) = takes n 1
effect GetProperty = takes 2 1
effect SetProperty = takes 3 0
-- looks at the top, and leaves it there
effect (JumpIfStackNotNull d) = record { looks = 1; pops = 0; leaves = 0 }
effect GetPropertyNullish = takes 2 1
effect Throw = takes 1 0
effect (Try d) = takes 0 0
effect PopTry = takes 0 0
effect (Callable name params body captures) = takes 0 1
-- the function stands on its arguments
effect (CallLocal n) = takes (suc n) 1
effect (GetUpvalue i) = takes 0 1
effect (SetUpvalue i) = takes 1 0
effect CloseUpvalue = takes 1 0

abbrev pub depth_after : Op → ℕ → ℕ
depth_after op depth = (depth - (effect op).pops) + (effect op).leaves

abbrev pub after : Op → Shape → Shape
after op shape = shaped (depth_after op shape.depth) shape.tries

-- the place so far from the one behind an operation
abbrev pub place_at : ℕ → ℤ → ℕ
place_at behind (pos n) = behind + n
place_at behind (negsuc n) = behind - suc n

-- a place to which an operation leads, and the shape that it gives to it
abbrev pub Lead : Type 0
Lead = ℕ × Shape

-- Where an operation leads, from a shape. A throw under a try goes to the catch place, with the thrown value on what stood
-- there where the try was opened.
abbrev pub leads : ℕ → Op → Shape → List Lead
leads behind Return shape = []
leads behind Throw shape = []
leads behind (Jump d) shape = (place_at behind d, shape) ∷ []
leads behind (JumpIfFalse d) shape = (behind, after (JumpIfFalse d) shape) ∷ (place_at behind d, after (JumpIfFalse d) shape) ∷ []
leads behind (JumpIfStackNotNull d) shape = (behind, shape) ∷ (place_at behind d, shape) ∷ []
leads behind (Try d) shape =
    (place_at behind d, shaped (suc shape.depth) shape.tries) ∷ (behind, shaped shape.depth (open_try shape.depth (place_at behind d) ∷ shape.tries)) ∷ []
leads behind PopTry shape = (behind, shaped shape.depth (drop 1 shape.tries)) ∷ []
leads behind op shape = (behind, after op shape) ∷ []
