-- A body takes fewer elements than the code that holds it.
use Rattle.std.specs.Prelude.{◌≤◌, List, [], ◌∷◌}
use Rattle.std.proofs.Common.{arith}
use denote.Param.Weighed.{most}
use Rattle.hog_ops.specs.declared.operation.Op.{Op}
use Rattle.hog_ops.specs.declared.operation.Op.TheVariants.{GetGlobal, CallGlobal, And, Or, Not, Plus, Minus, Multiply, Eq, NotEq, Gt, GtEq, Lt, LtEq, IsIn, NotIn, PushTrue, PushFalse, PushNull, Str, Integer, Pop, GetLocal, SetLocal, Return, Jump, JumpIfFalse, Dict, Array, GetProperty, SetProperty, JumpIfStackNotNull, GetPropertyNullish, Throw, Try, PopTry, Callable, CallLocal, GetUpvalue, SetUpvalue, CloseUpvalue}
use Rattle.hog_ops.specs.declared.operation.Code.TheDeep.{deep-Op}
use Rattle.hog_ops.specs.Table.{size, span}
use Rattle.hog_ops.specs.View.{op_of, ops_of}

op_deep : (o : Op) → deep-Op o ≤ size (op_of o)
op_deep (GetGlobal n) = omega arith
op_deep (CallGlobal f n) = omega arith
op_deep (And n) = omega arith
op_deep (Or n) = omega arith
op_deep Not = omega arith
op_deep Plus = omega arith
op_deep Minus = omega arith
op_deep Multiply = omega arith
op_deep Eq = omega arith
op_deep NotEq = omega arith
op_deep Gt = omega arith
op_deep GtEq = omega arith
op_deep Lt = omega arith
op_deep LtEq = omega arith
op_deep IsIn = omega arith
op_deep NotIn = omega arith
op_deep PushTrue = omega arith
op_deep PushFalse = omega arith
op_deep PushNull = omega arith
op_deep (Str t) = omega arith
op_deep (Integer z) = omega arith
op_deep Pop = omega arith
op_deep (GetLocal n) = omega arith
op_deep (SetLocal n) = omega arith
op_deep Return = omega arith
op_deep (Jump d) = omega arith
op_deep (JumpIfFalse d) = omega arith
op_deep (Dict n) = omega arith
op_deep (Array n) = omega arith
op_deep GetProperty = omega arith
op_deep SetProperty = omega arith
op_deep (JumpIfStackNotNull d) = omega arith
op_deep GetPropertyNullish = omega arith
op_deep Throw = omega arith
op_deep (Try d) = omega arith
op_deep PopTry = omega arith
op_deep (Callable c) = omega arith
op_deep (CallLocal n) = omega arith
op_deep (GetUpvalue n) = omega arith
op_deep (SetUpvalue n) = omega arith
op_deep CloseUpvalue = omega arith

pub most_deep : (os : List Op) → most deep-Op os ≤ span (ops_of os)
most_deep [] = omega arith
most_deep (o ∷ os) = omega (arith, op_deep o, most_deep os)
