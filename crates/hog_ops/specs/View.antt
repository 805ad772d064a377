-- The plain operations of operations, and the other way round.
use Rattle.std.specs.Prelude.{◌≡◌, List, [], ◌∷◌, ◌++◌}
use Rattle.std.proofs.Common.{refl, sym, ap, ap₂, ◌∙◌}
use Rattle.hog_ops.specs.Plain as p
use Rattle.hog_ops.specs.Plain.{Ops, NoOp, MoreOp, ◌⊕◌}
use Rattle.hog_ops.specs.declared.operation.Op.{Op}
use Rattle.hog_ops.specs.declared.operation.Op.TheVariants.{GetGlobal, CallGlobal, And, Or, Not, Plus, Minus, Multiply, Eq, NotEq, Gt, GtEq, Lt, LtEq, IsIn, NotIn, PushTrue, PushFalse, PushNull, Str, Integer, Pop, GetLocal, SetLocal, Return, Jump, JumpIfFalse, Dict, Array, GetProperty, SetProperty, JumpIfStackNotNull, GetPropertyNullish, Throw, Try, PopTry, Callable, CallLocal, GetUpvalue, SetUpvalue, CloseUpvalue}

abbrev pub op_of : Op → p.Op
op_of (GetGlobal n) = p.GetGlobal n
op_of (CallGlobal f n) = p.CallGlobal f n
op_of (And n) = p.And n
op_of (Or n) = p.Or n
op_of Not = p.Not
op_of Plus = p.Plus
op_of Minus = p.Minus
op_of Multiply = p.Multiply
op_of Eq = p.Eq
op_of NotEq = p.NotEq
op_of Gt = p.Gt
op_of GtEq = p.GtEq
op_of Lt = p.Lt
op_of LtEq = p.LtEq
op_of IsIn = p.IsIn
op_of NotIn = p.NotIn
op_of PushTrue = p.PushTrue
op_of PushFalse = p.PushFalse
op_of PushNull = p.PushNull
op_of (Str t) = p.Str t
op_of (Integer z) = p.Integer z
op_of Pop = p.Pop
op_of (GetLocal n) = p.GetLocal n
op_of (SetLocal n) = p.SetLocal n
op_of Return = p.Return
op_of (Jump d) = p.Jump d
op_of (JumpIfFalse d) = p.JumpIfFalse d
op_of (Dict n) = p.Dict n
op_of (Array n) = p.Array n
op_of GetProperty = p.GetProperty
op_of SetProperty = p.SetProperty
op_of (JumpIfStackNotNull d) = p.JumpIfStackNotNull d
op_of GetPropertyNullish = p.GetPropertyNullish
op_of Throw = p.Throw
op_of (Try d) = p.Try d
op_of PopTry = p.PopTry
op_of (Callable c) = p.Callable c.name c.params c.body c.captures
op_of (CallLocal n) = p.CallLocal n
op_of (GetUpvalue n) = p.GetUpvalue n
op_of (SetUpvalue n) = p.SetUpvalue n
op_of CloseUpvalue = p.CloseUpvalue

abbrev pub ops_of : List Op → Ops
ops_of [] = NoOp
ops_of (o ∷ os) = MoreOp (op_of o) (ops_of os)

abbrev op_in : p.Op → Op
op_in (p.GetGlobal n) = GetGlobal n
op_in (p.CallGlobal f n) = CallGlobal f n
op_in (p.And n) = And n
op_in (p.Or n) = Or n
op_in p.Not = Not
op_in p.Plus = Plus
op_in p.Minus = Minus
op_in p.Multiply = Multiply
op_in p.Eq = Eq
op_in p.NotEq = NotEq
op_in p.Gt = Gt
op_in p.GtEq = GtEq
op_in p.Lt = Lt
op_in p.LtEq = LtEq
op_in p.IsIn = IsIn
op_in p.NotIn = NotIn
op_in p.PushTrue = PushTrue
op_in p.PushFalse = PushFalse
op_in p.PushNull = PushNull
op_in (p.Str t) = Str t
op_in (p.Integer z) = Integer z
op_in p.Pop = Pop
op_in (p.GetLocal n) = GetLocal n
op_in (p.SetLocal n) = SetLocal n
op_in p.Return = Return
op_in (p.Jump d) = Jump d
op_in (p.JumpIfFalse d) = JumpIfFalse d
op_in (p.Dict n) = Dict n
op_in (p.Array n) = Array n
op_in p.GetProperty = GetProperty
op_in p.SetProperty = SetProperty
op_in (p.JumpIfStackNotNull d) = JumpIfStackNotNull d
op_in p.GetPropertyNullish = GetPropertyNullish
op_in p.Throw = Throw
op_in (p.Try d) = Try d
op_in p.PopTry = PopTry
op_in (p.Callable name params body captures) = Callable record { name = name; params = params; body = body; captures = captures }
op_in (p.CallLocal n) = CallLocal n
op_in (p.GetUpvalue n) = GetUpvalue n
op_in (p.SetUpvalue n) = SetUpvalue n
op_in p.CloseUpvalue = CloseUpvalue

abbrev ops_in : Ops → List Op
ops_in NoOp = []
ops_in (MoreOp o os) = op_in o ∷ ops_in os

op_back : (o : Op) → op_in (op_of o) ≡ o
op_back (GetGlobal n) = refl
op_back (CallGlobal f n) = refl
op_back (And n) = refl
op_back (Or n) = refl
op_back Not = refl
op_back Plus = refl
op_back Minus = refl
op_back Multiply = refl
op_back Eq = refl
op_back NotEq = refl
op_back Gt = refl
op_back GtEq = refl
op_back Lt = refl
op_back LtEq = refl
op_back IsIn = refl
op_back NotIn = refl
op_back PushTrue = refl
op_back PushFalse = refl
op_back PushNull = refl
op_back (Str t) = refl
op_back (Integer z) = refl
op_back Pop = refl
op_back (GetLocal n) = refl
op_back (SetLocal n) = refl
op_back Return = refl
op_back (Jump d) = refl
op_back (JumpIfFalse d) = refl
op_back (Dict n) = refl
op_back (Array n) = refl
op_back GetProperty = refl
op_back SetProperty = refl
op_back (JumpIfStackNotNull d) = refl
op_back GetPropertyNullish = refl
op_back Throw = refl
op_back (Try d) = refl
op_back PopTry = refl
op_back (Callable c) = refl
op_back (CallLocal n) = refl
op_back (GetUpvalue n) = refl
op_back (SetUpvalue n) = refl
op_back CloseUpvalue = refl

ops_back : (os : List Op) → ops_in (ops_of os) ≡ os
ops_back [] = refl
ops_back (o ∷ os) = ap₂ (λ x xs. x ∷ xs) (op_back o) (ops_back os)

-- operations with the same plain operations are the same
pub ops_of_one : (xs ys : List Op) → ops_of xs ≡ ops_of ys → xs ≡ ys
ops_of_one xs ys e = sym (ops_back xs) ∙ ap ops_in e ∙ ops_back ys

pub ops_of-append : (xs ys : List Op) → ops_of (xs ++ ys) ≡ ops_of xs ⊕ ops_of ys
ops_of-append [] ys = refl
ops_of-append (x ∷ xs) ys = ap (MoreOp (op_of x)) (ops_of-append xs ys)
