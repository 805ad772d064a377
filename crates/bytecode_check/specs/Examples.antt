-- What becomes of some codes.
use Rattle.std.specs.Prelude.{◌≡◌, ℕ, pos, negsuc, List, [], ◌∷◌, true, Option, Some, None, Result, Ok, Err}
use Rattle.std.proofs.Common.{refl}
use Rattle.hog_ops.specs.declared.capture.Capture.{Capture}
use Rattle.hog_ops.specs.Plain.{Op, Ops, NoOp, MoreOp, Integer, Plus, Pop, PushTrue, PushNull, GetLocal, SetLocal, GetUpvalue, Return, Throw, Jump, JumpIfFalse, Try, PopTry, Callable}
use Rattle.bytecode_check.specs.declared.stops.VerifyStop.{VerifyStop}
use Rattle.bytecode_check.specs.declared.stops.VerifyStop.TheVariants.{Underflow, NoLocal, NoUpvalue, NoTry, FallsOff, ShapesDiffer}
use Rattle.bytecode_check.specs.Shape.{Shapes}
use Rattle.bytecode_check.specs.Verify.{verified}

abbrev these : List Op → Ops
these [] = NoOp
these (o ∷ os) = MoreOp o (these os)

abbrev refusal_in : Result Shapes VerifyStop → Option VerifyStop
refusal_in (Ok shapes) = None
refusal_in (Err stop) = Some stop

-- the refusal of operations, where they are refused
abbrev refusal : List Op → Option VerifyStop
refusal os = refusal_in (verified (these os))

-- a function without a name
abbrev function : ℕ → List Op → List Capture → Op
function params body captures = Callable [] params (these body) captures

abbrev int : ℕ → Op
int n = Integer (pos n)

abbrev forth : ℕ → Op
forth n = Jump (pos n)

-- so many elements back, at least one
abbrev back : ℕ → Op
back n = Jump (negsuc n)

sum : refusal (int 2 ∷ int 1 ∷ Plus ∷ Return ∷ []) ≡ None
unfolding verified
sum = refl

too_few : refusal (Plus ∷ Return ∷ []) ≡ Some (Underflow 2)
unfolding verified
too_few = refl

no_local_there : refusal (GetLocal 0 ∷ Return ∷ []) ≡ Some (NoLocal 2)
unfolding verified
no_local_there = refl

-- the value that is set doesn't count
set_itself : refusal (int 1 ∷ SetLocal 0 ∷ []) ≡ Some (NoLocal 4)
unfolding verified
set_itself = refl

no_upvalue_there : refusal (GetUpvalue 0 ∷ Return ∷ []) ≡ Some (NoUpvalue 2)
unfolding verified
no_upvalue_there = refl

no_try_there : refusal (PopTry ∷ PushNull ∷ Return ∷ []) ≡ Some (NoTry 2)
unfolding verified
no_try_there = refl

falls : refusal (PushNull ∷ []) ≡ Some (FallsOff 2)
unfolding verified
falls = refl

empty : refusal [] ≡ Some (FallsOff 2)
unfolding verified
empty = refl

-- back to a place with another shape
grows : refusal (PushTrue ∷ back 2 ∷ Return ∷ []) ≡ Some (ShapesDiffer 3)
unfolding verified
grows = refl

-- to itself, until the turns are spent
round : refusal (back 1 ∷ []) ≡ None
unfolding verified
round = refl

-- back to a place that was passed over
back_to_none : refusal (forth 1 ∷ Pop ∷ back 2 ∷ []) ≡ Some (ShapesDiffer 5)
unfolding verified
back_to_none = refl

-- an operation without a shape is passed over, with its body
passed : refusal (forth 8 ∷ function 0 (Plus ∷ []) [] ∷ PushNull ∷ Return ∷ []) ≡ None
unfolding verified
passed = refl

-- a function's own rules come before those of its body
own_first : refusal (function 0 (Plus ∷ []) [] ∷ []) ≡ Some (FallsOff 2)
unfolding verified
own_first = refl

body_then : refusal (function 1 (Plus ∷ []) [] ∷ Return ∷ []) ≡ Some (Underflow 7)
unfolding verified
body_then = refl

empty_body : refusal (function 1 [] [] ∷ Return ∷ []) ≡ Some (FallsOff 7)
unfolding verified
empty_body = refl

-- a function may capture its own place, and none further
own_place : refusal (function 0 (GetUpvalue 0 ∷ Return ∷ []) (record { local = true; index = 0 } ∷ []) ∷ Return ∷ []) ≡ None
unfolding verified
own_place = refl

past_own : refusal (function 0 (GetUpvalue 0 ∷ Return ∷ []) (record { local = true; index = 1 } ∷ []) ∷ Return ∷ []) ≡ Some (NoLocal 2)
unfolding verified
past_own = refl

-- a body within a body within a try
nested : refusal (Try (pos 24) ∷ function 1 (function 0 (GetUpvalue 0 ∷ Return ∷ []) (record { local = true; index = 0 } ∷ []) ∷ Return ∷ []) [] ∷ Pop ∷ PopTry ∷ PushNull ∷ Return ∷ Return ∷ []) ≡ None
unfolding verified
nested = refl

-- no operand of an operation stands below an open try
below_try : refusal (int 1 ∷ Try (pos 3) ∷ Pop ∷ PopTry ∷ PushNull ∷ Return ∷ []) ≡ Some (Underflow 6)
unfolding verified
below_try = refl

-- a try, and one in it
tries : refusal (Try (pos 8) ∷ Try (pos 3) ∷ int 1 ∷ Throw ∷ Pop ∷ PopTry ∷ PushNull ∷ Return ∷ []) ≡ None
unfolding verified
tries = refl

try_to_next : refusal (Try (pos 0) ∷ int 1 ∷ Return ∷ []) ≡ Some (ShapesDiffer 2)
unfolding verified
try_to_next = refl

-- past the catch place of an open try
past_catch : refusal (Try (pos 2) ∷ forth 1 ∷ Return ∷ int 1 ∷ Return ∷ []) ≡ Some (ShapesDiffer 4)
unfolding verified
past_catch = refl

-- two tries with one catch place are one
one_catch : refusal (PushTrue ∷ JumpIfFalse (pos 4) ∷ Try (pos 7) ∷ forth 2 ∷ Try (pos 3) ∷ PopTry ∷ PushNull ∷ Return ∷ Return ∷ []) ≡ None
unfolding verified
one_catch = refl
