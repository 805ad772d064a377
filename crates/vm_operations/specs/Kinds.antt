-- Kinds of operations, and what is done at one.
use Rattle.std.specs.Prelude.{◌≡◌, ℕ, ◌+◌, ◌<◌, List, length, Bool, true, false, Option, Some, None}
use Rattle.hog_tree.specs.declared.tree.BinaryOp.{BinaryOp}
use Rattle.hog_tree.specs.declared.tree.BinaryOp.TheVariants as b
use Rattle.hog_ops.specs.Plain.{Op, GetGlobal, CallGlobal, And, Or, Not, Plus, Minus, Multiply, Eq, NotEq, Gt, GtEq, Lt, LtEq, IsIn, NotIn, PushTrue, PushFalse, PushNull, Str, Integer, Pop, GetLocal, SetLocal, Return, Jump, JumpIfFalse, Dict, Array, GetProperty, SetProperty, JumpIfStackNotNull, GetPropertyNullish, Throw, Try, PopTry, Callable, CallLocal, GetUpvalue, SetUpvalue, CloseUpvalue}
use Rattle.hog_ops.specs.Table.{row, size}
use Rattle.hog_ops.specs.Valid.{op_allowed}
use Rattle.hog_meaning.specs.Meaning.{place_in}
use Rattle.vm_frames.specs.Reading.{Reading, LeadsNear}
use Rattle.vm_frames.specs.Parts.{innermost}
use Rattle.vm_course.specs.State.{State}
use Rattle.vm_course.specs.Step.{act}
use Rattle.vm_operations.specs.Here.{here_of}

-- operators on two values
abbrev pub operator_of : Op → Option BinaryOp
operator_of Plus = Some b.Plus
operator_of Minus = Some b.Minus
operator_of Multiply = Some b.Times
operator_of Eq = Some b.Equal
operator_of NotEq = Some b.NotEqual
operator_of Gt = Some b.Greater
operator_of GtEq = Some b.GreaterEqual
operator_of Lt = Some b.Less
operator_of LtEq = Some b.LessEqual
operator_of IsIn = Some b.IsIn
operator_of NotIn = Some b.NotIn
operator_of o = None

-- where it goes on, and where a throw lands
abbrev pub is_jump : Op → Bool
is_jump (Jump d) = true
is_jump (JumpIfFalse d) = true
is_jump (JumpIfStackNotNull d) = true
is_jump (Try d) = true
is_jump PopTry = true
is_jump o = false

-- variables, and what is taken off the stack
abbrev pub is_variable : Op → Bool
is_variable Pop = true
is_variable (GetLocal n) = true
is_variable (SetLocal n) = true
is_variable (GetUpvalue n) = true
is_variable (SetUpvalue n) = true
is_variable CloseUpvalue = true
is_variable o = false

-- arrays, dictionaries and their properties
abbrev pub is_cell : Op → Bool
is_cell (Dict n) = true
is_cell (Array n) = true
is_cell GetProperty = true
is_cell SetProperty = true
is_cell GetPropertyNullish = true
is_cell o = false

-- functions, natives, and what is thrown
abbrev pub is_call : Op → Bool
is_call (CallGlobal f n) = true
is_call (CallLocal n) = true
is_call (Callable name params body captures) = true
is_call Return = true
is_call Throw = true
is_call o = false

-- What is known of an operation that begins where the machine stands: its end, and that it is one of the table.
pub record IsNext (code : Reading) (op : Op) (behind : ℕ) (s : State) : Type 0 where
  pub ends : behind ≡ (innermost s.frames).place + size op
  pub allowed : op_allowed op ≡ true
  pub near : LeadsNear behind (row op)

-- the operation of a code was done, where the cell of the globals has a number
abbrev pub DoesIn : Reading → ℕ → Op → ℕ → State → State → Type 0
DoesIn code globals op behind before after =
    after ≡ act (record { literals = code.literals; globals = globals }) code.slots op (here_of behind before) before
