-- What the machine holds, and the code that it runs.
use Rattle.std.specs.Prelude.{ℕ, ◌+◌, ◌-◌, List, [], ◌∷◌, ◌++◌, length, replicate, Option, Some, None, slice_get, option_and_then}
use Rattle.hog_value.specs.declared.cell.FunCell.{FunCell}
use Rattle.hog_value.specs.declared.trace.TraceItem.{TraceItem}
use Rattle.hog_value.specs.declared.trace.End.{End}
use Rattle.hog_value.specs.Values.{Val}
use Rattle.hog_value.specs.Cells.{CellOf, Text, Array, Dict, Fun, HeapOf}
use Rattle.hog_meaning.specs.World.{Reply}
use Rattle.hog_ops.specs.Plain.{Op, Ops, NoOp, MoreOp, Callable}
use Rattle.hog_ops.specs.Table.{size}

-- An element of a code as the machine sees it: where an operation begins, where a body ends, or one of an operation's
-- operands.
pub data Slot : Type 0 where
  Begins : Op → Slot
  BodyEnds : Slot
  Operand : Slot

-- the elements of an operation, the operations of its body among them where it has one
abbrev mutual
  pub op_slots : Op → List Slot
  op_slots (Callable name params body captures) =
      Begins (Callable name params body captures) ∷ (replicate 4 Operand ++ (slots body ++ (BodyEnds ∷ replicate (1 + (length captures + length captures)) Operand)))
  op_slots o = Begins o ∷ replicate (size o - 1) Operand

  pub slots : Ops → List Slot
  slots NoOp = []
  slots (MoreOp o os) = op_slots o ++ slots os

-- a code as the elements of its bytecode; the header has two
abbrev pub code_slots : Ops → List Slot
code_slots code = Operand ∷ Operand ∷ slots code

-- where the program begins, and how far behind the place of a CALLABLE its body begins
abbrev pub first_place : ℕ
first_place = 2

abbrev pub header : ℕ
header = 5

-- an upvalue: the place on the stack where its variable stands, or the value that it has taken along
pub data Upvalue : Type 0 where
  Opened : ℕ → Upvalue
  Closed : Val → Upvalue

-- a call: the place of its next operation, where its locals begin on the stack, and the cell of its function; the program
-- has none
pub record Frame : Type 0 where
  pub place : ℕ
  pub base : ℕ
  pub function : Option ℕ

-- where a throw lands: how many frames are left then, how long the stack is, and the place that goes on
pub record ThrowFrame : Type 0 where
  pub frames : ℕ
  pub height : ℕ
  pub catch : ℕ

-- whether the machine goes on, waits for a reply, or has ended
pub data Mode : Type 0 where
  Running : Mode
  Waiting : Mode
  Ended : End → Mode

-- The stack has its top first; places on it count from the bottom. The innermost frame and the last throw frame come first.
-- Upvalues have numbers, in the order in which they are made.
pub record State : Type 0 where
  pub stack : List Val
  pub frames : List Frame
  pub throws : List ThrowFrame
  pub upvalues : List Upvalue
  pub heap : HeapOf FunCell
  pub turns : ℕ
  pub units : ℕ
  pub trace : List TraceItem
  pub replies : List Reply
  pub mode : Mode

-- functions

-- a function's cell
abbrev pub function_in : CellOf FunCell → Option FunCell
function_in (Text t) = None
function_in (Array vs) = None
function_in (Dict ps) = None
function_in (Fun f) = Some f

abbrev pub function_at : HeapOf FunCell → ℕ → Option FunCell
function_at h n = option_and_then function_in (slice_get h n)

-- how many parameters the function whose body begins at a place has
abbrev pub params_of : Op → Option ℕ
params_of (Callable name params body captures) = Some params
params_of o = None

abbrev pub params_in : Slot → Option ℕ
params_in (Begins o) = params_of o
params_in BodyEnds = None
params_in Operand = None

abbrev pub params_at : List Slot → ℕ → Option ℕ
params_at code place = option_and_then params_in (slice_get code (place - header))
