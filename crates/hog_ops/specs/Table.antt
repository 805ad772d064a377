-- The table of operations: their numbers, what stands behind a number, and how many elements they take.
use Rattle.std.specs.Prelude.{ℕ, ◌+◌, ◌*◌, ◌==◌, ℤ, List, [], ◌∷◌, length, Option, Some, None, if◌then◌else◌}
use Rattle.hog_value.specs.declared.native.Native.{Native}
use Rattle.hog_ops.specs.declared.capture.Capture.{Capture}
use Rattle.hog_ops.specs.Plain.{Op, Ops, GetGlobal, CallGlobal, And, Or, Not, Plus, Minus, Multiply, Eq, NotEq, Gt, GtEq, Lt, LtEq, IsIn, NotIn, PushTrue, PushFalse, PushNull, Str, Integer, Pop, GetLocal, SetLocal, Return, Jump, JumpIfFalse, Dict, Array, GetProperty, SetProperty, JumpIfStackNotNull, GetPropertyNullish, Throw, Try, PopTry, Callable, CallLocal, GetUpvalue, SetUpvalue, CloseUpvalue, NoOp, MoreOp}

-- An operation's row in the table.
pub data Row : Type 0 where
  -- a number with no operand
  Alone : ℕ → Row
  -- a number, the least count that it takes, and a count or an index
  Counts : ℕ → ℕ → ℕ → Row
  -- a number and a distance
  Leads : ℕ → ℤ → Row
  -- a native and the number of its arguments
  Calls : Native → ℕ → Row
  -- a text
  Spells : List ℕ → Row
  -- a whole number
  Gives : ℤ → Row
  -- a function: name, parameters, body and captures
  Holds : List ℕ → ℕ → Ops → List Capture → Row

abbrev pub row : Op → Row
row (GetGlobal n) = Counts 1 1 n
row (CallGlobal f n) = Calls f n
row (And n) = Counts 3 1 n
row (Or n) = Counts 4 1 n
row Not = Alone 5
row Plus = Alone 6
row Minus = Alone 7
row Multiply = Alone 8
row Eq = Alone 11
row NotEq = Alone 12
row Gt = Alone 13
row GtEq = Alone 14
row Lt = Alone 15
row LtEq = Alone 16
row IsIn = Alone 21
row NotIn = Alone 22
row PushTrue = Alone 29
row PushFalse = Alone 30
row PushNull = Alone 31
row (Str t) = Spells t
row (Integer n) = Gives n
row Pop = Alone 35
row (GetLocal n) = Counts 36 0 n
row (SetLocal n) = Counts 37 0 n
row Return = Alone 38
row (Jump d) = Leads 39 d
row (JumpIfFalse d) = Leads 40 d
row (Dict n) = Counts 42 0 n
row (Array n) = Counts 43 0 n
row GetProperty = Alone 45
row SetProperty = Alone 46
row (JumpIfStackNotNull d) = Leads 47 d
row GetPropertyNullish = Alone 48
row Throw = Alone 49
row (Try d) = Leads 50 d
row PopTry = Alone 51
row (Callable name params body captures) = Holds name params body captures
row (CallLocal n) = Counts 54 0 n
row (GetUpvalue n) = Counts 55 0 n
row (SetUpvalue n) = Counts 56 0 n
row CloseUpvalue = Alone 57

abbrev pub row_number : Row → ℕ
row_number (Alone n) = n
row_number (Counts n least count) = n
row_number (Leads n d) = n
row_number (Calls f n) = 2
row_number (Spells t) = 32
row_number (Gives z) = 33
row_number (Holds name params body captures) = 52

abbrev pub number : Op → ℕ
number o = row_number (row o)

-- the operations that have no operand
abbrev pub plain_ops : List Op
plain_ops =
    Not ∷ Plus ∷ Minus ∷ Multiply ∷ Eq ∷ NotEq ∷ Gt ∷ GtEq ∷ Lt ∷ LtEq ∷ IsIn ∷ NotIn ∷ PushTrue ∷ PushFalse ∷ PushNull ∷ Pop ∷
    Return ∷ GetProperty ∷ SetProperty ∷ GetPropertyNullish ∷ Throw ∷ PopTry ∷ CloseUpvalue ∷ []

-- those that have a count or an index
abbrev pub count_ops : ℕ → List Op
count_ops n =
    GetGlobal n ∷ And n ∷ Or n ∷ GetLocal n ∷ SetLocal n ∷ Dict n ∷ Array n ∷ CallLocal n ∷ GetUpvalue n ∷ SetUpvalue n ∷ []

-- those that have a distance
abbrev pub jump_ops : ℤ → List Op
jump_ops d = Jump d ∷ JumpIfFalse d ∷ JumpIfStackNotNull d ∷ Try d ∷ []

-- of these operations the one that has this number
abbrev pub numbered : ℕ → List Op → Option Op
numbered n [] = None
numbered n (o ∷ os) = if n == number o then Some o else numbered n os

-- how many elements a row takes, those of a body aside
abbrev pub row_size : Row → ℕ
row_size (Alone n) = 1
row_size (Counts n least count) = 2
row_size (Leads n d) = 2
row_size (Calls f n) = 3
row_size (Spells t) = 2
row_size (Gives z) = 2
row_size (Holds name params body captures) = 7 + 2 * length captures

abbrev mutual
  -- how many elements an operation takes: CALLABLE with its body and its CLOSURE is one operation
  pub size : Op → ℕ
  size (Callable name params body captures) = 7 + span body + 2 * length captures
  size o = row_size (row o)

  -- how many elements operations take
  pub span : Ops → ℕ
  span NoOp = 0
  span (MoreOp o os) = size o + span os
