-- Plain operations: those of a code without pointers. Bytecode, code and machine are defined over these.
use Rattle.std.specs.Prelude.{ℕ, ℤ, List}
use Rattle.hog_value.specs.declared.native.Native.{Native}
use Rattle.hog_ops.specs.declared.capture.Capture.{Capture}

mutual
  -- an operation with its operands; of a CALLABLE its name, its parameters, the operations of its body and its captures
  pub data Op : Type 0 where
    GetGlobal : ℕ → Op
    CallGlobal : Native → ℕ → Op
    And : ℕ → Op
    Or : ℕ → Op
    Not : Op
    Plus : Op
    Minus : Op
    Multiply : Op
    Eq : Op
    NotEq : Op
    Gt : Op
    GtEq : Op
    Lt : Op
    LtEq : Op
    IsIn : Op
    NotIn : Op
    PushTrue : Op
    PushFalse : Op
    PushNull : Op
    Str : List ℕ → Op
    Integer : ℤ → Op
    Pop : Op
    GetLocal : ℕ → Op
    SetLocal : ℕ → Op
    Return : Op
    Jump : ℤ → Op
    JumpIfFalse : ℤ → Op
    Dict : ℕ → Op
    Array : ℕ → Op
    GetProperty : Op
    SetProperty : Op
    JumpIfStackNotNull : ℤ → Op
    GetPropertyNullish : Op
    Throw : Op
    Try : ℤ → Op
    PopTry : Op
    Callable : List ℕ → ℕ → Ops → List Capture → Op
    CallLocal : ℕ → Op
    GetUpvalue : ℕ → Op
    SetUpvalue : ℕ → Op
    CloseUpvalue : Op

  -- operations in order
  pub data Ops : Type 0 where
    NoOp : Ops
    MoreOp : Op → Ops → Ops

-- one after another
infixr 20 ◌⊕◌
abbrev pub ◌⊕◌ : Ops → Ops → Ops
NoOp ⊕ qs = qs
(MoreOp p ps) ⊕ qs = MoreOp p (ps ⊕ qs)
