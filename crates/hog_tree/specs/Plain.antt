-- Plain trees: the trees of programs without pointers and without the places of words.
-- Grammar, meaning and code are defined over these. A word is the list of its bytes.
use Rattle.std.specs.Prelude.{ℕ, ℤ, List, Bool, Option}
use Rattle.hog_tree.specs.declared.tree.BinaryOp.{BinaryOp}

abbrev pub Word : Type 0
Word = List ℕ

mutual
  -- an expression
  pub data Exp : Type 0 where
    Int : ℤ → Exp
    Truth : Bool → Exp
    Null : Exp
    Text : List ℕ → Exp
    Template : Parts → Exp
    Name : Word → Exp
    Array : Exps → Exp
    Dict : Pairs → Exp
    Neg : Exp → Exp
    Not : Exp → Exp
    Binary : BinaryOp → Exp → Exp → Exp
    Coalesce : Exp → Exp → Exp
    Prop : Exp → Word → Exp
    PropNullish : Exp → Word → Exp
    Index : Exp → Exp → Exp
    Call : Exp → Exps → Exp
    Lambda : List Word → Body → Exp

  pub data Exps : Type 0 where
    NoExp : Exps
    MoreExp : Exp → Exps → Exps

  -- the parts of a template: characters, and expressions in braces
  pub data Parts : Type 0 where
    NoPart : Parts
    MoreText : List ℕ → Parts → Parts
    MoreHole : Exp → Parts → Parts

  -- the items of a dictionary: a key, its value, and the others
  pub data Pairs : Type 0 where
    NoPair : Pairs
    MorePair : Exp → Exp → Pairs → Pairs

  -- what stands after an arrow
  pub data Body : Type 0 where
    OneExp : Exp → Body
    ManyStms : Stms → Body

  -- a statement
  pub data Stm : Type 0 where
    Let : Word → OptionExp → Stm
    Assign : Exp → Exp → Stm
    Do : Exp → Stm
    Return : OptionExp → Stm
    Throw : Exp → Stm
    If : Exp → Stms → OptionStms → Stm
    While : Exp → Stms → Stm
    For : OptionStm → OptionExp → OptionStm → Stms → Stm
    ForIn : Option Word → Word → Exp → Stms → Stm
    Fun : Word → List Word → Stms → Stm
    Try : Stms → Word → Stms → Stm
    Block : Stms → Stm

  pub data Stms : Type 0 where
    Done : Stms
    Then : Stm → Stms → Stms

  -- what may be left out
  pub data OptionExp : Type 0 where
    NoneExp : OptionExp
    SomeExp : Exp → OptionExp

  pub data OptionStm : Type 0 where
    NoneStm : OptionStm
    SomeStm : Stm → OptionStm

  pub data OptionStms : Type 0 where
    NoneStms : OptionStms
    SomeStms : Stms → OptionStms
