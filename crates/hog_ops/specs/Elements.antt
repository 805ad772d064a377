-- The elements of a code, as they stand in its JSON array behind the header.
use Rattle.std.specs.Prelude.{ℕ, ℤ, pos, List, [], ◌∷◌, ◌++◌, length, Bool}
use Rattle.hog_value.specs.Natives.{name_of}
use Rattle.hog_ops.specs.declared.capture.Capture.{Capture}
use Rattle.hog_ops.specs.Plain.{Op, Ops, Callable, NoOp, MoreOp}
use Rattle.hog_ops.specs.Table.{Row, Alone, Counts, Leads, Calls, Spells, Gives, Holds, row, number, span}

-- a whole number, a text or a truth value
pub data Elem : Type 0 where
  Whole : ℤ → Elem
  Text : List ℕ → Elem
  Flag : Bool → Elem

-- per capture whether it is a local, and its index
abbrev pub capture_elements : List Capture → List Elem
capture_elements [] = []
capture_elements (c ∷ cs) = Flag c.local ∷ Whole (pos c.index) ∷ capture_elements cs

-- the operands behind an operation's number, those of a function aside
abbrev pub operands : Row → List Elem
operands (Alone n) = []
operands (Counts n least count) = Whole (pos count) ∷ []
operands (Leads n d) = Whole d ∷ []
operands (Calls f n) = Text (name_of f) ∷ Whole (pos n) ∷ []
operands (Spells t) = Text t ∷ []
operands (Gives z) = Whole z ∷ []
operands (Holds name params body captures) = []

-- behind a body: 53, the number of captures again, and the captures
abbrev pub closure_elements : List Capture → List Elem
closure_elements captures = Whole (pos 53) ∷ Whole (pos (length captures)) ∷ capture_elements captures

abbrev mutual
  pub op_elements : Op → List Elem
  op_elements (Callable name params body captures) =
      Whole (pos 52) ∷ Text name ∷ Whole (pos params) ∷ Whole (pos (length captures)) ∷ Whole (pos (span body)) ∷ (elements body ++ closure_elements captures)
  op_elements o = Whole (pos (number o)) ∷ operands (row o)

  pub elements : Ops → List Elem
  elements NoOp = []
  elements (MoreOp o os) = op_elements o ++ elements os
