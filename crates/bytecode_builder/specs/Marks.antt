-- Marks of the elements of operations: one more than the room of its body where an operation begins or its body ends, and 0 elsewhere.
use Rattle.std.specs.Prelude.{◌≡◌, ⊤, ℕ, suc, ◌+◌, ◌-◌, ◌*◌, ◌==◌, ◌&&◌, ℤ, pos, negsuc, ◌+ℤ◌, List, [], ◌∷◌, ◌++◌, length, slice_index, replicate, Bool, true, false, Result, Ok, Err}
use Rattle.hog_ops.specs.Plain.{Op, Ops, Callable, NoOp, MoreOp}
use Rattle.hog_ops.specs.Table.{Row, Alone, Counts, Leads, Calls, Spells, Gives, Holds, size}
use Rattle.hog_ops.specs.Valid.{may_lead}
use Rattle.bytecode_front.specs.declared.stop.CodeStop.{CodeStop}
use Rattle.bytecode_builder.specs.Placed.{StopIs}

abbrev mutual
  pub op_marks : ℕ → Op → List ℕ
  op_marks room (Callable name params body captures) =
      suc room ∷ (replicate 4 0 ++ (marks (room - 1) body ++ (suc (room - 1) ∷ replicate (1 + 2 * length captures) 0)))
  op_marks room o = suc room ∷ replicate (size o - 1) 0

  pub marks : ℕ → Ops → List ℕ
  marks room NoOp = []
  marks room (MoreOp o os) = op_marks room o ++ marks room os

-- A scan read these operations and added their marks, or stopped so.
abbrev pub Scanned : ℕ → Result ⊤ CodeStop → List ℕ → List ℕ → Result Ops CodeStop → Type 0
Scanned room (Ok u) old new r = (ops : Ops) × (r ≡ Ok ops) × (new ≡ old ++ marks room ops)
Scanned room (Err e) old new r = StopIs e r

-- the mark at a place
abbrev pub is_marked : List ℕ → ℕ → ℤ → Bool
is_marked ms mark (pos n) = slice_index ms n == mark
is_marked ms mark (negsuc n) = false

-- by its mark, a distance leads to a place of the body
abbrev pub row_led : List ℕ → ℕ → ℕ → Row → Bool
row_led ms mark end (Alone n) = true
row_led ms mark end (Counts n least count) = true
row_led ms mark end (Leads n d) = may_lead n d && is_marked ms mark (pos end +ℤ d)
row_led ms mark end (Calls f n) = true
row_led ms mark end (Spells t) = true
row_led ms mark end (Gives z) = true
row_led ms mark end (Holds name params body captures) = true

-- these are the marks of the operations that were read, and of their end
abbrev pub HasMarks : ℕ → Result Ops CodeStop → List ℕ → Type 0
HasMarks room (Ok ops) ms = ms ≡ marks room ops ++ suc room ∷ []
HasMarks room (Err e) ms = ⊥
