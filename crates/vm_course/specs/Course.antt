-- The machine after so many operations of a code, on globals and replies. It is never saved or loaded.
use Rattle.std.specs.Prelude.{ℕ, zero, suc, ◌-◌, ◌<◌, List, [], ◌∷◌, ◌++◌, length, Option, Some, None, fold}
use Rattle.std.specs.Cmp.Lexicographic.{slice_cmp}
use Rattle.std.specs.Ordering.{nat_cmp}
use Rattle.std.specs.BTreeSet.{insert_key}
use Rattle.hog_value.specs.declared.cell.FunCell.{FunCell}
use Rattle.hog_value.specs.declared.trace.End.{End}
use Rattle.hog_value.specs.declared.trace.End.TheVariants as end
use Rattle.hog_value.specs.declared.trace.Shown.{Shown}
use Rattle.hog_value.specs.Values.{Val}
use Rattle.hog_value.specs.Operations as op
use Rattle.hog_value.specs.Operations.{Outcome}
use Rattle.hog_ops.specs.Plain.{Op, Ops, NoOp, MoreOp, Str, Callable}
use Rattle.hog_meaning.specs.Program.{first_cells}
use Rattle.hog_meaning.specs.World.{Fixed, Reply}
use Rattle.vm_course.specs.State.{Slot, code_slots, first_place, Running, Waiting, Ended, Mode, State}
use Rattle.vm_course.specs.Step.{step}

-- the texts of a code's STRING operations, those of its bodies too
abbrev mutual
  pub op_texts : Op → List (List ℕ)
  op_texts (Str text) = text ∷ []
  op_texts (Callable name params body captures) = texts body
  op_texts o = []

  pub texts : Ops → List (List ℕ)
  texts NoOp = []
  texts (MoreOp o os) = op_texts o ++ texts os

-- the distinct ones in byte order: a run's first cells
abbrev pub literals_of_code : Ops → List (List ℕ)
literals_of_code code = fold (insert_key (slice_cmp nat_cmp)) [] (texts code)

-- The first operation makes the literals and the globals, all of them or none: where they don't fit, memory is spent.
abbrev pub started : List Reply → Outcome FunCell Val → State
started replies (op.Gives v heap units) = record {
  stack = [];
  frames = record { place = first_place; base = 0; function = None } ∷ [];
  throws = [];
  upvalues = [];
  heap = heap;
  turns = 0;
  units = units;
  trace = [];
  replies = replies;
  mode = Running;
}
started replies (op.Throws kind) = record {
  stack = [];
  frames = record { place = first_place; base = 0; function = None } ∷ [];
  throws = [];
  upvalues = [];
  heap = [];
  turns = 0;
  units = 0;
  trace = [];
  replies = replies;
  mode = Ended end.MemorySpent;
}
started replies op.Spends = record {
  stack = [];
  frames = record { place = first_place; base = 0; function = None } ∷ [];
  throws = [];
  upvalues = [];
  heap = [];
  turns = 0;
  units = 0;
  trace = [];
  replies = replies;
  mode = Ended end.MemorySpent;
}

-- what a run never changes
abbrev pub fixed_by : List (List ℕ) → Outcome FunCell Val → Fixed
fixed_by literals (op.Gives v heap units) = record { literals = literals; globals = length heap - 1 }
fixed_by literals (op.Throws kind) = record { literals = literals; globals = 0 }
fixed_by literals op.Spends = record { literals = literals; globals = 0 }

-- so many operations on
abbrev pub steps : Fixed → List Slot → ℕ → State → State
steps fixed code zero s = s
steps fixed code (suc k) s = steps fixed code k (step fixed code s)

-- the machine behind its first operation and so many more
unfoldable pub machine : Ops → List ℕ → List Reply → ℕ → State
machine code globals replies k =
    let cells = first_cells (literals_of_code code) globals in
    steps (fixed_by (literals_of_code code) cells) (code_slots code) k (started replies cells)

-- whether it has ended, or waits with all replies used
abbrev pub is_over_in : Mode → List Reply → Type 0
is_over_in Running rs = ⊥
is_over_in Waiting [] = Unit {0}
is_over_in Waiting (r ∷ rs) = ⊥
is_over_in (Ended e) rs = Unit {0}

abbrev pub IsOver : State → Type 0
IsOver s = is_over_in s.mode s.replies

-- The machine after k operations is defined: k is not past an end, nor past a wait at which all replies are used.
abbrev pub IsDefined : Ops → List ℕ → List Reply → ℕ → Type 0
IsDefined code globals replies k = (j : ℕ) → suc j < k → IsOver (machine code globals replies j) → ⊥

-- what it shows: its trace, and its end where it has one
abbrev pub end_in : Mode → Option End
end_in Running = None
end_in Waiting = None
end_in (Ended e) = Some e

abbrev pub shown_by : State → Shown
shown_by s = record { trace = s.trace; end = end_in s.mode }
