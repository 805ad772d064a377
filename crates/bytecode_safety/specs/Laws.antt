-- What accepted code is, what it never does, and how long it runs.
use Rattle.std.specs.Prelude.{◌≡◌, ℕ, suc, ◌+◌, ◌*◌, ◌≤◌, List, false}
use Rattle.hog_ops.specs.Plain.{Op, Ops, NoOp, MoreOp, Callable}
use Rattle.hog_ops.specs.Valid.{IsCode}
use Rattle.hog_meaning.specs.World.{Reply}
use Rattle.vm_course.specs.State.{code_slots}
use Rattle.vm_course.specs.Course.{machine, IsOver, IsDefined}
use Rattle.bytecode_check.specs.Verify.{IsAccepted}
use Rattle.bytecode_safety.specs.Typed.{Typed}
use Rattle.bytecode_safety.specs.Lacks.{lacks}

-- how many operations a code has, those of its bodies too
abbrev mutual
  pub op_operations : Op → ℕ
  op_operations (Callable name params body captures) = suc (operations body)
  op_operations o = 1

  pub operations : Ops → ℕ
  operations NoOp = 0
  operations (MoreOp o os) = op_operations o + operations os

-- the shapes with which a code was accepted are a typing of it
abbrev pub AcceptedIsTyped : Type 0
AcceptedIsTyped = (code : Ops) → (accepted : IsAccepted code) → Typed code accepted.shapes

-- no operation of an accepted code ever lacks what it needs, on any globals and replies
abbrev pub AcceptedIsSafe : Type 0
AcceptedIsSafe = (code : Ops) → IsCode code → IsAccepted code → (globals : List ℕ) (replies : List Reply) (k : ℕ)
    → lacks (code_slots code) (machine code globals replies k) ≡ false

-- a run that is defined after suc k operations has spent so many turns before that suc k is at most 1 + (turns + 1) * (operations + 1)
abbrev pub AcceptedIsBounded : Type 0
AcceptedIsBounded = (code : Ops) → IsCode code → IsAccepted code → (globals : List ℕ) (replies : List Reply) (k : ℕ)
    → IsDefined code globals replies (suc k) → suc k ≤ 1 + ((machine code globals replies k).turns + 1) * (operations code + 1)

-- every run ends, or waits with all replies used
abbrev pub AcceptedRests : Type 0
AcceptedRests = (code : Ops) → IsCode code → IsAccepted code → (globals : List ℕ) (replies : List Reply)
    → (k : ℕ) × IsOver (machine code globals replies k)
