-- How the machine's course on the code of a program stands to what the program means, and how long it is at most; and
-- which texts that code makes first.
use Rattle.std.specs.Prelude.{◌≡◌, ℕ, suc, ◌+◌, ◌*◌, ◌≤◌, List, ◌++◌, [], Some, Ok}
use Rattle.hog_value.specs.declared.trace.TraceItem.{TraceItem}
use Rattle.hog_value.specs.declared.trace.End.{End}
use Rattle.hog_value.specs.Cells.{HeapOf, heap_map}
use Rattle.hog_tree.specs.Plain.{Stms}
use Rattle.hog_scope.specs.declared.item.Item.{Item}
use Rattle.hog_scope.specs.Scopes.{items_of}
use Rattle.hog_scope.specs.Literals.{literals_of}
use Rattle.hog_ops.specs.Plain.{Op, Ops, NoOp, MoreOp, Callable}
use Rattle.hog_compiler.specs.Code.{code_of}
use Rattle.hog_meaning.specs.World.{Reply, World, Got, Gives, Throws, Waits, Spends, Flow}
use Rattle.hog_meaning.specs.Program.{outcome, meaning}
use Rattle.vm_course.specs.State.{State, Waiting, Ended}
use Rattle.vm_course.specs.Course.{machine, literals_of_code, IsOver, IsDefined}

-- how many operations a code has, those of its bodies too
abbrev mutual
  pub op_operations : Op → ℕ
  op_operations (Callable name params body captures) = suc (operations body)
  op_operations o = 1

  pub operations : Ops → ℕ
  operations NoOp = 0
  operations (MoreOp o os) = op_operations o + operations os

-- what a function is, left out
abbrev pub no_content : {F : Type 0} → F → Unit {0}
no_content f = tt

abbrev pub functions_aside : {F : Type 0} → HeapOf F → HeapOf (Unit {0})
functions_aside h = heap_map no_content h

-- the machine holds what the world holds: the same trace, turns and units, and the same heap but for what its functions are
pub record HoldsTheSame (w : World) (s : State) : Type 0 where
  pub trace : s.trace ≡ w.trace
  pub turns : s.turns ≡ w.turns
  pub units : s.units ≡ w.units
  pub heap : functions_aside s.heap ≡ functions_aside w.heap

-- the meaning waits for a reply too
abbrev pub WaitsAlike : Got Flow → State → Type 0
WaitsAlike (Gives flow w) s = ⊥
WaitsAlike (Throws v w) s = ⊥
WaitsAlike (Waits w) s = HoldsTheSame w s
WaitsAlike (Spends limit w) s = ⊥

-- the machine behind its first operation and k more
abbrev pub course : Stms → List ℕ → List Reply → ℕ → State
course program globals replies k = machine (code_of program) globals replies k

pub record IsOnMeaning (program : Stms) (globals : List ℕ) (replies : List Reply) : Type 0 where
  -- at every number of operations the trace is a prefix of the meaning's
  pub prefix : (k : ℕ) → (rest : List TraceItem) × ((meaning program globals replies).trace ≡ (course program globals replies k).trace ++ rest)
  -- an end is the meaning's end, with its trace
  pub ended : (k : ℕ) (e : End) → (course program globals replies k).mode ≡ Ended e → meaning program globals replies ≡ record { trace = (course program globals replies k).trace; end = Some e }
  -- a wait at which all replies are used is the meaning's wait
  pub waits : (k : ℕ) → (course program globals replies k).mode ≡ Waiting → (course program globals replies k).replies ≡ [] → WaitsAlike (outcome program globals replies) (course program globals replies k)

-- The names of a program are without fault: each word that names something has its item.
pub record IsNamed (program : Stms) : Type 0 where
  pub items : List Item
  pub resolved : items_of program ≡ Ok items

-- every course on the code of a program whose names are right shows exactly what the program means
abbrev pub CourseIsMeaning : Type 0
CourseIsMeaning = (program : Stms) → IsNamed program → (globals : List ℕ) (replies : List Reply) → IsOnMeaning program globals replies

-- a course that is defined at k operations has spent so many turns that k is at most 1 + (turns + 1) * (operations of the code + 1)
abbrev pub CourseIsBounded : Type 0
CourseIsBounded = (program : Stms) → IsNamed program → (globals : List ℕ) (replies : List Reply) (k : ℕ)
    → IsDefined (code_of program) globals replies (suc k) → suc k ≤ 1 + ((course program globals replies k).turns + 1) * (operations (code_of program) + 1)

-- every course ends, or waits with all replies used
abbrev pub CourseRests : Type 0
CourseRests = (program : Stms) → IsNamed program → (globals : List ℕ) (replies : List Reply) → (k : ℕ) × IsOver (course program globals replies k)

-- the texts that a code makes as its first cells are the literal texts of its program
abbrev pub LiteralsAreSame : Type 0
LiteralsAreSame = (program : Stms) (names : IsNamed program) → literals_of_code (code_of program) ≡ literals_of program names.items
