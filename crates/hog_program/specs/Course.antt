-- What comes of a source on its globals and replies, and how the machine's course on its code stands to that.
use Rattle.std.specs.Prelude.{◌≡◌, ℕ, suc, ◌+◌, ◌*◌, ◌≤◌, List, [], ◌++◌, Some}
use Rattle.hog_value.specs.declared.trace.TraceItem.{TraceItem}
use Rattle.hog_value.specs.declared.trace.End.{End}
use Rattle.hog_tree.specs.Plain.{Stms}
use Rattle.hog_ops.specs.Plain.{Ops}
use Rattle.hog_meaning.specs.World.{Reply, Got, Flow}
use Rattle.hog_meaning.specs.Program.{shows, outcome}
use Rattle.vm_course.specs.State.{State, Waiting, Ended}
use Rattle.vm_course.specs.Course.{machine, IsOver, IsDefined}
use Rattle.hog_bridge.specs.Laws.{WaitsAlike, operations}
use Rattle.hog_program.specs.Build.{IsBuilt}
use Rattle.hog_program.specs.Program.{HasCode}

-- The source is built, and this comes of its whole program on the globals and the replies.
pub record Means (text globals : List ℕ) (replies : List Reply) (got : Got Flow) : Type 0 where
  pub whole : Stms
  pub is_built : IsBuilt text whole
  pub is : got ≡ outcome whole globals replies

-- A course shows exactly this.
pub record IsShown (got : Got Flow) (course : ℕ → State) : Type 0 where
  -- at every number of operations the trace is a prefix
  pub prefix : (k : ℕ) → (rest : List TraceItem) × ((shows got).trace ≡ (course k).trace ++ rest)
  -- an end is its end, with its trace
  pub ended : (k : ℕ) (end : End) → (course k).mode ≡ Ended end → shows got ≡ record { trace = (course k).trace; end = Some end }
  -- a wait at which all replies are used is its wait, with the same trace, turns, units and heap, what functions are aside
  pub waits : (k : ℕ) → (course k).mode ≡ Waiting → (course k).replies ≡ [] → WaitsAlike got (course k)
  -- it ends, or comes to such a wait
  pub rests : (k : ℕ) × IsOver (course k)

-- One thing at most comes of a source.
abbrev pub OneMeaning : Type 0
OneMeaning = (text globals : List ℕ) (replies : List Reply) (a b : Got Flow) → Means text globals replies a → Means text globals replies b → a ≡ b

-- The course on the code of a source shows exactly what comes of the source.
abbrev pub CourseShowsMeaning : Type 0
CourseShowsMeaning =
    (text : List ℕ) (code : Ops) → HasCode text code → (globals : List ℕ) (replies : List Reply)
    → (got : Got Flow) × Means text globals replies got × IsShown got (machine code globals replies)

-- Where it is defined at k operations, k is at most 1 + (the turns spent + 1) * (operations of the code + 1).
abbrev pub CourseIsShort : Type 0
CourseIsShort =
    (text : List ℕ) (code : Ops) → HasCode text code → (globals : List ℕ) (replies : List Reply) (k : ℕ)
    → IsDefined code globals replies (suc k) → suc k ≤ 1 + ((machine code globals replies k).turns + 1) * (operations code + 1)
