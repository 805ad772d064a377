-- Codes of programs, and a run that shows all of a program's meaning.
use Rattle.std.specs.Prelude.{◌≡◌, ℕ, List, []}
use Rattle.hog_tree.specs.Plain.{Stms}
use Rattle.hog_ops.specs.Plain.{Ops}
use Rattle.hog_compiler.specs.Code.{code_of}
use Rattle.hog_meaning.specs.Program.{meaning}
use Rattle.vm_course.specs.State.{State}
use Rattle.vm_course.specs.Course.{end_in}
use Rattle.hog_bridge.specs.Laws.{IsNamed}

-- the code of a whole program whose names are without fault
pub record IsCompiled (code : Ops) : Type 0 where
  pub whole : Stms
  pub named : IsNamed whole
  pub is_code : code ≡ code_of whole

-- Without replies this is all that a program shows on these globals: its trace, and its end, which isn't there where it waits.
abbrev pub ShowsMeaning : Ops → List ℕ → State → Type 0
ShowsMeaning code globals s =
    (whole : Stms) → IsNamed whole → code ≡ code_of whole → meaning whole globals [] ≡ record { trace = s.trace; end = end_in s.mode }
