-- What it is that a program shows the same by its meaning and by the course of its code.
use Rattle.std.specs.Prelude.{◌≡◌, ℕ, pred, List, Option}
use Rattle.hog_value.specs.declared.trace.TraceItem.{TraceItem}
use Rattle.hog_value.specs.declared.trace.TraceItem.TheVariants.{Asked}
use Rattle.hog_value.specs.declared.trace.End.{End}
use Rattle.hog_tree.specs.Plain.{Stms}
use Rattle.hog_compiler.specs.Code.{code_of}
use Rattle.hog_meaning.specs.Program.{meaning, outcome}
use Rattle.hog_meaning.specs.World.{World, Reply, Got, Gives, Throws, Waits, Spends}
use Rattle.vm_course.specs.State.{Running, State}
use Rattle.vm_course.specs.Course.{machine, IsOver, shown_by}

-- the world after an evaluation
abbrev pub world_after : {A : Type 0} → Got A → World
world_after (Gives a w) = w
world_after (Throws v w) = w
world_after (Waits w) = w
world_after (Spends limit w) = w

-- the machine on a program's code, behind its first operation and k more
abbrev pub course : Stms → List ℕ → List Reply → ℕ → State
course program globals replies k = machine (code_of program) globals replies k

-- A program shows this trace and this end both ways, where so many turns are spent. Behind its first operation and exactly k
-- more its machine has ended, or waits for a reply that isn't there; the end is None where it waits.
pub record ShowsBothWays (program : Stms) (globals : List ℕ) (replies : List Reply) (k turns : ℕ) (trace : List TraceItem) (end : Option End) : Type 0 where
  pub by_meaning : meaning program globals replies ≡ record { trace = trace; end = end }
  pub by_course : shown_by (course program globals replies k) ≡ record { trace = trace; end = end }
  pub turns_of_meaning : (world_after (outcome program globals replies)).turns ≡ turns
  pub turns_of_course : (course program globals replies k).turns ≡ turns
  pub is_over : IsOver (course program globals replies k)
  pub goes_on_before : (course program globals replies (pred k)).mode ≡ Running

-- a request in a trace, and a reply
abbrev pub asked : List ℕ → List ℕ → TraceItem
asked url options = Asked (record { url = url; options = options })

abbrev pub reply : ℕ → List ℕ → Reply
reply status body = record { status = status; body = body }
