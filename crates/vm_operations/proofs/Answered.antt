-- What comes of a native's answer.
use Rattle.std.proofs.Common.{◌≡◌, ℕ, refl, ap, ap₂, sym, ◌∙◌}
use Rattle.hog_value.specs.declared.cell.FunCell.{FunCell}
use Rattle.hog_value.specs.declared.trace.TraceItem.TheVariants.{Printed, Asked}
use Rattle.hog_value.specs.declared.value.Value.TheVariants.{Null}
use Rattle.hog_value.specs.Meters.{Spent}
use Rattle.hog_value.specs.Cells.{HeapOf}
use Rattle.hog_library.specs.declared.call.NativeAnswer.{NativeAnswer}
use Rattle.hog_library.specs.declared.call.NativeAnswer.TheVariants as answer
use Rattle.hog_library.specs.declared.call.CallStop.{CallStop}
use Rattle.hog_library.specs.declared.call.CallStop.TheVariants as call
use Rattle.hog_library.specs.Called.{Called, TurnsSpent, UnitsSpent}
use Rattle.hog_library.specs.Answers.{answered, Keeps}
use Rattle.vm_course.specs.State.{State, Waiting}
use Rattle.vm_course.specs.Stack.{keep}
use Rattle.vm_course.specs.Throws.{throw_kind}
use Rattle.vm_course.specs.Step.{on_with, on_and_push, said, spent_by, of_native}
use Rattle.vm_operations.specs.Here.{here_of, answer_taken, IsCallStopped}

module _ (s : State) (b rest : ℕ) where
  -- the state behind a call
  abbrev pub after_call : HeapOf FunCell → Spent → State
  after_call h m = record s { heap = h; turns = m.turns; units = m.units }

  pub answer_is : (a : NativeAnswer) (h : HeapOf FunCell) (m : Spent) → Keeps a s.heap h (spent_by s) m
      → answer_taken b rest a (after_call h m) ≡ of_native (here_of b s) (keep rest s.stack) (answered a h m) s
  answer_is (answer.Gives v) h m kept = refl
  answer_is (answer.Prints text) h m kept = ap (λ x. on_and_push (here_of b s) (keep rest s.stack) Null (said (Printed text) (after_call x m))) kept
  answer_is (answer.Throws kind) h m kept = ap₂ (λ x n. throw_kind kind (after_call x n)) kept.0 kept.1
  answer_is (answer.Asks request) h m kept =
      ap (λ x. let asked : State = on_with (here_of b s) (keep rest s.stack) (said (Asked request) (after_call x m)) in record asked { mode = Waiting }) kept

  pub call_stopped : (why : CallStop) (last : State) (o : Called FunCell) → IsCallStopped why s last → (why ≡ call.TurnsSpent → o ≡ TurnsSpent) → (why ≡ call.UnitsSpent → o ≡ UnitsSpent)
      → last ≡ of_native (here_of b s) (keep rest s.stack) o s
  call_stopped call.TurnsSpent last o is turns units = is ∙ sym (ap (λ x. of_native (here_of b s) (keep rest s.stack) x s) (turns refl))
  call_stopped call.UnitsSpent last o is turns units = is ∙ sym (ap (λ x. of_native (here_of b s) (keep rest s.stack) x s) (units refl))
  call_stopped call.OutOfMemory last o is turns units = absurd is
