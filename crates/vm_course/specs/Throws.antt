-- How the machine ends, and where a throw lands. An operation that throws or meets a limit counts as having popped nothing.
use Rattle.std.specs.Prelude.{ℕ, ◌+◌, List, [], ◌∷◌, length, if◌then◌else◌, nat_lt, nat_le, Result, Ok, Err}
use Rattle.hog_value.specs.declared.cell.FunCell.{FunCell}
use Rattle.hog_value.specs.declared.trace.End.{End}
use Rattle.hog_value.specs.declared.trace.End.TheVariants as end
use Rattle.hog_value.specs.declared.value.Kind.{Kind}
use Rattle.hog_value.specs.Values.{Val}
use Rattle.hog_value.specs.Meters.{max_turns, max_units}
use Rattle.hog_value.specs.Cells.{HeapOf}
use Rattle.hog_value.specs.Operations as op
use Rattle.hog_value.specs.Operations.{Outcome}
use Rattle.hog_json.specs.Texts.{shown}
use Rattle.hog_library.specs.Cells.{thrown}
use Rattle.vm_course.specs.State.{Frame, ThrowFrame, Ended, State}
use Rattle.vm_course.specs.Stack.{cut_to, push, keep}

abbrev pub ends : End → State → State
ends e s = record s { mode = Ended e }

abbrev pub with_heap : HeapOf FunCell → ℕ → State → State
with_heap h units s = record s { heap = h; units = units }

-- An end with a shown text, which is charged. Where it doesn't fit, memory is spent, and all else is as it was `before`.
abbrev pub ends_shown : (List ℕ → End) → Val → State → State → State
ends_shown make v before s =
    let text = shown s.heap v in
    if nat_le (s.units + length text) max_units then ends (make text) (record s { units = s.units + length text }) else ends end.MemorySpent before

-- the innermost frame goes on at a place
abbrev pub goto : ℕ → Frame → List Frame → State → State
goto place f fs s = record s { frames = record f { place = place } ∷ fs }

-- the frame that catches goes on at the catch place, with the value on its stack
abbrev pub caught : Val → ThrowFrame → List ThrowFrame → List Frame → State → State
caught v t ts [] s = s
caught v t ts (f ∷ fs) s = push v (goto t.catch f fs (record (cut_to (keep t.height s.stack) s) { throws = ts }))

-- A value is thrown: to the last throw frame, which is taken away with the frames above; where there is none the run ends,
-- and stack and frames are as before. `before` is the state before the operation.
abbrev pub throw_to : List ThrowFrame → Val → State → State → State
throw_to [] v before s = ends_shown end.Threw v before s
throw_to (t ∷ ts) v before s = caught v t ts (keep t.frames s.frames) s

abbrev pub throw_value : Val → State → State
throw_value v s = throw_to s.throws v s s

-- a kind is thrown as the dictionary that is made of it
abbrev pub throw_made : State → Outcome FunCell Val → State
throw_made s (op.Gives v h units) = throw_to s.throws v s (with_heap h units s)
throw_made s (op.Throws kind) = ends end.MemorySpent s
throw_made s op.Spends = ends end.MemorySpent s

unfoldable pub throw_kind : Kind → State → State
throw_kind kind s = throw_made s (thrown kind s.heap s.units)

-- an operation's result, or the kind that it throws
abbrev pub on_result : {A : Type 0} → Result A Kind → (A → State → State) → State → State
on_result (Ok a) go s = go a s
on_result (Err kind) go s = throw_kind kind s

-- an operation on the heap, with its charge
abbrev pub on_outcome : {A : Type 0} → Outcome FunCell A → (A → State → State) → State → State
on_outcome (op.Gives a h units) go s = go a (with_heap h units s)
on_outcome (op.Throws kind) go s = throw_kind kind s
on_outcome op.Spends go s = ends end.MemorySpent s

-- goes on with one turn more spent
abbrev pub with_turn : (State → State) → State → State
with_turn go s = if nat_lt s.turns max_turns then go (record s { turns = s.turns + 1 }) else ends end.TurnsSpent s
