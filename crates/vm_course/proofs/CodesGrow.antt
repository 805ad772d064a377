-- No operation takes a cell away.
use Rattle.std.proofs.Common.{ℕ, ◌+◌, ◌≤◌, List, [], ◌∷◌, length}
use Rattle.hog_value.specs.declared.cell.FunCell.{FunCell}
use Rattle.hog_value.specs.Cells.{Text, Array, Dict, Fun, HeapOf}
use Rattle.hog_ops.specs.Table.{Row, Alone, Counts, Leads, Calls, Spells, Gives, Holds, row, size}
use Rattle.hog_meaning.specs.World.{Fixed}
use Rattle.vm_course.specs.State.{Slot, Frame, ThrowFrame, State}
use Rattle.vm_course.specs.Step.{step}
use Rattle.vm_course.proofs.CodesHeaps.{AllFuns}
use Rattle.vm_course.proofs.CodesMoves.{FramesAre, CatchesAre, Sound, LeadsTo, Makes, step_moves}

-- nothing is asked of functions or places
abbrev Any : {A : Type 0} → A → Type 0
Any a = Unit {0}

any_frames : (fs : List Frame) → FramesAre (Any {A = FunCell}) (Any {A = ℕ}) fs
any_frames [] = tt
any_frames (f ∷ fs) = (tt, any_frames fs)

any_catches : (ts : List ThrowFrame) → CatchesAre (Any {A = FunCell}) (Any {A = ℕ}) ts
any_catches [] = tt
any_catches (t ∷ ts) = (tt, any_catches ts)

any_funs : (h : HeapOf FunCell) → AllFuns (Any {A = FunCell}) h
any_funs [] = tt
any_funs (Text t ∷ h) = (tt, any_funs h)
any_funs (Array vs ∷ h) = (tt, any_funs h)
any_funs (Dict ps ∷ h) = (tt, any_funs h)
any_funs (Fun x ∷ h) = (tt, any_funs h)

any_leads : (behind : ℕ) (r : Row) → LeadsTo (Any {A = FunCell}) (Any {A = ℕ}) behind r
any_leads behind (Alone n) = tt
any_leads behind (Counts n least count) = tt
any_leads behind (Leads n d) = tt
any_leads behind (Calls f n) = tt
any_leads behind (Spells t) = tt
any_leads behind (Gives z) = tt
any_leads behind (Holds name params inner captures) = tt

any_makes : (place : ℕ) (r : Row) → Makes (Any {A = FunCell}) (Any {A = ℕ}) place r
any_makes place (Alone n) = tt
any_makes place (Counts n least count) = tt
any_makes place (Leads n d) = tt
any_makes place (Calls f n) = tt
any_makes place (Spells t) = tt
any_makes place (Gives z) = tt
any_makes place (Holds name params inner captures) = λ cs. tt

pub grows : (fixed : Fixed) (code : List Slot) (s : State) → length s.heap ≤ length (step fixed code s).heap
grows fixed code s =
    let sound : Sound (Any {A = FunCell}) (Any {A = ℕ}) s = record { frames = any_frames s.frames; catches = any_catches s.throws; funs = any_funs s.heap } in
    let moves = step_moves (Any {A = FunCell}) (Any {A = ℕ}) (λ f p. tt) fixed code
    (λ place p e. record { goes_on = tt; leads = any_leads (place + size p) (row p); makes = any_makes place (row p) }) s sound in
    moves.heap.longer
