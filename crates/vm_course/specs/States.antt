-- Which runs are states: each number that names a cell, an upvalue or a place of the stack names one that is there, frames and
-- throw frames stand in order, and the meters hold. Lists are taken in the order in which they came: the stack from the
-- bottom, the program's frame first, and the first throw frame first.
use Rattle.std.specs.Prelude.{ℕ, ◌*◌, ◌-◌, ◌&&◌, ◌==◌, List, [], ◌∷◌, ◌++◌, length, reverse, Bool, true, false, not, nat_lt, nat_le, nat_eq, Option, Some, None, is_some, option_map, unwrap_or, slice_get, option_and_then, count_by}
use Rattle.std.specs.List.{list_all, list_any}
use Rattle.hog_value.specs.declared.cell.FunCell.{FunCell}
use Rattle.hog_value.specs.declared.trace.End.{End}
use Rattle.hog_value.specs.declared.trace.End.TheVariants as end
use Rattle.hog_value.specs.declared.trace.TraceItem.{TraceItem}
use Rattle.hog_value.specs.declared.value.Value.TheVariants.{Null, Bool as Truth, Int, Ref}
use Rattle.hog_value.specs.Values.{Val}
use Rattle.hog_value.specs.Cells.{CellOf, Text, Array, Dict, Fun, HeapOf, pairs_at}
use Rattle.hog_value.specs.Meters.{max_turns, max_units, max_depth}
use Rattle.hog_meaning.specs.Meaning.{is_request, most_requests}
use Rattle.vm_course.specs.State.{Upvalue, Opened, Closed, Frame, ThrowFrame, Running, Waiting, Ended, Mode, State, function_at}
use Rattle.vm_course.specs.Run.{RunState}

-- a value that names a cell names one that is there
abbrev pub names : ℕ → Val → Bool
names cells Null = true
names cells (Truth b) = true
names cells (Int z) = true
names cells (Ref n) = nat_lt n cells

-- so do the values in a cell; a function's upvalues are there
abbrev pub cell_stands : ℕ → ℕ → CellOf FunCell → Bool
cell_stands cells upvalues (Text t) = true
cell_stands cells upvalues (Array vs) = list_all (names cells) vs
cell_stands cells upvalues (Dict ps) = list_all (λ p. names cells p.1) ps
cell_stands cells upvalues (Fun f) = list_all (λ n. nat_lt n upvalues) f.captured

-- A later frame has a function's cell, and its base is not below that of the frame before it, nor past the stack's length.
abbrev pub is_function : HeapOf FunCell → Option ℕ → Bool
is_function heap function = is_some (option_and_then (function_at heap) function)

abbrev pub frame_stands : HeapOf FunCell → ℕ → ℕ → Frame → Bool
frame_stands heap height low f = is_function heap f.function && nat_le low f.base && nat_le f.base height

abbrev pub later_frames : HeapOf FunCell → ℕ → ℕ → List Frame → Bool
later_frames heap height low [] = true
later_frames heap height low (f ∷ fs) = frame_stands heap height low f && later_frames heap height f.base fs

-- the program's frame has no function and begins at the bottom; there are at most 257 frames
abbrev pub frames_stand : HeapOf FunCell → ℕ → List Frame → Bool
frames_stand heap height [] = false
frames_stand heap height (f ∷ fs) = not (is_some f.function) && (f.base == 0) && nat_le (length fs) max_depth && later_frames heap height 0 fs

-- Where a throw frame lands: its frame is there, the last of its number of frames; its stack length is not below that
-- frame's base, nor past the base of the frame above or, where there is none above, past the stack's length.
abbrev pub base_at : List Frame → ℕ → Option ℕ
base_at frames n = option_map (λ f. f.base) (slice_get frames n)

abbrev pub reaches : ℕ → Option ℕ → Bool
reaches height None = false
reaches height (Some base) = nat_le base height

abbrev pub lands : List Frame → ℕ → ThrowFrame → Bool
lands frames height t =
    nat_le 1 t.frames && reaches t.height (base_at frames (t.frames - 1)) && nat_le t.height (unwrap_or (base_at frames t.frames) height)

-- Neither its number of frames nor its stack length is below that of the throw frame before it.
abbrev pub throw_stands : List Frame → ℕ → ℕ → ℕ → ThrowFrame → Bool
throw_stands frames height fewest lowest t = lands frames height t && nat_le fewest t.frames && nat_le lowest t.height

abbrev pub throws_stand : List Frame → ℕ → ℕ → ℕ → List ThrowFrame → Bool
throws_stand frames height fewest lowest [] = true
throws_stand frames height fewest lowest (t ∷ ts) = throw_stands frames height fewest lowest t && throws_stand frames height t.frames t.height ts

-- An open upvalue has a place on the stack that no other has; `taken` are the places of those before. The value of a
-- closed one names a cell that is there, where it names one.
abbrev pub upvalue_stands : ℕ → ℕ → List ℕ → Upvalue → Bool
upvalue_stands cells height taken (Opened place) = nat_lt place height && not (list_any (nat_eq place) taken)
upvalue_stands cells height taken (Closed v) = names cells v

abbrev pub taken_with : List ℕ → Upvalue → List ℕ
taken_with taken (Opened place) = taken ++ place ∷ []
taken_with taken (Closed v) = taken

abbrev pub upvalues_stand : ℕ → ℕ → List ℕ → List Upvalue → Bool
upvalues_stand cells height taken [] = true
upvalues_stand cells height taken (u ∷ us) = upvalue_stands cells height taken u && upvalues_stand cells height (taken_with taken u) us

abbrev pub requests_in : List TraceItem → ℕ
requests_in trace = count_by is_request trace

abbrev pub ended_with : (End → Bool) → Mode → Bool
ended_with f Running = false
ended_with f Waiting = false
ended_with f (Ended e) = f e

abbrev pub is_memory : End → Bool
is_memory (end.Done t) = false
is_memory (end.Threw t) = false
is_memory end.TurnsSpent = false
is_memory end.MemorySpent = true
is_memory end.TooDeep = false
is_memory end.TooManyFetches = false

-- the globals are a dictionary; there are none only where memory was spent
abbrev pub globals_stand : HeapOf FunCell → Mode → Option ℕ → Bool
globals_stand heap mode None = ended_with is_memory mode
globals_stand heap mode (Some n) = is_some (pairs_at heap n)

-- where the machine waits, what it showed last is a request
abbrev pub ends_with_request : List TraceItem → Bool
ends_with_request [] = false
ends_with_request (x ∷ []) = is_request x
ends_with_request (x ∷ y ∷ xs) = ends_with_request (y ∷ xs)

abbrev pub waits_for : Mode → List TraceItem → Bool
waits_for Running trace = true
waits_for Waiting trace = ends_with_request trace
waits_for (Ended e) trace = true

-- the meters hold, at least eight units are spent for each cell, and there are at most 100 requests
abbrev pub counts_stand : State → Bool
counts_stand s =
    nat_le s.turns max_turns && nat_le s.units max_units && nat_le (8 * length s.heap) s.units && nat_le (requests_in s.trace) most_requests

abbrev pub calls_stand : State → Bool
calls_stand s =
    frames_stand s.heap (length s.stack) (reverse s.frames) && throws_stand (reverse s.frames) (length s.stack) 0 0 (reverse s.throws)

abbrev pub values_stand : State → Bool
values_stand s =
    list_all (names (length s.heap)) (reverse s.stack) && list_all (cell_stands (length s.heap) (length s.upvalues)) s.heap
    && upvalues_stand (length s.heap) (length s.stack) [] s.upvalues

unfoldable pub is_state : RunState → Bool
is_state m =
    counts_stand m.state && calls_stand m.state && values_stand m.state && globals_stand m.state.heap m.state.mode m.globals
    && waits_for m.state.mode m.state.trace
