-- Frames, throw frames, upvalues and modes as JSON data.
use Rattle.std.specs.Prelude.{ℕ, ◌<◌, ◌^◌, ◌==◌, List, [], ◌∷◌, Bool, true, false, Option, Some, None, IfSome, is_some, if◌then◌else◌, codes, bytes_eq}
use Rattle.serde_json.specs.Data.{Data, null, string}
use Rattle.serde_json.specs.Find.{as_null, as_str}
use Rattle.hog_value.specs.declared.trace.End.{End}
use Rattle.state_forms.specs.Shapes.{◌>>=◌, list_in, list, u32_in, number_data, maybe_in, maybe_data}
use Rattle.state_forms.specs.Values.{value_in, value_data, ValueFits}
use Rattle.state_forms.specs.Shown.{end_in, end_data}
use Rattle.vm_course.specs.State.{Upvalue, Opened, Closed, Frame, ThrowFrame, Running, Waiting, Ended, Mode}

-- [place, base, cell of the function or null]
abbrev pub frame_in_list : List Data → Option Frame
frame_in_list (p ∷ b ∷ f ∷ []) =
    u32_in p >>= λ place. u32_in b >>= λ base. maybe_in u32_in f >>= λ function. Some record { place = place; base = base; function = function }
frame_in_list _ = None

abbrev pub frame_in : Data → Option Frame
frame_in d = list_in d >>= frame_in_list

abbrev pub frame_data : Frame → Data
frame_data f = list (number_data f.place ∷ number_data f.base ∷ maybe_data number_data f.function ∷ [])

abbrev pub FrameFits : Frame → Type 0
FrameFits f = (f.place < 2 ^ 32) × (f.base < 2 ^ 32) × IfSome f.function (λ n. n < 2 ^ 32)

-- [number of frames, stack length, catch place]
abbrev pub throw_in_list : List Data → Option ThrowFrame
throw_in_list (n ∷ h ∷ c ∷ []) =
    u32_in n >>= λ frames. u32_in h >>= λ height. u32_in c >>= λ catch. Some record { frames = frames; height = height; catch = catch }
throw_in_list _ = None

abbrev pub throw_in : Data → Option ThrowFrame
throw_in d = list_in d >>= throw_in_list

abbrev pub throw_data : ThrowFrame → Data
throw_data t = list (number_data t.frames ∷ number_data t.height ∷ number_data t.catch ∷ [])

abbrev pub ThrowFits : ThrowFrame → Type 0
ThrowFits t = (t.frames < 2 ^ 32) × (t.height < 2 ^ 32) × (t.catch < 2 ^ 32)

-- [0, stack place] while open, [1, value] when closed
abbrev pub upvalue_by : ℕ → Data → Option Upvalue
upvalue_by n d = if n == 0 then (u32_in d >>= λ place. Some (Opened place)) else (if n == 1 then (value_in d >>= λ v. Some (Closed v)) else None)

abbrev pub upvalue_in_list : List Data → Option Upvalue
upvalue_in_list (k ∷ d ∷ []) = u32_in k >>= λ n. upvalue_by n d
upvalue_in_list _ = None

abbrev pub upvalue_in : Data → Option Upvalue
upvalue_in d = list_in d >>= upvalue_in_list

abbrev pub upvalue_data : Upvalue → Data
upvalue_data (Opened place) = list (number_data 0 ∷ number_data place ∷ [])
upvalue_data (Closed v) = list (number_data 1 ∷ value_data v ∷ [])

abbrev pub UpvalueFits : Upvalue → Type 0
UpvalueFits (Opened place) = place < 2 ^ 32
UpvalueFits (Closed v) = ValueFits v

-- null while the machine goes on, "wait" while it waits, or its end
abbrev pub is_wait : Option (List ℕ) → Bool
is_wait None = false
is_wait (Some word) = bytes_eq word (codes "wait")

abbrev pub mode_in : Data → Option Mode
mode_in d =
    if is_some (as_null d) then Some Running
    else (if is_wait (as_str d) then Some Waiting else (end_in d >>= λ e. Some (Ended e)))

abbrev pub mode_data : Mode → Data
mode_data Running = null
mode_data Waiting = string (codes "wait")
mode_data (Ended e) = end_data e

-- a machine has ended where it has an end, and else it may wait
abbrev pub mode_of : Bool → Option End → Mode
mode_of waiting (Some e) = Ended e
mode_of true None = Waiting
mode_of false None = Running
