-- The text of a machine, and what loading a text gives.
use Rattle.std.specs.Prelude.{◌≡◌, ℕ, List, Option, Some, None, Result, Ok, Err, if◌then◌else◌, bytes_eq}
use Rattle.serde_json.specs.Data.{Data}
use Rattle.serde_json.specs.Read.{read}
use Rattle.serde_json.specs.Written.{compact_text}
use Rattle.hog_ops.specs.Plain.{Ops}
use Rattle.vm_state.specs.declared.stop.StateStop.{StateStop}
use Rattle.vm_state.specs.declared.stop.StateStop.TheVariants as stops
use Rattle.vm_course.specs.Run.{RunState}
use Rattle.vm_state.specs.declared.parts.Format.{Format}
use Rattle.vm_state.specs.declared.parts.Format.TheVariants.{Second}
use Rattle.vm_state.specs.Saved.{Written}
use Rattle.vm_state.specs.Layout.{written_in, saved_data}
use Rattle.vm_state.specs.Tests.{is_written}
use Rattle.vm_course.specs.Belongs.{belongs}

unfoldable pub text_in : Format → RunState → List ℕ
text_in format m = compact_text (saved_data format m)

-- machines are saved in the second format
abbrev pub state_text : RunState → List ℕ
state_text m = text_in Second m

-- what a JSON value is the state of
abbrev pub where_state : Option Written → Option Written
where_state None = None
where_state (Some w) = if is_written w then Some w else None

unfoldable pub state_in : Data → Option Written
state_in d = where_state (written_in d)

abbrev pub of_written : Ops → List ℕ → Option Written → Result RunState StateStop
of_written code bytes None = Err stops.NotAState
of_written code bytes (Some w) =
    if belongs code w.saved then (if bytes_eq (text_in w.format w.saved) bytes then Ok w.saved else Err stops.NotCanonical) else Err stops.NotThisCode

unfoldable pub of_read : Ops → List ℕ → Option Data → Result RunState StateStop
of_read code bytes None = Err stops.NotJson
of_read code bytes (Some d) = of_written code bytes (state_in d)

-- the machine of a code that the bytes are the text of, or the first refusal
unfoldable pub load_of : Ops → List ℕ → Result RunState StateStop
load_of code bytes = of_read code bytes (read bytes)

-- A function answered so, unless memory ran out.
abbrev pub StopIs : StateStop → Result RunState StateStop → Type 0
StopIs stops.OutOfMemory r = Unit {0}
StopIs stops.NotJson r = r ≡ Err stops.NotJson
StopIs stops.NotAState r = r ≡ Err stops.NotAState
StopIs stops.NotThisCode r = r ≡ Err stops.NotThisCode
StopIs stops.NotCanonical r = r ≡ Err stops.NotCanonical

abbrev pub Answers : {X : Type 0} → (X → RunState) → Result X StateStop → Result RunState StateStop → Type 0
Answers see (Ok x) r = r ≡ Ok (see x)
Answers see (Err e) r = StopIs e r
