-- Each refusal of a text in the words of what is wrong with it: it comes exactly there.
use Rattle.std.specs.Prelude.{◌≡◌, ◌≢◌, ℕ, List, true, false, Some, None}
use Rattle.serde_json.specs.Data.{Data}
use Rattle.serde_json.specs.Read.{read}
use Rattle.hog_ops.specs.Plain.{Ops}
use Rattle.vm_state.specs.declared.stop.StateStop.{StateStop}
use Rattle.vm_state.specs.declared.stop.StateStop.TheVariants as stops
use Rattle.vm_course.specs.Run.{RunState}
use Rattle.vm_state.specs.Saved.{Written}
use Rattle.vm_course.specs.Belongs.{belongs}
use Rattle.vm_state.specs.Text.{text_in, state_in}

-- the bytes are JSON, and their value is the state of what was written
abbrev pub IsStateOf : List ℕ → Written → Type 0
IsStateOf bytes w = (d : Data) × (read bytes ≡ Some d) × (state_in d ≡ Some w)

-- the machine belongs to the code, and the bytes are its text in their own format
abbrev pub IsLoaded : Ops → List ℕ → RunState → Type 0
IsLoaded code bytes m = (w : Written) × IsStateOf bytes w × (w.saved ≡ m) × (belongs code m ≡ true) × (text_in w.format m ≡ bytes)

-- Want of memory can come anywhere.
abbrev pub IsRefused : Ops → List ℕ → StateStop → Type 0
IsRefused code bytes stops.NotJson = read bytes ≡ None
IsRefused code bytes stops.NotAState = (d : Data) × (read bytes ≡ Some d) × (state_in d ≡ None)
IsRefused code bytes stops.NotThisCode = (w : Written) × IsStateOf bytes w × (belongs code w.saved ≡ false)
IsRefused code bytes stops.NotCanonical = (w : Written) × IsStateOf bytes w × (belongs code w.saved ≡ true) × (text_in w.format w.saved ≢ bytes)
IsRefused code bytes stops.OutOfMemory = Unit {0}
