-- How saving and loading undo one another.
use Rattle.std.specs.Prelude.{◌≡◌, ◌↔◌, ◌≢◌, ℕ, ◌+◌, ◌<◌, ◌^◌, List, [], ◌∷◌, true, Option, Some, IfSome, Ok, Err, option_and_then}
use Rattle.std.specs.List.{AllByRecursion}
use Rattle.serde_json.specs.Data.{Data, Members, object}
use Rattle.serde_json.specs.Read.{read}
use Rattle.hog_value.specs.declared.cell.FunCell.{FunCell}
use Rattle.hog_value.specs.declared.trace.End.TheVariants as end
use Rattle.hog_value.specs.Cells.{CellOf, Text, Array, Dict, Fun}
use Rattle.hog_json.specs.Reading.{kept_value}
use Rattle.hog_ops.specs.Plain.{Ops}
use Rattle.hog_ops.specs.Valid.{IsCode}
use Rattle.hog_meaning.specs.World.{Reply}
use Rattle.state_forms.specs.Shapes.{list_in, number_data}
use Rattle.state_forms.specs.Values.{ValueFits, PairFits, CellFits}
use Rattle.state_forms.specs.Calls.{FrameFits, ThrowFits, UpvalueFits}
use Rattle.vm_course.specs.State.{Waiting, Ended}
use Rattle.vm_state.specs.declared.stop.StateStop.{StateStop}
use Rattle.vm_state.specs.declared.stop.StateStop.TheVariants as stops
use Rattle.vm_course.specs.Run.{RunState, begun, run_for, resumed, IsRunOf}
use Rattle.vm_state.specs.declared.parts.Format.{Format}
use Rattle.vm_state.specs.declared.parts.Format.TheVariants.{First, Second}
use Rattle.vm_course.specs.States.{requests_in, is_state}
use Rattle.vm_state.specs.Layout.{format_in, elements_of}
use Rattle.vm_course.specs.Belongs.{belongs}
use Rattle.vm_state.specs.Text.{text_in, load_of}
use Rattle.vm_state.specs.Refusals.{IsLoaded, IsRefused}

-- each number is one of its type, no dictionary has a key twice, and replies are no part of a machine
pub record SavedFits (m : RunState) : Type 0 where
  pub ops : m.ops < 2 ^ 64
  pub turns : m.state.turns < 2 ^ 32
  pub units : m.state.units < 2 ^ 32
  pub used : m.used < 2 ^ 64
  pub asked : requests_in m.state.trace < 2 ^ 32
  pub globals : IfSome m.globals (λ n. n < 2 ^ 32)
  pub stack : AllByRecursion ValueFits m.state.stack
  pub frames : AllByRecursion FrameFits m.state.frames
  pub throws : AllByRecursion ThrowFits m.state.throws
  pub upvalues : AllByRecursion UpvalueFits m.state.upvalues
  pub heap : AllByRecursion CellFits m.state.heap
  pub replies : m.state.replies ≡ []

-- what holds of each machine of a code
pub record IsMachineOf (code : Ops) (m : RunState) : Type 0 where
  pub fits : SavedFits m
  pub state : is_state m ≡ true
  pub belongs : belongs code m ≡ true

-- a machine's text loads as that machine
abbrev pub LoadsSaved : Type 0
LoadsSaved = (code : Ops) (m : RunState) → IsMachineOf code m → load_of code (text_in Second m) ≡ Ok m

-- so does its text in the first format, unless it has ended as too many fetches
abbrev pub LoadsOld : Type 0
LoadsOld = (code : Ops) (m : RunState) → IsMachineOf code m → m.state.mode ≢ Ended end.TooManyFetches → load_of code (text_in First m) ≡ Ok m

-- the format of a text that is JSON
abbrev pub format_of_text : List ℕ → Option Format
format_of_text bytes = option_and_then format_in (option_and_then list_in (read bytes))

-- the bytes that were loaded are the machine's text in their format: those in the second are what is saved
abbrev pub SavesLoaded : Type 0
SavesLoaded = (code : Ops) (bytes : List ℕ) (m : RunState) (format : Format) → load_of code bytes ≡ Ok m → format_of_text bytes ≡ Some format → text_in format m ≡ bytes

-- what was loaded has a format
abbrev pub HasFormat : Type 0
HasFormat = (code : Ops) (bytes : List ℕ) (m : RunState) → load_of code bytes ≡ Ok m → (format : Format) × (format_of_text bytes ≡ Some format)

-- The elements of the second format are those of the first with 2 as the second, and with the number of requests behind
-- that of the replies.
abbrev pub renewed : ℕ → List Data → List Data
renewed asked (name ∷ format ∷ ops ∷ turns ∷ units ∷ used ∷ rest) = name ∷ number_data 2 ∷ ops ∷ turns ∷ units ∷ used ∷ number_data asked ∷ rest
renewed asked ds = ds

abbrev pub Renews : Type 0
Renews = (m : RunState) → elements_of Second m ≡ renewed (requests_in m.state.trace) (elements_of First m)

-- what is loaded, and each refusal, comes exactly where it is said
abbrev pub LoadsExactly : Type 0
LoadsExactly = (code : Ops) (bytes : List ℕ) (m : RunState) → (load_of code bytes ≡ Ok m) ↔ IsLoaded code bytes m

abbrev pub RefusesExactly : Type 0
RefusesExactly = (code : Ops) (bytes : List ℕ) (e : StateStop) → e ≢ stops.OutOfMemory → (load_of code bytes ≡ Err e) ↔ IsRefused code bytes e

-- what was loaded is a state, and belongs to the code
abbrev pub LoadsStates : Type 0
LoadsStates = (code : Ops) (bytes : List ℕ) (m : RunState) → load_of code bytes ≡ Ok m → (is_state m ≡ true) × (belongs code m ≡ true)

-- The globals are an object of JSON.
abbrev pub AreGlobals : List ℕ → Type 0
AreGlobals globals = (ms : Members) × (kept_value globals ≡ object ms)

-- Each number of a run is one of its type: what the types of a machine that runs keep.
abbrev pub CellNumbers : CellOf FunCell → Type 0
CellNumbers (Text t) = Unit {0}
CellNumbers (Array vs) = AllByRecursion ValueFits vs
CellNumbers (Dict ps) = AllByRecursion PairFits ps
CellNumbers (Fun f) = (f.place < 2 ^ 32) × AllByRecursion (λ n. n < 2 ^ 32) f.captured

pub record NumbersFit (r : RunState) : Type 0 where
  pub ops : r.ops < 2 ^ 64
  pub used : r.used < 2 ^ 64
  pub stack : AllByRecursion ValueFits r.state.stack
  pub frames : AllByRecursion FrameFits r.state.frames
  pub throws : AllByRecursion ThrowFits r.state.throws
  pub upvalues : AllByRecursion UpvalueFits r.state.upvalues
  pub heap : AllByRecursion CellNumbers r.state.heap

-- each run of a code on its globals and replies is a machine of the code, which is saved and loaded
abbrev pub RunsAreMachines : Type 0
RunsAreMachines = (code : Ops) (globals : List ℕ) (replies : List Reply) (r : RunState)
    → IsCode code → AreGlobals globals → IsRunOf code globals replies r → NumbersFit r → IsMachineOf code r

-- What begins is a machine of its code, and a machine of a code stays one, by a slice and by a reply, while its numbers are
-- those of its types.
abbrev pub RunsBegin : Type 0
RunsBegin = (code : Ops) (globals : List ℕ) → IsCode code → AreGlobals globals → NumbersFit (begun code globals) → IsMachineOf code (begun code globals)

abbrev pub SlicesKeep : Type 0
SlicesKeep = (code : Ops) (n : ℕ) (m : RunState) → IsCode code → IsMachineOf code m → NumbersFit (run_for code n m) → IsMachineOf code (run_for code n m)

abbrev pub RepliesKeep : Type 0
RepliesKeep = (code : Ops) (reply : Reply) (m : RunState) → IsMachineOf code m → m.state.mode ≡ Waiting → NumbersFit (resumed reply m) → IsMachineOf code (resumed reply m)

-- The text loads, and what was loaded comes by a slice to this run.
pub record ComesTo (code : Ops) (text : List ℕ) (slice : ℕ) (r : RunState) : Type 0 where
  pub loaded : RunState
  pub loads : load_of code text ≡ Ok loaded
  pub comes : run_for code slice loaded ≡ r

-- A machine that is saved after a slice, loaded and run for another comes to where one slice of as many operations leaves it.
abbrev pub SavedSlicesCompose : Type 0
SavedSlicesCompose = (code : Ops) (a b : ℕ) (m : RunState) → IsCode code → IsMachineOf code m → NumbersFit (run_for code a m) → ComesTo code (text_in Second (run_for code a m)) b (run_for code (a + b) m)
