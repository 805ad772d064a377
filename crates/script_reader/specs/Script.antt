-- Which texts are scripts, and why a text is none.
use Rattle.std.specs.Prelude.{◌≡◌, ℕ, ◌<◌, ◌≤◌, List, length, Some, None, slice_get}
use Rattle.std.specs.List.{AllZip}
use Rattle.std.specs.Str.{IsUtf8}
use Rattle.serde_json.specs.Data.{Data}
use Rattle.serde_json.specs.Read.{read}
use Rattle.hog_program.specs.Build.{IsUnbuilt}
use Rattle.hog_program.specs.declared.stop.BuildStop.{BuildStop}
use Rattle.script_reader.specs.Elements.{elements_of, step_of}
use Rattle.script_reader.specs.Steps.{Builds}
use Rattle.script_reader.specs.declared.step.Step.{Step}
use Rattle.script_reader.specs.declared.step.Step.TheVariants.{Enqueue, Take, Beat, Work, Answer, Flush, Sweep, Lose, Forge, Back}
use Rattle.script_reader.specs.declared.step.ScriptStop.{ScriptStop}
use Rattle.script_reader.specs.declared.step.ScriptStop.TheVariants.{NotJson, NotAScript, TooMany, BadStep, BadSource, OutOfMemory}

-- the step has a source that isn't built, for this reason
abbrev pub BuildFails : Step → BuildStop → Type 0
BuildFails (Enqueue input priority at) stop = IsUnbuilt input.source stop
BuildFails (Take worker on now) stop = ⊥
BuildFails (Beat worker now) stop = ⊥
BuildFails (Work worker slice) stop = ⊥
BuildFails (Answer worker reply) stop = ⊥
BuildFails (Flush worker) stop = ⊥
BuildFails (Sweep now) stop = ⊥
BuildFails (Lose worker) stop = ⊥
BuildFails (Forge worker job draw) stop = ⊥
BuildFails (Back worker at) stop = ⊥

-- the element is this step
pub record IsStepOf (d : Data) (step : Step) : Type 0 where
  pub read : step_of d ≡ Some step
  pub builds : Builds step

-- the element is a step but for its source
pub record HasNoSource (stop : BuildStop) (d : Data) : Type 0 where
  pub step : Step
  pub read : step_of d ≡ Some step
  pub fails : BuildFails step stop

-- the most steps of a script
abbrev pub most_steps : ℕ
most_steps = 65536

-- the text is JSON of this value
pub record IsJson (text : List ℕ) (d : Data) : Type 0 where
  pub utf8 : IsUtf8 text
  pub is : read text ≡ Some d

-- The value is a script of these steps.
pub record ScriptIn (d : Data) (steps : List Step) : Type 0 where
  pub elements : List Data
  pub are : elements_of d ≡ Some elements
  pub few : length elements ≤ most_steps
  pub each : AllZip IsStepOf elements steps

-- The first of these elements that is no step, source and all, stands at that place, and of it this holds.
pub record FailsIn (elements : List Data) (n : ℕ) (fails : Data → Type 0) : Type 0 where
  pub before : (k : ℕ) (d : Data) → k < n → slice_get elements k ≡ Some d → (step : Step) × IsStepOf d step
  pub element : Data
  pub there : slice_get elements n ≡ Some element
  pub here : fails element

-- why elements are no steps
abbrev pub StopsIn : List Data → ScriptStop → Type 0
StopsIn elements NotJson = ⊥
StopsIn elements NotAScript = ⊥
StopsIn elements TooMany = ⊥
StopsIn elements (BadStep n) = FailsIn elements n (λ d. step_of d ≡ None)
StopsIn elements (BadSource n stop) = FailsIn elements n (HasNoSource stop)
StopsIn elements OutOfMemory = ⊥

-- The value is an array of not too many elements, which are no steps.
pub record NoStepsIn (d : Data) (stop : ScriptStop) : Type 0 where
  pub elements : List Data
  pub are : elements_of d ≡ Some elements
  pub few : length elements ≤ most_steps
  pub stops : StopsIn elements stop

-- why the value is no script
abbrev pub NoScriptIn : Data → ScriptStop → Type 0
NoScriptIn d NotJson = ⊥
NoScriptIn d NotAScript = elements_of d ≡ None
NoScriptIn d TooMany = (elements : List Data) × (elements_of d ≡ Some elements) × (most_steps < length elements)
NoScriptIn d (BadStep n) = NoStepsIn d (BadStep n)
NoScriptIn d (BadSource n stop) = NoStepsIn d (BadSource n stop)
NoScriptIn d OutOfMemory = ⊥

-- The text is a script of these steps.
pub record IsScript (text : List ℕ) (steps : List Step) : Type 0 where
  pub value : Data
  pub json : IsJson text value
  pub script : ScriptIn value steps

-- the text is JSON of a value that is no script
pub record IsOther (text : List ℕ) (stop : ScriptStop) : Type 0 where
  pub value : Data
  pub json : IsJson text value
  pub stops : NoScriptIn value stop

-- Why the text is no script: it isn't UTF-8 or no JSON is read from it, or it is JSON of a value that is none.
abbrev pub IsNoScript : List ℕ → ScriptStop → Type 0
IsNoScript text NotJson = IsUtf8 text → read text ≡ None
IsNoScript text NotAScript = IsOther text NotAScript
IsNoScript text TooMany = IsOther text TooMany
IsNoScript text (BadStep n) = IsOther text (BadStep n)
IsNoScript text (BadSource n stop) = IsOther text (BadSource n stop)
IsNoScript text OutOfMemory = ⊥
