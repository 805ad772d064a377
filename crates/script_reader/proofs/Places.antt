-- Steps of the elements up to a place.
use Rattle.std.proofs.Common.{◌≡◌, ◌≤◌, ◌<◌, ℕ, zero, suc, List, [], ◌∷◌, ◌++◌, Some, length, take, refl, ap, subst, arith}
use Rattle.std.specs.Prelude.{slice_get}
use Rattle.std.specs.List.{AllZip}
use Rattle.serde_json.specs.Data.{Data}
use Rattle.script_reader.specs.Elements.{elements_of}
use Rattle.script_reader.specs.Script.{IsJson, IsNoScript, IsStepOf, NoScriptIn, StopsIn, most_steps}
use Rattle.script_reader.specs.declared.step.Step.{Step}
use Rattle.script_reader.specs.declared.step.ScriptStop.{ScriptStop}
use Rattle.script_reader.specs.declared.step.ScriptStop.TheVariants.{NotJson, NotAScript, TooMany, BadStep, BadSource, OutOfMemory}

pub zip_push : (ds : List Data) (steps : List Step) (d : Data) (s : Step) → AllZip IsStepOf ds steps → IsStepOf d s → AllZip IsStepOf (ds ++ d ∷ []) (steps ++ s ∷ [])
zip_push [] [] d s zipped is = (is, tt)
zip_push [] (x ∷ steps) d s zipped is = absurd zipped
zip_push (x ∷ ds) [] d s zipped is = absurd zipped
zip_push (x ∷ ds) (y ∷ steps) d s zipped is = (zipped.0, zip_push ds steps d s zipped.1 is)

pub zip_length : (ds : List Data) (steps : List Step) → AllZip IsStepOf ds steps → length steps ≡ length ds
zip_length [] [] zipped = refl
zip_length [] (x ∷ steps) zipped = absurd zipped
zip_length (x ∷ ds) [] zipped = absurd zipped
zip_length (x ∷ ds) (y ∷ steps) zipped = ap suc (zip_length ds steps zipped.1)

-- each element before the place is a step
pub before : (n : ℕ) (ds : List Data) (steps : List Step) → AllZip IsStepOf (take n ds) steps → (k : ℕ) (d : Data) → k < n → slice_get ds k ≡ Some d → (step : Step) × IsStepOf d step
before zero ds steps zipped k d below there = absurd (omega (arith, below))
before (suc n) [] steps zipped k d below there = absurd (cc)
before (suc n) (x ∷ ds) [] zipped k d below there = absurd zipped
before (suc n) (x ∷ ds) (s ∷ steps) zipped zero d below there = let same : x ≡ d = cc in (s, subst (λ y. IsStepOf y s) same zipped.0)
before (suc n) (x ∷ ds) (s ∷ steps) zipped (suc k) d below there = before n ds steps zipped.1 k d (omega (arith, below)) there

-- the step at a place
pub step_there : (ds : List Data) (steps : List Step) → AllZip IsStepOf ds steps → (n : ℕ) (d : Data) → slice_get ds n ≡ Some d → (step : Step) × IsStepOf d step
step_there [] steps zipped n d there = absurd (cc)
step_there (x ∷ ds) [] zipped n d there = absurd zipped
step_there (x ∷ ds) (s ∷ steps) zipped zero d there = let same : x ≡ d = cc in (s, subst (λ y. IsStepOf y s) same zipped.0)
step_there (x ∷ ds) (s ∷ steps) zipped (suc n) d there = step_there ds steps zipped.1 n d there

-- the refusal of elements is that of the array, and of the text that has it
pub stops_in : (d : Data) (ds : List Data) → elements_of d ≡ Some ds → length ds ≤ most_steps → (stop : ScriptStop) → StopsIn ds stop → NoScriptIn d stop
stops_in d ds are few NotJson stops = stops
stops_in d ds are few NotAScript stops = absurd stops
stops_in d ds are few TooMany stops = absurd stops
stops_in d ds are few (BadStep n) stops = record { elements = ds; are = are; few = few; stops = stops }
stops_in d ds are few (BadSource n stop) stops = record { elements = ds; are = are; few = few; stops = stops }
stops_in d ds are few OutOfMemory stops = stops

pub stops_text : (text : List ℕ) (d : Data) → IsJson text d → (stop : ScriptStop) → NoScriptIn d stop → IsNoScript text stop
stops_text text d json NotJson stops = absurd stops
stops_text text d json NotAScript stops = record { value = d; json = json; stops = stops }
stops_text text d json TooMany stops = record { value = d; json = json; stops = stops }
stops_text text d json (BadStep n) stops = record { value = d; json = json; stops = stops }
stops_text text d json (BadSource n stop) stops = record { value = d; json = json; stops = stops }
stops_text text d json OutOfMemory stops = stops
