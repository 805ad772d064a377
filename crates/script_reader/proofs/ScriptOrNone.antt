-- A text is one script, or none.
use Rattle.std.proofs.Common.{◌≡◌, ℕ, List, [], ◌∷◌, Option, Some, None, length, refl, sym, ap, ap₂, ◌∙◌, subst, arith}
use Rattle.std.specs.List.{AllZip}
use Rattle.serde_json.specs.Data.{Data}
use Rattle.hog_tree.specs.Plain.{Stms}
use Rattle.hog_program.specs.Build.{IsBuilt, IsUnbuilt}
use Rattle.hog_program.specs.declared.stop.BuildStop.{BuildStop}
use Rattle.script_reader.specs.Elements.{elements_of, step_of}
use Rattle.script_reader.specs.Steps.{Builds}
use Rattle.script_reader.specs.Script.{BuildFails, IsNoScript, IsOther, IsScript, IsStepOf, NoScriptIn, NoStepsIn, ScriptIn, StopsIn}
use Rattle.script_reader.specs.declared.step.ScriptStop.{ScriptStop}
use Rattle.script_reader.specs.declared.step.ScriptStop.TheVariants.{NotJson, NotAScript, TooMany, BadStep, BadSource, OutOfMemory}
use Rattle.script_reader.specs.declared.step.Step.{Step}
use Rattle.script_reader.specs.declared.step.Step.TheVariants.{Enqueue, Take, Beat, Work, Answer, Flush, Sweep, Lose, Forge, Back}
use Rattle.script_reader.proofs.Places.{step_there}

same_some : {A : Type 0} (o : Option A) (a b : A) → o ≡ Some a → o ≡ Some b → a ≡ b
same_some o a b p q = cc

same_steps : (ds : List Data) (a b : List Step) → AllZip IsStepOf ds a → AllZip IsStepOf ds b → a ≡ b
same_steps [] [] [] p q = refl
same_steps [] [] (y ∷ b) p q = absurd q
same_steps [] (x ∷ a) b p q = absurd p
same_steps (d ∷ ds) [] b p q = absurd p
same_steps (d ∷ ds) (x ∷ a) [] p q = absurd q
same_steps (d ∷ ds) (x ∷ a) (y ∷ b) p q =
    ap₂ (λ s rest. s ∷ rest) (same_some (step_of d) x y p.0.read q.0.read) (same_steps ds a b p.1 q.1)

same_elements : (d : Data) (xs ys : List Data) → elements_of d ≡ Some xs → elements_of d ≡ Some ys → xs ≡ ys
same_elements d xs ys p q = same_some (elements_of d) xs ys p q

pub one : (text : List ℕ) (a b : List Step) → IsScript text a → IsScript text b → a ≡ b
one text a b p q =
    let value : q.value ≡ p.value = same_some _ q.value p.value q.json.is p.json.is in
    let are : elements_of p.value ≡ Some q.script.elements = subst (λ d. elements_of d ≡ Some q.script.elements) value q.script.are in
    let elements : q.script.elements ≡ p.script.elements = same_elements p.value q.script.elements p.script.elements are p.script.are in
    same_steps p.script.elements a b p.script.each (subst (λ ds. AllZip IsStepOf ds b) elements q.script.each)

-- a source is built, or it isn't
abbrev pub BuiltOrUnbuilt : Type 0
BuiltOrUnbuilt = (source : List ℕ) (whole : Stms) (stop : BuildStop) → IsBuilt source whole → IsUnbuilt source stop → ⊥

builds_or_fails : BuiltOrUnbuilt → (step : Step) (stop : BuildStop) → Builds step → BuildFails step stop → ⊥
builds_or_fails laws (Enqueue input priority at) stop builds fails = laws input.source builds.1.whole stop builds.1.is_built fails
builds_or_fails laws (Take worker on now) stop builds fails = fails
builds_or_fails laws (Beat worker now) stop builds fails = fails
builds_or_fails laws (Work worker slice) stop builds fails = fails
builds_or_fails laws (Answer worker reply) stop builds fails = fails
builds_or_fails laws (Flush worker) stop builds fails = fails
builds_or_fails laws (Sweep now) stop builds fails = fails
builds_or_fails laws (Lose worker) stop builds fails = fails
builds_or_fails laws (Forge worker job draw) stop builds fails = fails
builds_or_fails laws (Back worker at) stop builds fails = fails

steps_or_stop : BuiltOrUnbuilt → (ds : List Data) (steps : List Step) (stop : ScriptStop) → AllZip IsStepOf ds steps → StopsIn ds stop → ⊥
steps_or_stop laws ds steps NotJson zipped stops = stops
steps_or_stop laws ds steps NotAScript zipped stops = stops
steps_or_stop laws ds steps TooMany zipped stops = stops
steps_or_stop laws ds steps (BadStep n) zipped stops =
    let there = step_there ds steps zipped n stops.element stops.there in
    let none : None ≡ Some there.0 = sym stops.here ∙ there.1.read in
    absurd (cc)
steps_or_stop laws ds steps (BadSource n stop) zipped stops =
    let there = step_there ds steps zipped n stops.element stops.there in
    let same : there.0 ≡ stops.here.step = same_some (step_of stops.element) there.0 stops.here.step there.1.read stops.here.read in
    builds_or_fails laws stops.here.step stop (subst Builds same there.1.builds) stops.here.fails
steps_or_stop laws ds steps OutOfMemory zipped stops = stops

steps_or_none : BuiltOrUnbuilt → (d : Data) (steps : List Step) (stop : ScriptStop) → ScriptIn d steps → NoStepsIn d stop → ⊥
steps_or_none laws d steps stop script none =
    let same = same_elements d script.elements none.elements script.are none.are in
    steps_or_stop laws none.elements steps stop (subst (λ ds. AllZip IsStepOf ds steps) same script.each) none.stops

script_or_stop : BuiltOrUnbuilt → (d : Data) (steps : List Step) (stop : ScriptStop) → ScriptIn d steps → NoScriptIn d stop → ⊥
script_or_stop laws d steps NotJson script none = none
script_or_stop laws d steps NotAScript script none = let bad : None ≡ Some script.elements = sym none ∙ script.are in absurd (cc)
script_or_stop laws d steps TooMany script none =
    let same = same_elements d script.elements none.0 script.are none.1 in
    absurd (omega (arith, script.few, none.2, ap length same))
script_or_stop laws d steps (BadStep n) script none = steps_or_none laws d steps (BadStep n) script none
script_or_stop laws d steps (BadSource n stop) script none = steps_or_none laws d steps (BadSource n stop) script none
script_or_stop laws d steps OutOfMemory script none = none

script_or_other : BuiltOrUnbuilt → (text : List ℕ) (steps : List Step) (stop : ScriptStop) → IsScript text steps → IsOther text stop → ⊥
script_or_other laws text steps stop script other =
    let same : script.value ≡ other.value = same_some _ script.value other.value script.json.is other.json.is in
    script_or_stop laws other.value steps stop (subst (λ d. ScriptIn d steps) same script.script) other.stops

pub script_or_none : BuiltOrUnbuilt → (text : List ℕ) (steps : List Step) (stop : ScriptStop) → IsScript text steps → IsNoScript text stop → ⊥
script_or_none laws text steps NotJson script none =
    let bad : None ≡ Some script.value = sym (none script.json.utf8) ∙ script.json.is in absurd (cc)
script_or_none laws text steps NotAScript script none = script_or_other laws text steps NotAScript script none
script_or_none laws text steps TooMany script none = script_or_other laws text steps TooMany script none
script_or_none laws text steps (BadStep n) script none = script_or_other laws text steps (BadStep n) script none
script_or_none laws text steps (BadSource n stop) script none = script_or_other laws text steps (BadSource n stop) script none
script_or_none laws text steps OutOfMemory script none = none
