-- An input that a command takes has no cause to be refused, and what a command has for its input.
use Rattle.std.proofs.Common.{◌≡◌, ◌⊎◌, inl, inr, ℕ, ◌≤◌, List, [], length, Option, Some, None, refl, sym, subst, arith}
use Rattle.std.specs.Prelude.{IsSome, IfSome}
use Rattle.std.specs.Option.{ForSome}
use Rattle.hog_tree.specs.Plain.{Stms}
use Rattle.hog_program.specs.Build.{IsBuilt, IsUnbuilt}
use Rattle.hog_program.specs.Source.{IsProgram, IsNone, longest}
use Rattle.hog_program.specs.declared.stop.BuildStop.{BuildStop}
use Rattle.script_reader.specs.Script.{IsNoScript, IsScript}
use Rattle.script_reader.specs.declared.step.ScriptStop.{ScriptStop}
use Rattle.script_reader.specs.declared.step.Step.{Step}
use Rattle.hog_runner.specs.declared.words.Command.{Command}
use Rattle.hog_runner.specs.declared.words.Command.TheVariants.{Source, Replay, Make}
use Rattle.hog_runner.specs.declared.words.SourceCommand.{SourceCommand}
use Rattle.hog_runner.specs.declared.words.SourceCommand.TheVariants.{Eval, Fmt, Compile}
use Rattle.hog_runner.specs.Commands.{Accepts, Completes, input_of, NoProgram, NoScript, Outputs, OutputsPart, ReadsProgram, RefusesInput, Rejects, ScriptOf, ScriptRefuses, SourceRefuses, TooLarge, TooMuch}

-- what holds of texts: none is a program or a script, and refused
pub record Laws : Type 0 where
  pub program_or_none : (source : List ℕ) (tree : Stms) (stop : BuildStop) → IsProgram source tree → IsNone source stop → ⊥
  pub built_or_unbuilt : (source : List ℕ) (whole : Stms) (stop : BuildStop) → IsBuilt source whole → IsUnbuilt source stop → ⊥
  pub script_or_none : (text : List ℕ) (steps : List Step) (stop : ScriptStop) → IsScript text steps → IsNoScript text stop → ⊥

not_both : Laws → (command : SourceCommand) (source : List ℕ) (tree : Stms) (stop : BuildStop) → ReadsProgram command source tree → Rejects command source stop → ⊥
not_both laws Eval source tree stop p n = laws.built_or_unbuilt source tree stop p n
not_both laws Fmt source tree stop p n = laws.program_or_none source tree stop p n
not_both laws Compile source tree stop p n = laws.built_or_unbuilt source tree stop p n

short : (command : SourceCommand) (source : List ℕ) (tree : Stms) → ReadsProgram command source tree → length source ≤ longest
short Eval source tree p = p.source.is.short
short Fmt source tree p = p.short
short Compile source tree p = p.source.is.short

not_refused : Laws → (command : SourceCommand) (text : List ℕ) (tree : Stms) → ReadsProgram command text tree → (cause : List ℕ) → SourceRefuses command text cause → ⊥
not_refused laws command text tree program cause (TooLarge large is) = let few = short command text tree program in absurd (omega (arith, few, large))
not_refused laws command text tree program cause (NoProgram _ stop none is) = not_both laws command text tree stop program none

script_not_refused : Laws → (text : List ℕ) (steps : List Step) → ScriptOf text steps → (cause : List ℕ) → ScriptRefuses text cause → ⊥
script_not_refused laws text steps is cause (TooMuch large line) = absurd (omega (arith, is.small, large))
script_not_refused laws text steps is cause (NoScript small stop none line) = laws.script_or_none text steps stop is.script none

pub accepted : Laws → (command : Command) (text : List ℕ) → Accepts command text → (cause : List ℕ) → RefusesInput command text cause → ⊥
accepted laws (Source command) text o cause why = not_refused laws command text o.1.tree o.1.program cause why
accepted laws Replay text o cause why = script_not_refused laws text o.0 o.1 cause why
accepted laws (Make n) text o cause why = why

pub output_accepted : (command : Command) (text out : List ℕ) → Outputs command text out → Accepts command text
output_accepted (Source command) text out o = (out, o)
output_accepted Replay text out o = (o.steps, o.script)
output_accepted (Make n) text out o = tt

pub part_accepted : {K : Type 0} (faults : K → ℕ) (keeper : K) (command : Command) (text out : List ℕ) → OutputsPart faults keeper command text out → Accepts command text
part_accepted faults keeper (Source command) text out o = (out, o)
part_accepted faults keeper Replay text out o = (o.steps, o.script)
part_accepted faults keeper (Make n) text out o = tt

-- an input that is refused is what the source has left
pub refused_left : (command : Command) (left : Option (List ℕ)) (cause : List ℕ)
    → ForSome (input_of (Some command) left) (λ text. RefusesInput command text cause) → ForSome left (λ text. RefusesInput command text cause)
refused_left (Source command) left cause why text told = why text told
refused_left Replay left cause why text told = why text told
refused_left (Make n) left cause why text told = why [] refl

pub refused_input : (command : Command) (left : Option (List ℕ)) (text cause : List ℕ) → RefusesInput command text cause → left ≡ Some text → input_of (Some command) left ≡ Some text
refused_input (Source command) left text cause why told = told
refused_input Replay left text cause why told = told
refused_input (Make n) left text cause why told = absurd why

-- how it ends where no stream fails
pub completes : (command : Command) (status : ℕ) → (status ≡ 0) ⊎ (status ≡ 5) → Completes command status
completes (Source command) status end = end
completes Replay status end = end
completes (Make n) status (inl zero) = inl zero
completes (Make n) status (inr five) = inr (inl five)

pub completes_failed : (command : Command) (status n : ℕ) → command ≡ Make n → status ≡ 6 → Completes command status
completes_failed command status n is six = subst (λ x. Completes x status) (sym is) (inr (inr six))

pub same_command : (o : Option Command) (a b : Command) → o ≡ Some a → o ≡ Some b → a ≡ b
same_command o a b p q = cc

-- the value of an option that is there
pub picked : {A : Type 0} (o : Option A) (P : A → Type 0) → IsSome o → IfSome o P → (x : A) × P x
picked None P some holds = absurd (cc)
picked (Some x) P some holds = (x, holds)

pub if_some_then : {A : Type 0} (o : Option A) (P Q : A → Type 0) → ((x : A) → P x → Q x) → IfSome o P → IfSome o Q
if_some_then None P Q f h = tt
if_some_then (Some x) P Q f h = f x h
