-- The commands: the words that ask for them, what they write, and why they refuse their input.
use Rattle.std.specs.Prelude.{◌≡◌, ◌⊎◌, ℕ, ◌<◌, ◌≤◌, List, [], ◌∷◌, ◌++◌, length, codes, bytes_eq, nat_le, ◌&&◌, Bool, true, false, Option, Some, None, if◌then◌else◌}
use Rattle.std.specs.Char.{is_ascii_digit}
use Rattle.std.specs.Fmt.{decimal}
use Rattle.std.specs.List.{list_all}
use Rattle.std.specs.Option.{option_map}
use Rattle.hog_library.specs.Texts.{number_of_digits}
use Rattle.hog_tree.specs.Plain.{Stms}
use Rattle.hog_program.specs.Build.{IsBuilt, IsUnbuilt}
use Rattle.hog_program.specs.Source.{IsProgram, IsNone}
use Rattle.hog_program.specs.declared.stop.BuildStop.{BuildStop}
use Rattle.hog_printer.specs.Print.{printed}
use Rattle.hog_compiler.specs.Code.{code_of}
use Rattle.bytecode_json.specs.Text.{code_text}
use Rattle.hog_json.specs.Lines.{ended}
use Rattle.hog_meaning.specs.Program.{Shows, meaning}
use Rattle.hog_bridge.specs.Laws.{IsNamed}
use Rattle.cyclotron_jobs.specs.declared.input.JobInput.{JobInput}
use Rattle.cyclotron_jobs.specs.declared.row.Row.{Row}
use Rattle.cyclotron_jobs.specs.declared.entry.Entry.{Entry}
use Rattle.made_jobs.specs.Made.{Makes}
use Rattle.made_jobs.specs.declared.making.MadeCounts.{MadeCounts}
use Rattle.script_reader.specs.Script.{IsNoScript, IsScript}
use Rattle.script_reader.specs.declared.step.ScriptStop.{ScriptStop}
use Rattle.script_reader.specs.declared.step.Step.{Step}
use Rattle.script_steps.specs.Plays.{Plays, PlaysPart}
use Rattle.hog_runner.specs.declared.words.Command.{Command}
use Rattle.hog_runner.specs.declared.words.Command.TheVariants.{Source, Replay, Make}
use Rattle.hog_runner.specs.declared.words.SourceCommand.{SourceCommand}
use Rattle.hog_runner.specs.declared.words.SourceCommand.TheVariants.{Eval, Fmt, Compile}
use Rattle.line_writer.specs.Lines.{run_output}
use Rattle.hog_runner.specs.Causes.{cause_of, script_cause}

-- the command of a name
abbrev pub command_named : List ℕ → Option Command
command_named word =
    if bytes_eq word (codes "eval") then Some (Source Eval) else (
    if bytes_eq word (codes "fmt") then Some (Source Fmt) else (
    if bytes_eq word (codes "compile") then Some (Source Compile) else (
    if bytes_eq word (codes "replay") then Some Replay else None)))

-- the greatest number that `make` takes
abbrev pub most_made : ℕ
most_made = 3000

-- the number that one to four decimal digits spell, where it isn't too great
abbrev pub made_number : List ℕ → Option ℕ
made_number word =
    if (nat_le 1 (length word) && nat_le (length word) 4) && (list_all is_ascii_digit word && nat_le (number_of_digits word) most_made)
    then Some (number_of_digits word) else None

-- the command of a name and a number
abbrev pub command_with : List ℕ → List ℕ → Option Command
command_with word number = if bytes_eq word (codes "make") then option_map Make (made_number number) else None

-- the command that a list of words asks for
abbrev pub command_of : List (List ℕ) → Option Command
command_of [] = None
command_of (word ∷ []) = command_named word
command_of (word ∷ number ∷ []) = command_with word number
command_of (word ∷ number ∷ more ∷ words) = None

-- its number, where it has one, isn't too great
abbrev pub HasSmallNumber : Command → Type 0
HasSmallNumber (Source command) = Unit {0}
HasSmallNumber Replay = Unit {0}
HasSmallNumber (Make n) = n ≤ most_made

-- whether the input is read, by what the words ask for; `make` has none
abbrev pub reads_input : Option Command → Bool
reads_input None = false
reads_input (Some (Source command)) = true
reads_input (Some Replay) = true
reads_input (Some (Make n)) = false

-- whether there is a queue to work on
abbrev pub has_queue : Option Command → Bool
has_queue None = false
has_queue (Some (Source command)) = false
has_queue (Some Replay) = true
has_queue (Some (Make n)) = true

-- What the command has for its input: all that the source has left, where it tells that; no byte where none is read.
abbrev pub input_of : Option Command → Option (List ℕ) → Option (List ℕ)
input_of asked left = if reads_input asked then left else Some []

-- the most bytes of input that are taken
abbrev pub most_bytes : ℕ
most_bytes = 16777216

-- ---- sources

-- The program that a command reads: for running and compiling it, the whole of it, with what it mentions of the prelude, where its
-- names are without fault; for printing, its tree.
abbrev pub ReadsProgram : SourceCommand → List ℕ → Stms → Type 0
ReadsProgram Eval text tree = IsBuilt text tree
ReadsProgram Fmt text tree = IsProgram text tree
ReadsProgram Compile text tree = IsBuilt text tree

-- why there is no such program
abbrev pub Rejects : SourceCommand → List ℕ → BuildStop → Type 0
Rejects Eval text stop = IsUnbuilt text stop
Rejects Fmt text stop = IsNone text stop
Rejects Compile text stop = IsUnbuilt text stop

-- what is written for all that a program shows
abbrev pub shows_output : Shows → List ℕ
shows_output shown = run_output shown.trace shown.end

-- What a command writes for a program with this tree: the lines of its meaning on no globals and no replies, the printed tree,
-- or the line of its bytecode.
abbrev pub IsOutput : SourceCommand → Stms → List ℕ → Type 0
IsOutput Eval tree out = out ≡ shows_output (meaning tree (codes "{}") [])
IsOutput Fmt tree out = out ≡ printed tree
IsOutput Compile tree out = out ≡ ended (code_text (code_of tree))

-- what a program is to be for the command: for running it, one whose names are right
abbrev pub IsReady : SourceCommand → Stms → Type 0
IsReady Eval tree = IsNamed tree
IsReady Fmt tree = Unit {0}
IsReady Compile tree = Unit {0}

-- what a command writes for a source
pub record SourceOutputs (command : SourceCommand) (text out : List ℕ) : Type 0 where
  pub tree : Stms
  pub program : ReadsProgram command text tree
  pub output : IsOutput command tree out

-- Why a command refuses a source, as the line of the refusal says it.
pub data SourceRefuses (command : SourceCommand) (text cause : List ℕ) : Type 0 where
  -- there is too much of it
  TooLarge : most_bytes < length text → cause ≡ codes "too large" → SourceRefuses command text cause
  -- it is no program
  NoProgram : length text ≤ most_bytes → (stop : BuildStop) → Rejects command text stop → cause ≡ cause_of stop → SourceRefuses command text cause

-- ---- scripts

-- the text is a script of these steps, and not too long
pub record ScriptOf (text : List ℕ) (steps : List Step) : Type 0 where
  pub small : length text ≤ most_bytes
  pub script : IsScript text steps

-- A play of the steps on an empty queue has these lines. Its steps are the fold of specs/Play.antt in script_steps.
pub record PlaysWhole (steps : List Step) (out : List ℕ) : Type 0 where
  pub before : ℕ
  pub after : ℕ
  pub rows : List Row
  pub history : List Entry
  pub plays : Plays before after steps rows history out

-- what is written for a script
pub record ScriptOutputs (text out : List ℕ) : Type 0 where
  pub steps : List Step
  pub script : ScriptOf text steps
  pub lines : PlaysWhole steps out

-- the lines of the first steps of its play, or all its lines
pub record ScriptPart {K : Type 0} (faults : K → ℕ) (keeper : K) (text out : List ℕ) : Type 0 where
  pub steps : List Step
  pub script : ScriptOf text steps
  pub lines : PlaysPart faults keeper steps out

-- why a script is refused
pub data ScriptRefuses (text cause : List ℕ) : Type 0 where
  -- there is too much of it
  TooMuch : most_bytes < length text → cause ≡ codes "too large" → ScriptRefuses text cause
  -- it is no script
  NoScript : length text ≤ most_bytes → (stop : ScriptStop) → IsNoScript text stop → cause ≡ script_cause stop → ScriptRefuses text cause

-- ---- made plans

-- the line of the plan of a number
abbrev pub make_line : ℕ → MadeCounts → List ℕ
make_line n counts = ended (
    codes "make " ++ (decimal n
    ++ (codes " events " ++ (decimal counts.events
    ++ (codes " jobs " ++ (decimal counts.jobs
    ++ (codes " prints " ++ (decimal counts.lines.prints
    ++ (codes " requests " ++ (decimal counts.lines.requests
    ++ (codes " done " ++ (decimal counts.lines.done
    ++ (codes " threw " ++ decimal counts.lines.threw)))))))))))))

-- what is written for the plan of a number: the line of its counts
pub record MakeOutputs (n : ℕ) (out : List ℕ) : Type 0 where
  pub inputs : List JobInput
  pub counts : MadeCounts
  pub makes : Makes n inputs counts
  pub line : out ≡ make_line n counts

-- ---- all commands

-- what a command writes for its input
abbrev pub Outputs : Command → List ℕ → List ℕ → Type 0
Outputs (Source command) = SourceOutputs command
Outputs Replay = ScriptOutputs
Outputs (Make n) = λ text. MakeOutputs n

-- What is there of it where a write fails or memory is wanted, before the prefix of it that was written is taken: of a
-- source and of a made plan the whole output, of a script the lines of the steps that were played.
abbrev pub OutputsPart : {K : Type 0} → (K → ℕ) → K → Command → List ℕ → List ℕ → Type 0
OutputsPart faults keeper (Source command) = SourceOutputs command
OutputsPart faults keeper Replay = ScriptPart faults keeper
OutputsPart faults keeper (Make n) = λ text. MakeOutputs n

-- which inputs a command takes
abbrev pub Accepts : Command → List ℕ → Type 0
Accepts (Source command) text = (out : List ℕ) × SourceOutputs command text out
Accepts Replay text = (steps : List Step) × ScriptOf text steps
Accepts (Make n) text = Unit {0}

-- why a command refuses its input, as the line of the refusal says it
abbrev pub RefusesInput : Command → List ℕ → List ℕ → Type 0
RefusesInput (Source command) = SourceRefuses command
RefusesInput Replay = ScriptRefuses
RefusesInput (Make n) = λ text cause. ⊥

-- How a command ends that takes its input, where no stream fails: it is done, or for want of memory, and `make` also by a fault of
-- its keeper.
abbrev pub Completes : Command → ℕ → Type 0
Completes (Source command) status = (status ≡ 0) ⊎ (status ≡ 5)
Completes Replay status = (status ≡ 0) ⊎ (status ≡ 5)
Completes (Make n) status = (status ≡ 0) ⊎ ((status ≡ 5) ⊎ (status ≡ 6))
