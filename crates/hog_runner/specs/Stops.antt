-- Why there is no program or no script, by why there is no text and why a text is none, and the status of an output.
use Rattle.std.specs.Prelude.{ℕ, Result, Ok, Err}
use Rattle.line_writer.specs.declared.output.OutputStop.{OutputStop}
use Rattle.line_writer.specs.declared.output.OutputStop.TheVariants as output
use Rattle.hog_program.specs.declared.stop.BuildStop.{BuildStop}
use Rattle.hog_program.specs.declared.stop.BuildStop.TheVariants as build
use Rattle.hog_runner.specs.declared.program.ProgramStop.{ProgramStop}
use Rattle.hog_runner.specs.declared.program.ProgramStop.TheVariants as stop
use Rattle.script_reader.specs.declared.step.ScriptStop.{ScriptStop}
use Rattle.script_reader.specs.declared.step.ScriptStop.TheVariants as script
use Rattle.hog_runner.specs.declared.script.NoScript.{NoScript}
use Rattle.hog_runner.specs.declared.script.NoScript.TheVariants as none
use Rattle.hog_runner.specs.declared.input.InputStop.{InputStop}
use Rattle.hog_runner.specs.declared.input.InputStop.TheVariants as input

abbrev pub of_input : InputStop → ProgramStop
of_input input.TooLarge = stop.TooLarge
of_input input.Failed = stop.ReadFailed
of_input input.OutOfMemory = stop.OutOfMemory

-- want of memory is no refusal
abbrev pub of_build : BuildStop → ProgramStop
of_build build.OutOfMemory = stop.OutOfMemory
of_build s = stop.Refused s

-- why there is no script, likewise
abbrev pub script_of_input : InputStop → NoScript
script_of_input input.TooLarge = none.TooLarge
script_of_input input.Failed = none.ReadFailed
script_of_input input.OutOfMemory = none.OutOfMemory

abbrev pub of_script : ScriptStop → NoScript
of_script script.OutOfMemory = none.OutOfMemory
of_script s = none.Refused s

-- the status of an output that was to be written
abbrev pub status_of : Result (Unit {0}) OutputStop → ℕ
status_of (Ok done) = 0
status_of (Err output.Failed) = 4
status_of (Err output.OutOfMemory) = 5
