-- Why a play wasn't written to its end, by why a line wasn't.
use Rattle.line_writer.specs.declared.output.OutputStop.{OutputStop}
use Rattle.line_writer.specs.declared.output.OutputStop.TheVariants as output
use Rattle.script_steps.specs.declared.stop.PlayStop.{PlayStop}
use Rattle.script_steps.specs.declared.stop.PlayStop.TheVariants as stop

abbrev pub of_output : OutputStop → PlayStop
of_output output.Failed = stop.Write
of_output output.OutOfMemory = stop.OutOfMemory
