-- Causes of refusals, as their lines say them.
use Rattle.std.specs.Prelude.{ℕ, List, [], ◌++◌, codes}
use Rattle.std.specs.Fmt.{decimal}
use Rattle.hog_program.specs.declared.stop.BuildStop.{BuildStop}
use Rattle.hog_program.specs.declared.stop.BuildStop.TheVariants as stop
use Rattle.script_reader.specs.declared.step.ScriptStop.{ScriptStop}
use Rattle.script_reader.specs.declared.step.ScriptStop.TheVariants as script

-- why a source is no program, with the place of a byte in decimal
abbrev pub cause_of : BuildStop → List ℕ
cause_of stop.TooLong = codes "program too long"
cause_of (stop.NotUtf8 at) = codes "not utf8 at " ++ decimal at
cause_of (stop.BadByte at) = codes "bad byte at " ++ decimal at
cause_of (stop.Unclosed at) = codes "unclosed at " ++ decimal at
cause_of (stop.TooLarge at) = codes "too large a number at " ++ decimal at
cause_of (stop.Syntax at) = codes "syntax at " ++ decimal at
cause_of (stop.TooNested at) = codes "too nested at " ++ decimal at
cause_of (stop.AlreadyDeclared at) = codes "already declared at " ++ decimal at
cause_of (stop.AssignsUnknown at) = codes "assigns unknown at " ++ decimal at
cause_of (stop.UnknownFunction at) = codes "unknown function at " ++ decimal at
cause_of (stop.WrongCount at) = codes "wrong count at " ++ decimal at
cause_of stop.OutOfMemory = []

-- why a text is no script, with the number of a step in decimal, counted from 0
abbrev pub script_cause : ScriptStop → List ℕ
script_cause script.NotJson = codes "not json"
script_cause script.NotAScript = codes "not a script"
script_cause script.TooMany = codes "too many steps"
script_cause (script.BadStep n) = codes "step " ++ (decimal n ++ codes " is bad")
script_cause (script.BadSource n stop) = codes "step " ++ (decimal n ++ (codes ": " ++ cause_of stop))
script_cause script.OutOfMemory = []
