-- What is written for a run. The lines themselves are those of hog_json.
use Rattle.std.specs.Prelude.{ℕ, List, [], ◌++◌, Option, Some, None}
use Rattle.hog_value.specs.declared.trace.End.{End}
use Rattle.hog_value.specs.declared.trace.Shown.{Shown}
use Rattle.hog_value.specs.declared.trace.TraceItem.{TraceItem}
use Rattle.hog_json.specs.Lines.{end_line, ended, trace_lines, waiting}

-- the line of an end, where there is one
abbrev pub end_lines : Option End → List ℕ
end_lines None = []
end_lines (Some end) = ended (end_line end)

-- All that is written for a run: the lines of its trace, and then the line of its end.
abbrev pub output_of : Shown → List ℕ
output_of shown = trace_lines shown.trace ++ end_lines shown.end

-- All that is written for a run that went as far as it can: the lines of its trace, and then the line of its end, or that it
-- waits.
abbrev pub rest_line : Option End → List ℕ
rest_line None = ended waiting
rest_line (Some end) = ended (end_line end)

abbrev pub run_output : List TraceItem → Option End → List ℕ
run_output trace end = trace_lines trace ++ rest_line end
