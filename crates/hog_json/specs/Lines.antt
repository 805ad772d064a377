-- The lines that a run shows. Texts are quoted as JSON spells a string.
use Rattle.std.specs.Prelude.{ℕ, List, [], ◌∷◌, ◌++◌, codes, flat_map}
use Rattle.json.specs.Print.{quoted}
use Rattle.hog_value.specs.declared.trace.TraceItem.{TraceItem}
use Rattle.hog_value.specs.declared.trace.TraceItem.TheVariants.{Printed, Asked}
use Rattle.hog_value.specs.declared.trace.End.{End}
use Rattle.hog_value.specs.declared.trace.End.TheVariants.{Done, Threw, TurnsSpent, MemorySpent, TooDeep, TooManyFetches}

-- a print or a request
abbrev pub trace_line : TraceItem → List ℕ
trace_line (Printed text) = codes "print " ++ quoted text
trace_line (Asked request) = codes "request " ++ (quoted request.url ++ 32 ∷ quoted request.options)

-- the end of a run
abbrev pub end_line : End → List ℕ
end_line (Done text) = codes "result " ++ quoted text
end_line (Threw text) = codes "threw " ++ quoted text
end_line TurnsSpent = codes "turns spent"
end_line MemorySpent = codes "memory spent"
end_line TooDeep = codes "too deep"
end_line TooManyFetches = codes "too many fetches"

-- a run that waits for the answer of a request has this line in place of an end's
abbrev pub waiting : List ℕ
waiting = codes "waiting"

-- a line with the line feed that ends it
abbrev pub ended : List ℕ → List ℕ
ended line = line ++ 10 ∷ []

-- the lines of a trace
abbrev pub trace_lines : List TraceItem → List ℕ
trace_lines = flat_map (λ item. ended (trace_line item))
