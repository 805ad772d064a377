-- What a program shows on its globals and a list of replies.
use Rattle.std.specs.Prelude.{ℕ, suc, ◌+◌, ◌-◌, List, [], length, Option, Some, None, Result, Ok, Err, if◌then◌else◌, nat_le}
use Rattle.hog_value.specs.declared.trace.TraceItem.{TraceItem}
use Rattle.hog_value.specs.declared.trace.End.{End}
use Rattle.hog_value.specs.declared.trace.End.TheVariants as end
use Rattle.hog_value.specs.Values.{Val}
use Rattle.hog_value.specs.declared.value.Value.TheVariants.{Null}
use Rattle.hog_value.specs.Meters.{max_turns, max_units}
use Rattle.hog_value.specs.Operations as op
use Rattle.hog_value.specs.Operations.{Outcome}
use Rattle.hog_json.specs.Texts.{shown}
use Rattle.hog_json.specs.Reading.{outcome_and_then, read_cells, kept_value}
use Rattle.hog_library.specs.Cells.{texts_made}
use Rattle.hog_scope.specs.declared.item.Item.{Item}
use Rattle.hog_scope.specs.Literals.{literals_of}
use Rattle.hog_scope.specs.Scopes.{Fault, items_of}
use Rattle.hog_tree.specs.Plain.{Word, Stms, ManyStms}
use Rattle.hog_meaning.specs.Meaning.{Call, effect_at}
use Rattle.hog_meaning.specs.World.{Closure, Reply, World, Limit, TurnsSpent, MemorySpent, TooDeep, TooManyFetches, Got, Gives, Throws, Waits, Spends, Flow, GoesOn, Returns}

-- what a program shows: its trace, and its end, which isn't there where it waits for a reply
pub record Shows : Type 0 where
  pub trace : List TraceItem
  pub end : Option End

abbrev pub end_of : Limit → End
end_of TurnsSpent = end.TurnsSpent
end_of MemorySpent = end.MemorySpent
end_of TooDeep = end.TooDeep
end_of TooManyFetches = end.TooManyFetches

-- an end with a shown text, which is charged; where it doesn't fit, memory is spent
abbrev pub charged_end : (List ℕ → End) → World → Val → End
charged_end make w v = if nat_le (w.units + length (shown w.heap v)) max_units then make (shown w.heap v) else end.MemorySpent

-- what comes of a program's body
abbrev pub shows : Got Flow → Shows
shows (Gives (GoesOn ρ) w) = record { trace = w.trace; end = Some (charged_end end.Done w Null) }
shows (Gives (Returns v) w) = record { trace = w.trace; end = Some (charged_end end.Done w v) }
shows (Throws v w) = record { trace = w.trace; end = Some (charged_end end.Threw w v) }
shows (Waits w) = record { trace = w.trace; end = None }
shows (Spends limit w) = record { trace = w.trace; end = Some (end_of limit) }

-- the literal texts of a program, in byte order
abbrev pub texts_by : Stms → Result (List Item) Fault → List Word
texts_by program (Ok items) = literals_of program items
texts_by program (Err fault) = []

abbrev pub texts_in : Stms → List Word
texts_in program = texts_by program (items_of program)

-- The first cells of a run: the literal texts, and then those of the globals, whose dictionary is the last. All of them are
-- made or none.
unfoldable pub first_cells : {F : Type 0} → List Word → List ℕ → Outcome F Val
first_cells texts globals = outcome_and_then (texts_made texts [] 0) (λ vs. read_cells (kept_value globals))

-- a run of a program on its first cells, of which the globals' is the last
abbrev pub run_from : Stms → List Word → List Reply → Outcome Closure Val → Got Flow
run_from program texts replies (op.Gives v heap units) =
    effect_at (record { literals = texts; globals = length heap - 1 }) (suc max_turns) 0 (Call (ManyStms program)) []
    (record { heap = heap; store = []; turns = 0; units = units; trace = []; replies = replies })
run_from program texts replies (op.Throws kind) = Spends MemorySpent (record { heap = []; store = []; turns = 0; units = 0; trace = []; replies = replies })
run_from program texts replies op.Spends = Spends MemorySpent (record { heap = []; store = []; turns = 0; units = 0; trace = []; replies = replies })

-- A run of a whole program, the prelude's functions among it, on the JSON text of its globals and on replies.
unfoldable pub outcome : Stms → List ℕ → List Reply → Got Flow
outcome program globals replies = run_from program (texts_in program) replies (first_cells (texts_in program) globals)

-- what it shows
unfoldable pub meaning : Stms → List ℕ → List Reply → Shows
meaning program globals replies = shows (outcome program globals replies)
