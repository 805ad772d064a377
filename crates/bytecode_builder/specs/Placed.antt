-- Operations that were read, and whose distances were then tested.
use Rattle.std.specs.Prelude.{◌≡◌, ℕ, Option, Some, None, Result, Ok, Err}
use Rattle.hog_ops.specs.Plain.{Ops}
use Rattle.hog_ops.specs.Valid.{lost}
use Rattle.bytecode_front.specs.declared.stop.CodeStop.{CodeStop}
use Rattle.bytecode_front.specs.declared.stop.CodeStop.TheVariants as stops

abbrev pub on_lost : Ops → Option ℕ → Result Ops CodeStop
on_lost ops None = Ok ops
on_lost ops (Some at) = Err (stops.BadOperand at)

-- after all other faults: operations that begin at the place, if their distances lead somewhere
abbrev pub placed : ℕ → Result Ops CodeStop → Result Ops CodeStop
placed at (Ok ops) = on_lost ops (lost at ops)
placed at (Err e) = Err e

-- A function was stopped so, unless memory ran out.
abbrev pub StopIs : CodeStop → Result Ops CodeStop → Type 0
StopIs stops.OutOfMemory r = Unit {0}
StopIs stops.NotJson r = r ≡ Err stops.NotJson
StopIs stops.NoHeader r = r ≡ Err stops.NoHeader
StopIs (stops.Version v) r = r ≡ Err (stops.Version v)
StopIs (stops.UnknownOp at n) r = r ≡ Err (stops.UnknownOp at n)
StopIs (stops.OutOfProfile at n) r = r ≡ Err (stops.OutOfProfile at n)
StopIs (stops.BadOperand at) r = r ≡ Err (stops.BadOperand at)

-- A function answered so, unless memory ran out.
abbrev pub Answers : Result Ops CodeStop → Result Ops CodeStop → Type 0
Answers (Ok ops) r = r ≡ Ok ops
Answers (Err e) r = StopIs e r
