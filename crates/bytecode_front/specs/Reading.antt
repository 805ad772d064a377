-- The operations of a list of elements, or the first fault from the left.
use Rattle.std.specs.Prelude.{ℕ, zero, suc, ◌+◌, ◌-◌, ◌*◌, List, [], ◌∷◌, length, drop, take, Result, Ok, Err}
use Rattle.serde_json.specs.Data.{Data}
use Rattle.hog_ops.specs.Plain.{Op, Ops, Callable, NoOp, MoreOp}
use Rattle.hog_ops.specs.Table.{size}
use Rattle.bytecode_front.specs.declared.stop.Why.{Why}
use Rattle.bytecode_front.specs.declared.stop.Why.TheVariants.{Unknown, Outside, Bad}
use Rattle.bytecode_front.specs.declared.stop.CodeStop.{CodeStop}
use Rattle.bytecode_front.specs.declared.stop.CodeStop.TheVariants.{UnknownOp, OutOfProfile, BadOperand}
use Rattle.bytecode_front.specs.Front.{Front, Faulty, Found, Opens, front_of}

abbrev pub stop_at : ℕ → Why → CodeStop
stop_at at (Unknown z) = UnknownOp at z
stop_at at (Outside z) = OutOfProfile at z
stop_at at Bad = BadOperand at

-- an operation, and those that are read behind it
abbrev pub before : Op → Result Ops CodeStop → Result Ops CodeStop
before o (Ok os) = Ok (MoreOp o os)
before o (Err e) = Err e

-- a body, and what is read behind its operation
abbrev pub holding : (Ops → Op) → Result Ops CodeStop → Result Ops CodeStop → Result Ops CodeStop
holding f (Ok body) r = before (f body) r
holding f (Err e) r = Err e

-- how many elements a CALLABLE takes
abbrev pub callable_size : ℕ → ℕ → ℕ
callable_size captures len = 7 + len + 2 * captures

-- What is read where this stands at the front; `again` reads shorter lists.
abbrev pub read_front : (ℕ → ℕ → List Data → Result Ops CodeStop) → ℕ → ℕ → List Data → Front → Result Ops CodeStop
read_front again room at ds (Faulty w) = Err (stop_at at w)
read_front again room at ds (Found o) = before o (again room (at + size o) (drop (size o) ds))
read_front again room at ds (Opens name params captures len) =
    let n = callable_size (length captures) len in
    holding (λ body. Callable name params body captures) (again (room - 1) (at + 5) (take len (drop 5 ds))) (again room (at + n) (drop n ds))

abbrev pub read_by : ℕ → ℕ → ℕ → List Data → Result Ops CodeStop
read_by zero room at ds = Ok NoOp
read_by (suc n) room at [] = Ok NoOp
read_by (suc n) room at (d ∷ ds) = read_front (read_by n) room at (d ∷ ds) (front_of room (d ∷ ds))

-- the operations of elements that begin at the place
unfoldable pub read_ops : ℕ → ℕ → List Data → Result Ops CodeStop
read_ops room at ds = read_by (length ds) room at ds
