-- What a run changes, and what an evaluation gives.
use Rattle.std.specs.Prelude.{ℕ, ◌+◌, List, [], ◌∷◌, ◌++◌, length, Option, Some, None, if◌then◌else◌, bytes_eq, unwrap_or, slice_get, slice_set, nat_lt, Result, Ok, Err}
use Rattle.hog_value.specs.declared.value.Kind.{Kind}
use Rattle.hog_value.specs.declared.trace.TraceItem.{TraceItem}
use Rattle.hog_value.specs.Values.{Val}
use Rattle.hog_value.specs.declared.value.Value.TheVariants.{Null}
use Rattle.hog_value.specs.Meters.{Spent, max_turns}
use Rattle.hog_value.specs.Cells.{HeapOf}
use Rattle.hog_value.specs.Operations as op
use Rattle.hog_value.specs.Operations.{Outcome}
use Rattle.hog_library.specs.Cells.{thrown}
use Rattle.hog_tree.specs.Plain.{Word, Body}

-- the names in sight with their variables, the nearest first; a variable is a number, and is never used again
abbrev pub Env : Type 0
Env = List (Word × ℕ)

-- a function: its parameters, its body, and the names that were in sight where it was made
pub record Closure : Type 0 where
  pub params : List Word
  pub body : Body
  pub env : Env

-- a reply: its status, and the text of its body
pub record Reply : Type 0 where
  pub status : ℕ
  pub body : List ℕ

-- What a run changes: the cells, the values of the variables, the turns and units that are spent, the trace, and the
-- replies that are left. The depth isn't among them: it goes down with the calls.
pub record World : Type 0 where
  pub heap : HeapOf Closure
  pub store : List Val
  pub turns : ℕ
  pub units : ℕ
  pub trace : List TraceItem
  pub replies : List Reply

-- what a run never changes: its literal texts, of which number n is the cell n, and the cell of its globals
pub record Fixed : Type 0 where
  pub literals : List Word
  pub globals : ℕ

-- why a run ends without a result and without a throw
pub data Limit : Type 0 where
  TurnsSpent : Limit
  MemorySpent : Limit
  TooDeep : Limit
  TooManyFetches : Limit

-- what an evaluation gives: a result, a thrown value, that it waits for a reply, or that a limit is met; with the world after it
pub data Got (A : Type 0) : Type 0 where
  Gives : A → World → Got A
  Throws : Val → World → Got A
  Waits : World → Got A
  Spends : Limit → World → Got A

-- goes on where there is a result
abbrev pub and_then : {A B : Type 0} → Got A → (A → World → Got B) → Got B
and_then (Gives a w) go = go a w
and_then (Throws v w) go = Throws v w
and_then (Waits w) go = Waits w
and_then (Spends limit w) go = Spends limit w

-- how a statement ends: on it goes with these names in sight, or the function returns
pub data Flow : Type 0 where
  GoesOn : Env → Flow
  Returns : Val → Flow

-- variables

-- the variable that a word names
abbrev pub find_var : Env → Word → Option ℕ
find_var [] w = None
find_var (v ∷ ρ) w = if bytes_eq v.0 w then Some v.1 else find_var ρ w

abbrev pub read_var : World → ℕ → Val
read_var w x = unwrap_or (slice_get w.store x) Null

-- a new variable with this value
abbrev pub declare : Val → World → World
declare v w = record w { store = w.store ++ v ∷ [] }

-- a name for the variable that is made next
abbrev pub named : Word → World → Env → Env
named name w ρ = (name, length w.store) ∷ ρ

abbrev pub write_var : ℕ → Val → World → World
write_var x v w = record w { store = slice_set w.store x v }

-- charges and throws

-- the world with another heap, and so many units spent
abbrev pub with_heap : World → HeapOf Closure → ℕ → World
with_heap w h units = record w { heap = h; units = units }

abbrev pub said : TraceItem → World → World
said item w = record w { trace = w.trace ++ item ∷ [] }

-- what was spent, at a depth
abbrev pub spent_at : ℕ → World → Spent
spent_at depth w = record { turns = w.turns; units = w.units; depth = depth }

-- a kind is thrown as the dictionary that is made of it
abbrev pub throw_made : World → Outcome Closure Val → Got Val
throw_made w (op.Gives v h units) = Throws v (with_heap w h units)
throw_made w (op.Throws kind) = Spends MemorySpent w
throw_made w op.Spends = Spends MemorySpent w

abbrev pub thrown_as : {A : Type 0} → Got Val → Got A
thrown_as (Gives v w) = Throws v w
thrown_as (Throws v w) = Throws v w
thrown_as (Waits w) = Waits w
thrown_as (Spends limit w) = Spends limit w

unfoldable pub throws : {A : Type 0} → Kind → World → Got A
throws kind w = thrown_as (throw_made w (thrown kind w.heap w.units))

-- an operation's result, or what it throws
abbrev pub of_result : {A : Type 0} → Result A Kind → World → Got A
of_result (Ok a) w = Gives a w
of_result (Err kind) w = throws kind w

-- an operation on the heap, with its charge
abbrev pub of_outcome : {A : Type 0} → Outcome Closure A → World → Got A
of_outcome (op.Gives a h units) w = Gives a (with_heap w h units)
of_outcome (op.Throws kind) w = throws kind w
of_outcome op.Spends w = Spends MemorySpent w

-- goes on with one turn more spent
abbrev pub with_turn : {A : Type 0} → World → (World → Got A) → Got A
with_turn w go = if nat_lt w.turns max_turns then go (record w { turns = w.turns + 1 }) else Spends TurnsSpent w
