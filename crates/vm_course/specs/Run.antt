-- A run between two operations, and what becomes of it by a slice and by a reply.
use Rattle.std.specs.Prelude.{◌≡◌, ℕ, zero, suc, ◌+◌, ◌-◌, ◌≤◌, List, [], ◌∷◌, length, drop, Option, Some, None, unwrap_or}
use Rattle.hog_value.specs.declared.cell.FunCell.{FunCell}
use Rattle.hog_value.specs.Values.{Val}
use Rattle.hog_value.specs.Operations as op
use Rattle.hog_value.specs.Operations.{Outcome}
use Rattle.hog_ops.specs.Plain.{Ops}
use Rattle.hog_meaning.specs.Program.{first_cells}
use Rattle.hog_meaning.specs.World.{Fixed, Reply}
use Rattle.vm_course.specs.State.{code_slots, Running, Waiting, Ended, Mode, State}
use Rattle.vm_course.specs.Step.{step, take_reply}
use Rattle.vm_course.specs.Course.{literals_of_code, started, machine, IsDefined}

-- How many operations were done, the start counted; how many replies were taken in; the cell of the globals, which there is
-- none of where the run ended in its first operation; and the state. Replies that are to come are no part of a run.
pub record RunState : Type 0 where
  pub ops : ℕ
  pub used : ℕ
  pub globals : Option ℕ
  pub state : State

-- operation 1

abbrev pub globals_cell : Outcome FunCell Val → Option ℕ
globals_cell (op.Gives v heap units) = Some (length heap - 1)
globals_cell (op.Throws kind) = None
globals_cell op.Spends = None

abbrev pub begun_with : Outcome FunCell Val → RunState
begun_with cells = record { ops = 1; used = 0; globals = globals_cell cells; state = started [] cells }

abbrev pub begun : Ops → List ℕ → RunState
begun code globals = begun_with (first_cells (literals_of_code code) globals)

-- what a run of a code never changes
abbrev pub fixed_of : Ops → Option ℕ → Fixed
fixed_of code globals = record { literals = literals_of_code code; globals = unwrap_or globals 0 }

-- one operation more
abbrev pub one_more : Ops → RunState → RunState
one_more code r = record r { ops = r.ops + 1; state = step (fixed_of code r.globals) (code_slots code) r.state }

-- the first where the machine goes on, the second where it waits or has ended
abbrev pub where_running : {A : Type 0} → Mode → A → A → A
where_running Running x y = x
where_running Waiting x y = y
where_running (Ended e) x y = y

-- so many operations; fewer where the machine waits or ends, and then no more
abbrev pub run_for : Ops → ℕ → RunState → RunState
run_for code zero r = r
run_for code (suc n) r = where_running r.state.mode (run_for code n (one_more code r)) r

-- A reply is taken in. It counts as used where its response fits; where it doesn't, the run has ended.
abbrev pub resumed_as : State → RunState → RunState
resumed_as after r = record r { ops = r.ops + 1; used = where_running after.mode (r.used + 1) r.used; state = after }

abbrev pub resumed : Reply → RunState → RunState
resumed reply r = resumed_as (take_reply (reply ∷ []) r.state) r

-- the state with these replies to come
abbrev pub with_replies : List Reply → State → State
with_replies replies s = record s { replies = replies }

-- The run is that of a code on globals and replies, of which it has taken in the first: with the others still to come, its
-- state is the machine's after as many operations, and it went past no end, nor past a wait at which all replies were used.
pub record IsRunOf (code : Ops) (globals : List ℕ) (replies : List Reply) (r : RunState) : Type 0 where
  pub begun : 1 ≤ r.ops
  pub cell : r.globals ≡ globals_cell (first_cells (literals_of_code code) globals)
  pub state : with_replies (drop r.used replies) r.state ≡ machine code globals replies (r.ops - 1)
  pub defined : IsDefined code globals replies r.ops
  pub none_left : r.state.replies ≡ []
