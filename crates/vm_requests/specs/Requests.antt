-- How many requests a run has made.
use Rattle.std.specs.Prelude.{ℕ, ◌+◌, ◌≤◌, List, length}
use Rattle.hog_ops.specs.Plain.{Ops}
use Rattle.hog_meaning.specs.World.{Reply}
use Rattle.vm_course.specs.State.{Running, Waiting, Ended, Mode, State}
use Rattle.vm_course.specs.States.{requests_in}
use Rattle.vm_course.specs.Course.{machine}

-- the requests that have no reply yet: the one at which the machine waits
abbrev pub open_requests : Mode → ℕ
open_requests Running = 0
open_requests Waiting = 1
open_requests (Ended e) = 0

-- The replies that were taken in, of so many, are no more than the requests that have one.
abbrev pub HasAsked : ℕ → State → Type 0
HasAsked replies s = replies + open_requests s.mode ≤ requests_in s.trace + length s.replies

abbrev pub RepliesAnswerRequests : Type 0
RepliesAnswerRequests = (code : Ops) (globals : List ℕ) (replies : List Reply) (k : ℕ) → HasAsked (length replies) (machine code globals replies k)
