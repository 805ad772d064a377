-- What contracts see of a queue, and what a queue always keeps.
use Rattle.std.specs.Prelude.{ℕ, ◌≡◌, ◌<◌, length, vec_len, vec_capacity, Bool, true, List, Option, Some, slice_get}
use Rattle.std.specs.declared.vec.Vec.{Vec}
use Rattle.std.specs.declared.alloc.Global.{Global}
use Rattle.cyclotron_jobs.specs.declared.input.Reply.{Reply}
use Rattle.cyclotron_jobs.specs.declared.row.Row.{Row}
use Rattle.cyclotron_jobs.specs.declared.row.JobState.TheVariants.{Running}
use Rattle.cyclotron_jobs.specs.declared.entry.Entry.{Entry}
use Rattle.queue_history.specs.Rules.{InputRule, CourseRule, ReplyRule}
use Rattle.queue_history.specs.Facts.{takes_of}
use Rattle.queue_history.specs.Rows.{IsKept}
use Rattle.index_lists.specs.Lists.{ListsOf}
use Rattle.cyclotron_core.specs.Listing.{IsListing}

-- the rows by job number, the history, the room for more entries, and the keeper
pub record QueueOf (K : Type 0) : Type 0 where
  pub rows : List Row
  pub history : List Entry
  pub spare : ℕ
  pub keeper : K

-- where the keeper tells its rows, it holds the row of each job
abbrev pub HoldsRows : Bool → (ℕ → Option Row) → List Row → Type 0
HoldsRows tells held rows = tells ≡ true → (job : ℕ) (row : Row) → slice_get rows job ≡ Some row → held job ≡ Some row

-- rows and history belong together, the draws are counted, and the keeper holds the rows
pub record IsSound (takes : InputRule) (on_course : CourseRule) (reply_ok : ReplyRule) (tells : Bool) (rows : List Row) (history : List Entry) (drawn : ℕ) (held : ℕ → Option Row) : Type 0 where
  pub kept : IsKept takes on_course reply_ok rows history
  pub draws : drawn ≡ takes_of history
  pub holds : HoldsRows tells held rows

-- a copy of the replies, with room for one more
pub record IsRoom (replies : List Reply) (room : Vec Reply Global) : Type 0 where
  pub items : room.items ≡ replies
  pub space : vec_len room < vec_capacity room

-- each running job has such a copy
pub record IsRoomy (rows : List Row) (rooms : List (Vec Reply Global)) : Type 0 where
  pub count : length rooms ≡ length rows
  pub each : (k : ℕ) (row : Row) (room : Vec Reply Global) → slice_get rows k ≡ Some row → slice_get rooms k ≡ Some room → row.state ≡ Running → IsRoom row.replies room

pub record IsQueue (takes : InputRule) (on_course : CourseRule) (reply_ok : ReplyRule) (tells : Bool) (rows : List Row) (history : List Entry) (drawn : ℕ) (held : ℕ → Option Row) (rooms : List (Vec Reply Global)) (lists : ListsOf) : Type 0 where
  pub sound : IsSound takes on_course reply_ok tells rows history drawn held
  pub roomy : IsRoomy rows rooms
  pub listed : IsListing rows lists
