-- What the laws of what jobs show say.
use Rattle.std.specs.Prelude.{◌≡◌, ℕ, ◌<◌, ◌≤◌, List, length, Some, slice_get}
use Rattle.hog_value.specs.declared.trace.Request.{Request}
use Rattle.hog_value.specs.declared.trace.Shown.{Shown}
use Rattle.hog_meaning.specs.Meaning.{most_requests}
use Rattle.cyclotron_jobs.specs.declared.entry.Entry.{Entry}
use Rattle.cyclotron_jobs.specs.declared.input.JobInput.{JobInput}
use Rattle.cyclotron_jobs.specs.declared.input.Reply.{Reply}
use Rattle.cyclotron_jobs.specs.declared.row.After.TheVariants.{Fetch}
use Rattle.cyclotron_jobs.specs.declared.row.JobState.TheVariants.{Completed}
use Rattle.cyclotron_jobs.specs.declared.row.Row.{Row}
use Rattle.hog_jobs.specs.Jobs.{IsCourse}
use Rattle.hog_jobs.specs.Rows.{KeepsTheMeaning}
use Rattle.job_lines.specs.Lines.{allowed_replies, AreListed, enough_replies, LinesOf}

-- a job on course that waits for a reply has had fewer than a run may ask for
abbrev pub FewReplies : Type 0
FewReplies = (input : JobInput) (replies : List Reply) (ops : ℕ) (saved : List ℕ) (shown : Shown) (request : Request)
    → IsCourse input replies ops saved shown (Fetch request) → length replies < most_requests

-- the replies that a queue has for a job with listed answers are the first of its list
abbrev pub RepliesAreListed : Type 0
RepliesAreListed = (rows : List Row) (history : List Entry) → KeepsTheMeaning rows history
    → (k : ℕ) (row : Row) → slice_get rows k ≡ Some row → AreListed row.input.answers
    → row.replies ≡ allowed_replies row.input (length row.replies)

-- a completed row with listed answers shows just what its input says
abbrev pub RowsShowLines : Type 0
RowsShowLines = (rows : List Row) (history : List Entry) → KeepsTheMeaning rows history
    → (k : ℕ) (row : Row) → slice_get rows k ≡ Some row → AreListed row.input.answers
    → row.state ≡ Completed → length row.replies ≤ enough_replies → LinesOf row.input row.shown

-- a job shows one thing at most
abbrev pub OneShown : Type 0
OneShown = (input : JobInput) (a b : Shown) → LinesOf input a → LinesOf input b → a ≡ b
