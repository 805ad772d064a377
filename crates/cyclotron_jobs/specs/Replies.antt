-- Which replies a job may get.
use Rattle.std.specs.Prelude.{◌≡◌, ℕ, List, codes, slice_get, unwrap_or}
use Rattle.cyclotron_jobs.specs.declared.input.JobInput.{JobInput}
use Rattle.cyclotron_jobs.specs.declared.input.Reply.{Reply}
use Rattle.cyclotron_jobs.specs.declared.input.Answers.{Answers}
use Rattle.cyclotron_jobs.specs.declared.input.Answers.TheVariants.{Free, Listed}

-- the reply to the fetch of that number, counted from 0: that of the list, or else a 404 with the body `null`
abbrev pub listed_reply : List Reply → ℕ → Reply
listed_reply replies n = unwrap_or (slice_get replies n) (record { status = 404; body = codes "null" })

-- which replies may come at a place among the replies: any, or the one of the list
abbrev pub Allows : Answers → ℕ → Reply → Type 0
Allows Free n reply = Unit {0}
Allows (Listed replies) n reply = reply ≡ listed_reply replies n

-- which replies may come to a job with this input
abbrev pub AllowsReply : JobInput → ℕ → Reply → Type 0
AllowsReply input n reply = Allows input.answers n reply
