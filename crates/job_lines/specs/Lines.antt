-- What a job shows, by its input alone.
use Rattle.std.specs.Prelude.{◌≡◌, ℕ, zero, suc, List, [], ◌∷◌, ◌++◌}
use Rattle.hog_value.specs.declared.trace.Shown.{Shown}
use Rattle.hog_meaning.specs.World.{Got, Flow}
use Rattle.hog_meaning.specs.Program.{shows}
use Rattle.hog_program.specs.Course.{Means}
use Rattle.cyclotron_jobs.specs.declared.input.JobInput.{JobInput}
use Rattle.cyclotron_jobs.specs.declared.input.Reply.{Reply}
use Rattle.cyclotron_jobs.specs.declared.input.Answers.{Answers}
use Rattle.cyclotron_jobs.specs.declared.input.Answers.TheVariants.{Free, Listed}
use Rattle.cyclotron_jobs.specs.Replies.{listed_reply}
use Rattle.hog_jobs.specs.Course.{replies_of}

-- the first so many replies by a list of answers
abbrev pub listed_replies : List Reply → ℕ → List Reply
listed_replies answers zero = []
listed_replies answers (suc n) = listed_replies answers n ++ listed_reply answers n ∷ []

-- the same of a job's answers; those to a free input come from outside, so none is known
abbrev pub known_replies : Answers → ℕ → List Reply
known_replies Free n = []
known_replies (Listed answers) n = listed_replies answers n

-- the first so many replies that a job with this input gets
unfoldable pub allowed_replies : JobInput → ℕ → List Reply
allowed_replies input n = known_replies input.answers n

-- the replies to this input are those of a list
abbrev pub AreListed : Answers → Type 0
AreListed Free = ⊥
AreListed (Listed answers) = Unit {0}

-- more replies than any run takes, since it asks for 100 at most
abbrev pub enough_replies : ℕ
enough_replies = 100000

-- What a job with this input shows: what comes of its source on its globals and its first 100,000 replies.
pub record LinesOf (input : JobInput) (seen : Shown) : Type 0 where
  pub got : Got Flow
  pub means : Means input.source input.globals (replies_of (allowed_replies input enough_replies)) got
  pub shown : shows got ≡ record { trace = seen.trace; end = seen.end }
