-- Words of the course of a job.
use Rattle.std.specs.Prelude.{◌≡◌, [], Option, Some, None, IsTrue, is_some}
use Rattle.hog_value.specs.declared.trace.Shown.{Shown}
use Rattle.hog_value.specs.declared.trace.Request.{Request}
use Rattle.cyclotron_jobs.specs.declared.row.QueueName.{QueueName}
use Rattle.cyclotron_jobs.specs.declared.row.QueueName.TheVariants as queue
use Rattle.cyclotron_jobs.specs.declared.row.After.{After}
use Rattle.cyclotron_jobs.specs.declared.row.After.TheVariants.{Hog, Fetch, Finished}
use Rattle.cyclotron_jobs.specs.declared.row.Next.{Next}
use Rattle.cyclotron_jobs.specs.declared.row.Next.TheVariants as next

-- nothing was printed or asked for, and there is no end
abbrev pub shows_nothing : Shown
shows_nothing = record { trace = []; end = None }

-- what comes next for a job with or without a request to answer
abbrev pub after_of : Option Request → After
after_of None = Hog
after_of (Some request) = Fetch request

-- the kind of what comes after a run
abbrev pub next_of : After → Next
next_of Hog = next.Hog
next_of (Fetch request) = next.Fetch
next_of Finished = next.Finished

-- the request that a run waits for
abbrev pub asks_of : After → Option Request
asks_of Hog = None
asks_of (Fetch request) = Some request
asks_of Finished = None

-- a request to answer is there exactly on the queue of fetches
abbrev pub AsksOn : QueueName → Option Request → Type 0
AsksOn queue.Hog asks = asks ≡ None
AsksOn queue.Fetch asks = IsTrue (is_some asks)
