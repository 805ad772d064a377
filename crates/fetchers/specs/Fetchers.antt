-- What fetchers tell, and what contracts see of those that answer from a list.
use Rattle.std.specs.Prelude.{ℕ, ◌≡◌, ◌<◌, ◌≤◌, List, Option, Some, Result, Ok, Err, Contains}
use Rattle.hog_outside.specs.Faults.{next_call, next_fault}
use Rattle.cyclotron_jobs.specs.declared.input.JobInput.{JobInput}
use Rattle.cyclotron_jobs.specs.declared.input.Reply.{Reply}
use Rattle.cyclotron_jobs.specs.declared.input.Answers.{Answers}
use Rattle.cyclotron_jobs.specs.declared.input.Answers.TheVariants.{Free, Listed}
use Rattle.cyclotron_jobs.specs.Replies.{listed_reply}
use Rattle.fetchers.specs.declared.fetcher.FetchStop.{FetchStop}
use Rattle.fetchers.specs.declared.fetcher.FetchStop.TheVariants.{Failed, OutOfMemory}

-- the reply is the one that is told, where one is told
abbrev pub IsOwn : Option Reply → Reply → Type 0
IsOwn told reply = (own : Reply) → told ≡ Some own → reply ≡ own

-- the same replies are told before and after
abbrev pub TellsSame : (before after : JobInput → ℕ → Option Reply) → Type 0
TellsSame before after = (input : JobInput) (n : ℕ) → after input n ≡ before input n

-- the reply to the fetch of that number: that of the list, or else this one
abbrev pub reply_of : Answers → ℕ → Reply → Reply
reply_of Free n free = free
reply_of (Listed replies) n free = listed_reply replies n

-- the reply to a free input, how often each fetch fails first, and the count of faults
pub record ListOf : Type 0 where
  pub free : Reply
  pub misses : ℕ
  pub faults : ℕ

-- it fails in the first tries, and its count rises then alone
abbrev pub ListAnswers : ListOf → ℕ → Result Reply FetchStop → ListOf → Type 0
ListAnswers before tries (Err Failed) after = (tries < before.misses) × (after ≡ record before { faults = next_fault before.faults })
ListAnswers before tries (Err OutOfMemory) after = (before.misses ≤ tries) × (after ≡ before)
ListAnswers before tries (Ok reply) after = (before.misses ≤ tries) × (after ≡ before)

-- the reply to a free input, the calls that are to fail, how many calls there were, and the count of faults
pub record FailingOf : Type 0 where
  pub free : Reply
  pub fails : List ℕ
  pub calls : ℕ
  pub faults : ℕ

-- it fails at the calls of its list, and its count rises then alone; each call is counted
abbrev pub FailingAnswers : FailingOf → Result Reply FetchStop → FailingOf → Type 0
FailingAnswers before (Err Failed) after =
    Contains before.fails (next_call before.calls) × (after ≡ record before { calls = next_call before.calls; faults = next_fault before.faults })
FailingAnswers before (Err OutOfMemory) after =
    ¬ (Contains before.fails (next_call before.calls)) × (after ≡ record before { calls = next_call before.calls })
FailingAnswers before (Ok reply) after =
    ¬ (Contains before.fails (next_call before.calls)) × (after ≡ record before { calls = next_call before.calls })
