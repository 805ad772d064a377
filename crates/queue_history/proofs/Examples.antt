-- The facts of a job in small histories.
use Rattle.std.proofs.Common.{◌≡◌, ◌+◌, List, [], ◌∷◌, ◌++◌, Some, refl}
use Rattle.std.specs.Prelude.{pos}
use Rattle.cyclotron_jobs.specs.declared.entry.Entry.{Entry}
use Rattle.cyclotron_jobs.specs.declared.entry.Entry.TheVariants.{Queued, Taken, Beat, Ran, Swept, PutBack}
use Rattle.cyclotron_jobs.specs.declared.row.JobState.TheVariants.{Available, Running, Failed}
use Rattle.cyclotron_jobs.specs.declared.row.QueueName.TheVariants as queue
use Rattle.cyclotron_jobs.specs.declared.row.Next.TheVariants as next
use Rattle.queue_history.specs.Facts.{facts_of, state_of, jobs_of, takes_of}

-- job 0 is leased, waits for a reply, is leased again, put back twice, and taken up a last time; job 1 stands beside it
waiting : List Entry
waiting =
    Queued 0 (pos 3) 10
    ∷ Queued 1 (pos 0) 0
    ∷ Taken 0 queue.Hog (record { job = 0; draw = 1 }) 20
    ∷ Beat 0 (record { job = 0; draw = 1 }) 15
    ∷ Ran 0 (record { job = 0; draw = 1 }) 0 7 next.Fetch
    ∷ Taken 0 queue.Fetch (record { job = 0; draw = 2 }) 30
    ∷ PutBack 0 (record { job = 0; draw = 2 }) 40
    ∷ Taken 0 queue.Fetch (record { job = 0; draw = 3 }) 50
    ∷ PutBack 0 (record { job = 0; draw = 3 }) 60
    ∷ Taken 0 queue.Fetch (record { job = 0; draw = 4 }) 70
    ∷ []

waiting-owner : (facts_of 0 waiting).owner ≡ Some (record { job = 0; draw = 4 })
unfolding facts_of waiting
waiting-owner = refl

waiting-tries : (facts_of 0 waiting).tries ≡ 2
unfolding facts_of waiting
waiting-tries = refl

waiting-scheduled : (facts_of 0 waiting).scheduled ≡ 60
unfolding facts_of waiting
waiting-scheduled = refl

waiting-ops : (facts_of 0 waiting).ops ≡ 7
unfolding facts_of waiting
waiting-ops = refl

waiting-queue : (facts_of 0 waiting).queue ≡ queue.Fetch
unfolding facts_of waiting
waiting-queue = refl

waiting-state : state_of (facts_of 0 waiting) ≡ Running
unfolding facts_of waiting
waiting-state = refl

waiting-other : state_of (facts_of 1 waiting) ≡ Available
unfolding facts_of waiting
waiting-other = refl

waiting-counts : jobs_of waiting + takes_of waiting ≡ 6
unfolding waiting
waiting-counts = refl

-- a sweep leaves a job available, the third one leaves it failed
swept_twice : List Entry
swept_twice =
    Queued 0 (pos 0) 0
    ∷ Taken 0 queue.Hog (record { job = 0; draw = 1 }) 0
    ∷ Swept 0 30000 0
    ∷ Taken 0 queue.Hog (record { job = 0; draw = 2 }) 30000
    ∷ Swept 0 60000 30000
    ∷ []

swept_twice-state : state_of (facts_of 0 swept_twice) ≡ Available
unfolding facts_of swept_twice
swept_twice-state = refl

swept_thrice-state : state_of (facts_of 0 (swept_twice ++ Taken 0 queue.Hog (record { job = 0; draw = 3 }) 60000 ∷ Swept 0 90000 60000 ∷ [])) ≡ Failed
unfolding facts_of swept_twice
swept_thrice-state = refl
