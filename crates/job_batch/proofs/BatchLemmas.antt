-- The rows of a batch, from its first job to its last.
use Rattle.std.proofs.Common.{◌≡◌, ℕ, suc, ◌<◌, ◌≤◌, inl, inr, List, [], ◌∷◌, ◌++◌, length, Option, Some, None, All, slice_get, refl, sym, ap, ◌∙◌, subst, arith}
use Rattle.std.specs.List.{AllZip}
use Rattle.std.proofs.lemmas.List.Elements.{All-head, All-tail}
use Rattle.hog_outside.specs.Faults.{Rose}
use Rattle.hog_value.specs.declared.trace.Request.{Request}
use Rattle.hog_value.specs.declared.trace.Shown.{Shown}
use Rattle.hog_meaning.specs.Meaning.{most_requests}
use Rattle.cyclotron_jobs.specs.declared.entry.Entry.{Entry}
use Rattle.cyclotron_jobs.specs.declared.input.JobInput.{JobInput}
use Rattle.cyclotron_jobs.specs.declared.input.Reply.{Reply}
use Rattle.cyclotron_jobs.specs.declared.row.JobState.TheVariants.{Completed}
use Rattle.cyclotron_jobs.specs.declared.row.QueueName.{QueueName}
use Rattle.cyclotron_jobs.specs.declared.row.QueueName.TheVariants as queue
use Rattle.cyclotron_jobs.specs.declared.row.Row.{Row}
use Rattle.cyclotron_jobs.specs.Course.{after_of, AsksOn}
use Rattle.queue_drain.specs.Drained.{IsDrained}
use Rattle.hog_jobs.specs.Jobs.{IsCourse}
use Rattle.hog_jobs.specs.Rows.{KeepsTheMeaning}
use Rattle.job_lines.specs.Laws.{FewReplies, RowsShowLines}
use Rattle.job_lines.specs.Lines.{AreListed, enough_replies, LinesOf}
use Rattle.job_batch.specs.Batch.{CanRun, IsCompletedOf, ShowsLines, inputs_in}
use Rattle.job_batch.specs.Steps.{IsEndedOf, IsNewOf}
use Rattle.job_batch.specs.declared.batch.BatchJob.{BatchJob}

-- a job that is leased to have its request answered has had fewer replies than a run may ask for
pub few_asked : FewReplies → (on : QueueName) (asks : Option Request) (input : JobInput) (replies : List Reply) (ops : ℕ) (saved : List ℕ) (shown : Shown)
    → AsksOn on asks → IsCourse input replies ops saved shown (after_of asks) → on ≡ queue.Fetch → length replies < most_requests
few_asked law queue.Hog asks input replies ops saved shown there is fetch = absurd cc
few_asked law queue.Fetch None input replies ops saved shown there is fetch = absurd cc
few_asked law queue.Fetch (Some request) input replies ops saved shown there is fetch = law input replies ops saved shown request is

-- lists that stand in a relation place by place

pub zip_length : {A B : Type 0} (R : A → B → Type 0) (xs : List A) (ys : List B) → AllZip R xs ys → length xs ≡ length ys
zip_length R [] [] all = refl
zip_length R [] (y ∷ ys) all = absurd all
zip_length R (x ∷ xs) [] all = absurd all
zip_length R (x ∷ xs) (y ∷ ys) all = ap suc (zip_length R xs ys all.1)

pub zip_push : {A B : Type 0} (R : A → B → Type 0) (xs : List A) (ys : List B) (x : A) (y : B) → AllZip R xs ys → R x y → AllZip R (xs ++ x ∷ []) (ys ++ y ∷ [])
zip_push R [] [] x y all is = (is, tt)
zip_push R [] (w ∷ ys) x y all is = absurd all
zip_push R (v ∷ xs) [] x y all is = absurd all
zip_push R (v ∷ xs) (w ∷ ys) x y all is = (all.0, zip_push R xs ys x y all.1 is)

-- a count that rose once has risen, also where it only grew before

pub rose_later : (old mid new : ℕ) → old ≤ mid → Rose mid new → Rose old new
rose_later old mid new grew (inl more) = inl (omega (arith, grew, more))
rose_later old mid new grew (inr full) = inr full

-- a new job that was drained has ended

ended_by : (job : BatchJob) (before after : Row) → IsNewOf job before → IsDrained most_requests 0 before after → IsEndedOf job after
ended_by job before after new drained =
    let none : length before.replies ≡ 0 = ap length new.none in
    record {
      input = drained.same.input ∙ new.input;
      state = drained.ended new.waits;
      few = drained.few (omega (arith, none));
    }

pub all_ended : (jobs : List BatchJob) (before after : List Row) → AllZip IsNewOf jobs before → AllZip (IsDrained most_requests 0) before after → AllZip IsEndedOf jobs after
all_ended [] [] [] new drained = tt
all_ended [] [] (z ∷ zs) new drained = absurd drained
all_ended [] (y ∷ ys) zs new drained = absurd new
all_ended (x ∷ xs) [] zs new drained = absurd new
all_ended (x ∷ xs) (y ∷ ys) [] new drained = absurd drained
all_ended (x ∷ xs) (y ∷ ys) (z ∷ zs) new drained = (ended_by x y z new.0 drained.0, all_ended xs ys zs new.1 drained.1)

-- what rows of ended jobs say

pub all_completed : (jobs : List BatchJob) (rows : List Row) → AllZip IsEndedOf jobs rows → AllZip IsCompletedOf (inputs_in jobs) rows
all_completed [] [] all = tt
all_completed [] (y ∷ ys) all = absurd all
all_completed (x ∷ xs) [] all = absurd all
all_completed (x ∷ xs) (y ∷ ys) all = (record { input = all.0.input; state = all.0.state }, all_completed xs ys all.1)

abbrev ShowsWhenEnded : List Row → Type 0
ShowsWhenEnded rows = (k : ℕ) (row : Row) → slice_get rows k ≡ Some row → AreListed row.input.answers → row.state ≡ Completed → length row.replies ≤ enough_replies → LinesOf row.input row.shown

few_enough : (n : ℕ) → n ≤ most_requests → n ≤ enough_replies
few_enough n few = omega (arith, few)

lines_by : (jobs : List BatchJob) (rows : List Row) → ShowsWhenEnded rows → All CanRun jobs → AllZip IsEndedOf jobs rows → AllZip ShowsLines (inputs_in jobs) rows
lines_by [] [] shows can all = tt
lines_by [] (y ∷ ys) shows can all = absurd all
lines_by (x ∷ xs) [] shows can all = absurd all
lines_by (x ∷ xs) (y ∷ ys) shows can all =
    let end = all.0 in
    let runs = All-head CanRun x xs can in
    let listed : AreListed y.input.answers = subst (λ (i : JobInput). AreListed i.answers) (sym end.input) runs.listed in
    let lines = shows 0 y refl listed end.state (few_enough (length y.replies) end.few) in
    (subst (λ (i : JobInput). LinesOf i y.shown) end.input lines, lines_by xs ys (λ k. shows (suc k)) (All-tail CanRun x xs can) all.1)

pub all_lines : RowsShowLines → (jobs : List BatchJob) (rows : List Row) (history : List Entry) → KeepsTheMeaning rows history → All CanRun jobs → AllZip IsEndedOf jobs rows → AllZip ShowsLines (inputs_in jobs) rows
all_lines law jobs rows history keeps can all = lines_by jobs rows (law rows history keeps) can all
