-- What a job on course has shown, beside what its source means.
use Rattle.std.proofs.Common.{◌≡◌, ◌≢◌, ℕ, zero, suc, ◌-◌, List, [], ◌∷◌, ◌++◌, length, Option, Some, None, Bool, true, false, refl, sym, ap, ◌∙◌}
use Rattle.std.specs.Prelude.{drop, is_some, fold, nat_le, if◌then◌else◌}
use Rattle.hog_value.specs.declared.trace.End.{End}
use Rattle.hog_value.specs.declared.trace.Request.{Request}
use Rattle.hog_value.specs.declared.trace.Shown.{Shown}
use Rattle.hog_value.specs.declared.trace.TraceItem.{TraceItem}
use Rattle.hog_value.specs.declared.trace.TraceItem.TheVariants.{Asked}
use Rattle.hog_meaning.specs.World.{Reply, Got, Gives, Throws, Waits, Spends, Flow}
use Rattle.hog_meaning.specs.Program.{Shows, shows}
use Rattle.vm_course.specs.State.{Running, Waiting, Ended, Mode, State}
use Rattle.vm_course.specs.Course.{machine, end_in}
use Rattle.hog_bridge.specs.Laws.{WaitsAlike}
use Rattle.hog_program.specs.Course.{CourseShowsMeaning}
use Rattle.cyclotron_jobs.specs.Course.{AsksOn}
use Rattle.cyclotron_jobs.specs.declared.entry.Entry.{Entry}
use Rattle.cyclotron_jobs.specs.declared.entry.Entry.TheVariants.{Queued, Taken, Beat, Ran, Replied, Swept, PutBack}
use Rattle.cyclotron_jobs.specs.declared.row.After.{After}
use Rattle.cyclotron_jobs.specs.declared.row.After.TheVariants.{Hog, Fetch, Finished}
use Rattle.cyclotron_jobs.specs.declared.row.JobState.{JobState}
use Rattle.cyclotron_jobs.specs.declared.row.JobState.TheVariants.{Available, Running as Leased, Completed, Failed}
use Rattle.cyclotron_jobs.specs.declared.row.Next.TheVariants as kind
use Rattle.cyclotron_jobs.specs.declared.row.QueueName.{QueueName}
use Rattle.cyclotron_jobs.specs.declared.row.QueueName.TheVariants as queue
use Rattle.cyclotron_jobs.specs.declared.row.Row.{Row}
use Rattle.queue_history.specs.Facts.{facts_of, entries_of, queue_after, ended_after}
use Rattle.queue_history.specs.Rows.{RowIs, after_in}
use Rattle.hog_jobs.specs.Course.{replies_of, ComesNext, StandsAt}
use Rattle.hog_jobs.specs.Inputs.{IsInput}
use Rattle.hog_jobs.specs.Rows.{AgreesWithMeaning, RowsAgree, QueuesAgree}
use Rattle.hog_jobs.specs.CourseRuns.{mode_there, trace_there, left_there}

-- a completed job is on the queue of jobs to be run

hog_after : (q : QueueName) (ended : Bool) (e : Entry) → (ended ≡ true → q ≡ queue.Hog) → ended_after ended e ≡ true → queue_after q e ≡ queue.Hog
hog_after q ended (Queued job priority at) before e = before e
hog_after q ended (Taken job on lock now) before e = before e
hog_after q ended (Beat job lock now) before e = before e
hog_after q ended (Ran job lock from to kind.Hog) before e = refl
hog_after q ended (Ran job lock from to kind.Fetch) before e = absurd cc
hog_after q ended (Ran job lock from to kind.Finished) before e = refl
hog_after q ended (Replied job lock reply) before e = refl
hog_after q ended (Swept job now beat) before e = before e
hog_after q ended (PutBack job lock at) before e = before e

all_after : (es : List Entry) (q : QueueName) (ended : Bool) → (ended ≡ true → q ≡ queue.Hog) → fold ended_after ended es ≡ true → fold queue_after q es ≡ queue.Hog
all_after [] q ended before e = before e
all_after (x ∷ es) q ended before e = all_after es (queue_after q x) (ended_after ended x) (hog_after q ended x before) e

ended_by : (failed ended owned : Bool) → (if failed then Failed else (if ended then Completed else (if owned then Leased else Available))) ≡ Completed → ended ≡ true
ended_by true ended owned e = absurd cc
ended_by false true owned e = refl
ended_by false false true e = absurd cc
ended_by false false false e = absurd cc

completed_hog : (job : ℕ) (history : List Entry) (row : Row) → RowIs (facts_of job history) row → row.state ≡ Completed → row.queue ≡ queue.Hog
unfolding facts_of
completed_hog job history row is completed =
    let facts = facts_of job history in
    is.queue
    ∙ all_after (entries_of job history) queue.Hog false (λ e. absurd cc)
    (ended_by (nat_le 3 (length facts.sweeps)) facts.ended (is_some facts.owner) (sym is.state ∙ completed))

-- what a row says of what comes next

open_by : (state : JobState) (asks : Option Request) → state ≢ Completed → after_in state asks ≢ Finished
open_by Available None different e = absurd cc
open_by Available (Some request) different e = absurd cc
open_by Leased None different e = absurd cc
open_by Leased (Some request) different e = absurd cc
open_by Completed asks different e = different refl
open_by Failed None different e = absurd cc
open_by Failed (Some request) different e = absurd cc

record Asks (state : JobState) (asks : Option Request) : Type 0 where
  request : Request
  is : asks ≡ Some request
  next : after_in state asks ≡ Fetch request

asks_by : (state : JobState) (on : QueueName) (asks : Option Request) → on ≡ queue.Fetch → AsksOn on asks → (state ≡ Completed → on ≡ queue.Hog) → Asks state asks
asks_by state queue.Hog asks fetch there hog = absurd cc
asks_by state queue.Fetch None fetch there hog = absurd cc
asks_by Available queue.Fetch (Some request) fetch there hog = record { request = request; is = refl; next = refl }
asks_by Leased queue.Fetch (Some request) fetch there hog = record { request = request; is = refl; next = refl }
asks_by Completed queue.Fetch (Some request) fetch there hog = let bad = hog refl in absurd cc
asks_by Failed queue.Fetch (Some request) fetch there hog = record { request = request; is = refl; next = refl }

-- what that says of the machine

finished_by : (m : Mode) (left : List Reply) (trace : List TraceItem) (next : After) → ComesNext m left trace next → next ≡ Finished → (end : End) × (m ≡ Ended end)
finished_by Running left trace next is e = let bad = sym is ∙ e in absurd cc
finished_by Waiting [] trace next is e = let bad = sym is.fetches ∙ e in absurd cc
finished_by Waiting (r ∷ rs) trace next is e = let bad = sym is ∙ e in absurd cc
finished_by (Ended end) left trace next is e = (end, refl)

no_end : (m : Mode) (left : List Reply) (trace : List TraceItem) (next : After) → ComesNext m left trace next → next ≢ Finished → end_in m ≡ None
no_end Running left trace next is unfinished = refl
no_end Waiting left trace next is unfinished = refl
no_end (Ended end) left trace next is unfinished = absurd (unfinished is)

record WaitsLast (m : Mode) (left : List Reply) (trace : List TraceItem) (request : Request) : Type 0 where
  waiting : m ≡ Waiting
  none : left ≡ []
  before : List TraceItem
  last : trace ≡ before ++ Asked request ∷ []

waits_by : (m : Mode) (left : List Reply) (trace : List TraceItem) (next : After) (request : Request) → ComesNext m left trace next → next ≡ Fetch request → WaitsLast m left trace request
waits_by Running left trace next request is e = let bad = sym is ∙ e in absurd cc
waits_by Waiting [] trace next request is e =
    let both : Fetch is.request ≡ Fetch request = sym is.fetches ∙ e in
    let same : is.request ≡ request = cc in
    record { waiting = refl; none = refl; before = is.before; last = is.last ∙ ap (λ q. is.before ++ Asked q ∷ []) same }
waits_by Waiting (r ∷ rs) trace next request is e = let bad = sym is ∙ e in absurd cc
waits_by (Ended end) left trace next request is e = let bad = sym is ∙ e in absurd cc

abbrev showing : List TraceItem → Option End → Shows
showing trace end = record { trace = trace; end = end }

waits_shown : (got : Got Flow) (s : State) → WaitsAlike got s → shows got ≡ showing s.trace None
waits_shown (Gives flow w) s alike = absurd alike
waits_shown (Throws v w) s alike = absurd alike
waits_shown (Waits w) s alike = ap (λ t. showing t None) (sym alike.trace)
waits_shown (Spends limit w) s alike = absurd alike

module _ (law : CourseShowsMeaning) where
  module _ (row : Row) (asks : AsksOn row.queue row.asks) (hog : row.state ≡ Completed → row.queue ≡ queue.Hog) (taken : IsInput row.input) where
    abbrev replies : List Reply
    replies = replies_of row.replies

    abbrev next : After
    next = after_in row.state row.asks

    stood : (ops : ℕ) → StandsAt taken.code row.input.globals replies ops row.saved row.shown next → AgreesWithMeaning row
    stood zero stands =
        let comes = law row.input.source taken.code taken.source row.input.globals replies in
        record {
          got = comes.0;
          means = comes.1;
          prefix = ((shows comes.0).trace, ap (λ (s : Shown). s.trace ++ (shows comes.0).trace) (sym stands.1));
          whole = λ completed. let bad : Finished ≡ Hog = sym (ap (λ s. after_in s row.asks) completed) ∙ stands.2 in absurd cc;
          waits = λ fetch.
              let a = asks_by row.state row.queue row.asks fetch asks hog in
              let bad : Fetch a.request ≡ Hog = sym a.next ∙ stands.2 in
              absurd cc;
          open_end = λ open_state. ap (λ (s : Shown). s.end) stands.1;
        }
    stood (suc k) stands =
        let code = taken.code in
        let globals = row.input.globals in
        let comes = law row.input.source code taken.source globals replies in
        let run = stands.run in
        let at : State = machine code globals replies (suc k - 1) in
        let left = drop run.used replies in
        let trace : row.shown.trace ≡ at.trace = ap (λ (s : Shown). s.trace) stands.seen ∙ sym (trace_there code globals replies (suc k) run stands.at) in
        let mode : at.mode ≡ run.state.mode = mode_there code globals replies (suc k) run stands.at in
        let prefix = comes.2.prefix (suc k - 1) in
        record {
          got = comes.0;
          means = comes.1;
          prefix = (prefix.0, prefix.1 ∙ ap (λ t. t ++ prefix.0) (sym trace));
          whole = λ completed.
              let end = finished_by run.state.mode left run.state.trace next stands.after (ap (λ s. after_in s row.asks) completed) in
              let shown : Some end.0 ≡ row.shown.end = sym (ap (λ (s : Shown). s.end) stands.seen ∙ ap end_in end.1) in
              comes.2.ended (suc k - 1) end.0 (mode ∙ end.1)
              ∙ ap (λ t. showing t (Some end.0)) (sym trace)
              ∙ ap (showing row.shown.trace) shown;
          waits = λ fetch.
              let a = asks_by row.state row.queue row.asks fetch asks hog in
              let w = waits_by run.state.mode left run.state.trace next a.request stands.after a.next in
              let used : at.replies ≡ left = left_there code globals replies (suc k) run stands.at in
              record {
                request = a.request;
                asks = a.is;
                before = w.before;
                last = ap (λ (s : Shown). s.trace) stands.seen ∙ w.last;
                shown = waits_shown comes.0 at (comes.2.waits (suc k - 1) (mode ∙ w.waiting) (used ∙ w.none)) ∙ ap (λ t. showing t None) (sym trace);
              };
          open_end = λ open_state.
              ap (λ (s : Shown). s.end) stands.seen
              ∙ no_end run.state.mode left run.state.trace next stands.after (open_by row.state row.asks open_state);
        }

  pub rows_agree : RowsAgree
  rows_agree job history row is course = stood row is.asks (completed_hog job history row is) course.taken row.ops course.stands

pub queues_agree : RowsAgree → QueuesAgree
queues_agree agree rows history kept = record {
  legal = kept.legal;
  jobs = kept.jobs;
  numbered = kept.numbered;
  each = kept.each;
  courses = kept.courses;
  agree = λ k row there. agree k history row (kept.each k row there) (kept.courses k row there);
}
