-- What a lease says of the machine of its job, and what makes a job's course.
use Rattle.std.proofs.Common.{◌≡◌, ℕ, zero, suc, ◌+◌, ◌≤◌, List, [], ◌∷◌, Option, Some, Ok, true, refl, sym, ap, ◌∙◌, subst, inl, inr, ⊎_elim, arith}
use Rattle.std.specs.Prelude.{drop, slice_get, Result, Err, IfOk}
use Rattle.std.specs.List.{AllByRecursion}
use Rattle.std.specs.Str.{IsUtf8}
use Rattle.hog_value.specs.declared.trace.Request.{Request}
use Rattle.hog_value.specs.declared.trace.Shown.{Shown}
use Rattle.hog_value.specs.declared.cell.FunCell.{FunCell}
use Rattle.hog_value.specs.Cells.{CellOf, Text, Array, Dict, Fun, HeapOf}
use Rattle.hog_ops.specs.Plain.{Ops}
use Rattle.hog_ops.specs.Valid.{IsCode}
use Rattle.hog_meaning.specs.World as world
use Rattle.vm_course.specs.Course.{shown_by}
use Rattle.vm_course.specs.State.{Running, Waiting}
use Rattle.vm_course.specs.Run.{RunState, begun, resumed}
use Rattle.vm_course.specs.Belongs.{belongs}
use Rattle.vm_state.specs.declared.stop.StateStop.{StateStop}
use Rattle.vm_state.specs.declared.stop.StateStop.TheVariants as stops
use Rattle.state_forms.specs.Values.{CellFits}
use Rattle.vm_state.specs.Laws.{CellNumbers, SavedFits, IsMachineOf, AreGlobals, RunsAreMachines}
use Rattle.vm_state.specs.Text.{state_text, StopIs}
use Rattle.cyclotron_jobs.specs.declared.input.JobInput.{JobInput}
use Rattle.cyclotron_jobs.specs.declared.input.Reply.{Reply}
use Rattle.cyclotron_jobs.specs.declared.row.After.{After}
use Rattle.cyclotron_jobs.specs.declared.row.After.TheVariants.{Hog}
use Rattle.cyclotron_jobs.specs.declared.row.QueueName.{QueueName}
use Rattle.cyclotron_jobs.specs.declared.row.QueueName.TheVariants as queue
use Rattle.cyclotron_jobs.specs.Course.{after_of, AsksOn}
use Rattle.cyclotron_jobs.specs.Leases.{LeaseOf}
use Rattle.hog_compiler.specs.Code.{code_of}
use Rattle.hog_tree.specs.Plain.{Stms}
use Rattle.hog_program.specs.Build.{IsBuilt}
use Rattle.hog_program.specs.Program.{HasCode}
use Rattle.hog_jobs.specs.Course.{replies_of, IsRunAt, ComesNext, IsSaved, StandsAt}
use Rattle.hog_jobs.specs.Inputs.{IsInput}
use Rattle.hog_jobs.specs.Jobs.{IsCourse}
use Rattle.hog_jobs.specs.Laws.{RunsBegin, RunsTakeReplies, HogGoesOn, FewOperations}
use Rattle.hog_worker.specs.Work.{IsSlice}
use Rattle.hog_worker.specs.Steps.{IsLoaded, TakesNext, IsTakenUp}

-- what holds of the value of a result by two facts of it
pub IfOk-both : {T E : Type 0} (r : Result T E) (P Q R : T → Type 0) → ((x : T) → P x → Q x → R x) → IfOk r P → IfOk r Q → IfOk r R
IfOk-both (Ok x) P Q R f p q = f x p q
IfOk-both (Err e) P Q R f p q = tt

-- a job on the queue Hog is to be run
pub to_run : (q : QueueName) (asks : Option Request) → AsksOn q asks → q ≡ queue.Hog → after_of asks ≡ Hog
to_run queue.Hog asks none e = ap after_of none
to_run queue.Fetch asks some e = absurd cc

-- a source has one code
abbrev pub OneWhole : Type 0
OneWhole = (source : List ℕ) (a b : Stms) → IsBuilt source a → IsBuilt source b → a ≡ b

same_code : OneWhole → (text : List ℕ) (a b : Ops) → HasCode text a → HasCode text b → a ≡ b
same_code one text a b has too = has.is_code ∙ ap code_of (one text has.whole too.whole has.is_built too.is_built) ∙ sym too.is_code

-- where a job stands on the code that its source is built to
pub stands_on : OneWhole → (input : JobInput) (replies : List Reply) (ops : ℕ) (saved : List ℕ) (shown : Shown) (next : After) (code : Ops)
    → IsCourse input replies ops saved shown next → HasCode input.source code → next ≡ Hog
    → StandsAt code input.globals (replies_of replies) ops saved shown Hog
stands_on one input replies ops saved shown next code is has hog =
    subst (λ n. StandsAt code input.globals (replies_of replies) ops saved shown n) hog
    (subst (λ c. StandsAt c input.globals (replies_of replies) ops saved shown next) (same_code one input.source is.taken.code code is.taken.source has) is.stands)

module _ (code : Ops) (globals : List ℕ) (replies : List world.Reply) where
  saved_at : (ops : ℕ) (saved : List ℕ) (shown : Shown) (next : After) → 1 ≤ ops → StandsAt code globals replies ops saved shown next → IsSaved code globals replies ops saved shown next
  saved_at zero saved shown next some is = absurd (omega (arith, some))
  saved_at (suc k) saved shown next some is = is

  stands_at : (ops : ℕ) (saved : List ℕ) (shown : Shown) (next : After) → 1 ≤ ops → IsSaved code globals replies ops saved shown next → StandsAt code globals replies ops saved shown next
  stands_at zero saved shown next some is = absurd (omega (arith, some))
  stands_at (suc k) saved shown next some is = is

  counted_so : (ops : ℕ) (r : RunState) → IsRunAt code globals replies ops r → IsRunAt code globals replies r.ops r
  counted_so ops r at = subst (λ n. IsRunAt code globals replies n r) (sym at.count) at

  -- a run that begins is taken up
  pub begins_up : RunsBegin → (r : RunState) → r ≡ begun code globals → belongs code r ≡ true → IsTakenUp code globals replies 0 r
  begins_up law r is belong =
      let count : r.ops ≡ 1 = ap (λ (x : RunState). x.ops) is in
      record {
        at = subst (λ x. IsRunAt code globals replies x.ops x) (sym is) (law code globals replies);
        belongs = belong;
        first = inl (omega (arith, count));
        few = omega (arith, count);
      }

  -- so is one that has taken in the reply for which it waited, or that goes on
  pub goes_up : RunsTakeReplies → (ops : ℕ) (old new : RunState) → IsLoaded code globals replies ops old → TakesNext replies old new → belongs code new ≡ true
      → IsTakenUp code globals replies ops new
  goes_up law ops old new loaded takes belong = ⊎_elim runs waits takes
    where
      here : IsRunAt code globals replies old.ops old
      here = counted_so ops old loaded.at

      runs : (old.state.mode ≡ Running) × (new ≡ old) → IsTakenUp code globals replies ops new
      runs is =
          let count : new.ops ≡ ops = ap (λ (x : RunState). x.ops) is.1 ∙ loaded.at.count in
          let few = loaded.few in
          record {
            at = subst (λ x. IsRunAt code globals replies x.ops x) (sym is.1) here;
            belongs = belong;
            first = inr (count, ap (λ (x : RunState). x.state.mode) is.1 ∙ is.0);
            few = omega (arith, count, few);
          }

      waits : (old.state.mode ≡ Waiting) × (reply : world.Reply) × (slice_get replies old.used ≡ Some reply) × (new ≡ resumed reply old) → IsTakenUp code globals replies ops new
      waits is =
          let old_count = loaded.at.count in
          let few = loaded.few in
          let count : new.ops ≡ old.ops + 1 = ap (λ (x : RunState). x.ops) is.3 in
          record {
            at = subst (λ x. IsRunAt code globals replies x.ops x) (sym is.3) (law code globals replies is.1 old here is.0 is.2);
            belongs = belong;
            first = inl (omega (arith, count, old_count));
            few = omega (arith, count, old_count, few);
          }

-- what a lease on the queue Hog has saved, behind the first operation; `inside` is what the lease keeps
pub saved_of : OneWhole → (inside lease : LeaseOf) (code : Ops) → inside ≡ lease → AsksOn inside.queue inside.asks
    → IsCourse inside.input inside.replies inside.ops inside.saved inside.shown (after_of inside.asks)
    → lease.queue ≡ queue.Hog → HasCode lease.input.source code → 1 ≤ lease.ops
    → IsSaved code lease.input.globals (replies_of lease.replies) lease.ops lease.saved lease.shown Hog
saved_of one inside lease code same asked is hog has some =
    let course : IsCourse lease.input lease.replies lease.ops lease.saved lease.shown (after_of lease.asks) =
    subst (λ (l : LeaseOf). IsCourse l.input l.replies l.ops l.saved l.shown (after_of l.asks)) same is in
    let asks : AsksOn lease.queue lease.asks = subst (λ (l : LeaseOf). AsksOn l.queue l.asks) same asked in
    saved_at code lease.input.globals (replies_of lease.replies) lease.ops lease.saved lease.shown Hog some
    (stands_on one lease.input lease.replies lease.ops lease.saved lease.shown (after_of lease.asks) code course has (to_run lease.queue lease.asks asks hog))

-- what is known of a run that was loaded
pub loaded_of : HogGoesOn → FewOperations → (text : List ℕ) (code : Ops) (globals : List ℕ) (replies : List world.Reply) (ops : ℕ) (saved : List ℕ) (shown : Shown)
    → HasCode text code → IsCode code → (is : IsSaved code globals replies ops saved shown Hog) → (r : RunState) → ◌≡◌ {A = Result RunState StateStop} (Ok is.run) (Ok r)
    → IsLoaded code globals replies ops r
loaded_of goes few text code globals replies ops saved shown has is_code is r loaded =
    let same : is.run ≡ r = cc in
    subst (IsLoaded code globals replies ops) same
    (record {
      at = is.at;
      belongs = is.machine.belongs;
      goes_on = goes is.run.state.mode replies is.run.used is.run.state.trace is.after;
      few = few text code globals replies ops is.run has is_code is.machine.state is.at;
    })

-- the numbers of what was saved
cell_numbers : (cell : CellOf FunCell) → CellFits cell → CellNumbers cell
cell_numbers (Text t) fits = fits
cell_numbers (Array vs) fits = fits
cell_numbers (Dict ps) fits = fits.0
cell_numbers (Fun f) fits = fits

heap_numbers : (heap : HeapOf FunCell) → AllByRecursion CellFits heap → AllByRecursion CellNumbers heap
heap_numbers [] fits = tt
heap_numbers (cell ∷ cells) fits = (cell_numbers cell fits.0, heap_numbers cells fits.1)

-- a run that was saved is a machine of its code
pub is_machine : RunsAreMachines → (code : Ops) (globals : List ℕ) (replies : List world.Reply) (r : RunState)
    → IsCode code → AreGlobals globals → IsRunAt code globals replies r.ops r → SavedFits r → IsMachineOf code r
is_machine law code globals replies r is objects at fits =
    law code globals replies r is objects at.course (record {
      ops = fits.ops;
      used = fits.used;
      stack = fits.stack;
      frames = fits.frames;
      throws = fits.throws;
      upvalues = fits.upvalues;
      heap = heap_numbers r.state.heap fits.heap;
    })

-- what is saved of a machine of the job's code, what it shows and what comes next are the job's course
pub is_course : (input : JobInput) (replies : List Reply) (code : Ops) (r : RunState) (saved : List ℕ) (shown : Shown) (next : After)
    → IsInput input → HasCode input.source code → IsRunAt code input.globals (replies_of replies) r.ops r → IsMachineOf code r
    → saved ≡ state_text r → IsUtf8 saved → shown ≡ shown_by r.state → ComesNext r.state.mode (drop r.used (replies_of replies)) r.state.trace next
    → IsCourse input replies r.ops saved shown next
is_course input replies code r saved shown next taken has at machine text utf8 seen after = record {
  taken = record { code = code; source = has; globals = taken.globals };
  stands =
      stands_at code input.globals (replies_of replies) r.ops saved shown next at.course.begun
      (record { run = r; at = at; machine = machine; text = text; utf8 = utf8; seen = seen; after = after });
}

-- the same course, by other names
pub course_moved : (input : JobInput) (replies : List Reply) (ops : ℕ) (other : JobInput) (others : List Reply) (to : ℕ) (saved : List ℕ) (shown : Shown) (next : After)
    → other ≡ input → others ≡ replies → to ≡ ops → IsCourse input replies ops saved shown next → IsCourse other others to saved shown next
course_moved input replies ops other others to saved shown next i r n is =
    subst (λ x. IsCourse x others to saved shown next) (sym i)
    (subst (λ x. IsCourse input x to saved shown next) (sym r) (subst (λ x. IsCourse input replies x saved shown next) (sym n) is))

-- and the same slice
pub slice_moved : (code : Ops) (input : JobInput) (replies : List Reply) (slice from ops : ℕ) (other : JobInput) (others : List Reply) (begin to : ℕ)
    → other ≡ input → others ≡ replies → begin ≡ from → to ≡ ops
    → IsSlice code input.globals (replies_of replies) slice from ops → IsSlice code other.globals (replies_of others) slice begin to
slice_moved code input replies slice from ops other others begin to i r b n is =
    subst (λ (x : JobInput). IsSlice code x.globals (replies_of others) slice begin to) (sym i)
    (subst (λ x. IsSlice code input.globals (replies_of x) slice begin to) (sym r)
    (subst (λ x. IsSlice code input.globals (replies_of replies) slice x to) (sym b)
    (subst (λ x. IsSlice code input.globals (replies_of replies) slice from x) (sym n) is)))

-- a text that loads isn't refused
pub not_refused : (stop : StateStop) (r : RunState) → StopIs stop (Ok r) → (stop ≡ stops.OutOfMemory → ⊥) → ⊥
not_refused stops.NotJson r e some = absurd cc
not_refused stops.NotAState r e some = absurd cc
not_refused stops.NotThisCode r e some = absurd cc
not_refused stops.NotCanonical r e some = absurd cc
not_refused stops.OutOfMemory r e some = some refl
