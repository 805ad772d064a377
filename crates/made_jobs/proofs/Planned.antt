-- Jobs of a plan whose events and functions are short.
use Rattle.std.proofs.Common.{◌≡◌, ℕ, suc, ◌+◌, ◌*◌, ◌≤◌, List, [], ◌∷◌, ◌++◌, length, length-append, Bool, true, false, All, sym, subst, arith}
use Rattle.std.specs.Prelude.{sum_by}
use Rattle.std.specs.List.{AllZip}
use Rattle.std.proofs.lemmas.List.Elements.{All-nil, All-cons, All-head, All-tail, All-append}
use Rattle.std.proofs.lemmas.List.Sums.{sum_by-append}
use Rattle.serde_json.specs.Data.{Data}
use Rattle.hog_json.specs.Nulled.{globals_data}
use Rattle.cyclotron_jobs.specs.declared.input.JobInput.{JobInput}
use Rattle.event_plans.specs.Event.{name_in, size_of}
use Rattle.event_plans.specs.Function.{FunctionOf}
use Rattle.event_filter.specs.declared.filter.Verdict.{Verdict}
use Rattle.event_filter.specs.declared.filter.Verdict.TheVariants as verdict
use Rattle.event_reader.specs.Meetings.{Meets, MeetsIf, input_for, is_taken, meeting_by}
use Rattle.event_reader.specs.Plans.{HaveMet, bodies_size, input_size, job_in, jobs_of, jobs_size, made}
use Rattle.event_reader.specs.declared.plan.PlanJob.{PlanJob}
use Rattle.job_lines.specs.Lines.{AreListed}
use Rattle.made_jobs.specs.Jobs.{IsSmallJob}

-- ---- what is made place by place

made_few : {A B X : Type 0} (R : A → B → Type 0) (make : ℕ → A → B → List X) (most : ℕ) → ((n : ℕ) (a : A) (b : B) → R a b → length (make n a b) ≤ most)
    → (n : ℕ) (xs : List A) (bs : List B) → AllZip R xs bs → length (made make n xs bs) ≤ length xs * most
made_few R make most each n [] bs all = omega arith
made_few R make most each n (a ∷ xs) [] all = absurd all
made_few R make most each n (a ∷ xs) (b ∷ bs) all =
    let here = each n a b all.0 in
    let rest = made_few R make most each (suc n) xs bs all.1 in
    let both = length-append (make n a b) (made make (suc n) xs bs) in
    let more : suc (length xs) * most ≡ most + length xs * most = grind arith in
    omega (arith, here, rest, both, more)

-- each that is made is of a kind, where the items of the first list are of one, and stand in a relation to the second's
made_all : {A B X : Type 0} (P : A → Type 0) (R : A → B → Type 0) (Q : X → Type 0) (make : ℕ → A → B → List X)
    → ((n : ℕ) (a : A) (b : B) → P a → R a b → All Q (make n a b))
    → (n : ℕ) (xs : List A) (bs : List B) → All P xs → AllZip R xs bs → All Q (made make n xs bs)
made_all P R Q make each n [] bs are all = All-nil Q
made_all P R Q make each n (a ∷ xs) [] are all = absurd all
made_all P R Q make each n (a ∷ xs) (b ∷ bs) are all =
    All-append Q (make n a b) (made make (suc n) xs bs)
    (each n a b (All-head P a xs are) all.0)
    (made_all P R Q make each (suc n) xs bs (All-tail P a xs are) all.1)

-- ---- an event that meets a function makes one job at most

one_by : (e : ℕ) (event : Data) (n : ℕ) (f : FunctionOf) (v : Verdict) → length (job_in e event n f (meeting_by (input_for event f) v)) ≤ 1
one_by e event n f verdict.Yes = omega arith
one_by e event n f verdict.No = omega arith
one_by e event n f (verdict.Broken line) = omega arith

one_if : (b : Bool) (e : ℕ) (event : Data) (n : ℕ) (f : FunctionOf) (m : _) → MeetsIf b event f m → length (job_in e event n f m) ≤ 1
one_if false e event n f m meets = subst (λ x. length (job_in e event n f x) ≤ 1) (sym meets) (omega arith)
one_if true e event n f m meets = subst (λ x. length (job_in e event n f x) ≤ 1) (sym meets.makes) (one_by e event n f meets.verdict)

pub few_jobs : (events : List Data) (functions : List FunctionOf) (rows : _) → length functions ≤ 3 → HaveMet events functions rows → length (jobs_of events functions rows) ≤ length events * 3
few_jobs events functions rows three met =
    made_few (λ event row. AllZip (Meets event) functions row) (λ e event row. made (job_in e event) 0 functions row) 3
    (λ e event row meets.
    let most = made_few (Meets event) (job_in e event) 1 (λ n f m one. one_if (is_taken f.pattern (name_in event)) e event n f m one) 0 functions row meets in
    omega (arith, most, three))
    0 events rows met

-- ---- its input is that of the event and the function, and short where they are

abbrev pub IsShortEvent : Data → Type 0
IsShortEvent event = size_of event ≤ 1000

pub record IsShortFunction (f : FunctionOf) : Type 0 where
  pub source : length f.source ≤ 200
  pub inputs : size_of f.inputs ≤ 100
  pub bodies : bodies_size f.answers ≤ 100

abbrev pub GlobalsSize : Type 0
GlobalsSize = (event inputs : Data) → size_of (globals_data event inputs) ≡ size_of event + size_of inputs + 20

module _ (globals : GlobalsSize) where
  short_input : (event : Data) (f : FunctionOf) → IsShortEvent event → IsShortFunction f → input_size (input_for event f) ≤ 2000
  short_input event f short is = omega (arith, short, is.source, is.inputs, is.bodies, globals event f.inputs)

  small_by : (e : ℕ) (event : Data) → IsShortEvent event → (n : ℕ) (f : FunctionOf) → IsShortFunction f → (v : Verdict) → All IsSmallJob (job_in e event n f (meeting_by (input_for event f) v))
  small_by e event short n f is verdict.Yes = All-cons IsSmallJob _ [] (record { listed = tt; small = short_input event f short is }) (All-nil IsSmallJob)
  small_by e event short n f is verdict.No = All-nil IsSmallJob
  small_by e event short n f is (verdict.Broken line) = All-nil IsSmallJob

  small_if : (b : Bool) (e : ℕ) (event : Data) → IsShortEvent event → (n : ℕ) (f : FunctionOf) (m : _) → IsShortFunction f → MeetsIf b event f m → All IsSmallJob (job_in e event n f m)
  small_if false e event short n f m is meets = subst (λ x. All IsSmallJob (job_in e event n f x)) (sym meets) (All-nil IsSmallJob)
  small_if true e event short n f m is meets = subst (λ x. All IsSmallJob (job_in e event n f x)) (sym meets.makes) (small_by e event short n f is meets.verdict)

  pub small_jobs : (events : List Data) (functions : List FunctionOf) (rows : _) → All IsShortEvent events → All IsShortFunction functions
      → HaveMet events functions rows → All IsSmallJob (jobs_of events functions rows)
  small_jobs events functions rows short are met =
      made_all IsShortEvent (λ event row. AllZip (Meets event) functions row) IsSmallJob (λ e event row. made (job_in e event) 0 functions row)
      (λ e event row is meets.
      made_all IsShortFunction (Meets event) IsSmallJob (job_in e event)
      (λ n f m of meets_one. small_if (is_taken f.pattern (name_in event)) e event is n f m of meets_one) 0 functions row are meets)
      0 events rows short met

-- small jobs are small together
pub small_total : (jobs : List PlanJob) → All IsSmallJob jobs → jobs_size jobs ≤ length jobs * 2000
small_total [] small = omega arith
small_total (job ∷ jobs) small =
    let here = (All-head IsSmallJob job jobs small).small in
    let rest = small_total jobs (All-tail IsSmallJob job jobs small) in
    let split : jobs_size (job ∷ jobs) ≡ jobs_size (job ∷ []) + jobs_size jobs = sum_by-append (λ (j : PlanJob). input_size j.input) (job ∷ []) jobs in
    let one : jobs_size (job ∷ []) ≡ input_size job.input = omega arith in
    omega (arith, here, rest, split, one)
