-- What is added by one more meeting.
use Rattle.std.proofs.Common.{◌≡◌, ◌+◌, ◌<◌, ℕ, zero, suc, List, [], ◌∷◌, ◌++◌, length, take, get_or, refl, sym, ap, ap₂, ◌∙◌, subst, arith, append_assoc, append-nil, length-take}
use Rattle.std.specs.Prelude.{map, ◌≤◌}
use Rattle.std.specs.List.{AllZip}
use Rattle.std.proofs.lemmas.List.{take-map, take_more, map-append}
use Rattle.std.proofs.lemmas.Slice.Zip.{AllZip-long}
use Rattle.serde_json.specs.Data.{Data}
use Rattle.event_plans.specs.Function.{FunctionOf}
use Rattle.event_reader.specs.Gathering.{Adds, AddsRow, GathersAll, HasGathered}
use Rattle.event_reader.specs.Meetings.{Meets}
use Rattle.event_reader.specs.Plans.{HaveMet, broken_in, broken_of, job_in, jobs_of, made}
use Rattle.event_reader.specs.declared.gather.Gathered.{Gathered}
use Rattle.event_reader.specs.declared.meeting.Meeting.{Meeting}
use Rattle.event_reader.specs.declared.plan.BrokenRun.{BrokenRun}
use Rattle.event_reader.specs.declared.plan.PlanJob.{PlanJob}
use Rattle.event_reader.proofs.Made.{made_push}

-- one more item of a list as it is seen
pub map_more : {A B : Type 0} (see : A → B) (xs : List A) (i : ℕ) (x : A) → i < length xs → x ≡ get_or xs i x
    → take (i + 1) (map see xs) ≡ take i (map see xs) ++ see x ∷ []
map_more see xs i x within here =
    take-map see (i + 1) xs
    ∙ ap (map see) (take_more xs i x within ∙ ap (λ y. take i xs ++ y ∷ []) (sym here))
    ∙ map-append see (take i xs) (x ∷ [])
    ∙ ap (λ ys. ys ++ see x ∷ []) (sym (take-map see i xs))

-- so many stand before it
pub before_more : {A B : Type 0} (see : A → B) (xs : List A) (i : ℕ) → i < length xs → length (take i (map see xs)) ≡ i
before_more see xs zero within = refl
before_more see [] (suc i) within = absurd (omega arith)
before_more see (x ∷ xs) (suc i) within = ap suc (before_more see xs i (omega arith))

pub zip_push : {A B : Type 0} (R : A → B → Type 0) (xs : List A) (ys : List B) (x : A) (y : B) → AllZip R xs ys → R x y → AllZip R (xs ++ x ∷ []) (ys ++ y ∷ [])
zip_push R [] [] x y all one = (one, tt)
zip_push R [] (z ∷ ys) x y all one = absurd all
zip_push R (z ∷ xs) [] x y all one = absurd all
zip_push R (z ∷ xs) (w ∷ ys) x y all one = (all.0, zip_push R xs ys x y all.1 one)

pub adds_none : (g : Gathered) → Adds [] [] g g
adds_none g xs ys has = subst (λ (zs : List PlanJob). HasGathered zs (ys ++ []) g) (sym (append-nil xs)) (subst (λ (zs : List BrokenRun). HasGathered xs zs g) (sym (append-nil ys)) has)

pub adds_then : (a c : List PlanJob) (b d : List BrokenRun) (f g h : Gathered) → Adds a b f g → Adds c d g h → Adds (a ++ c) (b ++ d) f h
adds_then a c b d f g h first second xs ys has =
    subst (λ (zs : List PlanJob). HasGathered zs (ys ++ (b ++ d)) h) (append_assoc xs a c)
    (subst (λ (zs : List BrokenRun). HasGathered ((xs ++ a) ++ c) zs h) (append_assoc ys b d) (second (xs ++ a) (ys ++ b) (first xs ys has)))

-- one more function
pub row_more : (e : ℕ) (event : Data) (fs : List FunctionOf) (f : FunctionOf) (n : ℕ) (m : Meeting) (before mid after : Gathered) → length fs ≡ n
    → AddsRow e event fs before mid → Meets event f m → Adds (job_in e event n f m) (broken_in e event n f m) mid after
    → AddsRow e event (fs ++ f ∷ []) before after
row_more e event fs f n m before mid after place rows meets adds =
    let row = rows.0 in
    let here : 0 + length fs ≡ n = omega (arith, place) in
    let same : length fs ≡ length row = sym (AllZip-long (Meets event) fs row rows.1) in
    let both = adds_then (made (job_in e event) 0 fs row) (job_in e event n f m) (made (broken_in e event) 0 fs row) (broken_in e event n f m) before mid after rows.2 adds in
    let jobs : made (job_in e event) 0 (fs ++ f ∷ []) (row ++ m ∷ []) ≡ made (job_in e event) 0 fs row ++ job_in e event n f m =
    made_push (job_in e event) 0 fs row f m same ∙ ap (λ k. made (job_in e event) 0 fs row ++ job_in e event k f m) here in
    let runs : made (broken_in e event) 0 (fs ++ f ∷ []) (row ++ m ∷ []) ≡ made (broken_in e event) 0 fs row ++ broken_in e event n f m =
    made_push (broken_in e event) 0 fs row f m same ∙ ap (λ k. made (broken_in e event) 0 fs row ++ broken_in e event k f m) here in (
      row ++ m ∷ [],
      zip_push (Meets event) fs row f m rows.1 meets,
      subst (λ (xs : List PlanJob). Adds xs (made (broken_in e event) 0 (fs ++ f ∷ []) (row ++ m ∷ [])) before after) (sym jobs)
          (subst (λ (ys : List BrokenRun). Adds (made (job_in e event) 0 fs row ++ job_in e event n f m) ys before after) (sym runs) both),
    )

-- one more event
pub all_more : (events : List Data) (event : Data) (fs : List FunctionOf) (e : ℕ) (g h : Gathered) → length events ≡ e
    → GathersAll events fs g → AddsRow e event fs g h → GathersAll (events ++ event ∷ []) fs h
all_more events event fs e g h place all adds =
    let rows = all.0 in
    let row = adds.0 in
    let here : 0 + length events ≡ e = omega (arith, place) in
    let same : length events ≡ length rows = sym (AllZip-long (λ d r. AllZip (Meets d) fs r) events rows all.1) in
    let jobs : jobs_of (events ++ event ∷ []) fs (rows ++ row ∷ []) ≡ jobs_of events fs rows ++ made (job_in e event) 0 fs row =
    made_push (λ k d r. made (job_in k d) 0 fs r) 0 events rows event row same ∙ ap (λ k. jobs_of events fs rows ++ made (job_in k event) 0 fs row) here in
    let runs : broken_of (events ++ event ∷ []) fs (rows ++ row ∷ []) ≡ broken_of events fs rows ++ made (broken_in e event) 0 fs row =
    made_push (λ k d r. made (broken_in k d) 0 fs r) 0 events rows event row same ∙ ap (λ k. broken_of events fs rows ++ made (broken_in k event) 0 fs row) here in (
      rows ++ row ∷ [],
      zip_push (λ d r. AllZip (Meets d) fs r) events rows event row all.1 adds.1,
      subst (λ (xs : List PlanJob). HasGathered xs (broken_of (events ++ event ∷ []) fs (rows ++ row ∷ [])) h) (sym jobs)
          (subst (λ (ys : List BrokenRun). HasGathered (jobs_of events fs rows ++ made (job_in e event) 0 fs row) ys h) (sym runs)
          (adds.2 (jobs_of events fs rows) (broken_of events fs rows) all.2)),
    )
