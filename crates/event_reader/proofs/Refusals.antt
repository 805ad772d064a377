-- A draft, and a text, has one refusal at most, and none where it makes a plan.
use Rattle.std.proofs.Common.{◌≡◌, ◌<◌, ◌≤◌, ℕ, List, length, inl, inr, refl, sym, ap, ◌∙◌, subst, arith}
use Rattle.std.specs.Prelude.{◌⊎◌}
use Rattle.std.specs.List.{All}
use Rattle.event_plans.specs.Draft.{DraftOf, IsDraft, IsNoDraft}
use Rattle.event_plans.specs.Function.{FunctionOf}
use Rattle.event_plans.specs.declared.stop.DraftStop.{DraftStop}
use Rattle.event_plans.specs.declared.stop.DraftStop.TheVariants as draft
use Rattle.event_destinations.specs.Destinations.{IsFirstStop, IsReady}
use Rattle.event_destinations.specs.declared.stop.DestinationStop.{DestinationStop}
use Rattle.event_destinations.specs.declared.stop.DestinationStop.TheVariants as destination
use Rattle.event_reader.specs.Plans.{AreAlike, IsNoPlan, IsPlan, MakesNone, MakesTooLarge, MakesTooMany, NoPlanOf, PlanOf, jobs_size}
use Rattle.event_reader.specs.Stops.{of_destination, of_draft}
use Rattle.event_reader.specs.declared.plan.Plan.{Plan}
use Rattle.event_reader.specs.declared.plan.PlanJob.{PlanJob}
use Rattle.event_reader.specs.declared.stop.Counted.TheVariants as counted
use Rattle.event_reader.specs.declared.stop.Measured.TheVariants as measured
use Rattle.event_reader.specs.declared.stop.PlanStop.{PlanStop}
use Rattle.event_reader.specs.declared.stop.PlanStop.TheVariants.{NotJson, NotAPlan, Missing, BadUuid, BadFunction, BadPattern, TooMany, TooLarge, OutOfMemory}
use Rattle.event_reader.proofs.FirstStops.{Alike, NeverBoth, one_first}
use Rattle.event_reader.proofs.One.{OneDraft, OneWhole, same_jobs}

-- where all functions are ready none is the first that isn't
abbrev pub ReadyOrStopped : Type 0
ReadyOrStopped = (fs : List FunctionOf) (n : ℕ) (s : DestinationStop) → All IsReady fs → IsFirstStop n fs s → ⊥

abbrev ByFunction : DraftOf → PlanStop → Type 0
ByFunction d stop = (s : DestinationStop) × (stop ≡ of_destination s) × IsFirstStop 0 d.functions s

abbrev ByCount : DraftOf → PlanStop → Type 0
ByCount d stop = (stop ≡ TooMany counted.Jobs) × MakesTooMany d

abbrev BySize : DraftOf → PlanStop → Type 0
BySize d stop = (stop ≡ TooLarge measured.Jobs) × MakesTooLarge d

-- a draft is refused for a function, or for its jobs
abbrev Reason : DraftOf → PlanStop → Type 0
Reason d stop = ByFunction d stop ⊎ (ByCount d stop ⊎ BySize d stop)

reason : (d : DraftOf) (stop : PlanStop) → NoPlanOf d stop → Reason d stop
reason d NotJson none = absurd none
reason d NotAPlan none = absurd none
reason d (Missing n) none = absurd none
reason d (BadUuid n) none = absurd none
reason d (BadFunction n why) none = inl (destination.BadFunction n why, refl, none)
reason d (BadPattern n) none = inl (destination.BadPattern n, refl, none)
reason d (TooMany counted.Events) none = absurd none
reason d (TooMany counted.Functions) none = absurd none
reason d (TooMany counted.Jobs) none = inr (inl (refl, none))
reason d (TooLarge (measured.Event n)) none = absurd none
reason d (TooLarge (measured.Inputs n)) none = inl (destination.TooLarge n, refl, none)
reason d (TooLarge measured.Jobs) none = inr (inr (refl, none))
reason d OutOfMemory none = absurd none

unplanned : OneWhole → ReadyOrStopped → (d : DraftOf) (plan : Plan) (stop : PlanStop) → PlanOf d plan → Reason d stop → ⊥
unplanned whole ready d plan stop p (inl r) = ready d.functions 0 r.0 p.makes.ready r.2
unplanned whole ready d plan stop p (inr (inl r)) =
    let same = same_jobs whole d plan.jobs r.1.jobs plan.broken r.1.broken p.makes r.1.makes in
    omega (arith, p.few, r.1.many, ap length same)
unplanned whole ready d plan stop p (inr (inr r)) =
    let same = same_jobs whole d plan.jobs r.1.jobs plan.broken r.1.broken p.makes r.1.makes in
    let size : jobs_size plan.jobs ≡ jobs_size r.1.jobs = ap jobs_size same in
    omega (arith, p.small, r.1.large, size)

pub plan_or_none_of : OneWhole → ReadyOrStopped → (d : DraftOf) (plan : Plan) (stop : PlanStop) → PlanOf d plan → NoPlanOf d stop → ⊥
plan_or_none_of whole ready d plan stop p none = unplanned whole ready d plan stop p (reason d stop none)

-- jobs that are too many are not few
count_not_size : OneWhole → (d : DraftOf) → MakesTooMany d → MakesTooLarge d → ⊥
count_not_size whole d many large =
    let same = same_jobs whole d many.jobs large.jobs many.broken large.broken many.makes large.makes in
    omega (arith, many.many, large.few, ap length same)

alike : (a b : PlanStop) (s t : DestinationStop) → a ≡ of_destination s → b ≡ of_destination t → Alike s t → AreAlike a b
alike a b s t x y (inl same) = inl (x ∙ ap of_destination same ∙ sym y)
alike a b s t x y (inr (n, why, other, is, is_too)) =
    inr (record { function = n; first = why; second = other; says = x ∙ ap of_destination is; says_too = y ∙ ap of_destination is_too })

one_reason : OneWhole → ReadyOrStopped → NeverBoth → (d : DraftOf) (a b : PlanStop) → Reason d a → Reason d b → AreAlike a b
one_reason whole ready one d a b (inl r) (inl s) = alike a b r.0 s.0 r.1 s.1 (one_first one d.functions 0 r.0 s.0 r.2 s.2)
one_reason whole ready one d a b (inl r) (inr (inl s)) = absurd (ready d.functions 0 r.0 s.1.makes.ready r.2)
one_reason whole ready one d a b (inl r) (inr (inr s)) = absurd (ready d.functions 0 r.0 s.1.makes.ready r.2)
one_reason whole ready one d a b (inr (inl r)) (inl s) = absurd (ready d.functions 0 s.0 r.1.makes.ready s.2)
one_reason whole ready one d a b (inr (inl r)) (inr (inl s)) = inl (r.0 ∙ sym s.0)
one_reason whole ready one d a b (inr (inl r)) (inr (inr s)) = absurd (count_not_size whole d r.1 s.1)
one_reason whole ready one d a b (inr (inr r)) (inl s) = absurd (ready d.functions 0 s.0 r.1.makes.ready s.2)
one_reason whole ready one d a b (inr (inr r)) (inr (inl s)) = absurd (count_not_size whole d s.1 r.1)
one_reason whole ready one d a b (inr (inr r)) (inr (inr s)) = inl (r.0 ∙ sym s.0)

pub one_refusal_of : OneWhole → ReadyOrStopped → NeverBoth → (d : DraftOf) (a b : PlanStop) → NoPlanOf d a → NoPlanOf d b → AreAlike a b
one_refusal_of whole ready one d a b p q = one_reason whole ready one d a b (reason d a p) (reason d b q)

-- ---- texts

abbrev pub DraftOrNone : Type 0
DraftOrNone = (text : List ℕ) (d : DraftOf) (s : DraftStop) → IsDraft text d → IsNoDraft text s → ⊥

abbrev pub OneNoDraft : Type 0
OneNoDraft = (text : List ℕ) (a b : DraftStop) → IsNoDraft text a → IsNoDraft text b → a ≡ b

abbrev ByDraft : List ℕ → PlanStop → Type 0
ByDraft text stop = (s : DraftStop) × (stop ≡ of_draft s) × IsNoDraft text s

text_reason : (text : List ℕ) (stop : PlanStop) → IsNoPlan text stop → ByDraft text stop ⊎ MakesNone text stop
text_reason text NotJson none = inl (draft.NotJson, refl, none)
text_reason text NotAPlan none = inl (draft.NotAPlan, refl, none)
text_reason text (Missing n) none = inl (draft.Missing n, refl, none)
text_reason text (BadUuid n) none = inl (draft.BadUuid n, refl, none)
text_reason text (BadFunction n why) none = inr none
text_reason text (BadPattern n) none = inr none
text_reason text (TooMany counted.Events) none = inl (draft.TooManyEvents, refl, none)
text_reason text (TooMany counted.Functions) none = inl (draft.TooManyFunctions, refl, none)
text_reason text (TooMany counted.Jobs) none = inr none
text_reason text (TooLarge (measured.Event n)) none = inl (draft.TooLarge n, refl, none)
text_reason text (TooLarge (measured.Inputs n)) none = inr none
text_reason text (TooLarge measured.Jobs) none = inr none
text_reason text OutOfMemory none = absurd none

text_or_none : OneWhole → ReadyOrStopped → OneDraft → DraftOrNone → (text : List ℕ) (plan : Plan) (stop : PlanStop) → IsPlan text plan
    → ByDraft text stop ⊎ MakesNone text stop → ⊥
text_or_none whole ready one_draft draft_or text plan stop p (inl r) = draft_or text p.draft r.0 p.is_draft r.2
text_or_none whole ready one_draft draft_or text plan stop p (inr r) =
    let same : p.draft ≡ r.draft = one_draft text p.draft r.draft p.is_draft r.is_draft in
    plan_or_none_of whole ready r.draft plan stop (subst (λ (d : DraftOf). PlanOf d plan) same p.makes) r.none

pub plan_or_none : OneWhole → ReadyOrStopped → OneDraft → DraftOrNone → (text : List ℕ) (plan : Plan) (stop : PlanStop) → IsPlan text plan → IsNoPlan text stop → ⊥
plan_or_none whole ready one_draft draft_or text plan stop p none = text_or_none whole ready one_draft draft_or text plan stop p (text_reason text stop none)

text_one : OneWhole → ReadyOrStopped → NeverBoth → OneDraft → DraftOrNone → OneNoDraft → (text : List ℕ) (a b : PlanStop)
    → ByDraft text a ⊎ MakesNone text a → ByDraft text b ⊎ MakesNone text b → AreAlike a b
text_one whole ready one one_draft draft_or none text a b (inl r) (inl s) = inl (r.1 ∙ ap of_draft (none text r.0 s.0 r.2 s.2) ∙ sym s.1)
text_one whole ready one one_draft draft_or none text a b (inl r) (inr s) = absurd (draft_or text s.draft r.0 s.is_draft r.2)
text_one whole ready one one_draft draft_or none text a b (inr r) (inl s) = absurd (draft_or text r.draft s.0 r.is_draft s.2)
text_one whole ready one one_draft draft_or none text a b (inr r) (inr s) =
    let same : r.draft ≡ s.draft = one_draft text r.draft s.draft r.is_draft s.is_draft in
    one_refusal_of whole ready one s.draft a b (subst (λ (d : DraftOf). NoPlanOf d a) same r.none) s.none

pub one_refusal : OneWhole → ReadyOrStopped → NeverBoth → OneDraft → DraftOrNone → OneNoDraft → (text : List ℕ) (a b : PlanStop) → IsNoPlan text a → IsNoPlan text b → AreAlike a b
one_refusal whole ready one one_draft draft_or none text a b p q = text_one whole ready one one_draft draft_or none text a b (text_reason text a p) (text_reason text b q)
