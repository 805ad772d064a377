-- A draft makes one plan at most, or has one refusal.
use Rattle.std.proofs.Common.{◌≡◌, ◌≢◌, ◌<◌, ◌≤◌, ℕ, List, [], ◌∷◌, length, Bool, true, false, Option, Some, None, inl, inr, refl, sym, ap, ap₂, ◌∙◌, subst, arith}
use Rattle.std.specs.Prelude.{◌⊎◌}
use Rattle.std.specs.List.{All, AllZip}
use Rattle.serde_json.specs.Data.{Data}
use Rattle.hog_tree.specs.Plain.{Stms}
use Rattle.hog_program.specs.Build.{IsBuilt}
use Rattle.event_filter.specs.Verdicts.{Says, verdict_of}
use Rattle.event_filter.specs.declared.filter.Verdict.{Verdict}
use Rattle.event_plans.specs.Draft.{DraftOf, IsDraft, IsNoDraft}
use Rattle.event_plans.specs.Event.{name_in}
use Rattle.event_plans.specs.Function.{FunctionOf}
use Rattle.event_reader.specs.Meetings.{Decides, IsDecided, Meets, MeetsIf, globals_for, input_for, is_taken, meeting_by}
use Rattle.event_reader.specs.Plans.{HaveMet, IsPlan, Makes, PlanOf, broken_of, jobs_of, jobs_size, nulled_in}
use Rattle.event_reader.specs.declared.meeting.Meeting.{Meeting}
use Rattle.event_reader.specs.declared.plan.BrokenRun.{BrokenRun}
use Rattle.event_reader.specs.declared.plan.Plan.{Plan}
use Rattle.event_reader.specs.declared.plan.PlanJob.{PlanJob}

-- a source has one whole program at most
abbrev pub OneWhole : Type 0
OneWhole = (source : List ℕ) (a b : Stms) → IsBuilt source a → IsBuilt source b → a ≡ b

one_saying : OneWhole → (filter globals : List ℕ) (v w : Verdict) → Says filter globals v → Says filter globals w → v ≡ w
one_saying whole filter globals v w a b =
    a.is ∙ ap (λ p. verdict_of p globals) (whole filter a.whole b.whole a.is_built b.is_built) ∙ sym b.is

one_decision : OneWhole → (filter : Option (List ℕ)) (globals : List ℕ) (v w : Verdict) → Decides filter globals v → Decides filter globals w → v ≡ w
one_decision whole None globals v w a b = a ∙ sym b
one_decision whole (Some filter) globals v w a b = one_saying whole filter globals v w a b

meetings_if : OneWhole → (taken : Bool) (event : Data) (f : FunctionOf) (m n : Meeting) → MeetsIf taken event f m → MeetsIf taken event f n → m ≡ n
meetings_if whole false event f m n a b = a ∙ sym b
meetings_if whole true event f m n a b =
    a.makes ∙ ap (meeting_by (input_for event f)) (one_decision whole f.filter (globals_for event f) a.verdict b.verdict a.decides b.decides) ∙ sym b.makes

one_row : OneWhole → (event : Data) (fs : List FunctionOf) (a b : List Meeting) → AllZip (Meets event) fs a → AllZip (Meets event) fs b → a ≡ b
one_row whole event [] [] [] p q = refl
one_row whole event [] [] (n ∷ b) p q = absurd q
one_row whole event [] (m ∷ a) b p q = absurd p
one_row whole event (f ∷ fs) [] b p q = absurd p
one_row whole event (f ∷ fs) (m ∷ a) [] p q = absurd q
one_row whole event (f ∷ fs) (m ∷ a) (n ∷ b) p q =
    ap₂ (λ x xs. x ∷ xs) (meetings_if whole (is_taken f.pattern (name_in event)) event f m n p.0 q.0) (one_row whole event fs a b p.1 q.1)

one_table : OneWhole → (events : List Data) (fs : List FunctionOf) (a b : List (List Meeting)) → HaveMet events fs a → HaveMet events fs b → a ≡ b
one_table whole [] fs [] [] p q = refl
one_table whole [] fs [] (n ∷ b) p q = absurd q
one_table whole [] fs (m ∷ a) b p q = absurd p
one_table whole (d ∷ ds) fs [] b p q = absurd p
one_table whole (d ∷ ds) fs (m ∷ a) [] p q = absurd q
one_table whole (d ∷ ds) fs (m ∷ a) (n ∷ b) p q = ap₂ (λ x xs. x ∷ xs) (one_row whole d fs m n p.0 q.0) (one_table whole ds fs a b p.1 q.1)

pub same_jobs : OneWhole → (draft : DraftOf) (js ks : List PlanJob) (bs cs : List BrokenRun) → Makes draft js bs → Makes draft ks cs → js ≡ ks
same_jobs whole draft js ks bs cs p q =
    p.jobs_are ∙ ap (jobs_of draft.events draft.functions) (one_table whole draft.events draft.functions p.rows q.rows p.met q.met) ∙ sym q.jobs_are

pub same_broken : OneWhole → (draft : DraftOf) (js ks : List PlanJob) (bs cs : List BrokenRun) → Makes draft js bs → Makes draft ks cs → bs ≡ cs
same_broken whole draft js ks bs cs p q =
    p.broken_are ∙ ap (broken_of draft.events draft.functions) (one_table whole draft.events draft.functions p.rows q.rows p.met q.met) ∙ sym q.broken_are

pub one_of_draft : OneWhole → (draft : DraftOf) (a b : Plan) → PlanOf draft a → PlanOf draft b → a ≡ b
one_of_draft whole draft a b p q =
    let jobs = same_jobs whole draft a.jobs b.jobs a.broken b.broken p.makes q.makes in
    let broken = same_broken whole draft a.jobs b.jobs a.broken b.broken p.makes q.makes in
    let events = p.events ∙ sym q.events in
    let functions = p.functions ∙ sym q.functions in
    let nulled = p.nulled ∙ sym q.nulled in
    λ i. record { jobs = jobs i; broken = broken i; events = events i; functions = functions i; nulled = nulled i }

-- a text is one draft at most
abbrev pub OneDraft : Type 0
OneDraft = (text : List ℕ) (a b : DraftOf) → IsDraft text a → IsDraft text b → a ≡ b

pub one_of_text : OneWhole → OneDraft → (text : List ℕ) (a b : Plan) → IsPlan text a → IsPlan text b → a ≡ b
one_of_text whole one text a b p q =
    let draft : p.draft ≡ q.draft = one text p.draft q.draft p.is_draft q.is_draft in
    one_of_draft whole q.draft a b (subst (λ (d : DraftOf). PlanOf d a) draft p.makes) q.makes
