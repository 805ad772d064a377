-- The made plan is a plan.
use Rattle.std.proofs.Common.{◌≡◌, ℕ, ◌+◌, ◌*◌, ◌<◌, ◌≤◌, List, [], ◌∷◌, length, All, sym, subst, arith}
use Rattle.std.proofs.lemmas.List.Elements.{All-nil, All-cons}
use Rattle.hog_program.specs.Build.{IsBuilt}
use Rattle.event_plans.specs.Function.{FunctionOf}
use Rattle.event_destinations.specs.Destinations.{IsFirstStop, IsReady}
use Rattle.event_destinations.specs.declared.stop.DestinationStop.{DestinationStop}
use Rattle.event_destinations.specs.declared.stop.DestinationStop.TheVariants as destination
use Rattle.event_reader.specs.Plans.{Makes, MakesTooLarge, MakesTooMany, NoPlanOf, jobs_of, jobs_size}
use Rattle.event_reader.specs.declared.plan.BrokenRun.{BrokenRun}
use Rattle.event_reader.specs.declared.plan.PlanJob.{PlanJob}
use Rattle.event_reader.specs.declared.stop.Counted.TheVariants as counted
use Rattle.event_reader.specs.declared.stop.Measured.TheVariants as measured
use Rattle.event_reader.specs.declared.stop.PlanStop.{PlanStop}
use Rattle.event_reader.specs.declared.stop.PlanStop.TheVariants.{NotJson, NotAPlan, Missing, BadUuid, BadFunction, BadPattern, TooMany, TooLarge, OutOfMemory}
use Rattle.made_plans.specs.Made.{echo, high, made_draft, made_events, made_functions, sum}
use Rattle.made_sources.specs.Sources.{echo_source, high_source, sum_source, high_filter, echo_tree, high_tree, sum_tree, high_filter_tree}
use Rattle.made_jobs.specs.Jobs.{IsSmallJob}
use Rattle.made_jobs.specs.Laws.{AreSmallJobs, MadeJobsAreSmall, MadeIsAPlan}
use Rattle.made_jobs.proofs.Planned.{GlobalsSize, few_jobs, small_jobs, small_total}
use Rattle.made_jobs.proofs.Short.{events_short, functions_short}

pub jobs_small : GlobalsSize → ((n : ℕ) → length (made_draft n).events ≡ n + 1000) → MadeJobsAreSmall
jobs_small globals count n jobs broken makes =
    let events = made_events n in
    let few : length (jobs_of events made_functions makes.rows) ≤ length events * 3 = few_jobs events made_functions makes.rows (omega arith) makes.met in
    let small : All IsSmallJob (jobs_of events made_functions makes.rows) = small_jobs globals events made_functions makes.rows (events_short n) functions_short makes.met in
    let all = count n in
    record {
      few = subst (λ (js : List PlanJob). length js ≤ (n + 1000) * 3) (sym makes.jobs_are) (omega (arith, few, all));
      small = subst (All IsSmallJob) (sym makes.jobs_are) small;
    }

module _ (built_echo : IsBuilt echo_source echo_tree) (built_high : IsBuilt high_source high_tree) (built_sum : IsBuilt sum_source sum_tree)
    (built_filter : IsBuilt high_filter high_filter_tree) where
  ready : All IsReady made_functions
  ready =
      All-cons IsReady echo (high ∷ sum ∷ []) (record { source = (echo_tree, built_echo); filter = tt; pattern = tt; short = omega arith })
      (All-cons IsReady high (sum ∷ []) (record { source = (high_tree, built_high); filter = (high_filter_tree, built_filter); pattern = tt; short = omega arith })
      (All-cons IsReady sum [] (record { source = (sum_tree, built_sum); filter = tt; pattern = tt; short = omega arith }) (All-nil IsReady)))

  module _ (none_stops : (fs : List FunctionOf) (n : ℕ) (stop : DestinationStop) → All IsReady fs → IsFirstStop n fs stop → ⊥) (are_small : MadeJobsAreSmall) where
    not_many : (n : ℕ) → n ≤ 3000 → MakesTooMany (made_draft n) → ⊥
    not_many n small many =
        let few = (are_small n many.jobs many.broken many.makes).few in
        let over = many.many in
        omega (arith, few, over, small)

    not_large : (n : ℕ) → n ≤ 3000 → MakesTooLarge (made_draft n) → ⊥
    not_large n small large =
        let are = are_small n large.jobs large.broken large.makes in
        let few = are.few in
        let total = small_total large.jobs are.small in
        let over = large.large in
        omega (arith, few, total, over, small)

    pub is_a_plan : MadeIsAPlan
    is_a_plan n NotJson small none = none
    is_a_plan n NotAPlan small none = none
    is_a_plan n (Missing k) small none = none
    is_a_plan n (BadUuid k) small none = none
    is_a_plan n (BadFunction k why) small none = none_stops made_functions 0 (destination.BadFunction k why) ready none
    is_a_plan n (BadPattern k) small none = none_stops made_functions 0 (destination.BadPattern k) ready none
    is_a_plan n (TooMany counted.Events) small none = none
    is_a_plan n (TooMany counted.Functions) small none = none
    is_a_plan n (TooMany counted.Jobs) small none = not_many n small none
    is_a_plan n (TooLarge (measured.Event k)) small none = none
    is_a_plan n (TooLarge (measured.Inputs k)) small none = none_stops made_functions 0 (destination.TooLarge k) ready none
    is_a_plan n (TooLarge measured.Jobs) small none = not_large n small none
    is_a_plan n OutOfMemory small none = none
