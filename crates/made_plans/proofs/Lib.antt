mod EventLemmas
mod PlanLemmas
