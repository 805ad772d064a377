-- What a draft makes, once all is gathered.
use Rattle.std.proofs.Common.{◌≡◌, ◌≤◌, ◌<◌, ℕ, List, length, Option, Some, None, false, true, refl, sym, ap, ◌∙◌, subst, arith}
use Rattle.std.specs.Prelude.{is_some}
use Rattle.std.specs.List.{All}
use Rattle.serde_json.specs.Data.{Data}
use Rattle.event_plans.specs.Draft.{DraftOf}
use Rattle.event_plans.specs.Function.{FunctionOf}
use Rattle.event_destinations.specs.Destinations.{IsReady}
use Rattle.event_reader.specs.Gathering.{GathersAll, HasGathered, left}
use Rattle.event_reader.specs.Plans.{Makes, MakesTooLarge, MakesTooMany, broken_of, jobs_of, jobs_size, most_bytes, most_jobs}
use Rattle.event_reader.specs.declared.gather.Gathered.{Gathered}
use Rattle.event_reader.proofs.Left.{none_many, some_few}

pub gathers_of : (d : DraftOf) (events : List Data) (fs : List FunctionOf) (g : Gathered) → events ≡ d.events → fs ≡ d.functions → GathersAll events fs g
    → GathersAll d.events d.functions g
gathers_of d events fs g same same_too all =
    subst (λ (es : List Data). GathersAll es d.functions g) same (subst (λ (xs : List FunctionOf). GathersAll events xs g) same_too all)

makes_of : (d : DraftOf) (g : Gathered) → All IsReady d.functions → (all : GathersAll d.events d.functions g)
    → Makes d (jobs_of d.events d.functions all.0) (broken_of d.events d.functions all.0)
makes_of d g ready all = record { ready = ready; rows = all.0; met = all.1; jobs_are = refl; broken_are = refl }

pub too_many : (d : DraftOf) (g : Gathered) → All IsReady d.functions → GathersAll d.events d.functions g → g.places ≡ None → MakesTooMany d
too_many d g ready all none = record {
  jobs = jobs_of d.events d.functions all.0;
  broken = broken_of d.events d.functions all.0;
  makes = makes_of d g ready all;
  many = none_many most_jobs (length (jobs_of d.events d.functions all.0)) (sym all.2.places ∙ none);
}

pub too_large : (d : DraftOf) (g : Gathered) → All IsReady d.functions → GathersAll d.events d.functions g → is_some g.places ≡ true → g.room ≡ None
    → MakesTooLarge d
too_large d g ready all some none = record {
  jobs = jobs_of d.events d.functions all.0;
  broken = broken_of d.events d.functions all.0;
  makes = makes_of d g ready all;
  few = some_few most_jobs (length (jobs_of d.events d.functions all.0)) (ap is_some (sym all.2.places) ∙ some);
  large = none_many most_bytes (jobs_size (jobs_of d.events d.functions all.0)) (sym all.2.room ∙ none);
}

pub is_nothing : {A : Type 0} (o : Option A) → is_some o ≡ false → o ≡ None
is_nothing None is = refl
is_nothing (Some x) is = absurd cc
