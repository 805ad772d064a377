-- The two laws of the course.
use Rattle.std.specs.Prelude.{◌≢◌, ℕ, List, [], ◌∷◌, ◌++◌, length, refl}
use Rattle.std.proofs.Common.{sym, subst}
use Rattle.std.proofs.lemmas.List.{map-append}
use Rattle.hog_value.specs.declared.trace.Shown.{Shown}
use Rattle.hog_meaning.specs.World as world
use Rattle.cyclotron_jobs.specs.declared.input.JobInput.{JobInput}
use Rattle.cyclotron_jobs.specs.declared.input.Reply.{Reply}
use Rattle.cyclotron_jobs.specs.declared.row.After.{After}
use Rattle.cyclotron_jobs.specs.declared.row.After.TheVariants.{Hog, Finished}
use Rattle.cyclotron_jobs.specs.Course.{shows_nothing}
use Rattle.cyclotron_jobs.specs.Replies.{AllowsReply}
use Rattle.hog_jobs.specs.Course.{reply_of, replies_of, StandsAt}
use Rattle.hog_jobs.specs.Inputs.{IsInput}
use Rattle.hog_jobs.specs.Jobs.{IsCourse}
use Rattle.hog_jobs.specs.CourseRuns.{stands_on}

pub begins : (input : JobInput) → IsInput input → IsCourse input [] 0 [] shows_nothing Hog
begins input is = record { taken = is; stands = (refl, refl, refl) }

pub goes_on : (input : JobInput) (replies : List Reply) (ops : ℕ) (saved : List ℕ) (shown : Shown) (next : After) (reply : Reply)
    → IsCourse input replies ops saved shown next → next ≢ Finished → AllowsReply input (length replies) reply
    → IsCourse input (replies ++ reply ∷ []) ops saved shown Hog
goes_on input replies ops saved shown next reply is unfinished allowed = record {
  taken = is.taken;
  stands =
      subst (λ (rs : List world.Reply). StandsAt is.taken.code input.globals rs ops saved shown Hog) (sym (map-append reply_of replies (reply ∷ [])))
      (stands_on is.taken.code input.globals (replies_of replies) (reply_of reply) ops saved shown next is.stands unfinished);
}
