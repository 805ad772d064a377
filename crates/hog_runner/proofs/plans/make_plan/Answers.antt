use Rattle.std.proofs.Common.{◌≡◌, inr, ℕ, List}
use Rattle.hog_runner.specs.Commands.{MakeOutputs, make_line}
use Rattle.hog_runner.proofs.ServesLemmas.{puts_so}
use Rattle.hog_runner.proofs.plans.make_plan.Goals as goal

pub returns-in-Ok-clause-output : goal.returns-in-Ok-clause-output
returns-in-Ok-clause-output g c =
    let made = c.in-Ok.ensures.made in
    let whole : (out : List ℕ) → out ≡ make_line c.args.n c.in-Ok.made.counts → MakeOutputs c.args.n out =
    λ out is. record { inputs = made.0; counts = c.in-Ok.made.counts; makes = made.1; line = is } in
    inr (puts_so _ _ whole whole c.write_made.ensures.output)
