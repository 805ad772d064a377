use Rattle.std.proofs.Common.{◌≡◌, ◌≢◌, Err}
use Rattle.std.proofs.lemmas.Result.{IfErr-weaker}
use Rattle.serde_json.specs.View.{view}
use Rattle.event_plans.specs.Draft.{IsNoDraft, draft_in}
use Rattle.event_plans.specs.declared.stop.DraftStop.TheVariants.{OutOfMemory}
use Rattle.event_plans.proofs.DraftLemmas.{refused_text}
use Rattle.event_plans.proofs.draft.Draft.read.Goals as goal

pub returns-in-Ok-clause-stop : goal.returns-in-Ok-clause-stop
returns-in-Ok-clause-stop c =
    let d = view c.in-Ok.value in
    let text = c.args.text.now in
    IfErr-weaker c.of.result (λ s. s ≢ OutOfMemory → draft_in d ≡ Err s) (λ s. s ≢ OutOfMemory → IsNoDraft text s)
    (λ s known other. refused_text text s (record { value = d; utf8 = c.in-Ok.ensures.ok.0; json = c.in-Ok.ensures.ok.1; is = known other })) c.of.ensures.stop
