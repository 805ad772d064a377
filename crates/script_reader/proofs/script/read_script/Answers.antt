use Rattle.std.proofs.Common.{◌≢◌}
use Rattle.std.proofs.lemmas.Result.{IfErr-weaker}
use Rattle.serde_json.specs.View.{view}
use Rattle.script_reader.specs.Script.{IsNoScript, NoScriptIn}
use Rattle.script_reader.specs.declared.step.ScriptStop.TheVariants.{OutOfMemory}
use Rattle.script_reader.proofs.Places.{stops_text}
use Rattle.script_reader.proofs.script.read_script.Goals as goal

pub returns-in-Ok-clause-stop : goal.returns-in-Ok-clause-stop
returns-in-Ok-clause-stop c =
    let d = view c.in-Ok.value in
    IfErr-weaker c.script_in.result (λ stop. stop ≢ OutOfMemory → NoScriptIn d stop) (λ stop. stop ≢ OutOfMemory → IsNoScript c.args.text.now stop)
    (λ stop stops known. stops_text c.args.text.now d (record { utf8 = c.in-Ok.ensures.ok.0; is = c.in-Ok.ensures.ok.1 }) stop (stops known)) c.script_in.ensures.stop
