use Rattle.std.proofs.Common.{◌≢◌, ◌≤◌, None, length, sym, ap, ◌∙◌, arith}
use Rattle.serde_json.specs.Find.{as_object}
use Rattle.serde_json.specs.View.{view}
use Rattle.hog_jobs.specs.Inputs.{most_globals}
use Rattle.hog_jobs.proofs.GlobalsLemmas.{object_globals}
use Rattle.script_reader.proofs.values.globals_in.Goals as goal

pub returns-then-bytes-le-MOST_GLOBALS-clause-kept : goal.returns-then-bytes-le-MOST_GLOBALS-clause-kept
returns-then-bytes-le-MOST_GLOBALS-clause-kept c =
    let there : as_object (view c.args.v.now) ≢ None =
    λ none. let bad = sym c.in-Ok.is ∙ c.globals_text.ensures.not_an_object.1 none in absurd cc in
    let same = ap length c.bytes.ensures.value in
    let short : length c.in-Ok.globals.text ≤ most_globals = omega (arith, same, c.if-bytes-le-MOST_GLOBALS.true) in
    object_globals (view c.args.v.now) c.in-Ok.globals.text there c.in-Ok.ensures.reads_back short
