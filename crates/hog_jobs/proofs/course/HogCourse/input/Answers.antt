use Rattle.std.proofs.Common.{◌≢◌, ◌≤◌, ℕ, List, None, length, sym, ap, ◌∙◌, subst, arith}
use Rattle.serde_json.specs.Find.{as_object}
use Rattle.serde_json.specs.View.{view}
use Rattle.hog_program.specs.Program.{HasCode}
use Rattle.hog_jobs.specs.Inputs.{most_globals}
use Rattle.hog_jobs.proofs.GlobalsLemmas.{object_globals}
use Rattle.hog_jobs.proofs.course.HogCourse.input.Goals as goal

pub returns-clause-taken : goal.returns-clause-taken
returns-clause-taken c =
    let there : as_object (view c.args.globals.now) ≢ None =
    λ none. let bad = sym c.in-Ok.is ∙ c.globals_text.ensures.not_an_object.1 none in absurd cc in
    let same = ap length c.bytes.ensures.value in
    let short : length c.in-Ok.kept.text ≤ most_globals = omega (arith, same, c.if-bytes-gt-MOST_GLOBALS.false) in
    record {
      code = c.args.p.now.code;
      source = subst (λ (s : List ℕ). HasCode s c.args.p.now.code) (sym (c.in_ok-copy.ensures ∙ c.source.ensures.value)) c.source.ensures.built;
      globals = object_globals (view c.args.globals.now) c.in-Ok.kept.text there c.in-Ok.ensures.reads_back short;
    }
