use Rattle.std.proofs.Common.{◌≡◌, true, false, Err, refl, sym, ap, ◌∙◌}
use Rattle.std.specs.Prelude.{codes}
use Rattle.std.specs.Fmt.{digits}
use Rattle.serde_json.proofs.OnLiterals.{serde_json_on_literals}
use Rattle.hogvm.specs.Calls.{is_globals}
use Rattle.hog_runner.proofs.sources.evaluated.Goals as goal

right : is_globals (codes "{}") ≡ true
unfolding digits serde_json_on_literals
right = refl

pub unreachable-requires : goal.unreachable-requires
unreachable-requires c =
    let wrong : is_globals c.in_ok-globals.globals ≡ false = c.evaluate.ensures.not_an_object (c.in-Err-NotAnObject.is ∙ ap Err c.in-Err-NotAnObject.field-0-is) in
    let clash : true ≡ false = sym right ∙ ap is_globals (sym c.in_ok-globals.ensures) ∙ wrong in
    absurd cc
