use Rattle.std.proofs.Common.{◌≡◌, Some, sym, ap, ◌∙◌}
use Rattle.hog_json.specs.Texts.{named_text}
use Rattle.hog_json.proofs.Growing.{json_cells-grows}
use Rattle.hog_library.specs.Given.{argument}
use Rattle.hog_library.specs.Natives.{json_parse_called}
use Rattle.hog_library.proofs.Parsed.{parse_gives}
use Rattle.hog_library.proofs.call.json_parse.Goals as goal

pub returns-in-Ok : goal.returns-in-Ok
unfolding json_parse_called
returns-in-Ok c =
    let e = c.in-Ok.ensures in
    let h = c.args.heap.now in
    let given : named_text h (argument c.args.args.now 0) ≡ Some c.in-Some.text.now =
    ap (named_text h) (sym c.argument.ensures.value) ∙ sym c.in-Some.ensures in
    record {
      ok = parse_gives _ _ _ _ _ _ _ _ given c.in_ok-text.ensures e.ok e.turns_and_depth;
      kept = tt;
      names = e.names;
      turns = λ q. absurd cc;
      units = λ q. absurd cc;
      err = tt;
      err_meter = tt;
      grows = json_cells-grows _ _ _ _ _ _ e.ok;
      covered = e.covered;
    }
