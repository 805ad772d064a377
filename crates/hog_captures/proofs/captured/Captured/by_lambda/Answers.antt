use Rattle.std.proofs.Common.{ap, ◌∙◌}
use Rattle.hog_tree.specs.View.{words_of}
use Rattle.hog_captures.specs.Finding.{bind_all}
use Rattle.hog_captures.proofs.Gathered.{captured_found}
use Rattle.hog_captures.proofs.captured.Captured.by_lambda.Goals as goal

pub returns : goal.returns
returns c =
    let ps = words_of c.args.params.now in
    c.into_found.ensures ∙ captured_found c.args.frame.now ps (c.in_ok-bind_all.ensures ∙ ap (bind_all ps) c.new-finder.ensures) c.in_ok-arrow_body.ensures
