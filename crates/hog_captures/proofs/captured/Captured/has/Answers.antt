use Rattle.std.proofs.Common.{is_some, ap, ◌∙◌}
use Rattle.hog_captures.proofs.Finds.{among_found}
use Rattle.hog_captures.proofs.captured.Captured.has.Goals as goal

pub returns : goal.returns
returns c = c.is_some.ensures ∙ ap is_some c.place.ensures ∙ among_found c.args.self.now c.args.word.now
