use Rattle.hog_terms.specs.View.{left}
use Rattle.hog_reading.proofs.Unfold.{dict_found}
use Rattle.hog_expressions.proofs.expressions.dictionary.Goals as goal

pub returns-clause-gives : goal.returns-clause-gives
returns-clause-gives g c =
    dict_found _ c.in_ok-items.items.tree c.in_ok-items.items.height (left c.args.tokens.now c.in_ok-items.items.at) c.in_ok-items.ensures.gives
