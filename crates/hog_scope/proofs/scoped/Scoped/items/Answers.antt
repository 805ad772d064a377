use Rattle.std.proofs.Common.{length, ap, ◌∙◌}
use Rattle.hog_tree.specs.Names.{tree_names}
use Rattle.hog_scope.proofs.Counts.{items_counted}
use Rattle.hog_scope.proofs.scoped.Scoped.items.Goals as goal

pub returns-clause-each : goal.returns-clause-each
returns-clause-each c =
    ap length c.as_slice.ensures.value
    ∙ items_counted c.self.inside.tree.now c.self.inside.items.items c.self.invariant
    ∙ ap (λ s. length (tree_names s.tree)) c.self.view_is
