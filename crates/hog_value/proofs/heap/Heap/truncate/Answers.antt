use Rattle.std.proofs.Common.{take, map, ap, sym, subst, ◌∙◌}
use Rattle.std.proofs.lemmas.List.{take-map}
use Rattle.std.proofs.lemmas.List.Elements.{All-take}
use Rattle.hog_value.specs.Cells.{HasDistinctKeys, IsSound}
use Rattle.hog_value.specs.Views.{cell_of}
use Rattle.hog_value.proofs.heap.Heap.truncate.Goals as goal

pub invariant_of-self : goal.invariant_of-self
invariant_of-self c =
    let cut = ap (map cell_of) c.truncate.ensures.items ∙ sym (take-map cell_of c.args.n c.self.inside.cells.items) ∙ ap (take c.args.n) c.self.view_is in
    let before = subst IsSound c.self.view_is c.self.invariant in
    subst IsSound (sym cut) (c.requires, All-take HasDistinctKeys c.args.n c.args.self.now before.1)

pub returns : goal.returns
returns c =
    ap (map cell_of) c.truncate.ensures.items
    ∙ sym (take-map cell_of c.args.n c.self.inside.cells.items)
    ∙ ap (take c.args.n) c.self.view_is
