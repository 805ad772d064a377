use Rattle.std.proofs.Common.{length, subst}
use Rattle.hog_value.specs.Cells.{CellNamesBelow, HasDistinctKeys, IsSound}
use Rattle.hog_value.specs.Views.{cell_of}
use Rattle.hog_value.proofs.Closed.{All-slice_get, cell_read}
use Rattle.hog_value.proofs.heap.Heap.get.Goals as goal

pub returns-clause-names : goal.returns-clause-names
returns-clause-names c =
    let h = c.args.self.now in
    let cell = c.index.result.now in
    let at = cell_read c.self.inside.cells.items h c.args.n cell c.self.view_is c.requires c.index.ensures in
    All-slice_get (CellNamesBelow (length h)) h c.args.n (cell_of cell) (subst IsSound c.self.view_is c.self.invariant).0 at

pub returns-clause-distinct : goal.returns-clause-distinct
returns-clause-distinct c =
    let h = c.args.self.now in
    let cell = c.index.result.now in
    let at = cell_read c.self.inside.cells.items h c.args.n cell c.self.view_is c.requires c.index.ensures in
    All-slice_get HasDistinctKeys h c.args.n (cell_of cell) (subst IsSound c.self.view_is c.self.invariant).1 at
