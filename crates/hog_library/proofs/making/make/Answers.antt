use Rattle.std.proofs.Common.{sym, subst}
use Rattle.hog_library.specs.Products.{Makes, product_made}
use Rattle.hog_library.proofs.Made.{makes_cell}
use Rattle.hog_library.proofs.making.make.Goals as goal

pub returns-in-Cell : goal.returns-in-Cell
returns-in-Cell c =
    let e = c.make.ensures in
    let h = c.args.heap.now in
    let g = c.make.new.self in
    let m = c.args.m.now in
    let n = c.make.new.m in
    let r = c.make.result in
    subst (λ p. Makes (product_made p h m.units) r h g m n) (sym c.in-Cell.is)
    (makes_cell _ h g m n r e.ok e.cell e.number e.charge e.spent.0 e.err e.err_meter e.covered)
