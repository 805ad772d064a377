use Rattle.std.proofs.Common.{subst}
use Rattle.hog_value.specs.Cells.{Dict}
use Rattle.hog_value.specs.Operations.{made}
use Rattle.hog_library.specs.Products.{Makes}
use Rattle.hog_library.proofs.Made.{makes_cell}
use Rattle.hog_library.proofs.making.make_error.Goals as goal

pub returns : goal.returns
returns c =
    let e = c.make.ensures in
    let h = c.args.heap.now in
    let g = c.make.new.self in
    let m = c.args.m.now in
    let n = c.make.new.m in
    subst (λ ps. Makes (made (Dict ps) h m.units) c.make.result h g m n) c.in_ok-pairs.ensures
    (makes_cell _ h g m n c.make.result e.ok e.cell e.number e.charge e.spent.0 e.err e.err_meter e.covered)
