use Rattle.std.proofs.Common.{ap, subst, ◌∙◌}
use Rattle.std.specs.Prelude.{Err}
use Rattle.hog_value.specs.Cells.{Text}
use Rattle.hog_value.specs.Operations.{made}
use Rattle.hog_library.specs.Products.{Makes}
use Rattle.hog_library.proofs.Found.{text_spends}
use Rattle.hog_library.proofs.Made.{makes_cell, makes_stop}
use Rattle.hog_library.proofs.making.make_text.Goals as goal

pub returns-in_err-copy : goal.returns-in_err-copy
returns-in_err-copy c =
    makes_stop _ c.in_err-copy.field-0.0 _ _ _ c.from_residual.ensures.1
    (λ is. text_spends _ _ _ _ c.units_left.ensures (c.in_err-copy.ensures.spent (ap Err is))) c.requires

pub returns : goal.returns
returns c =
    let e = c.make.ensures in
    let h = c.args.heap.now in
    let g = c.make.new.self in
    let m = c.args.m.now in
    let n = c.make.new.m in
    subst (λ t. Makes (made (Text t) h m.units) c.make.result h g m n) (c.from_string.ensures ∙ c.in_ok-copy.ensures.ok)
    (makes_cell _ h g m n c.make.result e.ok e.cell e.number e.charge e.spent.0 e.err e.err_meter e.covered)
