use Rattle.std.proofs.Common.{◌≡◌, ◌∙◌, IsSome, None, ap, sym}
use Rattle.std.specs.Prelude.{is_some}
use Rattle.vm_frames.specs.Order.{open_at}
use Rattle.vm_frames.proofs.OpenLists.{IsOpenBelow-placed, IsOpenBelow-shut, None-from_test}
use Rattle.vm_frames.proofs.listed.note.Goals as goal

pub returns-then-is_some-clause-with_it : goal.returns-then-is_some-clause-with_it
returns-then-is_some-clause-with_it c =
    let some : IsSome (open_at c.args.list.now c.args.number) = ap is_some (sym c.open_place.ensures) ∙ (sym c.is_some.ensures ∙ c.if-is_some.true) in
    IsOpenBelow-placed c.args.list.now c.args.open_ones.now c.args.number c.requires.before c.insert_by.new.self some c.insert_by.ensures.others c.insert_by.ensures.placed

pub returns-else-is_some-clause-with_it : goal.returns-else-is_some-clause-with_it
returns-else-is_some-clause-with_it c =
    let none : open_at c.args.list.now c.args.number ≡ None = sym c.open_place.ensures ∙ None-from_test c.open_place.result (sym c.is_some.ensures ∙ c.if-is_some.false) in
    IsOpenBelow-shut c.args.list.now c.args.open_ones.now c.args.number c.requires.before none
