use Rattle.std.proofs.Common.{◌≡◌, List, Some, ap, sym, ◌∙◌}
use Rattle.vm_frames.specs.declared.upvalues.Upvalue.{Upvalue}
use Rattle.vm_frames.specs.Order.{open_at}
use Rattle.vm_frames.proofs.Found.{below-first}
use Rattle.vm_frames.proofs.listed.Listed.highest.Goals as goal

pub returns-then-place-height-clause-none : goal.returns-then-place-height-clause-none
returns-then-place-height-clause-none c =
    let here : open_at c.args.self.now.list.items c.in_ok-number.number ≡ Some c.in_ok-place.place = ap (λ (us : List Upvalue). open_at us c.in_ok-number.number) (sym c.as_slice.ensures.value) ∙ sym c.in_ok-place.ensures in
    below-first c.args.self.now.list.items c.args.self.now.open_ones c.requires c.args.height c.in_ok-number.number c.in_ok-place.place (sym c.in_ok-number.ensures) here c.if-place-height.true
