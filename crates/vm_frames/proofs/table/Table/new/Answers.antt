use Rattle.std.proofs.Common.{length, arith, ap, ◌∙◌}
use Rattle.std.proofs.lemmas.List.{length-map}
use Rattle.vm_frames.specs.Places.{slots_of, shown}
use Rattle.vm_frames.specs.Reading.{distinct, text_in}
use Rattle.std.specs.List.{filter_map}
use Rattle.vm_frames.proofs.Built.{few_literals, known, keeps, is_reading}
use Rattle.vm_frames.proofs.table.Table.new.Goals as goal

pub extents-requires-clause-few : goal.extents-requires-clause-few
extents-requires-clause-few c =
    let lists = c.in_ok-literals.ensures.distinct ∙ ap (λ xs. distinct (filter_map text_in (slots_of xs))) c.deref.ensures.value in
    omega (arith, few_literals c.args.code.now (slots_of c.in_ok-slots.slots.items) (shown c.in_ok-literals.literals.items) c.codes_count.ensures (omega (arith, c.if-elements.false, c.elements.ensures)) c.in_ok-slots.ensures lists, length-map c.in_ok-literals.literals.items (λ t. t.now), ap length c.deref-3.ensures.value)

pub extents-requires-clause-known : goal.extents-requires-clause-known
extents-requires-clause-known c =
    let lists = c.in_ok-literals.ensures.distinct ∙ ap (λ xs. distinct (filter_map text_in (slots_of xs))) c.deref.ensures.value in
    rw (c.deref-2.ensures.value, c.deref-3.ensures.value) (known c.args.code.now (slots_of c.in_ok-slots.slots.items) (shown c.in_ok-literals.literals.items) c.codes_count.ensures (omega (arith, c.if-elements.false, c.elements.ensures)) c.in_ok-slots.ensures lists)

pub invariant_of-result : goal.invariant_of-result
invariant_of-result c =
    let lists = c.in_ok-literals.ensures.distinct ∙ ap (λ xs. distinct (filter_map text_in (slots_of xs))) c.deref.ensures.value in
    keeps c.args.code.now (slots_of c.in_ok-slots.slots.items) (shown c.in_ok-literals.literals.items) c.codes_count.ensures (omega (arith, c.if-elements.false, c.elements.ensures)) c.in_ok-slots.ensures lists c.in_ok-extents.extents.items c.codes_fit.ensures c.ops-ops.ensures.code
    (rw (← c.deref-2.ensures.value, ← c.deref-3.ensures.value) c.in_ok-extents.ensures)

pub returns : goal.returns
returns c =
    let lists = c.in_ok-literals.ensures.distinct ∙ ap (λ xs. distinct (filter_map text_in (slots_of xs))) c.deref.ensures.value in
    is_reading c.args.code.now (slots_of c.in_ok-slots.slots.items) (shown c.in_ok-literals.literals.items) c.codes_count.ensures (omega (arith, c.if-elements.false, c.elements.ensures)) c.in_ok-slots.ensures lists
