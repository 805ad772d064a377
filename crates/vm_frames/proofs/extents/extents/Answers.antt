use Rattle.std.proofs.Common.{◌∷◌, [], ◌++◌, ap, ◌∙◌, arith}
use Rattle.std.specs.Prelude.{option_and_then}
use Rattle.std.proofs.lemmas.List.{length-map}
use Rattle.vm_frames.specs.Places.{shown}
use Rattle.vm_frames.specs.Reading.{text_in}
use Rattle.vm_frames.proofs.Numbered.{slot_there, extents_more}
use Rattle.vm_frames.proofs.extents.extents.Goals as goal

pub extent_of-requires-clause-known : goal.extent_of-requires-clause-known
extent_of-requires-clause-known c = λ t e.
    let here = ap (option_and_then text_in) (slot_there c.args.slots.now c.loop-slot.slot-index c.slot-item.result c.loop-slot-test.true c.slot-item.is) ∙ e in
    omega (arith, c.requires.known c.loop-slot.slot-index t here, length-map c.args.literals.now (λ t. t.now))

pub loop-slot-preserved : goal.loop-slot-preserved
loop-slot-preserved c =
    c.in_ok-push.ensures.items ∙ ap (λ n. c.loop-slot.extents.items ++ n ∷ []) c.extent_of.ensures
    ∙ extents_more c.args.slots.now c.loop-slot.slot-index c.slot-item.result c.loop-slot-test.true c.slot-item.is (shown c.args.literals.now) c.loop-slot.extents.items c.loop-slot.invariant
