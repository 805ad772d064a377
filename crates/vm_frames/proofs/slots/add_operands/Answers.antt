use Rattle.std.proofs.Common.{◌∷◌, [], ap, ◌∙◌, ◌++◌, replicate}
use Rattle.std.proofs.lemmas.List.{replicate_more}
use Rattle.vm_course.specs.State.{Operand}
use Rattle.vm_frames.specs.Places.{slots_of}
use Rattle.vm_frames.proofs.Elements.{slots_push, both_added}
use Rattle.vm_frames.proofs.slots.add_operands.Goals as goal

pub loop-i-preserved : goal.loop-i-preserved
loop-i-preserved c =
    both_added (slots_of c.args.places.now.items) (slots_of c.loop-i.places.items) (slots_of c.push.new.self.items) (replicate c.loop-i._i Operand) (Operand ∷ []) c.loop-i.invariant
    (slots_push c.loop-i.places.items c.push.new.self.items _ c.in_ok-push.ensures.items)
    ∙ ap (λ r. slots_of c.args.places.now.items ++ r) (replicate_more c.loop-i._i Operand)
