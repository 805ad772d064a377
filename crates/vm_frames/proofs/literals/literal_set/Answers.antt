use Rattle.std.proofs.Common.{Some, sym, ap, ◌∙◌}
use Rattle.std.specs.Option.{option_copied}
use Rattle.vm_frames.specs.Places.{shown}
use Rattle.vm_frames.proofs.Texts.{collected_none, collected_some}
use Rattle.vm_frames.proofs.literals.literal_set.Goals as goal
use Rattle.vm_frames.proofs.literals.literal_set.Goals.{in-Some+in_ok-insert, in_default}

pub loop-slot-preserved : goal.loop-slot-preserved
loop-slot-preserved c =
    let xs = c.args.slots.now in
    let i = c.loop-slot.slot-index in
    let x = c.slot-item.result in
    elim c.match-text_in.branch [
      | in-Some+in_ok-insert w ↦
          ap (λ s. shown s.keys) w.texts-is ∙ ap shown w.in_ok-insert.ensures.keys
          ∙ collected_some xs i x c.loop-slot-test.true c.slot-item.is c.loop-slot.texts.keys c.loop-slot.invariant w.as_str.result
          (sym c.text_in.ensures ∙ ap option_copied w.in-Some.is ∙ ap Some (sym w.as_str.ensures))
      | in_default w ↦
          ap (λ s. shown s.keys) w.texts-is
          ∙ collected_none xs i x c.loop-slot-test.true c.slot-item.is c.loop-slot.texts.keys c.loop-slot.invariant (sym c.text_in.ensures ∙ ap option_copied w.in_default.is)
    ]
