use Rattle.std.proofs.Common.{◌≡◌, sym, ap, ap₂, ◌∙◌}
use Rattle.vm_course.specs.State.{State}
use Rattle.vm_course.specs.Step.{act}
use Rattle.vm_operations.specs.Here.{here_of}
use Rattle.std.proofs.Common.{true, false, refl}
use Rattle.std.specs.Prelude.{pos, int_le}
use Rattle.hog_value.specs.declared.trace.End.TheVariants.{TurnsSpent}
use Rattle.vm_course.specs.Throws.{ends}
use Rattle.std.proofs.lemmas.Int.{to_z-of_z}
use Rattle.std.specs.Int.{w64}
use Rattle.vm_course.specs.Step.{jump}
use Rattle.vm_operations.proofs.JumpLemmas.{forward, back_spent, back}
use Rattle.vm_operations.proofs.state.State.jump.Goals as goal

pub returns-then-distance-ge0 : goal.returns-then-distance-ge0
unfolding act
returns-then-distance-ge0 c = λ fixed code.
    let s = c.args.self.now in
    let b = c.args.behind in
    let d = c.args.distance in
    let same = to_z-of_z w64 d c.ranges.distance in
    c.jump_by.ensures ∙ ap (λ z. jump (here_of b s) z s) same ∙ forward (here_of b s) s d (ap (int_le (pos 0)) (sym same) ∙ c.if-distance-ge0.true)

pub returns-then-not-spend_turn : goal.returns-then-not-spend_turn
unfolding act
returns-then-not-spend_turn c = λ fixed code.
    let s = c.args.self.now in
    let b = c.args.behind in
    let d = c.args.distance in
    let same = to_z-of_z w64 d c.ranges.distance in
    let e = c.if-not-spend_turn.ensures in
    c.end.ensures ∙ ap (ends TurnsSpent) e.unchanged ∙ back_spent (here_of b s) s d (ap (int_le (pos 0)) (sym same) ∙ c.if-distance-ge0.false) (λ left. let no_turn : false ≡ true = e.left.1 left in absurd cc)

pub returns : goal.returns
unfolding act
returns c = λ fixed code.
    let s = c.args.self.now in
    let b = c.args.behind in
    let d = c.args.distance in
    let same = to_z-of_z w64 d c.ranges.distance in
    let e = c.if-not-spend_turn.ensures in
    c.jump_by-2.ensures ∙ ap₂ (λ (x : State) z. jump (here_of b x) z x) e.spent same ∙ back (here_of b s) s d (ap (int_le (pos 0)) (sym same) ∙ c.if-distance-ge0.false) (e.left.0 refl)
