use Rattle.std.proofs.Common.{◌≡◌, [], Some, sym, ◌∙◌, subst, arith}
use Rattle.std.specs.Prelude.{OnOk}
use Rattle.bytecode_check.specs.Shape.{Shapes, shape_at}
use Rattle.bytecode_check.specs.Noted.{all_seen, seen, Grows, give_one}
use Rattle.bytecode_check.specs.Verdict.{Told}
use Rattle.bytecode_check.proofs.Kept.{one_more, kept_or_more, gives_more}
use Rattle.bytecode_check.proofs.shapes.PlaceShapes.give.Goals.{in-Ok, in-Err}
use Rattle.bytecode_check.proofs.shapes.PlaceShapes.give.Goals as goal

pub invariant_of-self : goal.invariant_of-self
invariant_of-self c =
    let before = sym c.is_before.ensures ∙ c.if-not-is_before.false in
    let lt = c.if-at-place.true in
    let g = c.requires.grown in
    kept_or_more c.insert.result c.self.inside.map.entries c.insert.new.self.entries c.args.self.now c.args.place c.args.shape c.self.view_is c.self.invariant c.in-None.ensures.shape c.requires.known before (omega (arith, lt, g)) c.insert.ensures.entries c.insert.ensures.err

pub returns-after-insert-clause-told : goal.returns-after-insert-clause-told
returns-after-insert-clause-told c =
    let before = sym c.is_before.ensures ∙ c.if-not-is_before.false in
    let lt = c.if-at-place.true in
    let g = c.requires.grown in
    let S : Shapes = c.args.self.now in
    let V : Shapes = all_seen [] c.insert.new.self.entries in
    elim c.match-insert.branch [
      | in-Ok w ↦
          (let more = one_more c.self.inside.map.entries c.insert.new.self.entries S c.args.place c.args.shape c.self.view_is c.self.invariant c.in-None.ensures.shape c.requires.known before (omega (arith, lt, g)) w.in-Ok.ensures.entries in
          subst (λ r. Told r V (give_one c.args.at (c.args.place, seen S c.args.shape) S)) (sym w.result-is)
          (gives_more S V c.args.at c.args.place (seen S c.args.shape) c.in-None.ensures.shape before lt more.view))
      | in-Err w ↦ subst (λ r. Told r V (give_one c.args.at (c.args.place, seen S c.args.shape) S)) (sym w.result-is) tt
    ]

pub returns-after-insert-clause-there : goal.returns-after-insert-clause-there
returns-after-insert-clause-there c =
    let before = sym c.is_before.ensures ∙ c.if-not-is_before.false in
    let lt = c.if-at-place.true in
    let g = c.requires.grown in
    let S : Shapes = c.args.self.now in
    let V : Shapes = all_seen [] c.insert.new.self.entries in
    elim c.match-insert.branch [
      | in-Ok w ↦
          (let more = one_more c.self.inside.map.entries c.insert.new.self.entries S c.args.place c.args.shape c.self.view_is c.self.invariant c.in-None.ensures.shape c.requires.known before (omega (arith, lt, g)) w.in-Ok.ensures.entries in
          subst (λ r. OnOk r (shape_at V c.args.place ≡ Some (seen S c.args.shape))) (sym w.result-is) more.there)
      | in-Err w ↦ subst (λ r. OnOk r (shape_at V c.args.place ≡ Some (seen S c.args.shape))) (sym w.result-is) tt
    ]

pub returns-after-insert-clause-grows : goal.returns-after-insert-clause-grows
returns-after-insert-clause-grows c =
    let before = sym c.is_before.ensures ∙ c.if-not-is_before.false in
    let lt = c.if-at-place.true in
    let g = c.requires.grown in
    let S : Shapes = c.args.self.now in
    let V : Shapes = all_seen [] c.insert.new.self.entries in
    elim c.match-insert.branch [
      | in-Ok w ↦
          (let more = one_more c.self.inside.map.entries c.insert.new.self.entries S c.args.place c.args.shape c.self.view_is c.self.invariant c.in-None.ensures.shape c.requires.known before (omega (arith, lt, g)) w.in-Ok.ensures.entries in
          subst (λ r. OnOk r (Grows S V)) (sym w.result-is) more.grows)
      | in-Err w ↦ subst (λ r. OnOk r (Grows S V)) (sym w.result-is) tt
    ]
