use Rattle.std.proofs.Common.{Some, sym, ap, ◌∙◌, subst}
use Rattle.bytecode_check.specs.Shape.{before_catches, Shapes}
use Rattle.bytecode_check.specs.Noted.{tries_in, IsKnown, AllKept}
use Rattle.bytecode_check.proofs.Kept.{before_one}
use Rattle.bytecode_check.proofs.shapes.PlaceShapes.is_before.Goals as goal

pub returns-in-Some : goal.returns-in-Some
returns-in-Some c =
    let S : Shapes = c.args.self.now in
    let kept : AllKept S S = subst (λ X. AllKept X X) c.self.view_is c.self.invariant.kept in
    let known : IsKnown S (Some c.in-Some.catch) = subst (IsKnown S) c.in-Some.is c.requires in
    before_one S c.args.place c.in-Some.catch kept known ∙ ap (λ w. before_catches c.args.place (tries_in S w)) (sym c.in-Some.is)
