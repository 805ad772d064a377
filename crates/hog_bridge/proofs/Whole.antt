-- The laws on the course of a program's code, from the rules of names alone.
use Rattle.std.proofs.Common.{ap, ◌∙◌}
use Rattle.hog_meaning.specs.Program.{texts_by}
use Rattle.hog_bridge.specs.Laws.{CourseIsMeaning, CourseIsBounded, CourseRests, LiteralsAreSame}
use Rattle.hog_bridge.proofs.Scopes.{scoped}
use Rattle.hog_bridge.proofs.Literals.{same_literals}
use Rattle.hog_bridge.proofs.Runs.{on_meaning, bounded, comes_to_rest}

pub is_meaning : CourseIsMeaning
is_meaning program n globals replies =
    on_meaning program (scoped program n.items n.resolved).ok (same_literals program n.items n.resolved) replies globals

pub is_bounded : CourseIsBounded
is_bounded program n globals replies k =
    bounded program (scoped program n.items n.resolved).ok (same_literals program n.items n.resolved) replies globals k

pub rests : CourseRests
rests program n globals replies =
    comes_to_rest program (scoped program n.items n.resolved).ok (same_literals program n.items n.resolved) replies globals

pub literals : LiteralsAreSame
literals program n = same_literals program n.items n.resolved ∙ ap (texts_by program) n.resolved
