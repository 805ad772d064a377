use Rattle.std.proofs.Common.{◌≡◌, refl, ap, ◌∙◌, arith}
use Rattle.hog_tree.specs.Plain.{Then, Done}
use Rattle.hog_tree.specs.View.{stm_of, tree_of}
use Rattle.hog_program.proofs.Preludes.{is_there, is_first}
use Rattle.hog_program.proofs.prelude.first_statement.Goals as goal

pub remove-requires : goal.remove-requires
remove-requires c =
    let same : tree_of c.in-Ok.tree ≡ Then c.requires.0 Done = c.one_tree.ensures c.args.text.now _ _ c.in-Ok.ensures.program c.requires.1 in
    omega (arith, is_there c.in-Ok.tree.stmts.list.items c.requires.0 same, c.in-Ok.tree.stmts.list.ok.0)

pub unreachable-requires : goal.unreachable-requires
unreachable-requires c =
    c.program_or_none.ensures c.args.text.now _ c.in-Err.stop c.requires.1 (c.in-Err.ensures.refused c.in-Err.stop refl c.in_default.not-OutOfMemory)

pub returns-in-Ok : goal.returns-in-Ok
returns-in-Ok c s is =
    let same : tree_of c.in-Ok.tree ≡ Then s Done = c.one_tree.ensures c.args.text.now _ _ c.in-Ok.ensures.program is in
    ap stm_of c.remove.ensures.value ∙ is_first c.in-Ok.tree.stmts.list.items s c.remove.result same
