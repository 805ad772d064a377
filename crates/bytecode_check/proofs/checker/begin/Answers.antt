use Rattle.std.proofs.Common.{sym, ◌∙◌}
use Rattle.bytecode_check.proofs.Telling.{tells_begun}
use Rattle.bytecode_check.proofs.checker.begin.Goals as goal

pub returns : goal.returns
returns c =
    tells_begun c.give.result c.args.at c.args.start c.args.params c.args.body.now c.args.shapes.now c.give.new.self c.ops.result.now c.ops.ensures.value
    (sym c.is_empty.ensures ∙ c.if-is_empty.false) c.give.ensures.told
