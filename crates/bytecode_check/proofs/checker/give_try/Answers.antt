use Rattle.std.proofs.Common.{◌+◌, arith}
use Rattle.bytecode_check.proofs.Telling.{tells_try}
use Rattle.bytecode_check.proofs.checker.give_try.Goals as goal

pub returns : goal.returns
returns c =
    tells_try c.give-2.result c.args.at c.args.behind c.args.catch (c.args.shape.depth + 1) c.args.shape c.args.shapes.now c.give.new.self c.give-2.new.self (omega arith) c.requires.known
    c.in_ok-give.ensures.grows c.in_ok-give.ensures.there c.in_ok-give.ensures.told c.give-2.ensures.told
