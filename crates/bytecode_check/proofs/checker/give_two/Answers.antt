use Rattle.bytecode_check.proofs.Telling.{tells_two}
use Rattle.bytecode_check.proofs.checker.give_two.Goals as goal

pub returns : goal.returns
returns c =
    tells_two c.give-2.result c.args.at c.args.one c.args.two c.args.shape c.args.shapes.now c.give.new.self c.give-2.new.self c.requires.known c.in_ok-give.ensures.grows
    c.in_ok-give.ensures.told c.give-2.ensures.told
