use Rattle.std.proofs.Common.{None, replicate, ◌∙◌}
use Rattle.hog_captures.proofs.Places.{hidden_before}
use Rattle.hog_captures.proofs.frame.Frame.hide.Goals as goal

pub returns-in-Err-clause-unchanged : goal.returns-in-Err-clause-unchanged
returns-in-Err-clause-unchanged c =
    c.leave.ensures.back c.args.self.now (replicate c.loop.counter None)
    (c.in-Err.ensures.unchanged ∙ c.loop.invariant.hidden ∙ hidden_before c.loop.counter c.args.self.now)
    c.loop.invariant.base
