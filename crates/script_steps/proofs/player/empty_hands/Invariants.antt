use Rattle.std.proofs.Common.{◌≡◌, None, replicate}
use Rattle.script_steps.proofs.player.empty_hands.Given as goal

abbrev pub invariant-loop-i : goal.invariant-loop-i
invariant-loop-i l = l.hands.items ≡ replicate l._i None
