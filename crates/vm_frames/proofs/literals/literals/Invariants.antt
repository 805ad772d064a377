use Rattle.std.proofs.Common.{◌≡◌, map}
use Rattle.vm_frames.proofs.literals.literals.Given as goal

abbrev pub invariant-loop-text : goal.invariant-loop-text
invariant-loop-text l = l.texts.items ≡ map (λ t. t.now) l.yielded
