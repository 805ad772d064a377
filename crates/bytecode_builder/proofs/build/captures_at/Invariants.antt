use Rattle.std.proofs.Common.{◌≡◌, ◌-◌}
use Rattle.bytecode_front.specs.Front.{captures_in}
use Rattle.bytecode_front.specs.Views.{views}
use Rattle.bytecode_front.proofs.Captures.{prepend}
use Rattle.bytecode_builder.proofs.build.captures_at.Given as goal

abbrev pub invariant-loop-i : goal.invariant-loop-i
invariant-loop-i l = captures_in l.n (views l.items) ≡ prepend l.captures.items (captures_in (l.n - l.i) (views l.rest))
