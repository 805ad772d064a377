use Rattle.std.proofs.Common.{◌≡◌, ◌-◌}
use Rattle.std.specs.Prelude.{is_some}
use Rattle.bytecode_front.specs.Front.{captures_in}
use Rattle.bytecode_front.specs.Views.{views}
use Rattle.bytecode_front.proofs.front.captures_are_there.Given as goal

abbrev pub invariant-loop-i : goal.invariant-loop-i
invariant-loop-i l = is_some (captures_in (l.n - l.i) (views l.rest)) ≡ is_some (captures_in l.n (views l.items))
