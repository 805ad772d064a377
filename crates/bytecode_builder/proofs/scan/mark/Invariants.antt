use Rattle.std.proofs.Common.{◌≡◌, [], ◌∷◌, ◌++◌, replicate}
use Rattle.bytecode_builder.proofs.scan.mark.Given as goal

abbrev pub invariant-loop-i : goal.invariant-loop-i
invariant-loop-i l = l.marks.items ≡ (l.fn.marks.items ++ l.mark ∷ []) ++ replicate l._i 0
