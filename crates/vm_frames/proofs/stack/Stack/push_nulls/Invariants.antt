use Rattle.std.proofs.Common.{◌≡◌, ◌++◌, ℕ, All}
use Rattle.std.specs.Prelude.{replicate}
use Rattle.hog_value.specs.Values.{NamesBelow}
use Rattle.hog_value.specs.declared.value.Value.TheVariants.{Null}
use Rattle.vm_frames.proofs.stack.Stack.push_nulls.Given as goal

abbrev pub invariant-loop : goal.invariant-loop
invariant-loop l = record {
  so_far : l.self ≡ replicate l.counter Null ++ l.fn.self;
  names : (m : ℕ) → All (NamesBelow m) l.fn.self → All (NamesBelow m) l.self;
}
