use Rattle.std.proofs.Common.{◌≡◌, ◌++◌, ℕ, All, take}
use Rattle.std.specs.Prelude.{reverse}
use Rattle.hog_value.specs.Values.{NamesBelow}
use Rattle.vm_frames.proofs.stack.Stack.push_all.Given as goal

abbrev pub invariant-loop-v : goal.invariant-loop-v
invariant-loop-v l = record {
  so_far : l.self ≡ reverse (take l.v-index l.values) ++ l.fn.self;
  names : (m : ℕ) → All (NamesBelow m) l.values → All (NamesBelow m) l.fn.self → All (NamesBelow m) l.self;
}
