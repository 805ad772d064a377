use Rattle.std.proofs.Common.{◌≡◌, ◌≤◌, ◌-◌, ℕ, length, All}
use Rattle.hog_value.specs.Values.{NamesBelow}
use Rattle.vm_course.specs.Stack.{taken}
use Rattle.vm_frames.proofs.Taking.{behind}
use Rattle.vm_frames.proofs.stack.Stack.popped.Given as goal

abbrev pub invariant-loop : goal.invariant-loop
invariant-loop l = record {
  so_far : taken l.floor l.n l.self ≡ behind l.floor l.self (l.n - l.counter) l.rest l.values.items;
  count : length l.values.items ≡ l.counter;
  within : l.rest ≤ length l.self;
  names : (m : ℕ) → All (NamesBelow m) l.self → All (NamesBelow m) l.values.items;
}
