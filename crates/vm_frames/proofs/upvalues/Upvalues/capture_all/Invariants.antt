use Rattle.std.proofs.Common.{◌≡◌, ◌+◌, ◌-◌, ◌≤◌, ℕ, All, drop, length}
use Rattle.std.specs.Prelude.{vec_len, vec_capacity}
use Rattle.vm_course.specs.State.{Frame}
use Rattle.vm_course.specs.Stack.{capture_all}
use Rattle.vm_frames.specs.Parts.{ClosedBelow}
use Rattle.vm_frames.specs.Room.{seen, IsRoomy}
use Rattle.vm_frames.proofs.Capturing.{numbers_behind}
use Rattle.vm_frames.proofs.upvalues.Upvalues.capture_all.Given as goal

abbrev pub invariant-loop-c : goal.invariant-loop-c
invariant-loop-c l = record {
  so_far : (f : Frame) → f.base ≡ l.base
      → capture_all l.height f l.captured l.captures l.fn.self ≡ numbers_behind l.height f l.captured (drop l.c-index l.captures) l.numbers.items (seen l.self-inside.listed);
  names : (n : ℕ) → All (ClosedBelow n) l.fn.self → All (ClosedBelow n) (seen l.self-inside.listed);
  room : IsRoomy (length l.captures - l.c-index) l.self-inside.listed;
  numbers : vec_len l.numbers + (length l.captures - l.c-index) ≤ vec_capacity l.numbers;
}
