-- What contracts see of the places of a code.
use Rattle.std.specs.Prelude.{ℕ, List, map}
use Rattle.std.specs.Cmp.Lexicographic.{slice_cmp}
use Rattle.std.specs.List.Sorted.{IsStrictlySortedBy}
use Rattle.std.specs.Ordering.{nat_cmp}
use Rattle.hog_ops.specs.View.{op_of}
use Rattle.vm_course.specs.State as s
use Rattle.vm_frames.specs.declared.slots.Slot.{Slot}
use Rattle.vm_frames.specs.declared.slots.Slot.TheVariants.{Begins, BodyEnds, Operand}
use denote.Ref.{Bor}

abbrev pub slot_of : Slot → s.Slot
slot_of (Begins op) = s.Begins (op_of op.now)
slot_of BodyEnds = s.BodyEnds
slot_of Operand = s.Operand

abbrev pub slots_of : List Slot → List s.Slot
slots_of xs = map slot_of xs

-- what borrowed texts show
abbrev pub shown : List (Bor (List ℕ)) → List (List ℕ)
shown ts = map (λ t. t.now) ts

-- borrowed texts in byte order, no two of them the same
abbrev pub AreInOrder : List (Bor (List ℕ)) → Type 0
AreInOrder ts = IsStrictlySortedBy (λ a b. slice_cmp nat_cmp a.now b.now) ts
