-- Upvalues with their list, and room for more.
use Rattle.std.specs.Prelude.{ℕ, ◌+◌, ◌<◌, ◌≤◌, ◌^◌, List, length, map, vec_capacity}
use Rattle.vm_course.specs.State.{Upvalue}
use Rattle.vm_frames.specs.declared.listed.Listed.{Listed}
use Rattle.vm_frames.specs.OpenList.{IsOpenList}
use Rattle.vm_frames.specs.Views.{upvalue_of}

-- the upvalues
abbrev pub seen : Listed → List Upvalue
seen l = map upvalue_of l.list.items

abbrev pub IsKept : Listed → Type 0
IsKept l = IsOpenList l.list.items l.open_ones

-- there is room for n more, and numbers for them
pub record IsRoomy (n : ℕ) (l : Listed) : Type 0 where
  pub kept : IsKept l
  pub numbers : length l.list.items + n < 2 ^ 32
  pub nodes : length l.list.items + n ≤ l.open_ones.reserved
  pub items : length l.list.items + n ≤ vec_capacity l.list
