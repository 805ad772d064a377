-- The list of the open upvalues.
use Rattle.std.specs.Prelude.{ℕ, ◌≡◌, ◌<◌, ◌^◌, List, length, Some, IsSome}
use Rattle.index_lists.specs.Lists.{ListsOf, nodes_of}
use Rattle.index_lists.specs.Order.{IsListOf}
use Rattle.vm_frames.specs.declared.upvalues.Upvalue.{Upvalue}
use Rattle.vm_frames.specs.Order.{open_at, by_place}

-- there is one list, and just the open upvalues with numbers below n stand in it, that at the greatest place first
pub record IsOpenBelow (n : ℕ) (list : List Upvalue) (lists : ListsOf) : Type 0 where
  pub count : length lists.lists ≡ 1
  pub open_list : IsListOf (by_place list) (λ k. IsSome (open_at list k) × (k < n)) (nodes_of lists 0)

-- there are fewer than 2^32 upvalues; just the open ones stand in the list, that at the greatest place first, and their
-- places differ
pub record IsOpenList (list : List Upvalue) (lists : ListsOf) : Type 0 where
  pub few : length list < 2 ^ 32
  pub count : length lists.lists ≡ 1
  pub open_list : IsListOf (by_place list) (λ k. IsSome (open_at list k)) (nodes_of lists 0)
  pub apart : (j k p : ℕ) → open_at list j ≡ Some p → open_at list k ≡ Some p → j ≡ k
