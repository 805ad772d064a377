-- Which operations are a code: those that decoding accepts.
use Rattle.std.specs.Prelude.{◌≡◌, ℕ, suc, ◌+◌, ◌-◌, ◌^◌, ◌<◌, ◌≤◌, max, ◌==◌, ◌&&◌, ◌||◌, nat_le, ℤ, pos, negsuc, ◌+ℤ◌, Bool, true, false, Option, Some, None, if◌then◌else◌}
use Rattle.hog_value.specs.Natives.{takes_of}
use Rattle.hog_ops.specs.Plain.{Op, Ops, Callable, NoOp, MoreOp}
use Rattle.hog_ops.specs.Table.{Row, Alone, Counts, Leads, Calls, Spells, Gives, Holds, row, size, span}

-- an operand is one that the table allows
abbrev pub row_allowed : Row → Bool
row_allowed (Alone n) = true
row_allowed (Counts n least count) = nat_le least count
row_allowed (Leads n d) = true
row_allowed (Calls f n) = takes_of f n
row_allowed (Spells t) = true
row_allowed (Gives z) = true
row_allowed (Holds name params body captures) = true

abbrev mutual
  pub op_allowed : Op → Bool
  op_allowed (Callable name params body captures) = allowed body
  op_allowed o = row_allowed (row o)

  -- the operands of operations and of those in their bodies are allowed
  pub allowed : Ops → Bool
  allowed NoOp = true
  allowed (MoreOp o os) = op_allowed o && allowed os

abbrev mutual
  pub op_height : Op → ℕ
  op_height (Callable name params body captures) = suc (height body)
  op_height o = 0

  -- how many bodies stand in one another
  pub height : Ops → ℕ
  height NoOp = 0
  height (MoreOp o os) = max (op_height o) (height os)

-- at this place of a body an operation begins, or the body ends
abbrev pub is_place : Ops → ℕ → Bool
is_place NoOp n = n == 0
is_place (MoreOp o os) n = n == 0 || (nat_le (size o) n && is_place os (n - size o))

abbrev pub is_place_of : Ops → ℤ → Bool
is_place_of body (pos n) = is_place body n
is_place_of body (negsuc n) = false

-- JUMP alone may lead back
abbrev pub may_lead : ℕ → ℤ → Bool
may_lead n (pos d) = true
may_lead n (negsuc d) = n == 39

-- a distance counts from the end of its operation, and leads to a place of the same body
abbrev pub row_leads : Ops → ℕ → Row → Bool
row_leads body end (Alone n) = true
row_leads body end (Counts n least count) = true
row_leads body end (Leads n d) = may_lead n d && is_place_of body (pos end +ℤ d)
row_leads body end (Calls f n) = true
row_leads body end (Spells t) = true
row_leads body end (Gives z) = true
row_leads body end (Holds name params inner captures) = true

-- the first, where there is one, else the second
abbrev pub or_then : {A : Type 0} → Option A → Option A → Option A
or_then (Some x) o = Some x
or_then None o = o

abbrev mutual
  pub op_lost : ℕ → Ops → ℕ → Op → Option ℕ
  op_lost base body at (Callable name params inner captures) = lost_in (base + (at + 5)) inner 0 inner
  op_lost base body at o = if row_leads body (at + size o) (row o) then None else Some (base + at)

  -- The place of the first operation whose distance leads to no place of its body. The operations stand at a place of a body that begins at the base.
  pub lost_in : ℕ → Ops → ℕ → Ops → Option ℕ
  lost_in base body at NoOp = None
  lost_in base body at (MoreOp o os) = or_then (op_lost base body at o) (lost_in base body (at + size o) os)

-- the same of a whole body
abbrev pub lost : ℕ → Ops → Option ℕ
lost base body = lost_in base body 0 body

-- Operations that are a code.
pub record IsCode (ops : Ops) : Type 0 where
  -- a place is a u32
  pub short : span ops < 2 ^ 32
  pub allowed : allowed ops ≡ true
  pub leads : lost 0 ops ≡ None
  -- no walk over a code goes deeper
  pub shallow : height ops ≤ 1000
