-- What each operation of a code keeps: its end is a place where the machine may stand, and so is the place to which it
-- leads, and its operands are those of the table.
use Rattle.std.specs.Prelude.{◌≡◌, ℕ, List, Bool, true}
use Rattle.hog_ops.specs.Plain.{Op}
use Rattle.hog_ops.specs.Table.{Row, Alone, Counts, Leads, Calls, Spells, Gives, Holds, row}
use Rattle.hog_ops.specs.Valid.{op_allowed}
use Rattle.vm_course.specs.State.{Slot}
use Rattle.vm_course.specs.Step.{place_at}
use Rattle.vm_course.specs.Belongs.{is_place}

-- the operation's distance, counted from its end, leads to a place
abbrev pub row_leads_to : List Slot → ℕ → Row → Bool
row_leads_to code behind (Alone n) = true
row_leads_to code behind (Counts n least count) = true
row_leads_to code behind (Leads n d) = is_place code (place_at behind d)
row_leads_to code behind (Calls f n) = true
row_leads_to code behind (Spells t) = true
row_leads_to code behind (Gives z) = true
row_leads_to code behind (Holds name params body captures) = true

pub record OpFits (code : List Slot) (behind : ℕ) (op : Op) : Type 0 where
  pub goes_on : is_place code behind ≡ true
  pub leads : row_leads_to code behind (row op) ≡ true
  pub allowed : op_allowed op ≡ true
