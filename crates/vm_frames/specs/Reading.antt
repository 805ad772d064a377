-- A code as the machine reads it.
use Rattle.std.specs.Prelude.{◌≡◌, ℕ, ◌+◌, ◌<◌, ◌^◌, List, [], length, map, fold, Option, Some, None, slice_get, option_and_then, refl}
use Rattle.std.specs.BTreeSet.{insert_key}
use Rattle.std.specs.Cmp.Lexicographic.{slice_cmp}
use Rattle.std.specs.Ordering.{nat_cmp}
use Rattle.std.specs.Coded.{Coded, code_by, coded_ℕ, coded_list, coded_option, coded×}
use Rattle.hog_ops.specs.Plain.{Op, Ops, NoOp, MoreOp, Str}
use Rattle.hog_ops.specs.Stored.{coded_ops}
use Rattle.hog_ops.specs.Table.{Row, Alone, Counts, Leads, Calls, Spells, Gives, Holds, size}
use Rattle.hog_meaning.specs.Meaning.{place_in}
use Rattle.vm_course.specs.State.{Slot, Begins, BodyEnds, Operand, code_slots}
use Rattle.vm_course.specs.Step.{place_at}
use Rattle.vm_course.specs.Course.{literals_of_code}
use Rattle.vm_course.specs.Fits.{OpFits}
use Rattle.vm_frames.specs.declared.extents.Extent.{Extent}

-- what stands at each place, and the texts of its STRING operations
pub record Reading : Type 0 where
  pub slots : List Slot
  pub literals : List (List ℕ)

abbrev pub reading_of : Ops → Reading
reading_of code = record { slots = code_slots code; literals = literals_of_code code }

-- no operation begins there
abbrev pub BeginsNone : Option Slot → Type 0
BeginsNone None = Unit {0}
BeginsNone (Some (Begins op)) = ⊥
BeginsNone (Some BodyEnds) = Unit {0}
BeginsNone (Some Operand) = Unit {0}

-- the place to which a row leads is one of 32 bits
abbrev pub LeadsNear : ℕ → Row → Type 0
LeadsNear behind (Alone n) = Unit {0}
LeadsNear behind (Counts n least count) = Unit {0}
LeadsNear behind (Leads n d) = place_at behind d < 2 ^ 32
LeadsNear behind (Calls f n) = Unit {0}
LeadsNear behind (Spells t) = Unit {0}
LeadsNear behind (Gives z) = Unit {0}
LeadsNear behind (Holds name params body captures) = Unit {0}

-- ---- literals

-- the text of a STRING operation
abbrev pub spelled : Op → Option (List ℕ)
spelled (Str t) = Some t
spelled o = None

abbrev pub text_in : Slot → Option (List ℕ)
text_in (Begins o) = spelled o
text_in BodyEnds = None
text_in Operand = None

-- the distinct texts in byte order
abbrev pub distinct : List (List ℕ) → List (List ℕ)
distinct texts = fold (insert_key (slice_cmp nat_cmp)) [] texts

-- the number of a text among the literals, 0 where there is no text
abbrev pub number_of : List (List ℕ) → Option (List ℕ) → ℕ
number_of literals None = 0
number_of literals (Some t) = place_in literals t

-- how many elements the operation has that begins there, 0 where none begins
abbrev pub size_in : Slot → ℕ
size_in (Begins o) = size o
size_in BodyEnds = 0
size_in Operand = 0

-- how many elements what stands there has, and the number of its literal
abbrev pub extent_of : List (List ℕ) → Slot → Extent
extent_of literals slot = record { size = size_in slot; literal = number_of literals (text_in slot) }

abbrev pub extents_of : List (List ℕ) → List Slot → List Extent
extents_of literals slots = map (extent_of literals) slots

-- each text is one of the literals
abbrev pub AllKnown : List (List ℕ) → List Slot → Type 0
AllKnown literals slots = (place : ℕ) (t : List ℕ) → option_and_then text_in (slice_get slots place) ≡ Some t → place_in literals t < length literals

-- What a table keeps: there are fewer than 2^32 places, each operation fits, its size is noted, and each text has its number among
-- the literals.
pub record IsTable (r : Reading) (extents : List Extent) : Type 0 where
  pub few : length r.slots < 2 ^ 32
  pub fits : (place : ℕ) (op : Op) → slice_get r.slots place ≡ Some (Begins op) → OpFits r.slots (place + size op) op
  pub noted : extents ≡ extents_of r.literals r.slots
  pub known : AllKnown r.literals r.slots

-- ---- a reading is stored as the operations that begin, and the literals

abbrev slot_code : Slot → Option Ops
slot_code (Begins o) = Some (MoreOp o NoOp)
slot_code BodyEnds = Some NoOp
slot_code Operand = None

abbrev code_slot : Option Ops → Slot
code_slot None = Operand
code_slot (Some NoOp) = BodyEnds
code_slot (Some (MoreOp o os)) = Begins o

pub slot_back : (s : Slot) → code_slot (slot_code s) ≡ s
slot_back (Begins o) = refl
slot_back BodyEnds = refl
slot_back Operand = refl

abbrev coded_slot : Coded Slot
coded_slot = code_by (Option Ops) (coded_option coded_ops) slot_code code_slot slot_back

abbrev pub coded_reading : Coded Reading
coded_reading =
    code_by (List Slot × List (List ℕ)) (coded× (coded_list coded_slot) (coded_list (coded_list coded_ℕ)))
    (λ r. (r.slots, r.literals)) (λ p. record { slots = p.0; literals = p.1 }) (λ _. refl)
