-- The inputs that jobs may begin with.
use Rattle.std.specs.Prelude.{◌≡◌, ◌↔◌, ℕ, ◌≤◌, List, length, true, Some}
use Rattle.serde_json.specs.Data.{Members, object}
use Rattle.serde_json.specs.Read.{read}
use Rattle.hog_json.specs.Nulled.{count_nulled, nulled}
use Rattle.hog_ops.specs.Plain.{Ops}
use Rattle.vm_state.specs.Laws.{AreGlobals}
use Rattle.hogvm.specs.Calls.{is_globals}
use Rattle.hog_program.specs.Program.{HasCode}
use Rattle.cyclotron_jobs.specs.declared.input.JobInput.{JobInput}

-- the most bytes of the text of globals
abbrev pub most_globals : ℕ
most_globals = 65600

-- The text is JSON, that of an object whose numbers are whole numbers of 64 bits, and it is not too long.
pub record IsGlobals (text : List ℕ) : Type 0 where
  pub members : Members
  pub reads : read text ≡ Some (object members)
  pub whole : count_nulled (object members) ≡ 0
  pub short : length text ≤ most_globals

-- The text under which an object is kept is such a text, where it is not too long.
abbrev pub KeptGlobals : Type 0
KeptGlobals = (members : Members) (text : List ℕ) → read text ≡ Some (nulled (object members)) → length text ≤ most_globals → IsGlobals text

-- Such a text is one of an object.
abbrev pub GlobalsAreObjects : Type 0
GlobalsAreObjects = (text : List ℕ) → IsGlobals text → AreGlobals text

-- These are the texts on which a machine starts, where they are not too long.
abbrev pub MachinesStart : Type 0
MachinesStart = (text : List ℕ) → IsGlobals text ↔ ((is_globals text ≡ true) × (length text ≤ most_globals))

-- The source is built, and the globals are right.
pub record IsInput (input : JobInput) : Type 0 where
  pub code : Ops
  pub source : HasCode input.source code
  pub globals : IsGlobals input.globals
