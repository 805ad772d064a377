-- What contracts see of JSON values, and of what stands at the front.
use Rattle.std.specs.Prelude.{◌≡◌, ◌≤◌, ℕ, ◌+◌, pos, List, [], ◌∷◌, length, drop, map, Some, Result, Ok, Err}
use Rattle.std.specs.Borrow.{Bor}
use Rattle.serde_json.specs.Data.{Data}
use Rattle.serde_json.specs.Find.{as_str}
use Rattle.serde_json.specs.View.{view}
use Rattle.serde_json.specs.declared.value.Value.{Value}
use Rattle.hog_ops.specs.declared.capture.Capture.{Capture}
use Rattle.hog_ops.specs.declared.operation.CallableOp.{CallableOp}
use Rattle.hog_ops.specs.Elements.{Elem, Whole, Text}
use Rattle.hog_ops.specs.Plain.{Str}
use Rattle.hog_ops.specs.Table.{span}
use Rattle.hog_ops.specs.View.{op_of}
use Rattle.bytecode_front.specs.declared.stop.CodeStop.{CodeStop}
use Rattle.bytecode_front.specs.declared.front.Front.{Front as Shape}
use Rattle.bytecode_front.specs.declared.front.Front.TheVariants as r
use Rattle.bytecode_front.specs.Front.{Front, Faulty, Found, Opens, first_by, small_in, captures_in}

abbrev pub views : List Value → List Data
views vs = map view vs

-- A function says what stands at the front, texts and captures aside.
abbrev pub Shows : Shape → Front → Type 0
Shows (r.Faulty w) f = f ≡ Faulty w
Shows (r.Found o) f = f ≡ Found (op_of o)
Shows r.Text f = (s : List ℕ) × (f ≡ Found (Str s))
Shows (r.Opens captures len) f = (name : List ℕ) × (params : ℕ) × (cs : List Capture) × (f ≡ Opens name params cs len) × (length cs ≡ captures)

-- Name, parameters and captures of a CALLABLE that stands at the front with so many captures and a body of this length.
pub record CallableAt (ds : List Data) (n len : ℕ) (name : List ℕ) (params : ℕ) (cs : List Capture) : Type 0 where
  pub fits : 7 + len ≤ length ds
  pub name_at : first_by as_str (drop 1 ds) ≡ Some name
  pub params_at : first_by small_in (drop 2 ds) ≡ Some params
  pub captures_at : captures_in n (drop (7 + len) ds) ≡ Some cs

abbrev pub HasCallable : List Data → ℕ → ℕ → Type 0
HasCallable ds n len = (name : List ℕ) × (params : ℕ) × (cs : List Capture) × CallableAt ds n len name params cs
