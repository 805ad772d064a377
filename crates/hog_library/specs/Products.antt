-- What the natives find out before they change the heap, against their definitions.
use Rattle.std.specs.Prelude.{◌≡◌, ℕ, List, length, Result, Ok, Err, IfOk, OnErr}
use Rattle.hog_value.specs.declared.cell.Cell.TheVariants as cell
use Rattle.hog_value.specs.declared.cell.FunCell.{FunCell}
use Rattle.hog_value.specs.declared.value.Stop.{Stop}
use Rattle.hog_value.specs.declared.value.Stop.TheVariants as stop
use Rattle.hog_value.specs.Values.{Val, NamesBelow}
use Rattle.hog_value.specs.Meters.{Spent}
use Rattle.hog_value.specs.Cells.{HeapOf, CellNamesBelow, IsCovered}
use Rattle.hog_value.specs.Views.{cell_of}
use Rattle.hog_value.specs.Operations.{Outcome, Gives, Throws, Spends, made}
use Rattle.hog_library.specs.declared.stop.NativeStop.{NativeStop}
use Rattle.hog_library.specs.declared.stop.NativeStop.TheVariants.{Thrown, UnitsSpent, OutOfMemory}
use Rattle.hog_library.specs.declared.product.Product.{Product}
use Rattle.hog_library.specs.declared.product.Product.TheVariants as product
use Rattle.hog_json.specs.Reading.{Grows}
use Rattle.hog_library.specs.Cells.{array_of_texts}

-- why an operation on the heap stopped, as why the native does
abbrev pub native_stop : Stop → NativeStop
native_stop stop.UnitsSpent = UnitsSpent
native_stop stop.OutOfMemory = OutOfMemory

-- what making a product gives
abbrev pub product_made : Product → HeapOf FunCell → ℕ → Outcome FunCell Val
product_made (product.Value v) h units = Gives v h units
product_made (product.Cell c) h units = made (cell_of c) h units
product_made (product.Texts ts) h units = array_of_texts ts.items h units

-- the values in a product name none but the first n cells
abbrev pub ProductNames : ℕ → Product → Type 0
ProductNames n (product.Value v) = NamesBelow n v
ProductNames n (product.Cell c) = CellNamesBelow n (cell_of c)
ProductNames n (product.Texts ts) = Unit {0}

-- why a native stops is what its definition says; want of memory may come at any time
abbrev pub Stops : Outcome FunCell Val → NativeStop → Type 0
Stops outcome (Thrown kind) = outcome ≡ Throws kind
Stops outcome UnitsSpent = outcome ≡ Spends
Stops outcome OutOfMemory = Unit {0}

-- what a native found out on a heap is what its definition says
abbrev pub Finds : Outcome FunCell Val → Result Product NativeStop → HeapOf FunCell → ℕ → Type 0
Finds outcome (Ok p) h units = (outcome ≡ product_made p h units) × ProductNames (length h) p
Finds outcome (Err e) h units = Stops outcome e

-- A call that makes cells gives what its definition says. The cells that were there stay, and new ones go behind them.
-- Where it stops, some may have been made.
pub record Tries (outcome : Outcome FunCell Val) (result : Result Val Stop) (before after : HeapOf FunCell) (meter now : Spent) : Type 0 where
  pub ok : IfOk result (λ v. outcome ≡ Gives v after now.units)
  pub turns_and_depth : now ≡ record meter { units = now.units }
  pub names : IfOk result (NamesBelow (length after))
  pub spent : result ≡ Err stop.UnitsSpent → outcome ≡ Spends
  pub grows : Grows before after
  pub covered : IsCovered after now.units

-- the same of one that changes nothing where it stops
pub record Makes (outcome : Outcome FunCell Val) (result : Result Val Stop) (before after : HeapOf FunCell) (meter now : Spent) : Type 0 where
  pub ok : IfOk result (λ v. outcome ≡ Gives v after now.units)
  pub turns_and_depth : now ≡ record meter { units = now.units }
  pub names : IfOk result (NamesBelow (length after))
  pub spent : result ≡ Err stop.UnitsSpent → outcome ≡ Spends
  pub err : OnErr result (after ≡ before)
  pub err_meter : OnErr result (now ≡ meter)
  pub grows : Grows before after
  pub covered : IsCovered after now.units

-- a text that was built, as a new cell
abbrev pub text_found : Result (List ℕ) Stop → Result Product NativeStop
text_found (Ok t) = Ok (product.Cell (cell.Text t))
text_found (Err e) = Err (native_stop e)
