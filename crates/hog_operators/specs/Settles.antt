-- Calls that change the heap against their definitions.
use Rattle.std.specs.Prelude.{◌≡◌, ℕ, length, Result, Ok, Err, IfOk, OnOk, OnErr}
use Rattle.hog_value.specs.declared.cell.FunCell.{FunCell}
use Rattle.hog_value.specs.declared.value.Kind.{Kind}
use Rattle.hog_value.specs.declared.value.SetStop.{SetStop}
use Rattle.hog_value.specs.declared.value.SetStop.TheVariants as stop
use Rattle.hog_value.specs.Values.{Val, NamesBelow}
use Rattle.hog_value.specs.Meters.{Spent}
use Rattle.hog_value.specs.Cells.{HeapOf, IsCovered}
use Rattle.hog_value.specs.Operations.{Outcome, Gives, Throws, Spends}
use Rattle.hog_json.specs.Reading.{Grows}

-- Setting gives what its definition says, and changes nothing where it stops. There are as many cells as before.
pub record Sets (outcome : Outcome FunCell (Unit {0})) (result : Result (Unit {0}) SetStop) (before after : HeapOf FunCell) (meter now : Spent) : Type 0 where
  pub ok : OnOk result (outcome ≡ Gives tt after now.units)
  pub turns_and_depth : now ≡ record meter { units = now.units }
  pub thrown : (kind : Kind) → result ≡ Err (stop.Thrown kind) → outcome ≡ Throws kind
  pub spent : result ≡ Err stop.UnitsSpent → outcome ≡ Spends
  pub err : OnErr result (after ≡ before)
  pub err_meter : OnErr result (now ≡ meter)
  pub count : length after ≡ length before
  pub covered : IsCovered after now.units

-- Making a value gives what its definition says, and changes nothing where it stops. New cells go behind those that were there.
pub record Builds (outcome : Outcome FunCell Val) (result : Result Val SetStop) (before after : HeapOf FunCell) (meter now : Spent) : Type 0 where
  pub ok : IfOk result (λ v. outcome ≡ Gives v after now.units)
  pub turns_and_depth : now ≡ record meter { units = now.units }
  pub names : IfOk result (NamesBelow (length after))
  pub thrown : (kind : Kind) → result ≡ Err (stop.Thrown kind) → outcome ≡ Throws kind
  pub spent : result ≡ Err stop.UnitsSpent → outcome ≡ Spends
  pub err : OnErr result (after ≡ before)
  pub err_meter : OnErr result (now ≡ meter)
  pub grows : Grows before after
  pub covered : IsCovered after now.units
