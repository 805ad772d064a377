-- Setting, from what the heap's own calls say.
use Rattle.std.proofs.Common.{◌≡◌, ℕ, List, [], length, refl, sym, subst, ap}
use Rattle.std.specs.Prelude.{Result, Ok, Err, OnOk, OnErr, ◌↔◌}
use Rattle.hog_value.specs.declared.cell.FunCell.{FunCell}
use Rattle.hog_value.specs.declared.value.Kind.{Kind}
use Rattle.hog_value.specs.declared.value.SetStop.{SetStop}
use Rattle.hog_value.specs.declared.value.SetStop.TheVariants as stop
use Rattle.hog_value.specs.declared.value.Stop.{Stop}
use Rattle.hog_value.specs.Values.{Val}
use Rattle.hog_value.specs.Meters.{Spent}
use Rattle.hog_value.specs.Cells.{HeapOf, IsCovered}
use Rattle.hog_value.specs.Operations.{Outcome, Gives, Throws, Spends}
use Rattle.hog_json.specs.Reading.{outcome_and_then, read_cells, kept_value}
use Rattle.hog_library.specs.Cells.{texts_made}
use Rattle.hog_library.specs.Products.{Makes}
use Rattle.hog_meaning.specs.Program.{first_cells}
use Rattle.hog_operators.specs.Settles.{Sets}

abbrev OnlyUnits : Spent → Spent → Type 0
OnlyUnits meter now = now ≡ record meter { units = now.units }

only_units : (r : Result (Unit {0}) SetStop) (m n : Spent) → OnOk r (OnlyUnits m n) → OnErr r (n ≡ m) → OnlyUnits m n
only_units (Ok u) m n ok err = ok
only_units (Err e) m n ok err = subst (OnlyUnits m) (sym err) refl

pub sets : (o : Outcome FunCell (Unit {0})) (r : Result (Unit {0}) SetStop) (h g : HeapOf FunCell) (m n : Spent) → OnOk r (o ≡ Gives tt g n.units) → OnOk r (n ≡ record m { units = n.units })
    → ((kind : Kind) → (r ≡ Err (stop.Thrown kind)) ↔ (o ≡ Throws kind)) → ((r ≡ Err stop.UnitsSpent) ↔ (o ≡ Spends)) → OnErr r (g ≡ h) → OnErr r (n ≡ m)
    → length g ≡ length h → IsCovered g n.units → Sets o r h g m n
sets o r h g m n ok only thrown spent err err_meter count covered = record {
  ok = ok;
  turns_and_depth = only_units r m n only err_meter;
  thrown = λ kind. (thrown kind).0;
  spent = spent.0;
  err = err;
  err_meter = err_meter;
  count = count;
  covered = covered;
}

-- the first cells, on a heap without cells
pub makes_first : (texts : List (List ℕ)) (globals : List ℕ) (r : Result Val Stop) (h g : HeapOf FunCell) (m n : Spent) → h ≡ [] → m.units ≡ 0
    → Makes (outcome_and_then (texts_made texts h m.units) (λ vs. read_cells (kept_value globals))) r h g m n → Makes (first_cells texts globals) r [] g m n
unfolding first_cells
makes_first texts globals r h g m n empty unspent made =
    let first : HeapOf FunCell → ℕ → Outcome FunCell Val = λ x units. outcome_and_then (texts_made texts x units) (λ vs. read_cells (kept_value globals)) in
    subst (λ x. Makes (first x 0) r x g m n) empty (subst (λ units. Makes (first h units) r h g m n) unspent made)
