-- What comes of a text that was read.
use Rattle.std.proofs.Common.{◌≡◌, ℕ, List, Option, Some, ap, sym, ◌∙◌}
use Rattle.hog_value.specs.declared.cell.FunCell.{FunCell}
use Rattle.hog_value.specs.Values.{Val}
use Rattle.hog_value.specs.Meters.{Spent}
use Rattle.hog_value.specs.Cells.{HeapOf}
use Rattle.hog_value.specs.Operations as heap
use Rattle.hog_json.specs.Reading.{json_cells}
use Rattle.hog_library.specs.Given.{with_given}
use Rattle.hog_library.specs.Called.{Gives, of_outcome}

pub parse_gives : (o : Option (List ℕ)) (t copy : List ℕ) (h g : HeapOf FunCell) (m n : Spent) (v : Val) → o ≡ Some t → copy ≡ t → json_cells copy h m.units ≡ heap.Gives v g n.units
    → n ≡ record m { units = n.units } → of_outcome (with_given o (λ text. json_cells text h m.units)) m ≡ Gives v g n
parse_gives o t copy h g m n v is same read only =
    ap (λ x. of_outcome (with_given x (λ text. json_cells text h m.units)) m) is
    ∙ ap (λ text. of_outcome (json_cells text h m.units) m) (sym same)
    ∙ ap (λ x. of_outcome x m) read
    ∙ ap (λ x. Gives v g x) (sym only)
