-- What is written is plain and shallow.
use Rattle.std.proofs.Common.{ℕ, ◌<◌, ◌^◌, pos, negsuc, List, Option, Some, None, IfSome, arith}
use Rattle.std.specs.Prelude.{codes}
use Rattle.serde_json.specs.Data.{string}
use Rattle.hog_value.specs.declared.cell.FunCell.{FunCell}
use Rattle.hog_value.specs.declared.trace.TraceItem.{TraceItem}
use Rattle.hog_value.specs.declared.trace.TraceItem.TheVariants.{Printed, Asked}
use Rattle.hog_value.specs.declared.trace.End.{End}
use Rattle.hog_value.specs.declared.trace.End.TheVariants.{Done, Threw, TurnsSpent, MemorySpent, TooDeep, TooManyFetches}
use Rattle.hog_value.specs.Values.{Val}
use Rattle.hog_value.specs.declared.value.Value.TheVariants.{Null, Bool as Truth, Int, Ref}
use Rattle.hog_value.specs.Cells.{CellOf, Text, Array, Dict, Fun}
use Rattle.plain_json.proofs.Fine.{Fine, ◌&◌, done, fine_list, fine_map, fine_more}
use Rattle.state_forms.specs.Shapes.{number_data, maybe_data}
use Rattle.state_forms.specs.Values.{value_data, pair_data, cell_data, ValueFits, PairFits, CellFits}
use Rattle.state_forms.specs.Shown.{item_data, end_data}

pub number_fine : (k n : ℕ) → n < 2 ^ 64 → Fine k (number_data n)
number_fine k n h = record { plain = h; shallow = omega arith }

pub small_fine : (k n : ℕ) → n < 2 ^ 32 → Fine k (number_data n)
small_fine k n h = number_fine k n (omega (arith, h))

pub word_fine : (k : ℕ) (s : List ℕ) → Fine k (string s)
word_fine k s = record { plain = tt; shallow = omega arith }

pub value_fine : (v : Val) → ValueFits v → Fine 1 (value_data v)
value_fine Null h = record { plain = tt; shallow = omega arith }
value_fine (Truth b) h = record { plain = tt; shallow = omega arith }
value_fine (Int (pos n)) h = record { plain = omega (arith, h); shallow = omega arith }
value_fine (Int (negsuc n)) h = record { plain = h; shallow = omega arith }
value_fine (Ref n) h = fine_list 0 (small_fine 0 n h & done)

pair_fine : (p : List ℕ × Val) → PairFits p → Fine 2 (pair_data p)
pair_fine p h = fine_list 1 (word_fine 1 p.0 & value_fine p.1 h & done)

pub cell_fine : (c : CellOf FunCell) → CellFits c → Fine 4 (cell_data c)
cell_fine (Text t) h = fine_list 3 (word_fine 3 (codes "t") & word_fine 3 t & done)
cell_fine (Array vs) h = fine_list 3 (word_fine 3 (codes "a") & fine_more 2 3 (omega arith) (fine_map 1 value_data ValueFits value_fine vs h) & done)
cell_fine (Dict ps) h = fine_list 3 (word_fine 3 (codes "d") & fine_map 2 pair_data PairFits pair_fine ps h.0 & done)
cell_fine (Fun f) h =
    fine_list 3 (
    word_fine 3 (codes "f") & small_fine 3 f.place h.0
    & fine_more 1 3 (omega arith) (fine_map 0 number_data (λ n. n < 2 ^ 32) (small_fine 0) f.captured h.1) & done
    )

pub maybe_fine : (k : ℕ) (o : Option ℕ) → IfSome o (λ n. n < 2 ^ 32) → Fine k (maybe_data number_data o)
maybe_fine k None h = record { plain = tt; shallow = omega arith }
maybe_fine k (Some n) h = small_fine k n h

pub item_fine : (i : TraceItem) → Unit {0} → Fine 1 (item_data i)
item_fine (Printed text) h = fine_list 0 (word_fine 0 (codes "p") & word_fine 0 text & done)
item_fine (Asked request) h = fine_list 0 (word_fine 0 (codes "r") & word_fine 0 request.url & word_fine 0 request.options & done)

pub end_fine : (e : End) → Fine 1 (end_data e)
end_fine (Done t) = fine_list 0 (word_fine 0 (codes "done") & word_fine 0 t & done)
end_fine (Threw t) = fine_list 0 (word_fine 0 (codes "threw") & word_fine 0 t & done)
end_fine TurnsSpent = word_fine 1 (codes "turns")
end_fine MemorySpent = word_fine 1 (codes "memory")
end_fine TooDeep = word_fine 1 (codes "deep")
end_fine TooManyFetches = word_fine 1 (codes "fetches")
