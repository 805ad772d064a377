-- The text of a code decodes as that code.
use Rattle.std.proofs.Common.{◌≡◌, ◌≤◌, ◌<◌, ◌*◌, ◌^◌, ℕ, pos, negsuc, List, [], ◌∷◌, ◌++◌, false, length, map, Some, None, Ok, Err, Result, refl, ap, ◌∙◌, arith}
use Rattle.std.specs.Prelude.{ℤ, codes}
use Rattle.std.specs.List.{AllByRecursion}
use Rattle.serde_json.specs.Data.{Data, null, boolean, number, string, array, object, unsigned}
use Rattle.serde_json.specs.Find.{as_array}
use Rattle.serde_json.specs.Read.{read}
use Rattle.serde_json.specs.View.{items_of}
use Rattle.hog_ops.specs.declared.capture.Capture.{Capture}
use Rattle.hog_ops.specs.Plain.{Op, Ops, Callable, NoOp, MoreOp}
use Rattle.hog_ops.specs.Table.{Row, Alone, Counts, Leads, Calls, Spells, Gives, Holds, row, row_number, number as number_of, span}
use Rattle.hog_ops.specs.Elements.{Elem, Whole, Text, Flag, operands, capture_elements, closure_elements, op_elements, elements}
use Rattle.hog_ops.specs.Ranges.{IsI64, CapturesFit, RowFits, OpFits, OpsFit}
use Rattle.hog_ops.specs.Valid.{lost, IsCode}
use Rattle.serde_json.specs.Written.{compact_text, has_float}
use Rattle.plain_json.proofs.Fine.{Fine, AllFine, ◌&◌, done, fine_list, no_float}
use Rattle.plain_json.proofs.Inverse.{reads_back}
use Rattle.bytecode_front.specs.declared.stop.CodeStop.{CodeStop}
use Rattle.bytecode_front.specs.Reading.{read_ops}
use Rattle.bytecode_front.specs.Elements.{elem_data}
use Rattle.bytecode_json.specs.Text.{code_data, code_text, max_room, behind_header, of_elements, items_list, of_array, of_read, decode_of, IsShort}
use Rattle.bytecode_builder.specs.Placed.{on_lost, placed}
use Rattle.bytecode_front.specs.declared.stop.CodeStop.TheVariants as stops
use Rattle.bytecode_json.proofs.Back.{datas, elements_back}
use Rattle.hog_ops.proofs.Lost.{lost_none}
use Rattle.bytecode_json.proofs.Sized.{length-items}

-- a whole number of 64 bits, a text or a truth value
abbrev ElemFits : Elem → Type 0
ElemFits (Whole z) = IsI64 z
ElemFits (Text t) = Unit {0}
ElemFits (Flag b) = Unit {0}

abbrev AllElems : List Elem → Type 0
AllElems es = AllByRecursion ElemFits es

all_append : (es fs : List Elem) → AllElems es → AllElems fs → AllElems (es ++ fs)
all_append [] fs h k = k
all_append (e ∷ es) fs h k = (h.0, all_append es fs h.1 k)

captures_all : (cs : List Capture) → CapturesFit cs → AllElems (capture_elements cs)
captures_all [] h = tt
captures_all (c ∷ cs) h = (tt, (omega (arith, h.0), captures_all cs h.1))

number_small : (o : Op) → number_of o < 2 ^ 63
number_small (Callable name params body captures) = omega arith
number_small o = omega arith

operands_all : (r : Row) → RowFits r → AllElems (operands r)
operands_all (Alone n) h = tt
operands_all (Counts n least count) h = (omega (arith, h), tt)
operands_all (Leads n d) h = (h, tt)
operands_all (Calls f n) h = (tt, (omega (arith, h), tt))
operands_all (Spells t) h = (tt, tt)
operands_all (Gives z) h = (h, tt)
operands_all (Holds name params body captures) h = tt

mutual
  op_all : (o : Op) → OpFits o → Rattle.hog_ops.specs.Table.size o < 2 ^ 32 → AllElems (op_elements o)
  op_all (Callable name params body captures) h short =
      let tail : AllElems (closure_elements captures) = (omega arith, (omega (arith, short), captures_all captures h.1)) in
      (omega arith, (tt, (omega (arith, h.0), (omega (arith, short), (omega (arith, short), all_append (elements body) (closure_elements captures) (elements_all body h.2 (omega (arith, short))) tail)))))
  op_all o h short = (number_small o, operands_all (row o) h)

  elements_all : (os : Ops) → OpsFit os → span os < 2 ^ 32 → AllElems (elements os)
  elements_all NoOp h short = tt
  elements_all (MoreOp o os) h short = all_append (op_elements o) (elements os) (op_all o h.0 (omega (arith, short))) (elements_all os h.1 (omega (arith, short)))

elem_fine : (e : Elem) → ElemFits e → Fine 0 (elem_data e)
elem_fine (Whole (pos n)) h = record { plain = omega (arith, h); shallow = omega arith }
elem_fine (Whole (negsuc n)) h = record { plain = h; shallow = omega arith }
elem_fine (Text t) h = record { plain = tt; shallow = omega arith }
elem_fine (Flag b) h = record { plain = tt; shallow = omega arith }

elements_fine : (es : List Elem) → AllElems es → AllFine 0 (datas es)
elements_fine [] h = done
elements_fine (e ∷ es) h = elem_fine e h.0 & elements_fine es h.1

code_fine : (ops : Ops) → OpsFit ops → span ops < 2 ^ 32 → Fine 1 (code_data ops)
code_fine ops h short = fine_list 0 (elem_fine (Text (codes "_H")) tt & (elem_fine (Whole (pos 1)) (omega arith) & elements_fine (elements ops) (elements_all ops h short)))

pub items_back : (ds : List Data) → items_list (items_of ds) ≡ ds
items_back [] = refl
items_back (d ∷ ds) = ap (λ xs. d ∷ xs) (items_back ds)

-- what was encoded is decoded
pub decode_back : (ops : Ops) → IsCode ops → OpsFit ops → decode_of (code_text ops) ≡ Ok ops
unfolding decode_of code_text
decode_back ops h fits =
    let f = code_fine ops fits h.short in
    ap of_read (reads_back (code_data ops) f.plain (omega (arith, f.shallow)))
    ∙ ap (λ ds. of_elements (behind_header (string (codes "_H") ∷ number (unsigned 1) ∷ ds))) (items_back (datas (elements ops)))
    ∙ ap (placed 2) (elements_back max_room 2 ops fits h.allowed h.short h.shallow) ∙ ap (on_lost ops) (lost_none 0 2 ops h.leads)

-- ---- what a text and its value give

pub decode_read : (text : List ℕ) (d : Data) → read text ≡ Some d → decode_of text ≡ of_array (as_array d)
unfolding decode_of
decode_read text d e = ap of_read e

pub decode_none : (text : List ℕ) → read text ≡ None → decode_of text ≡ Err stops.NotJson
unfolding decode_of
decode_none text e = ap of_read e

-- the array of a short text is short
pub short_array : (text : List ℕ) (d : Data) → length text ≤ 16777216 → read text ≡ Some d → IsShort (as_array d)
short_array text null le e = tt
short_array text (boolean b) le e = tt
short_array text (number n) le e = tt
short_array text (string s) le e = tt
short_array text (array ds) le e = omega (arith, length-items text ds e)
short_array text (object ms) le e = tt

-- what is written for the array of a code
pub code_spelled : (ops : Ops) (d : Data) (text : List ℕ) → OpsFit ops → span ops < 2 ^ 32 → d ≡ code_data ops → (has_float d ≡ false → text ≡ compact_text d) → text ≡ code_text ops
unfolding code_text
code_spelled ops d text fits short is h = h (ap has_float is ∙ no_float (code_data ops) (code_fine ops fits short).plain) ∙ ap compact_text is
