-- What was decoded spells as the array that was read.
use Rattle.std.proofs.Common.{◌≡◌, ℕ, zero, suc, pos, negsuc, List, [], ◌∷◌, ◌++◌, Option, Some, None, Bool, true, false, cond, map, refl, sym, ap, ap₂, ◌∙◌, Ok, Err, Result}
use Rattle.std.proofs.lemmas.Bool.{eqb-true}
use Rattle.std.proofs.lemmas.List.{map-id}
use Rattle.std.specs.Prelude.{ℤ, ◌==◌, codes}
use Rattle.std.specs.Cmp.Lexicographic.{bytes_decides}
use Rattle.std.specs.Str.{bytes_eq}
use Rattle.serde_json.specs.Data.{Data, null, boolean, number, string, array, object, unsigned, Items, no_items, item}
use Rattle.serde_json.specs.Find.{as_str, as_array}
use Rattle.serde_json.specs.Read.{read}
use Rattle.serde_json.specs.View.{items_of}
use Rattle.serde_json.specs.Written.{compact_text, items_text, comma_if}
use Rattle.hog_ops.specs.Plain.{Ops}
use Rattle.hog_ops.specs.Elements.{Elem, Whole, Text, elements}
use Rattle.hog_ops.specs.Valid.{lost}
use Rattle.bytecode_front.specs.declared.stop.CodeStop.{CodeStop}
use Rattle.bytecode_front.specs.declared.stop.CodeStop.TheVariants as stops
use Rattle.bytecode_front.specs.Front.{whole_in}
use Rattle.bytecode_front.specs.Reading.{read_ops}
use Rattle.bytecode_front.specs.Elements.{elem_data}
use Rattle.bytecode_json.specs.Text.{code_data, code_text, max_room, is_one, is_word, behind_version, behind_header, of_elements, items_list, of_array, of_read, decode_of}
use Rattle.bytecode_builder.specs.Placed.{on_lost, placed}
use Rattle.bytecode_front.proofs.Operands.{elem_text, texts, elem_texts, whole_text, str_text}
use Rattle.bytecode_front.proofs.Known.{is_read}

-- the text of an array's items behind its bracket, from their texts
abbrev joined : Bool → List (List ℕ) → List ℕ
joined later [] = 93 ∷ []
joined later (t ∷ ts) = comma_if later ++ (t ++ joined true ts)

items_joined : (later : Bool) (ds : List Data) → items_text later (items_of ds) ≡ joined later (texts ds)
items_joined later [] = refl
items_joined later (d ∷ ds) = ap (λ r. comma_if later ++ (compact_text d ++ r)) (items_joined true ds)

items_all : (ds : Items) → items_of (items_list ds) ≡ ds
items_all no_items = refl
items_all (item d ds) = ap (item d) (items_all ds)

elements_texts : (es : List Elem) → texts (map elem_data es) ≡ elem_texts es
elements_texts [] = refl
elements_texts (e ∷ es) = ap (λ r. elem_text e ∷ r) (elements_texts es)

placed_is : (at : ℕ) (r : Result Ops CodeStop) (ops : Ops) → placed at r ≡ Ok ops → (r ≡ Ok ops) × (lost at ops ≡ None)
placed_is at (Err e) ops h = absurd cc
placed_is at (Ok xs) ops h = by (lost at xs) refl h
  where
    by : (o : Option ℕ) → lost at xs ≡ o → on_lost xs o ≡ Ok ops → (◌≡◌ {A = Result Ops CodeStop} (Ok xs) (Ok ops)) × (lost at ops ≡ None)
    by None is k = let same : xs ≡ ops = cc in (ap Ok same, ap (lost at) (sym same) ∙ is)
    by (Some p) is k = absurd cc

is_one_is : (z : ℤ) → is_one z ≡ true → z ≡ pos 1
is_one_is (pos n) e = ap pos (eqb-true n 1 e)
is_one_is (negsuc n) e = absurd cc

is_word_is : (w : List ℕ) (o : Option (List ℕ)) → is_word w o ≡ true → o ≡ Some w
is_word_is w None e = absurd cc
is_word_is w (Some s) e = ap Some ((bytes_decides s w).0 e)

of_elements_is : (r : Result (List Data) CodeStop) (ops : Ops) → of_elements r ≡ Ok ops → (ds : List Data) × (r ≡ Ok ds) × (read_ops max_room 2 ds ≡ Ok ops)
of_elements_is (Ok ds) ops e = (ds, refl, (placed_is 2 (read_ops max_room 2 ds) ops e).0)
of_elements_is (Err f) ops e = absurd cc

version_is : (v : Option ℤ) (ds rest : List Data) → behind_version v ds ≡ Ok rest → (v ≡ Some (pos 1)) × (ds ≡ rest)
version_is None ds rest e = absurd cc
version_is (Some z) ds rest e = by (is_one z) refl e
  where
    by : (b : Bool) → is_one z ≡ b → cond b (Ok ds) (Err (stops.Version z)) ≡ Ok rest → (Some z ≡ Some (pos 1)) × (ds ≡ rest)
    by true is k = let same : ds ≡ rest = cc in (ap Some (is_one_is z is), same)
    by false is k = absurd cc

header_texts : (ds rest : List Data) → behind_header ds ≡ Ok rest → texts ds ≡ elem_text (Text (codes "_H")) ∷ elem_text (Whole (pos 1)) ∷ texts rest
header_texts [] rest e = absurd cc
header_texts (h ∷ []) rest e = absurd cc
header_texts (h ∷ v ∷ ds) rest e = by (is_word (codes "_H") (as_str h)) refl e
  where
    by : (b : Bool) → is_word (codes "_H") (as_str h) ≡ b → cond b (behind_version (whole_in v) ds) (Err stops.NoHeader) ≡ Ok rest
        → texts (h ∷ v ∷ ds) ≡ elem_text (Text (codes "_H")) ∷ elem_text (Whole (pos 1)) ∷ texts rest
    by true is k =
        let g = version_is (whole_in v) ds rest k in
        ap₂ (λ x y. x ∷ y ∷ texts ds) (str_text h (codes "_H") (is_word_is (codes "_H") (as_str h) is)) (whole_text v (pos 1) g.0)
        ∙ ap (λ xs. elem_text (Text (codes "_H")) ∷ elem_text (Whole (pos 1)) ∷ texts xs) g.1
    by false is k = absurd cc

elements_same : (ds : List Data) (ops : Ops) → of_elements (behind_header ds) ≡ Ok ops → texts ds ≡ elem_texts (Text (codes "_H") ∷ Whole (pos 1) ∷ elements ops)
elements_same ds ops e =
    let h = of_elements_is (behind_header ds) ops e in
    header_texts ds h.0 h.1 ∙ ap (λ xs. elem_text (Text (codes "_H")) ∷ elem_text (Whole (pos 1)) ∷ xs) (is_read max_room 2 h.0 ops h.2).texts

array_same : (d : Data) (ops : Ops) → of_array (as_array d) ≡ Ok ops → compact_text (code_data ops) ≡ compact_text d
array_same null ops e = absurd cc
array_same (boolean b) ops e = absurd cc
array_same (number n) ops e = absurd cc
array_same (string s) ops e = absurd cc
array_same (object ms) ops e = absurd cc
array_same (array ds) ops e =
    let code = string (codes "_H") ∷ number (unsigned 1) ∷ map elem_data (elements ops) in
    let same : texts code ≡ texts (items_list ds) =
    ap (λ xs. elem_text (Text (codes "_H")) ∷ elem_text (Whole (pos 1)) ∷ xs) (elements_texts (elements ops)) ∙ sym (elements_same (items_list ds) ops e) in
    ap (λ t. 91 ∷ t) (items_joined false code ∙ ap (joined false) same ∙ sym (items_joined false (items_list ds)) ∙ ap (items_text false) (items_all ds))

read_same : (o : Option Data) (ops : Ops) → of_read o ≡ Ok ops → (d : Data) × (o ≡ Some d) × (compact_text (code_data ops) ≡ compact_text d)
read_same None ops e = absurd cc
read_same (Some d) ops e = (d, refl, array_same d ops e)

-- what was decoded encodes as the compact text of the same array
pub decode_same : (text : List ℕ) (ops : Ops) → decode_of text ≡ Ok ops → (d : Data) × (read text ≡ Some d) × (code_text ops ≡ compact_text d)
unfolding decode_of code_text
decode_same text ops e = read_same (read text) ops e
