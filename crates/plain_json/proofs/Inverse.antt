-- The compact text of a plain value reads as that value.
use Rattle.std.proofs.Common.{◌≡◌, ◌≤◌, pos, negsuc, [], ◌++◌, Some, refl, sym, ap, ◌∙◌, arith, append-nil}
use Rattle.std.specs.Prelude.{option_map, option_and_then}
use Rattle.json.specs.Json as json
use Rattle.json.specs.Lex.{tokens}
use Rattle.json.specs.Print.{IsNumber}
use Rattle.json.specs.Tree as tree
use Rattle.json.proofs.Printed.Trees.{value-json_tokens, ArePrintable-json_tokens}
use Rattle.json.proofs.Printed.Tokens.{tokens-print}
use Rattle.json.proofs.Printed.Decimals.{IsNumber-decimal, IsNumber-signed_decimal}
use Rattle.serde_json.specs.Data.{Num, unsigned, negative, float, Data, null, boolean, number, string, array, object, Items, no_items, item, depth, items_depth}
use Rattle.serde_json.specs.Read.{of_json, of_items, number_of, max_depth}
use Rattle.serde_json.specs.Written.{compact_text, outline, items_outline, number_text}
use Rattle.serde_json.proofs.Numbers.{number_of-decimal, number_of-negative}
use Rattle.serde_json.proofs.Texts.{print-outline}
use Rattle.plain_json.specs.Plain.{IsWhole, IsPlain, ArePlain, ReadsBack}

number_read : (n : Num) → IsWhole n → number_of (number_text n) ≡ Some n
number_read (unsigned n) h = number_of-decimal n (omega arith)
number_read (negative (pos n)) h = absurd h
number_read (negative (negsuc n)) h = number_of-negative n h
number_read (float x) h = absurd h

number_shaped : (n : Num) → IsWhole n → IsNumber (number_text n)
number_shaped (unsigned n) h = IsNumber-decimal n (omega arith)
number_shaped (negative (pos n)) h = absurd h
number_shaped (negative (negsuc n)) h = IsNumber-signed_decimal (negsuc n) h
number_shaped (float x) h = absurd h

mutual
  read_outline : (d : Data) → IsPlain d → of_json (outline d) ≡ Some d
  read_outline null h = refl
  read_outline (boolean b) h = refl
  read_outline (number n) h = ap (option_map number) (number_read n h)
  read_outline (string s) h = refl
  read_outline (array ds) h = ap (option_map array) (read_items ds h)
  read_outline (object ms) h = absurd h

  read_items : (ds : Items) → ArePlain ds → of_items (items_outline ds) ≡ Some ds
  read_items no_items h = refl
  read_items (item d ds) h = ap (option_and_then (λ x. option_map (item x) (of_items (items_outline ds)))) (read_outline d h.0) ∙ ap (option_map (item d)) (read_items ds h.1)

mutual
  shaped : (d : Data) → IsPlain d → tree.HasNumbers (outline d)
  shaped null h = tt
  shaped (boolean b) h = tt
  shaped (number n) h = number_shaped n h
  shaped (string s) h = tt
  shaped (array ds) h = shaped_items ds h
  shaped (object ms) h = absurd h

  shaped_items : (ds : Items) → ArePlain ds → tree.ItemsHaveNumbers (items_outline ds)
  shaped_items no_items h = tt
  shaped_items (item d ds) h = (shaped d h.0, shaped_items ds h.1)

mutual
  as_deep : (d : Data) → IsPlain d → tree.depth (outline d) ≤ depth d
  as_deep null h = omega arith
  as_deep (boolean b) h = omega arith
  as_deep (number n) h = omega arith
  as_deep (string s) h = omega arith
  as_deep (array ds) h = omega (arith, as_deep_items ds h)
  as_deep (object ms) h = absurd h

  as_deep_items : (ds : Items) → ArePlain ds → tree.items_depth (items_outline ds) ≤ items_depth ds
  as_deep_items no_items h = omega arith
  as_deep_items (item d ds) h = omega (arith, as_deep d h.0, as_deep_items ds h.1)

pub reads_back : ReadsBack
reads_back d h shallow =
    let ts = tree.json_tokens (outline d) in
    let same : tokens (compact_text d) ≡ ts ++ [] = ap tokens (sym (print-outline d)) ∙ tokens-print ts (ArePrintable-json_tokens (outline d) (shaped d h)) ∙ sym (append-nil ts) in
    ap (λ x. option_and_then of_json (option_and_then (λ p. json.if_last p.0 p.1) (json.value max_depth x))) same
    ∙ ap (λ x. option_and_then of_json (option_and_then (λ p. json.if_last p.0 p.1) x)) (value-json_tokens (outline d) max_depth [] (omega (arith, as_deep d h)))
    ∙ read_outline d h
