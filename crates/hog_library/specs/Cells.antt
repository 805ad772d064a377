-- Cells that are made together, inner ones before outer ones and from left to right. Where they don't all fit, none is made.
use Rattle.std.specs.Prelude.{ℕ, ◌+◌, pos, List, [], ◌∷◌, length, sum_by, codes}
use Rattle.hog_value.specs.declared.value.Kind.{Kind}
use Rattle.hog_value.specs.declared.value.Kind.TheVariants.{TypeError, IntegerOverflow, IndexError, ArgumentError, JsonError}
use Rattle.hog_value.specs.Values.{Val}
use Rattle.hog_value.specs.declared.value.Value.TheVariants.{Null, Int}
use Rattle.hog_value.specs.Cells.{CellOf, Text, Array, Dict, HeapOf}
use Rattle.hog_value.specs.Operations.{Outcome, Gives, made}
use Rattle.hog_json.specs.Reading.{outcome_and_then, read_cells, kept_value}

-- making texts gives the list of them
abbrev pub texts_made : {F : Type 0} → List (List ℕ) → HeapOf F → ℕ → Outcome F (List Val)
texts_made [] h units = Gives [] h units
texts_made (t ∷ ts) h units = outcome_and_then (made (Text t) h units)
    (λ v h1 units1. outcome_and_then (texts_made ts h1 units1) (λ vs. Gives (v ∷ vs)))

-- making an array of new texts
unfoldable pub array_of_texts : {F : Type 0} → List (List ℕ) → HeapOf F → ℕ → Outcome F Val
array_of_texts ts h units = outcome_and_then (texts_made ts h units) (λ vs. made (Array vs))

-- the units that a new text as an item of a new array costs
abbrev pub cost_of_item : List ℕ → ℕ
cost_of_item t = 16 + length t

-- the units that new texts as the items of a new array cost; the array itself costs 8 more
abbrev pub cost_of_items : List (List ℕ) → ℕ
cost_of_items ts = sum_by cost_of_item ts

-- the pairs of an error
abbrev pub error_pairs : Val → Val → Val → List (List ℕ × Val)
error_pairs name message payload = (codes "type", name) ∷ (codes "message", message) ∷ (codes "payload", payload) ∷ []

-- the dictionary that an error is
abbrev pub error_cell : {F : Type 0} → Val → Val → Val → CellOf F
error_cell name message payload = Dict (error_pairs name message payload)

-- the name of a kind
abbrev pub kind_name : Kind → List ℕ
kind_name TypeError = codes "TypeError"
kind_name IntegerOverflow = codes "IntegerOverflow"
kind_name IndexError = codes "IndexError"
kind_name ArgumentError = codes "ArgumentError"
kind_name JsonError = codes "JsonError"

-- its message
abbrev pub kind_message : Kind → List ℕ
kind_message TypeError = codes "wrong kind"
kind_message IntegerOverflow = codes "integer overflow"
kind_message IndexError = codes "index out of range"
kind_message ArgumentError = codes "too many arguments"
kind_message JsonError = codes "bad json"

-- Making what a program sees of a kind that was thrown: its name, its message, and the dictionary.
unfoldable pub thrown : {F : Type 0} → Kind → HeapOf F → ℕ → Outcome F Val
thrown kind h units = outcome_and_then (made (Text (kind_name kind)) h units)
    (λ name h1 units1. outcome_and_then (made (Text (kind_message kind)) h1 units1)
    (λ message. made (error_cell name message Null)))

-- the pairs of the response to a request
abbrev pub response_pairs : ℕ → Val → List (List ℕ × Val)
response_pairs status body = (codes "status", Int (pos status)) ∷ (codes "body", body) ∷ []

-- the dictionary that the response to a request is
abbrev pub response_cell : {F : Type 0} → ℕ → Val → CellOf F
response_cell status body = Dict (response_pairs status body)

-- Making what a program sees of a reply: the cells of its body, which is a text of JSON, and the response.
unfoldable pub response : {F : Type 0} → ℕ → List ℕ → HeapOf F → ℕ → Outcome F Val
response status body h units = outcome_and_then (read_cells (kept_value body) h units) (λ v. made (response_cell status v))

-- making what a program sees where no request is made of a URL
unfoldable pub blocked : {F : Type 0} → HeapOf F → ℕ → Outcome F Val
blocked h units = outcome_and_then (made (Text (codes "blocked")) h units) (λ v. made (response_cell 0 v))
