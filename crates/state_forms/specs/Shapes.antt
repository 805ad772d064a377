-- Reading JSON data: a reader gives a value, or nothing where the data has another form.
use Rattle.std.specs.Prelude.{◌≡◌, ℕ, ◌^◌, List, [], ◌∷◌, Option, Some, None, Result, Ok, Err, option_map, option_and_then, nat_lt, is_some, if◌then◌else◌}
use Rattle.serde_json.specs.Data.{unsigned, Data, null, number, array, Items, no_items, item}
use Rattle.serde_json.specs.Find.{as_number, as_u64, as_null, as_array}
use Rattle.serde_json.specs.View.{items_of}
use Rattle.state_forms.specs.declared.stop.ReadStop.{ReadStop}
use Rattle.state_forms.specs.declared.stop.ReadStop.TheVariants as stops

infixl 10 ◌>>=◌
abbrev pub ◌>>=◌ : {A B : Type 0} → Option A → (A → Option B) → Option B
None >>= f = None
(Some x) >>= f = f x

-- the items of an array
abbrev pub items_list : Items → List Data
items_list no_items = []
items_list (item d ds) = d ∷ items_list ds

abbrev pub list_in : Data → Option (List Data)
list_in d = option_map items_list (as_array d)

-- an array of these items
abbrev pub list : List Data → Data
list ds = array (items_of ds)

-- each item by f
abbrev pub each : {A B : Type 0} → (A → Option B) → List A → Option (List B)
each f [] = Some []
each f (x ∷ xs) = f x >>= λ y. each f xs >>= λ ys. Some (y ∷ ys)

-- an array, each item by f
unfoldable pub list_by : {A : Type 0} → (Data → Option A) → Data → Option (List A)
list_by f d = list_in d >>= each f

-- whole numbers, which JSON writes without a fraction and without an exponent
abbrev pub below : ℕ → ℕ → Option ℕ
below m n = if nat_lt n m then Some n else None

abbrev pub u32_in : Data → Option ℕ
u32_in d = option_and_then (below (2 ^ 32)) (option_and_then as_u64 (as_number d))

abbrev pub u64_in : Data → Option ℕ
u64_in d = option_and_then as_u64 (as_number d)

abbrev pub number_data : ℕ → Data
number_data n = number (unsigned n)

-- null for none
abbrev pub maybe_in : {A : Type 0} → (Data → Option A) → Data → Option (Option A)
maybe_in f d = if is_some (as_null d) then Some None else (f d >>= λ x. Some (Some x))

abbrev pub maybe_data : {A : Type 0} → (A → Data) → Option A → Data
maybe_data g None = null
maybe_data g (Some x) = g x

-- What a reader of the code answered is what reading gives, unless memory ran out.
abbrev pub Fails : {Y : Type 0} → ReadStop → Option Y → Type 0
Fails stops.OutOfMemory o = Unit {0}
Fails stops.Refused o = o ≡ None

abbrev pub Gives : {X Y : Type 0} → (X → Y) → Result X ReadStop → Option Y → Type 0
Gives see (Ok x) o = o ≡ Some (see x)
Gives see (Err e) o = Fails e o
