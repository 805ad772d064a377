-- What operation stands at the front of the elements of an array.
use Rattle.std.specs.Prelude.{ℕ, zero, suc, ◌+◌, ◌*◌, ◌^◌, ◌==◌, ◌&&◌, ℤ, pos, negsuc, List, [], ◌∷◌, length, drop, Bool, false, nat_lt, nat_le, Option, Some, None, is_some, option_map, option_and_then, if◌then◌else◌}
use Rattle.serde_json.specs.Data.{Data}
use Rattle.serde_json.specs.Find.{as_number, as_i64, as_str, as_bool}
use Rattle.hog_value.specs.Natives.{native_named}
use Rattle.hog_ops.specs.declared.capture.Capture.{Capture}
use Rattle.hog_ops.specs.Plain.{Op, Str, Integer, CallGlobal}
use Rattle.hog_ops.specs.Table.{plain_ops, count_ops, jump_ops, numbered}
use Rattle.hog_ops.specs.Valid.{op_allowed}
use Rattle.bytecode_front.specs.declared.stop.Why.{Why}
use Rattle.bytecode_front.specs.declared.stop.Why.TheVariants.{Unknown, Outside, Bad}

-- What stands at a place.
pub data Front : Type 0 where
  -- no operation
  Faulty : Why → Front
  -- an operation that isn't CALLABLE
  Found : Op → Front
  -- a CALLABLE: name, parameters, captures, and how many elements its body has
  Opens : List ℕ → ℕ → List Capture → ℕ → Front

-- a whole number of 64 bits
abbrev pub whole_in : Data → Option ℤ
whole_in d = option_and_then as_i64 (as_number d)

-- a number from 0 to 4294967295
abbrev pub small_of : ℤ → Option ℕ
small_of (pos n) = if nat_lt n (2 ^ 32) then Some n else None
small_of (negsuc n) = None

abbrev pub small_in : Data → Option ℕ
small_in d = option_and_then small_of (whole_in d)

-- the first element, read so
abbrev pub first_by : {A : Type 0} → (Data → Option A) → List Data → Option A
first_by f [] = None
first_by f (d ∷ ds) = f d

-- a capture: whether it is a local, and its index
abbrev pub capture_by : Option Bool → Option ℕ → Option Capture
capture_by (Some local) (Some index) = Some record { local = local; index = index }
capture_by (Some local) None = None
capture_by None index = None

abbrev pub with_more : Option Capture → Option (List Capture) → Option (List Capture)
with_more (Some c) (Some cs) = Some (c ∷ cs)
with_more (Some c) None = None
with_more None cs = None

-- as many captures as the count
abbrev pub captures_in : ℕ → List Data → Option (List Capture)
captures_in zero ds = Some []
captures_in (suc n) (t ∷ i ∷ ds) = with_more (capture_by (as_bool t) (small_in i)) (captures_in n ds)
captures_in (suc n) _ = None

abbrev pub is_small : ℕ → Option ℕ → Bool
is_small k None = false
is_small k (Some n) = n == k

-- behind a body: 53, the number of captures again, and the captures
abbrev pub closure_in : ℕ → List Data → Option (List Capture)
closure_in n (k ∷ c ∷ ds) = if is_small 53 (small_in k) && is_small n (small_in c) then captures_in n ds else None
closure_in n _ = None

-- an operation that was read, if its operands are allowed
abbrev pub found : Option Op → Front
found None = Faulty Bad
found (Some o) = if op_allowed o then Found o else Faulty Bad

-- a count or an index
abbrev pub count_in : ℕ → List Data → Option Op
count_in n ds = option_and_then (λ k. numbered n (count_ops k)) (first_by small_in ds)

-- a distance
abbrev pub jump_in : ℕ → List Data → Option Op
jump_in n ds = option_and_then (λ d. numbered n (jump_ops d)) (first_by whole_in ds)

-- a text
abbrev pub str_in : List Data → Option Op
str_in ds = option_map Str (first_by as_str ds)

-- a whole number
abbrev pub integer_in : List Data → Option Op
integer_in ds = option_map Integer (first_by whole_in ds)

-- a native's name and a count
abbrev pub call_in : List Data → Option Op
call_in (w ∷ k ∷ ds) = option_and_then (λ f. option_map (CallGlobal f) (small_in k)) (option_and_then native_named (as_str w))
call_in _ = None

abbrev pub with_captures : List ℕ → ℕ → ℕ → Option (List Capture) → Front
with_captures name params len None = Faulty Bad
with_captures name params len (Some captures) = Opens name params captures len

-- the numbers of a CALLABLE, and the elements behind them: the body, and its CLOSURE
abbrev pub opened_by : ℕ → Option (List ℕ) → Option ℕ → Option ℕ → Option ℕ → List Data → Front
opened_by room (Some name) (Some params) (Some n) (Some len) rest =
    if nat_le 1 room && nat_le len (length rest) then with_captures name params len (closure_in n (drop len rest)) else Faulty Bad
opened_by room _ _ _ _ rest = Faulty Bad

-- a CALLABLE, whose body needs room in the bodies around it
unfoldable pub opened : ℕ → List Data → Front
opened room (name ∷ params ∷ n ∷ len ∷ rest) = opened_by room (as_str name) (small_in params) (small_in n) (small_in len) rest
opened room _ = Faulty Bad

-- one of these operations has the number
abbrev pub has : ℕ → List Op → Bool
has n os = is_some (numbered n os)

-- the operation of this number, whose operands are the first of the elements
abbrev pub front_by : ℕ → ℕ → List Data → Front
front_by room n ds =
    if has n plain_ops then found (numbered n plain_ops)
    else (if has n (count_ops 0) then found (count_in n ds)
    else (if has n (jump_ops (pos 0)) then found (jump_in n ds)
    else (if n == 2 then found (call_in ds)
    else (if n == 32 then found (str_in ds)
    else (if n == 33 then found (integer_in ds)
    else (if n == 52 then opened room ds
    else (if nat_le 1 n && nat_le n 57 then Faulty (Outside (pos n)) else Faulty (Unknown (pos n)))))))))

abbrev pub front_at : ℕ → Option ℤ → List Data → Front
front_at room (Some (pos n)) ds = front_by room n ds
front_at room (Some (negsuc n)) ds = Faulty (Unknown (negsuc n))
front_at room None ds = Faulty Bad

-- What stands at the front. The room is how many bodies may still stand in one another here.
abbrev pub front_of : ℕ → List Data → Front
front_of room [] = Faulty Bad
front_of room (d ∷ ds) = front_at room (whole_in d) ds
