-- The elements of operations read as those operations.
use Rattle.std.proofs.Common.{◌≡◌, ◌≤◌, ◌<◌, ℕ, zero, suc, ◌+◌, ◌-◌, ◌*◌, ◌^◌, ◌&&◌, pos, negsuc, List, [], ◌∷◌, ◌++◌, Option, Some, None, Bool, true, false, cond, map, length, drop, take, refl, sym, ap, ap₂, ◌∙◌, subst, arith, length-append, append_assoc, Ok, Err, Result}
use Rattle.std.proofs.lemmas.Bool.Decides.{nat_tests}
use Rattle.std.proofs.lemmas.List.{map-append, take_at, drop_at, length-map}
use Rattle.std.specs.Prelude.{ℤ, ◌==◌, nat_le, nat_lt, option_map, option_and_then}
use Rattle.serde_json.specs.Data.{Data, number, unsigned}
use Rattle.serde_json.specs.Find.{as_str, of_integer}
use Rattle.hog_value.specs.declared.native.Native.{Native}
use Rattle.hog_value.specs.Natives.{name_of}
use Rattle.hog_ops.specs.declared.capture.Capture.{Capture}
use Rattle.hog_ops.specs.Plain.{Op, Ops, GetGlobal, CallGlobal, And, Or, Not, Plus, Minus, Multiply, Eq, NotEq, Gt, GtEq, Lt, LtEq, IsIn, NotIn, PushTrue, PushFalse, PushNull, Str, Integer, Pop, GetLocal, SetLocal, Return, Jump, JumpIfFalse, Dict, Array, GetProperty, SetProperty, JumpIfStackNotNull, GetPropertyNullish, Throw, Try, PopTry, Callable, CallLocal, GetUpvalue, SetUpvalue, CloseUpvalue, NoOp, MoreOp}
use Rattle.hog_ops.specs.Table.{size, span, plain_ops, count_ops, jump_ops, numbered}
use Rattle.hog_ops.specs.Elements.{Elem, Whole, Text, Flag, capture_elements, closure_elements, op_elements, elements}
use Rattle.hog_ops.proofs.Counts.{op_count, elements_count, size_some}
use Rattle.hog_ops.specs.Ranges.{IsU32, IsI64, CapturesFit, OpFits, OpsFit}
use Rattle.hog_ops.specs.Valid.{op_allowed, allowed, op_height, height}
use Rattle.bytecode_front.specs.declared.stop.CodeStop.{CodeStop}
use Rattle.bytecode_front.specs.declared.stop.Why.TheVariants.{Bad}
use Rattle.bytecode_front.specs.Front.{Front, Faulty, Found, Opens, whole_in, small_of, small_in, is_small, capture_by, with_more, captures_in, closure_in, found, count_in, jump_in, integer_in, call_in, with_captures, opened_by, opened, front_of}
use Rattle.bytecode_front.specs.Reading.{before, holding, callable_size, read_front, read_by, read_ops}
use Rattle.bytecode_front.specs.Elements.{elem_data}
use Rattle.bytecode_front.proofs.Names.{name_named}

abbrev pub datas : List Elem → List Data
datas es = map elem_data es

-- ---- single elements

when_true : {A : Type 0} (b : Bool) (x y : A) → b ≡ true → cond b x y ≡ x
when_true b x y e = ap (λ c. cond c x y) e

pub whole_back : (z : ℤ) → IsI64 z → whole_in (number (of_integer z)) ≡ Some z
whole_back (pos n) h = when_true (nat_lt n (2 ^ 63)) (Some (pos n)) None (grind (arith, nat_tests))
whole_back (negsuc n) h = refl

pub small_back : (n : ℕ) → IsU32 n → small_in (number (unsigned n)) ≡ Some n
small_back n h =
    ap (option_and_then (λ z. small_of z)) (whole_back (pos n) (omega (arith, h)))
    ∙ when_true (nat_lt n (2 ^ 32)) (Some n) None (grind (arith, nat_tests))

-- ---- operations that aren't CALLABLE

allowed_found : (o : Op) → op_allowed o ≡ true → found (Some o) ≡ Found o
allowed_found o h = when_true (op_allowed o) (Found o) (Faulty Bad) h

count_back : (n k : ℕ) (o : Op) (ds : List Data) → numbered n (count_ops k) ≡ Some o → op_allowed o ≡ true → IsU32 k → found (count_in n (number (unsigned k) ∷ ds)) ≡ Found o
count_back n k o ds is h fits = ap (λ x. found (option_and_then (λ m. numbered n (count_ops m)) x)) (small_back k fits) ∙ ap found is ∙ allowed_found o h

jump_back : (n : ℕ) (d : ℤ) (o : Op) (ds : List Data) → numbered n (jump_ops d) ≡ Some o → op_allowed o ≡ true → IsI64 d → found (jump_in n (number (of_integer d) ∷ ds)) ≡ Found o
jump_back n d o ds is h fits = ap (λ x. found (option_and_then (λ m. numbered n (jump_ops m)) x)) (whole_back d fits) ∙ ap found is ∙ allowed_found o h

call_back : (f : Native) (n : ℕ) (ds : List Data) → op_allowed (CallGlobal f n) ≡ true → IsU32 n → found (call_in (elem_data (Text (name_of f)) ∷ number (unsigned n) ∷ ds)) ≡ Found (CallGlobal f n)
call_back f n ds h fits =
    ap (λ x. found (option_and_then (λ g. option_map (CallGlobal g) (small_in (number (unsigned n)))) x)) (name_named f)
    ∙ ap (λ x. found (option_map (CallGlobal f) x)) (small_back n fits) ∙ allowed_found (CallGlobal f n) h

integer_back : (z : ℤ) (ds : List Data) → IsI64 z → found (integer_in (number (of_integer z) ∷ ds)) ≡ Found (Integer z)
integer_back z ds fits = ap (λ x. found (option_map Integer x)) (whole_back z fits)

-- ---- a CALLABLE

captures_back : (cs : List Capture) (ds : List Data) → CapturesFit cs → captures_in (length cs) (datas (capture_elements cs) ++ ds) ≡ Some cs
captures_back [] ds h = refl
captures_back (c ∷ cs) ds h =
    ap₂ (λ i r. with_more (capture_by (Some c.local) i) r) (small_back c.index h.0) (captures_back cs ds h.1)

closure_back : (cs : List Capture) (ds : List Data) → IsU32 (length cs) → CapturesFit cs → closure_in (length cs) (datas (closure_elements cs) ++ ds) ≡ Some cs
closure_back cs ds short h =
    let same : (length cs == length cs) ≡ true = grind (arith, nat_tests) in
    ap (λ x. cond (is_small (length cs) x) (captures_in (length cs) (datas (capture_elements cs) ++ ds)) None) (small_back (length cs) short)
    ∙ when_true (length cs == length cs) _ None same ∙ captures_back cs ds h

opened_back : (room : ℕ) (name : List ℕ) (params : ℕ) (body : Ops) (cs : List Capture) (ds : List Data) → 1 ≤ room → IsU32 params → IsU32 (length cs) → IsU32 (span body) → CapturesFit cs
    → opened room (elem_data (Text name) ∷ elem_data (Whole (pos params)) ∷ elem_data (Whole (pos (length cs))) ∷ elem_data (Whole (pos (span body))) ∷ (datas (elements body) ++ (datas (closure_elements cs) ++ ds)))
    ≡ Opens name params cs (span body)
unfolding opened
opened_back room name params body cs ds some p c l fits =
    let rest = datas (elements body) ++ (datas (closure_elements cs) ++ ds) in
    let long : length (datas (elements body)) ≡ span body = length-map (elements body) elem_data ∙ elements_count body in
    let le : span body ≤ length rest = omega (arith, long, length-append (datas (elements body)) (datas (closure_elements cs) ++ ds)) in
    let roomy : nat_le 1 room ≡ true = grind (arith, nat_tests, some) in
    let fitting : nat_le (span body) (length rest) ≡ true = grind (arith, nat_tests, le) in
    let within : (nat_le 1 room && nat_le (span body) (length rest)) ≡ true = ap₂ (λ x y. x && y) roomy fitting in
    ap (λ x. opened_by room (Some name) x (small_in (number (unsigned (length cs)))) (small_in (number (unsigned (span body)))) rest) (small_back params p)
    ∙ ap₂ (λ x y. opened_by room (Some name) (Some params) x y rest) (small_back (length cs) c) (small_back (span body) l)
    ∙ when_true (nat_le 1 room && nat_le (span body) (length rest)) (with_captures name params (span body) (closure_in (length cs) (drop (span body) rest))) (Faulty Bad) within
    ∙ ap (λ xs. with_captures name params (span body) (closure_in (length cs) xs)) (drop_at (datas (elements body)) (datas (closure_elements cs) ++ ds) (span body) long)
    ∙ ap (with_captures name params (span body)) (closure_back cs ds c fits)

-- what stands at the front of an operation's elements
abbrev front_like : Op → Front
front_like (Callable name params body cs) = Opens name params cs (span body)
front_like o = Found o

-- a function's numbers, and the room of its body, that of its captures
record Fits (room : ℕ) (o : Op) : Type 0 where
  numbers : OpFits o
  allowed : op_allowed o ≡ true
  size : IsU32 (size o)
  height : op_height o ≤ room

front_back : (room : ℕ) (o : Op) (ds : List Data) → Fits room o → front_of room (datas (op_elements o) ++ ds) ≡ front_like o
front_back room (GetGlobal n) ds h = count_back 1 n (GetGlobal n) ds refl h.allowed h.numbers
front_back room (CallGlobal f n) ds h = call_back f n ds h.allowed h.numbers
front_back room (And n) ds h = count_back 3 n (And n) ds refl h.allowed h.numbers
front_back room (Or n) ds h = count_back 4 n (Or n) ds refl h.allowed h.numbers
front_back room Not ds h = refl
front_back room Plus ds h = refl
front_back room Minus ds h = refl
front_back room Multiply ds h = refl
front_back room Eq ds h = refl
front_back room NotEq ds h = refl
front_back room Gt ds h = refl
front_back room GtEq ds h = refl
front_back room Lt ds h = refl
front_back room LtEq ds h = refl
front_back room IsIn ds h = refl
front_back room NotIn ds h = refl
front_back room PushTrue ds h = refl
front_back room PushFalse ds h = refl
front_back room PushNull ds h = refl
front_back room (Str t) ds h = refl
front_back room (Integer z) ds h = integer_back z ds h.numbers
front_back room Pop ds h = refl
front_back room (GetLocal n) ds h = count_back 36 n (GetLocal n) ds refl h.allowed h.numbers
front_back room (SetLocal n) ds h = count_back 37 n (SetLocal n) ds refl h.allowed h.numbers
front_back room Return ds h = refl
front_back room (Jump d) ds h = jump_back 39 d (Jump d) ds refl h.allowed h.numbers
front_back room (JumpIfFalse d) ds h = jump_back 40 d (JumpIfFalse d) ds refl h.allowed h.numbers
front_back room (Dict n) ds h = count_back 42 n (Dict n) ds refl h.allowed h.numbers
front_back room (Array n) ds h = count_back 43 n (Array n) ds refl h.allowed h.numbers
front_back room GetProperty ds h = refl
front_back room SetProperty ds h = refl
front_back room (JumpIfStackNotNull d) ds h = jump_back 47 d (JumpIfStackNotNull d) ds refl h.allowed h.numbers
front_back room GetPropertyNullish ds h = refl
front_back room Throw ds h = refl
front_back room (Try d) ds h = jump_back 50 d (Try d) ds refl h.allowed h.numbers
front_back room PopTry ds h = refl
front_back room (Callable name params body cs) ds h =
    let regrouped : datas (elements body ++ closure_elements cs) ++ ds ≡ datas (elements body) ++ (datas (closure_elements cs) ++ ds) =
    ap (λ xs. xs ++ ds) (map-append elem_data (elements body) (closure_elements cs)) ∙ append_assoc (datas (elements body)) (datas (closure_elements cs)) ds in
    ap (λ xs. opened room (elem_data (Text name) ∷ elem_data (Whole (pos params)) ∷ elem_data (Whole (pos (length cs))) ∷ elem_data (Whole (pos (span body))) ∷ xs)) regrouped
    ∙ opened_back room name params body cs ds (omega (arith, h.height)) h.numbers.0 (omega (arith, h.size)) (omega (arith, h.size)) h.numbers.1
front_back room (CallLocal n) ds h = count_back 54 n (CallLocal n) ds refl h.allowed h.numbers
front_back room (GetUpvalue n) ds h = count_back 55 n (GetUpvalue n) ds refl h.allowed h.numbers
front_back room (SetUpvalue n) ds h = count_back 56 n (SetUpvalue n) ds refl h.allowed h.numbers
front_back room CloseUpvalue ds h = refl

-- ---- operations in order

-- what holds of operations holds of the first and of the others
record AllFit (room : ℕ) (ops : Ops) : Type 0 where
  numbers : OpsFit ops
  allowed : allowed ops ≡ true
  size : IsU32 (span ops)
  height : height ops ≤ room

and_true : (a b : Bool) → (a && b) ≡ true → (a ≡ true) × (b ≡ true)
and_true true b e = (refl, e)
and_true false b e = absurd cc

first_fits : (room : ℕ) (o : Op) (os : Ops) → AllFit room (MoreOp o os) → Fits room o
first_fits room o os h = record {
  numbers = h.numbers.0;
  allowed = (and_true (op_allowed o) (allowed os) h.allowed).0;
  size = omega (arith, h.size);
  height = omega (arith, h.height);
}

others_fit : (room : ℕ) (o : Op) (os : Ops) → AllFit room (MoreOp o os) → AllFit room os
others_fit room o os h = record {
  numbers = h.numbers.1;
  allowed = (and_true (op_allowed o) (allowed os) h.allowed).1;
  size = omega (arith, h.size);
  height = omega (arith, h.height);
}

body_fits : (room : ℕ) (name : List ℕ) (params : ℕ) (body : Ops) (cs : List Capture) (os : Ops) → AllFit room (MoreOp (Callable name params body cs) os) → AllFit (room - 1) body
body_fits room name params body cs os h = record {
  numbers = h.numbers.0.2;
  allowed = (and_true (allowed body) (allowed os) h.allowed).0;
  size = omega (arith, h.size);
  height = omega (arith, h.height);
}

datas-append : (es fs : List Elem) → datas (es ++ fs) ≡ datas es ++ datas fs
datas-append es fs = map-append elem_data es fs

datas_count : (ops : Ops) → length (datas (elements ops)) ≡ span ops
datas_count ops = length-map (elements ops) elem_data ∙ elements_count ops

op_datas_count : (o : Op) → length (datas (op_elements o)) ≡ size o
op_datas_count o = length-map (op_elements o) elem_data ∙ op_count o

-- reading takes a step where something is there
step_by : (n room at : ℕ) (ds : List Data) → 0 < length ds → read_by (suc n) room at ds ≡ read_front (read_by n) room at ds (front_of room ds)
step_by n room at [] h = absurd (omega arith)
step_by n room at (d ∷ ds) h = refl

-- an operation that isn't CALLABLE, and those behind it
found_more : (n room at : ℕ) (o : Op) (os : Ops) → 0 < size o → front_of room (datas (op_elements o) ++ datas (elements os)) ≡ Found o → read_by n room (at + size o) (datas (elements os)) ≡ Ok os
    → read_by (suc n) room at (datas (elements (MoreOp o os))) ≡ Ok (MoreOp o os)
found_more n room at o os some front rest =
    let ds = datas (op_elements o) ++ datas (elements os) in
    let there : 0 < length ds = omega (arith, length-append (datas (op_elements o)) (datas (elements os)), op_datas_count o) in
    ap (read_by (suc n) room at) (datas-append (op_elements o) (elements os)) ∙ step_by n room at ds there ∙ ap (read_front (read_by n) room at ds) front
    ∙ ap (λ xs. before o (read_by n room (at + size o) xs)) (drop_at (datas (op_elements o)) (datas (elements os)) (size o) (op_datas_count o)) ∙ ap (before o) rest

-- a CALLABLE with its body, and those behind it
opens_more : (n room at : ℕ) (name : List ℕ) (params : ℕ) (body : Ops) (cs : List Capture) (os : Ops) → let o = Callable name params body cs in
    front_of room (datas (op_elements o) ++ datas (elements os)) ≡ Opens name params cs (span body) → read_by n (room - 1) (at + 5) (datas (elements body)) ≡ Ok body
    → read_by n room (at + size o) (datas (elements os)) ≡ Ok os → read_by (suc n) room at (datas (elements (MoreOp o os))) ≡ Ok (MoreOp o os)
opens_more n room at name params body cs os front inside rest =
    let o = Callable name params body cs in
    let ds = datas (op_elements o) ++ datas (elements os) in
    let there : 0 < length ds = omega (arith, length-append (datas (op_elements o)) (datas (elements os)), op_datas_count o) in
    let behind : datas (elements body ++ closure_elements cs) ++ datas (elements os) ≡ datas (elements body) ++ (datas (closure_elements cs) ++ datas (elements os)) =
    ap (λ xs. xs ++ datas (elements os)) (datas-append (elements body) (closure_elements cs)) ∙ append_assoc (datas (elements body)) (datas (closure_elements cs)) (datas (elements os)) in
    let inner : take (span body) (drop 5 ds) ≡ datas (elements body) =
    ap (take (span body)) behind ∙ take_at (datas (elements body)) (datas (closure_elements cs) ++ datas (elements os)) (span body) (datas_count body) in
    let outer : drop (size o) ds ≡ datas (elements os) = drop_at (datas (op_elements o)) (datas (elements os)) (size o) (op_datas_count o) in
    ap (read_by (suc n) room at) (datas-append (op_elements o) (elements os)) ∙ step_by n room at ds there ∙ ap (read_front (read_by n) room at ds) front
    ∙ ap₂ (λ xs ys. holding (λ b. Callable name params b cs) (read_by n (room - 1) (at + 5) xs) (read_by n room (at + size o) ys)) inner outer
    ∙ ap₂ (λ x y. holding (λ b. Callable name params b cs) x y) inside rest

read_back : (n room at : ℕ) (ops : Ops) → span ops ≤ n → AllFit room ops → read_by n room at (datas (elements ops)) ≡ Ok ops
read_back zero room at NoOp le h = refl
read_back (suc n) room at NoOp le h = refl
read_back zero room at (MoreOp o os) le h = absurd (omega (arith, size_some o))
read_back (suc n) room at (MoreOp (Callable name params body cs) os) le h =
    let o = Callable name params body cs in
    opens_more n room at name params body cs os (front_back room o (datas (elements os)) (first_fits room o os h))
    (read_back n (room - 1) (at + 5) body (omega (arith, le)) (body_fits room name params body cs os h))
    (read_back n room (at + size o) os (omega (arith, le, size_some o)) (others_fit room o os h))
read_back (suc n) room at (MoreOp o os) le h =
    found_more n room at o os (size_some o) (front_back room o (datas (elements os)) (first_fits room o os h)) (read_back n room (at + size o) os (omega (arith, le, size_some o)) (others_fit room o os h))

-- the elements of a code read as that code
pub elements_back : (room at : ℕ) (ops : Ops) → OpsFit ops → allowed ops ≡ true → IsU32 (span ops) → height ops ≤ room → read_ops room at (datas (elements ops)) ≡ Ok ops
unfolding read_ops
elements_back room at ops numbers a short shallow =
    read_back (length (datas (elements ops))) room at ops (omega (arith, datas_count ops)) record { numbers = numbers; allowed = a; size = short; height = shallow }
