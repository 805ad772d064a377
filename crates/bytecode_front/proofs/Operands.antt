-- What is known of an operation that stands at the front.
use Rattle.std.proofs.Common.{◌≡◌, ◌≤◌, ◌<◌, ℕ, zero, suc, ◌+◌, ◌*◌, ◌^◌, ◌&&◌, pos, negsuc, List, [], ◌∷◌, ◌++◌, Option, Some, None, Bool, true, false, cond, map, length, drop, take, refl, sym, ap, ap₂, ◌∙◌, subst, arith, length-drop}
use Rattle.std.proofs.lemmas.Bool.Decides.{nat_tests}
use Rattle.std.proofs.lemmas.Bool.{eqb-true}
use Rattle.std.proofs.lemmas.Option.{same_Some, cond_some}
use Rattle.std.specs.Prelude.{ℤ, ◌==◌, nat_le, nat_lt, is_some, option_map, option_and_then}
use Rattle.serde_json.specs.Data.{Num, unsigned, negative, float, Data, null, boolean, number, string, array, object}
use Rattle.serde_json.specs.Find.{as_number, as_i64, as_str, as_bool}
use Rattle.serde_json.specs.Written.{compact_text}
use Rattle.hog_value.specs.declared.native.Native.{Native}
use Rattle.hog_value.specs.Natives.{native_named, name_of}
use Rattle.hog_ops.specs.declared.capture.Capture.{Capture}
use Rattle.hog_ops.specs.Plain.{Op, Str, Integer, CallGlobal}
use Rattle.hog_ops.specs.Table.{size, plain_ops, count_ops, jump_ops, numbered}
use Rattle.hog_ops.specs.Elements.{Elem, Whole, Text, Flag, op_elements, capture_elements, closure_elements}
use Rattle.hog_ops.specs.Valid.{op_allowed, op_height}
use Rattle.bytecode_front.specs.declared.stop.Why.{Why}
use Rattle.bytecode_front.specs.declared.stop.Why.TheVariants.{Unknown, Outside, Bad}
use Rattle.bytecode_front.specs.Front.{Front, Faulty, Found, Opens, whole_in, small_of, small_in, first_by, captures_in, is_small, closure_in, found, count_in, jump_in, str_in, integer_in, call_in, with_captures, opened_by, opened, has, front_by, front_at, front_of}
use Rattle.bytecode_front.specs.Elements.{elem_data}
use Rattle.bytecode_front.proofs.Names.{named_name}
use Rattle.bytecode_front.proofs.Numbered.{Numbered, plain_numbered, count_numbered, jump_numbered}

-- the text of an element
abbrev pub elem_text : Elem → List ℕ
elem_text e = compact_text (elem_data e)

abbrev pub texts : List Data → List (List ℕ)
texts ds = map compact_text ds

abbrev pub elem_texts : List Elem → List (List ℕ)
elem_texts es = map elem_text es

-- ---- single elements

i64_text : (n : Num) (z : ℤ) → as_i64 n ≡ Some z → compact_text (number n) ≡ elem_text (Whole z)
i64_text (unsigned n) z e = ap elem_text (ap Whole (cond_some (nat_lt n (2 ^ 63)) (pos n) z e).1)
i64_text (negative (pos n)) z e = ap elem_text (ap Whole (same_Some (pos n) z e))
i64_text (negative (negsuc n)) z e = ap elem_text (ap Whole (same_Some (negsuc n) z e))
i64_text (float x) z e = absurd cc

-- an element spells as the whole number that it is
pub whole_text : (d : Data) (z : ℤ) → whole_in d ≡ Some z → compact_text d ≡ elem_text (Whole z)
whole_text null z e = absurd cc
whole_text (boolean b) z e = absurd cc
whole_text (number n) z e = i64_text n z e
whole_text (string s) z e = absurd cc
whole_text (array ds) z e = absurd cc
whole_text (object ms) z e = absurd cc

small_is : (z : ℤ) (k : ℕ) → small_of z ≡ Some k → (z ≡ pos k) × (k < 2 ^ 32)
small_is (pos n) k e = let h = cond_some (nat_lt n (2 ^ 32)) n k e in (ap pos h.1, subst (λ m. m < 2 ^ 32) h.1 (grind (arith, nat_tests, h.0)))
small_is (negsuc n) k e = absurd cc

pub and_then_some : {A B : Type 0} (f : A → Option B) (o : Option A) (y : B) → option_and_then f o ≡ Some y → (x : A) × (o ≡ Some x) × (f x ≡ Some y)
and_then_some f None y e = absurd cc
and_then_some f (Some x) y e = (x, refl, e)

pub map_some : {A B : Type 0} (f : A → B) (o : Option A) (y : B) → option_map f o ≡ Some y → (x : A) × (o ≡ Some x) × (f x ≡ y)
map_some f None y e = absurd cc
map_some f (Some x) y e = (x, refl, same_Some (f x) y e)

-- a small number is whole, and spells so
pub small_whole : (d : Data) (k : ℕ) → small_in d ≡ Some k → (whole_in d ≡ Some (pos k)) × (k < 2 ^ 32)
small_whole d k e =
    let h = and_then_some small_of (whole_in d) k e in
    let is = small_is h.0 k h.2 in
    (h.1 ∙ ap Some is.0, is.1)

pub small_text : (d : Data) (k : ℕ) → small_in d ≡ Some k → compact_text d ≡ elem_text (Whole (pos k))
small_text d k e = whole_text d (pos k) (small_whole d k e).0

pub str_text : (d : Data) (s : List ℕ) → as_str d ≡ Some s → compact_text d ≡ elem_text (Text s)
str_text null s e = absurd cc
str_text (boolean b) s e = absurd cc
str_text (number n) s e = absurd cc
str_text (string t) s e = ap (λ r. elem_text (Text r)) (same_Some t s e)
str_text (array ds) s e = absurd cc
str_text (object ms) s e = absurd cc

pub bool_text : (d : Data) (b : Bool) → as_bool d ≡ Some b → compact_text d ≡ elem_text (Flag b)
bool_text null b e = absurd cc
bool_text (boolean c) b e = ap (λ r. elem_text (Flag r)) (same_Some c b e)
bool_text (number n) b e = absurd cc
bool_text (string t) b e = absurd cc
bool_text (array ds) b e = absurd cc
bool_text (object ms) b e = absurd cc

-- ---- an operation that isn't CALLABLE

-- Behind a number stand the operands of an operation.
pub record Behind (n : ℕ) (ds : List Data) (o : Op) : Type 0 where
  pub count : ℕ
  pub operands : List Elem
  pub fits : count ≤ length ds
  pub size : size o ≡ suc count
  pub elements : op_elements o ≡ Whole (pos n) ∷ operands
  pub height : op_height o ≡ 0
  pub texts : texts ds ≡ elem_texts operands ++ texts (drop count ds)

pub found_is : (x : Option Op) (o : Op) → found x ≡ Found o → (x ≡ Some o) × (op_allowed o ≡ true)
found_is None o e = absurd cc
found_is (Some p) o e = by (op_allowed p) refl e
  where
    by : (b : Bool) → op_allowed p ≡ b → cond b (Found p) (Faulty Bad) ≡ Found o → (Some p ≡ Some o) × (op_allowed o ≡ true)
    by true is k = let same : p ≡ o = cc in (ap Some same, ap op_allowed (sym same) ∙ is)
    by false is k = absurd cc

pub plain_behind : (n : ℕ) (ds : List Data) (o : Op) → numbered n plain_ops ≡ Some o → Behind n ds o
plain_behind n ds o e =
    let h = plain_numbered n o e in
    record { count = 0; operands = []; fits = omega arith; size = h.size; elements = h.elements; height = h.height; texts = refl }

pub first_some : {A : Type 0} (f : Data → Option A) (ds : List Data) (x : A) → first_by f ds ≡ Some x → (d : Data) × (rest : List Data) × (ds ≡ d ∷ rest) × (f d ≡ Some x)
first_some f [] x e = absurd cc
first_some f (d ∷ rest) x e = (d, rest, refl, e)

-- one operand
one_behind : (n : ℕ) (ds : List Data) (d : Data) (rest : List Data) (el : Elem) (o : Op) → Numbered n 2 (el ∷ []) o → ds ≡ d ∷ rest → compact_text d ≡ elem_text el → Behind n ds o
one_behind n ds d rest el o h is t = record {
  count = 1;
  operands = el ∷ [];
  fits = omega (arith, ap length is);
  size = h.size;
  elements = h.elements;
  height = h.height;
  texts = ap texts is ∙ ap (λ x. x ∷ texts rest) t ∙ ap (λ xs. elem_text el ∷ texts (drop 1 xs)) (sym is);
}

pub count_behind : (n : ℕ) (ds : List Data) (o : Op) → count_in n ds ≡ Some o → Behind n ds o
count_behind n ds o e =
    let h = and_then_some (λ k. numbered n (count_ops k)) (first_by small_in ds) o e in
    let f = first_some small_in ds h.0 h.1 in
    one_behind n ds f.0 f.1 (Whole (pos h.0)) o (count_numbered n h.0 o h.2) f.2 (small_text f.0 h.0 f.3)

pub jump_behind : (n : ℕ) (ds : List Data) (o : Op) → jump_in n ds ≡ Some o → Behind n ds o
jump_behind n ds o e =
    let h = and_then_some (λ d. numbered n (jump_ops d)) (first_by whole_in ds) o e in
    let f = first_some whole_in ds h.0 h.1 in
    one_behind n ds f.0 f.1 (Whole h.0) o (jump_numbered n h.0 o h.2) f.2 (whole_text f.0 h.0 f.3)

pub str_behind : (ds : List Data) (o : Op) → str_in ds ≡ Some o → Behind 32 ds o
str_behind ds o e =
    let h = map_some Str (first_by as_str ds) o e in
    let f = first_some as_str ds h.0 h.1 in
    subst (Behind 32 ds) h.2 (one_behind 32 ds f.0 f.1 (Text h.0) (Str h.0) record { elements = refl; size = refl; height = refl } f.2 (str_text f.0 h.0 f.3))

pub integer_behind : (ds : List Data) (o : Op) → integer_in ds ≡ Some o → Behind 33 ds o
integer_behind ds o e =
    let h = map_some Integer (first_by whole_in ds) o e in
    let f = first_some whole_in ds h.0 h.1 in
    subst (Behind 33 ds) h.2 (one_behind 33 ds f.0 f.1 (Whole h.0) (Integer h.0) record { elements = refl; size = refl; height = refl } f.2 (whole_text f.0 h.0 f.3))

pub call_behind : (ds : List Data) (o : Op) → call_in ds ≡ Some o → Behind 2 ds o
call_behind [] o e = absurd cc
call_behind (w ∷ []) o e = absurd cc
call_behind (w ∷ k ∷ ds) o e =
    let h = and_then_some (λ f. option_map (CallGlobal f) (small_in k)) (option_and_then native_named (as_str w)) o e in
    let g = and_then_some native_named (as_str w) h.0 h.1 in
    let c = map_some (CallGlobal h.0) (small_in k) o h.2 in
    let name : compact_text w ≡ elem_text (Text (name_of h.0)) = str_text w g.0 g.1 ∙ ap (λ t. elem_text (Text t)) (sym (named_name g.0 h.0 g.2)) in
    let same = ap₂ (λ x y. x ∷ y ∷ texts ds) name (small_text k c.0 c.1) in
    subst (Behind 2 (w ∷ k ∷ ds)) c.2
    record { count = 2; operands = Text (name_of h.0) ∷ Whole (pos c.0) ∷ []; fits = omega arith; size = refl; elements = refl; height = refl; texts = same }
