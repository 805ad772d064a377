-- What is known of the elements at whose front an operation stands.
use Rattle.std.proofs.Common.{◌≡◌, ◌≤◌, ◌<◌, ℕ, zero, suc, ◌+◌, ◌-◌, ◌*◌, ◌^◌, ◌&&◌, pos, negsuc, List, [], ◌∷◌, ◌++◌, Option, Some, None, Bool, true, false, cond, map, length, drop, take, refl, sym, ap, ap₂, ◌∙◌, subst, arith, length-drop, append_assoc}
use Rattle.std.proofs.lemmas.List.{drop-drop}
use Rattle.std.proofs.lemmas.Bool.Decides.{nat_tests}
use Rattle.std.proofs.lemmas.Bool.{eqb-true}
use Rattle.std.proofs.lemmas.Option.{same_Some}
use Rattle.std.specs.Prelude.{ℤ, ◌==◌, nat_le, nat_lt, is_some, option_map, option_and_then}
use Rattle.serde_json.specs.Data.{Data}
use Rattle.serde_json.specs.Find.{as_str, as_bool}
use Rattle.serde_json.specs.Written.{compact_text}
use Rattle.hog_ops.specs.declared.capture.Capture.{Capture}
use Rattle.hog_value.specs.Natives.{native_named}
use Rattle.hog_ops.specs.Plain.{Op, Str, Integer, CallGlobal}
use Rattle.hog_ops.specs.Table.{size, plain_ops, count_ops, jump_ops, numbered}
use Rattle.hog_ops.specs.Elements.{Elem, Whole, Text, Flag, op_elements, capture_elements, closure_elements}
use Rattle.hog_ops.specs.Valid.{op_allowed, op_height}
use Rattle.bytecode_front.specs.declared.stop.Why.{Why}
use Rattle.bytecode_front.specs.declared.stop.Why.TheVariants.{Unknown, Outside, Bad}
use Rattle.bytecode_front.specs.Front.{Front, Faulty, Found, Opens, whole_in, small_in, first_by, capture_by, with_more, captures_in, is_small, closure_in, found, count_in, jump_in, str_in, integer_in, call_in, with_captures, opened_by, opened, has, front_by, front_at, front_of}
use Rattle.bytecode_front.specs.Reading.{callable_size}
use Rattle.bytecode_front.proofs.Operands.{elem_text, texts, elem_texts, whole_text, small_text, str_text, bool_text, and_then_some, map_some, Behind, found_is, plain_behind, count_behind, jump_behind, str_behind, integer_behind, call_behind}
use Rattle.bytecode_front.proofs.Numbered.{Numbered, plain_numbered, count_numbered, jump_numbered}

-- one of two fronts
pick : {C : Type 0} (b : Bool) (x y f : Front) → (b ≡ true → x ≡ f → C) → (y ≡ f → C) → cond b x y ≡ f → C
pick true x y f g h e = g refl e
pick false x y f g h e = h e

found_not_opens : {C : Type 0} (x : Option Op) (name : List ℕ) (params : ℕ) (cs : List Capture) (len : ℕ) → found x ≡ Opens name params cs len → C
found_not_opens None name params cs len e = absurd cc
found_not_opens (Some o) name params cs len e = pick (op_allowed o) (Found o) (Faulty Bad) (Opens name params cs len) (λ _ k. absurd cc) (λ k. absurd cc) e

tail_not_found : {C : Type 0} (name : List ℕ) (params len : ℕ) (x : Option (List Capture)) (o : Op) → with_captures name params len x ≡ Found o → C
tail_not_found name params len None o e = absurd cc
tail_not_found name params len (Some cs) o e = absurd cc

opened_by_not_found : {C : Type 0} (room : ℕ) (s : Option (List ℕ)) (p n l : Option ℕ) (rest : List Data) (o : Op) → opened_by room s p n l rest ≡ Found o → C
opened_by_not_found room None p n l rest o e = absurd cc
opened_by_not_found room (Some s) None n l rest o e = absurd cc
opened_by_not_found room (Some s) (Some p) None l rest o e = absurd cc
opened_by_not_found room (Some s) (Some p) (Some n) None rest o e = absurd cc
opened_by_not_found room (Some s) (Some p) (Some n) (Some l) rest o e =
    pick (nat_le 1 room && nat_le l (length rest)) (with_captures s p l (closure_in n (drop l rest))) (Faulty Bad) (Found o)
    (λ _ k. tail_not_found s p l (closure_in n (drop l rest)) o k) (λ k. absurd cc) e

opened_not_found : {C : Type 0} (room : ℕ) (ds : List Data) (o : Op) → opened room ds ≡ Found o → C
unfolding opened
opened_not_found room [] o e = absurd cc
opened_not_found room (a ∷ []) o e = absurd cc
opened_not_found room (a ∷ b ∷ []) o e = absurd cc
opened_not_found room (a ∷ b ∷ c ∷ []) o e = absurd cc
opened_not_found room (a ∷ b ∷ c ∷ d ∷ rest) o e = opened_by_not_found room (as_str a) (small_in b) (small_in c) (small_in d) rest o e

-- what the operations behind a number have in common
record Reads (n : ℕ) (ds : List Data) (o : Op) : Type 0 where
  behind : Behind n ds o
  allowed : op_allowed o ≡ true

reads_by : (n : ℕ) (ds : List Data) (x : Option Op) (o : Op) → (x ≡ Some o → Behind n ds o) → found x ≡ Found o → Reads n ds o
reads_by n ds x o f e = let h = found_is x o e in record { behind = f h.0; allowed = h.1 }

by_found : (room n : ℕ) (ds : List Data) (o : Op) → front_by room n ds ≡ Found o → Reads n ds o
by_found room n ds o e =
    pick (has n plain_ops) _ _ (Found o) (λ _ k. reads_by n ds (numbered n plain_ops) o (plain_behind n ds o) k)
    (pick (has n (count_ops 0)) _ _ (Found o) (λ _ k. reads_by n ds (count_in n ds) o (count_behind n ds o) k)
    (pick (has n (jump_ops (pos 0))) _ _ (Found o) (λ _ k. reads_by n ds (jump_in n ds) o (jump_behind n ds o) k)
    (pick (n == 2) _ _ (Found o) (λ t k. reads_by n ds (call_in ds) o (λ j. subst (λ m. Behind m ds o) (sym (eqb-true n 2 t)) (call_behind ds o j)) k)
    (pick (n == 32) _ _ (Found o) (λ t k. reads_by n ds (str_in ds) o (λ j. subst (λ m. Behind m ds o) (sym (eqb-true n 32 t)) (str_behind ds o j)) k)
    (pick (n == 33) _ _ (Found o) (λ t k. reads_by n ds (integer_in ds) o (λ j. subst (λ m. Behind m ds o) (sym (eqb-true n 33 t)) (integer_behind ds o j)) k)
    (pick (n == 52) _ _ (Found o) (λ _ k. opened_not_found room ds o k)
    (pick (nat_le 1 n && nat_le n 57) _ _ (Found o) (λ _ k. absurd cc) (λ k. absurd cc)))))))) e

-- an operation that isn't CALLABLE, at the front of these elements
pub record Taken (ds : List Data) (o : Op) : Type 0 where
  pub allowed : op_allowed o ≡ true
  pub height : op_height o ≡ 0
  pub some : 1 ≤ size o
  pub fits : size o ≤ length ds
  pub texts : texts ds ≡ elem_texts (op_elements o) ++ texts (drop (size o) ds)

at_found : (room : ℕ) (z : Option ℤ) (d : Data) (ds : List Data) (o : Op) → whole_in d ≡ z → front_at room z ds ≡ Found o → Taken (d ∷ ds) o
at_found room None d ds o w e = absurd cc
at_found room (Some (negsuc n)) d ds o w e = absurd cc
at_found room (Some (pos n)) d ds o w e =
    let r = by_found room n ds o e in
    let b = r.behind in
    let first : compact_text d ≡ elem_text (Whole (pos n)) = whole_text d (pos n) w in
    record {
      allowed = r.allowed;
      height = b.height;
      some = omega (arith, b.size);
      fits = omega (arith, b.size, b.fits);
      texts = ap₂ (λ x xs. x ∷ xs) first b.texts ∙ ap₂ (λ es k. elem_texts es ++ texts (drop k (d ∷ ds))) (sym b.elements) (sym b.size);
    }

pub front_found : (room : ℕ) (ds : List Data) (o : Op) → front_of room ds ≡ Found o → Taken ds o
front_found room [] o e = absurd cc
front_found room (d ∷ ds) o e = at_found room (whole_in d) d ds o refl e

-- ---- a CALLABLE

pub with_more_is : (o : Option Capture) (p : Option (List Capture)) (cs : List Capture) → with_more o p ≡ Some cs → (c : Capture) × (ds : List Capture) × (o ≡ Some c) × (p ≡ Some ds) × (c ∷ ds ≡ cs)
with_more_is None p cs e = absurd cc
with_more_is (Some c) None cs e = absurd cc
with_more_is (Some c) (Some ds) cs e = (c, ds, refl, refl, same_Some (c ∷ ds) cs e)

capture_is : (o : Option Bool) (p : Option ℕ) (c : Capture) → capture_by o p ≡ Some c → (o ≡ Some c.local) × (p ≡ Some c.index)
capture_is None p c e = absurd cc
capture_is (Some b) None c e = absurd cc
capture_is (Some b) (Some n) c e = let same = same_Some record { local = b; index = n } c e in (ap (λ x. Some x.local) same, ap (λ x. Some x.index) same)

captures_text : (n : ℕ) (ds : List Data) (cs : List Capture) → captures_in n ds ≡ Some cs → (length cs ≡ n) × (2 * n ≤ length ds) × (texts ds ≡ elem_texts (capture_elements cs) ++ texts (drop (2 * n) ds))
captures_text zero ds [] e = (refl, omega arith, refl)
captures_text zero ds (c ∷ cs) e = absurd cc
captures_text (suc n) [] cs e = absurd cc
captures_text (suc n) (t ∷ []) cs e = absurd cc
captures_text (suc n) (t ∷ i ∷ ds) cs e =
    let m = with_more_is (capture_by (as_bool t) (small_in i)) (captures_in n ds) cs e in
    let b = capture_is (as_bool t) (small_in i) m.0 m.2 in
    let r = captures_text n ds m.1 m.3 in
    let twice : 2 * suc n ≡ suc (suc (2 * n)) = omega arith in
    let two : drop (2 * suc n) (t ∷ i ∷ ds) ≡ drop (2 * n) ds = ap (λ k. drop k (t ∷ i ∷ ds)) twice in
    let same : texts (t ∷ i ∷ ds) ≡ elem_texts (capture_elements (m.0 ∷ m.1)) ++ texts (drop (2 * suc n) (t ∷ i ∷ ds)) =
    ap₂ (λ x y. x ∷ y ∷ texts ds) (bool_text t m.0.local b.0) (small_text i m.0.index b.1)
    ∙ ap (λ xs. elem_text (Flag m.0.local) ∷ elem_text (Whole (pos m.0.index)) ∷ xs) (r.2 ∙ ap (λ xs. elem_texts (capture_elements m.1) ++ texts xs) (sym two)) in
    (ap length (sym m.4) ∙ ap suc r.0, omega (arith, r.1), same ∙ ap (λ xs. elem_texts (capture_elements xs) ++ texts (drop (2 * suc n) (t ∷ i ∷ ds))) m.4)

pub and_true : (a b : Bool) → (a && b) ≡ true → (a ≡ true) × (b ≡ true)
and_true true b e = (refl, e)
and_true false b e = absurd cc

is_small_is : (k : ℕ) (o : Option ℕ) → is_small k o ≡ true → o ≡ Some k
is_small_is k None e = absurd cc
is_small_is k (Some n) e = ap Some (eqb-true n k e)

pub guarded : {A : Type 0} (b : Bool) (x : Option A) (y : A) → cond b x None ≡ Some y → (b ≡ true) × (x ≡ Some y)
guarded true x y e = (refl, e)
guarded false x y e = absurd cc

pub closure_text : (n : ℕ) (ds : List Data) (cs : List Capture) → closure_in n ds ≡ Some cs
    → (length cs ≡ n) × (2 + 2 * n ≤ length ds) × (texts ds ≡ elem_texts (closure_elements cs) ++ texts (drop (2 + 2 * n) ds))
closure_text n [] cs e = absurd cc
closure_text n (k ∷ []) cs e = absurd cc
closure_text n (k ∷ c ∷ ds) cs e =
    let g = guarded (is_small 53 (small_in k) && is_small n (small_in c)) (captures_in n ds) cs e in
    let both = and_true (is_small 53 (small_in k)) (is_small n (small_in c)) g.0 in
    let r = captures_text n ds cs g.1 in
    let two : 2 + 2 * n ≡ suc (suc (2 * n)) = omega arith in
    let same = ap₂ (λ x y. x ∷ y ∷ texts ds) (small_text k 53 (is_small_is 53 (small_in k) both.0)) (small_text c n (is_small_is n (small_in c) both.1)) in
    let rest = ap (λ xs. elem_text (Whole (pos 53)) ∷ elem_text (Whole (pos n)) ∷ xs) r.2 in
    let sized = ap₂ (λ m k2. elem_text (Whole (pos 53)) ∷ elem_text (Whole (pos m)) ∷ (elem_texts (capture_elements cs) ++ texts (drop k2 (k ∷ c ∷ ds)))) (sym r.0) (sym two) in
    (r.0, omega (arith, r.1), same ∙ rest ∙ sized)

-- what its numbers are
record Numbers (room : ℕ) (s : Option (List ℕ)) (p n l : Option ℕ) (rest : List Data) (name : List ℕ) (params : ℕ) (cs : List Capture) (len : ℕ) : Type 0 where
  name_is : s ≡ Some name
  params_is : p ≡ Some params
  count : ℕ
  count_is : n ≡ Some count
  len_is : l ≡ Some len
  roomy : 1 ≤ room
  within : len ≤ length rest
  closure : closure_in count (drop len rest) ≡ Some cs

tail_opens : (name : List ℕ) (params len : ℕ) (x : Option (List Capture)) (name' : List ℕ) (params' : ℕ) (cs : List Capture) (len' : ℕ) → with_captures name params len x ≡ Opens name' params' cs len'
    → (name ≡ name') × (params ≡ params') × (len ≡ len') × (x ≡ Some cs)
tail_opens name params len None name' params' cs len' e = absurd cc
tail_opens name params len (Some ds) name' params' cs len' e = (cc, cc, cc, cc)

opened_by_opens : (room : ℕ) (s : Option (List ℕ)) (p n l : Option ℕ) (rest : List Data) (name : List ℕ) (params : ℕ) (cs : List Capture) (len : ℕ) → opened_by room s p n l rest ≡ Opens name params cs len
    → Numbers room s p n l rest name params cs len
opened_by_opens room None p n l rest name params cs len e = absurd cc
opened_by_opens room (Some s) None n l rest name params cs len e = absurd cc
opened_by_opens room (Some s) (Some p) None l rest name params cs len e = absurd cc
opened_by_opens room (Some s) (Some p) (Some n) None rest name params cs len e = absurd cc
opened_by_opens room (Some s) (Some p) (Some n) (Some l) rest name params cs len e =
    pick (nat_le 1 room && nat_le l (length rest)) (with_captures s p l (closure_in n (drop l rest))) (Faulty Bad) (Opens name params cs len)
    (λ t k.
    let both = and_true (nat_le 1 room) (nat_le l (length rest)) t in
    let h = tail_opens s p l (closure_in n (drop l rest)) name params cs len k in
    record {
      name_is = ap Some h.0;
      params_is = ap Some h.1;
      count = n;
      count_is = refl;
      len_is = ap Some h.2;
      roomy = grind (arith, nat_tests, both.0);
      within = subst (λ m. m ≤ length rest) h.2 (grind (arith, nat_tests, both.1));
      closure = ap (λ m. closure_in n (drop m rest)) (sym h.2) ∙ h.3;
    })
    (λ k. absurd cc) e

-- A CALLABLE whose number stands in front of these elements. Its name, parameters and captures stand there too.
pub record Opened (room : ℕ) (ds : List Data) (name : List ℕ) (params : ℕ) (cs : List Capture) (len : ℕ) : Type 0 where
  pub roomy : 1 ≤ room
  pub fits : callable_size (length cs) len ≤ length ds
  pub head : texts (take 5 ds) ≡ elem_texts (Whole (pos 52) ∷ Text name ∷ Whole (pos params) ∷ Whole (pos (length cs)) ∷ Whole (pos len) ∷ [])
  pub tail : texts (drop len (drop 5 ds)) ≡ elem_texts (closure_elements cs) ++ texts (drop (callable_size (length cs) len) ds)
  pub name_at : first_by as_str (drop 1 ds) ≡ Some name
  pub params_at : first_by small_in (drop 2 ds) ≡ Some params
  pub captures_at : captures_in (length cs) (drop 2 (drop len (drop 5 ds))) ≡ Some cs

closure_captures : (n : ℕ) (ds : List Data) (cs : List Capture) → closure_in n ds ≡ Some cs → captures_in n (drop 2 ds) ≡ Some cs
closure_captures n [] cs e = absurd cc
closure_captures n (k ∷ []) cs e = absurd cc
closure_captures n (k ∷ c ∷ ds) cs e = (guarded (is_small 53 (small_in k) && is_small n (small_in c)) (captures_in n ds) cs e).1

opened_opens : (room : ℕ) (d : Data) (ds : List Data) (name : List ℕ) (params : ℕ) (cs : List Capture) (len : ℕ) → compact_text d ≡ elem_text (Whole (pos 52)) → opened room ds ≡ Opens name params cs len
    → Opened room (d ∷ ds) name params cs len
unfolding opened
opened_opens room d [] name params cs len w e = absurd cc
opened_opens room d (a ∷ []) name params cs len w e = absurd cc
opened_opens room d (a ∷ b ∷ []) name params cs len w e = absurd cc
opened_opens room d (a ∷ b ∷ c ∷ []) name params cs len w e = absurd cc
opened_opens room d (a ∷ b ∷ c ∷ l ∷ rest) name params cs len w e =
    let h = opened_by_opens room (as_str a) (small_in b) (small_in c) (small_in l) rest name params cs len e in
    let t = closure_text h.count (drop len rest) cs h.closure in
    let counted : compact_text c ≡ elem_text (Whole (pos (length cs))) = small_text c h.count h.count_is ∙ ap (λ m. elem_text (Whole (pos m))) (sym t.0) in
    let size : suc (suc (suc (suc (suc (len + (2 + 2 * h.count)))))) ≡ callable_size (length cs) len = omega (arith, t.0) in
    let behind : drop (2 + 2 * h.count) (drop len rest) ≡ drop (callable_size (length cs) len) (d ∷ a ∷ b ∷ c ∷ l ∷ rest) =
    drop-drop (2 + 2 * h.count) len rest ∙ ap (λ k. drop k (d ∷ a ∷ b ∷ c ∷ l ∷ rest)) size in
    record {
      roomy = h.roomy;
      fits = omega (arith, h.within, t.0, t.1, length-drop len rest);
      head = ap₂ (λ x y. x ∷ y ∷ texts (b ∷ c ∷ l ∷ [])) w (str_text a name h.name_is)
          ∙ ap₂ (λ x y. elem_text (Whole (pos 52)) ∷ elem_text (Text name) ∷ x ∷ y ∷ compact_text l ∷ []) (small_text b params h.params_is) counted
          ∙ ap (λ x. elem_text (Whole (pos 52)) ∷ elem_text (Text name) ∷ elem_text (Whole (pos params)) ∷ elem_text (Whole (pos (length cs))) ∷ x ∷ []) (small_text l len h.len_is);
      tail = t.2 ∙ ap (λ xs. elem_texts (closure_elements cs) ++ texts xs) behind;
      name_at = h.name_is;
      params_at = h.params_is;
      captures_at = ap (λ m. captures_in m (drop 2 (drop len rest))) t.0 ∙ closure_captures h.count (drop len rest) cs h.closure;
    }

by_opens : (room n : ℕ) (d : Data) (ds : List Data) (name : List ℕ) (params : ℕ) (cs : List Capture) (len : ℕ) → compact_text d ≡ elem_text (Whole (pos n)) → front_by room n ds ≡ Opens name params cs len
    → Opened room (d ∷ ds) name params cs len
by_opens room n d ds name params cs len w e =
    let f = Opens name params cs len in
    pick (has n plain_ops) _ _ f (λ _ k. found_not_opens (numbered n plain_ops) name params cs len k)
    (pick (has n (count_ops 0)) _ _ f (λ _ k. found_not_opens (count_in n ds) name params cs len k)
    (pick (has n (jump_ops (pos 0))) _ _ f (λ _ k. found_not_opens (jump_in n ds) name params cs len k)
    (pick (n == 2) _ _ f (λ _ k. found_not_opens (call_in ds) name params cs len k)
    (pick (n == 32) _ _ f (λ _ k. found_not_opens (str_in ds) name params cs len k)
    (pick (n == 33) _ _ f (λ _ k. found_not_opens (integer_in ds) name params cs len k)
    (pick (n == 52) _ _ f (λ t k. opened_opens room d ds name params cs len (w ∙ ap (λ m. elem_text (Whole (pos m))) (eqb-true n 52 t)) k)
    (pick (nat_le 1 n && nat_le n 57) _ _ f (λ _ k. absurd cc) (λ k. absurd cc)))))))) e

at_opens : (room : ℕ) (z : Option ℤ) (d : Data) (ds : List Data) (name : List ℕ) (params : ℕ) (cs : List Capture) (len : ℕ) → whole_in d ≡ z → front_at room z ds ≡ Opens name params cs len
    → Opened room (d ∷ ds) name params cs len
at_opens room None d ds name params cs len w e = absurd cc
at_opens room (Some (negsuc n)) d ds name params cs len w e = absurd cc
at_opens room (Some (pos n)) d ds name params cs len w e = by_opens room n d ds name params cs len (whole_text d (pos n) w) e

pub front_opens : (room : ℕ) (ds : List Data) (name : List ℕ) (params : ℕ) (cs : List Capture) (len : ℕ) → front_of room ds ≡ Opens name params cs len → Opened room ds name params cs len
front_opens room [] name params cs len e = absurd cc
front_opens room (d ∷ ds) name params cs len e = at_opens room (whole_in d) d ds name params cs len refl e

-- ---- the text that is pushed

-- behind a number stands the text of this operation
str_by : (n : ℕ) (ds : List Data) (s : List ℕ) (k : ℕ) (el : Elem) → Numbered n k (el ∷ []) (Str s) → el ≡ Text s
str_by n ds s k el h = let same = h.elements in cc

str_none : {C : Type 0} (n : ℕ) (s : List ℕ) (k : ℕ) → Numbered n k [] (Str s) → C
str_none n s k h = let same = h.elements in absurd cc

plain_str : {C : Type 0} (n : ℕ) (s : List ℕ) → numbered n plain_ops ≡ Some (Str s) → C
plain_str n s e = str_none n s 1 (plain_numbered n (Str s) e)

count_str : {C : Type 0} (n : ℕ) (ds : List Data) (s : List ℕ) → count_in n ds ≡ Some (Str s) → C
count_str n ds s e =
    let h = and_then_some (λ k. numbered n (count_ops k)) (first_by small_in ds) (Str s) e in
    let el : Whole (pos h.0) ≡ Text s = str_by n ds s 2 (Whole (pos h.0)) (count_numbered n h.0 (Str s) h.2) in
    absurd cc

jump_str : {C : Type 0} (n : ℕ) (ds : List Data) (s : List ℕ) → jump_in n ds ≡ Some (Str s) → C
jump_str n ds s e =
    let h = and_then_some (λ d. numbered n (jump_ops d)) (first_by whole_in ds) (Str s) e in
    let el : Whole h.0 ≡ Text s = str_by n ds s 2 (Whole h.0) (jump_numbered n h.0 (Str s) h.2) in
    absurd cc

call_str : {C : Type 0} (ds : List Data) (s : List ℕ) → call_in ds ≡ Some (Str s) → C
call_str [] s e = absurd cc
call_str (w ∷ []) s e = absurd cc
call_str (w ∷ k ∷ ds) s e =
    let h = and_then_some (λ f. option_map (CallGlobal f) (small_in k)) (option_and_then native_named (as_str w)) (Str s) e in
    let c = map_some (CallGlobal h.0) (small_in k) (Str s) h.2 in
    let same : CallGlobal h.0 c.0 ≡ Str s = c.2 in
    absurd cc

integer_str : {C : Type 0} (ds : List Data) (s : List ℕ) → integer_in ds ≡ Some (Str s) → C
integer_str ds s e = let h = map_some Integer (first_by whole_in ds) (Str s) e in let same : Integer h.0 ≡ Str s = h.2 in absurd cc

str_str : (ds : List Data) (s : List ℕ) → str_in ds ≡ Some (Str s) → first_by as_str ds ≡ Some s
str_str ds s e = let h = map_some Str (first_by as_str ds) (Str s) e in let same : Str h.0 ≡ Str s = h.2 in let text : h.0 ≡ s = cc in h.1 ∙ ap Some text

by_str : (room n : ℕ) (ds : List Data) (s : List ℕ) → front_by room n ds ≡ Found (Str s) → first_by as_str ds ≡ Some s
by_str room n ds s e =
    let f = Found (Str s) in
    pick (has n plain_ops) _ _ f (λ _ k. plain_str n s (found_is (numbered n plain_ops) (Str s) k).0)
    (pick (has n (count_ops 0)) _ _ f (λ _ k. count_str n ds s (found_is (count_in n ds) (Str s) k).0)
    (pick (has n (jump_ops (pos 0))) _ _ f (λ _ k. jump_str n ds s (found_is (jump_in n ds) (Str s) k).0)
    (pick (n == 2) _ _ f (λ _ k. call_str ds s (found_is (call_in ds) (Str s) k).0)
    (pick (n == 32) _ _ f (λ _ k. str_str ds s (found_is (str_in ds) (Str s) k).0)
    (pick (n == 33) _ _ f (λ _ k. integer_str ds s (found_is (integer_in ds) (Str s) k).0)
    (pick (n == 52) _ _ f (λ _ k. opened_not_found room ds (Str s) k)
    (pick (nat_le 1 n && nat_le n 57) _ _ f (λ _ k. absurd cc) (λ k. absurd cc)))))))) e

at_str : (room : ℕ) (z : Option ℤ) (ds : List Data) (s : List ℕ) → front_at room z ds ≡ Found (Str s) → first_by as_str ds ≡ Some s
at_str room None ds s e = absurd cc
at_str room (Some (negsuc n)) ds s e = absurd cc
at_str room (Some (pos n)) ds s e = by_str room n ds s e

-- the text of the operation at the front is the second element
pub front_str : (room : ℕ) (ds : List Data) (s : List ℕ) → front_of room ds ≡ Found (Str s) → first_by as_str (drop 1 ds) ≡ Some s
front_str room [] s e = absurd cc
front_str room (d ∷ ds) s e = at_str room (whole_in d) ds s e
