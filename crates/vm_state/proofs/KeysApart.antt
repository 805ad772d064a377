-- A value of JSON that was read has each key of an object once, and so has a dictionary into which one key more is set.
use Rattle.std.proofs.Common.{◌≡◌, ℕ, List, [], ◌∷◌, Option, Some, None, Bool, true, false, cond, is_eq, refl, sym, ap, ◌∙◌, subst}
use Rattle.std.specs.Prelude.{bytes_eq, option_map, option_and_then, unwrap_or}
use Rattle.std.specs.List.{AllByRecursion, IsDistinct}
use Rattle.std.specs.Map.{keys_of}
use Rattle.std.specs.declared.cmp.Ordering.{Ordering}
use Rattle.std.specs.declared.cmp.Ordering.TheVariants.{Less, Equal, Greater}
use Rattle.std.specs.Ordering.{nat_cmp, match_ordering, ordering_reverse}
use Rattle.std.specs.Cmp.Lexicographic.{slice_cmp, nat_list_eq_equiv}
use Rattle.std.proofs.lemmas.Cmp.{nat_list_cmp_total}
use Rattle.std.proofs.lemmas.Map.Text.{is_eq-slice_cmp}
use Rattle.indexmap.specs.IndexMap.{insert_entry}
use Rattle.json.specs.Json as json
use Rattle.json.specs.Lex.{tokens}
use Rattle.serde_json.specs.Data.{Num, Data, null, boolean, number, string, array, object, Items, no_items, item, Members, no_members, member, put}
use Rattle.serde_json.specs.Read.{of_json, of_items, of_members, number_of, max_depth, read}
use Rattle.hog_value.specs.Values.{Val}
use Rattle.hog_json.specs.Reading.{kept_value}

-- dictionaries

abbrev pub KeysDiffer : List (List ℕ × Val) → Type 0
KeysDiffer ps = IsDistinct bytes_eq (keys_of ps)

-- what holds of each key and of one more
all_keys : (P : List ℕ → Type 0) (ps : List (List ℕ × Val)) (key : List ℕ) (v : Val) → AllByRecursion P (keys_of ps) → P key → AllByRecursion P (keys_of (insert_entry bytes_eq ps key v))
all_keys P [] key v h q = (q, tt)
all_keys P (p ∷ ps) key v h q = go (all_keys P ps key v h.1 q) (bytes_eq key p.0)
  where
    go : AllByRecursion P (keys_of (insert_entry bytes_eq ps key v)) → (b : Bool) → AllByRecursion P (keys_of (cond b ((p.0, v) ∷ ps) (p ∷ insert_entry bytes_eq ps key v)))
    go rest true = h
    go rest false = (h.0, rest)

pub no_keys : KeysDiffer []
unfolding IsDistinct
no_keys = tt

pub keys_differ_with : (ps : List (List ℕ × Val)) (key : List ℕ) (v : Val) → KeysDiffer ps → KeysDiffer (insert_entry bytes_eq ps key v)
unfolding IsDistinct
keys_differ_with [] key v h = (tt, tt)
keys_differ_with (p ∷ ps) key v h = go (keys_differ_with ps key v h.1) (bytes_eq key p.0) refl
  where
    go : KeysDiffer (insert_entry bytes_eq ps key v) → (b : Bool) → bytes_eq key p.0 ≡ b → IsDistinct bytes_eq (keys_of (cond b ((p.0, v) ∷ ps) (p ∷ insert_entry bytes_eq ps key v)))
    go rest true e = h
    go rest false e = (all_keys (λ y. bytes_eq p.0 y ≡ false) ps key v h.0 (nat_list_eq_equiv.symm p.0 key ∙ e), rest)

-- values of JSON: the keys of an object are in order

abbrev Less_than : List ℕ → Members → Type 0
Less_than k no_members = Unit {0}
Less_than k (member l d ms) = (slice_cmp nat_cmp k l ≡ Less) × Less_than k ms

abbrev mutual
  pub InOrder : Data → Type 0
  InOrder null = Unit {0}
  InOrder (boolean b) = Unit {0}
  InOrder (number n) = Unit {0}
  InOrder (string s) = Unit {0}
  InOrder (array ds) = ItemsInOrder ds
  InOrder (object ms) = MembersInOrder ms

  pub ItemsInOrder : Items → Type 0
  ItemsInOrder no_items = Unit {0}
  ItemsInOrder (item d ds) = InOrder d × ItemsInOrder ds

  pub MembersInOrder : Members → Type 0
  MembersInOrder no_members = Unit {0}
  MembersInOrder (member k d ms) = Less_than k ms × InOrder d × MembersInOrder ms

less_again : (k l : List ℕ) (ms : Members) → slice_cmp nat_cmp k l ≡ Less → Less_than l ms → Less_than k ms
less_again k l no_members e h = tt
less_again k l (member m d ms) e h = (nat_list_cmp_total.trans k l m e h.0, less_again k l ms e h.1)

less_with : (l k : List ℕ) (d : Data) (ms : Members) → slice_cmp nat_cmp l k ≡ Less → Less_than l ms → Less_than l (put k d ms)
less_with l k d no_members e h = (e, tt)
less_with l k d (member m x ms) e h = go (less_with l k d ms e h.1) (slice_cmp nat_cmp k m)
  where
    go : Less_than l (put k d ms) → (o : Ordering) → Less_than l (match_ordering o (member k d (member m x ms)) (member m d ms) (member m x (put k d ms)))
    go rest Less = (e, h)
    go rest Equal = h
    go rest Greater = (h.0, rest)

put_in_order : (k : List ℕ) (d : Data) (ms : Members) → InOrder d → MembersInOrder ms → MembersInOrder (put k d ms)
put_in_order k d no_members q h = (tt, q, tt)
put_in_order k d (member l x ms) q h = go (put_in_order k d ms q h.2) (slice_cmp nat_cmp k l) refl
  where
    go : MembersInOrder (put k d ms) → (o : Ordering) → slice_cmp nat_cmp k l ≡ o → MembersInOrder (match_ordering o (member k d (member l x ms)) (member l d ms) (member l x (put k d ms)))
    go rest Less e = ((e, less_again k l ms e h.0), q, h)
    go rest Equal e = (h.0, q, h.2)
    go rest Greater e = (less_with l k d ms (nat_list_cmp_total.antisymm l k ∙ ap ordering_reverse e) h.0, h.1, rest)

abbrev Maybe : {A : Type 0} → (A → Type 0) → Option A → Type 0
Maybe P None = Unit {0}
Maybe P (Some a) = P a

maybe_map : {A B : Type 0} (P : A → Type 0) (Q : B → Type 0) (f : A → B) (o : Option A) → ((a : A) → P a → Q (f a)) → Maybe P o → Maybe Q (option_map f o)
maybe_map P Q f None go h = tt
maybe_map P Q f (Some a) go h = go a h

maybe_then : {A B : Type 0} (P : A → Type 0) (Q : B → Type 0) (f : A → Option B) (o : Option A) → ((a : A) → P a → Maybe Q (f a)) → Maybe P o → Maybe Q (option_and_then f o)
maybe_then P Q f None go h = tt
maybe_then P Q f (Some a) go h = go a h

any_number : (o : Option Num) → Maybe InOrder (option_map number o)
any_number None = tt
any_number (Some n) = tt

mutual
  json_in_order : (j : json.Json) → Maybe InOrder (of_json j)
  json_in_order json.null = tt
  json_in_order (json.boolean b) = tt
  json_in_order (json.number s) = any_number (number_of s)
  json_in_order (json.string s) = tt
  json_in_order (json.array js) = maybe_map ItemsInOrder InOrder array (of_items js) (λ ds h. h) (items_in_order js)
  json_in_order (json.object ms) = maybe_map MembersInOrder InOrder object (of_members ms no_members) (λ ds h. h) (members_in_order ms no_members tt)

  items_in_order : (js : json.Items) → Maybe ItemsInOrder (of_items js)
  items_in_order json.no_items = tt
  items_in_order (json.item j js) =
      maybe_then InOrder ItemsInOrder (λ d. option_map (item d) (of_items js)) (of_json j)
      (λ d h. maybe_map ItemsInOrder ItemsInOrder (item d) (of_items js) (λ ds k. (h, k)) (items_in_order js)) (json_in_order j)

  members_in_order : (ms : json.Members) (found : Members) → MembersInOrder found → Maybe MembersInOrder (of_members ms found)
  members_in_order json.no_members found h = h
  members_in_order (json.member k j ms) found h =
      maybe_then InOrder MembersInOrder (λ d. of_members ms (put k d found)) (of_json j) (λ d q. members_in_order ms (put k d found) (put_in_order k d found q h)) (json_in_order j)

all_maybe : {A : Type 0} (P : A → Type 0) (o : Option A) → ((a : A) → P a) → Maybe P o
all_maybe P None go = tt
all_maybe P (Some a) go = go a

pub read_in_order : (text : List ℕ) (d : Data) → read text ≡ Some d → InOrder d
read_in_order text d e =
    let j : Option json.Json = option_and_then (λ p. json.if_last p.0 p.1) (json.value max_depth (tokens text)) in
    let all : Maybe InOrder (read text) = maybe_then (λ x. Unit {0}) InOrder of_json j (λ x h. json_in_order x) (all_maybe (λ x. Unit {0}) j (λ x. tt)) in
    subst (Maybe InOrder) e all

pub kept_in_order : (text : List ℕ) → InOrder (kept_value text)
unfolding kept_value
kept_in_order text = go (read text) (λ d. read_in_order text d)
  where
    go : (o : Option Data) → ((d : Data) → o ≡ Some d → InOrder d) → InOrder (unwrap_or o null)
    go None h = tt
    go (Some d) h = h d refl

-- the keys of members, which are those of the dictionary that they are read into

abbrev pub keys_in : Members → List (List ℕ)
keys_in no_members = []
keys_in (member k d ms) = k ∷ keys_in ms

differs : (k l : List ℕ) → slice_cmp nat_cmp k l ≡ Less → bytes_eq k l ≡ false
differs k l e = sym (is_eq-slice_cmp k l) ∙ ap is_eq e

differ_all : (k : List ℕ) (ms : Members) → Less_than k ms → AllByRecursion (λ y. bytes_eq k y ≡ false) (keys_in ms)
differ_all k no_members h = tt
differ_all k (member l d ms) h = (differs k l h.0, differ_all k ms h.1)

pub keys_apart : (ms : Members) → MembersInOrder ms → IsDistinct bytes_eq (keys_in ms)
unfolding IsDistinct
keys_apart no_members h = tt
keys_apart (member k d ms) h = (differ_all k ms h.0, keys_apart ms h.2)
