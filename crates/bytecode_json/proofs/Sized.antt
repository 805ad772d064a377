-- An array that is read has at most as many items as its text has bytes, and one.
use Rattle.std.proofs.Common.{◌≡◌, ◌≤◌, ◌<◌, ℕ, zero, suc, ◌+◌, List, [], ◌∷◌, length, Bool, true, false, Option, Some, None, refl, sym, ap, ◌∙◌, subst, arith}
use Rattle.std.proofs.lemmas.Option.{some_pair_parts, same_Some}
use Rattle.std.specs.Prelude.{option_map, option_and_then}
use Rattle.json.specs.Token.{Token}
use Rattle.json.specs.Token as t
use Rattle.json.specs.Json.{Json, Items, Members, no_items, item, no_members, member, Parse, parse_map, after_end_array, read_key, items_step, members_step, items, members, value_with, value, if_last}
use Rattle.json.specs.Json as json
use Rattle.json.specs.Lex.{Lexeme, token, comma, colon, Mode, between, in_word, in_string, in_escape, Class, quote, backslash, operator, space, other, class, lex_byte, lex, Place, fresh, after_value, after_comma, after_key, begins_colon, may_begin, may_close, if_allowed, place_token, punctuate, tokens}
use Rattle.serde_json.specs.Data.{Data, array}
use Rattle.serde_json.specs.Data as d
use Rattle.serde_json.specs.Read.{number_of, of_json, of_items, of_members, max_depth, read}
use Rattle.bytecode_json.specs.Text.{items_list}

-- ---- tokens

lexed : (m : Mode) (c : Class) (x : ℕ) (xs : List ℕ) (k : Mode → List Lexeme) → ((n : Mode) → length (k n) ≤ length xs) → length (lex_byte m c x xs k) ≤ suc (length xs)
lexed between quote x xs k h = omega (arith, h in_string)
lexed between backslash x xs k h = omega (arith, h in_word)
lexed between operator x xs k h = omega (arith, h between)
lexed between space x xs k h = omega (arith, h between)
lexed between other x xs k h = omega (arith, h in_word)
lexed in_word quote x xs k h = omega (arith, h in_word)
lexed in_word backslash x xs k h = omega (arith, h in_word)
lexed in_word operator x xs k h = omega (arith, h between)
lexed in_word space x xs k h = omega (arith, h between)
lexed in_word other x xs k h = omega (arith, h in_word)
lexed in_string quote x xs k h = omega (arith, h between)
lexed in_string backslash x xs k h = omega (arith, h in_escape)
lexed in_string operator x xs k h = omega (arith, h in_string)
lexed in_string space x xs k h = omega (arith, h in_string)
lexed in_string other x xs k h = omega (arith, h in_string)
lexed in_escape c x xs k h = omega (arith, h in_string)

length-lex : (m : Mode) (xs : List ℕ) → length (lex m xs) ≤ length xs
unfolding lex
length-lex m [] = omega arith
length-lex m (x ∷ xs) = lexed m (class x) x xs (λ n. lex n xs) (λ n. length-lex n xs)

allowed : (b : Bool) (x : Token) (n : ℕ) (k : Place → List Token) (p : Place) → length (k p) ≤ suc n → length (if_allowed b x k p) ≤ suc (suc n)
allowed true x n k p h = omega (arith, h)
allowed false x n k p h = omega arith

placed : (p : Place) (x : Token) (b : Bool) (n : ℕ) (k : Place → List Token) → ((q : Place) → length (k q) ≤ suc n) → length (place_token p x b k) ≤ suc (suc n)
placed p t.begin_object b n k h = allowed (may_begin p) t.begin_object n k fresh (h fresh)
placed p t.end_object b n k h = allowed (may_close p) t.end_object n k after_value (h after_value)
placed p t.begin_array b n k h = allowed (may_begin p) t.begin_array n k fresh (h fresh)
placed p t.end_array b n k h = allowed (may_close p) t.end_array n k after_value (h after_value)
placed p (t.key s) b n k h = omega arith
placed p (t.string s) true n k h = allowed (may_begin p) (t.key s) n k after_key (h after_key)
placed p (t.string s) false n k h = allowed (may_begin p) (t.string s) n k after_value (h after_value)
placed p (t.number s) b n k h = allowed (may_begin p) (t.number s) n k after_value (h after_value)
placed p (t.boolean v) b n k h = allowed (may_begin p) (t.boolean v) n k after_value (h after_value)
placed p t.null b n k h = allowed (may_begin p) t.null n k after_value (h after_value)
placed p t.bad b n k h = omega arith

length-punctuate : (p : Place) (ls : List Lexeme) → length (punctuate p ls) ≤ suc (length ls)
unfolding punctuate
length-punctuate fresh [] = omega arith
length-punctuate after_value [] = omega arith
length-punctuate after_comma [] = omega arith
length-punctuate after_key [] = omega arith
length-punctuate p (token x ∷ ls) = placed p x (begins_colon ls) (length ls) (λ next. punctuate next ls) (λ q. length-punctuate q ls)
length-punctuate fresh (comma ∷ ls) = omega arith
length-punctuate after_value (comma ∷ ls) = omega (arith, length-punctuate after_comma ls)
length-punctuate after_comma (comma ∷ ls) = omega arith
length-punctuate after_key (comma ∷ ls) = omega arith
length-punctuate fresh (colon ∷ ls) = omega arith
length-punctuate after_value (colon ∷ ls) = omega arith
length-punctuate after_comma (colon ∷ ls) = omega arith
length-punctuate after_key (colon ∷ ls) = omega (arith, length-punctuate fresh ls)

-- ---- values

abbrev count : Items → ℕ
count no_items = 0
count (item j js) = suc (count js)

-- what is left behind a value is shorter
abbrev Shortens : {A : Type 0} → Parse A → Type 0
Shortens {A} f = (ts : List Token) (a : A) (rest : List Token) → f ts ≡ Some (a, rest) → suc (length rest) ≤ length ts

map_is : {A B : Type 0} (f : A → B) (r : Option (A × List Token)) (b : B) (rest : List Token) → parse_map f r ≡ Some (b, rest) → (a : A) × (r ≡ Some (a, rest)) × (f a ≡ b)
map_is f None b rest e = absurd cc
map_is f (Some p) b rest e = let h = some_pair_parts (f p.0) b p.1 rest e in (p.0, ap (λ x. Some (p.0, x)) h.1, h.0)

then_is : {A B : Type 0} (f : A → Option B) (o : Option A) (b : B) → option_and_then f o ≡ Some b → (a : A) × (o ≡ Some a) × (f a ≡ Some b)
then_is f None b e = absurd cc
then_is f (Some a) b e = (a, refl, e)

end_array_shorter : (ts rest : List Token) → after_end_array ts ≡ Some rest → suc (length rest) ≤ length ts
end_array_shorter [] rest e = absurd cc
end_array_shorter (t.begin_object ∷ ts) rest e = absurd cc
end_array_shorter (t.end_object ∷ ts) rest e = absurd cc
end_array_shorter (t.begin_array ∷ ts) rest e = absurd cc
end_array_shorter (t.end_array ∷ ts) rest e = let same : ts ≡ rest = cc in omega (arith, ap length same)
end_array_shorter (t.key s ∷ ts) rest e = absurd cc
end_array_shorter (t.string s ∷ ts) rest e = absurd cc
end_array_shorter (t.number s ∷ ts) rest e = absurd cc
end_array_shorter (t.boolean b ∷ ts) rest e = absurd cc
end_array_shorter (t.null ∷ ts) rest e = absurd cc
end_array_shorter (t.bad ∷ ts) rest e = absurd cc

key_shorter : (ts : List Token) (k : Option (List ℕ)) (rest : List Token) → read_key ts ≡ Some (k, rest) → suc (length rest) ≤ length ts
key_shorter [] k rest e = absurd cc
key_shorter (t.begin_object ∷ ts) k rest e = absurd cc
key_shorter (t.end_object ∷ ts) k rest e = omega (arith, ap length (some_pair_parts None k ts rest e).1)
key_shorter (t.begin_array ∷ ts) k rest e = absurd cc
key_shorter (t.end_array ∷ ts) k rest e = absurd cc
key_shorter (t.key s ∷ ts) k rest e = omega (arith, ap length (some_pair_parts (Some s) k ts rest e).1)
key_shorter (t.string s ∷ ts) k rest e = absurd cc
key_shorter (t.number s ∷ ts) k rest e = absurd cc
key_shorter (t.boolean b ∷ ts) k rest e = absurd cc
key_shorter (t.null ∷ ts) k rest e = absurd cc
key_shorter (t.bad ∷ ts) k rest e = absurd cc

-- what is left behind items is shorter by as many as there are, and their end
abbrev Counts : Parse Items → Type 0
Counts g = (ts : List Token) (js : Items) (rest : List Token) → g ts ≡ Some (js, rest) → suc (count js + length rest) ≤ length ts

items_more : (f : Parse Json) (g : Parse Items) → Shortens f → Counts g → (ts : List Token) (js : Items) (rest : List Token) (o : Option (List Token)) → after_end_array ts ≡ o → items_step f g ts o ≡ Some (js, rest)
    → suc (count js + length rest) ≤ length ts
items_more f g h k ts js rest (Some left) is e = let p = some_pair_parts no_items js left rest e in omega (arith, end_array_shorter ts left is, ap length p.1, ap count p.0)
items_more f g h k ts js rest None is e =
    let a = then_is (λ p. parse_map (item p.0) (g p.1)) (f ts) (js, rest) e in
    let b = map_is (item a.0.0) (g a.0.1) js rest a.2 in
    omega (arith, h ts a.0.0 a.0.1 a.1, k a.0.1 b.0 rest b.1, ap count b.2)

items_count : (f : Parse Json) → Shortens f → (n : ℕ) → Counts (items f n)
unfolding items
items_count f h zero ts js rest e = absurd cc
items_count f h (suc n) ts js rest e = items_more f (items f n) h (items_count f h n) ts js rest (after_end_array ts) refl e

members_more : (f : Parse Json) (g : Parse Members) → Shortens f → Shortens g → (k : Option (List ℕ)) (left : List Token) (ms : Members) (rest : List Token) → members_step f g k left ≡ Some (ms, rest) → length rest ≤ length left
members_more f g h k None left ms rest e = omega (arith, ap length (some_pair_parts no_members ms left rest e).1)
members_more f g h k (Some key) left ms rest e =
    let a = then_is (λ p. parse_map (member key p.0) (g p.1)) (f left) (ms, rest) e in
    let b = map_is (member key a.0.0) (g a.0.1) ms rest a.2 in
    omega (arith, h left a.0.0 a.0.1 a.1, k a.0.1 b.0 rest b.1)

members_shorter : (f : Parse Json) → Shortens f → (n : ℕ) → Shortens (members f n)
unfolding members
members_shorter f h zero ts ms rest e = absurd cc
members_shorter f h (suc n) ts ms rest e =
    let a = then_is (λ p. members_step f (members f n) p.0 p.1) (read_key ts) (ms, rest) e in
    omega (arith, key_shorter ts a.0.0 a.0.1 a.1, members_more f (members f n) h (members_shorter f h n) a.0.0 a.0.1 ms rest a.2)

-- a value takes a token, and an array as many as it has items
record Took (ts : List Token) (j : Json) (rest : List Token) : Type 0 where
  shorter : suc (length rest) ≤ length ts
  items : (js : Items) → j ≡ json.array js → suc (count js + length rest) ≤ length ts

one_taken : (x : Token) (ts : List Token) (j k : Json) (rest : List Token) → ((js : Items) → j ≡ json.array js → ⊥) → ◌≡◌ {A = Option (Json × List Token)} (Some (j, ts)) (Some (k, rest)) → Took (x ∷ ts) k rest
one_taken x ts j k rest differs e =
    let p = some_pair_parts j k ts rest e in
    record { shorter = omega (arith, ap length p.1); items = λ js is. absurd (differs js (p.0 ∙ is)) }

taken : (a : Parse Items) (o : Parse Members) → Counts a → Shortens o → (ts : List Token) (j : Json) (rest : List Token) → value_with a o ts ≡ Some (j, rest) → Took ts j rest
taken a o ha ho [] j rest e = absurd cc
taken a o ha ho (t.begin_object ∷ ts) j rest e =
    let b = map_is json.object (o ts) j rest e in
    record { shorter = omega (arith, ho ts b.0 rest b.1); items = λ js is. let same : json.object b.0 ≡ json.array js = b.2 ∙ is in absurd cc }
taken a o ha ho (t.end_object ∷ ts) j rest e = absurd cc
taken a o ha ho (t.begin_array ∷ ts) j rest e =
    let b = map_is json.array (a ts) j rest e in
    record { shorter = omega (arith, ha ts b.0 rest b.1); items = λ js is. let same : b.0 ≡ js = array_same b.0 js (b.2 ∙ is) in omega (arith, ha ts b.0 rest b.1, ap count same) }
  where
    array_same : (js ks : Items) → json.array js ≡ json.array ks → js ≡ ks
    array_same js ks e = cc
taken a o ha ho (t.end_array ∷ ts) j rest e = absurd cc
taken a o ha ho (t.key s ∷ ts) j rest e = absurd cc
taken a o ha ho (t.string s ∷ ts) j rest e = one_taken (t.string s) ts (json.string s) j rest (λ js is. cc) e
taken a o ha ho (t.number s ∷ ts) j rest e = one_taken (t.number s) ts (json.number s) j rest (λ js is. cc) e
taken a o ha ho (t.boolean b ∷ ts) j rest e = one_taken (t.boolean b) ts (json.boolean b) j rest (λ js is. cc) e
taken a o ha ho (t.null ∷ ts) j rest e = one_taken t.null ts json.null j rest (λ js is. cc) e
taken a o ha ho (t.bad ∷ ts) j rest e = absurd cc

value_took : (depth : ℕ) (ts : List Token) (j : Json) (rest : List Token) → value depth ts ≡ Some (j, rest) → Took ts j rest
unfolding value
value_took zero ts j rest e = taken (λ _. None) (λ _. None) (λ us js r k. absurd cc) (λ us ms r k. absurd cc) ts j rest e
value_took (suc depth) ts j rest e =
    let shortens : Shortens (value depth) = λ us k r h. (value_took depth us k r h).shorter in
    taken (λ us. items (value depth) (length us) us) (λ us. members (value depth) (length us) us) (λ us js r h. items_count (value depth) shortens (length us) us js r h)
    (λ us ms r h. members_shorter (value depth) shortens (length us) us ms r h) ts j rest e

items_same : (js : Items) (ds : d.Items) → of_items js ≡ Some ds → length (items_list ds) ≡ count js
items_same no_items ds e = ap (λ xs. length (items_list xs)) (sym (same_Some d.no_items ds e))
items_same (item j js) ds e =
    let a = then_is (λ x. option_map (d.item x) (of_items js)) (of_json j) ds e in
    let b = tail_is a.0 (of_items js) ds a.2 in
    omega (arith, ap (λ xs. length (items_list xs)) b.2, items_same js b.0 b.1)
  where
    tail_is : (x : Data) (o : Option d.Items) (ds : d.Items) → option_map (d.item x) o ≡ Some ds → (xs : d.Items) × (o ≡ Some xs) × (d.item x xs ≡ ds)
    tail_is x None ds e = absurd cc
    tail_is x (Some xs) ds e = (xs, refl, same_Some (d.item x xs) ds e)

mapped : {A B : Type 0} (f : A → B) (o : Option A) (b : B) → option_map f o ≡ Some b → (a : A) × (o ≡ Some a) × (f a ≡ b)
mapped f None b e = absurd cc
mapped f (Some a) b e = (a, refl, same_Some (f a) b e)

array_from : (j : Json) (ds : d.Items) → of_json j ≡ Some (array ds) → (js : Items) × (j ≡ json.array js) × (of_items js ≡ Some ds)
array_from json.null ds e = absurd cc
array_from (json.boolean b) ds e = absurd cc
array_from (json.number s) ds e = let m = mapped d.number (number_of s) (array ds) e in let same : d.number m.0 ≡ array ds = m.2 in absurd cc
array_from (json.string s) ds e = absurd cc
array_from (json.array js) ds e =
    let m = mapped array (of_items js) (array ds) e in
    let same : array m.0 ≡ array ds = m.2 in
    let inner : m.0 ≡ ds = cc in
    (js, refl, m.1 ∙ ap Some inner)
array_from (json.object ms) ds e = let m = mapped d.object (of_members ms d.no_members) (array ds) e in let same : d.object m.0 ≡ array ds = m.2 in absurd cc

last_is : (j k : Json) (ts : List Token) → if_last j ts ≡ Some k → j ≡ k
last_is j k [] e = same_Some j k e
last_is j k (x ∷ ts) e = absurd cc

-- an array that is read has at most as many items as its text has bytes, and one
pub length-items : (text : List ℕ) (ds : d.Items) → read text ≡ Some (array ds) → length (items_list ds) ≤ length text + 1
length-items text ds e =
    let a = then_is of_json (option_and_then (λ p. if_last p.0 p.1) (value max_depth (tokens text))) (array ds) e in
    let b = then_is (λ p. if_last p.0 p.1) (value max_depth (tokens text)) a.0 a.1 in
    let last = last_is b.0.0 a.0 b.0.1 b.2 in
    let c = array_from a.0 ds a.2 in
    let took = value_took max_depth (tokens text) b.0.0 b.0.1 b.1 in
    omega (arith, took.items c.0 (last ∙ c.1), items_same c.0 ds c.2, length-lex between text, length-punctuate fresh (lex between text))
