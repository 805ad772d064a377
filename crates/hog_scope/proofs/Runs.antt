-- Events one after another.
use Rattle.std.proofs.Common.{◌≡◌, ℕ, ◌+◌, ◌<◌, List, [], ◌∷◌, ◌++◌, length, take, get_or, map, Bool, true, false, cond, Some, Result, Ok, Err, is_some, refl, sym, ap, ◌∙◌, arith, length-append, add-zero}
use Rattle.std.specs.Prelude.{slice_get}
use Rattle.std.specs.List.{filter_map, flat_map}
use Rattle.std.proofs.lemmas.List.{map-append, take_more}
use Rattle.std.proofs.lemmas.List.Elements.{filter_map-append}
use Rattle.hog_value.specs.Natives.{native_named}
use Rattle.hog_tree.specs.declared.tree.Named.{Named}
use Rattle.hog_tree.specs.declared.tree.Stmt.{Stmt}
use Rattle.hog_tree.specs.View.{stms_from}
use Rattle.hog_tree.specs.Plain.{Word}
use Rattle.hog_scope.specs.declared.item.Item.{Item}
use Rattle.hog_scope.specs.declared.item.Item.TheVariants as item
use Rattle.hog_scope.specs.declared.words.Event as e
use Rattle.hog_scope.specs.declared.words.Event.TheVariants as r
use Rattle.hog_scope.specs.Words.{Event, Opens, Closes, Declares, Binds, Reads, Assigns, Calls, Spells, stms_words}
use Rattle.hog_scope.specs.Literals.{item_count}
use Rattle.hog_scope.specs.Events.{event_of, name_in, stmt_words}
use Rattle.hog_scope.specs.Scopes.{AlreadyDeclared, Scope, opened, closed, with_seen, with_name, read_item, Known, Cause, step, run, onward, with_item, variable_in, seen_at, assigned_item, called_item}

pub stms_listed : (ss : List Stmt) → stms_words (stms_from ss) ≡ flat_map stmt_words ss
stms_listed [] = refl
stms_listed (s ∷ ss) = ap (λ r. stmt_words s ++ r) (stms_listed ss)

-- events go on from what is known after those before them
pub run-append : (es fs : List Event) (k m : Known) → run es k ≡ Ok m → run (es ++ fs) k ≡ run fs m
run-append [] fs k m ran = let same : k ≡ m = cc in ap (run fs) same
run-append (x ∷ es) fs k m ran = by (step x k) ran (λ n. run-append es fs n m)
  where
    by : (o : Result Known Cause) → onward (length k.items) o (run es) ≡ Ok m → ((n : Known) → run es n ≡ Ok m → run (es ++ fs) n ≡ run fs m)
        → onward (length k.items) o (run (es ++ fs)) ≡ run fs m
    by (Ok n) ran rest = rest n ran
    by (Err cause) ran rest = cc

-- one more event
pub run-one : (es : List Event) (x : Event) (k m n : Known) → run es k ≡ Ok m → step x m ≡ Ok n → run (es ++ x ∷ []) k ≡ Ok n
run-one es x k m n ran stepped = run-append es (x ∷ []) k m ran ∙ ap (λ o. onward (length m.items) o (run [])) stepped

-- a fault after some events is the first fault of them all
pub run-fault : (es fs : List Event) (x : Event) (k m : Known) (cause : Cause) → run es k ≡ Ok m → step x m ≡ Err cause
    → run (es ++ x ∷ fs) k ≡ Err (record { cause = cause; word = length m.items })
run-fault es fs x k m cause ran stepped = run-append es (x ∷ fs) k m ran ∙ ap (λ o. onward (length m.items) o (run fs)) stepped

-- what is known has the items it should
items_are : (k m : Known) {o : Result Known Cause} → o ≡ Ok k → o ≡ Ok m → k.items ≡ m.items
items_are k m is h = let same : k ≡ m = cc in ap (λ n. n.items) same

with_item_length : (k : Known) (o : Result Item Cause) (m : Known) → with_item k o ≡ Ok m → length m.items ≡ length k.items + 1
with_item_length k (Ok i) m h = sym (ap length (items_are (record k { items = k.items ++ i ∷ [] }) m refl h)) ∙ length-append k.items (i ∷ [])
with_item_length k (Err cause) m h = cc

closed_items : (k : Known) (around : List Scope) → (closed k around).items ≡ k.items
closed_items k [] = refl
closed_items k (s ∷ around) = refl

declared_length : (w : Word) (k : Known) (b : Bool) (m : Known)
    → cond b (Err AlreadyDeclared) (Ok (with_name k w)) ≡ Ok m → length m.items ≡ length k.items + 1
declared_length w k true m h = cc
declared_length w k false m h = sym (ap length (items_are (with_name k w) m refl h)) ∙ length-append k.items (item.Declared k.declared ∷ [])

-- each of them has an item
pub step_items : (x : Event) (k m : Known) → step x k ≡ Ok m → length m.items ≡ length k.items + item_count x
step_items Opens k m h = sym (ap length (items_are (opened k) m refl h)) ∙ sym (add-zero (length k.items))
step_items Closes k m h = sym (ap length (sym (closed_items k k.around) ∙ items_are (closed k k.around) m refl h)) ∙ sym (add-zero (length k.items))
step_items (Declares w) k m h = declared_length w k (is_some (variable_in k.scope w)) m h
step_items (Binds w) k m h = sym (ap length (items_are (record k { scope = with_seen k.scope w }) m refl h)) ∙ sym (add-zero (length k.items))
step_items (Reads w) k m h = with_item_length k (Ok (read_item (seen_at k w))) m h
step_items (Assigns w) k m h = with_item_length k (assigned_item (seen_at k w)) m h
step_items (Calls w n) k m h = with_item_length k (called_item (seen_at k w) (native_named w) n) m h
step_items (Spells t) k m h = sym (ap length (items_are k m refl h)) ∙ sym (add-zero (length k.items))

-- what is wrong is wrong with a word that names something
pub fault_named : (x : e.Event) (k : Known) (cause : Cause) → step (event_of x) k ≡ Err cause → (n : Named) × (name_in x ≡ Some n)
fault_named r.Opens k cause h = absurd cc
fault_named r.Closes k cause h = absurd cc
fault_named (r.Declares n) k cause h = (n.now, refl)
fault_named (r.Binds n) k cause h = absurd cc
fault_named (r.Reads n) k cause h = (n.now, refl)
fault_named (r.Assigns n) k cause h = (n.now, refl)
fault_named (r.Calls n count) k cause h = (n.now, refl)
fault_named (r.Spells t) k cause h = absurd cc

-- the words that name something, counted
pub named_length : (x : e.Event) → length (filter_map name_in (x ∷ [])) ≡ item_count (event_of x)
named_length r.Opens = refl
named_length r.Closes = refl
named_length (r.Declares n) = refl
named_length (r.Binds n) = refl
named_length (r.Reads n) = refl
named_length (r.Assigns n) = refl
named_length (r.Calls n count) = refl
named_length (r.Spells t) = refl

pub slice_get-middle : {A : Type 0} (xs : List A) (x : A) (ys : List A) → slice_get (xs ++ x ∷ ys) (length xs) ≡ Some x
slice_get-middle [] x ys = refl
slice_get-middle (y ∷ xs) x ys = slice_get-middle xs x ys

-- one more event of a list, after the first i
module _ (xs : List e.Event) (i : ℕ) (x : e.Event) (lt : i < length xs) (is : x ≡ get_or xs i x) (k m n : Known) where
  taken : take (i + 1) xs ≡ take i xs ++ x ∷ []
  taken = take_more xs i x lt ∙ ap (λ y. take i xs ++ y ∷ []) (sym is)

  pub run_more : run (map event_of (take i xs)) k ≡ Ok m → step (event_of x) m ≡ Ok n → run (map event_of (take (i + 1) xs)) k ≡ Ok n
  run_more ran stepped =
      ap (λ es. run es k) (ap (map event_of) taken ∙ map-append event_of (take i xs) (x ∷ []))
      ∙ run-one (map event_of (take i xs)) (event_of x) k m n ran stepped

  pub named_more : length m.items ≡ length (filter_map name_in (take i xs)) → step (event_of x) m ≡ Ok n
      → length n.items ≡ length (filter_map name_in (take (i + 1) xs))
  named_more named_so stepped =
      let one = named_length x in
      let all = ap length (ap (filter_map name_in) taken ∙ filter_map-append name_in (take i xs) (x ∷ [])) in
      let sum = length-append (filter_map name_in (take i xs)) (filter_map name_in (x ∷ [])) in
      let more = step_items (event_of x) m n stepped in
      omega (arith, one, all, sum, more, named_so)
