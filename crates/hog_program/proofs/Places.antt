-- Which word of a whole program has the first fault: one of the text's own, and never one of the prelude's.
use Rattle.std.proofs.Common.{◌≡◌, ℕ, zero, suc, ◌+◌, ◌<◌, List, [], ◌∷◌, ◌++◌, length, drop, Bool, true, false, cond, Some, Result, Ok, Err, is_some, ◌||◌, if◌then◌else◌, refl, sym, ap, ap₂, subst, ◌∙◌, arith, length-append, append-nil, add-zero, zero-add, suc-add}
use Rattle.std.specs.Prelude.{slice_get, sum_by, codes}
use Rattle.std.specs.List.{filter_map, flat_map}
use Rattle.std.specs.Result.{is_ok}
use Rattle.std.proofs.Math.Seq.{drop-append_seam}
use Rattle.std.proofs.lemmas.Grind.{flat_map-append}
use Rattle.std.proofs.lemmas.List.{length-map}
use Rattle.std.proofs.lemmas.List.Sums.{sum_by-append, sum_by-cons}
use Rattle.hog_value.specs.Natives.{native_named}
use Rattle.hog_tree.specs.declared.tree.Named.{Named}
use Rattle.hog_tree.specs.declared.tree.Stmt.{Stmt}
use Rattle.hog_tree.specs.declared.tree.Tree.{Tree}
use Rattle.hog_tree.specs.Names.{stm_names, tree_names}
use Rattle.hog_tree.specs.Plain.{Word, Stms, Done, Then}
use Rattle.hog_tree.specs.View.{tree_of}
use Rattle.hog_grammar.specs.declared.token.Token.{Token}
use Rattle.hog_grammar.specs.Names.{names_in}
use Rattle.hog_grammar.specs.Pieces.{Lexed}
use Rattle.hog_scope.specs.declared.item.Item.{Item}
use Rattle.hog_scope.specs.declared.item.Item.TheVariants as item
use Rattle.hog_scope.specs.Literals.{item_count}
use Rattle.hog_scope.specs.Scopes.{Scope, Known, Cause, AlreadyDeclared, Fault, start, step, run, onward, items_at, items_of, opened, closed, with_seen, with_name, with_item, read_item, assigned_item, called_item, variable_in, seen_at}
use Rattle.hog_scope.specs.Words.{Event, Opens, Closes, Declares, Binds, Reads, Assigns, Calls, Spells, scope_of, stms_words}
use Rattle.hog_scope.proofs.NamedWords.{naming, tree_named}
use Rattle.hog_program.specs.Prelude.{array_map, array_filter, array_exists, mentions, with_prelude, words_in_front}
use Rattle.hog_program.proofs.Preludes.{whole, functions}

-- what is known has the items that it should
items_are : (k m : Known) {o : Result Known Cause} → o ≡ Ok k → o ≡ Ok m → m.items ≡ k.items
items_are k m is h = let same : k ≡ m = cc in ap (λ n. n.items) (sym same)

as_many : (k n m : Known) {o : Result Known Cause} → n.items ≡ k.items → o ≡ Ok n → o ≡ Ok m → length m.items ≡ length k.items + 0
as_many k n m kept is h = ap length (items_are n m is h ∙ kept) ∙ sym (add-zero (length k.items))

with_item_length : (k : Known) (o : Result Item Cause) (m : Known) → with_item k o ≡ Ok m → length m.items ≡ length k.items + 1
with_item_length k (Ok i) m h = ap length (items_are (record k { items = k.items ++ i ∷ [] }) m refl h) ∙ length-append k.items (i ∷ [])
with_item_length k (Err cause) m h = absurd cc

closed_items : (k : Known) (around : List Scope) → (closed k around).items ≡ k.items
closed_items k [] = refl
closed_items k (s ∷ around) = refl

declared_length : (w : Word) (k : Known) (b : Bool) (m : Known)
    → cond b (Err AlreadyDeclared) (Ok (with_name k w)) ≡ Ok m → length m.items ≡ length k.items + 1
declared_length w k true m h = absurd cc
declared_length w k false m h = ap length (items_are (with_name k w) m refl h) ∙ length-append k.items (item.Declared k.declared ∷ [])

-- an event that is gone through adds the item of its word
step_items : (e : Event) (k m : Known) → step e k ≡ Ok m → length m.items ≡ length k.items + item_count e
step_items Opens k m h = as_many k (opened k) m refl refl h
step_items Closes k m h = as_many k (closed k k.around) m (closed_items k k.around) refl h
step_items (Declares w) k m h = declared_length w k (is_some (variable_in k.scope w)) m h
step_items (Binds w) k m h = as_many k (record k { scope = with_seen k.scope w }) m refl refl h
step_items (Reads w) k m h = with_item_length k (Ok (read_item (seen_at k w))) m h
step_items (Assigns w) k m h = with_item_length k (assigned_item (seen_at k w)) m h
step_items (Calls w n) k m h = with_item_length k (called_item (seen_at k w) (native_named w) n) m h
step_items (Spells t) k m h = as_many k k m refl refl h

-- what is wrong is wrong with a word that names something
step_faulty : (e : Event) (k : Known) (cause : Cause) → step e k ≡ Err cause → item_count e ≡ 1
step_faulty Opens k cause h = absurd cc
step_faulty Closes k cause h = absurd cc
step_faulty (Declares w) k cause h = refl
step_faulty (Binds w) k cause h = absurd cc
step_faulty (Reads w) k cause h = refl
step_faulty (Assigns w) k cause h = refl
step_faulty (Calls w n) k cause h = refl
step_faulty (Spells t) k cause h = absurd cc

-- events go on from what is known after those before them
run-append : (es fs : List Event) (k m : Known) → run es k ≡ Ok m → run (es ++ fs) k ≡ run fs m
run-append [] fs k m ran = let same : k ≡ m = cc in ap (run fs) same
run-append (e ∷ es) fs k m ran = by (step e k) ran (λ n. run-append es fs n m)
  where
    by : (o : Result Known Cause) → onward (length k.items) o (run es) ≡ Ok m → ((n : Known) → run es n ≡ Ok m → run (es ++ fs) n ≡ run fs m)
        → onward (length k.items) o (run (es ++ fs)) ≡ run fs m
    by (Ok n) ran rest = rest n ran
    by (Err cause) ran rest = absurd cc

-- events that are gone through add the items of their words
run_items : (es : List Event) (k m : Known) → run es k ≡ Ok m → length m.items ≡ length k.items + sum_by item_count es
run_items [] k m ran = let same : k ≡ m = cc in ap (λ n. length n.items) (sym same) ∙ sym (add-zero (length k.items))
run_items (e ∷ es) k m ran = by (step e k) refl ran (λ n. run_items es n m)
  where
    by : (o : Result Known Cause) → step e k ≡ o → onward (length k.items) o (run es) ≡ Ok m
        → ((n : Known) → run es n ≡ Ok m → length m.items ≡ length n.items + sum_by item_count es)
        → length m.items ≡ length k.items + sum_by item_count (e ∷ es)
    by (Ok n) is ran rest = let a = rest n ran in let b = step_items e k n is in let c = sum_by-cons item_count e es in omega (arith, a, b, c)
    by (Err cause) is ran rest = absurd cc

-- the faulty word is one of these events', and stands behind those that are known
pub record StandsBehind (known words faulty : ℕ) : Type 0 where
  pub before : ℕ
  pub behind : faulty ≡ known + before
  pub few : before < words

run_faulty : (es : List Event) (k : Known) (f : Fault) → run es k ≡ Err f → StandsBehind (length k.items) (sum_by item_count es) f.word
run_faulty [] k f ran = absurd cc
run_faulty (e ∷ es) k f ran = by (step e k) refl ran (λ n. run_faulty es n f)
  where
    by : (o : Result Known Cause) → step e k ≡ o → onward (length k.items) o (run es) ≡ Err f
        → ((n : Known) → run es n ≡ Err f → StandsBehind (length n.items) (sum_by item_count es) f.word)
        → StandsBehind (length k.items) (sum_by item_count (e ∷ es)) f.word
    by (Ok n) is ran rest =
        let r = rest n ran in
        let items = step_items e k n is in
        let all = sum_by-cons item_count e es in
        record { before = item_count e + r.before; behind = omega (arith, items, r.behind); few = omega (arith, all, r.few) }
    by (Err cause) is ran rest =
        let here : length k.items ≡ f.word = (let same : ◌≡◌ {A = Result Known Fault} (Err (record { cause = cause; word = length k.items })) (Err f) = ran in cc) in
        let one = step_faulty e k cause is in
        let all = sum_by-cons item_count e es in
        record { before = 0; behind = omega (arith, here); few = omega (arith, one, all) }

-- the functions of the prelude that are wanted stand before these statements
abbrev placed_if : Bool → Bool → Bool → Stms → Stms
placed_if maps filters tests rest =
    if maps then Then array_map (if filters then Then array_filter (if tests then Then array_exists rest else rest) else (if tests then Then array_exists rest else rest))
    else (if filters then Then array_filter (if tests then Then array_exists rest else rest) else (if tests then Then array_exists rest else rest))

in_front : (maps filters tests : Bool) → placed_if maps filters tests Done ≡ functions maps filters tests
in_front true true true = refl
in_front true true false = refl
in_front true false true = refl
in_front true false false = refl
in_front false true true = refl
in_front false true false = refl
in_front false false true = refl
in_front false false false = refl

-- the words of the text's own statements behind those functions, in a block if there are some
abbrev own : Bool → Bool → Bool → List Event → List Event
own maps filters tests words = if maps || (filters || (tests || false)) then scope_of words ++ [] else words

own_words : (maps filters tests : Bool) (program : Stms)
    → stms_words (whole maps filters tests program) ≡ stms_words (functions maps filters tests) ++ own maps filters tests (stms_words program)
own_words true true true program = refl
own_words true true false program = refl
own_words true false true program = refl
own_words true false false program = refl
own_words false true true program = refl
own_words false true false program = refl
own_words false false true program = refl
own_words false false false program = refl

own_count : (block : Bool) (words : List Event) → sum_by item_count (if block then scope_of words ++ [] else words) ≡ sum_by item_count words
own_count true words =
    let a = sum_by-append item_count words (Closes ∷ []) in
    let b = sum_by-append item_count (scope_of words) [] in
    let c = sum_by-cons item_count Opens (words ++ Closes ∷ []) in
    omega (arith, a, b, c)
own_count false words = refl

-- the functions of the prelude have no fault
is_known : (r : Result Known Fault) → is_ok r ≡ true → (k : Known) × (r ≡ Ok k)
is_known (Ok k) h = (k, refl)
is_known (Err f) h = absurd cc

goes_through : (maps filters tests : Bool) → is_ok (run (stms_words (functions maps filters tests)) start) ≡ true
unfolding native_named
goes_through true true true = refl
goes_through true true false = refl
goes_through true false true = refl
goes_through true false false = refl
goes_through false true true = refl
goes_through false true false = refl
goes_through false false true = refl
goes_through false false false = refl

at_fault : (r : Result Known Fault) (f : Fault) → items_at r ≡ Err f → r ≡ Err f
at_fault (Ok k) f h = absurd cc
at_fault (Err g) f h = let same : ◌≡◌ {A = Result (List Item) Fault} (Err g) (Err f) = h in cc

-- The first fault is with a word of the text's own.
module _ (program : Stms) (f : Fault) where
  stands : (maps filters tests : Bool) → items_of (whole maps filters tests program) ≡ Err f
      → StandsBehind (sum_by item_count (stms_words (functions maps filters tests))) (sum_by item_count (stms_words program)) f.word
  stands maps filters tests h =
      let front = stms_words (functions maps filters tests) in
      let words = own maps filters tests (stms_words program) in
      let k = is_known (run front start) (goes_through maps filters tests) in
      let ran : run words k.0 ≡ Err f =
      sym (run-append front words start k.0 k.1) ∙ ap (λ es. run es start) (sym (own_words maps filters tests program)) ∙ at_fault _ f h in
      let known = run_items front start k.0 k.1 in
      let count = own_count (maps || (filters || (tests || false))) (stms_words program) in
      let r = run_faulty words k.0 f ran in
      record { before = r.before; behind = omega (arith, known, r.behind); few = omega (arith, count, r.few) }

pub stands_behind : (c : Lexed) (program : Stms) (f : Fault) → items_of (with_prelude c program) ≡ Err f
    → StandsBehind (words_in_front c) (sum_by item_count (stms_words program)) f.word
stands_behind c program f h =
    let maps = mentions c (codes "arrayMap") in
    let filters = mentions c (codes "arrayFilter") in
    let tests = mentions c (codes "arrayExists") in
    subst (λ (ss : Stms). StandsBehind (sum_by item_count (stms_words ss)) (sum_by item_count (stms_words program)) f.word)
    (sym (in_front maps filters tests)) (stands program f maps filters tests h)

-- a tree has as many names as words that name something
naming_more : (e : Event) (es : List Event) → length (filter_map naming (e ∷ es)) ≡ item_count e + length (filter_map naming es)
naming_more Opens es = omega arith
naming_more Closes es = omega arith
naming_more (Declares w) es = omega arith
naming_more (Binds w) es = omega arith
naming_more (Reads w) es = omega arith
naming_more (Assigns w) es = omega arith
naming_more (Calls w n) es = omega arith
naming_more (Spells t) es = omega arith

naming_count : (es : List Event) → length (filter_map naming es) ≡ sum_by item_count es
naming_count [] = refl
naming_count (e ∷ es) = let a = naming_more e es in let b = naming_count es in let c = sum_by-cons item_count e es in omega (arith, a, b, c)

pub names_counted : (t : Tree) → length (tree_names t) ≡ sum_by item_count (stms_words (tree_of t))
names_counted t = sym (length-map (tree_names t) (λ n. n.word)) ∙ ap length (tree_named t) ∙ naming_count (stms_words (tree_of t))

-- the names of the functions that are placed are as many as are in front
pub placed_count : (c : Lexed) (t : Tree)
    → tree_of t ≡ functions (mentions c (codes "arrayMap")) (mentions c (codes "arrayFilter")) (mentions c (codes "arrayExists"))
    → length (tree_names t) ≡ words_in_front c
placed_count c t is =
    let maps = mentions c (codes "arrayMap") in
    let filters = mentions c (codes "arrayFilter") in
    let tests = mentions c (codes "arrayExists") in
    names_counted t ∙ ap (λ (ss : Stms). sum_by item_count (stms_words ss)) (is ∙ sym (in_front maps filters tests))

-- the n-th behind some
drop-nil : {A : Type 0} (n : ℕ) → drop n (let xs : List A = [] in xs) ≡ []
drop-nil zero = refl
drop-nil (suc n) = refl

drop_get : {A : Type 0} (n i : ℕ) (xs : List A) → slice_get (drop n xs) i ≡ slice_get xs (n + i)
drop_get n i [] = ap (λ ys. slice_get ys i) (drop-nil n)
drop_get zero i (x ∷ xs) = ap (slice_get (x ∷ xs)) (sym (zero-add i))
drop_get (suc n) i (x ∷ xs) = drop_get n i xs ∙ ap (slice_get (x ∷ xs)) (sym (suc-add n i))

is_there : {A : Type 0} (i : ℕ) (xs : List A) → i < length xs → (x : A) × (slice_get xs i ≡ Some x)
is_there i [] h = absurd (omega (arith, h))
is_there zero (x ∷ xs) h = (x, refl)
is_there (suc i) (x ∷ xs) h = is_there i xs (omega (arith, h))

-- The faulty word of a whole program among the names of its tree and of its text.
pub record IsOwn (text : List ℕ) (list : List Token) (names : List Named) (word : ℕ) : Type 0 where
  pub before : ℕ
  pub behind : word ≡ words_in_front (record { text = text; list = list }) + before
  pub name : Named
  pub named : slice_get (names_in text list) before ≡ Some name
  pub there : slice_get names word ≡ Some name

pub own_word : (c : Lexed) (t : Tree) (names : List Named) → tree_names t ≡ names_in c.text c.list → drop (words_in_front c) names ≡ tree_names t
    → (f : Fault) → items_of (with_prelude c (tree_of t)) ≡ Err f → IsOwn c.text c.list names f.word
own_word c t names same behind f h =
    let s = stands_behind c (tree_of t) f h in
    let count = names_counted t in
    let long = ap length same in
    let n = is_there s.before (names_in c.text c.list) (omega (arith, s.few, count, long)) in
    record {
      before = s.before;
      behind = s.behind;
      name = n.0;
      named = n.1;
      there = ap (slice_get names) s.behind ∙ sym (drop_get (words_in_front c) s.before names) ∙ ap (λ xs. slice_get xs s.before) (behind ∙ same) ∙ n.1;
    }

-- the names behind those in front
pub behind_names : (front : ℕ) (xs : List Stmt) (b : Stmt) (own : List Named) → length (flat_map stm_names xs) ≡ front → stm_names b ≡ own
    → drop front (flat_map stm_names (xs ++ b ∷ [])) ≡ own
behind_names front xs b own count is =
    let all : flat_map stm_names (xs ++ b ∷ []) ≡ flat_map stm_names xs ++ own =
    flat_map-append stm_names xs (b ∷ []) ∙ ap (λ ys. flat_map stm_names xs ++ ys) (append-nil (stm_names b) ∙ is) in
    ap₂ drop (sym count) all ∙ drop-append_seam (flat_map stm_names xs) own
