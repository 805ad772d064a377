-- How many items a tree has.
use Rattle.std.proofs.Common.{◌≡◌, ◌+◌, List, [], ◌∷◌, length, Result, Ok, Err, refl, sym, ap, ◌∙◌, arith, add-zero, zero-add}
use Rattle.std.specs.List.{filter_map}
use Rattle.std.proofs.lemmas.List.{length-map}
use Rattle.hog_tree.specs.declared.tree.Tree.{Tree}
use Rattle.hog_tree.specs.View.{tree_of}
use Rattle.hog_scope.specs.declared.item.Item.{Item}
use Rattle.hog_scope.specs.Words.{Event, Opens, Closes, Declares, Binds, Reads, Assigns, Calls, Spells, stms_words}
use Rattle.hog_tree.specs.Names.{tree_names}
use Rattle.hog_scope.specs.Literals.{item_count}
use Rattle.hog_scope.specs.Scopes.{Known, Cause, Fault, start, step, run, onward, items_at}
use Rattle.hog_scope.specs.Stops.{located, resolution}
use Rattle.hog_scope.proofs.Runs.{step_items}
use Rattle.hog_scope.proofs.NamedWords.{naming, tree_named}

naming_more : (e : Event) (es : List Event) → length (filter_map naming (e ∷ es)) ≡ item_count e + length (filter_map naming es)
naming_more Opens es = omega arith
naming_more Closes es = omega arith
naming_more (Declares w) es = omega arith
naming_more (Binds w) es = omega arith
naming_more (Reads w) es = omega arith
naming_more (Assigns w) es = omega arith
naming_more (Calls w n) es = omega arith
naming_more (Spells t) es = omega arith

run_items : (es : List Event) (k m : Known) → run es k ≡ Ok m → length m.items ≡ length k.items + length (filter_map naming es)
run_items [] k m h = let same : k ≡ m = cc in ap (λ n. length n.items) (sym same) ∙ sym (add-zero (length k.items))
run_items (e ∷ es) k m h = by (step e k) refl h (λ n. run_items es n m)
  where
    by : (o : Result Known Cause) → step e k ≡ o → onward (length k.items) o (run es) ≡ Ok m
        → ((n : Known) → run es n ≡ Ok m → length m.items ≡ length n.items + length (filter_map naming es))
        → length m.items ≡ length k.items + length (filter_map naming (e ∷ es))
    by (Ok n) is h rest = let a = rest n h in let b = step_items e k n is in let c = naming_more e es in omega (arith, a, b, c)
    by (Err cause) is h rest = absurd cc

-- a resolved tree has one item for each word that names something
pub items_counted : (t : Tree) (items : List Item) → resolution t ≡ Ok items → length items ≡ length (tree_names t)
items_counted t items h = by (run (stms_words (tree_of t)) start) refl h
  where
    by : (o : Result Known Fault) → run (stms_words (tree_of t)) start ≡ o → located (tree_names t) (items_at o) ≡ Ok items → length items ≡ length (tree_names t)
    by (Ok m) ran h =
        let same : m.items ≡ items = cc in
        let n = run_items (stms_words (tree_of t)) start m ran in
        ap length (sym same) ∙ n ∙ zero-add (length (filter_map naming (stms_words (tree_of t)))) ∙ ap length (sym (tree_named t)) ∙ length-map (tree_names t) (λ n. n.word)
    by (Err fault) ran h = absurd cc
