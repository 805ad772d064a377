-- Lists of a tree, as loops go over them.
use Rattle.std.proofs.Common.{◌≡◌, suc, length, List, [], ◌∷◌, ◌++◌, refl, sym, ap, ◌∙◌}
use Rattle.std.specs.List.{flat_map}
use Rattle.hog_tree.specs.declared.tree.Named.{Named}
use Rattle.hog_tree.specs.declared.tree.Expr.{Row_of-Expr, end_of-Expr, more_of-Expr, items-the_row-Expr}
use Rattle.hog_tree.specs.declared.tree.Part as t
use Rattle.hog_tree.specs.declared.tree.Part.{Part}
use Rattle.hog_tree.specs.declared.tree.Parts.{Row_of-Part, end_of-Part, more_of-Part, items-the_row-Part}
use Rattle.hog_tree.specs.declared.tree.ArrowBody.TheBlock.{struct-DictItems}
use Rattle.hog_tree.specs.declared.tree.DictItems.{DictItems, out-DictItems, Row_of-DictItem, end_of-DictItem, more_of-DictItem, items-the_row-DictItem, items_shown-the_row-DictItem-3}
use Rattle.hog_tree.specs.declared.tree.Stmt.{Row_of-Stmt, end_of-Stmt, more_of-Stmt, items-the_row-Stmt}
use Rattle.hog_tree.specs.View.{words_of, exps_of, parts_of, pairs_of, stms_of, dict_of}
use Rattle.hog_scope.specs.Words.{count_of, all_declared, declared, exps_words, parts_words, pairs_words, stms_words}
use Rattle.hog_tree.specs.Names.{exp_names, exps_names, part_names, parts_names, pairs_names, dict_names, stm_names, stms_names}
use Rattle.hog_scope.specs.Events.{expr_words, part_words, item_words, item_names, stmt_words}

pub all_declared-append : (xs ys : List Named) → all_declared (words_of (xs ++ ys)) ≡ all_declared (words_of xs) ++ all_declared (words_of ys)
all_declared-append [] ys = refl
all_declared-append (x ∷ xs) ys = ap (λ r. declared x.word ++ r) (all_declared-append xs ys)

pub exps_rows : {m : _} (k : Row_of-Expr m) → exps_words (exps_of k) ≡ flat_map expr_words (items-the_row-Expr m k)
exps_rows end_of-Expr = refl
exps_rows (more_of-Expr x k) = ap (λ r. expr_words x ++ r) (exps_rows k)

pub exps_named : {m : _} (k : Row_of-Expr m) → exps_names k ≡ flat_map exp_names (items-the_row-Expr m k)
exps_named end_of-Expr = refl
exps_named (more_of-Expr x k) = ap (λ r. exp_names x ++ r) (exps_named k)

pub parts_rows : {m : _} (k : Row_of-Part m) → parts_words (parts_of k) ≡ flat_map part_words (items-the_row-Part m k)
parts_rows end_of-Part = refl
parts_rows (more_of-Part (t.Text w) k) = ap (λ r. part_words (t.Text w) ++ r) (parts_rows k)
parts_rows (more_of-Part (t.Hole x) k) = ap (λ r. expr_words x ++ r) (parts_rows k)

pub parts_named : {m : _} (k : Row_of-Part m) → parts_names k ≡ flat_map part_names (items-the_row-Part m k)
parts_named end_of-Part = refl
parts_named (more_of-Part x k) = ap (λ r. part_names x ++ r) (parts_named k)

pub pairs_rows : {m : _} (k : Row_of-DictItem m) → pairs_words (pairs_of k) ≡ flat_map item_words (items-the_row-DictItem m k)
pairs_rows end_of-DictItem = refl
pairs_rows (more_of-DictItem x y k) = ap (λ r. (expr_words x ++ expr_words y) ++ r) (pairs_rows k)

pub pairs_named : {m : _} (k : Row_of-DictItem m) → pairs_names k ≡ flat_map item_names (items-the_row-DictItem m k)
pairs_named end_of-DictItem = refl
pairs_named (more_of-DictItem x y k) = ap (λ r. (exp_names x ++ exp_names y) ++ r) (pairs_named k)

pub stms_rows : {m : _} (k : Row_of-Stmt m) → stms_words (stms_of k) ≡ flat_map stmt_words (items-the_row-Stmt m k)
stms_rows end_of-Stmt = refl
stms_rows (more_of-Stmt x k) = ap (λ r. stmt_words x ++ r) (stms_rows k)

pub stms_named : {m : _} (k : Row_of-Stmt m) → stms_names k ≡ flat_map stm_names (items-the_row-Stmt m k)
stms_named end_of-Stmt = refl
stms_named (more_of-Stmt x k) = ap (λ r. stm_names x ++ r) (stms_named k)

pub dict_rows : (ds : DictItems) → pairs_words (dict_of ds) ≡ flat_map item_words (out-DictItems ds).list.items
unfolding out-DictItems denote.Hole.Carrier.out
dict_rows (struct-DictItems m k) = pairs_rows {m = _} k ∙ ap (flat_map item_words) (sym (items_shown-the_row-DictItem-3 m k))

pub dict_named : (ds : DictItems) → dict_names ds ≡ flat_map item_names (out-DictItems ds).list.items
unfolding out-DictItems denote.Hole.Carrier.out
dict_named (struct-DictItems m k) = pairs_named {m = _} k ∙ ap (flat_map item_names) (sym (items_shown-the_row-DictItem-3 m k))

pub count_rows : {m : _} (k : Row_of-Expr m) → count_of (exps_of k) ≡ length (items-the_row-Expr m k)
count_rows end_of-Expr = refl
count_rows (more_of-Expr x k) = ap suc (count_rows k)
