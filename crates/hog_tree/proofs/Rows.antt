-- Lists in trees: a tree holds a row where its parts are vectors, and the plain tree of a row is that of the
-- vector's items.
use Rattle.std.proofs.Common.{◌≡◌, List, [], ◌∷◌, ◌++◌, Option, Some, None, refl, sym, ap, ◌∙◌}
use mathlib.Core.Former.{Count}
use Rattle.std.specs.declared.boxed.Box.{Box}
use Rattle.std.specs.declared.alloc.Global.{Global}
use Rattle.hog_tree.specs.Plain as p
use Rattle.hog_tree.specs.Plain.{NoExp, MoreExp, NoPair, MorePair, NoneExp, SomeExp, NoneStm, SomeStm, NoneStms, SomeStms, Done, Then}
use Rattle.hog_tree.specs.View.{words_of, option_word_of, exp_of, exps_of, exps_from, part_of, parts_of, parts_from, dict_of, pairs_of, pairs_from, body_of, stm_of, stms_of, stms_from, option_exp_from, option_stm_from, option_stms_from}
use Rattle.hog_tree.specs.declared.tree.Named.{Named}
use Rattle.hog_tree.specs.declared.tree.Expr as e
use Rattle.hog_tree.specs.declared.tree.Expr.{Expr, Template', Array', Dict, Call', Row_of-Expr, end_of-Expr, more_of-Expr, items-the_row-Expr, items_hidden-the_row-Expr-2}
use Rattle.hog_tree.specs.declared.tree.Exprs.{Exprs}
use Rattle.hog_tree.specs.declared.tree.Parts.{Parts, Row_of-Part, end_of-Part, more_of-Part, items-the_row-Part, items_hidden-the_row-Part-1}
use Rattle.hog_tree.specs.declared.tree.ArrowBody.TheBlock.{struct-DictItems}
use Rattle.hog_tree.specs.declared.tree.DictItem.{DictItem}
use Rattle.hog_tree.specs.declared.tree.DictItems.{DictItems, Row_of-DictItem, end_of-DictItem, more_of-DictItem, items-the_row-DictItem, items_shown-the_row-DictItem-3, outs-DictItems'}
use Rattle.hog_tree.specs.declared.tree.ArrowBody.TheViews.{out-DictItems}
use Rattle.hog_tree.specs.declared.tree.ArrowBody as a
use Rattle.hog_tree.specs.declared.tree.ArrowBody.{ArrowBody}
use Rattle.hog_tree.specs.declared.tree.FunTree.{FunTree}
use Rattle.hog_tree.specs.declared.tree.Stmt as s
use Rattle.hog_tree.specs.declared.tree.Stmt.{Stmt, Row_of-Stmt, end_of-Stmt, more_of-Stmt, Held-Stmt-If-2, Stmt-If-2-None', Stmt-If-2-Some', items-the_row-Stmt, items_hidden-the_row-Stmt-0}
use Rattle.hog_tree.specs.declared.tree.Stmts.{Stmts}

-- one more at the end
abbrev pub add_exp : p.Exps → p.Exp → p.Exps
add_exp NoExp e = MoreExp e NoExp
add_exp (MoreExp x es) e = MoreExp x (add_exp es e)

abbrev pub add_stm : p.Stms → p.Stm → p.Stms
add_stm Done s = Then s Done
add_stm (Then r ss) s = Then r (add_stm ss s)

-- expressions

exp_rows : {m : _} (r : Row_of-Expr m) → exps_of r ≡ exps_from (items-the_row-Expr m r)
exp_rows end_of-Expr = refl
exp_rows (more_of-Expr x r) = ap (MoreExp (exp_of x)) (exp_rows r)

abbrev row_of : Expr → (m : Count) × Row_of-Expr m
row_of (Array' _ r) = (_, r)
row_of (Call' _ _ _ r) = (_, r)
row_of _ = (_, end_of-Expr)

pub array_is : (es : Exprs) → exp_of (e.Array es) ≡ p.Array (exps_from es.list.items)
array_is es =
    let r = row_of (e.Array es) in
    ap p.Array (exp_rows {m = r.0} r.1 ∙ ap exps_from (items_hidden-the_row-Expr-2 es.list))

pub call_is : (f : Box Expr Global) (es : Exprs) → exp_of (e.Call f es) ≡ p.Call (exp_of f.value) (exps_from es.list.items)
call_is f es =
    let r = row_of (e.Call f es) in
    ap (p.Call (exp_of f.value)) (exp_rows {m = r.0} r.1 ∙ ap exps_from (items_hidden-the_row-Expr-2 es.list))

-- templates

part_rows : {m : _} (r : Row_of-Part m) → parts_of r ≡ parts_from (items-the_row-Part m r)
part_rows end_of-Part = refl
part_rows (more_of-Part x r) = ap (part_of x) (part_rows r)

abbrev part_row_of : Expr → (m : Count) × Row_of-Part m
part_row_of (Template' _ r) = (_, r)
part_row_of _ = (_, end_of-Part)

pub template_is : (ps : Parts) → exp_of (e.Template ps) ≡ p.Template (parts_from ps.list.items)
template_is ps =
    let r = part_row_of (e.Template ps) in
    ap p.Template (part_rows {m = r.0} r.1 ∙ ap parts_from (items_hidden-the_row-Part-1 ps.list))

-- dictionaries

pair_rows : {m : _} (r : Row_of-DictItem m) → pairs_of r ≡ pairs_from (items-the_row-DictItem m r)
pair_rows end_of-DictItem = refl
pair_rows (more_of-DictItem k v r) = ap (MorePair (exp_of k) (exp_of v)) (pair_rows r)

abbrev items_of : DictItems → List DictItem
items_of (struct-DictItems m r) = items-the_row-DictItem _ r

listed : (ds : DictItems) → items_of ds ≡ (out-DictItems ds).list.items
listed (struct-DictItems m r) = rw (outs-DictItems' m r) (sym (items_shown-the_row-DictItem-3 m r))

rows_listed : (ds : DictItems) → dict_of ds ≡ pairs_from (items_of ds)
rows_listed (struct-DictItems m r) = pair_rows r

pub dict_is : (ds : DictItems) → exp_of (Dict ds) ≡ p.Dict (pairs_from (out-DictItems ds).list.items)
dict_is ds = ap p.Dict (rows_listed ds ∙ ap pairs_from (listed ds))

-- statements

stm_rows : {m : _} (r : Row_of-Stmt m) → stms_of r ≡ stms_from (items-the_row-Stmt m r)
stm_rows end_of-Stmt = refl
stm_rows (more_of-Stmt x r) = ap (Then (stm_of x)) (stm_rows r)

-- the rows of blocks: the first, and the second of an `if` or a `try`
abbrev block_of : Stmt → (m : Count) × Row_of-Stmt m
block_of (s.If' _ _ r _) = (_, r)
block_of (s.While' _ _ r) = (_, r)
block_of (s.For' _ _ _ _ r) = (_, r)
block_of (s.ForIn' _ _ _ _ r) = (_, r)
block_of (s.Fun' _ _ _ r) = (_, r)
block_of (s.Try' _ r _ _ _) = (_, r)
block_of (s.Block' _ r) = (_, r)
block_of _ = (_, end_of-Stmt)

abbrev held_of : Held-Stmt-If-2 → (m : Count) × Row_of-Stmt m
held_of (Stmt-If-2-Some' _ r) = (_, r)
held_of Stmt-If-2-None' = (_, end_of-Stmt)

abbrev other_of : Stmt → (m : Count) × Row_of-Stmt m
other_of (s.If' _ _ _ o) = held_of o
other_of (s.Try' _ _ _ _ r) = (_, r)
other_of _ = (_, end_of-Stmt)

rows_are : (x : (m : Count) × Row_of-Stmt m) (ss : Stmts) → items-the_row-Stmt x.0 x.1 ≡ ss.list.items → stms_of x.1 ≡ stms_from ss.list.items
rows_are x ss h = stm_rows {m = x.0} x.1 ∙ ap stms_from h

pub block_is : (ss : Stmts) → stm_of (s.Block ss) ≡ p.Block (stms_from ss.list.items)
block_is ss = ap p.Block (rows_are (block_of (s.Block ss)) ss (items_hidden-the_row-Stmt-0 ss.list))

pub while_is : (c : Expr) (ss : Stmts) → stm_of (s.While c ss) ≡ p.While (exp_of c) (stms_from ss.list.items)
while_is c ss = ap (p.While (exp_of c)) (rows_are (block_of (s.While c ss)) ss (items_hidden-the_row-Stmt-0 ss.list))

pub if_is : (c : Expr) (ss : Stmts) (o : Option Stmts) → stm_of (s.If c ss o) ≡ p.If (exp_of c) (stms_from ss.list.items) (option_stms_from o)
if_is c ss None = ap (λ b. p.If (exp_of c) b NoneStms) (rows_are (block_of (s.If c ss None)) ss (items_hidden-the_row-Stmt-0 ss.list))
if_is c ss (Some rs) =
    let x = s.If c ss (Some rs) in
    ap (λ b. p.If (exp_of c) b (SomeStms (stms_of (other_of x).1))) (rows_are (block_of x) ss (items_hidden-the_row-Stmt-0 ss.list))
    ∙ ap (λ b. p.If (exp_of c) (stms_from ss.list.items) (SomeStms b)) (rows_are (other_of x) rs (items_hidden-the_row-Stmt-0 rs.list))

pub try_is : (ss : Stmts) (n : Named) (rs : Stmts) → stm_of (s.Try ss n rs) ≡ p.Try (stms_from ss.list.items) n.word (stms_from rs.list.items)
try_is ss n rs =
    let x = s.Try ss n rs in
    ap (λ b. p.Try b n.word (stms_of (other_of x).1)) (rows_are (block_of x) ss (items_hidden-the_row-Stmt-0 ss.list))
    ∙ ap (λ b. p.Try (stms_from ss.list.items) n.word b) (rows_are (other_of x) rs (items_hidden-the_row-Stmt-0 rs.list))

pub for_in_is : (k : Option Named) (v : Named) (x : Expr) (ss : Stmts) → stm_of (s.ForIn k v x ss) ≡ p.ForIn (option_word_of k) v.word (exp_of x) (stms_from ss.list.items)
for_in_is k v x ss = ap (p.ForIn (option_word_of k) v.word (exp_of x)) (rows_are (block_of (s.ForIn k v x ss)) ss (items_hidden-the_row-Stmt-0 ss.list))

pub for_is : (b : Option (Box Stmt Global)) (c : Option Expr) (n : Option (Box Stmt Global)) (ss : Stmts)
    → stm_of (s.For b c n ss) ≡ p.For (option_stm_from b) (option_exp_from c) (option_stm_from n) (stms_from ss.list.items)
for_is None None None ss = ap (p.For NoneStm NoneExp NoneStm) (rows_are (block_of (s.For None None None ss)) ss (items_hidden-the_row-Stmt-0 ss.list))
for_is None None (Some n) ss = ap (p.For NoneStm NoneExp (SomeStm (stm_of n.value))) (rows_are (block_of (s.For None None (Some n) ss)) ss (items_hidden-the_row-Stmt-0 ss.list))
for_is None (Some c) None ss = ap (p.For NoneStm (SomeExp (exp_of c)) NoneStm) (rows_are (block_of (s.For None (Some c) None ss)) ss (items_hidden-the_row-Stmt-0 ss.list))
for_is None (Some c) (Some n) ss = ap (p.For NoneStm (SomeExp (exp_of c)) (SomeStm (stm_of n.value))) (rows_are (block_of (s.For None (Some c) (Some n) ss)) ss (items_hidden-the_row-Stmt-0 ss.list))
for_is (Some b) None None ss = ap (p.For (SomeStm (stm_of b.value)) NoneExp NoneStm) (rows_are (block_of (s.For (Some b) None None ss)) ss (items_hidden-the_row-Stmt-0 ss.list))
for_is (Some b) None (Some n) ss = ap (p.For (SomeStm (stm_of b.value)) NoneExp (SomeStm (stm_of n.value))) (rows_are (block_of (s.For (Some b) None (Some n) ss)) ss (items_hidden-the_row-Stmt-0 ss.list))
for_is (Some b) (Some c) None ss = ap (p.For (SomeStm (stm_of b.value)) (SomeExp (exp_of c)) NoneStm) (rows_are (block_of (s.For (Some b) (Some c) None ss)) ss (items_hidden-the_row-Stmt-0 ss.list))
for_is (Some b) (Some c) (Some n) ss = ap (p.For (SomeStm (stm_of b.value)) (SomeExp (exp_of c)) (SomeStm (stm_of n.value))) (rows_are (block_of (s.For (Some b) (Some c) (Some n) ss)) ss (items_hidden-the_row-Stmt-0 ss.list))

pub fun_is : (f : FunTree) → stm_of (s.Fun f) ≡ p.Fun f.name.word (words_of f.params) (stms_from f.body.list.items)
fun_is f = ap (p.Fun f.name.word (words_of f.params)) (rows_are (block_of (s.Fun f)) f.body (items_hidden-the_row-Stmt-0 f.body.list))

pub let_is : (n : Named) (o : Option Expr) → stm_of (s.Let n o) ≡ p.Let n.word (option_exp_from o)
let_is n None = refl
let_is n (Some x) = refl

pub return_is : (o : Option Expr) → stm_of (s.Return o) ≡ p.Return (option_exp_from o)
return_is None = refl
return_is (Some x) = refl

-- what stands after an arrow

abbrev body_row_of : ArrowBody → (m : Count) × Row_of-Stmt m
body_row_of (a.Block' _ r) = (_, r)
body_row_of _ = (_, end_of-Stmt)

pub body_is : (ss : Stmts) → body_of (a.Block ss) ≡ p.ManyStms (stms_from ss.list.items)
body_is ss = ap p.ManyStms (rows_are (body_row_of (a.Block ss)) ss (items_hidden-the_row-Stmt-0 ss.list))

-- one more at the end

pub exps_from-snoc : (xs : List Expr) (x : Expr) → exps_from (xs ++ x ∷ []) ≡ add_exp (exps_from xs) (exp_of x)
exps_from-snoc [] x = refl
exps_from-snoc (y ∷ xs) x = ap (MoreExp (exp_of y)) (exps_from-snoc xs x)

pub stms_from-snoc : (xs : List Stmt) (x : Stmt) → stms_from (xs ++ x ∷ []) ≡ add_stm (stms_from xs) (stm_of x)
stms_from-snoc [] x = refl
stms_from-snoc (y ∷ xs) x = ap (Then (stm_of y)) (stms_from-snoc xs x)
