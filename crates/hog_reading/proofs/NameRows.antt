-- The names of forms that hold lists or options are those of what the vectors and options hold.
use Rattle.std.proofs.Common.{◌≡◌, List, [], ◌∷◌, ◌++◌, Option, Some, None, refl, sym, ap, ap₂, ◌∙◌}
use Rattle.std.specs.List.{flat_map}
use Rattle.std.specs.declared.boxed.Box.{Box}
use Rattle.std.specs.declared.alloc.Global.{Global}
use mathlib.Core.Former.{Count}
use Rattle.hog_tree.specs.declared.tree.Named.{Named}
use Rattle.hog_tree.specs.declared.tree.Expr as e
use Rattle.hog_tree.specs.declared.tree.Expr.{Expr, Template', Array', Call', Row_of-Expr, end_of-Expr, more_of-Expr, items-the_row-Expr, items_hidden-the_row-Expr-2}
use Rattle.hog_tree.specs.declared.tree.Exprs.{Exprs}
use Rattle.hog_tree.specs.declared.tree.Parts.{Parts, Row_of-Part, end_of-Part, more_of-Part, items-the_row-Part, items_hidden-the_row-Part-1}
use Rattle.hog_tree.specs.declared.tree.ArrowBody.TheBlock.{struct-DictItems}
use Rattle.hog_tree.specs.declared.tree.DictItems.{DictItems, out-DictItems, Row_of-DictItem, end_of-DictItem, more_of-DictItem, items-the_row-DictItem, items_shown-the_row-DictItem-3}
use Rattle.hog_tree.specs.declared.tree.FunTree.{FunTree}
use Rattle.hog_tree.specs.declared.tree.Stmts.{Stmts}
use Rattle.hog_tree.specs.declared.tree.ArrowBody as a
use Rattle.hog_tree.specs.declared.tree.ArrowBody.{ArrowBody}
use Rattle.hog_tree.specs.declared.tree.Stmt as s
use Rattle.hog_tree.specs.declared.tree.Stmt.{Stmt, Row_of-Stmt, end_of-Stmt, more_of-Stmt, items-the_row-Stmt, items_hidden-the_row-Stmt-0, Held-Stmt-If-2, Stmt-If-2-None', Stmt-If-2-Some', Held-Stmt-For-0, Stmt-For-0-None', Held-Stmt-Let-1, Stmt-Let-1-None'}
use Rattle.hog_tree.specs.Names as n
use Rattle.hog_tree.specs.Names.{option_name, exp_names, exps_names, part_names, parts_names, pairs_names, dict_names, body_names, stm_names}
use Rattle.hog_reading.specs.NamesOf.{stmts_names, list_names, entry_names, entries_names, option_exp_names, option_stm_names, option_stmts_names}

exps_named : {m : _} (k : Row_of-Expr m) → exps_names k ≡ flat_map exp_names (items-the_row-Expr m k)
exps_named end_of-Expr = refl
exps_named (more_of-Expr x k) = ap (λ r. exp_names x ++ r) (exps_named k)

parts_named : {m : _} (k : Row_of-Part m) → parts_names k ≡ flat_map part_names (items-the_row-Part m k)
parts_named end_of-Part = refl
parts_named (more_of-Part x k) = ap (λ r. part_names x ++ r) (parts_named k)

pairs_named : {m : _} (k : Row_of-DictItem m) → pairs_names k ≡ flat_map entry_names (items-the_row-DictItem m k)
pairs_named end_of-DictItem = refl
pairs_named (more_of-DictItem x y k) = ap (λ r. (exp_names x ++ exp_names y) ++ r) (pairs_named k)

stms_named : {m : _} (k : Row_of-Stmt m) → n.stms_names k ≡ flat_map stm_names (items-the_row-Stmt m k)
stms_named end_of-Stmt = refl
stms_named (more_of-Stmt x k) = ap (λ r. stm_names x ++ r) (stms_named k)

-- the row in which each form keeps its list
abbrev exps_row : Expr → (m : Count) × Row_of-Expr m
exps_row (Array' _ row) = (_, row)
exps_row (Call' _ _ _ row) = (_, row)
exps_row _ = (_, end_of-Expr)

abbrev parts_row : Expr → (m : Count) × Row_of-Part m
parts_row (Template' _ row) = (_, row)
parts_row _ = (_, end_of-Part)

abbrev body_row : ArrowBody → (m : Count) × Row_of-Stmt m
body_row (a.Block' _ row) = (_, row)
body_row _ = (_, end_of-Stmt)

abbrev stms_row : Stmt → (m : Count) × Row_of-Stmt m
stms_row (s.While' _ _ row) = (_, row)
stms_row (s.If' _ _ row _) = (_, row)
stms_row (s.For' _ _ _ _ row) = (_, row)
stms_row (s.ForIn' _ _ _ _ row) = (_, row)
stms_row (s.Fun' _ _ _ row) = (_, row)
stms_row (s.Try' _ row _ _ _) = (_, row)
stms_row (s.Block' _ row) = (_, row)
stms_row _ = (_, end_of-Stmt)

abbrev held_row : Held-Stmt-If-2 → (m : Count) × Row_of-Stmt m
held_row (Stmt-If-2-Some' _ row) = (_, row)
held_row Stmt-If-2-None' = (_, end_of-Stmt)

-- the block of an `else`, and that of a `catch`
abbrev other_row : Stmt → (m : Count) × Row_of-Stmt m
other_row (s.If' _ _ _ o) = held_row o
other_row (s.Try' _ _ _ _ row) = (_, row)
other_row _ = (_, end_of-Stmt)

-- expressions

pub array_names : (xs : Exprs) → exp_names (e.Array xs) ≡ list_names xs
array_names xs = let r = exps_row (e.Array xs) in exps_named {m = r.0} r.1 ∙ ap (flat_map exp_names) (items_hidden-the_row-Expr-2 xs.list)

pub call_names : (f : Box Expr Global) (xs : Exprs) → exp_names (e.Call f xs) ≡ exp_names f.value ++ list_names xs
call_names f xs =
    let r = exps_row (e.Call f xs) in
    ap (λ w. exp_names f.value ++ w) (exps_named {m = r.0} r.1 ∙ ap (flat_map exp_names) (items_hidden-the_row-Expr-2 xs.list))

pub template_names : (ps : Parts) → exp_names (e.Template ps) ≡ flat_map part_names ps.list.items
template_names ps = let r = parts_row (e.Template ps) in parts_named {m = r.0} r.1 ∙ ap (flat_map part_names) (items_hidden-the_row-Part-1 ps.list)

dict_named : (ds : DictItems) → dict_names ds ≡ entries_names ds
unfolding out-DictItems denote.Hole.Carrier.out
dict_named (struct-DictItems m k) = pairs_named {m = _} k ∙ ap (flat_map entry_names) (sym (items_shown-the_row-DictItem-3 m k))

pub dictionary_names : (ds : DictItems) → exp_names (e.Dict ds) ≡ entries_names ds
dictionary_names ds = dict_named ds

pub block_body_names : (ss : Stmts) → body_names (a.Block ss) ≡ stmts_names ss
block_body_names ss = let r = body_row (a.Block ss) in stms_named {m = r.0} r.1 ∙ ap (flat_map stm_names) (items_hidden-the_row-Stmt-0 ss.list)

-- statements

pub block_names : (ss : Stmts) → stm_names (s.Block ss) ≡ stmts_names ss
block_names ss = let r = stms_row (s.Block ss) in stms_named {m = r.0} r.1 ∙ ap (flat_map stm_names) (items_hidden-the_row-Stmt-0 ss.list)

pub while_names : (c : Expr) (ss : Stmts) → stm_names (s.While c ss) ≡ exp_names c ++ stmts_names ss
while_names c ss = let r = stms_row (s.While c ss) in ap (λ w. exp_names c ++ w) (stms_named {m = r.0} r.1 ∙ ap (flat_map stm_names) (items_hidden-the_row-Stmt-0 ss.list))

pub if_names : (c : Expr) (b : Stmts) (o : Option Stmts) → stm_names (s.If c b o) ≡ exp_names c ++ stmts_names b ++ option_stmts_names o
if_names c b None =
    let r = stms_row (s.If c b None) in
    ap (λ w. exp_names c ++ w ++ []) (stms_named {m = r.0} r.1 ∙ ap (flat_map stm_names) (items_hidden-the_row-Stmt-0 b.list))
if_names c b (Some d) =
    let r = stms_row (s.If c b (Some d)) in
    let q = other_row (s.If c b (Some d)) in
    ap₂ (λ w v. exp_names c ++ w ++ v)
    (stms_named {m = r.0} r.1 ∙ ap (flat_map stm_names) (items_hidden-the_row-Stmt-0 b.list))
    (stms_named {m = q.0} q.1 ∙ ap (flat_map stm_names) (items_hidden-the_row-Stmt-0 d.list))

abbrev start_held : Stmt → Held-Stmt-For-0
start_held (s.For' a _ _ _ _) = a
start_held _ = Stmt-For-0-None'

abbrev test_held : Stmt → Held-Stmt-Let-1
test_held (s.For' _ c _ _ _) = c
test_held _ = Stmt-Let-1-None'

abbrev step_held : Stmt → Held-Stmt-For-0
step_held (s.For' _ _ n _ _) = n
step_held _ = Stmt-For-0-None'

module _ (a : Option (Box Stmt Global)) (c : Option Expr) (m : Option (Box Stmt Global)) (b : Stmts) where
  start_names : n.option_stm_names (start_held (s.For a c m b)) ≡ option_stm_names a
  start_names = elim a as (λ x. n.option_stm_names (start_held (s.For x c m b)) ≡ option_stm_names x) [ None ↦ refl | Some _ ↦ refl ]

  test_names : n.option_exp_names (test_held (s.For a c m b)) ≡ option_exp_names c
  test_names = elim c as (λ x. n.option_exp_names (test_held (s.For a x m b)) ≡ option_exp_names x) [ None ↦ refl | Some _ ↦ refl ]

  step_names : n.option_stm_names (step_held (s.For a c m b)) ≡ option_stm_names m
  step_names = elim m as (λ x. n.option_stm_names (step_held (s.For a c x b)) ≡ option_stm_names x) [ None ↦ refl | Some _ ↦ refl ]

  for_body_names : n.stms_names {m = (stms_row (s.For a c m b)).0} (stms_row (s.For a c m b)).1 ≡ stmts_names b
  for_body_names = let r = stms_row (s.For a c m b) in stms_named {m = r.0} r.1 ∙ ap (flat_map stm_names) (items_hidden-the_row-Stmt-0 b.list)

  pub for_names : stm_names (s.For a c m b) ≡ option_stm_names a ++ option_exp_names c ++ option_stm_names m ++ stmts_names b
  for_names =
      let e1 = start_names in let e2 = test_names in let e3 = step_names in let e4 = for_body_names in cc

pub for_in_names : (k : Option Named) (v : Named) (x : Expr) (b : Stmts) → stm_names (s.ForIn k v x b) ≡ option_name k ++ v ∷ exp_names x ++ stmts_names b
for_in_names k v x b =
    let r = stms_row (s.ForIn k v x b) in
    ap (λ w. option_name k ++ v ∷ exp_names x ++ w) (stms_named {m = r.0} r.1 ∙ ap (flat_map stm_names) (items_hidden-the_row-Stmt-0 b.list))

pub fun_names : (f : FunTree) → stm_names (s.Fun f) ≡ f.name ∷ f.params ++ stmts_names f.body
fun_names f =
    let r = stms_row (s.Fun f) in
    ap (λ w. f.name ∷ f.params ++ w) (stms_named {m = r.0} r.1 ∙ ap (flat_map stm_names) (items_hidden-the_row-Stmt-0 f.body.list))

pub try_names : (b : Stmts) (w : Named) (h : Stmts) → stm_names (s.Try b w h) ≡ stmts_names b ++ w ∷ stmts_names h
try_names b w h =
    let r = stms_row (s.Try b w h) in
    let q = other_row (s.Try b w h) in
    ap₂ (λ x y. x ++ w ∷ y)
    (stms_named {m = r.0} r.1 ∙ ap (flat_map stm_names) (items_hidden-the_row-Stmt-0 b.list))
    (stms_named {m = q.0} q.1 ∙ ap (flat_map stm_names) (items_hidden-the_row-Stmt-0 h.list))

pub let_names : (w : Named) (o : Option Expr) → stm_names (s.Let w o) ≡ w ∷ option_exp_names o
let_names w None = refl
let_names w (Some x) = refl

pub return_names : (o : Option Expr) → stm_names (s.Return o) ≡ option_exp_names o
return_names None = refl
return_names (Some x) = refl
