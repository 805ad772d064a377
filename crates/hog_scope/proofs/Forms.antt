-- The words of each form of expression and statement that holds a list or an option.
use Rattle.std.proofs.Common.{◌≡◌, ℕ, List, [], ◌∷◌, ◌++◌, length, Option, Some, None, refl, ap, ap₂, ◌∙◌}
use Rattle.std.specs.List.{flat_map}
use Rattle.std.specs.declared.boxed.Box.{Box}
use Rattle.std.specs.declared.alloc.Global.{Global}
use mathlib.Core.Former.{Count}
use Rattle.hog_tree.specs.declared.tree.Named.{Named}
use Rattle.hog_tree.specs.declared.tree.Expr as e
use Rattle.hog_tree.specs.declared.tree.Expr.{Expr, Template', Array', Call', Row_of-Expr, end_of-Expr, items_hidden-the_row-Expr-2, Row_of-Part, end_of-Part, items_hidden-the_row-Part-1}
use Rattle.hog_tree.specs.declared.tree.Exprs.{Exprs}
use Rattle.hog_tree.specs.declared.tree.Parts.{Parts}
use Rattle.hog_tree.specs.declared.tree.FunTree.{FunTree}
use Rattle.hog_tree.specs.declared.tree.Stmts.{Stmts}
use Rattle.hog_tree.specs.declared.tree.ArrowBody as a
use Rattle.hog_tree.specs.declared.tree.ArrowBody.{ArrowBody}
use Rattle.hog_tree.specs.declared.tree.Stmt as s
use Rattle.hog_tree.specs.declared.tree.Stmt.{Stmt, Row_of-Stmt, end_of-Stmt, items_hidden-the_row-Stmt-0, Held-Stmt-If-2, Stmt-If-2-None', Stmt-If-2-Some', Held-Stmt-For-0, Stmt-For-0-None', Held-Stmt-Let-1, Stmt-Let-1-None'}
use Rattle.hog_tree.specs.View.{words_of, option_word_of, exp_of, stms_of, option_stm_of, option_exp_of}
use Rattle.hog_scope.specs.Words.{Event, Declares, Binds, Calls, scope_of, declared, all_declared, declares, binds, callee, target, stms_words, option_stm_words, option_step_words, option_exp_words}
use Rattle.hog_tree.specs.Names.{option_stm_names, option_exp_names, option_name, exp_names, part_names, body_names, stm_names, stms_names}
use Rattle.hog_scope.specs.Events.{expr_words, part_words, arrow_words, value_words, value_names, start_words, step_words, boxed_names, else_words, else_names, stmt_words, stmts_words, stmts_names}
use Rattle.hog_scope.proofs.Rows.{exps_rows, exps_named, count_rows, parts_rows, parts_named, stms_rows, stms_named}

-- the row in which each form keeps its list
abbrev exps_row : Expr → (m : Count) × Row_of-Expr m
exps_row (Array' _ row) = (_, row)
exps_row (Call' _ _ _ row) = (_, row)
exps_row _ = (_, end_of-Expr)

abbrev parts_row : Expr → (m : Count) × Row_of-Part m
parts_row (Template' _ row) = (_, row)
parts_row _ = (_, end_of-Part)

abbrev body_row : ArrowBody → (m : Count) × Row_of-Stmt m
body_row (a.Block' _ row) = (_, row)
body_row _ = (_, end_of-Stmt)

abbrev stms_row : Stmt → (m : Count) × Row_of-Stmt m
stms_row (s.While' _ _ row) = (_, row)
stms_row (s.If' _ _ row _) = (_, row)
stms_row (s.For' _ _ _ _ row) = (_, row)
stms_row (s.ForIn' _ _ _ _ row) = (_, row)
stms_row (s.Fun' _ _ _ row) = (_, row)
stms_row (s.Try' _ row _ _ _) = (_, row)
stms_row (s.Block' _ row) = (_, row)
stms_row _ = (_, end_of-Stmt)

pub array_words : (xs : Exprs) → expr_words (e.Array xs) ≡ flat_map expr_words xs.list.items
array_words xs = let r = exps_row (e.Array xs) in exps_rows {m = r.0} r.1 ∙ ap (flat_map expr_words) (items_hidden-the_row-Expr-2 xs.list)

pub array_names : (xs : Exprs) → exp_names (e.Array xs) ≡ flat_map exp_names xs.list.items
array_names xs = let r = exps_row (e.Array xs) in exps_named {m = r.0} r.1 ∙ ap (flat_map exp_names) (items_hidden-the_row-Expr-2 xs.list)

pub template_words : (ps : Parts) → expr_words (e.Template ps) ≡ flat_map part_words ps.list.items
template_words ps = let r = parts_row (e.Template ps) in parts_rows {m = r.0} r.1 ∙ ap (flat_map part_words) (items_hidden-the_row-Part-1 ps.list)

pub template_names : (ps : Parts) → exp_names (e.Template ps) ≡ flat_map part_names ps.list.items
template_names ps = let r = parts_row (e.Template ps) in parts_named {m = r.0} r.1 ∙ ap (flat_map part_names) (items_hidden-the_row-Part-1 ps.list)

pub body_block_words : (ss : Stmts) → arrow_words (a.Block ss) ≡ stmts_words ss
body_block_words ss = let r = body_row (a.Block ss) in stms_rows {m = r.0} r.1 ∙ ap (flat_map stmt_words) (items_hidden-the_row-Stmt-0 ss.list)

pub body_block_names : (ss : Stmts) → body_names (a.Block ss) ≡ stmts_names ss
body_block_names ss = let r = body_row (a.Block ss) in stms_named {m = r.0} r.1 ∙ ap (flat_map stm_names) (items_hidden-the_row-Stmt-0 ss.list)

pub block_words : (ss : Stmts) → stmt_words (s.Block ss) ≡ scope_of (stmts_words ss)
block_words ss = let r = stms_row (s.Block ss) in ap scope_of (stms_rows {m = r.0} r.1 ∙ ap (flat_map stmt_words) (items_hidden-the_row-Stmt-0 ss.list))

pub block_names : (ss : Stmts) → stm_names (s.Block ss) ≡ stmts_names ss
block_names ss = let r = stms_row (s.Block ss) in stms_named {m = r.0} r.1 ∙ ap (flat_map stm_names) (items_hidden-the_row-Stmt-0 ss.list)

pub while_words : (c : Expr) (ss : Stmts) → stmt_words (s.While c ss) ≡ expr_words c ++ scope_of (stmts_words ss)
while_words c ss = let r = stms_row (s.While c ss) in ap (λ w. expr_words c ++ scope_of w) (stms_rows {m = r.0} r.1 ∙ ap (flat_map stmt_words) (items_hidden-the_row-Stmt-0 ss.list))

pub while_names : (c : Expr) (ss : Stmts) → stm_names (s.While c ss) ≡ exp_names c ++ stmts_names ss
while_names c ss = let r = stms_row (s.While c ss) in ap (λ n. exp_names c ++ n) (stms_named {m = r.0} r.1 ∙ ap (flat_map stm_names) (items_hidden-the_row-Stmt-0 ss.list))

abbrev else_row : Stmt → (m : Count) × Row_of-Stmt m
else_row (s.If' _ _ _ (Stmt-If-2-Some' _ row)) = (_, row)
else_row _ = (_, end_of-Stmt)

pub if_words : (c : Expr) (b : Stmts) (o : Option Stmts) → stmt_words (s.If c b o) ≡ expr_words c ++ scope_of (stmts_words b) ++ else_words o
if_words c b None =
    let r = stms_row (s.If c b None) in
    ap (λ w. expr_words c ++ scope_of w ++ []) (stms_rows {m = r.0} r.1 ∙ ap (flat_map stmt_words) (items_hidden-the_row-Stmt-0 b.list))
if_words c b (Some d) =
    let r = stms_row (s.If c b (Some d)) in
    let q = else_row (s.If c b (Some d)) in
    ap₂ (λ w v. expr_words c ++ scope_of w ++ scope_of v)
    (stms_rows {m = r.0} r.1 ∙ ap (flat_map stmt_words) (items_hidden-the_row-Stmt-0 b.list))
    (stms_rows {m = q.0} q.1 ∙ ap (flat_map stmt_words) (items_hidden-the_row-Stmt-0 d.list))

pub if_names : (c : Expr) (b : Stmts) (o : Option Stmts) → stm_names (s.If c b o) ≡ exp_names c ++ stmts_names b ++ else_names o
if_names c b None =
    let r = stms_row (s.If c b None) in
    ap (λ w. exp_names c ++ w ++ []) (stms_named {m = r.0} r.1 ∙ ap (flat_map stm_names) (items_hidden-the_row-Stmt-0 b.list))
if_names c b (Some d) =
    let r = stms_row (s.If c b (Some d)) in
    let q = else_row (s.If c b (Some d)) in
    ap₂ (λ w v. exp_names c ++ w ++ v)
    (stms_named {m = r.0} r.1 ∙ ap (flat_map stm_names) (items_hidden-the_row-Stmt-0 b.list))
    (stms_named {m = q.0} q.1 ∙ ap (flat_map stm_names) (items_hidden-the_row-Stmt-0 d.list))

abbrev start_held : Stmt → Held-Stmt-For-0
start_held (s.For' a _ _ _ _) = a
start_held _ = Stmt-For-0-None'

abbrev cond_held : Stmt → Held-Stmt-Let-1
cond_held (s.For' _ c _ _ _) = c
cond_held _ = Stmt-Let-1-None'

abbrev step_held : Stmt → Held-Stmt-For-0
step_held (s.For' _ _ n _ _) = n
step_held _ = Stmt-For-0-None'

module _ (a : Option (Box Stmt Global)) (c : Option Expr) (n : Option (Box Stmt Global)) (b : Stmts) where
  start_is : option_stm_words (option_stm_of (start_held (s.For a c n b))) ≡ start_words a
  start_is = elim a as (λ x. option_stm_words (option_stm_of (start_held (s.For x c n b))) ≡ start_words x) [ None ↦ refl | Some _ ↦ refl ]

  cond_words : option_exp_words (option_exp_of (cond_held (s.For a c n b))) ≡ value_words c
  cond_words = elim c as (λ x. option_exp_words (option_exp_of (cond_held (s.For a x n b))) ≡ value_words x) [ None ↦ refl | Some _ ↦ refl ]

  step_is : option_step_words (option_stm_of (step_held (s.For a c n b))) ≡ step_words n
  step_is = elim n as (λ x. option_step_words (option_stm_of (step_held (s.For a c x b))) ≡ step_words x) [ None ↦ refl | Some _ ↦ refl ]

  for_body : stms_words (stms_of {m = (stms_row (s.For a c n b)).0} (stms_row (s.For a c n b)).1) ≡ stmts_words b
  for_body = let r = stms_row (s.For a c n b) in stms_rows {m = r.0} r.1 ∙ ap (flat_map stmt_words) (items_hidden-the_row-Stmt-0 b.list)

  pub for_words : stmt_words (s.For a c n b) ≡ scope_of (start_words a ++ value_words c ++ step_words n ++ scope_of (stmts_words b))
  for_words =
      let e1 = start_is in let e2 = cond_words in let e3 = step_is in let e4 = for_body in cc

  start_names : option_stm_names (start_held (s.For a c n b)) ≡ boxed_names a
  start_names = elim a as (λ x. option_stm_names (start_held (s.For x c n b)) ≡ boxed_names x) [ None ↦ refl | Some _ ↦ refl ]

  cond_names : option_exp_names (cond_held (s.For a c n b)) ≡ value_names c
  cond_names = elim c as (λ x. option_exp_names (cond_held (s.For a x n b)) ≡ value_names x) [ None ↦ refl | Some _ ↦ refl ]

  step_named : option_stm_names (step_held (s.For a c n b)) ≡ boxed_names n
  step_named = elim n as (λ x. option_stm_names (step_held (s.For a c x b)) ≡ boxed_names x) [ None ↦ refl | Some _ ↦ refl ]

  for_body_names : stms_names {m = (stms_row (s.For a c n b)).0} (stms_row (s.For a c n b)).1 ≡ stmts_names b
  for_body_names = let r = stms_row (s.For a c n b) in stms_named {m = r.0} r.1 ∙ ap (flat_map stm_names) (items_hidden-the_row-Stmt-0 b.list)

  pub for_names : stm_names (s.For a c n b) ≡ boxed_names a ++ value_names c ++ boxed_names n ++ stmts_names b
  for_names =
      let e1 = start_names in let e2 = cond_names in let e3 = step_named in let e4 = for_body_names in cc

module _ (k : Option Named) (v : Named) (x : Expr) (b : Stmts) where
  pub for_in_words : stmt_words (s.ForIn k v x b)
      ≡ scope_of (declares (option_word_of k) ++ Declares v.word ∷ expr_words x ++ binds (option_word_of k) ++ Binds v.word ∷ scope_of (stmts_words b))
  for_in_words =
      let r = stms_row (s.ForIn k v x b) in
      ap (λ w. scope_of (declares (option_word_of k) ++ Declares v.word ∷ expr_words x ++ binds (option_word_of k) ++ Binds v.word ∷ scope_of w))
      (stms_rows {m = r.0} r.1 ∙ ap (flat_map stmt_words) (items_hidden-the_row-Stmt-0 b.list))

  pub for_in_names : stm_names (s.ForIn k v x b) ≡ option_name k ++ v ∷ exp_names x ++ stmts_names b
  for_in_names =
      let r = stms_row (s.ForIn k v x b) in
      ap (λ w. option_name k ++ v ∷ exp_names x ++ w) (stms_named {m = r.0} r.1 ∙ ap (flat_map stm_names) (items_hidden-the_row-Stmt-0 b.list))

pub fun_words : (f : FunTree) → stmt_words (s.Fun f) ≡ declared f.name.word ++ scope_of (all_declared (words_of f.params) ++ stmts_words f.body)
fun_words f =
    let r = stms_row (s.Fun f) in
    ap (λ w. declared f.name.word ++ scope_of (all_declared (words_of f.params) ++ w))
    (stms_rows {m = r.0} r.1 ∙ ap (flat_map stmt_words) (items_hidden-the_row-Stmt-0 f.body.list))

pub fun_names : (f : FunTree) → stm_names (s.Fun f) ≡ f.name ∷ f.params ++ stmts_names f.body
fun_names f =
    let r = stms_row (s.Fun f) in
    ap (λ w. f.name ∷ f.params ++ w) (stms_named {m = r.0} r.1 ∙ ap (flat_map stm_names) (items_hidden-the_row-Stmt-0 f.body.list))

abbrev catch_row : Stmt → (m : Count) × Row_of-Stmt m
catch_row (s.Try' _ _ _ _ row) = (_, row)
catch_row _ = (_, end_of-Stmt)

module _ (b : Stmts) (n : Named) (h : Stmts) where
  pub try_words : stmt_words (s.Try b n h) ≡ scope_of (stmts_words b) ++ scope_of (declared n.word ++ scope_of (stmts_words h))
  try_words =
      let r = stms_row (s.Try b n h) in
      let q = catch_row (s.Try b n h) in
      ap₂ (λ w v. scope_of w ++ scope_of (declared n.word ++ scope_of v))
      (stms_rows {m = r.0} r.1 ∙ ap (flat_map stmt_words) (items_hidden-the_row-Stmt-0 b.list))
      (stms_rows {m = q.0} q.1 ∙ ap (flat_map stmt_words) (items_hidden-the_row-Stmt-0 h.list))

  pub try_names : stm_names (s.Try b n h) ≡ stmts_names b ++ n ∷ stmts_names h
  try_names =
      let r = stms_row (s.Try b n h) in
      let q = catch_row (s.Try b n h) in
      ap₂ (λ w v. w ++ n ∷ v)
      (stms_named {m = r.0} r.1 ∙ ap (flat_map stm_names) (items_hidden-the_row-Stmt-0 b.list))
      (stms_named {m = q.0} q.1 ∙ ap (flat_map stm_names) (items_hidden-the_row-Stmt-0 h.list))

-- an expression that is no name stands as it is, where it is called and where it is assigned
other_callee : (x : Expr) (count : ℕ) (ws : List Event) → ((n : Named) → x ≡ e.Name n → ⊥) → callee (exp_of x) count ws ≡ ws
other_callee (e.Int _) count ws unnamed = refl
other_callee (e.Bool _) count ws unnamed = refl
other_callee (e.Null) count ws unnamed = refl
other_callee (e.Text _) count ws unnamed = refl
other_callee (Template' _ _) count ws unnamed = refl
other_callee (e.Name n) count ws unnamed = absurd (unnamed n refl)
other_callee (Array' _ _) count ws unnamed = refl
other_callee (e.Dict _) count ws unnamed = refl
other_callee (e.Neg' _ _) count ws unnamed = refl
other_callee (e.Not' _ _) count ws unnamed = refl
other_callee (e.Binary' _ _ _ _ _) count ws unnamed = refl
other_callee (e.Coalesce' _ _ _ _) count ws unnamed = refl
other_callee (e.Prop' _ _ _) count ws unnamed = refl
other_callee (e.PropNullish' _ _ _) count ws unnamed = refl
other_callee (e.Index' _ _ _ _) count ws unnamed = refl
other_callee (Call' _ _ _ _) count ws unnamed = refl
other_callee (e.Lambda _ _) count ws unnamed = refl

other_target : (x : Expr) (ws : List Event) → ((n : Named) → x ≡ e.Name n → ⊥) → target (exp_of x) ws ≡ ws
other_target (e.Int _) ws unnamed = refl
other_target (e.Bool _) ws unnamed = refl
other_target (e.Null) ws unnamed = refl
other_target (e.Text _) ws unnamed = refl
other_target (Template' _ _) ws unnamed = refl
other_target (e.Name n) ws unnamed = absurd (unnamed n refl)
other_target (Array' _ _) ws unnamed = refl
other_target (e.Dict _) ws unnamed = refl
other_target (e.Neg' _ _) ws unnamed = refl
other_target (e.Not' _ _) ws unnamed = refl
other_target (e.Binary' _ _ _ _ _) ws unnamed = refl
other_target (e.Coalesce' _ _ _ _) ws unnamed = refl
other_target (e.Prop' _ _ _) ws unnamed = refl
other_target (e.PropNullish' _ _ _) ws unnamed = refl
other_target (e.Index' _ _ _ _) ws unnamed = refl
other_target (Call' _ _ _ _) ws unnamed = refl
other_target (e.Lambda _ _) ws unnamed = refl

pub assign_words : (x y : Expr) → ((n : Named) → x ≡ e.Name n → ⊥) → stmt_words (s.Assign x y) ≡ expr_words x ++ expr_words y
assign_words x y unnamed = ap (λ w. w ++ expr_words y) (other_target x (expr_words x) unnamed)

module _ (f : Box Expr Global) (xs : Exprs) where
  pub call_words : expr_words (e.Call f xs) ≡ callee (exp_of f.value) (length xs.list.items) (expr_words f.value) ++ flat_map expr_words xs.list.items
  call_words =
      let r = exps_row (e.Call f xs) in
      ap₂ (λ n w. callee (exp_of f.value) n (expr_words f.value) ++ w)
      (count_rows {m = r.0} r.1 ∙ ap length (items_hidden-the_row-Expr-2 xs.list))
      (exps_rows {m = r.0} r.1 ∙ ap (flat_map expr_words) (items_hidden-the_row-Expr-2 xs.list))

  pub call_names : exp_names (e.Call f xs) ≡ exp_names f.value ++ flat_map exp_names xs.list.items
  call_names =
      let r = exps_row (e.Call f xs) in
      ap (λ w. exp_names f.value ++ w) (exps_named {m = r.0} r.1 ∙ ap (flat_map exp_names) (items_hidden-the_row-Expr-2 xs.list))

  -- where the callee is a name
  pub named_call_words : (n : Named) → f.value ≡ e.Name n → expr_words (e.Call f xs) ≡ Calls n.word (length xs.list.items) ∷ flat_map expr_words xs.list.items
  named_call_words n is = call_words ∙ ap (λ x. callee (exp_of x) (length xs.list.items) (expr_words x) ++ flat_map expr_words xs.list.items) is

  pub named_call_names : (n : Named) → f.value ≡ e.Name n → exp_names (e.Call f xs) ≡ n ∷ flat_map exp_names xs.list.items
  named_call_names n is = call_names ∙ ap (λ x. exp_names x ++ flat_map exp_names xs.list.items) is

  -- where it is none
  pub other_call_words : ((n : Named) → f.value ≡ e.Name n → ⊥) → expr_words (e.Call f xs) ≡ expr_words f.value ++ flat_map expr_words xs.list.items
  other_call_words unnamed = call_words ∙ ap (λ w. w ++ flat_map expr_words xs.list.items) (other_callee f.value (length xs.list.items) (expr_words f.value) unnamed)
