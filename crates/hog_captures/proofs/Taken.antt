-- Whether a word is free in a form, by the form's parts.
use Rattle.std.proofs.Common.{◌≡◌, ℕ, ◌+◌, ◌<◌, List, [], ◌∷◌, ◌++◌, length, drop, get_or, Option, Some, None, Bool, true, false, not, ◌&&◌, ◌||◌, bytes_eq, refl, sym, ap, ap₂, ◌∙◌, append_assoc, ◌⊎◌, inl, inr}
use Rattle.std.specs.Option.{option_map}
use Rattle.std.specs.Borrow.{Bor}
use Rattle.std.proofs.lemmas.List.{drop_more}
use Rattle.std.specs.declared.boxed.Box.{Box}
use Rattle.std.specs.declared.alloc.Global.{Global}
use Rattle.hog_tree.specs.Plain.{Word}
use Rattle.hog_tree.specs.declared.tree.BinaryOp.{BinaryOp}
use Rattle.hog_tree.specs.declared.tree.Named.{Named}
use Rattle.hog_tree.specs.declared.tree.Names.{Names}
use Rattle.hog_tree.specs.declared.tree.Expr as e
use Rattle.hog_tree.specs.declared.tree.Expr.{Expr}
use Rattle.hog_tree.specs.declared.tree.Exprs.{Exprs}
use Rattle.hog_tree.specs.declared.tree.Part as t
use Rattle.hog_tree.specs.declared.tree.Part.{Part}
use Rattle.hog_tree.specs.declared.tree.Parts.{Parts}
use Rattle.hog_tree.specs.declared.tree.DictItem.{DictItem}
use Rattle.hog_tree.specs.declared.tree.DictItems.{DictItems}
use Rattle.hog_tree.specs.declared.tree.ArrowBody as a
use Rattle.hog_tree.specs.declared.tree.ArrowBody.{ArrowBody}
use Rattle.hog_tree.specs.declared.tree.ArrowBody.TheViews.{out-DictItems}
use Rattle.hog_tree.specs.declared.tree.FunTree.{FunTree}
use Rattle.hog_tree.specs.declared.tree.Stmt as s
use Rattle.hog_tree.specs.declared.tree.Stmt.{Stmt}
use Rattle.hog_tree.specs.declared.tree.Stmts.{Stmts}
use Rattle.hog_tree.specs.View.{words_of, option_word_of, exp_of, exps_from, parts_from, pairs_from, dict_of, body_of, stm_of, stms_from, option_exp_from, option_stm_from, option_stms_from}
use Rattle.hog_tree.proofs.Rows.{array_is, call_is, template_is, dict_is, body_is, block_is, while_is, if_is, try_is, for_in_is, for_is, fun_is, let_is, return_is}
use Rattle.hog_captures.specs.Frees.{is_among, without, without_all, without_name, name_by, option_name_by, exp_frees, exps_frees, parts_frees, pairs_frees, body_frees, stm_frees, stms_frees, option_exp_frees, option_stm_frees, option_stms_frees}
use Rattle.hog_captures.specs.View.{is_name}
use Rattle.hog_captures.proofs.Among.{among-append, among-without, among-without_all, among-without_name}

abbrev block : Word → Bool → Stmts → Bool
block w f b = is_among w (stms_frees f (stms_from b.list.items))

abbrev pub exp : Word → Bool → Expr → Bool
exp w f x = is_among w (exp_frees f (exp_of x))

abbrev stm : Word → Bool → Stmt → Bool
stm w f s = is_among w (stm_frees f (stm_of s))

abbrev either : Bool → Bool → Bool
either x y = x || y

abbrev unless : Bool → Bool → Bool
unless x y = not x && y

module _ (w : Word) (f : Bool) where
  pub in_array : (xs : Exprs) → exp w f (e.Array xs) ≡ is_among w (exps_frees f (exps_from xs.list.items))
  in_array xs = ap (λ x. is_among w (exp_frees f x)) (array_is xs)

  pub in_template : (ps : Parts) → exp w f (e.Template ps) ≡ is_among w (parts_frees f (parts_from ps.list.items))
  in_template ps = ap (λ x. is_among w (exp_frees f x)) (template_is ps)

  pub in_call : (c : Box Expr Global) (xs : Exprs) → exp w f (e.Call c xs) ≡ (exp w f c.value || is_among w (exps_frees f (exps_from xs.list.items)))
  in_call c xs = ap (λ x. is_among w (exp_frees f x)) (call_is c xs) ∙ among-append w (exp_frees f (exp_of c.value)) (exps_frees f (exps_from xs.list.items))

  pub in_lambda : (ns : Names) (b : ArrowBody) → exp w f (e.Lambda ns b) ≡ (not (is_among w (words_of ns)) && is_among w (body_frees (body_of b)))
  in_lambda ns b = among-without_all w (words_of ns) (body_frees (body_of b))

  pub in_binary : (op : BinaryOp) (x y : Box Expr Global) → exp w f (e.Binary op x y) ≡ (exp w f x.value || exp w f y.value)
  in_binary op x y = among-append w (exp_frees f (exp_of x.value)) (exp_frees f (exp_of y.value))

  pub in_coalesce : (x y : Box Expr Global) → exp w f (e.Coalesce x y) ≡ (exp w f x.value || exp w f y.value)
  in_coalesce x y = among-append w (exp_frees f (exp_of x.value)) (exp_frees f (exp_of y.value))

  pub in_index : (x y : Box Expr Global) → exp w f (e.Index x y) ≡ (exp w f x.value || exp w f y.value)
  in_index x y = among-append w (exp_frees f (exp_of x.value)) (exp_frees f (exp_of y.value))

  pub in_dict : (ds : DictItems) → is_among w (pairs_frees f (dict_of ds)) ≡ is_among w (pairs_frees f (pairs_from (out-DictItems ds).list.items))
  in_dict ds = ap (λ x. is_among w (exp_frees f x)) (dict_is ds)

  pub in_let : (n : Named) (o : Option Expr) → stm w f (s.Let n o) ≡ is_among w (option_exp_frees f (option_exp_from o))
  in_let n o = ap (λ x. is_among w (stm_frees f x)) (let_is n o)

  pub in_return : (o : Option Expr) → stm w f (s.Return o) ≡ is_among w (option_exp_frees f (option_exp_from o))
  in_return o = ap (λ x. is_among w (stm_frees f x)) (return_is o)

  pub in_assign : (x y : Expr) → stm w f (s.Assign x y) ≡ (exp w f x || exp w f y)
  in_assign x y = among-append w (exp_frees f (exp_of x)) (exp_frees f (exp_of y))

  pub in_if : (c : Expr) (b : Stmts) (o : Option Stmts) → stm w f (s.If c b o) ≡ (exp w f c || (block w f b || is_among w (option_stms_frees f (option_stms_from o))))
  in_if c b o =
      let then = stms_frees f (stms_from b.list.items) in
      let other = option_stms_frees f (option_stms_from o) in
      ap (λ x. is_among w (stm_frees f x)) (if_is c b o) ∙ among-append w (exp_frees f (exp_of c)) (then ++ other)
      ∙ ap (either (exp w f c)) (among-append w then other)

  pub in_while : (c : Expr) (b : Stmts) → stm w f (s.While c b) ≡ (exp w f c || block w f b)
  in_while c b = ap (λ x. is_among w (stm_frees f x)) (while_is c b) ∙ among-append w (exp_frees f (exp_of c)) (stms_frees f (stms_from b.list.items))

  pub in_for : (a : Option (Box Stmt Global)) (c : Option Expr) (n : Option (Box Stmt Global)) (b : Stmts) → stm w f (s.For a c n b)
      ≡ (is_among w (option_stm_frees f (option_stm_from a)) || (not (is_name w (option_name_by (option_stm_from a)))
      && (is_among w (option_exp_frees f (option_exp_from c)) || (is_among w (option_stm_frees f (option_stm_from n)) || block w f b))))
  in_for a c n b =
      let start = option_stm_frees f (option_stm_from a) in
      let cond = option_exp_frees f (option_exp_from c) in
      let next = option_stm_frees f (option_stm_from n) in
      let body = stms_frees f (stms_from b.list.items) in
      let name = option_name_by (option_stm_from a) in
      ap (λ x. is_among w (stm_frees f x)) (for_is a c n b)
      ∙ among-append w start (without_name name (cond ++ (next ++ body)))
      ∙ ap (either (is_among w start)) (among-without_name w name (cond ++ (next ++ body))
      ∙ ap (unless (is_name w name)) (among-append w cond (next ++ body) ∙ ap (either (is_among w cond)) (among-append w next body)))

  pub in_for_in : (k : Option Named) (v : Named) (x : Expr) (b : Stmts) → stm w f (s.ForIn k v x b)
      ≡ (exp w f x || (not (is_name w (option_word_of k)) && (not (bytes_eq v.word w) && block w f b)))
  in_for_in k v x b =
      let body = stms_frees f (stms_from b.list.items) in
      let key = option_word_of k in
      ap (λ y. is_among w (stm_frees f y)) (for_in_is k v x b)
      ∙ among-append w (exp_frees f (exp_of x)) (without_name key (without v.word body))
      ∙ ap (either (exp w f x)) (among-without_name w key (without v.word body) ∙ ap (unless (is_name w key)) (among-without w v.word body))

  pub in_fun : (d : FunTree) → stm w f (s.Fun d) ≡ (not (bytes_eq d.name.word w) && (not (is_among w (words_of d.params)) && block w true d.body))
  in_fun d =
      let body = stms_frees true (stms_from d.body.list.items) in
      ap (λ y. is_among w (stm_frees f y)) (fun_is d)
      ∙ among-without w d.name.word (without_all (words_of d.params) body)
      ∙ ap (unless (bytes_eq d.name.word w)) (among-without_all w (words_of d.params) body)

  pub in_try : (b : Stmts) (n : Named) (c : Stmts) → stm w f (s.Try b n c) ≡ (block w f b || (not (bytes_eq n.word w) && block w f c))
  in_try b n c =
      let body = stms_frees f (stms_from b.list.items) in
      let handler = stms_frees f (stms_from c.list.items) in
      ap (λ y. is_among w (stm_frees f y)) (try_is b n c)
      ∙ among-append w body (without n.word handler)
      ∙ ap (either (block w f b)) (among-without w n.word handler)

  pub in_block : (b : Stmts) → stm w f (s.Block b) ≡ block w f b
  in_block b = ap (λ y. is_among w (stm_frees f y)) (block_is b)

  -- statements that are gone through
  module _ (xs : List Stmt) (i : ℕ) (x : Stmt) (lt : i < length xs) (is : x ≡ get_or xs i x)
      (same : is_among w (stms_frees f (stms_from (drop i xs))) ≡ is_among w (stms_frees f (stms_from xs))) where
    abbrev rest : Bool
    rest = is_among w (stms_frees f (stms_from (drop (i + 1) xs)))

    here : is_among w (stms_frees f (stms_from xs)) ≡ (stm w f x || (not (is_name w (name_by (stm_of x))) && rest))
    here =
        let after = stms_frees f (stms_from (drop (i + 1) xs)) in
        sym same ∙ ap (λ ys. is_among w (stms_frees f (stms_from ys))) (drop_more xs i x lt ∙ ap (λ y. y ∷ drop (i + 1) xs) (sym is))
        ∙ among-append w (stm_frees f (stm_of x)) (without_name (name_by (stm_of x)) after)
        ∙ ap (either (stm w f x)) (among-without_name w (name_by (stm_of x)) after)

    pub taken : true ≡ stm w f x → true ≡ is_among w (stms_frees f (stms_from xs))
    taken found = sym (here ∙ ap (λ b. b || (not (is_name w (name_by (stm_of x))) && rest)) (sym found))

    pub shadowed : false ≡ stm w f x → true ≡ is_name w (name_by (stm_of x)) → false ≡ is_among w (stms_frees f (stms_from xs))
    shadowed none named = sym (here ∙ ap₂ (λ b n. b || (not n && rest)) (sym none) (sym named))

    pub further : false ≡ stm w f x → false ≡ is_name w (name_by (stm_of x)) → is_among w (stms_frees f (stms_from (drop (i + 1) xs))) ≡ is_among w (stms_frees f (stms_from xs))
    further none other = sym (here ∙ ap₂ (λ b n. b || (not n && rest)) (sym none) (sym other))

pub in_body : (w : Word) (b : Stmts) → is_among w (body_frees (body_of (a.Block b))) ≡ block w true b
in_body w b = ap (λ x. is_among w (body_frees x)) (body_is b)

-- forms that are at hand, by an equation
pub exp_at : (w : Word) (f : Bool) {x y : Expr} {b : Bool} → x ≡ y → exp w f y ≡ b → b ≡ exp w f x
exp_at w f is h = sym (ap (exp w f) is ∙ h)

pub stm_at : (w : Word) (f : Bool) {x y : Stmt} {b : Bool} → x ≡ y → stm w f y ≡ b → b ≡ stm w f x
stm_at w f is h = sym (ap (stm w f) is ∙ h)

-- what is found by the first of two that are asked, or by the second
pub or_then : {r b : Bool} (d : Bool) → r ≡ b → r ≡ true → r ≡ (b || d)
or_then {r} {b} d h is = is ∙ ap (λ x. x || d) (sym is ∙ h)

pub or_else : {r b c d : Bool} → r ≡ b → r ≡ false → c ≡ d → c ≡ (b || d)
or_else {r} {b} {c} {d} h is k = k ∙ ap (λ x. x || d) (sym is ∙ h)

-- what is asked only where the first isn't so
pub unless_then : {r b c d : Bool} → r ≡ b → r ≡ false → c ≡ d → c ≡ (not b && d)
unless_then {r} {b} {c} {d} h is k = k ∙ ap (λ x. not x && d) (sym is ∙ h)

pub unless_else : {r b : Bool} (d : Bool) → r ≡ b → r ≡ true → not r ≡ (not b && d)
unless_else {r} {b} d h is = ap not is ∙ ap (λ x. not x && d) (sym is ∙ h)

-- the forms of two operands
pub two_operands : (w : Word) (f : Bool) (v : Expr) (x y : Box Expr Global)
    → ((op : BinaryOp) × (v ≡ e.Binary op x y)) ⊎ ((v ≡ e.Coalesce x y) ⊎ (v ≡ e.Index x y)) → (exp w f x.value || exp w f y.value) ≡ exp w f v
two_operands w f v x y (inl h) = exp_at w f h.1 (in_binary w f h.0 x y)
two_operands w f v x y (inr (inl h)) = exp_at w f h (in_coalesce w f x y)
two_operands w f v x y (inr (inr h)) = exp_at w f h (in_index w f x y)

-- a part of a template
abbrev pub hole_frees : Bool → Part → List Word
hole_frees f (t.Text w) = []
hole_frees f (t.Hole x) = exp_frees f (exp_of x)

pub hole_first : (f : Bool) (x : Part) (xs : List Part) → parts_frees f (parts_from (x ∷ xs)) ≡ hole_frees f x ++ parts_frees f (parts_from xs)
hole_first f (t.Text w) xs = refl
hole_first f (t.Hole x) xs = refl

pub no_hole : (w : Word) (f : Bool) (p : Part) → ((x : Expr) → p ≡ t.Hole x → ⊥) → false ≡ is_among w (hole_frees f p)
no_hole w f (t.Text u) not = refl
no_hole w f (t.Hole x) not = absurd (not x refl)

-- an item of a dictionary
abbrev pub item_frees : Bool → DictItem → List Word
item_frees f d = exp_frees f (exp_of d.key) ++ exp_frees f (exp_of d.value)

pub item_first : (f : Bool) (d : DictItem) (ds : List DictItem) → pairs_frees f (pairs_from (d ∷ ds)) ≡ item_frees f d ++ pairs_frees f (pairs_from ds)
item_first f d ds = sym (append_assoc (exp_frees f (exp_of d.key)) (exp_frees f (exp_of d.value)) (pairs_frees f (pairs_from ds)))

pub item_among : (w : Word) (f : Bool) (d : DictItem) → is_among w (item_frees f d) ≡ (exp w f d.key || exp w f d.value)
item_among w f d = among-append w (exp_frees f (exp_of d.key)) (exp_frees f (exp_of d.value))

-- a key that is lent
pub key_named : (key : Option Named) (lent : Option (Bor Named)) → option_map (λ n. n.now) lent ≡ key → option_map (λ n. n.now.word) lent ≡ option_word_of key
key_named key None is = ap option_word_of is
key_named key (Some n) is = ap option_word_of is
