-- The words of a tree that name something are those of its plain tree, one for one.
use Rattle.std.proofs.Common.{◌≡◌, ℕ, append-nil, List, [], ◌∷◌, ◌++◌, map, Option, None, Some, refl, sym, ap, ap₂, ◌∙◌}
use Rattle.std.specs.List.{filter_map, flat_map}
use Rattle.std.proofs.lemmas.List.{map-append}
use Rattle.std.proofs.lemmas.List.Elements.{filter_map-append}
use Rattle.hog_tree.specs.Plain as p
use Rattle.hog_tree.specs.Plain.{Word, Exp}
use Rattle.hog_tree.specs.declared.tree.Named.{Named}
use Rattle.hog_tree.specs.declared.tree.Expr as e
use Rattle.hog_tree.specs.declared.tree.Expr.{Expr, Int, Bool, Null, Template', Name, Array', Dict, Neg', Not', Binary', Coalesce', Prop', PropNullish', Index', Call', Lambda, Row_of-Expr, end_of-Expr, more_of-Expr}
use Rattle.hog_tree.specs.declared.tree.Part as t
use Rattle.hog_tree.specs.declared.tree.Part.{Part}
use Rattle.hog_tree.specs.declared.tree.Parts.{Row_of-Part, end_of-Part, more_of-Part}
use Rattle.hog_tree.specs.declared.tree.ArrowBody.TheBlock.{struct-DictItems}
use Rattle.hog_tree.specs.declared.tree.DictItems.{DictItems, Row_of-DictItem, end_of-DictItem, more_of-DictItem}
use Rattle.hog_tree.specs.declared.tree.ArrowBody as a
use Rattle.hog_tree.specs.declared.tree.ArrowBody.{ArrowBody, One'}
use Rattle.hog_tree.specs.declared.tree.Stmt as s
use Rattle.hog_tree.specs.declared.tree.Stmt.{Stmt, Row_of-Stmt, end_of-Stmt, more_of-Stmt, Held-Stmt-Let-1, Stmt-Let-1-None', Stmt-Let-1-Some', Held-Stmt-If-2, Stmt-If-2-None', Stmt-If-2-Some', Held-Stmt-For-0, Stmt-For-0-None', Stmt-For-0-Some'}
use Rattle.hog_tree.specs.declared.tree.Tree.{Tree}
use Rattle.hog_tree.specs.View.{words_of, option_word_of, exp_of, exps_of, parts_of, dict_of, pairs_of, body_of, stm_of, stms_of, stms_from, option_exp_of, option_stm_of, option_stms_of, tree_of}
use Rattle.hog_scope.specs.Words.{Event, Opens, Closes, Declares, Binds, Reads, Assigns, Calls, Spells, scope_of, all_declared, declares, binds, count_of, callee, target, exp_words, exps_words, parts_words, pairs_words, body_words, stm_words, stms_words, option_exp_words, option_stm_words, option_step_words, option_stms_words}
use Rattle.hog_tree.specs.Names.{option_name, exp_names, exps_names, parts_names, dict_names, pairs_names, body_names, stm_names, stms_names, option_exp_names, option_stm_names, option_stms_names, tree_names}

-- the word of an event that names something
abbrev pub naming : Event → Option Word
naming Opens = None
naming Closes = None
naming (Declares w) = Some w
naming (Binds w) = None
naming (Reads w) = Some w
naming (Assigns w) = Some w
naming (Calls w n) = Some w
naming (Spells t) = None

-- these words name something in these events
record Names (names : List Named) (words : List Event) : Type 0 where
  same : map (λ n. n.word) names ≡ filter_map naming words

both : {ns ms : List Named} {ws vs : List Event} → Names ns ws → Names ms vs → Names (ns ++ ms) (ws ++ vs)
both {ns} {ms} {ws} {vs} h k = record {
  same = map-append (λ n. n.word) ns ms ∙ ap₂ (λ x y. x ++ y) h.same k.same ∙ sym (filter_map-append naming ws vs);
}

none : Names [] []
none = record { same = refl }

-- events that name nothing, before and after
quiet : (e : Event) {ns : List Named} {ws : List Event} → naming e ≡ None → Names ns ws → Names ns (e ∷ ws)
quiet e {ns} {ws} is h = record { same = h.same ∙ (rw is refl) }

after : {ns : List Named} {ws : List Event} (vs : List Event) → filter_map naming vs ≡ [] → Names ns ws → Names ns (ws ++ vs)
after {ns} {ws} vs is h = record { same = h.same ∙ sym (append-nil (filter_map naming ws)) ∙ ap (λ y. filter_map naming ws ++ y) (sym is) ∙ sym (filter_map-append naming ws vs) }

scoped : {ns : List Named} {ws : List Event} → Names ns ws → Names ns (scope_of ws)
scoped h = quiet Opens refl (after (Closes ∷ []) refl h)

params : (ns : List Named) → Names ns (all_declared (words_of ns))
params [] = none
params (n ∷ ns) = record { same = ap (λ r. n.word ∷ r) (params ns).same }

option_declares : (o : Option Named) → Names (option_name o) (declares (option_word_of o))
option_declares None = none
option_declares (Some n) = record { same = refl }

option_binds : (o : Option Named) → filter_map naming (binds (option_word_of o)) ≡ []
option_binds None = refl
option_binds (Some n) = refl

-- a callee and a target have the words that they have as an expression
callee_same : (x : Exp) (n : ℕ) → filter_map naming (callee x n (exp_words x)) ≡ filter_map naming (exp_words x)
callee_same (p.Int _) n = refl
callee_same (p.Truth _) n = refl
callee_same p.Null n = refl
callee_same (p.Text _) n = refl
callee_same (p.Template _) n = refl
callee_same (p.Name w) n = refl
callee_same (p.Array _) n = refl
callee_same (p.Dict _) n = refl
callee_same (p.Neg _) n = refl
callee_same (p.Not _) n = refl
callee_same (p.Binary _ _ _) n = refl
callee_same (p.Coalesce _ _) n = refl
callee_same (p.Prop _ _) n = refl
callee_same (p.PropNullish _ _) n = refl
callee_same (p.Index _ _) n = refl
callee_same (p.Call _ _) n = refl
callee_same (p.Lambda _ _) n = refl

target_same : (x : Exp) → filter_map naming (target x (exp_words x)) ≡ filter_map naming (exp_words x)
target_same (p.Int _) = refl
target_same (p.Truth _) = refl
target_same p.Null = refl
target_same (p.Text _) = refl
target_same (p.Template _) = refl
target_same (p.Name w) = refl
target_same (p.Array _) = refl
target_same (p.Dict _) = refl
target_same (p.Neg _) = refl
target_same (p.Not _) = refl
target_same (p.Binary _ _ _) = refl
target_same (p.Coalesce _ _) = refl
target_same (p.Prop _ _) = refl
target_same (p.PropNullish _ _) = refl
target_same (p.Index _ _) = refl
target_same (p.Call _ _) = refl
target_same (p.Lambda _ _) = refl

first : (n : Named) {ns : List Named} {ws : List Event} → Names ns ws → Names (n ∷ ns) (Declares n.word ∷ ws)
first n h = record { same = ap (λ r. n.word ∷ r) h.same }

called : (x : Exp) (n : ℕ) {ns : List Named} → Names ns (exp_words x) → Names ns (callee x n (exp_words x))
called x n h = record { same = h.same ∙ sym (callee_same x n) }

assigned : (x : Exp) {ns : List Named} → Names ns (exp_words x) → Names ns (target x (exp_words x))
assigned x h = record { same = h.same ∙ sym (target_same x) }

mutual
  exp_named : (x : Expr) → Names (exp_names x) (exp_words (exp_of x))
  exp_named (Int n) = none
  exp_named (Bool b) = none
  exp_named Null = none
  exp_named (e.Text w) = record { same = refl }
  exp_named (Template' m ps) = parts_named ps
  exp_named (Name n) = record { same = refl }
  exp_named (Array' m xs) = exps_named xs
  exp_named (Dict ds) = dict_named ds
  exp_named (Neg' q x) = exp_named x
  exp_named (Not' q x) = exp_named x
  exp_named (Binary' op q x r y) = both (exp_named x) (exp_named y)
  exp_named (Coalesce' q x r y) = both (exp_named x) (exp_named y)
  exp_named (Prop' q x w) = after (Spells w ∷ []) refl (exp_named x)
  exp_named (PropNullish' q x w) = after (Spells w ∷ []) refl (exp_named x)
  exp_named (Index' q x r y) = both (exp_named x) (exp_named y)
  exp_named (Call' q f m xs) = both (called (exp_of f) (count_of (exps_of xs)) (exp_named f)) (exps_named xs)
  exp_named (Lambda ns b) = scoped (both (params ns) (body_named b))

  exps_named : {m : _} (k : Row_of-Expr m) → Names (exps_names k) (exps_words (exps_of k))
  exps_named end_of-Expr = none
  exps_named (more_of-Expr x k) = both (exp_named x) (exps_named k)

  parts_named : {m : _} (k : Row_of-Part m) → Names (parts_names k) (parts_words (parts_of k))
  parts_named end_of-Part = none
  parts_named (more_of-Part (t.Text w) k) = quiet (Spells w) refl (parts_named k)
  parts_named (more_of-Part (t.Hole x) k) = both (exp_named x) (parts_named k)

  dict_named : (ds : DictItems) → Names (dict_names ds) (pairs_words (dict_of ds))
  dict_named (struct-DictItems m k) = pairs_named k

  pairs_named : {m : _} (k : Row_of-DictItem m) → Names (pairs_names k) (pairs_words (pairs_of k))
  pairs_named end_of-DictItem = none
  pairs_named (more_of-DictItem x y k) = both (both (exp_named x) (exp_named y)) (pairs_named k)

  body_named : (b : ArrowBody) → Names (body_names b) (body_words (body_of b))
  body_named (One' q x) = exp_named x
  body_named (a.Block' m ss) = stms_named ss

  stm_named : (x : Stmt) → Names (stm_names x) (stm_words (stm_of x))
  stm_named (s.Let' n x) = first n (after (Binds n.word ∷ []) refl (option_exp_named x))
  stm_named (s.Assign x y) = both (assigned (exp_of x) (exp_named x)) (exp_named y)
  stm_named (s.Do x) = exp_named x
  stm_named (s.Return' x) = option_exp_named x
  stm_named (s.Throw x) = exp_named x
  stm_named (s.If' c m b o) = both (both (exp_named c) (scoped (stms_named b))) (option_stms_named o)
  stm_named (s.While' c m b) = both (exp_named c) (scoped (stms_named b))
  stm_named (s.For' b c n m ss) = scoped (both (both (both (option_stm_named b) (option_exp_named c)) (option_step_named n)) (scoped (stms_named ss)))
  stm_named (s.ForIn' k v x m b) =
      scoped (both (after (binds (option_word_of k)) (option_binds k) (both (option_declares k) (first v (exp_named x)))) (quiet (Binds v.word) refl (scoped (stms_named b))))
  stm_named (s.Fun' n ps m b) = first n (quiet (Binds n.word) refl (scoped (both (params ps) (stms_named b))))
  stm_named (s.Try' m b n r c) = both (scoped (stms_named b)) (scoped (first n (quiet (Binds n.word) refl (scoped (stms_named c)))))
  stm_named (s.Block' m b) = scoped (stms_named b)

  stms_named : {m : _} (k : Row_of-Stmt m) → Names (stms_names k) (stms_words (stms_of k))
  stms_named end_of-Stmt = none
  stms_named (more_of-Stmt x k) = both (stm_named x) (stms_named k)

  option_exp_named : (o : Held-Stmt-Let-1) → Names (option_exp_names o) (option_exp_words (option_exp_of o))
  option_exp_named Stmt-Let-1-None' = none
  option_exp_named (Stmt-Let-1-Some' x) = exp_named x

  option_stm_named : (o : Held-Stmt-For-0) → Names (option_stm_names o) (option_stm_words (option_stm_of o))
  option_stm_named Stmt-For-0-None' = none
  option_stm_named (Stmt-For-0-Some' q x) = stm_named x

  option_step_named : (o : Held-Stmt-For-0) → Names (option_stm_names o) (option_step_words (option_stm_of o))
  option_step_named Stmt-For-0-None' = none
  option_step_named (Stmt-For-0-Some' q x) = scoped (stm_named x)

  option_stms_named : (o : Held-Stmt-If-2) → Names (option_stms_names o) (option_stms_words (option_stms_of o))
  option_stms_named Stmt-If-2-None' = none
  option_stms_named (Stmt-If-2-Some' m b) = scoped (stms_named b)

list_named : (ss : List Stmt) → Names (flat_map stm_names ss) (stms_words (stms_from ss))
list_named [] = none
list_named (x ∷ ss) = both (stm_named x) (list_named ss)

-- the words of a tree
pub tree_named : (t : Tree) → map (λ n. n.word) (tree_names t) ≡ filter_map naming (stms_words (tree_of t))
tree_named t = (list_named t.stmts.list.items).same
