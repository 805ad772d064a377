-- The words of a program that name something, with their places, in the order of the source.
use Rattle.std.specs.Prelude.{List, [], ◌∷◌, ◌++◌, Option, None, Some}
use Rattle.std.specs.List.{flat_map}
use Rattle.hog_tree.specs.declared.tree.Named.{Named}
use Rattle.hog_tree.specs.declared.tree.Expr as e
use Rattle.hog_tree.specs.declared.tree.Expr.{Expr, Int, Bool, Null, Template', Name, Array', Dict, Neg', Not', Binary', Coalesce', Prop', PropNullish', Index', Call', Lambda, Row_of-Expr, end_of-Expr, more_of-Expr}
use Rattle.hog_tree.specs.declared.tree.Part as t
use Rattle.hog_tree.specs.declared.tree.Part.{Part}
use Rattle.hog_tree.specs.declared.tree.Parts.{Row_of-Part, end_of-Part, more_of-Part}
use Rattle.hog_tree.specs.declared.tree.DictItem.{DictItem}
use Rattle.hog_tree.specs.declared.tree.ArrowBody.TheBlock.{struct-DictItems}
use Rattle.hog_tree.specs.declared.tree.DictItems.{DictItems, Row_of-DictItem, end_of-DictItem, more_of-DictItem}
use Rattle.hog_tree.specs.declared.tree.ArrowBody as a
use Rattle.hog_tree.specs.declared.tree.ArrowBody.{ArrowBody, One'}
use Rattle.hog_tree.specs.declared.tree.Stmt as s
use Rattle.hog_tree.specs.declared.tree.Stmt.{Stmt, Row_of-Stmt, end_of-Stmt, more_of-Stmt, Held-Stmt-Let-1, Stmt-Let-1-None', Stmt-Let-1-Some', Held-Stmt-If-2, Stmt-If-2-None', Stmt-If-2-Some', Held-Stmt-For-0, Stmt-For-0-None', Stmt-For-0-Some'}
use Rattle.hog_tree.specs.declared.tree.Tree.{Tree}

-- a name that may be left out
abbrev pub option_name : Option Named → List Named
option_name None = []
option_name (Some n) = n ∷ []

abbrev mutual
  pub exp_names : Expr → List Named
  exp_names (Int n) = []
  exp_names (Bool b) = []
  exp_names Null = []
  exp_names (e.Text t) = []
  exp_names (Template' m ps) = parts_names ps
  exp_names (Name n) = n ∷ []
  exp_names (Array' m xs) = exps_names xs
  exp_names (Dict ds) = dict_names ds
  exp_names (Neg' q x) = exp_names x
  exp_names (Not' q x) = exp_names x
  exp_names (Binary' op q x r y) = exp_names x ++ exp_names y
  exp_names (Coalesce' q x r y) = exp_names x ++ exp_names y
  exp_names (Prop' q x w) = exp_names x
  exp_names (PropNullish' q x w) = exp_names x
  exp_names (Index' q x r y) = exp_names x ++ exp_names y
  exp_names (Call' q f m xs) = exp_names f ++ exps_names xs
  exp_names (Lambda ns b) = ns ++ body_names b

  pub exps_names : {m : _} → Row_of-Expr m → List Named
  exps_names end_of-Expr = []
  exps_names (more_of-Expr x xs) = exp_names x ++ exps_names xs

  pub part_names : Part → List Named
  part_names (t.Text w) = []
  part_names (t.Hole x) = exp_names x

  pub parts_names : {m : _} → Row_of-Part m → List Named
  parts_names end_of-Part = []
  parts_names (more_of-Part x xs) = part_names x ++ parts_names xs

  pub dict_names : DictItems → List Named
  dict_names (struct-DictItems m ds) = pairs_names ds

  pub pairs_names : {m : _} → Row_of-DictItem m → List Named
  pairs_names end_of-DictItem = []
  pairs_names (more_of-DictItem k v ds) = exp_names k ++ exp_names v ++ pairs_names ds

  pub body_names : ArrowBody → List Named
  body_names (One' q x) = exp_names x
  body_names (a.Block' m ss) = stms_names ss

  pub stm_names : Stmt → List Named
  stm_names (s.Let' n x) = n ∷ option_exp_names x
  stm_names (s.Assign x y) = exp_names x ++ exp_names y
  stm_names (s.Do x) = exp_names x
  stm_names (s.Return' x) = option_exp_names x
  stm_names (s.Throw x) = exp_names x
  stm_names (s.If' c m b o) = exp_names c ++ stms_names b ++ option_stms_names o
  stm_names (s.While' c m b) = exp_names c ++ stms_names b
  stm_names (s.For' b c n m ss) = option_stm_names b ++ option_exp_names c ++ option_stm_names n ++ stms_names ss
  stm_names (s.ForIn' k v x m b) = option_name k ++ v ∷ exp_names x ++ stms_names b
  stm_names (s.Fun' n ps m b) = n ∷ ps ++ stms_names b
  stm_names (s.Try' m b n r c) = stms_names b ++ n ∷ stms_names c
  stm_names (s.Block' m b) = stms_names b

  pub stms_names : {m : _} → Row_of-Stmt m → List Named
  stms_names end_of-Stmt = []
  stms_names (more_of-Stmt x xs) = stm_names x ++ stms_names xs

  pub option_exp_names : Held-Stmt-Let-1 → List Named
  option_exp_names Stmt-Let-1-None' = []
  option_exp_names (Stmt-Let-1-Some' x) = exp_names x

  pub option_stm_names : Held-Stmt-For-0 → List Named
  option_stm_names Stmt-For-0-None' = []
  option_stm_names (Stmt-For-0-Some' q x) = stm_names x

  pub option_stms_names : Held-Stmt-If-2 → List Named
  option_stms_names Stmt-If-2-None' = []
  option_stms_names (Stmt-If-2-Some' m b) = stms_names b

-- the words of a program
abbrev pub tree_names : Tree → List Named
tree_names t = flat_map stm_names t.stmts.list.items
