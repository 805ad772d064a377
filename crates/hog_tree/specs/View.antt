-- The plain tree of a tree.
use Rattle.std.specs.Prelude.{List, [], ◌∷◌, map, Option, Some, None}
use Rattle.std.specs.declared.boxed.Box.{Box}
use Rattle.std.specs.declared.alloc.Global.{Global}
use Rattle.hog_tree.specs.Plain.{Word, Exp, Exps, Parts, Pairs, Body, Stm, Stms, OptionExp, OptionStm, OptionStms, NoExp, MoreExp, NoPart, MoreText, MoreHole, NoPair, MorePair, Done, Then, NoneExp, SomeExp, NoneStm, SomeStm, NoneStms, SomeStms}
use Rattle.hog_tree.specs.Plain as p
use Rattle.hog_tree.specs.declared.tree.Named.{Named}
use Rattle.hog_tree.specs.declared.tree.Expr as e
use Rattle.hog_tree.specs.declared.tree.Expr.{Expr, Int, Bool, Null, Template', Name, Array', Dict, Neg', Not', Binary', Coalesce', Prop', PropNullish', Index', Call', Lambda, Row_of-Expr, end_of-Expr, more_of-Expr}
use Rattle.hog_tree.specs.declared.tree.Part as t
use Rattle.hog_tree.specs.declared.tree.Part.{Part}
use Rattle.hog_tree.specs.declared.tree.Parts.{Row_of-Part, end_of-Part, more_of-Part}
use Rattle.hog_tree.specs.declared.tree.ArrowBody.TheBlock.{struct-DictItems}
use Rattle.hog_tree.specs.declared.tree.DictItems.{DictItems, Row_of-DictItem, end_of-DictItem, more_of-DictItem}
use Rattle.hog_tree.specs.declared.tree.DictItem.{DictItem}
use Rattle.hog_tree.specs.declared.tree.ArrowBody as a
use Rattle.hog_tree.specs.declared.tree.ArrowBody.{ArrowBody, One'}
use Rattle.hog_tree.specs.declared.tree.Stmt as s
use Rattle.hog_tree.specs.declared.tree.Stmt.{Stmt, Row_of-Stmt, end_of-Stmt, more_of-Stmt, Held-Stmt-Let-1, Stmt-Let-1-None', Stmt-Let-1-Some', Held-Stmt-If-2, Stmt-If-2-None', Stmt-If-2-Some', Held-Stmt-For-0, Stmt-For-0-None', Stmt-For-0-Some'}
use Rattle.hog_tree.specs.declared.tree.Stmts.{Stmts as Block}
use Rattle.hog_tree.specs.declared.tree.Tree.{Tree}

abbrev pub word_of : Named → Word
word_of n = n.word

abbrev pub words_of : List Named → List Word
words_of names = map word_of names

abbrev pub option_word_of : Option Named → Option Word
option_word_of None = None
option_word_of (Some n) = Some n.word

abbrev mutual
  pub exp_of : Expr → Exp
  exp_of (Int n) = p.Int n
  exp_of (Bool b) = p.Truth b
  exp_of Null = p.Null
  exp_of (e.Text t) = p.Text t
  exp_of (Template' m ps) = p.Template (parts_of ps)
  exp_of (Name n) = p.Name n.word
  exp_of (Array' m es) = p.Array (exps_of es)
  exp_of (Dict ds) = p.Dict (dict_of ds)
  exp_of (Neg' q x) = p.Neg (exp_of x)
  exp_of (Not' q x) = p.Not (exp_of x)
  exp_of (Binary' op q x r y) = p.Binary op (exp_of x) (exp_of y)
  exp_of (Coalesce' q x r y) = p.Coalesce (exp_of x) (exp_of y)
  exp_of (Prop' q x w) = p.Prop (exp_of x) w
  exp_of (PropNullish' q x w) = p.PropNullish (exp_of x) w
  exp_of (Index' q x r y) = p.Index (exp_of x) (exp_of y)
  exp_of (Call' q f m es) = p.Call (exp_of f) (exps_of es)
  exp_of (Lambda ns b) = p.Lambda (words_of ns) (body_of b)

  pub exps_of : {m : _} → Row_of-Expr m → Exps
  exps_of end_of-Expr = NoExp
  exps_of (more_of-Expr x xs) = MoreExp (exp_of x) (exps_of xs)

  pub part_of : Part → Parts → Parts
  part_of (t.Text w) ps = MoreText w ps
  part_of (t.Hole x) ps = MoreHole (exp_of x) ps

  pub parts_of : {m : _} → Row_of-Part m → Parts
  parts_of end_of-Part = NoPart
  parts_of (more_of-Part x xs) = part_of x (parts_of xs)

  pub dict_of : DictItems → Pairs
  dict_of (struct-DictItems m ds) = pairs_of ds

  pub pairs_of : {m : _} → Row_of-DictItem m → Pairs
  pairs_of end_of-DictItem = NoPair
  pairs_of (more_of-DictItem k v ds) = MorePair (exp_of k) (exp_of v) (pairs_of ds)

  pub body_of : ArrowBody → Body
  body_of (One' q x) = p.OneExp (exp_of x)
  body_of (a.Block' m ss) = p.ManyStms (stms_of ss)

  pub stm_of : Stmt → Stm
  stm_of (s.Let' n x) = p.Let n.word (option_exp_of x)
  stm_of (s.Assign x y) = p.Assign (exp_of x) (exp_of y)
  stm_of (s.Do x) = p.Do (exp_of x)
  stm_of (s.Return' x) = p.Return (option_exp_of x)
  stm_of (s.Throw x) = p.Throw (exp_of x)
  stm_of (s.If' c m b o) = p.If (exp_of c) (stms_of b) (option_stms_of o)
  stm_of (s.While' c m b) = p.While (exp_of c) (stms_of b)
  stm_of (s.For' b c n m ss) = p.For (option_stm_of b) (option_exp_of c) (option_stm_of n) (stms_of ss)
  stm_of (s.ForIn' k v x m b) = p.ForIn (option_word_of k) v.word (exp_of x) (stms_of b)
  stm_of (s.Fun' n ps m b) = p.Fun n.word (words_of ps) (stms_of b)
  stm_of (s.Try' m b n r c) = p.Try (stms_of b) n.word (stms_of c)
  stm_of (s.Block' m b) = p.Block (stms_of b)

  pub stms_of : {m : _} → Row_of-Stmt m → Stms
  stms_of end_of-Stmt = Done
  stms_of (more_of-Stmt x xs) = Then (stm_of x) (stms_of xs)

  pub option_exp_of : Held-Stmt-Let-1 → OptionExp
  option_exp_of Stmt-Let-1-None' = NoneExp
  option_exp_of (Stmt-Let-1-Some' x) = SomeExp (exp_of x)

  pub option_stm_of : Held-Stmt-For-0 → OptionStm
  option_stm_of Stmt-For-0-None' = NoneStm
  option_stm_of (Stmt-For-0-Some' q x) = SomeStm (stm_of x)

  pub option_stms_of : Held-Stmt-If-2 → OptionStms
  option_stms_of Stmt-If-2-None' = NoneStms
  option_stms_of (Stmt-If-2-Some' m b) = SomeStms (stms_of b)

-- Lists of trees, as loops over vectors see them.
abbrev pub exps_from : List Expr → Exps
exps_from [] = NoExp
exps_from (x ∷ xs) = MoreExp (exp_of x) (exps_from xs)

abbrev pub parts_from : List Part → Parts
parts_from [] = NoPart
parts_from (x ∷ xs) = part_of x (parts_from xs)

abbrev pub pairs_from : List DictItem → Pairs
pairs_from [] = NoPair
pairs_from (x ∷ xs) = MorePair (exp_of x.key) (exp_of x.value) (pairs_from xs)

abbrev pub stms_from : List Stmt → Stms
stms_from [] = Done
stms_from (x ∷ xs) = Then (stm_of x) (stms_from xs)

-- Parts that may be left out, as a program makes and matches them.
abbrev pub option_exp_from : Option Expr → OptionExp
option_exp_from None = NoneExp
option_exp_from (Some x) = SomeExp (exp_of x)

abbrev pub option_stm_from : Option (Box Stmt Global) → OptionStm
option_stm_from None = NoneStm
option_stm_from (Some x) = SomeStm (stm_of x.value)

abbrev pub option_stms_from : Option Block → OptionStms
option_stms_from None = NoneStms
option_stms_from (Some x) = SomeStms (stms_from x.list.items)

-- The plain tree of a program.
abbrev pub tree_of : Tree → Stms
tree_of t = stms_from t.stmts.list.items
