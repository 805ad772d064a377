-- The names of parts of trees, as vectors and options hold them, in the order of the text.
use Rattle.std.specs.Prelude.{List, [], ◌++◌, Option, None, Some}
use Rattle.std.specs.List.{flat_map}
use Rattle.std.specs.declared.boxed.Box.{Box}
use Rattle.std.specs.declared.alloc.Global.{Global}
use Rattle.hog_tree.specs.Names.{exp_names, stm_names}
use Rattle.hog_tree.specs.declared.tree.Named.{Named}
use Rattle.hog_tree.specs.declared.tree.Expr.{Expr}
use Rattle.hog_tree.specs.declared.tree.Exprs.{Exprs}
use Rattle.hog_tree.specs.declared.tree.DictItem.{DictItem}
use Rattle.hog_tree.specs.declared.tree.DictItems.{DictItems}
use Rattle.hog_tree.specs.declared.tree.ArrowBody.TheViews.{out-DictItems}
use Rattle.hog_tree.specs.declared.tree.Stmt.{Stmt}
use Rattle.hog_tree.specs.declared.tree.Stmts.{Stmts}

abbrev pub stmts_names : Stmts → List Named
stmts_names ss = flat_map stm_names ss.list.items

abbrev pub list_names : Exprs → List Named
list_names es = flat_map exp_names es.list.items

-- a key's and its value's
abbrev pub entry_names : DictItem → List Named
entry_names d = exp_names d.key ++ exp_names d.value

abbrev pub entries_names : DictItems → List Named
entries_names ds = flat_map entry_names (out-DictItems ds).list.items

-- of what may be left out

abbrev pub option_exp_names : Option Expr → List Named
option_exp_names None = []
option_exp_names (Some x) = exp_names x

abbrev pub option_stm_names : Option (Box Stmt Global) → List Named
option_stm_names None = []
option_stm_names (Some x) = stm_names x.value

abbrev pub option_stmts_names : Option Stmts → List Named
option_stmts_names None = []
option_stmts_names (Some x) = stmts_names x
