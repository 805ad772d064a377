-- What contracts see of the events of a tree.
use Rattle.std.specs.Prelude.{◌≡◌, List, [], ◌∷◌, ◌++◌, map, Option, Some, None, Vec}
use Rattle.std.specs.List.{filter_map, flat_map}
use Rattle.std.specs.declared.boxed.Box.{Box}
use Rattle.std.specs.declared.alloc.Global.{Global}
use Rattle.hog_tree.specs.declared.tree.Named.{Named}
use Rattle.hog_tree.specs.declared.tree.Expr.{Expr}
use Rattle.hog_tree.specs.declared.tree.Exprs.{Exprs}
use Rattle.hog_tree.specs.declared.tree.Part as t
use Rattle.hog_tree.specs.declared.tree.Part.{Part}
use Rattle.hog_tree.specs.declared.tree.Parts.{Parts}
use Rattle.hog_tree.specs.declared.tree.DictItem.{DictItem}
use Rattle.hog_tree.specs.declared.tree.ArrowBody.{ArrowBody}
use Rattle.hog_tree.specs.declared.tree.Stmt.{Stmt}
use Rattle.hog_tree.specs.declared.tree.Stmts.{Stmts}
use Rattle.hog_tree.specs.View.{exp_of, stm_of, body_of}
use Rattle.hog_scope.specs.declared.words.Event as e
use Rattle.hog_scope.specs.declared.words.Event.TheVariants as r
use Rattle.hog_scope.specs.Words.{Event, Opens, Closes, Declares, Binds, Reads, Assigns, Calls, Spells, exp_words, body_words, stm_words, scope_of}
use Rattle.hog_tree.specs.Names.{exp_names, part_names, stm_names}

abbrev pub event_of : e.Event → Event
event_of r.Opens = Opens
event_of r.Closes = Closes
event_of (r.Declares n) = Declares n.now.word
event_of (r.Binds n) = Binds n.now.word
event_of (r.Reads n) = Reads n.now.word
event_of (r.Assigns n) = Assigns n.now.word
event_of (r.Calls n count) = Calls n.now.word count
event_of (r.Spells t) = Spells t.now

-- the word of an event that names something
abbrev pub name_in : e.Event → Option Named
name_in r.Opens = None
name_in r.Closes = None
name_in (r.Declares n) = Some n.now
name_in (r.Binds n) = None
name_in (r.Reads n) = Some n.now
name_in (r.Assigns n) = Some n.now
name_in (r.Calls n count) = Some n.now
name_in (r.Spells t) = None

-- the events of `new` are those of `old` and then these, with these words that name something
pub record AddsEvents (old new : Vec e.Event Global) (words : List Event) (names : List Named) : Type 0 where
  pub words_added : map event_of new.items ≡ map event_of old.items ++ words
  pub names_added : filter_map name_in new.items ≡ filter_map name_in old.items ++ names

-- the words of the parts of a tree, and those of them that name something
abbrev pub expr_words : Expr → List Event
expr_words x = exp_words (exp_of x)

abbrev pub exprs_words : Exprs → List Event
exprs_words xs = flat_map expr_words xs.list.items

abbrev pub exprs_names : Exprs → List Named
exprs_names xs = flat_map exp_names xs.list.items

abbrev pub part_words : Part → List Event
part_words (t.Text w) = Spells w ∷ []
part_words (t.Hole x) = expr_words x

abbrev pub template_words : Parts → List Event
template_words ps = flat_map part_words ps.list.items

abbrev pub template_names : Parts → List Named
template_names ps = flat_map part_names ps.list.items

abbrev pub item_words : DictItem → List Event
item_words d = expr_words d.key ++ expr_words d.value

abbrev pub item_names : DictItem → List Named
item_names d = exp_names d.key ++ exp_names d.value

abbrev pub arrow_words : ArrowBody → List Event
arrow_words b = body_words (body_of b)

abbrev pub value_words : Option Expr → List Event
value_words None = []
value_words (Some x) = expr_words x

abbrev pub value_names : Option Expr → List Named
value_names None = []
value_names (Some x) = exp_names x

abbrev pub stmt_words : Stmt → List Event
stmt_words s = stm_words (stm_of s)

abbrev pub stmts_words : Stmts → List Event
stmts_words ss = flat_map stmt_words ss.list.items

abbrev pub stmts_names : Stmts → List Named
stmts_names ss = flat_map stm_names ss.list.items

-- the start and the step of a `for`
abbrev pub start_words : Option (Box Stmt Global) → List Event
start_words None = []
start_words (Some s) = stmt_words s.value

abbrev pub step_words : Option (Box Stmt Global) → List Event
step_words None = []
step_words (Some s) = scope_of (stmt_words s.value)

abbrev pub boxed_names : Option (Box Stmt Global) → List Named
boxed_names None = []
boxed_names (Some s) = stm_names s.value

abbrev pub else_words : Option Stmts → List Event
else_words None = []
else_words (Some ss) = scope_of (stmts_words ss)

abbrev pub else_names : Option Stmts → List Named
else_names None = []
else_names (Some ss) = stmts_names ss
