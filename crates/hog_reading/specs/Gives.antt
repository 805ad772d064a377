-- What contracts of the parser's functions say of their results: each gives what its reading gives. No reader
-- has to trust this file.
use Rattle.std.specs.Prelude.{◌≡◌, List, map, length, Result, Ok, Err}
use Rattle.hog_tree.specs.Plain.{Word, Exp}
use Rattle.hog_tree.specs.Plain as p
use Rattle.hog_tree.specs.View.{exp_of, stms_from}
use Rattle.hog_tree.specs.declared.tree.Stmts.{Stmts}
use Rattle.hog_tree.specs.declared.tree.Exprs.{Exprs}
use Rattle.hog_tree.specs.declared.tree.DictItem.{DictItem}
use Rattle.hog_tree.specs.declared.tree.DictItems.{DictItems}
use Rattle.hog_tree.specs.declared.tree.ArrowBody.TheViews.{out-DictItems}
use Rattle.hog_grammar.specs.Pieces.{Lexed}
use Rattle.hog_reading.specs.declared.found.Found.{Found}
use Rattle.hog_reading.specs.declared.found.Stop.{Stop}
use Rattle.hog_reading.specs.declared.found.Stop.TheVariants as s
use Rattle.hog_terms.specs.Marks.{after_hole}
use Rattle.hog_reading.specs.Read.{Fault, Syntax, TooNested, ◌>>=◌, Got, got, wants}
use Rattle.hog_terms.specs.View.{left}

-- why reading gave nothing, unless memory ran out
abbrev pub Fails : {B : Type 0} → Lexed → Stop → Result B Fault → Type 0
Fails c (s.Syntax i) read = read ≡ Err Syntax
Fails c (s.TooNested i) read = read ≡ Err (TooNested (length (left c i)))
Fails c s.OutOfMemory read = Unit {0}

-- What a function returned, its tree seen by `view`, is what reading gives, unless memory ran out.
abbrev pub Gives : {A X : Type 0} → (X → A) → Lexed → Result (Found X) Stop → Result (Got A) Fault → Type 0
Gives view c (Ok f) read = read ≡ Ok (got (view f.tree) f.height (left c f.at))
Gives view c (Err e) read = Fails c e read

-- a reading, and what goes on from it
abbrev pub followed : {A B : Type 0} → Result (Got A) Fault → (Got A → Result (Got B) Fault) → Result (Got B) Fault
followed r f = r >>= f

-- the plain trees of expressions in order
abbrev pub list_of : Exprs → List Exp
list_of es = map exp_of es.list.items

-- the plain trees of a dictionary's keys and values
abbrev pub entry_of : DictItem → Exp × Exp
entry_of d = (exp_of d.key, exp_of d.value)

abbrev pub entries_of : DictItems → List (Exp × Exp)
entries_of ds = map entry_of (out-DictItems ds).list.items

-- a block's plain tree
abbrev pub stmts_of : Stmts → p.Stms
stmts_of ss = stms_from ss.list.items

-- the expression of a hole, and the hole's end
abbrev pub holed : Got Exp → Result (Got Exp) Fault
holed g = wants (after_hole g.rest) (λ us. Ok (got g.tree g.height us))
