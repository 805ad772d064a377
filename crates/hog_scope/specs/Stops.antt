-- Refusals, with their places in the text.
use Rattle.std.specs.Prelude.{◌≡◌, ℕ, List, Option, None, Some, slice_get, Result, Ok, Err}
use Rattle.hog_tree.specs.declared.tree.Named.{Named}
use Rattle.hog_tree.specs.declared.tree.Tree.{Tree}
use Rattle.hog_tree.specs.View.{tree_of}
use Rattle.hog_scope.specs.declared.item.Item.{Item}
use Rattle.hog_scope.specs.declared.stop.ScopeStop.{ScopeStop}
use Rattle.hog_scope.specs.declared.stop.ScopeStop.TheVariants as stop
use Rattle.hog_tree.specs.Names.{tree_names}
use Rattle.hog_scope.specs.Scopes.{Cause, AlreadyDeclared, AssignsUnknown, UnknownFunction, WrongCount, Fault, items_of}

-- the refusal for what is wrong with the word at a place
abbrev pub stop_at : Cause → ℕ → ScopeStop
stop_at AlreadyDeclared at = stop.AlreadyDeclared at
stop_at AssignsUnknown at = stop.AssignsUnknown at
stop_at UnknownFunction at = stop.UnknownFunction at
stop_at WrongCount at = stop.WrongCount at

-- the place of a word, where there is one
abbrev pub place_of_name : Option Named → ℕ
place_of_name None = 0
place_of_name (Some n) = n.at

-- what each word of a tree names that names something, or the refusal of the first fault, in these words
abbrev pub located : List Named → Result (List Item) Fault → Result (List Item) ScopeStop
located names (Ok items) = Ok items
located names (Err fault) = Err (stop_at fault.cause (place_of_name (slice_get names fault.word)))

-- what each word of a tree names that names something, in the order of the source, or the refusal of the first fault
abbrev pub resolution : Tree → Result (List Item) ScopeStop
resolution t = located (tree_names t) (items_of (tree_of t))

-- a refusal of what is wrong, at this place, or want of memory
abbrev pub IsStop : {A : Type 0} → ScopeStop → ℕ → Result A Cause → Type 0
IsStop (stop.AlreadyDeclared n) at r = (r ≡ Err AlreadyDeclared) × (n ≡ at)
IsStop (stop.AssignsUnknown n) at r = (r ≡ Err AssignsUnknown) × (n ≡ at)
IsStop (stop.UnknownFunction n) at r = (r ≡ Err UnknownFunction) × (n ≡ at)
IsStop (stop.WrongCount n) at r = (r ≡ Err WrongCount) × (n ≡ at)
IsStop stop.OutOfMemory at r = Unit {0}

-- a tree, and what its words name
pub record ScopedTree : Type 0 where
  pub tree : Tree
  pub items : List Item

-- the answer that it should be, or the refusal of what is wrong at this place
abbrev pub IsAnswer : {A : Type 0} → Result A ScopeStop → ℕ → Result A Cause → Type 0
IsAnswer (Ok a) at r = r ≡ Ok a
IsAnswer (Err e) at r = IsStop e at r
