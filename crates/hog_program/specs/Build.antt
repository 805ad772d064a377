-- What a source means: its program with what it mentions of the prelude, the code of that, and why there is none.
use Rattle.std.specs.Prelude.{◌≡◌, ℕ, ◌+◌, List, Some, Ok, Err, slice_get}
use Rattle.hog_tree.specs.Plain.{Stms}
use Rattle.hog_tree.specs.declared.tree.Named.{Named}
use Rattle.hog_grammar.specs.Names.{names_in}
use Rattle.hog_scope.specs.declared.item.Item.{Item}
use Rattle.hog_scope.specs.Scopes.{Cause, AlreadyDeclared, AssignsUnknown, UnknownFunction, WrongCount, Fault, items_of}
use Rattle.hog_program.specs.Prelude.{with_prelude, words_in_front}
use Rattle.hog_program.specs.Source.{IsProgram, IsNone}
use Rattle.hog_program.specs.declared.stop.BuildStop.{BuildStop}
use Rattle.hog_program.specs.declared.stop.BuildStop.TheVariants as stop

-- The source is a program, and this is the whole of it, with what it mentions of the prelude.
pub record IsSource (text : List ℕ) (whole : Stms) : Type 0 where
  pub program : Stms
  pub is : IsProgram text program
  pub is_whole : whole ≡ with_prelude (record { text = text; list = is.list }) program

-- The names of a source have a fault. This is the first of them: what is wrong, and the place in the text of the word
-- with which it is. That word is one of the text's own, and never one of the prelude's in front of them.
pub record HasFault (text : List ℕ) (cause : Cause) (at : ℕ) : Type 0 where
  pub whole : Stms
  pub source : IsSource text whole
  pub fault : Fault
  pub found : items_of whole ≡ Err fault
  pub is : cause ≡ fault.cause
  -- the faulty word, by how many of the text's own stand before it
  pub before : ℕ
  pub behind : fault.word ≡ words_in_front (record { text = text; list = source.is.list }) + before
  pub name : Named
  pub named : slice_get (names_in text source.is.list) before ≡ Some name
  pub place : at ≡ name.at

-- The source is a program whose names are without fault, and this is the whole of it.
pub record IsBuilt (text : List ℕ) (whole : Stms) : Type 0 where
  pub source : IsSource text whole
  pub items : List Item
  pub resolved : items_of whole ≡ Ok items

-- why a source isn't built
abbrev pub IsUnbuilt : List ℕ → BuildStop → Type 0
IsUnbuilt text (stop.AlreadyDeclared at) = HasFault text AlreadyDeclared at
IsUnbuilt text (stop.AssignsUnknown at) = HasFault text AssignsUnknown at
IsUnbuilt text (stop.UnknownFunction at) = HasFault text UnknownFunction at
IsUnbuilt text (stop.WrongCount at) = HasFault text WrongCount at
IsUnbuilt text s = IsNone text s
