-- How the numbers that `resolve` gives the names of a program stand to the environments by which its meaning finds them.
use Rattle.std.specs.Prelude.{◌≡◌, ℕ, List, true, false, [], Ok}
use Rattle.hog_tree.specs.Plain.{Stms}
use Rattle.hog_captures.specs.Frees.{is_among, stms_frees}
use Rattle.hog_scope.specs.Scopes.{items_of}
use Rattle.hog_meaning.specs.World.{Reply}
use Rattle.hog_meaning.specs.Program.{meaning}
use Rattle.hog_bridge.specs.Laws.{IsNamed}
use Rattle.hog_names.specs.Numbers.{stms_items}
use Rattle.hog_names.specs.Anew.{Naming, program_anew}

-- Each word of a program whose names are right has the item that an environment finds for it.
abbrev pub NumbersAreFound : Type 0
NumbersAreFound = (program : Stms) (names : IsNamed program) → names.items ≡ stms_items [] 0 program

-- A naming for a program: it calls different declarations differently, and none as a word of the program that names no
-- variable.
pub record IsNaming (call : Naming) (program : Stms) : Type 0 where
  pub apart : (i j : ℕ) → call i ≡ call j → i ≡ j
  pub free : (n : ℕ) → is_among (call n) (stms_frees true program) ≡ false

-- Each program has one.
abbrev pub NamingsExist : Type 0
NamingsExist = (program : Stms) → (call : Naming) × IsNaming call program

-- With each variable called anew, by the number of its declaration, the names of a program are right still, and its words have
-- the items that they had.
abbrev pub NumbersStay : Type 0
NumbersStay = (program : Stms) (names : IsNamed program) (call : Naming) → IsNaming call program
    → items_of (program_anew call names.items program) ≡ Ok names.items

-- And the program means the same. In the program called anew no two declarations have one name, so each word can find nothing
-- but a variable that the declaration with its number has made.
abbrev pub MeaningIsByNumbers : Type 0
MeaningIsByNumbers = (program : Stms) (names : IsNamed program) (call : Naming) → IsNaming call program → (globals : List ℕ) (replies : List Reply)
    → meaning (program_anew call names.items program) globals replies ≡ meaning program globals replies
