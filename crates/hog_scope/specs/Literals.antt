-- The literal texts of a program: those that its code pushes as texts.
use Rattle.std.specs.Prelude.{ℕ, List, [], ◌∷◌, ◌++◌, Option, None, Some, fold, drop, slice_get, option_to_list}
use Rattle.std.specs.Ordering.{nat_cmp}
use Rattle.std.specs.Cmp.Lexicographic.{slice_cmp}
use Rattle.std.specs.BTreeSet.{insert_key}
use Rattle.hog_tree.specs.Plain.{Word, Stms}
use Rattle.hog_scope.specs.declared.item.Item.{Item}
use Rattle.hog_scope.specs.declared.item.Item.TheVariants as item
use Rattle.hog_scope.specs.Words.{Event, Opens, Closes, Declares, Binds, Reads, Assigns, Calls, Spells, stms_words}

-- how many words of one event name something, so have an item
abbrev pub item_count : Event → ℕ
item_count Opens = 0
item_count Closes = 0
item_count (Declares w) = 1
item_count (Binds w) = 0
item_count (Reads w) = 1
item_count (Assigns w) = 1
item_count (Calls w n) = 1
item_count (Spells t) = 0

-- a word that is read is a literal text where it names a global
abbrev pub global_text : Word → Option Item → Option Word
global_text w None = None
global_text w (Some (item.Declared n)) = None
global_text w (Some (item.Native native)) = None
global_text w (Some item.Global) = Some w

-- the literal text of one event, with the item of its word
abbrev pub text_of : Event → Option Item → Option Word
text_of Opens i = None
text_of Closes i = None
text_of (Declares w) i = None
text_of (Binds w) i = None
text_of (Reads w) i = global_text w i
text_of (Assigns w) i = None
text_of (Calls w n) i = None
text_of (Spells t) i = Some t

-- the literal texts of these events in their order; the items are those of their words
abbrev pub texts_of : List Event → List Item → List Word
texts_of [] items = []
texts_of (e ∷ es) items = option_to_list (text_of e (slice_get items 0)) ++ texts_of es (drop (item_count e) items)

-- the distinct texts in byte order
abbrev pub in_byte_order : List Word → List Word
in_byte_order texts = fold (insert_key (slice_cmp nat_cmp)) [] texts

-- the distinct literal texts of a program in byte order: its texts, the text parts of its templates, the property
-- names after `.` and `?.`, and the names that are read as globals
abbrev pub literals_of : Stms → List Item → List Word
literals_of program items = in_byte_order (texts_of (stms_words program) items)
