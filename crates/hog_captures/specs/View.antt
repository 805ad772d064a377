-- What contracts see of a frame's locals, and of names.
use Rattle.std.specs.Prelude.{List, map, reverse, Option, Some, None, Bool, false, bytes_eq}
use Rattle.std.specs.Borrow.{Bor}
use Rattle.hog_tree.specs.Plain.{Word}

-- a name that is lent, where there is one
abbrev pub name_of : Option (Bor Word) → Option Word
name_of None = None
name_of (Some w) = Some w.now

-- locals that stand from the base on, the nearest first
abbrev pub names_of : List (Option (Bor Word)) → List (Option Word)
names_of names = reverse (map name_of names)

-- words that are lent
abbrev pub words_at : List (Bor Word) → List Word
words_at words = map (λ w. w.now) words

-- whether a word is this name, where there is one
abbrev pub is_name : Word → Option Word → Bool
is_name w None = false
is_name w (Some v) = bytes_eq v w

-- words that are lent, the last first
abbrev pub last_first : List (Bor Word) → List Word
last_first words = reverse (words_at words)
