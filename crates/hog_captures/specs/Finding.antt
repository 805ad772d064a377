-- What is known while the variables are found that a function captures.
use Rattle.std.specs.Prelude.{◌≡◌, List, [], ◌∷◌, Option, Some, None, if◌then◌else◌}
use Rattle.hog_tree.specs.Plain.{Word}
use Rattle.hog_captures.specs.Frees.{is_among}
use Rattle.hog_captures.specs.Frames.{Frame, with_one}

-- the frame in which the function is made, the names that are declared within the function around, the nearest first, and
-- the words that were found
pub record Finding : Type 0 where
  pub frame : Frame
  pub bound : List Word
  pub found : List Word

-- where it begins
abbrev pub nothing_found : Frame → Finding
nothing_found fr = record { frame = fr; bound = []; found = [] }

-- after a word
abbrev pub with_word : Word → Finding → Finding
with_word w f = if is_among w f.bound then f else record f { found = with_one f.frame f.found w }

-- after these words
abbrev pub with_words : List Word → Finding → Finding
with_words [] f = f
with_words (w ∷ ws) f = with_words ws (with_word w f)

-- `new` is what is known after these words, where `old` was known before
pub record Finds (old new : Finding) (words : List Word) : Type 0 where
  pub after : new ≡ with_words words old

-- after the declaration of a name
abbrev pub bind : Word → Finding → Finding
bind w f = record f { bound = w ∷ f.bound }

-- after the declarations of these names
abbrev pub bind_all : List Word → Finding → Finding
bind_all [] f = f
bind_all (w ∷ ws) f = bind_all ws (bind w f)

-- after the declaration of a name, where there is one
abbrev pub bind_name : Option Word → Finding → Finding
bind_name None f = f
bind_name (Some w) f = bind w f
