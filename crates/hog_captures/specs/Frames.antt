-- What the code of a function finds words by: its locals and its captured variables.
use Rattle.std.specs.Prelude.{ℕ, zero, suc, List, [], ◌∷◌, ◌++◌, length, Bool, true, false, Option, Some, None, bytes_eq, if◌then◌else◌}
use Rattle.hog_ops.specs.declared.capture.Capture.{Capture}
use Rattle.hog_tree.specs.Plain.{Word}
use Rattle.hog_captures.specs.Frees.{without, is_among}

-- the names of the locals, the nearest first, where a hidden one has none, and of the captured variables in order
pub record Frame : Type 0 where
  pub locals : List (Option Word)
  pub ups : List Word

-- where a program begins
abbrev pub first_frame : Frame
first_frame = record { locals = []; ups = [] }

-- the index of the nearest local of this name, from the frame's base
abbrev pub find_local : List (Option Word) → Word → Option ℕ
find_local [] w = None
find_local (None ∷ vs) w = find_local vs w
find_local (Some v ∷ vs) w = if bytes_eq v w then Some (length vs) else find_local vs w

-- one further on
abbrev pub next_index : Option ℕ → Option ℕ
next_index None = None
next_index (Some i) = Some (suc i)

-- the index of the captured variable of this name
abbrev pub find_up : List Word → Word → Option ℕ
find_up [] w = None
find_up (v ∷ vs) w = if bytes_eq v w then Some zero else next_index (find_up vs w)

-- whether a word is a local or a captured variable
abbrev pub is_found : Option ℕ → Option ℕ → Bool
is_found (Some i) up = true
is_found None (Some u) = true
is_found None None = false

abbrev pub knows : Frame → Word → Bool
knows fr w = is_found (find_local fr.locals w) (find_up fr.ups w)

-- of these words those that the frame knows, each once, in their order
abbrev pub captured_of : Frame → List Word → List Word
captured_of fr [] = []
captured_of fr (w ∷ ws) = if knows fr w then w ∷ without w (captured_of fr ws) else captured_of fr ws

-- one word more, where the frame knows it and it isn't there
abbrev pub with_one : Frame → List Word → Word → List Word
with_one fr ws w = if is_among w ws then ws else (if knows fr w then ws ++ w ∷ [] else ws)

-- how a function takes a variable: a local of the frame, or a captured one of it
abbrev pub capture : Option ℕ → Option ℕ → Capture
capture (Some i) up = record { local = true; index = i }
capture None (Some u) = record { local = false; index = u }
capture None None = record { local = false; index = 0 }

abbrev pub captures_of : Frame → List Word → List Capture
captures_of fr [] = []
captures_of fr (w ∷ ws) = capture (find_local fr.locals w) (find_up fr.ups w) ∷ captures_of fr ws

-- the frame with one more local
abbrev pub with_local : Option Word → Frame → Frame
with_local name fr = record { locals = name ∷ fr.locals; ups = fr.ups }

-- the frame with the local that a statement declares, if it declares one
abbrev pub with_name : Option Word → Frame → Frame
with_name None fr = fr
with_name (Some w) fr = with_local (Some w) fr

-- the frame with so many hidden locals more
abbrev pub with_hidden : ℕ → Frame → Frame
with_hidden zero fr = fr
with_hidden (suc n) fr = with_local None (with_hidden n fr)

-- parameters as locals, after those that are there
abbrev pub with_params : List Word → List (Option Word) → List (Option Word)
with_params [] locals = locals
with_params (p ∷ ps) locals = with_params ps (Some p ∷ locals)

-- the frame of a function with these parameters, which has captured these variables
abbrev pub inner_frame : List Word → List Word → Frame
inner_frame ps captured = record { locals = with_params ps []; ups = captured }
