-- When a machine belongs to a code.
use Rattle.std.specs.Prelude.{ℕ, ◌&&◌, ◌==◌, List, [], ◌∷◌, length, Bool, true, false, Option, Some, None, is_some, slice_get, bytes_eq}
use Rattle.std.specs.List.{list_all}
use Rattle.hog_value.specs.declared.cell.FunCell.{FunCell}
use Rattle.hog_value.specs.Cells.{CellOf, Text, Array, Dict, Fun, HeapOf}
use Rattle.hog_ops.specs.Plain.{Ops}
use Rattle.vm_course.specs.State.{Slot, Begins, BodyEnds, Operand, code_slots, params_at, State}
use Rattle.vm_course.specs.Course.{literals_of_code}
use Rattle.vm_course.specs.Run.{RunState}

-- a place at which a frame may stand: the start of an operation, the end of a body, or the end of the program
abbrev pub stands_at : List Slot → ℕ → Option Slot → Bool
stands_at code place (Some (Begins o)) = true
stands_at code place (Some BodyEnds) = true
stands_at code place (Some Operand) = false
stands_at code place None = place == length code

abbrev pub is_place : List Slot → ℕ → Bool
is_place code place = stands_at code place (slice_get code place)

-- a place at which the body of a function begins
abbrev pub is_body : List Slot → ℕ → Bool
is_body code place = is_some (params_at code place)

abbrev pub cell_belongs : List Slot → CellOf FunCell → Bool
cell_belongs code (Text t) = true
cell_belongs code (Array vs) = true
cell_belongs code (Dict ps) = true
cell_belongs code (Fun f) = is_body code f.place

-- the first cells are the code's literals, in order
abbrev pub is_text : List ℕ → CellOf FunCell → Bool
is_text t (Text u) = bytes_eq t u
is_text t (Array vs) = false
is_text t (Dict ps) = false
is_text t (Fun f) = false

abbrev pub begins_with : List (List ℕ) → HeapOf FunCell → Bool
begins_with [] heap = true
begins_with (t ∷ ts) [] = false
begins_with (t ∷ ts) (c ∷ cs) = is_text t c && begins_with ts cs

-- where there are no globals the run ended before it made its literals
abbrev pub literals_belong : List (List ℕ) → Option ℕ → HeapOf FunCell → Bool
literals_belong literals None heap = true
literals_belong literals (Some globals) heap = begins_with literals heap

abbrev pub places_belong : List Slot → State → Bool
places_belong code s = list_all (λ f. is_place code f.place) s.frames && list_all (λ t. is_place code t.catch) s.throws && list_all (cell_belongs code) s.heap

unfoldable pub belongs : Ops → RunState → Bool
belongs code m = places_belong (code_slots code) m.state && literals_belong (literals_of_code code) m.globals m.state.heap
