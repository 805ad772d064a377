-- The ends of lists of frames, what upvalues have taken along, and where they are open.
use Rattle.std.specs.Prelude.{ℕ, List, [], ◌∷◌, Bool, true, ◌&&◌, Option, Some, None, is_none}
use Rattle.hog_value.specs.Values.{NamesBelow}
use Rattle.vm_course.specs.State.{Upvalue, Opened, Closed, Frame}
use Rattle.vm_course.specs.Stack.{find_open}

-- the first of a list, and the others
abbrev pub first_of : {A : Type 0} → List A → Option A
first_of [] = None
first_of (x ∷ xs) = Some x

abbrev pub others_of : {A : Type 0} → List A → List A
others_of [] = []
others_of (x ∷ xs) = xs

-- the innermost frame
abbrev pub innermost : List Frame → Frame
innermost [] = record { place = 0; base = 0; function = None }
innermost (f ∷ fs) = f

-- the value that an upvalue has taken along names one of the first n cells, where it names one
abbrev pub ClosedBelow : ℕ → Upvalue → Type 0
ClosedBelow n (Opened p) = Unit {0}
ClosedBelow n (Closed v) = NamesBelow n v

-- no two upvalues are open at one place
abbrev pub places_differ : List Upvalue → Bool
places_differ [] = true
places_differ (Closed v ∷ us) = places_differ us
places_differ (Opened p ∷ us) = is_none (find_open us p) && places_differ us
