-- Shapes: how many values a call has on the stack at a place of the code, and which tries are open there.
use Rattle.std.specs.List.{list_all}
use Rattle.std.specs.Prelude.{ℕ, List, [], ◌∷◌, ◌++◌, Bool, true, false, ◌&&◌, ◌==◌, Option, Some, None, if◌then◌else◌, nat_lt}

-- an open try: how many values there were where it was opened, and the place to which a throw goes
pub record OpenTry : Type 0 where
  pub depth : ℕ
  pub catch : ℕ

-- the innermost try comes first
pub record Shape : Type 0 where
  pub depth : ℕ
  pub tries : List OpenTry

abbrev pub shaped : ℕ → List OpenTry → Shape
shaped depth tries = record { depth = depth; tries = tries }

abbrev pub open_try : ℕ → ℕ → OpenTry
open_try depth catch = record { depth = depth; catch = catch }

abbrev pub same_tries : List OpenTry → List OpenTry → Bool
same_tries [] [] = true
same_tries [] (u ∷ us) = false
same_tries (t ∷ ts) [] = false
same_tries (t ∷ ts) (u ∷ us) = (t.depth == u.depth) && ((t.catch == u.catch) && same_tries ts us)

abbrev pub same_shape : Shape → Shape → Bool
same_shape a b = (a.depth == b.depth) && same_tries a.tries b.tries

-- what stood on the stack before the innermost try was opened is no operand
abbrev pub floor : List OpenTry → ℕ
floor [] = 0
floor (t ∷ ts) = t.depth

-- a place stands before the catch place of each try
abbrev pub before_catches : ℕ → List OpenTry → Bool
before_catches place tries = list_all (λ t. nat_lt place t.catch) tries

-- The shapes of places, in the order in which the places got them: the first that a place gets is its shape.
abbrev pub Shapes : Type 0
Shapes = List (ℕ × Shape)

abbrev pub shape_at : Shapes → ℕ → Option Shape
shape_at [] place = None
shape_at (x ∷ xs) place = if place == x.0 then Some x.1 else shape_at xs place

abbrev pub given_over : Option Shape → Shapes → ℕ → Shape → Shapes
given_over None shapes place shape = shapes ++ (place, shape) ∷ []
given_over (Some old) shapes place shape = shapes

abbrev pub given : Shapes → ℕ → Shape → Shapes
given shapes place shape = given_over (shape_at shapes place) shapes place shape
