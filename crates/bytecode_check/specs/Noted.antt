-- How the shapes of places are kept: of the open tries the innermost alone, by its catch place. That place has its shape by
-- then, which is that of the place where the try was opened with the thrown value on it; so it says the try's depth, and
-- which tries are open around it.
pub use Rattle.bytecode_check.specs.declared.shapes.FrameShape.{FrameShape}
use Rattle.std.specs.Prelude.{◌≡◌, ℕ, ◌+◌, ◌-◌, ◌≤◌, ◌^◌, List, [], ◌∷◌, ◌++◌, true, Option, Some, None, is_some, Result, Ok, Err, if◌then◌else◌}
use Rattle.bytecode_check.specs.declared.stops.VerifyStop.{VerifyStop}
use Rattle.bytecode_check.specs.declared.stops.VerifyStop.TheVariants.{ShapesDiffer}
use Rattle.bytecode_check.specs.Shape.{OpenTry, open_try, Shape, shaped, before_catches, Shapes, shape_at, given}
use Rattle.bytecode_check.specs.Effects.{Lead}
use Rattle.bytecode_check.specs.Verify.{may_get, begun}
use Rattle.hog_ops.specs.Plain.{Ops}

abbrev pub tries_over : ℕ → Option Shape → List OpenTry
tries_over catch None = []
tries_over catch (Some shape) = open_try (shape.depth - 1) catch ∷ shape.tries

-- the tries of which the innermost has this catch place
abbrev pub tries_in : Shapes → Option ℕ → List OpenTry
tries_in shapes None = []
tries_in shapes (Some catch) = tries_over catch (shape_at shapes catch)

-- the shape that is kept so
abbrev pub seen : Shapes → FrameShape → Shape
seen shapes f = shaped f.depth (tries_in shapes f.within)

-- the shapes of all places, from how they are kept
abbrev pub all_seen : Shapes → List (ℕ × FrameShape) → Shapes
all_seen shapes [] = shapes
all_seen shapes (x ∷ xs) = all_seen (shapes ++ (x.0, seen shapes x.1) ∷ []) xs

abbrev pub innermost : List OpenTry → Option ℕ
innermost [] = None
innermost (t ∷ ts) = Some t.catch

abbrev pub noted : Shape → FrameShape
noted shape = record { depth = shape.depth; within = innermost shape.tries }

abbrev pub all_noted : Shapes → List (ℕ × FrameShape)
all_noted [] = []
all_noted (x ∷ xs) = (x.0, noted x.1) ∷ all_noted xs

-- what is kept of each shape says all of it, its place stands before its catch places, and depths grow by one a place at most
abbrev pub AllKept : Shapes → Shapes → Type 0
AllKept shapes [] = Unit {0}
AllKept shapes (x ∷ xs) =
    (tries_in shapes (innermost x.1.tries) ≡ x.1.tries)
    × (before_catches x.0 x.1.tries ≡ true)
    × (x.1.depth ≤ 2 ^ 32 + x.0)
    × AllKept shapes xs

pub record Kept (entries : List (ℕ × FrameShape)) : Type 0 where
  pub noted : entries ≡ all_noted (all_seen [] entries)
  pub kept : AllKept (all_seen [] entries) (all_seen [] entries)

-- the catch place has its shape
abbrev pub IsKnown : Shapes → Option ℕ → Type 0
IsKnown shapes None = Unit {0}
IsKnown shapes (Some catch) = is_some (shape_at shapes catch) ≡ true

-- one place gets its shape
abbrev pub give_one : ℕ → Lead → Shapes → Result Shapes VerifyStop
give_one at lead shapes = if may_get at shapes lead then Ok (given shapes lead.0 lead.1) else Err (ShapesDiffer at)

-- places keep their shapes
abbrev pub Grows : Shapes → Shapes → Type 0
Grows X Y = (p : ℕ) (s : Shape) → shape_at X p ≡ Some s → shape_at Y p ≡ Some s

-- a body begins, and no more
abbrev pub begun_alone : ℕ → Ops → ℕ → ℕ → Shapes → Result Shapes VerifyStop
begun_alone at body start params shapes = begun at body start params shapes (λ s. Ok s)
