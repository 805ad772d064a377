-- Cells that are made of operands.
use Rattle.std.proofs.Common.{◌≡◌, List, [], ◌∷◌, refl, ap}
use Rattle.hog_value.specs.declared.value.Kind.{Kind}
use Rattle.hog_value.specs.declared.value.Stop.{Stop}
use Rattle.hog_value.specs.declared.value.Stop.TheVariants as made
use Rattle.hog_value.specs.declared.value.SetStop.TheVariants as stop
use Rattle.hog_value.specs.Values.{Val}
use Rattle.hog_operators.specs.Pairs.{in_turn}
use Rattle.vm_course.specs.Step.{in_pairs}
use Rattle.vm_operations.specs.Here.{set_stop}

pub pairs_same : (vs : List Val) → in_turn vs ≡ in_pairs vs
pairs_same [] = refl
pairs_same (v ∷ []) = refl
pairs_same (k ∷ v ∷ vs) = ap (λ ps. (k, v) ∷ ps) (pairs_same vs)

pub stop_spent : (why : Stop) → set_stop why ≡ stop.UnitsSpent → why ≡ made.UnitsSpent
stop_spent made.UnitsSpent is = refl
stop_spent made.OutOfMemory is = absurd cc

pub stop_thrown : (why : Stop) (kind : Kind) → set_stop why ≡ stop.Thrown kind → ⊥
stop_thrown made.UnitsSpent kind is = cc
stop_thrown made.OutOfMemory kind is = cc
