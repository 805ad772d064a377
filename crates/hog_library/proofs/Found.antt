-- What a native found out, from what its parts answer.
use Rattle.std.proofs.Common.{◌≡◌, ◌<◌, ◌+◌, ℕ, List, length, Option, Some, None, arith, refl, ap, sym, subst}
use Rattle.std.specs.Prelude.{Result, Ok, Err, IfOk, IsErrAnd}
use Rattle.hog_value.specs.declared.cell.FunCell.{FunCell}
use Rattle.hog_value.specs.declared.value.Kind.TheVariants.{TypeError}
use Rattle.hog_value.specs.declared.value.Stop.{Stop}
use Rattle.hog_value.specs.declared.value.Stop.TheVariants as stop
use Rattle.hog_value.specs.Values.{Val}
use Rattle.hog_value.specs.Meters.{max_units}
use Rattle.hog_value.specs.Cells.{HeapOf}
use Rattle.hog_value.specs.Operations.{Outcome, Spends, made}
use Rattle.hog_value.proofs.Charges.{charged-spends}
use Rattle.hog_library.specs.declared.stop.NativeStop.{NativeStop}
use Rattle.hog_library.specs.declared.stop.NativeStop.TheVariants.{Thrown}
use Rattle.hog_library.specs.declared.product.Product.{Product}
use Rattle.hog_library.specs.Given.{with_given}
use Rattle.hog_library.specs.Natives.{text_made}
use Rattle.hog_library.specs.Products.{Stops, Finds, native_stop, text_found}

-- a text that is longer than the units left can't be made
pub text_spends : (t : List ℕ) (h : HeapOf FunCell) (units left : ℕ) → left + units ≡ max_units → left < length t → text_made h units t ≡ Spends
unfolding made
text_spends t h units left is long = charged-spends _ _ _ _ (omega arith)

-- what comes of a text that was built
pub finds_text : (t : List ℕ) (r : Result (List ℕ) Stop) (h : HeapOf FunCell) (units left : ℕ) → left + units ≡ max_units
    → IfOk r (λ made. made ≡ t) → (r ≡ Err stop.UnitsSpent → left < length t) → Finds (text_made h units t) (text_found r) h units
finds_text t (Ok made) h units left is ok spent = (ap (text_made h units) (sym ok), tt)
finds_text t (Err stop.UnitsSpent) h units left is ok spent = text_spends t h units left is (spent refl)
finds_text t (Err stop.OutOfMemory) h units left is ok spent = tt

-- what comes of an argument of another kind, and of one of the kind that is wanted
module _ {A : Type 0} (next : A → Outcome FunCell Val) where
  pub stops_wrong : (o : Option A) (e : NativeStop) → o ≡ None → e ≡ Thrown TypeError → Stops (with_given o next) e
  stops_wrong o e none is = subst (Stops (with_given o next)) (sym is) (ap (λ x. with_given x next) none)

  pub found_given : (o : Option A) (a : A) (p : Result Product NativeStop) (h : HeapOf FunCell) (units : ℕ) → o ≡ Some a
      → Finds (next a) p h units → Finds (with_given o next) p h units
  found_given o a p h units is found = subst (λ x. Finds (with_given x next) p h units) (sym is) found

-- what comes of a text that was built, by the answer that hands it on
pub found_text : (t : List ℕ) (r : Result (List ℕ) Stop) (p : Result Product NativeStop) (h : HeapOf FunCell) (units left : ℕ) → p ≡ text_found r
    → left + units ≡ max_units → IfOk r (λ made. made ≡ t) → (r ≡ Err stop.UnitsSpent → left < length t) → Finds (text_made h units t) p h units
found_text t r p h units left handed is ok spent = subst (λ x. Finds (text_made h units t) x h units) (sym handed) (finds_text t r h units left is ok spent)

-- what comes of an operation on the heap that stopped
pub finds_stop : (o : Outcome FunCell Val) (s : Stop) (r : Result Product NativeStop) (h : HeapOf FunCell) (units : ℕ)
    → IsErrAnd r (λ e. e ≡ native_stop s) → (s ≡ stop.UnitsSpent → o ≡ Spends) → Finds o r h units
finds_stop o s (Ok p) h units stops spent = absurd stops
finds_stop o stop.UnitsSpent (Err e) h units is spent = subst (Stops o) (sym is) (spent refl)
finds_stop o stop.OutOfMemory (Err e) h units is spent = subst (Stops o) (sym is) tt
