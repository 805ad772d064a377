-- What upvalues and values name.
use Rattle.std.proofs.Common.{◌≡◌, ℕ, zero, suc, List, [], ◌∷◌, All, Option, Some, None, sym, subst}
use Rattle.std.proofs.lemmas.List.Elements.{All-head, All-tail}
use Rattle.std.proofs.lemmas.Option.{none-some}
use Rattle.std.specs.Prelude.{slice_get, option_map, IfSome}
use Rattle.vm_frames.specs.declared.upvalues.Upvalue as u
use Rattle.vm_course.specs.State.{Upvalue}
use Rattle.vm_frames.specs.Parts.{ClosedBelow}
use Rattle.vm_frames.specs.Views.{upvalue_of}

closed_at : (n : ℕ) (us : List Upvalue) (k : ℕ) (x : Upvalue) → All (ClosedBelow n) us → slice_get us k ≡ Some x → ClosedBelow n x
closed_at n [] k x all is = absurd (none-some x is)
closed_at n (u ∷ us) zero x all is = let same : u ≡ x = cc in subst (ClosedBelow n) same (All-head (ClosedBelow n) u us all)
closed_at n (u ∷ us) (suc k) x all is = closed_at n us k x (All-tail (ClosedBelow n) u us all) is

-- an upvalue that is found
pub closed_found : (n : ℕ) (us : List Upvalue) (k : ℕ) (r : Option u.Upvalue) → option_map upvalue_of r ≡ slice_get us k → All (ClosedBelow n) us → IfSome r (λ x. ClosedBelow n (upvalue_of x))
closed_found n us k None is all = tt
closed_found n us k (Some x) is all = closed_at n us k (upvalue_of x) all (sym is)
