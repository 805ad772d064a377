-- New functions.
use Rattle.std.proofs.Common.{◌≡◌, ◌≤◌, ◌+◌, ℕ, suc, List, [], ◌∷◌, ◌++◌, length, true, false, cond, arith, ap, ap₂, sym, ◌∙◌}
use Rattle.std.proofs.lemmas.Bool.Decides.{nat_tests}
use Rattle.std.specs.Prelude.{nat_le, Option, option_and_then}
use Rattle.hog_value.specs.declared.cell.FunCell.{FunCell}
use Rattle.hog_value.specs.declared.trace.End.TheVariants.{MemorySpent}
use Rattle.hog_value.specs.declared.value.Value.TheVariants.{Ref}
use Rattle.hog_value.specs.Values.{Val}
use Rattle.hog_value.specs.Cells.{Fun, HeapOf}
use Rattle.hog_value.specs.Meters.{max_units}
use Rattle.hog_value.specs.Operations.{Gives, Spends, made}
use Rattle.hog_ops.specs.declared.capture.Capture.{Capture}
use Rattle.vm_course.specs.State.{Upvalue, State, header, function_at}
use Rattle.vm_course.specs.Stack.{captured_in, captured_by, capture_all}
use Rattle.vm_course.specs.Throws.{ends, on_outcome}
use Rattle.vm_course.specs.Step.{on_and_push, make_function}
use Rattle.vm_frames.specs.Parts.{innermost}
use Rattle.vm_operations.specs.Here.{here_of}
use Rattle.vm_operations.specs.Calls.{captured_all, push_and_go}

made_fits : (f : FunCell) (h : HeapOf FunCell) (units : ℕ) → units + 64 ≤ max_units → made (Fun f) h units ≡ Gives (Ref (length h)) (h ++ Fun f ∷ []) (units + 64)
unfolding made
made_fits f h units fits =
    let left : nat_le (units + 64) max_units ≡ true = grind (arith, nat_tests) in
    ap (λ b. cond b (Gives (Ref (length h)) (h ++ Fun f ∷ []) (units + 64)) Spends) left

made_spent : (f : FunCell) (h : HeapOf FunCell) (units : ℕ) → (units + 64 ≤ max_units → ⊥) → made (Fun f) h units ≡ Spends
unfolding made
made_spent f h units none =
    let spent : nat_le (units + 64) max_units ≡ false = grind (arith, nat_tests) in
    ap (λ b. cond b (Gives (Ref (length h)) (h ++ Fun f ∷ []) (units + 64)) Spends) spent

-- what is captured of the innermost frame, from the parts of a machine
pub captured_is : (s : State) (captures : List Capture) (height : ℕ) (captured : List ℕ) (us : List Upvalue) (function : Option ℕ) (heap : HeapOf FunCell) → height ≡ length s.stack + 1
    → captured ≡ captured_in (option_and_then (function_at heap) function) → function ≡ (innermost s.frames).function → heap ≡ s.heap → us ≡ s.upvalues
    → capture_all height (innermost s.frames) captured captures us ≡ captured_all captures s
captured_is s captures height captured us function heap tall numbers called cells there =
    let f = innermost s.frames in
    let one : height ≡ suc (length s.stack) = omega arith in
    ap₂ (λ n ns. capture_all n f ns captures us) one (numbers ∙ ap₂ (λ h o. captured_in (option_and_then (function_at h) o)) cells called)
    ∙ ap (capture_all (suc (length s.stack)) f (captured_by s f) captures) there

module _ (s : State) (b : ℕ) (captures : List Capture) where
  -- the cell of the new function, and what is done with its value
  new_cell : FunCell
  new_cell = record { place = (innermost s.frames).place + header; captured = (captured_all captures s).0 }

  with_function : Val → State → State
  with_function v s1 = record (on_and_push (here_of b s) s1.stack v s1) { upvalues = (captured_all captures s).1 }

  pub none_fits : (s.units + 64 ≤ max_units → ⊥) → ends MemorySpent s ≡ make_function (here_of b s) captures s
  unfolding new_cell with_function
  none_fits none = sym (ap (λ o. on_outcome o with_function s) (made_spent new_cell s.heap s.units none))

  pub function_made : (place : ℕ) (numbers : List ℕ) (s1 : State) → s.units + 64 ≤ max_units → place ≡ (innermost s.frames).place + header → numbers ≡ (captured_all captures s).0
      → s1 ≡ record s { upvalues = (captured_all captures s).1 }
      → on_outcome (made (Fun (record { place = place; captured = numbers })) s1.heap s1.units) (push_and_go (here_of b s1)) s1 ≡ make_function (here_of b s) captures s
  unfolding new_cell with_function
  function_made place numbers s1 fits there listed same =
      let s2 : State = record s { upvalues = (captured_all captures s).1 } in
      let fits_there = made_fits new_cell s.heap s.units fits in
      ap (λ (x : State). on_outcome (made (Fun (record { place = place; captured = numbers })) x.heap x.units) (push_and_go (here_of b x)) x) same
      ∙ ap₂ (λ p ns. on_outcome (made (Fun (record { place = p; captured = ns })) s.heap s.units) (push_and_go (here_of b s2)) s2) there listed
      ∙ ap (λ o. on_outcome o (push_and_go (here_of b s2)) s2) fits_there
      ∙ sym (ap (λ o. on_outcome o with_function s) fits_there)
