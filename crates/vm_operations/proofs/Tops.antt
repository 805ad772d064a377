-- The operands of an operation, one after the other from the top.
use Rattle.std.proofs.Common.{◌≡◌, ℕ, List, length, refl, ap, sym, ◌∙◌}
use Rattle.std.proofs.Common.{cond}
use Rattle.hog_value.specs.declared.value.Value.TheVariants.{Null, Bool as Truth, Int, Ref}
use Rattle.hog_meaning.specs.Meaning.{is_null}
use Rattle.hog_value.specs.Values.{Val}
use Rattle.vm_course.specs.State.{State}
use Rattle.vm_course.specs.Stack.{keep, floor_of, top_of}
use Rattle.vm_frames.specs.Parts.{innermost}
use Rattle.vm_operations.specs.Here.{here_of}
use Rattle.vm_frames.proofs.Lists.{keep-all}

module _ (s : State) (behind floor all : ℕ) (ground : floor ≡ floor_of (innermost s.frames) s) (whole : all ≡ length s.stack) where
  under : (below : ℕ) (t : Val × List Val) → top_of floor (keep below s.stack) ≡ t → top_of (here_of behind s).floor (keep below s.stack) ≡ t
  under below t is = ap (λ f. top_of f (keep below s.stack)) (sym ground) ∙ is

  pub first : (t : Val × List Val) → top_of floor (keep all s.stack) ≡ t → top_of (here_of behind s).floor s.stack ≡ t
  first t is = ap (top_of (here_of behind s).floor) (sym (keep-all s.stack all whole)) ∙ under all t is

  -- what goes by the topmost operand
  pub by_one : {B : Type 0} (go : Val → List Val → B) (v : Val) (rest : ℕ) → top_of floor (keep all s.stack) ≡ (v, keep rest s.stack)
      → (let t = top_of (here_of behind s).floor s.stack in go t.0 t.1) ≡ go v (keep rest s.stack)
  by_one go v rest is = ap (λ (t : Val × List Val). go t.0 t.1) (first (v, keep rest s.stack) is)

  -- by the two topmost
  pub by_two : {B : Type 0} (go : Val → Val → List Val → B) (v w : Val) (below rest : ℕ) → top_of floor (keep all s.stack) ≡ (v, keep below s.stack) → top_of floor (keep below s.stack) ≡ (w, keep rest s.stack)
      → (let t = top_of (here_of behind s).floor s.stack in let u = top_of (here_of behind s).floor t.1 in go t.0 u.0 u.1) ≡ go v w (keep rest s.stack)
  by_two go v w below rest one two =
      ap (λ (t : Val × List Val). let u = top_of (here_of behind s).floor t.1 in go t.0 u.0 u.1) (first (v, keep below s.stack) one)
      ∙ ap (λ (u : Val × List Val). go v u.0 u.1) (under below (w, keep rest s.stack) two)

  -- by the three topmost
  pub by_three : {B : Type 0} (go : Val → Val → Val → List Val → B) (v w x : Val) (below lower rest : ℕ) → top_of floor (keep all s.stack) ≡ (v, keep below s.stack)
      → top_of floor (keep below s.stack) ≡ (w, keep lower s.stack) → top_of floor (keep lower s.stack) ≡ (x, keep rest s.stack)
      → (let t = top_of (here_of behind s).floor s.stack in let u = top_of (here_of behind s).floor t.1 in let z = top_of (here_of behind s).floor u.1 in go t.0 u.0 z.0 z.1)
      ≡ go v w x (keep rest s.stack)
  by_three go v w x below lower rest one two three =
      ap (λ (t : Val × List Val). let u = top_of (here_of behind s).floor t.1 in let z = top_of (here_of behind s).floor u.1 in go t.0 u.0 z.0 z.1) (first (v, keep below s.stack) one)
      ∙ ap (λ (u : Val × List Val). let z = top_of (here_of behind s).floor u.1 in go v u.0 z.0 z.1) (under below (w, keep lower s.stack) two)
      ∙ ap (λ (z : Val × List Val). go v w z.0 z.1) (under lower (x, keep rest s.stack) three)

-- whether a value is null
pub null_is : {B : Type 0} (v : Val) (x y : B) → v ≡ Null → cond (is_null v) x y ≡ x
null_is v x y is = ap (λ w. cond (is_null w) x y) is

pub other_is : {B : Type 0} (v : Val) (x y : B) → (v ≡ Null → ⊥) → cond (is_null v) x y ≡ y
other_is Null x y other = absurd (other refl)
other_is (Truth b) x y other = refl
other_is (Int z) x y other = refl
other_is (Ref n) x y other = refl
