-- Where a thrown value lands.
use Rattle.std.proofs.Common.{◌≡◌, ◌<◌, ◌-◌, ℕ, List, [], ◌∷◌, Some, length, drop, min, arith, refl, ap, sym, ◌∙◌, length-drop}
use Rattle.std.specs.Prelude.{Result, Ok, Err, OnOk}
use Rattle.hog_value.specs.Values.{Val}
use Rattle.vm_course.specs.State.{Frame, ThrowFrame, State}
use Rattle.vm_course.specs.Stack.{keep, cut_to, push}
use Rattle.vm_course.specs.Throws.{goto, caught, throw_to}
use Rattle.vm_frames.specs.Parts.{innermost, others_of, first_of}

-- what a call gives where it has gone well, from what another does
pub on_ok : {A E : Type 0} {P Q : Type 0} (r : Result A E) → (P → Q) → OnOk r P → OnOk r Q
on_ok (Ok a) go h = go h
on_ok (Err e) go h = tt

keep_least : (xs : List Val) (n : ℕ) → keep (min n (length xs)) xs ≡ keep n xs
keep_least xs n =
    let same : length xs - min n (length xs) ≡ length xs - n = omega arith in
    ap (λ k. drop k xs) same

some_kept : (fs : List Frame) (n : ℕ) → 0 < n → 0 < length fs → 0 < length (keep n fs)
some_kept fs n some more = omega (arith, length-drop (length fs - n) fs)

pub first_is : {A : Type 0} (xs : List A) (x : A) → first_of xs ≡ Some x → xs ≡ x ∷ others_of xs
first_is [] x is = absurd cc
first_is (y ∷ xs) x is = let same : y ≡ x = cc in ap (λ z. z ∷ xs) same

module _ (v : Val) (t : ThrowFrame) (s : State) where
  caught_at : (ts : List ThrowFrame) (ks : List Frame) → 0 < length ks
      → push v (goto t.catch (innermost ks) (others_of ks) (record (cut_to (keep t.height s.stack) s) { throws = ts; frames = ks })) ≡ caught v t ts ks s
  caught_at ts [] some = absurd (omega arith)
  caught_at ts (f ∷ fs) some = refl

  -- the steps by which a throw lands
  landing : State → State
  landing x = push v (goto t.catch (innermost (keep t.frames x.frames)) (others_of (keep t.frames x.frames)) (record x { throws = others_of x.throws; frames = keep t.frames x.frames }))

  landed : (s1 s2 s3 s4 : State) → s2 ≡ record s1 { throws = others_of s1.throws } → s3 ≡ record s2 { frames = keep t.frames s2.frames }
      → s4 ≡ goto t.catch (innermost s3.frames) (others_of s3.frames) s3 → push v s4 ≡ landing s1
  unfolding landing
  landed s1 s2 s3 s4 second third fourth =
      ap (push v) fourth
      ∙ ap (λ (x : State). push v (goto t.catch (innermost x.frames) (others_of x.frames) x)) third
      ∙ ap (λ (x : State). push v (goto t.catch (innermost (keep t.frames x.frames)) (others_of (keep t.frames x.frames)) (record x { frames = keep t.frames x.frames }))) second

  pub lands : (before s1 s2 s3 s4 : State) (height : ℕ) → first_of s.throws ≡ Some t → 0 < t.frames → 0 < length s.frames → height ≡ min t.height (length s.stack)
      → s1 ≡ cut_to (keep height s.stack) s → s2 ≡ record s1 { throws = others_of s1.throws } → s3 ≡ record s2 { frames = keep t.frames s2.frames }
      → s4 ≡ goto t.catch (innermost s3.frames) (others_of s3.frames) s3 → push v s4 ≡ throw_to s.throws v before s
  unfolding landing
  lands before s1 s2 s3 s4 height last some framed least first second third fourth =
      let ts = others_of s.throws in
      let rest : keep height s.stack ≡ keep t.height s.stack = ap (λ n. keep n s.stack) least ∙ keep_least s.stack t.height in
      landed s1 s2 s3 s4 second third fourth
      ∙ ap landing first
      ∙ ap (λ r. landing (cut_to r s)) rest
      ∙ caught_at ts (keep t.frames s.frames) (some_kept s.frames t.frames some framed)
      ∙ ap (λ xs. throw_to xs v before s) (sym (first_is s.throws t last))
