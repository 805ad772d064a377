-- Variables that a new function captures, one after the other.
use Rattle.std.proofs.Common.{◌≡◌, ◌<◌, ◌≤◌, ◌+◌, ℕ, suc, List, [], ◌∷◌, ◌++◌, length, drop, get_or, arith, ap, sym, ◌∙◌, append_assoc, append-nil, drop-cons, length-drop}
use Rattle.hog_ops.specs.declared.capture.Capture.{Capture}
use Rattle.vm_course.specs.State.{Upvalue, Frame}
use Rattle.vm_course.specs.Stack.{capture_one, capture_all}

-- the numbers so far, and those of the others
abbrev pub numbers_behind : ℕ → Frame → List ℕ → List Capture → List ℕ → List Upvalue → List ℕ × List Upvalue
numbers_behind height f captured cs ns us = (ns ++ (capture_all height f captured cs us).0, (capture_all height f captured cs us).1)

module _ (height : ℕ) (f : Frame) (captured : List ℕ) where
  pub numbers-next : (cs : List Capture) (i : ℕ) (c : Capture) (ns : List ℕ) (n : ℕ) (us vs : List Upvalue) → i < length cs → c ≡ get_or cs i c → (n, vs) ≡ capture_one height f captured c us
      → numbers_behind height f captured (drop i cs) ns us ≡ numbers_behind height f captured (drop (i + 1) cs) (ns ++ n ∷ []) vs
  numbers-next cs i c ns n us vs within at is =
      let one : suc i ≡ i + 1 = omega arith in
      let rest = drop (i + 1) cs in
      let cut : drop i cs ≡ c ∷ rest = drop-cons cs i c within ∙ ap (λ x. x ∷ drop (suc i) cs) (sym at) ∙ ap (λ k. c ∷ drop k cs) one in
      ap (λ xs. numbers_behind height f captured xs ns us) cut
      ∙ ap (λ (t : ℕ × List Upvalue). (ns ++ t.0 ∷ (capture_all height f captured rest t.1).0, (capture_all height f captured rest t.1).1)) (sym is)
      ∙ ap (λ ms. (ms, (capture_all height f captured rest vs).1)) (sym (append_assoc ns (n ∷ []) (capture_all height f captured rest vs).0))

  no_more : (cs : List Capture) (ns : List ℕ) (us : List Upvalue) → length cs ≤ 0 → numbers_behind height f captured cs ns us ≡ (ns, us)
  no_more [] ns us few = ap (λ ms. (ms, us)) (append-nil ns)
  no_more (c ∷ cs) ns us few = absurd (omega arith)

  pub numbers-last : (cs : List Capture) (i : ℕ) (ns : List ℕ) (us : List Upvalue) → length cs ≤ i → numbers_behind height f captured (drop i cs) ns us ≡ (ns, us)
  numbers-last cs i ns us past = no_more (drop i cs) ns us (omega (arith, length-drop i cs))
