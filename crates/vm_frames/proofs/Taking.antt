-- Operands that are taken one after the other.
use Rattle.std.proofs.Common.{◌≡◌, ◌<◌, ◌≤◌, ◌+◌, ◌-◌, ℕ, suc, List, [], ◌∷◌, ◌++◌, length, arith, ap, sym, ◌∙◌, append_assoc, append-nil}
use Rattle.hog_value.specs.Values.{Val}
use Rattle.vm_course.specs.Stack.{keep, top_of, taken}
use Rattle.vm_frames.proofs.Lists.{keep-all}

-- the values so far, and so many more from what is left
abbrev pub behind : ℕ → List Val → ℕ → ℕ → List Val → List Val × List Val
behind floor ys more rest vs = (vs ++ (taken floor more (keep rest ys)).0, (taken floor more (keep rest ys)).1)

pub behind-first : (floor : ℕ) (ys : List Val) (n rest : ℕ) → rest ≡ length ys → taken floor n ys ≡ behind floor ys n rest []
behind-first floor ys n rest is = ap (taken floor n) (sym (keep-all ys rest is))

pub behind-next : (floor : ℕ) (ys : List Val) (n i rest under : ℕ) (v : Val) (vs : List Val) → i < n → top_of floor (keep rest ys) ≡ (v, keep under ys)
    → behind floor ys (n - i) rest vs ≡ behind floor ys (n - (i + 1)) under (vs ++ v ∷ [])
behind-next floor ys n i rest under v vs more is =
    let k = n - (i + 1) in
    let one : n - i ≡ suc k = omega arith in
    ap (λ m. behind floor ys m rest vs) one
    ∙ ap (λ (t : Val × List Val). (vs ++ t.0 ∷ (taken floor k t.1).0, (taken floor k t.1).1)) is
    ∙ ap (λ zs. (zs, (taken floor k (keep under ys)).1)) (sym (append_assoc vs (v ∷ []) (taken floor k (keep under ys)).0))

pub behind-last : (floor : ℕ) (ys : List Val) (n i rest : ℕ) (vs : List Val) → n ≤ i → behind floor ys (n - i) rest vs ≡ (vs, keep rest ys)
behind-last floor ys n i rest vs done =
    let none : n - i ≡ 0 = omega arith in
    ap (λ m. behind floor ys m rest vs) none ∙ ap (λ zs. (zs, keep rest ys)) (append-nil vs)
