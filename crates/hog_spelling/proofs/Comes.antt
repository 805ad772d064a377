-- What is read at a height, or that it is higher.
use Rattle.std.proofs.Common.{◌≡◌, ℕ, zero, suc, ◌+◌, ◌<◌, ◌≤◌, List, length, Result, Ok, Err, refl, ap, ◌∙◌, subst, arith, ⊎_elim}
use Rattle.std.proofs.lemmas.Bool.Decides.{leb_tells}
use Rattle.hog_tree.specs.Plain.{Exp}
use Rattle.hog_grammar.specs.Terminal.{Terminal}
use Rattle.hog_terms.specs.Marks.{lead}
use Rattle.hog_reading.specs.Read.{Fault, TooNested, Got, got, ◌>>=◌, first, step, climb, leveled}
use Rattle.hog_reading.specs.ReadStatements.{readers}
use Rattle.hog_reading.proofs.Climb.{climb_stops, climb_full, climb_steps}

-- This is what is read, or it is too high.
pub data Ends {A : Type 0} (r : Result (Got A) Fault) (d : ℕ) (rest : List Terminal) (e : A) (h : ℕ) : Type 0 where
  ends : h ≤ d → r ≡ Ok (got e h rest) → Ends r d rest e h
  deeper : d < h → (n : ℕ) → r ≡ Err (TooNested n) → Ends r d rest e h

pub same_ends : {A : Type 0} {r s : Result (Got A) Fault} {d : ℕ} {rest : List Terminal} {e : A} {h : ℕ} → r ≡ s → Ends s d rest e h → Ends r d rest e h
same_ends is (ends fits it) = ends fits (is ∙ it)
same_ends is (deeper high n it) = deeper high n (is ∙ it)

pub at_height : {A : Type 0} {r : Result (Got A) Fault} {d : ℕ} {rest : List Terminal} {e : A} {h i : ℕ} → h ≡ i → Ends r d rest e h → Ends r d rest e i
at_height {r = r} {d = d} {rest = rest} {e = e} same it = subst (λ (n : ℕ). Ends r d rest e n) same it

-- one part, and what follows from it
pub bind_ends : {A B : Type 0} {r : Result (Got A) Fault} (f : Got A → Result (Got B) Fault) {d i : ℕ} {mid rest : List Terminal} {x : A} {y : B} {low h : ℕ}
    → Ends r d mid x low → (d < low → i < h) → (low ≤ d → Ends (f (got x low mid)) i rest y h) → Ends (r >>= f) i rest y h
bind_ends f (deeper up n is) high next = deeper (high up) n (ap (λ z. z >>= f) is)
bind_ends f (ends fits is) high next = elim (next fits) [
  | ends small it ↦ ends small (ap (λ z. z >>= f) is ∙ it)
  | deeper up n it ↦ deeper up n (ap (λ z. z >>= f) is ∙ it)
]

pub at_own : {A : Type 0} {r : Result (Got A) Fault} {rest : List Terminal} {s : A} {h : ℕ} → Ends r h rest s h → r ≡ Ok (got s h rest)
at_own (ends fits e) = e
at_own (deeper up n e) = absurd (omega arith)

-- An expression of height h has been read and operators may follow, or h is too high.
pub data Comes (d l : ℕ) (all rest : List Terminal) (e : Exp) (h : ℕ) : Type 0 where
  enters : h ≤ suc d → (m : ℕ) → suc d ≤ m + h → (readers (suc d)).expression l all ≡ climb (readers d) m (suc d) l (got e h rest) → Comes d l all rest e h
  passes : suc d < h → (n : ℕ) → (readers (suc d)).expression l all ≡ Err (TooNested n) → Comes d l all rest e h

pub finish : (l : ℕ) (all rest : List Terminal) (e : Exp) (h : ℕ) → 0 < h → lead rest < l → ((d : ℕ) → Comes d l all rest e h) → (d : ℕ) → Ends ((readers d).expression l all) d rest e h
unfolding readers
finish l all rest e h above stop go zero = deeper above (length all) refl
finish l all rest e h above stop go (suc d) = elim (go d) [
  | enters low m enough is ↦ ends low (is ∙ climb_stops (readers d) m (suc d) l (got e h rest) stop)
  | passes high n is ↦ deeper high n is
]

pub from_first : (d l : ℕ) (all rest : List Terminal) (e : Exp) (h : ℕ) → Ends (first (readers d) l all) (suc d) rest e h → Comes d l all rest e h
unfolding readers leveled
from_first d l all rest e h (ends low is) = enters low (suc d) (omega arith) (ap (λ r. r >>= climb (readers d) (suc d) (suc d) l) is)
from_first d l all rest e h (deeper high n is) = passes high n (ap (λ r. r >>= climb (readers d) (suc d) (suc d) l) is)

data Room (d low : ℕ) : Type 0 where
  has : low < d → Room d low
  hasnt : d ≤ low → Room d low

room : (d low : ℕ) → Room d low
room d low = ⊎_elim (λ h. has h.1) (λ h. hasnt (omega arith)) (leb_tells (suc low) d)

step_ends : (d l : ℕ) (all mid rest : List Terminal) (a : Exp) (low : ℕ) (e : Exp) (h m : ℕ) → l ≤ lead mid → low < h → suc d ≤ suc m + low → low < suc d
    → (readers (suc d)).expression l all ≡ climb (readers d) (suc m) (suc d) l (got a low mid)
    → Ends (step (readers d) a low mid) (suc d) rest e h → Comes d l all rest e h
step_ends d l all mid rest a low e h m go more enough small is (ends fits it) =
    enters fits m (omega arith) (is ∙ climb_steps (readers d) m (suc d) l (got a low mid) go small ∙ ap (λ r. r >>= climb (readers d) m (suc d) l) it)
step_ends d l all mid rest a low e h m go more enough small is (deeper high n it) =
    passes high n (is ∙ climb_steps (readers d) m (suc d) l (got a low mid) go small ∙ ap (λ r. r >>= climb (readers d) m (suc d) l) it)

-- one more operator
pub comes_step : (d l : ℕ) (all mid rest : List Terminal) (a : Exp) (low : ℕ) (e : Exp) (h : ℕ) → Comes d l all mid a low → l ≤ lead mid → low < h
    → (low ≤ d → Ends (step (readers d) a low mid) (suc d) rest e h) → Comes d l all rest e h
comes_step d l all mid rest a low e h (passes high n is) go more stepped = passes (omega arith) n is
comes_step d l all mid rest a low e h (enters small zero enough is) go more stepped = passes (omega arith) (length mid) (is ∙ climb_full (readers d) zero (suc d) l (got a low mid) go (omega arith))
comes_step d l all mid rest a low e h (enters small (suc m) enough is) go more stepped = elim (room (suc d) low) [
  | has r ↦ step_ends d l all mid rest a low e h m go more enough r is (stepped (omega arith))
  | hasnt r ↦ passes (omega arith) (length mid) (is ∙ climb_full (readers d) (suc m) (suc d) l (got a low mid) go r)
]
