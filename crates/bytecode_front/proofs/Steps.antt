-- Reading goes from operation to operation.
use Rattle.std.proofs.Common.{◌≡◌, ◌≤◌, ◌<◌, ℕ, zero, suc, ◌+◌, ◌-◌, ◌*◌, List, [], ◌∷◌, length, drop, take, refl, ap₂, ap, arith, length-drop, length-take, Ok, Err, Result}
use Rattle.serde_json.specs.Data.{Data}
use Rattle.hog_ops.specs.Plain.{Op, Ops, Callable, NoOp, MoreOp}
use Rattle.hog_ops.specs.Table.{size}
use Rattle.bytecode_front.specs.declared.stop.CodeStop.{CodeStop}
use Rattle.bytecode_front.specs.Front.{Front, Faulty, Found, Opens, front_of}
use Rattle.bytecode_front.specs.Reading.{before, holding, callable_size, read_front, read_by, read_ops}
use Rattle.bytecode_front.proofs.Fronts.{Taken, front_found, Opened, front_opens}

-- the operation at the front has an element, and ends within n elements
abbrev pub FrontFits : ℕ → Front → Type 0
FrontFits n (Faulty w) = Unit {0}
FrontFits n (Found o) = (1 ≤ size o) × (size o ≤ n)
FrontFits n (Opens name params cs len) = callable_size (length cs) len ≤ n

front_is : (room : ℕ) (ds : List Data) (f : Front) → front_of room ds ≡ f → FrontFits (length ds) f
front_is room ds (Faulty w) e = tt
front_is room ds (Found o) e = let h = front_found room ds o e in (h.some, h.fits)
front_is room ds (Opens name params cs len) e = (front_opens room ds name params cs len e).fits

pub front_fits : (room : ℕ) (ds : List Data) → FrontFits (length ds) (front_of room ds)
front_fits room ds = front_is room ds (front_of room ds) refl

abbrev Reader : Type 0
Reader = ℕ → ℕ → List Data → Result Ops CodeStop

-- what is behind an operation is shorter, so any two readers that agree on shorter lists agree here
same_front : (f g : Reader) (n room at : ℕ) (ds : List Data) (r : Front) → FrontFits (length ds) r → length ds ≤ suc n
    → ((room at : ℕ) (xs : List Data) → length xs ≤ n → f room at xs ≡ g room at xs) → read_front f room at ds r ≡ read_front g room at ds r
same_front f g n room at ds (Faulty w) fits le same = refl
same_front f g n room at ds (Found o) fits le same = ap (before o) (same room (at + size o) (drop (size o) ds) (omega (arith, length-drop (size o) ds, fits)))
same_front f g n room at ds (Opens name params cs len) fits le same =
    let k = callable_size (length cs) len in
    ap₂ (holding (λ body. Callable name params body cs)) (same (room - 1) (at + 5) (take len (drop 5 ds)) (omega (arith, length-drop 5 ds, length-take len (drop 5 ds), fits)))
    (same room (at + k) (drop k ds) (omega (arith, length-drop k ds, fits)))

fuel : (n m room at : ℕ) (xs : List Data) → length xs ≤ n → length xs ≤ m → read_by n room at xs ≡ read_by m room at xs
fuel zero zero room at xs h k = refl
fuel zero (suc m) room at [] h k = refl
fuel zero (suc m) room at (x ∷ xs) h k = absurd (omega arith)
fuel (suc n) zero room at [] h k = refl
fuel (suc n) zero room at (x ∷ xs) h k = absurd (omega arith)
fuel (suc n) (suc m) room at [] h k = refl
fuel (suc n) (suc m) room at (x ∷ xs) h k =
    let less = λ (r p : ℕ) (ys : List Data) (le : length ys ≤ length xs). fuel n m r p ys (omega arith) (omega arith) in
    same_front (read_by n) (read_by m) (length xs) room at (x ∷ xs) (front_of room (x ∷ xs)) (front_fits room (x ∷ xs)) (omega arith) less

pub read_step : (room at : ℕ) (ds : List Data) → 0 < length ds → read_ops room at ds ≡ read_front read_ops room at ds (front_of room ds)
unfolding read_ops
read_step room at [] h = absurd (omega arith)
read_step room at (d ∷ ds) h =
    same_front (read_by (length ds)) (λ r p xs. read_by (length xs) r p xs) (length ds) room at (d ∷ ds) (front_of room (d ∷ ds)) (front_fits room (d ∷ ds)) (omega arith)
    (λ r p xs le. fuel (length ds) (length xs) r p xs le (omega arith))

pub read_none : (room at : ℕ) → read_ops room at [] ≡ Ok NoOp
unfolding read_ops
read_none room at = refl
