-- Stacks with the top first, and the vectors behind them.
use Rattle.std.proofs.Common.{◌≡◌, ◌<◌, ◌≤◌, ◌+◌, ◌-◌, ◌⊎◌, ℕ, zero, suc, List, [], ◌∷◌, ◌++◌, Bool, true, false, cond, length, take, drop, Some, None, get_or, All, arith, refl, ap, ap₂, sym, ◌∙◌, length-drop, ⊎_elim}
use Rattle.std.proofs.lemmas.List.{set_past, reverse-reverse, reverse-append, length-reverse, take-append-drop}
use Rattle.std.proofs.lemmas.Grind.{reverse_onto}
use Rattle.std.proofs.lemmas.Option.{none-some, slice_get_read, slice_get_past}
use Rattle.std.proofs.lemmas.Bool.Decides.{nat_tests}
use Rattle.std.proofs.lemmas.List.Elements.{All-head, All-tail, All-drop}
use Rattle.std.specs.Prelude.{reverse, slice_get, slice_set, nat_lt, ◌==◌, IfSome}
use Rattle.hog_value.specs.Values.{Val, NamesBelow}
use Rattle.hog_value.specs.declared.value.Value.TheVariants.{Null}
use Rattle.vm_frames.specs.Parts.{first_of}
use Rattle.vm_course.specs.Stack.{value_at, with_value, keep, top_of}

same_suc : (n k : ℕ) → (suc n == suc k) ≡ (n == k)
same_suc n k = grind (arith, nat_tests)

module _ {A : Type 0} where
  pub reverse-cons : (x : A) (xs : List A) → reverse (x ∷ xs) ≡ reverse xs ++ x ∷ []
  reverse-cons x xs = reverse_onto xs x []

  pub reverse-snoc : (xs : List A) (x : A) → reverse (xs ++ x ∷ []) ≡ x ∷ reverse xs
  reverse-snoc xs x = reverse-append xs (x ∷ [])

  drop-append_seam : (a b : List A) → drop (length a) (a ++ b) ≡ b
  drop-append_seam [] b = refl
  drop-append_seam (x ∷ a) b = drop-append_seam a b

  -- the lowest n values
  pub keep-reverse : (xs : List A) (n : ℕ) → keep n (reverse xs) ≡ reverse (take n xs)
  keep-reverse xs n =
      let front = reverse (drop n xs) in
      let whole : reverse xs ≡ front ++ reverse (take n xs) = ap reverse (sym (take-append-drop n xs)) ∙ reverse-append (take n xs) (drop n xs) in
      let count : length (reverse xs) - n ≡ length front = omega (arith, length-reverse xs, length-reverse (drop n xs), length-drop n xs) in
      ap₂ (λ k ys. drop k ys) count whole ∙ drop-append_seam front (reverse (take n xs))

  pub length-keep : (ys : List A) (n : ℕ) → n ≤ length ys → length (keep n ys) ≡ n
  length-keep ys n few = omega (arith, length-drop (length ys - n) ys)

  pub keep-all : (ys : List A) (n : ℕ) → n ≡ length ys → keep n ys ≡ ys
  keep-all ys n is =
      let none : length ys - n ≡ 0 = omega arith in
      ap (λ k. drop k ys) none

  drop-whole : (ys : List A) → drop (length ys) ys ≡ []
  drop-whole [] = refl
  drop-whole (y ∷ ys) = drop-whole ys

  pub keep-none : (ys : List A) → keep 0 ys ≡ []
  keep-none ys =
      let all : length ys - 0 ≡ length ys = omega arith in
      ap (λ k. drop k ys) all ∙ drop-whole ys

  pub slice_get-snoc : (xs : List A) (x : A) (n : ℕ) → slice_get (xs ++ x ∷ []) n ≡ cond (length xs == n) (Some x) (slice_get xs n)
  slice_get-snoc [] x zero = refl
  slice_get-snoc [] x (suc n) =
      let other : (0 == suc n) ≡ false = grind (arith, nat_tests) in
      sym (ap (λ b. cond b (Some x) None) other)
  slice_get-snoc (y ∷ xs) x zero =
      let other : (suc (length xs) == 0) ≡ false = grind (arith, nat_tests) in
      sym (ap (λ b. cond b (Some x) (Some y)) other)
  slice_get-snoc (y ∷ xs) x (suc n) = slice_get-snoc xs x n ∙ ap (λ b. cond b (Some x) (slice_get xs n)) (sym (same_suc (length xs) n))

  slice_set-snoc : (xs : List A) (x : A) (n : ℕ) (y : A) → slice_set (xs ++ x ∷ []) n y ≡ cond (length xs == n) (xs ++ y ∷ []) (slice_set xs n y ++ x ∷ [])
  slice_set-snoc [] x zero y = refl
  slice_set-snoc [] x (suc n) y =
      let other : (0 == suc n) ≡ false = grind (arith, nat_tests) in
      sym (ap (λ b. cond b (y ∷ []) (x ∷ [])) other)
  slice_set-snoc (z ∷ xs) x zero y =
      let other : (suc (length xs) == 0) ≡ false = grind (arith, nat_tests) in
      sym (ap (λ b. cond b (z ∷ xs ++ y ∷ []) (y ∷ xs ++ x ∷ [])) other)
  slice_set-snoc (z ∷ xs) x (suc n) y = ap (λ ys. z ∷ ys) (slice_set-snoc xs x n y) ∙ under (length xs == n) ∙ ap (λ b. cond b (z ∷ xs ++ y ∷ []) (z ∷ slice_set xs n y ++ x ∷ [])) (sym (same_suc (length xs) n))
    where
      under : (b : Bool) → z ∷ cond b (xs ++ y ∷ []) (slice_set xs n y ++ x ∷ []) ≡ cond b (z ∷ xs ++ y ∷ []) (z ∷ slice_set xs n y ++ x ∷ [])
      under true = refl
      under false = refl

value_at-back : (ys : List Val) (n : ℕ) → value_at ys n ≡ slice_get (reverse ys) n
value_at-back [] n = refl
value_at-back (v ∷ vs) n =
    ap (λ o. cond (length vs == n) (Some v) o) (value_at-back vs n)
    ∙ sym (ap (λ xs. slice_get xs n) (reverse-cons v vs) ∙ slice_get-snoc (reverse vs) v n ∙ ap (λ k. cond (k == n) (Some v) (slice_get (reverse vs) n)) (length-reverse vs))

-- the value at a place of the vector
pub value_at-reverse : (xs : List Val) (n : ℕ) → value_at (reverse xs) n ≡ slice_get xs n
value_at-reverse xs n = value_at-back (reverse xs) n ∙ ap (λ ys. slice_get ys n) (reverse-reverse xs)

with_value-back : (ys : List Val) (n : ℕ) (x : Val) → reverse (with_value ys n x) ≡ slice_set (reverse ys) n x
with_value-back [] n x = refl
with_value-back (v ∷ vs) n x =
    by (length vs == n)
    ∙ ap (λ zs. cond (length vs == n) (reverse vs ++ x ∷ []) (zs ++ v ∷ [])) (with_value-back vs n x)
    ∙ sym (ap (λ xs. slice_set xs n x) (reverse-cons v vs) ∙ slice_set-snoc (reverse vs) v n x ∙ ap (λ k. cond (k == n) (reverse vs ++ x ∷ []) (slice_set (reverse vs) n x ++ v ∷ [])) (length-reverse vs))
  where
    by : (b : Bool) → reverse (cond b (x ∷ vs) (v ∷ with_value vs n x)) ≡ cond b (reverse vs ++ x ∷ []) (reverse (with_value vs n x) ++ v ∷ [])
    by true = reverse-cons x vs
    by false = reverse-cons v (with_value vs n x)

pub with_value-reverse : (xs : List Val) (n : ℕ) (x : Val) → with_value (reverse xs) n x ≡ reverse (slice_set xs n x)
with_value-reverse xs n x =
    sym (reverse-reverse (with_value (reverse xs) n x)) ∙ ap reverse (with_value-back (reverse xs) n x ∙ ap (λ ys. slice_set ys n x) (reverse-reverse xs))

within_or : (u : Val) (us : List Val) (k : ℕ) (x : Val) (b : Bool) → (length us == k) ≡ b → (value_at us k ≡ Some x → k < length us) → cond b (Some u) (value_at us k) ≡ Some x → k < suc (length us)
within_or u us k x true same under found = grind (arith, nat_tests)
within_or u us k x false other under found = let h : k < length us = under found in omega arith

-- a value that is found stands below the height
pub value_at-within : (ys : List Val) (k : ℕ) (x : Val) → value_at ys k ≡ Some x → k < length ys
value_at-within [] k x is = absurd (none-some x is)
value_at-within (u ∷ us) k x is = within_or u us k x (length us == k) refl (value_at-within us k x) is

kept_step : (w : Val) (ws : List Val) (n : ℕ) (v : Val) (b : Bool) → (length ws == n) ≡ b → (value_at ws n ≡ Some v → keep (n + 1) ws ≡ v ∷ keep n ws)
    → cond b (Some w) (value_at ws n) ≡ Some v → keep (n + 1) (w ∷ ws) ≡ v ∷ keep n (w ∷ ws)
kept_step w ws n v true here under found =
    let same : length ws ≡ n = grind (arith, nat_tests) in
    let none : suc (length ws) - (n + 1) ≡ 0 = omega arith in
    let one : suc (length ws) - n ≡ 1 = omega arith in
    let first : w ≡ v = cc in
    ap (λ k. drop k (w ∷ ws)) none ∙ ap (λ x. x ∷ ws) first ∙ ap (λ k. v ∷ drop k (w ∷ ws)) (sym one)
kept_step w ws n v false there under found =
    let h : n < length ws = value_at-within ws n v found in
    let more : suc (length ws) - (n + 1) ≡ suc (length ws - (n + 1)) = omega arith in
    let less : suc (length ws) - n ≡ suc (length ws - n) = omega arith in
    ap (λ k. drop k (w ∷ ws)) more ∙ under found ∙ ap (λ k. v ∷ drop k (w ∷ ws)) (sym less)

-- one value more is kept
pub keep-next : (ys : List Val) (n : ℕ) (v : Val) → value_at ys n ≡ Some v → keep (n + 1) ys ≡ v ∷ keep n ys
keep-next [] n v is = absurd (none-some v is)
keep-next (w ∷ ws) n v is = kept_step w ws n v (length ws == n) refl (keep-next ws n v) is

by_floor : (b : Bool) (v : Val) (vs : List Val) → b ≡ false → ◌≡◌ {A = Val × List Val} (cond {A = Val × List Val} b (Null, v ∷ vs) (v, vs)) (v, vs)
by_floor b v vs is = ap (λ x. cond {A = Val × List Val} x (Null, v ∷ vs) (v, vs)) is

-- the topmost operand
pub top_of-operand : (floor : ℕ) (ys : List Val) (n : ℕ) (v : Val) → floor ≤ n → value_at ys n ≡ Some v → top_of floor (keep (n + 1) ys) ≡ (v, keep n ys)
top_of-operand floor ys n v above is =
    let within : n < length ys = value_at-within ys n v is in
    let count : length (keep n ys) ≡ n = length-keep ys n (omega arith) in
    let over : nat_lt (length (keep n ys)) floor ≡ false = grind (arith, nat_tests) in
    ap (top_of floor) (keep-next ys n v is) ∙ by_floor (nat_lt (length (keep n ys)) floor) v (keep n ys) over

-- where the highest value stands below the floor, there is no operand
top_of-below : (floor : ℕ) (ys : List Val) → length ys ≤ floor → top_of floor ys ≡ (Null, ys)
top_of-below floor [] few = refl
top_of-below floor (v ∷ vs) few =
    let under : nat_lt (length vs) floor ≡ true = grind (arith, nat_tests) in
    ap (λ b. cond b (Null, v ∷ vs) (v, vs)) under

pub top_of-missing : (floor : ℕ) (ys : List Val) (len : ℕ) → len ≤ length ys → (len ≡ 0) ⊎ (len ≤ floor) → top_of floor (keep len ys) ≡ (Null, keep len ys)
top_of-missing floor ys len few few_or = top_of-below floor (keep len ys) (⊎_elim
    (λ none. omega (arith, length-keep ys len few))
    (λ low. omega (arith, length-keep ys len few)) few_or)

names_or : (m : ℕ) (v : Val) (vs : List Val) (n : ℕ) (b : Bool) → NamesBelow m v → IfSome (value_at vs n) (NamesBelow m) → IfSome (cond b (Some v) (value_at vs n)) (NamesBelow m)
names_or m v vs n true first others = first
names_or m v vs n false first others = others

-- what holds of each value holds of that at a place
pub names-value_at : (m : ℕ) (ys : List Val) (n : ℕ) → All (NamesBelow m) ys → IfSome (value_at ys n) (NamesBelow m)
names-value_at m [] n all = tt
names-value_at m (v ∷ vs) n all = names_or m v vs n (length vs == n) (All-head (NamesBelow m) v vs all) (names-value_at m vs n (All-tail (NamesBelow m) v vs all))

-- the value of the vector at a place, and where there is none
pub value_at-read : (xs : List Val) (n : ℕ) (x : Val) → n < length xs → x ≡ get_or xs n x → value_at (reverse xs) n ≡ Some x
value_at-read xs n x within is = value_at-reverse xs n ∙ slice_get_read xs (length xs) n x refl within is

pub value_at-past : (xs : List Val) (n : ℕ) → length xs ≤ n → value_at (reverse xs) n ≡ None
value_at-past xs n past = value_at-reverse xs n ∙ slice_get_past xs n past

pub with_value-past : (xs : List Val) (n : ℕ) (x : Val) → length xs ≤ n → with_value (reverse xs) n x ≡ reverse xs
with_value-past xs n x past = with_value-reverse xs n x ∙ ap reverse (set_past xs n x past)

pub length_seen : (xs ys : List Val) → reverse xs ≡ ys → length xs ≡ length ys
length_seen xs ys is = sym (length-reverse xs) ∙ ap length is

-- a list with an item has a first
pub some_first : {A : Type 0} (xs : List A) → 0 < length xs → first_of xs ≡ None → ⊥
some_first [] some is = absurd (omega arith)
some_first (x ∷ xs) some is = cc

-- the values that are kept, and how many
pub All-keep : {A : Type 0} (P : A → Type 0) (xs : List A) (n : ℕ) → All P xs → All P (keep n xs)
All-keep P xs n all = All-drop P (length xs - n) xs all
