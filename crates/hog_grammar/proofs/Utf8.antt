-- Where UTF-8 may be cut: beside bytes of ASCII.
use Rattle.std.proofs.Common.{◌≡◌, ℕ, ◌+◌, ◌<◌, List, [], ◌∷◌, ◌++◌, length, ap, subst, arith, length-append}
use Rattle.std.specs.Prelude.{◌&&◌, true}
use Rattle.std.specs.Str.{IsUtf8, IsCharBoundary}
use Rattle.std.proofs.Math.Seq.{take-append_seam, drop-append_seam, take-append-add, drop-append-add, get_or-append_seam}
use Rattle.std.proofs.lemmas.Str.{IsUtf8-take, IsUtf8-drop, IsUtf8-append, IsUtf8-nil, IsCharBoundary-before_ascii, IsCharBoundary-after_ascii, IsCharBoundary-end, encode_ascii}
use lib.Utf8.{low_scalar}

-- the first of these bytes, if any, is of ASCII
abbrev pub StartsLow : List ℕ → Type 0
StartsLow [] = Unit {0}
StartsLow (c ∷ cs) = c < 128

at_seam : (xs ys : List ℕ) → IsUtf8 (xs ++ ys) → IsCharBoundary (xs ++ ys) (length xs) → IsUtf8 xs × IsUtf8 ys
at_seam xs ys u b = (subst IsUtf8 (take-append_seam xs ys) (IsUtf8-take (xs ++ ys) (length xs) u b), subst IsUtf8 (drop-append_seam xs ys) (IsUtf8-drop (xs ++ ys) (length xs) u b))

pub split_before : (xs ys : List ℕ) → IsUtf8 (xs ++ ys) → StartsLow ys → IsUtf8 xs × IsUtf8 ys
split_before xs [] u low = at_seam xs [] u (let e : length (xs ++ []) ≡ length xs = omega (arith, length-append xs []) in subst (λ (n : ℕ). IsCharBoundary (xs ++ []) n) e (IsCharBoundary-end (xs ++ [])))
split_before xs (c ∷ cs) u low =
    let is = get_or-append_seam xs c cs 0 in
    at_seam xs (c ∷ cs) u (IsCharBoundary-before_ascii (xs ++ c ∷ cs) (length xs) (omega (arith, length-append xs (c ∷ cs))) (omega (arith, is, low)))

pub split_after : (xs : List ℕ) (c : ℕ) (ys : List ℕ) → c < 128 → IsUtf8 (xs ++ c ∷ ys) → IsUtf8 (xs ++ c ∷ []) × IsUtf8 ys
split_after xs c ys low u =
    let is = get_or-append_seam xs c ys 0 in
    let b = IsCharBoundary-after_ascii (xs ++ c ∷ ys) (length xs) u (omega (arith, length-append xs (c ∷ ys))) (omega (arith, is, low)) in
    (subst IsUtf8 (take-append-add xs (c ∷ ys) 1) (IsUtf8-take (xs ++ c ∷ ys) (length xs + 1) u b), subst IsUtf8 (drop-append-add xs (c ∷ ys) 1) (IsUtf8-drop (xs ++ c ∷ ys) (length xs + 1) u b))

abbrev pub AllLow : List ℕ → Type 0
AllLow [] = Unit {0}
AllLow (c ∷ cs) = (c < 128) × AllLow cs

one_low : (c : ℕ) → c < 128 → IsUtf8 (c ∷ [])
one_low c low = (c ∷ [], (ap (λ b. b && true) (low_scalar c (omega (arith, low))), ap (λ z. z ++ []) (encode_ascii c low)))

pub all_low : (xs : List ℕ) → AllLow xs → IsUtf8 xs
all_low [] low = IsUtf8-nil
all_low (c ∷ cs) low = IsUtf8-append (c ∷ []) cs (one_low c low.0) (all_low cs low.1)

pub split_low : (xs ys : List ℕ) → AllLow xs → IsUtf8 (xs ++ ys) → IsUtf8 xs × IsUtf8 ys
split_low [] ys low u = (IsUtf8-nil, u)
split_low (c ∷ cs) ys low u = (all_low (c ∷ cs) low, (split_low cs ys low.1 (split_after [] c (cs ++ ys) low.0 u).1).1)
