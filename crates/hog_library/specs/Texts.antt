-- What the natives find in texts and make of them. A text is the list of its bytes, which are UTF-8.
use Rattle.std.specs.Prelude.{ℕ, zero, suc, ◌+◌, ◌-◌, ◌*◌, ◌^◌, ℤ, pos, neg_ℤ, Bool, true, false, ◌&&◌, ◌||◌, List, [], ◌∷◌, length, take, drop, Option, Some, None, nat_lt, nat_le, ◌==◌, if◌then◌else◌, slice_index, codes, count_by}
use Rattle.std.specs.List.{prefix_len, suffix_len, starts_with, list_all, fold, join_by}
use Rattle.std.specs.Char.{is_ascii_digit}

-- whether a byte begins a character: the other bytes of one are from 128 to 191
abbrev pub begins_character : ℕ → Bool
begins_character b = nat_lt b 128 || nat_le 192 b

-- how many characters a text has
unfoldable pub count_characters : List ℕ → ℕ
count_characters t = count_by begins_character t

-- a space, a tab, a line feed or a carriage return
abbrev pub is_blank : ℕ → Bool
is_blank b = (b == 32) || ((b == 9) || ((b == 10) || (b == 13)))

-- the text without blanks in front
abbrev pub trimmed_front : List ℕ → List ℕ
trimmed_front t = drop (prefix_len is_blank t) t

-- the text without blanks behind
abbrev pub trimmed_back : List ℕ → List ℕ
trimmed_back t = take (length t - suffix_len is_blank t) t

-- the text without blanks at both ends
unfoldable pub trimmed : List ℕ → List ℕ
trimmed t = trimmed_back (trimmed_front t)

-- whether a text begins with another
unfoldable pub begins_with : List ℕ → List ℕ → Bool
begins_with t start = starts_with (λ a b. a == b) t start

-- the pieces with one more byte at the front of the first
abbrev pub with_byte : ℕ → List (List ℕ) → List (List ℕ)
with_byte b [] = (b ∷ []) ∷ []
with_byte b (p ∷ ps) = (b ∷ p) ∷ ps

-- The pieces of a text between the separators in it, which are found from the left and don't overlap.
-- The first `skip` bytes belong to a separator that was found.
abbrev pub pieces_from : List ℕ → ℕ → List ℕ → List (List ℕ)
pieces_from separator skip [] = [] ∷ []
pieces_from separator (suc skip) (b ∷ t) = pieces_from separator skip t
pieces_from separator zero (b ∷ t) =
    if begins_with (b ∷ t) separator then [] ∷ pieces_from separator (length separator - 1) t
    else with_byte b (pieces_from separator 0 t)

-- the pieces of a text; an empty separator is nowhere in it
unfoldable pub pieces : List ℕ → List ℕ → List (List ℕ)
pieces [] t = t ∷ []
pieces (s ∷ separator) t = pieces_from (s ∷ separator) 0 t

-- a text with another in place of each occurrence of a third
unfoldable pub replaced : List ℕ → List ℕ → List ℕ → List ℕ
replaced t from to = join_by (λ piece. piece) to (pieces from t)

-- whether a text is 1 to 19 decimal digits
abbrev pub are_digits : List ℕ → Bool
are_digits t = (nat_le 1 (length t) && nat_le (length t) 19) && list_all is_ascii_digit t

-- the number that decimal digits spell
abbrev pub number_of_digits : List ℕ → ℕ
number_of_digits t = fold (λ n digit. 10 * n + (digit - 48)) 0 t

-- the whole number of 64 bits with this size and sign, where there is one
abbrev pub whole_number : Bool → ℕ → Option ℤ
whole_number is_negative n =
    if is_negative then (if nat_le n (2 ^ 63) then Some (neg_ℤ (pos n)) else None)
    else (if nat_lt n (2 ^ 63) then Some (pos n) else None)

-- the whole number that digits spell
abbrev pub number_spelled : Bool → List ℕ → Option ℤ
number_spelled is_negative t = if are_digits t then whole_number is_negative (number_of_digits t) else None

-- the whole number that a text spells: 1 to 19 digits, with or without a '-' before them
unfoldable pub number_in : List ℕ → Option ℤ
number_in t = if slice_index t 0 == 45 then number_spelled true (drop 1 t) else number_spelled false t

-- whether a request may be made of a URL: it begins with https:// and another byte than '/' follows
unfoldable pub is_allowed : List ℕ → Bool
is_allowed url = begins_with url (codes "https://") && (nat_lt 8 (length url) && (nat_lt (slice_index url 8) 47 || nat_lt 47 (slice_index url 8)))
