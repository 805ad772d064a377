-- What stands in single quotes for a character.
use Rattle.std.proofs.Common.{◌≡◌, ◌≢◌, ℕ, suc, ◌-◌, ◌/◌, ◌%◌, true, false, cond, nat_lt, length-append, ◌<◌, ◌≤◌, List, [], ◌∷◌, ◌++◌, length, get_or, inl, inr, refl, sym, ap₂, arith, append-nil}
use Rattle.std.specs.Prelude.{flat_map, codes, encode_utf8}
use Rattle.std.proofs.lemmas.Bool.{cases_lt}
use Rattle.std.proofs.lemmas.Bool.Decides.{nat_tests}
use Rattle.std.proofs.lemmas.Str.{encode_ascii, inside_one}
use lib.Utf8.{encode}
use Rattle.std.specs.Char.{digit_char}
use Rattle.json.specs.Print.{escape_letter, escape_byte, quoted}
use Rattle.hog_json.specs.Texts.{shown_byte}

-- a byte without an escape
plain_byte : (b : ℕ) → b ≢ 92 → b ≢ 39 → b ≢ 10 → b ≢ 13 → b ≢ 9 → shown_byte b ≡ b ∷ []
unfolding shown_byte
plain_byte b e1 e2 e3 e4 e5 = grind (arith, nat_tests)

-- bytes past ASCII have none
high_bytes : (bs : List ℕ) → ((k : ℕ) → k < length bs → 128 ≤ get_or bs k 0) → flat_map shown_byte bs ≡ bs
high_bytes [] high = refl
high_bytes (b ∷ bs) high =
    let here : 128 ≤ b = high 0 (omega arith) in
    ap₂ (λ (x y : List ℕ). x ++ y) (plain_byte b (λ e. omega arith) (λ e. omega arith) (λ e. omega arith) (λ e. omega arith) (λ e. omega arith)) (high_bytes bs (λ k below. high (suc k) (omega arith)))

-- a character without an escape
pub plain_char : (c : ℕ) → c ≢ 92 → c ≢ 39 → c ≢ 10 → c ≢ 13 → c ≢ 9 → flat_map shown_byte (encode_utf8 c) ≡ encode_utf8 c
plain_char c e1 e2 e3 e4 e5 = elim (cases_lt c 128) [
  | inl small ↦ rw (encode_ascii c small, append-nil) (plain_byte c e1 e2 e3 e4 e5)
  | inr big ↦ high_bytes (encode_utf8 c) (λ k below. elim (cases_lt (get_or (encode_utf8 c) k 0) 128) [
    | inl low ↦ absurd (omega (arith, inside_one c [] (encode_utf8 c) k (sym (append-nil _)) below low))
    | inr h ↦ h
  ])
]

-- what a character with an escape has
pub escaped_backslash : flat_map shown_byte (encode_utf8 92) ≡ codes "\\\\"
unfolding shown_byte encode
escaped_backslash = refl

pub escaped_quote : flat_map shown_byte (encode_utf8 39) ≡ codes "\\'"
unfolding shown_byte encode
escaped_quote = refl

pub escaped_line_feed : flat_map shown_byte (encode_utf8 10) ≡ codes "\\n"
unfolding shown_byte encode
escaped_line_feed = refl

pub escaped_return : flat_map shown_byte (encode_utf8 13) ≡ codes "\\r"
unfolding shown_byte encode
escaped_return = refl

pub escaped_tab : flat_map shown_byte (encode_utf8 9) ≡ codes "\\t"
unfolding shown_byte encode
escaped_tab = refl

pub ruleset escapes = (plain_char, escaped_backslash, escaped_quote, escaped_line_feed, escaped_return, escaped_tab)

-- a byte of a JSON string takes a byte at least
length-escape_byte : (b : ℕ) → 1 ≤ length (escape_byte b)
unfolding escape_byte
length-escape_byte b = elim (nat_lt 0 (escape_letter b)) as (λ t. 1 ≤ length (cond t (92 ∷ escape_letter b ∷ []) (cond (nat_lt b 32) (92 ∷ 117 ∷ 48 ∷ 48 ∷ digit_char (b / 16) ∷ digit_char (b % 16) ∷ []) (b ∷ [])))) [
  | true ↦ omega arith
  | false ↦ elim (nat_lt b 32) as (λ t. 1 ≤ length (cond t (92 ∷ 117 ∷ 48 ∷ 48 ∷ digit_char (b / 16) ∷ digit_char (b % 16) ∷ []) (b ∷ []))) [
    | true ↦ omega arith
    | false ↦ omega arith
  ]
]

length-escape : (t : List ℕ) → length t ≤ length (flat_map escape_byte t)
length-escape [] = omega arith
length-escape (b ∷ t) = let first = length-escape_byte b in let rest = length-escape t in omega (arith, length-append (escape_byte b) (flat_map escape_byte t))

-- a JSON string is no shorter than its text
quoted_longer : (t : List ℕ) → length t ≤ length (quoted t)
quoted_longer t = let rest = length-escape t in omega (arith, length-append (flat_map escape_byte t) (34 ∷ []))

-- a text that doesn't fit doesn't fit as a JSON string
pub quoted_too_long : (limit : ℕ) (before t : List ℕ) → limit - length before < length t → limit < length (before ++ quoted t)
quoted_too_long limit before t over = let longer = quoted_longer t in omega (arith, length-append before (quoted t))
