-- Kinds of bytes. A byte is named by its character, as `byte "a"`.
use Rattle.std.specs.Prelude.{◌≡◌, ℕ, suc, ◌+◌, ◌*◌, ◌-◌, List, [], ◌∷◌, Bool, true, false, cond, ◌==◌, ◌&&◌, ◌||◌, nat_lt}
use Rattle.std.specs.Str.{byte}

pub data Class : Type 0 where
  Space : Class
  LineFeed : Class
  Letter : Class
  Digit : Class
  Quote : Class
  Slash : Class
  OpensBrace : Class
  ClosesBrace : Class
  -- a mark by itself
  Sign : Class
  -- a mark only with another byte
  Half : Class
  Other : Class

-- both ends included
abbrev pub is_between : ℕ → ℕ → ℕ → Bool
is_between a b c = nat_lt c (suc b) && nat_lt a (suc c)

-- a carriage return is 13, a line feed 10, a tab 9
unfoldable pub class : ℕ → Class
class c = cond (c == byte " " || c == 9 || c == 13) Space
    (cond (c == 10) LineFeed
    (cond (is_between (byte "a") (byte "z") c || is_between (byte "A") (byte "Z") c || c == byte "_" || c == byte "$") Letter
    (cond (is_between (byte "0") (byte "9") c) Digit
    (cond (c == byte "'") Quote
    (cond (c == byte "/") Slash
    (cond (c == byte "{") OpensBrace
    (cond (c == byte "}") ClosesBrace
    (cond (c == byte "(" || c == byte ")" || c == byte "[" || c == byte "]" || c == byte "," || c == byte ";") Sign
    (cond (c == byte ":" || c == byte "." || c == byte "+" || c == byte "-" || c == byte "*") Sign
    (cond (c == byte "<" || c == byte ">") Sign
    (cond (c == byte "?" || c == byte "=" || c == byte "!") Half Other)))))))))))

-- `?.`, `??`, `:=`, `->`, `==`, `!=`, `<=`, `>=`
unfoldable pub is_pair : ℕ → ℕ → Bool
is_pair c d = (c == byte "?" && (d == byte "." || d == byte "?")) || (c == byte "-" && d == byte ">")
    || ((c == byte ":" || c == byte "=" || c == byte "!" || c == byte "<" || c == byte ">") && d == byte "=")

abbrev pub is_space_class : Class → Bool
is_space_class Space = true
is_space_class LineFeed = true
is_space_class _ = false

abbrev pub is_word_class : Class → Bool
is_word_class Letter = true
is_word_class Digit = true
is_word_class _ = false

abbrev pub is_digit_class : Class → Bool
is_digit_class Digit = true
is_digit_class _ = false

abbrev pub in_line_class : Class → Bool
in_line_class LineFeed = false
in_line_class _ = true

-- a space, a tab, a line feed, a carriage return
abbrev pub is_space : ℕ → Bool
is_space c = is_space_class (class c)

-- a byte of a word, its first aside
abbrev pub is_word : ℕ → Bool
is_word c = is_word_class (class c)

abbrev pub is_digit : ℕ → Bool
is_digit c = is_digit_class (class c)

-- any byte but a line feed
abbrev pub in_line : ℕ → Bool
in_line c = in_line_class (class c)

abbrev pub is_quote : ℕ → Bool
is_quote c = c == byte "'"

-- after a slash, what makes a comment of the two
abbrev pub is_comment : ℕ → Bool
is_comment c = c == byte "/" || c == byte "*"

-- what may follow a backslash in a text: `\\`, `\'`, `\n`, `\r`, `\t` and `\0` are its escapes
unfoldable pub is_text_escape : ℕ → Bool
is_text_escape c = c == byte "\\" || c == byte "'" || c == byte "n" || c == byte "r" || c == byte "t" || c == byte "0"

-- each of these bytes passes the test
abbrev pub AllOf : (ℕ → Bool) → List ℕ → Type 0
AllOf p [] = Unit {0}
AllOf p (c ∷ cs) = (p c ≡ true) × AllOf p cs

-- the first of these bytes, if any, does not pass it
abbrev pub Stops : (ℕ → Bool) → List ℕ → Type 0
Stops p [] = Unit {0}
Stops p (c ∷ cs) = p c ≡ false

-- there is a first byte, and it passes the test
abbrev pub Begins : (ℕ → Bool) → List ℕ → Type 0
Begins p [] = ⊥
Begins p (c ∷ cs) = p c ≡ true

-- whether `*/` stands in these bytes
abbrev pub has_end : List ℕ → Bool
has_end [] = false
has_end (c ∷ []) = false
has_end (c ∷ d ∷ cs) = (c == byte "*" && d == byte "/") || has_end (d ∷ cs)

-- the number that digits spell, after a number that was read
abbrev pub value_from : ℕ → List ℕ → ℕ
value_from n [] = n
value_from n (c ∷ cs) = value_from (10 * n + (c - byte "0")) cs

-- the greatest number that may be written
abbrev pub greatest : ℕ
greatest = 9223372036854775807
