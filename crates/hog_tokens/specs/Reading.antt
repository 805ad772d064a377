-- Reading the piece at the front of a text. What the functions compute; the laws tie it to the definition of pieces.
use Rattle.std.specs.Prelude.{ℕ, zero, suc, pred, ◌+◌, ◌-◌, List, [], ◌∷◌, Bool, true, false, cond, ◌==◌, ◌&&◌, nat_lt, Option, Some, None}
use Rattle.std.specs.Str.{byte}
use Rattle.std.specs.Option.{option_map}
use Rattle.hog_grammar.specs.declared.token.Fault.{Fault}
use Rattle.hog_grammar.specs.declared.token.Fault.TheVariants.{BadByte, TooLarge}
use Rattle.hog_grammar.specs.Bytes.{Class, Space, LineFeed, Letter, Digit, Quote, Slash, OpensBrace, ClosesBrace, Sign, Half, Other, class, is_pair, is_word, is_digit, in_line, is_quote, value_from, greatest}
use Rattle.hog_grammar.specs.Pieces.{Quotes, OfText, OfTemplate, is_end, is_escape, Place, Code, Template, opened}
use Rattle.hog_tokens.specs.declared.pieces.Kind.{Kind}
use Rattle.hog_tokens.specs.declared.pieces.Kind.TheVariants as k
use Rattle.hog_tokens.specs.declared.pieces.Spot.{Spot}
use Rattle.hog_tokens.specs.declared.pieces.Spot.TheVariants as s

-- the first of these bytes that pass a test, and what follows them
abbrev pub during : (ℕ → Bool) → List ℕ → List ℕ
during p [] = []
during p (c ∷ cs) = cond (p c) (c ∷ during p cs) []

abbrev pub after : (ℕ → Bool) → List ℕ → List ℕ
after p [] = []
after p (c ∷ cs) = cond (p c) (after p cs) (c ∷ cs)

-- characters in quotes, up to what ends them: from there on, and the place of the first bad backslash
pub record Run : Type 0 where
  pub rest : List ℕ
  pub bad : Option ℕ

abbrev pub first_of : Option ℕ → ℕ → Option ℕ
first_of (Some b) n = Some b
first_of None n = Some n

abbrev mutual
  -- n is the place of the first of these bytes
  pub run_from : Quotes → ℕ → Option ℕ → List ℕ → Option Run
  run_from q n bad [] = None
  run_from q n bad (c ∷ cs) = cond (is_end q c) (Some (record { rest = c ∷ cs; bad = bad })) (cond (c == byte "\\") (escape_from q (suc n) bad cs) (run_from q (suc n) bad cs))

  -- the byte before is a backslash
  pub escape_from : Quotes → ℕ → Option ℕ → List ℕ → Option Run
  escape_from q n bad [] = None
  escape_from q n bad (c ∷ cs) = cond (is_escape q c) (run_from q (suc n) bad cs) (run_from q (suc n) (first_of bad (n - 1)) cs)

-- what follows a block comment; whether the byte before is a star
abbrev pub block_from : Bool → List ℕ → Option (List ℕ)
block_from star [] = None
block_from true (c ∷ cs) = cond (c == byte "/") (Some cs) (block_from (c == byte "*") cs)
block_from false (c ∷ cs) = block_from (c == byte "*") cs

-- a piece, what follows it, and its first fault with its distance from the piece's first byte
pub record Begun : Type 0 where
  pub kind : Kind
  pub rest : List ℕ
  pub fault : Option (Fault × ℕ)

abbrev pub begun : Kind → List ℕ → Option (Fault × ℕ) → Option Begun
begun kind rest fault = Some (record { kind = kind; rest = rest; fault = fault })

abbrev pub bad_byte : Option ℕ → Option (Fault × ℕ)
bad_byte bad = option_map (λ n. (BadByte, n)) bad

abbrev pub stray : List ℕ → Option Begun
stray rest = begun k.Gap rest (Some (BadByte, 0))

abbrev pub begin_word : ℕ → List ℕ → Option Begun
begin_word c [] = begun k.Word [] None
begin_word c (d ∷ ds) = cond (c == byte "f" && is_quote d) (begun k.TemplateStart ds None) (begun k.Word (after is_word (d ∷ ds)) None)

abbrev pub begin_number : ℕ → List ℕ → Option Begun
begin_number c cs = begun k.Number (after is_digit cs) (cond (nat_lt greatest (value_from 0 (c ∷ during is_digit cs))) (Some (TooLarge, 0)) None)

-- a text that ends here, with its quote
abbrev pub closed : List ℕ → Option ℕ → Option Begun
closed [] bad = None
closed (c ∷ cs) bad = begun k.Text cs (bad_byte bad)

abbrev pub begin_text : Option Run → Option Begun
begin_text None = None
begin_text (Some run) = closed run.rest run.bad

abbrev pub begin_characters : Option Run → Option Begun
begin_characters None = None
begin_characters (Some run) = begun k.Characters run.rest (bad_byte run.bad)

abbrev pub begin_block : Option (List ℕ) → Option Begun
begin_block None = None
begin_block (Some rest) = begun k.Gap rest None

abbrev pub begin_slash : List ℕ → Option Begun
begin_slash [] = stray []
begin_slash (c ∷ cs) = cond (c == byte "/") (begun k.Gap (after in_line cs) None) (cond (c == byte "*") (begin_block (block_from false cs)) (stray (c ∷ cs)))

-- what follows the second byte of a mark
abbrev pub past_pair : ℕ → List ℕ → Option (List ℕ)
past_pair c [] = None
past_pair c (d ∷ ds) = cond (is_pair c d) (Some ds) None

-- a mark of two bytes, or else what the first is by itself
abbrev pub begin_mark : Option (List ℕ) → Option Begun → Option Begun
begin_mark (Some rest) alone = begun k.Mark rest None
begin_mark None alone = alone

-- `}`, in a hole with no open brace or elsewhere
abbrev pub closing : Bool → Kind
closing true = k.HoleEnd
closing false = k.CloseBrace

abbrev pub begin_code : Bool → Class → ℕ → List ℕ → Option Begun
begin_code hole Space c cs = begun k.Gap cs None
begin_code hole LineFeed c cs = begun k.Gap cs None
begin_code hole Letter c cs = begin_word c cs
begin_code hole Digit c cs = begin_number c cs
begin_code hole Quote c cs = begin_text (run_from OfText 1 None cs)
begin_code hole Slash c cs = begin_slash cs
begin_code hole OpensBrace c cs = begun k.OpenBrace cs None
begin_code hole ClosesBrace c cs = begun (closing hole) cs None
begin_code hole Sign c cs = begin_mark (past_pair c cs) (begun k.Mark cs None)
begin_code hole Half c cs = begin_mark (past_pair c cs) (stray cs)
begin_code hole Other c cs = stray cs

abbrev pub begin_template : ℕ → List ℕ → Option Begun
begin_template c cs = cond (c == byte "'") (begun k.TemplateEnd cs None) (cond (c == byte "{") (begun k.HoleStart cs None) (begin_characters (run_from OfTemplate 0 None (c ∷ cs))))

-- the piece at the front of a text; none where it is empty, or what begins it has no end
abbrev pub begin : Spot → List ℕ → Option Begun
begin spot [] = None
begin s.Template (c ∷ cs) = begin_template c cs
begin s.Code (c ∷ cs) = begin_code false (class c) c cs
begin s.Hole (c ∷ cs) = begin_code true (class c) c cs

-- places

abbrev pub spot_of : Place → Spot
spot_of (Code []) = s.Code
spot_of (Code (zero ∷ holes)) = s.Hole
spot_of (Code (suc n ∷ holes)) = s.Code
spot_of (Template holes) = s.Template

abbrev pub place_of : Bool → List ℕ → Place
place_of false holes = Code holes
place_of true holes = Template holes

abbrev pub is_outside : Place → Bool
is_outside (Code []) = true
is_outside (Code (n ∷ holes)) = false
is_outside (Template holes) = false

abbrev pub holes_of : Place → List ℕ
holes_of (Code holes) = holes
holes_of (Template holes) = holes

abbrev pub outer : List ℕ → List ℕ
outer [] = []
outer (n ∷ holes) = holes

abbrev pub one_less : List ℕ → List ℕ
one_less [] = []
one_less (n ∷ holes) = pred n ∷ holes

-- the place after a piece of that kind
abbrev pub moved : Kind → Place → Place
moved k.Gap place = place
moved k.Word place = place
moved k.Number place = place
moved k.Text place = place
moved k.Mark place = place
moved k.Characters place = place
moved k.OpenBrace place = Code (opened (holes_of place))
moved k.CloseBrace place = Code (one_less (holes_of place))
moved k.TemplateStart place = Template (holes_of place)
moved k.TemplateEnd place = Code (holes_of place)
moved k.HoleStart place = Code (0 ∷ holes_of place)
moved k.HoleEnd place = Template (outer (holes_of place))

-- how many braces are open in holes
abbrev pub open_braces : List ℕ → ℕ
open_braces [] = 0
open_braces (n ∷ holes) = n + open_braces holes

-- the first of two faults, if there is one
abbrev pub first_found : Option (Fault × ℕ) → Option (Fault × ℕ) → Option (Fault × ℕ)
first_found (Some x) y = Some x
first_found None y = y

-- a fault of a piece that begins at that place
abbrev pub shifted : ℕ → Option (Fault × ℕ) → Option (Fault × ℕ)
shifted n None = None
shifted n (Some x) = Some (x.0, n + x.1)
