-- The tokens of a text: it is cut into pieces, each the longest that can stand there, and those that are
-- no blanks and comments are its tokens.
use Rattle.std.specs.Prelude.{◌≡◌, ◌≢◌, ℕ, suc, ◌+◌, ◌<◌, ◌≤◌, List, [], ◌∷◌, ◌++◌, length, Bool, true, false, ◌==◌, ◌||◌, Option, Some, None, codes}
use Rattle.std.specs.Str.{byte, IsUtf8}
use Rattle.hog_grammar.specs.declared.token.Token.{Token}
use Rattle.hog_grammar.specs.declared.token.TokenKind.{TokenKind}
use Rattle.hog_grammar.specs.declared.token.TokenKind.TheVariants as k
use Rattle.hog_grammar.specs.Bytes.{class, Letter, Digit, Sign, Half, Slash, Other, Class, Space, LineFeed, Quote, OpensBrace, ClosesBrace, is_pair, is_space, is_word, is_digit, in_line, is_quote, is_comment, is_text_escape, AllOf, Stops, Begins, has_end, value_from, greatest}

-- what stands between quotes: a byte by itself, or a backslash and the byte after it
pub data Inner : Type 0 where
  Plain : ℕ → Inner
  Escape : ℕ → Inner

abbrev pub inside : List Inner → List ℕ
inside [] = []
inside (Plain c ∷ us) = c ∷ inside us
inside (Escape c ∷ us) = byte "\\" ∷ c ∷ inside us

-- whose quotes: a text's or a template's
pub data Quotes : Type 0 where
  OfText : Quotes
  OfTemplate : Quotes

-- the bytes that end a run of such characters
abbrev pub is_end : Quotes → ℕ → Bool
is_end OfText c = c == byte "'"
is_end OfTemplate c = c == byte "'" || c == byte "{"

-- the bytes that a backslash may stand before
abbrev pub is_escape : Quotes → ℕ → Bool
is_escape OfText c = is_text_escape c
is_escape OfTemplate c = is_text_escape c || c == byte "{"

-- a byte by itself is no backslash, and ends nothing
abbrev pub AreInside : Quotes → List Inner → Type 0
AreInside q [] = Unit {0}
AreInside q (Plain c ∷ us) = (c == byte "\\" ≡ false) × (is_end q c ≡ false) × AreInside q us
AreInside q (Escape c ∷ us) = AreInside q us

abbrev pub AreEscapes : Quotes → List Inner → Type 0
AreEscapes q [] = Unit {0}
AreEscapes q (Plain c ∷ us) = AreEscapes q us
AreEscapes q (Escape c ∷ us) = (is_escape q c ≡ true) × AreEscapes q us

pub data Piece : Type 0 where
  -- a space, a tab, a line feed or a carriage return
  Blank : ℕ → Piece
  LineComment : List ℕ → Piece
  BlockComment : List ℕ → Piece
  Word : ℕ → List ℕ → Piece
  Number : ℕ → List ℕ → Piece
  Text : List Inner → Piece
  -- a mark of one byte, and one of two
  Mark : ℕ → Piece
  LongMark : ℕ → ℕ → Piece
  OpenBrace : Piece
  CloseBrace : Piece
  TemplateStart : Piece
  Characters : List Inner → Piece
  HoleStart : Piece
  HoleEnd : Piece
  TemplateEnd : Piece
  -- a byte that begins no piece
  Stray : ℕ → Piece

abbrev pub spelled : Piece → List ℕ
spelled (Blank c) = c ∷ []
spelled (LineComment cs) = byte "/" ∷ byte "/" ∷ cs
spelled (BlockComment cs) = byte "/" ∷ byte "*" ∷ (cs ++ byte "*" ∷ byte "/" ∷ [])
spelled (Word c cs) = c ∷ cs
spelled (Number c cs) = c ∷ cs
spelled (Text us) = byte "'" ∷ (inside us ++ byte "'" ∷ [])
spelled (Mark c) = c ∷ []
spelled (LongMark c d) = c ∷ d ∷ []
spelled OpenBrace = byte "{" ∷ []
spelled CloseBrace = byte "}" ∷ []
spelled TemplateStart = byte "f" ∷ byte "'" ∷ []
spelled (Characters us) = inside us
spelled HoleStart = byte "{" ∷ []
spelled HoleEnd = byte "}" ∷ []
spelled TemplateEnd = byte "'" ∷ []
spelled (Stray c) = c ∷ []

-- this byte begins no piece where these follow
abbrev pub IsStray : Class → ℕ → List ℕ → Type 0
IsStray Slash c rest = Stops is_comment rest
IsStray Half c rest = Stops (is_pair c) rest
IsStray Other c rest = Unit {0}
IsStray Space c rest = ⊥
IsStray LineFeed c rest = ⊥
IsStray Letter c rest = ⊥
IsStray Digit c rest = ⊥
IsStray Quote c rest = ⊥
IsStray OpensBrace c rest = ⊥
IsStray ClosesBrace c rest = ⊥
IsStray Sign c rest = ⊥

-- It is such a piece, and the longest where these bytes follow. A word is a template's `f` where a quote follows.
abbrev pub IsPiece : Piece → List ℕ → Type 0
IsPiece (Blank c) rest = is_space c ≡ true
IsPiece (LineComment cs) rest = AllOf in_line cs × Stops in_line rest
IsPiece (BlockComment cs) rest = has_end (cs ++ byte "*" ∷ []) ≡ false
IsPiece (Word c cs) rest = (class c ≡ Letter) × AllOf is_word cs × Stops is_word rest × (c ∷ cs ≡ codes "f" → Stops is_quote rest)
IsPiece (Number c cs) rest = (class c ≡ Digit) × AllOf is_digit cs × Stops is_digit rest
IsPiece (Text us) rest = AreInside OfText us
IsPiece (Mark c) rest = (class c ≡ Sign) × Stops (is_pair c) rest
IsPiece (LongMark c d) rest = is_pair c d ≡ true
IsPiece OpenBrace rest = Unit {0}
IsPiece CloseBrace rest = Unit {0}
IsPiece TemplateStart rest = Unit {0}
IsPiece (Characters us) rest = (us ≢ []) × AreInside OfTemplate us × Begins (is_end OfTemplate) rest
IsPiece HoleStart rest = Unit {0}
IsPiece HoleEnd rest = Unit {0}
IsPiece TemplateEnd rest = Unit {0}
IsPiece (Stray c) rest = IsStray (class c) c rest

-- it holds no fault
abbrev pub IsGood : Piece → Type 0
IsGood (Number c cs) = value_from 0 (c ∷ cs) ≤ greatest
IsGood (Text us) = AreEscapes OfText us
IsGood (Characters us) = AreEscapes OfTemplate us
IsGood (Stray c) = ⊥
IsGood (Blank c) = Unit {0}
IsGood (LineComment cs) = Unit {0}
IsGood (BlockComment cs) = Unit {0}
IsGood (Word c cs) = Unit {0}
IsGood (Mark c) = Unit {0}
IsGood (LongMark c d) = Unit {0}
IsGood OpenBrace = Unit {0}
IsGood CloseBrace = Unit {0}
IsGood TemplateStart = Unit {0}
IsGood HoleStart = Unit {0}
IsGood HoleEnd = Unit {0}
IsGood TemplateEnd = Unit {0}

-- Where a piece can stand: in code, or among the characters of a template. Each has the holes that are open
-- round it, the innermost first: for each the number of braces that are open in it.
pub data Place : Type 0 where
  Code : List ℕ → Place
  Template : List ℕ → Place

-- one more open brace, which counts in holes alone
abbrev pub opened : List ℕ → List ℕ
opened [] = []
opened (n ∷ holes) = suc n ∷ holes

abbrev pub InCode : Place → Place → Type 0
InCode from to = (holes : List ℕ) × (from ≡ Code holes) × (to ≡ Code holes)

-- Such a piece can stand at the first place, and the second is that after it. A `}` where no brace is open in
-- its hole ends the hole.
abbrev pub Moves : Piece → Place → Place → Type 0
Moves (Blank c) from to = InCode from to
Moves (LineComment cs) from to = InCode from to
Moves (BlockComment cs) from to = InCode from to
Moves (Word c cs) from to = InCode from to
Moves (Number c cs) from to = InCode from to
Moves (Text us) from to = InCode from to
Moves (Mark c) from to = InCode from to
Moves (LongMark c d) from to = InCode from to
Moves OpenBrace from to = (holes : List ℕ) × (from ≡ Code holes) × (to ≡ Code (opened holes))
Moves CloseBrace from to = (holes : List ℕ) × (from ≡ Code (opened holes)) × (to ≡ Code holes)
Moves TemplateStart from to = (holes : List ℕ) × (from ≡ Code holes) × (to ≡ Template holes)
Moves (Characters us) from to = (holes : List ℕ) × (from ≡ Template holes) × (to ≡ Template holes)
Moves HoleStart from to = (holes : List ℕ) × (from ≡ Template holes) × (to ≡ Code (0 ∷ holes))
Moves HoleEnd from to = (holes : List ℕ) × (from ≡ Code (0 ∷ holes)) × (to ≡ Template holes)
Moves TemplateEnd from to = (holes : List ℕ) × (from ≡ Template holes) × (to ≡ Code holes)
Moves (Stray c) from to = InCode from to

-- The text begins with this piece, and from the place after it goes on so.
pub record After (p : Piece) (Others : Place → List ℕ → Type 0) (place : Place) (text : List ℕ) : Type 0 where
  pub next : Place
  pub more : List ℕ
  pub bytes : text ≡ spelled p ++ more
  pub piece : IsPiece p more
  pub moves : Moves p place next
  pub others : Others next more

-- A text that stands at a place begins with these pieces, and what is left stands at that place.
abbrev pub Passes : List Piece → Place → List ℕ → Place → List ℕ → Type 0
Passes [] place text to rest = (place ≡ to) × (text ≡ rest)
Passes (p ∷ ps) place text to rest = After p (λ next more. Passes ps next more to rest) place text

abbrev pub AreGood : List Piece → Type 0
AreGood [] = Unit {0}
AreGood (p ∷ ps) = IsGood p × AreGood ps

abbrev pub kind_of : Piece → Option TokenKind
kind_of (Blank c) = None
kind_of (LineComment cs) = None
kind_of (BlockComment cs) = None
kind_of (Word c cs) = Some k.Word
kind_of (Number c cs) = Some k.Number
kind_of (Text us) = Some k.Text
kind_of (Mark c) = Some k.Mark
kind_of (LongMark c d) = Some k.Mark
kind_of OpenBrace = Some k.Mark
kind_of CloseBrace = Some k.Mark
kind_of TemplateStart = Some k.TemplateStart
kind_of (Characters us) = Some k.TemplateText
kind_of HoleStart = Some k.HoleStart
kind_of HoleEnd = Some k.HoleEnd
kind_of TemplateEnd = Some k.TemplateEnd
kind_of (Stray c) = None

-- the token of that kind, if it is one, before others
abbrev pub with_token : Option TokenKind → ℕ → ℕ → List Token → List Token
with_token None from to ts = ts
with_token (Some kind) from to ts = record { kind = kind; from = from; to = to } ∷ ts

-- the tokens of pieces of which the first begins at that place of the text
abbrev pub tokens_at : ℕ → List Piece → List Token
tokens_at n [] = []
tokens_at n (p ∷ ps) = with_token (kind_of p) n (n + length (spelled p)) (tokens_at (n + length (spelled p)) ps)

-- The text is UTF-8 and is cut into good pieces, outside of templates at its end, and these are their tokens.
pub record IsTokensOf (text : List ℕ) (list : List Token) : Type 0 where
  pub utf8 : IsUtf8 text
  pub pieces : List Piece
  pub cut : Passes pieces (Code []) text (Code []) []
  pub good : AreGood pieces
  pub tokens : list ≡ tokens_at 0 pieces

-- From that place on each token begins where the one before ended, or later, none is empty, and the last ends by
-- the end.
abbrev pub AreInOrder : ℕ → List Token → ℕ → Type 0
AreInOrder from [] end = from ≤ end
AreInOrder from (t ∷ ts) end = (from ≤ t.from) × (t.from < t.to) × AreInOrder t.to ts end

-- a text and the list of its tokens
pub record Lexed : Type 0 where
  pub text : List ℕ
  pub list : List Token
