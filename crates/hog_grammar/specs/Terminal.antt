-- What tokens mean to the grammar.
use Rattle.std.specs.Prelude.{ℕ, ◌≤◌, List, [], ◌∷◌, map, cond, ◌==◌, ◌-◌, length, slice_range, codes, bytes_eq, All}
use Rattle.std.specs.Str.{byte, IsUtf8}
use Rattle.hog_grammar.specs.declared.token.Token.{Token}
use Rattle.hog_grammar.specs.declared.token.TokenKind.{TokenKind}
use Rattle.hog_grammar.specs.declared.token.TokenKind.TheVariants as k
use Rattle.hog_grammar.specs.Bytes.{value_from, greatest}

pub data Terminal : Type 0 where
  -- a word that is not reserved, the value of a number, the bytes that a text means
  Word : List ℕ → Terminal
  Number : ℕ → Terminal
  Text : List ℕ → Terminal
  -- the parts of a template, with the bytes that its characters mean
  TemplateStart : Terminal
  Characters : List ℕ → Terminal
  HoleStart : Terminal
  HoleEnd : Terminal
  TemplateEnd : Terminal
  -- reserved words
  Let : Terminal
  Fun : Terminal
  Return : Terminal
  Throw : Terminal
  Try : Terminal
  Catch : Terminal
  If : Terminal
  Else : Terminal
  While : Terminal
  For : Terminal
  In : Terminal
  Not : Terminal
  And : Terminal
  Or : Terminal
  True : Terminal
  False : Terminal
  Null : Terminal
  -- marks
  Open : Terminal
  Close : Terminal
  OpenBracket : Terminal
  CloseBracket : Terminal
  OpenBrace : Terminal
  CloseBrace : Terminal
  Comma : Terminal
  Semi : Terminal
  Colon : Terminal
  Dot : Terminal
  NullishDot : Terminal
  Coalesce : Terminal
  Assign : Terminal
  Arrow : Terminal
  Plus : Terminal
  Minus : Terminal
  Star : Terminal
  Equal : Terminal
  NotEqual : Terminal
  Less : Terminal
  LessEqual : Terminal
  Greater : Terminal
  GreaterEqual : Terminal
  -- bytes that are no token
  Nothing : Terminal

abbrev pub reserved_words : List (List ℕ × Terminal)
reserved_words = (codes "let", Let) ∷ (codes "fun", Fun) ∷ (codes "return", Return) ∷ (codes "throw", Throw) ∷ (codes "try", Try)
    ∷ (codes "catch", Catch) ∷ (codes "if", If) ∷ (codes "else", Else) ∷ (codes "while", While) ∷ (codes "for", For) ∷ (codes "in", In)
    ∷ (codes "not", Not) ∷ (codes "and", And) ∷ (codes "or", Or) ∷ (codes "true", True) ∷ (codes "false", False) ∷ (codes "null", Null) ∷ []

abbrev pub marks : List (List ℕ × Terminal)
marks = (codes "(", Open) ∷ (codes ")", Close) ∷ (codes "[", OpenBracket) ∷ (codes "]", CloseBracket) ∷ (codes "{", OpenBrace)
    ∷ (codes "}", CloseBrace) ∷ (codes ",", Comma) ∷ (codes ";", Semi) ∷ (codes ":", Colon) ∷ (codes ".", Dot) ∷ (codes "?.", NullishDot)
    ∷ (codes "??", Coalesce) ∷ (codes ":=", Assign) ∷ (codes "->", Arrow) ∷ (codes "+", Plus) ∷ (codes "-", Minus) ∷ (codes "*", Star)
    ∷ (codes "==", Equal) ∷ (codes "!=", NotEqual) ∷ (codes "<", Less) ∷ (codes "<=", LessEqual) ∷ (codes ">", Greater)
    ∷ (codes ">=", GreaterEqual) ∷ []

-- what stands beside these bytes in a table
abbrev pub named : List (List ℕ × Terminal) → List ℕ → Terminal → Terminal
named [] bytes other = other
named (row ∷ rows) bytes other = cond (bytes_eq row.0 bytes) row.1 (named rows bytes other)

-- a word, reserved or not
unfoldable pub word : List ℕ → Terminal
word bytes = named reserved_words bytes (Word bytes)

unfoldable pub mark : List ℕ → Terminal
mark bytes = named marks bytes Nothing

-- the byte that an escape means: a line feed, a carriage return, a tab, a zero, or the byte itself
abbrev pub escaped : ℕ → ℕ
escaped c = cond (c == byte "n") 10 (cond (c == byte "r") 13 (cond (c == byte "t") 9 (cond (c == byte "0") 0 c)))

abbrev mutual
  -- the bytes that characters mean
  pub meant : List ℕ → List ℕ
  meant [] = []
  meant (c ∷ cs) = cond (c == byte "\\") (meant_after cs) (c ∷ meant cs)

  -- a backslash stands before these
  pub meant_after : List ℕ → List ℕ
  meant_after [] = []
  meant_after (c ∷ cs) = escaped c ∷ meant cs

-- the bytes without the first and the last
abbrev pub unquoted : List ℕ → List ℕ
unquoted bytes = slice_range bytes 1 (length bytes - 1)

-- what a token of that kind means, from its bytes
abbrev pub meaning_of : TokenKind → List ℕ → Terminal
meaning_of k.Word bytes = word bytes
meaning_of k.Number bytes = Number (value_from 0 bytes)
meaning_of k.Text bytes = Text (meant (unquoted bytes))
meaning_of k.Mark bytes = mark bytes
meaning_of k.TemplateStart bytes = TemplateStart
meaning_of k.TemplateText bytes = Characters (meant bytes)
meaning_of k.HoleStart bytes = HoleStart
meaning_of k.HoleEnd bytes = HoleEnd
meaning_of k.TemplateEnd bytes = TemplateEnd

abbrev pub terminal_of : List ℕ → Token → Terminal
terminal_of text t = meaning_of t.kind (slice_range text t.from t.to)

-- what the tokens of a text mean
abbrev pub terminals : List ℕ → List Token → List Terminal
terminals text list = map (λ (t : Token). terminal_of text t) list

-- A token of that kind with these bytes can be read: a number is not too large, and what it means is UTF-8.
abbrev pub CanBeRead : TokenKind → List ℕ → Type 0
CanBeRead k.Word bytes = IsUtf8 bytes
CanBeRead k.Number bytes = value_from 0 bytes ≤ greatest
CanBeRead k.Text bytes = IsUtf8 (meant (unquoted bytes))
CanBeRead k.TemplateText bytes = IsUtf8 (meant bytes)
CanBeRead k.Mark bytes = Unit {0}
CanBeRead k.TemplateStart bytes = Unit {0}
CanBeRead k.HoleStart bytes = Unit {0}
CanBeRead k.HoleEnd bytes = Unit {0}
CanBeRead k.TemplateEnd bytes = Unit {0}

abbrev pub AreReadable : List ℕ → List Token → Type 0
AreReadable text list = All (λ (t : Token). CanBeRead t.kind (slice_range text t.from t.to)) list
