-- The bad places of a text.
use Rattle.std.specs.Prelude.{◌≡◌, ℕ, suc, ◌+◌, ◌<◌, ◌≤◌, List, [], ◌∷◌, ◌++◌, length, false, ◌⊎◌}
use Rattle.std.specs.Str.{byte}
use Rattle.hog_grammar.specs.declared.token.Fault.{Fault}
use Rattle.hog_grammar.specs.declared.token.Fault.TheVariants.{BadByte, Unclosed, TooLarge}
use Rattle.hog_grammar.specs.Bytes.{value_from, greatest}
use Rattle.hog_grammar.specs.Pieces.{Inner, Escape, inside, Quotes, OfText, OfTemplate, is_escape, Piece, Blank, LineComment, BlockComment, Word, Number, Text, Mark, LongMark, OpenBrace, CloseBrace, TemplateStart, Characters, HoleStart, HoleEnd, TemplateEnd, Stray, spelled, Place, Code, Passes}

-- a backslash that stands before no escape, that many bytes after the first of these
pub record HasBad (q : Quotes) (us : List Inner) (offset : ℕ) : Type 0 where
  pub front : List Inner
  pub byte_after : ℕ
  pub back : List Inner
  pub is : us ≡ front ++ Escape byte_after ∷ back
  pub bad : is_escape q byte_after ≡ false
  pub place : offset ≡ length (inside front)

-- The piece holds that fault, that many bytes after its first.
abbrev pub Holds : Piece → Fault → ℕ → Type 0
Holds (Number c cs) f offset = (f ≡ TooLarge) × (offset ≡ 0) × (greatest < value_from 0 (c ∷ cs))
Holds (Text us) f offset = (n : ℕ) × (f ≡ BadByte) × (offset ≡ suc n) × HasBad OfText us n
Holds (Characters us) f offset = (f ≡ BadByte) × HasBad OfTemplate us offset
Holds (Stray c) f offset = (f ≡ BadByte) × (offset ≡ 0)
Holds (Blank c) f offset = ⊥
Holds (LineComment cs) f offset = ⊥
Holds (BlockComment cs) f offset = ⊥
Holds (Word c cs) f offset = ⊥
Holds (Mark c) f offset = ⊥
Holds (LongMark c d) f offset = ⊥
Holds OpenBrace f offset = ⊥
Holds CloseBrace f offset = ⊥
Holds TemplateStart f offset = ⊥
Holds HoleStart f offset = ⊥
Holds HoleEnd f offset = ⊥
Holds TemplateEnd f offset = ⊥

-- how many bytes these pieces have
abbrev pub size_of : List Piece → ℕ
size_of [] = 0
size_of (p ∷ ps) = length (spelled p) + size_of ps

-- The text outside of templates begins with what opens a text, a comment or a template, and no pieces of it
-- lead out of that. Bad bytes are pieces too, so they are passed over.
pub record IsOpen (text : List ℕ) : Type 0 where
  pub rest : List ℕ
  pub opens : (text ≡ byte "'" ∷ rest) ⊎ (text ≡ byte "/" ∷ byte "*" ∷ rest) ⊎ (text ≡ byte "f" ∷ byte "'" ∷ rest)
  pub open_still : (p : Piece) (ps : List Piece) (out : List ℕ) → Passes (p ∷ ps) (Code []) text (Code []) out → ⊥

-- After these pieces, good or bad, one holds the fault.
pub record StandsInPiece (text : List ℕ) (f : Fault) (at : ℕ) : Type 0 where
  pub pieces : List Piece
  pub last : Piece
  pub offset : ℕ
  pub to : Place
  pub rest : List ℕ
  pub passes : Passes (pieces ++ last ∷ []) (Code []) text to rest
  pub holds : Holds last f offset
  pub place : at ≡ size_of pieces + offset

-- After these pieces, good or bad, something has no end. Inside a template nothing is looked for: what has no
-- end there leaves the template without its own, which stands before.
pub record StandsOpen (text : List ℕ) (f : Fault) (at : ℕ) : Type 0 where
  pub pieces : List Piece
  pub rest : List ℕ
  pub passes : Passes pieces (Code []) text (Code []) rest
  pub is_open : IsOpen rest
  pub fault : f ≡ Unclosed
  pub place : at ≡ size_of pieces

abbrev pub IsBadPlace : List ℕ → Fault → ℕ → Type 0
IsBadPlace text f at = StandsInPiece text f at ⊎ StandsOpen text f at

-- the least of the bad places
pub record IsFirstFault (text : List ℕ) (f : Fault) (at : ℕ) : Type 0 where
  pub stands : IsBadPlace text f at
  pub least : (g : Fault) (place : ℕ) → IsBadPlace text g place → at ≤ place
