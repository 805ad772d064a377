-- Which texts are programs, and why a text is none.
use Rattle.std.specs.Prelude.{ℕ, ◌<◌, ◌≤◌, List, length}
use Rattle.std.specs.Str.{IsUtf8, IsValidUpTo}
use Rattle.hog_tree.specs.Plain.{Stms}
use Rattle.hog_grammar.specs.declared.token.Token.{Token}
use Rattle.hog_grammar.specs.declared.token.Fault.{Fault}
use Rattle.hog_grammar.specs.declared.token.Fault.TheVariants as fault
use Rattle.hog_grammar.specs.Faults.{IsFirstFault}
use Rattle.hog_grammar.specs.Pieces.{IsTokensOf}
use Rattle.hog_grammar.specs.Spelling.{Spells}
use Rattle.hog_grammar.specs.Terminal.{terminals}
use Rattle.hog_parser.specs.Before.{tokens_before}
use Rattle.hog_printer.specs.Print.{printed}
use Rattle.hog_program.specs.declared.stop.BuildStop.{BuildStop}
use Rattle.hog_program.specs.declared.stop.BuildStop.TheVariants as stop

-- the most bytes of a program
abbrev pub longest : ℕ
longest = 16384

-- the greatest height of its tree
abbrev pub highest : ℕ
highest = 100

-- The text is a program with that tree: it is no longer than it may be, and its tokens spell the tree at a height
-- that is no greater than it may be.
pub record IsProgram (text : List ℕ) (tree : Stms) : Type 0 where
  pub short : length text ≤ longest
  pub list : List Token
  pub cut : IsTokensOf text list
  pub height : ℕ
  pub spelled : Spells tree (terminals text list) height
  pub low : height ≤ highest

-- The text has tokens, and they spell no tree.
pub record IsUnspelled (text : List ℕ) : Type 0 where
  pub list : List Token
  pub cut : IsTokensOf text list
  pub none : (tree : Stms) (height : ℕ) → Spells tree (terminals text list) height → ⊥

-- The text has tokens, they spell no tree of a height that may be, and forty of them stand before that place.
pub record IsTooNested (text : List ℕ) (at : ℕ) : Type 0 where
  pub list : List Token
  pub cut : IsTokensOf text list
  pub high : (tree : Stms) (height : ℕ) → Spells tree (terminals text list) height → highest < height
  pub after_forty : 40 ≤ tokens_before at list

-- the first fault of a text that is no longer than it may be
abbrev pub IsFault : List ℕ → Fault → ℕ → Type 0
IsFault text f at = (length text ≤ longest) × IsUtf8 text × IsFirstFault text f at

-- Why the text is no program. The stops of names aren't among the causes: a program may have faults of names.
abbrev pub IsNone : List ℕ → BuildStop → Type 0
IsNone text stop.TooLong = longest < length text
IsNone text (stop.NotUtf8 at) = (length text ≤ longest) × ¬ (IsUtf8 text) × IsValidUpTo text at
IsNone text (stop.BadByte at) = IsFault text fault.BadByte at
IsNone text (stop.Unclosed at) = IsFault text fault.Unclosed at
IsNone text (stop.TooLarge at) = IsFault text fault.TooLarge at
IsNone text (stop.Syntax at) = (length text ≤ longest) × IsUnspelled text
IsNone text (stop.TooNested at) = (length text ≤ longest) × IsTooNested text at
IsNone text (stop.AlreadyDeclared at) = ⊥
IsNone text (stop.AssignsUnknown at) = ⊥
IsNone text (stop.UnknownFunction at) = ⊥
IsNone text (stop.WrongCount at) = ⊥
IsNone text stop.OutOfMemory = ⊥

-- these bytes are no longer than a program may be, and what their tokens spell is no higher
pub record IsLow (text : List ℕ) (tree : Stms) : Type 0 where
  pub short : length text ≤ longest
  pub low : (list : List Token) (height : ℕ) → IsTokensOf text list → Spells tree (terminals text list) height → height ≤ highest

-- The printed text of a program is that program again, where length and height allow.
abbrev pub ReadsBack : Type 0
ReadsBack = (text : List ℕ) (tree : Stms) → IsProgram text tree → IsLow (printed tree) tree → IsProgram (printed tree) tree
