-- What holds of printed programs.
use Rattle.std.specs.Prelude.{◌≡◌, ℕ, List}
use Rattle.hog_tree.specs.Plain.{Stms}
use Rattle.hog_grammar.specs.declared.token.Token.{Token}
use Rattle.hog_grammar.specs.Pieces.{IsTokensOf}
use Rattle.hog_grammar.specs.Terminal.{terminals}
use Rattle.hog_grammar.specs.Spelling.{Spells}
use Rattle.hog_printer.specs.Print.{printed}

-- These bytes are a text of the program: its tokens spell it, at some height.
pub record IsTextOf (text : List ℕ) (program : Stms) : Type 0 where
  pub list : List Token
  pub height : ℕ
  pub tokens : IsTokensOf text list
  pub spells : Spells program (terminals text list) height

-- The printed text of a program that has a text is a text of that program.
abbrev pub ReadsBack : Type 0
ReadsBack = (text : List ℕ) (program : Stms) → IsTextOf text program → IsTextOf (printed program) program

-- It is a text of no other program, and at one height.
abbrev pub ReadsBackOnly : Type 0
ReadsBackOnly = (text : List ℕ) (program other : Stms) → IsTextOf text program → IsTextOf (printed program) other → other ≡ program
