-- What contracts of the parser see of tokens. No reader has to trust this file.
use Rattle.std.specs.Prelude.{◌≡◌, ◌≤◌, ℕ, List, [], ◌∷◌, ◌++◌, drop, Bool, false, Option, Some, None}
use Rattle.std.specs.Str.{IsUtf8}
use Rattle.hog_tree.specs.declared.tree.Named.{Named}
use Rattle.hog_grammar.specs.declared.token.Token.{Token}
use Rattle.hog_grammar.specs.Bytes.{value_from, greatest}
use Rattle.hog_grammar.specs.Names.{names_after}
use Rattle.hog_grammar.specs.Pieces.{Lexed}
use Rattle.hog_grammar.specs.Terminal.{Terminal, terminals, meant, unquoted, word}
use Rattle.hog_grammar.specs.Terminal as k
use Rattle.hog_terms.specs.declared.term.Term.{Term}
use Rattle.hog_terms.specs.declared.term.Term.TheVariants as t

abbrev pub terminal_is : Term → Terminal
terminal_is (t.Word b) = k.Word b.now
terminal_is (t.Number b) = k.Number (value_from 0 b.now)
terminal_is (t.Text b) = k.Text (meant (unquoted b.now))
terminal_is (t.Characters b) = k.Characters (meant b.now)
terminal_is t.TemplateStart = k.TemplateStart
terminal_is t.HoleStart = k.HoleStart
terminal_is t.HoleEnd = k.HoleEnd
terminal_is t.TemplateEnd = k.TemplateEnd
terminal_is t.Let = k.Let
terminal_is t.Fun = k.Fun
terminal_is t.Return = k.Return
terminal_is t.Throw = k.Throw
terminal_is t.Try = k.Try
terminal_is t.Catch = k.Catch
terminal_is t.If = k.If
terminal_is t.Else = k.Else
terminal_is t.While = k.While
terminal_is t.For = k.For
terminal_is t.In = k.In
terminal_is t.Not = k.Not
terminal_is t.And = k.And
terminal_is t.Or = k.Or
terminal_is t.True = k.True
terminal_is t.False = k.False
terminal_is t.Null = k.Null
terminal_is t.Open = k.Open
terminal_is t.Close = k.Close
terminal_is t.OpenBracket = k.OpenBracket
terminal_is t.CloseBracket = k.CloseBracket
terminal_is t.OpenBrace = k.OpenBrace
terminal_is t.CloseBrace = k.CloseBrace
terminal_is t.Comma = k.Comma
terminal_is t.Semi = k.Semi
terminal_is t.Colon = k.Colon
terminal_is t.Dot = k.Dot
terminal_is t.NullishDot = k.NullishDot
terminal_is t.Coalesce = k.Coalesce
terminal_is t.Assign = k.Assign
terminal_is t.Arrow = k.Arrow
terminal_is t.Plus = k.Plus
terminal_is t.Minus = k.Minus
terminal_is t.Star = k.Star
terminal_is t.Equal = k.Equal
terminal_is t.NotEqual = k.NotEqual
terminal_is t.Less = k.Less
terminal_is t.LessEqual = k.LessEqual
terminal_is t.Greater = k.Greater
terminal_is t.GreaterEqual = k.GreaterEqual
terminal_is t.Nothing = k.Nothing

-- what the tokens from that index on mean
abbrev pub left : Lexed → ℕ → List Terminal
left c at = terminals c.text (drop at c.list)

abbrev pub uncons : List Terminal → Option (Terminal × List Terminal)
uncons [] = None
uncons (t ∷ ts) = Some (t, ts)

-- It can be made into what trees hold.
abbrev pub IsReadable : Term → Type 0
IsReadable (t.Word b) = IsUtf8 b.now × (word b.now ≡ k.Word b.now)
IsReadable (t.Number b) = value_from 0 b.now ≤ greatest
IsReadable (t.Text b) = IsUtf8 (meant (unquoted b.now))
IsReadable (t.Characters b) = IsUtf8 (meant b.now)
IsReadable _ = Unit {0}

-- the names from that index on, where it stands right after a `.` or `?.` or not
abbrev pub names_from : Bool → Lexed → ℕ → List Named
names_from dot c at = names_after dot c.text (drop at c.list)

abbrev pub named_from : Lexed → ℕ → List Named
named_from c at = names_from false c at

-- From the first index up to the other these are the names.
abbrev pub IsPlaced : List Named → Lexed → ℕ → ℕ → Type 0
IsPlaced names c at after = named_from c at ≡ names ++ named_from c after

-- the place of the first of these tokens; 0 where there is none
abbrev pub first_place : List Token → ℕ
first_place [] = 0
first_place (t ∷ ts) = t.from

abbrev pub place_at : Lexed → ℕ → ℕ
place_at c at = first_place (drop at c.list)
