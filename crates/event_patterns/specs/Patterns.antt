-- Patterns: which texts are patterns, which are none, and which texts a pattern matches.
use Rattle.std.specs.Prelude.{ℕ, ◌≡◌, ◌≢◌, ◌⊎◌, ◌==◌, ◌≤◌, List, Option, Some, None, Bool, false, IsTrue, IsSomeAnd, is_some, chars}
use Rattle.std.specs.List.{list_any}
use Rattle.regex.specs.Strings.{regex_source, regex_config, IsReadFromSource}
use Rattle.regex.specs.declared.string.regex.Regex.{Regex}
use Rattle.regex_hir.specs.Re.{Re}
use Rattle.regex_hir.specs.Find.{find_str}
use Rattle.regex_syntax.specs.Brackets.{Nested}
use Rattle.regex_syntax.specs.Grammar.{Names, read}
use Rattle.regex_syntax.specs.Verdict.{Refuses, default_config}
use Rattle.regex_syntax.specs.declared.error.ErrorKind.{ErrorKind}
use Rattle.regex_syntax.specs.declared.error.ErrorKind.TheVariants.{OutOfMemory}

-- some byte of the text is an open brace
abbrev pub HasBrace : List ℕ → Type 0
HasBrace text = IsTrue (list_any (λ b. b == 123) text)

-- the expression that the grammar of regex reads from a text, with how deep it nests, and the names of its groups
abbrev pub read_of : List ℕ → Option (Nested Re × Names)
read_of text = read default_config (chars text)

-- the text has no open brace, and the grammar of regex reads an expression from it that nests no deeper than regex allows
pub record IsPattern (text : List ℕ) : Type 0 where
  pub plain : ¬ (HasBrace text)
  pub reads : IsSomeAnd (read_of text) (λ (expression, names). expression.depth ≤ default_config.nest_limit)

-- the grammar of regex reads no expression from the text, or one that nests deeper than regex allows
abbrev pub GrammarRefuses : List ℕ → Type 0
GrammarRefuses text = (kind : ErrorKind) × Refuses default_config text kind × (kind ≢ OutOfMemory)

-- the text is no pattern
abbrev pub IsRefused : List ℕ → Type 0
IsRefused text = HasBrace text ⊎ GrammarRefuses text

abbrev pub matches_of : Option (Nested Re × Names) → List ℕ → Bool
matches_of None text = false
matches_of (Some (expression, names)) text = is_some (find_str expression.value text 0)

-- the expression that is read from the pattern has a match in the text that begins at a character, as regex defines a match
abbrev pub matches : (pattern text : List ℕ) → Bool
matches pattern text = matches_of (read_of pattern) text

-- what regex has built of a pattern
pub record IsBuilt (regex : Regex) : Type 0 where
  pub plain : ¬ (HasBrace (regex_source regex))
  pub config : regex_config regex ≡ default_config
  pub read : IsReadFromSource regex
