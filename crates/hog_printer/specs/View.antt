-- What contracts see of the printer's own types, and what its functions do to a text.
use Rattle.std.specs.Prelude.{◌≡◌, ◌++◌, ℕ, List, String, string_bytes}
use Rattle.std.specs.declared.alloc.Global.{Global}
use Rattle.hog_grammar.specs.Pieces as p
use Rattle.hog_printer.specs.declared.quotes.Quotes.{Quotes}
use Rattle.hog_printer.specs.declared.quotes.Quotes.TheVariants.{Text, Template}

abbrev pub quotes_of : Quotes → p.Quotes
quotes_of Text = p.OfText
quotes_of Template = p.OfTemplate

-- the new text is the old one and then these bytes
abbrev pub AddsText : String Global → String Global → List ℕ → Type 0
AddsText old new bytes = string_bytes new ≡ string_bytes old ++ bytes
