-- What contracts see of bytes and pieces.
use Rattle.std.specs.Prelude.{◌≡◌, ℕ, List, Option, Some, None, Bool, true, false, Result, Err, MatchResult, ◌⊎◌}
use Rattle.hog_grammar.specs.Bytes as c
use Rattle.hog_grammar.specs.Pieces as p
use Rattle.hog_grammar.specs.Faults.{IsFirstFault}
use Rattle.hog_grammar.specs.declared.token.Fault.{Fault}
use Rattle.hog_grammar.specs.declared.token.Fault.TheVariants as f
use Rattle.hog_grammar.specs.Pieces.{Lexed}
use Rattle.hog_grammar.specs.declared.token.Token.{Token}
use Rattle.hog_grammar.specs.declared.token.TokenKind.{TokenKind}
use Rattle.hog_grammar.specs.declared.token.TokenKind.TheVariants as t
use Rattle.hog_tokens.specs.declared.bytes.Class.{Class}
use Rattle.hog_tokens.specs.declared.bytes.Class.TheVariants.{Space, LineFeed, Letter, Digit, Quote, Slash, OpensBrace, ClosesBrace, Sign, Half, Other}
use Rattle.hog_tokens.specs.declared.bytes.Quotes.{Quotes}
use Rattle.hog_tokens.specs.declared.bytes.Quotes.TheVariants.{OfText, OfTemplate}
use Rattle.hog_tokens.specs.declared.lexer.LexStop.{LexStop}
use Rattle.hog_tokens.specs.declared.lexer.LexStop.TheVariants as l
use Rattle.hog_tokens.specs.declared.pieces.Kind.{Kind}
use Rattle.hog_tokens.specs.declared.pieces.Kind.TheVariants as k
use Rattle.hog_tokens.specs.declared.pieces.Run as r
use Rattle.hog_tokens.specs.declared.pieces.Begun as b
use Rattle.hog_tokens.specs.Reading.{Run, Begun, run_from, escape_from}

abbrev pub class_of : Class → c.Class
class_of Space = c.Space
class_of LineFeed = c.LineFeed
class_of Letter = c.Letter
class_of Digit = c.Digit
class_of Quote = c.Quote
class_of Slash = c.Slash
class_of OpensBrace = c.OpensBrace
class_of ClosesBrace = c.ClosesBrace
class_of Sign = c.Sign
class_of Half = c.Half
class_of Other = c.Other

abbrev pub quotes_of : Quotes → p.Quotes
quotes_of OfText = p.OfText
quotes_of OfTemplate = p.OfTemplate

abbrev pub run_of : r.Run → Run
run_of x = record { rest = x.rest.now; bad = x.bad }

abbrev pub begun_of : b.Begun → Begun
begun_of x = record { kind = x.kind; rest = x.rest.now; fault = x.fault }

-- reading on, after a backslash or not
abbrev pub run_by : Bool → p.Quotes → ℕ → Option ℕ → List ℕ → Option Run
run_by false = run_from
run_by true = escape_from

-- the kind of token that such a piece is
abbrev pub token_kind : Kind → Option TokenKind
token_kind k.Gap = None
token_kind k.Word = Some t.Word
token_kind k.Number = Some t.Number
token_kind k.Text = Some t.Text
token_kind k.Mark = Some t.Mark
token_kind k.OpenBrace = Some t.Mark
token_kind k.CloseBrace = Some t.Mark
token_kind k.TemplateStart = Some t.TemplateStart
token_kind k.Characters = Some t.TemplateText
token_kind k.HoleStart = Some t.HoleStart
token_kind k.HoleEnd = Some t.HoleEnd
token_kind k.TemplateEnd = Some t.TemplateEnd

-- the refusal for a fault at a place
abbrev pub stop_of : Fault → ℕ → LexStop
stop_of f.BadByte at = l.BadByte at
stop_of f.Unclosed at = l.Unclosed at
stop_of f.TooLarge at = l.TooLarge at

-- A refusal that came from cutting tells the first fault.
abbrev pub TellsFault : List ℕ → LexStop → Type 0
TellsFault text (l.BadByte at) = IsFirstFault text f.BadByte at
TellsFault text (l.Unclosed at) = IsFirstFault text f.Unclosed at
TellsFault text (l.TooLarge at) = IsFirstFault text f.TooLarge at
TellsFault text (l.NotUtf8 at) = ⊥
TellsFault text l.OutOfMemory = Unit {0}

-- The answer is that refusal, unless memory ran out.
abbrev pub Refuses : Result Lexed LexStop → LexStop → Type 0
Refuses answer stop = (answer ≡ Err stop) ⊎ (answer ≡ Err l.OutOfMemory)

-- The answer is a text with that list, unless memory ran out.
abbrev pub Reads : Result Lexed LexStop → List Token → Type 0
Reads answer list = MatchResult answer (λ t. t.list ≡ list) (λ e. e ≡ l.OutOfMemory)
