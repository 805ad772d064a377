-- From the clauses of the lexer and the parser to why a text is no program.
use Rattle.std.proofs.Common.{◌≡◌, ◌≢◌, ℕ, ◌+◌, ◌<◌, ◌≤◌, List, [], ◌∷◌, length, Result, Err, refl, sym, subst, arith}
use Rattle.std.specs.Str.{IsUtf8, IsValidUpTo}
use Rattle.hog_tree.specs.Plain.{Stms}
use Rattle.hog_tree.specs.declared.tree.Tree.{Tree}
use Rattle.hog_grammar.specs.declared.token.Fault.{Fault}
use Rattle.hog_grammar.specs.declared.token.Fault.TheVariants as fault
use Rattle.hog_grammar.specs.declared.token.Token.{Token}
use Rattle.hog_grammar.specs.Faults.{IsFirstFault}
use Rattle.hog_grammar.specs.Pieces.{IsTokensOf, AreInOrder, Lexed}
use Rattle.hog_grammar.specs.Spelling.{Spells}
use Rattle.hog_grammar.specs.Terminal.{terminals}
use Rattle.hog_tokens.specs.View.{stop_of}
use Rattle.hog_tokens.specs.declared.lexer.LexStop.{LexStop}
use Rattle.hog_tokens.specs.declared.lexer.LexStop.TheVariants as lex
use Rattle.hog_parser.specs.Before.{tokens_before}
use Rattle.hog_parser.specs.declared.parsing.ParseStop.{ParseStop}
use Rattle.hog_parser.specs.declared.parsing.ParseStop.TheVariants as parse
use Rattle.hog_program.specs.declared.stop.BuildStop.{BuildStop}
use Rattle.hog_program.specs.declared.stop.BuildStop.TheVariants as stop
use Rattle.hog_program.specs.Source.{longest, highest, IsNone}
use Rattle.hog_program.specs.Stops.{of_lex, of_parse}

abbrev pub unread : LexStop → Result Lexed LexStop
unread e = Err e

abbrev pub unparsed : ParseStop → Result Tree ParseStop
unparsed e = Err e

-- what the lexer refuses
pub lexer_refuses : (text : List ℕ) (e : LexStop) → length text ≤ longest
    → ((at : ℕ) → unread e ≡ unread (lex.NotUtf8 at) → ¬ (IsUtf8 text))
    → ((at : ℕ) → unread e ≡ unread (lex.NotUtf8 at) → IsValidUpTo text at)
    → ((f : Fault) (at : ℕ) → unread e ≡ unread (stop_of f at) → IsFirstFault text f at)
    → ((f : Fault) (at : ℕ) → unread e ≡ unread (stop_of f at) → IsUtf8 text)
    → (s : BuildStop) → s ≡ of_lex e → s ≢ stop.OutOfMemory → IsNone text s
lexer_refuses text (lex.NotUtf8 at) short wrong longest first utf8 s is other = subst (IsNone text) (sym is) (short, wrong at refl, longest at refl)
lexer_refuses text (lex.BadByte at) short wrong longest first utf8 s is other = subst (IsNone text) (sym is) (short, utf8 fault.BadByte at refl, first fault.BadByte at refl)
lexer_refuses text (lex.Unclosed at) short wrong longest first utf8 s is other = subst (IsNone text) (sym is) (short, utf8 fault.Unclosed at refl, first fault.Unclosed at refl)
lexer_refuses text (lex.TooLarge at) short wrong longest first utf8 s is other = subst (IsNone text) (sym is) (short, utf8 fault.TooLarge at refl, first fault.TooLarge at refl)
lexer_refuses text lex.OutOfMemory short wrong longest first utf8 s is other = absurd (other is)

-- what the parser refuses, of a text with these tokens
pub parser_refuses : (text : List ℕ) (list : List Token) (e : ParseStop) → length text ≤ longest → IsTokensOf text list
    → ((at : ℕ) → unparsed e ≡ unparsed (parse.Syntax at) → (tree : Stms) (height : ℕ) → Spells tree (terminals text list) height → ⊥)
    → ((at : ℕ) → unparsed e ≡ unparsed (parse.TooNested at) → (tree : Stms) (height : ℕ) → Spells tree (terminals text list) height → highest < height)
    → ((at : ℕ) → unparsed e ≡ unparsed (parse.TooNested at) → 40 ≤ tokens_before at list)
    → (s : BuildStop) → s ≡ of_parse e → s ≢ stop.OutOfMemory → IsNone text s
parser_refuses text list (parse.Syntax at) short cut none high after s is other = subst (IsNone text) (sym is) (short, record { list = list; cut = cut; none = none at refl })
parser_refuses text list (parse.TooNested at) short cut none high after s is other = subst (IsNone text) (sym is) (short, record { list = list; cut = cut; high = high at refl; after_forty = after at refl })
parser_refuses text list parse.OutOfMemory short cut none high after s is other = absurd (other is)

-- a text has a byte at least for each of its tokens
pub tokens_fit : (from end : ℕ) (ts : List Token) → AreInOrder from ts end → from + length ts ≤ end
tokens_fit from end [] h = omega (arith, h)
tokens_fit from end (t ∷ ts) h = omega (arith, h.0, h.1, tokens_fit t.to end ts h.2)

pub same_err : {T : Type 0} (r : Result T BuildStop) (x y : BuildStop) → r ≡ Err x → r ≡ Err y → x ≡ y
same_err r x y p q = cc
