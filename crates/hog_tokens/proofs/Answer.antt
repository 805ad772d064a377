-- What is due for a text.
use Rattle.std.proofs.Common.{◌≡◌, ℕ, List, length, Result, Err, refl, sym, ap, ◌∙◌, subst, ◌⊎◌, inl, inr}
use Rattle.std.specs.Str.{IsUtf8, IsValidUpTo}
use Rattle.std.proofs.lemmas.Str.{utf8_valid_len-IsValidUpTo}
use Rattle.std.proofs.Math.Seq.{take-length}
use Rattle.hog_grammar.specs.declared.token.Fault.{Fault}
use Rattle.hog_grammar.specs.declared.token.Fault.TheVariants as f
use Rattle.hog_grammar.specs.declared.token.Token.{Token}
use Rattle.hog_grammar.specs.Pieces.{IsTokensOf, Lexed}
use Rattle.hog_grammar.specs.Faults.{IsFirstFault}
use Rattle.hog_tokens.specs.declared.lexer.LexStop.{LexStop}
use Rattle.hog_tokens.specs.declared.lexer.LexStop.TheVariants as l
use Rattle.hog_tokens.specs.View.{stop_of, TellsFault, Refuses}
use Rattle.hog_tokens.proofs.TextLaws.{not_both, one_first}

-- bytes that are UTF-8 have no longest front that is and is shorter
pub no_valid : (text : List ℕ) (at : ℕ) → IsUtf8 text → IsValidUpTo text at → ⊥
no_valid text at utf8 v = v.longest (length text) v.short (subst IsUtf8 (sym (take-length text)) utf8)

pub one_valid : (text : List ℕ) (a b : ℕ) → IsValidUpTo text a → IsValidUpTo text b → a ≡ b
one_valid text a b x y = sym (utf8_valid_len-IsValidUpTo text a x) ∙ utf8_valid_len-IsValidUpTo text b y

-- a refusal where there are tokens
pub no_memory : (text : List ℕ) (list : List Token) (stop : LexStop) → TellsFault text stop → IsTokensOf text list → stop ≡ l.OutOfMemory
no_memory text list (l.BadByte at) h t = absurd (not_both text list f.BadByte at t h.stands)
no_memory text list (l.Unclosed at) h t = absurd (not_both text list f.Unclosed at t h.stands)
no_memory text list (l.TooLarge at) h t = absurd (not_both text list f.TooLarge at t h.stands)
no_memory text list (l.NotUtf8 at) h t = absurd h
no_memory text list l.OutOfMemory h t = refl

same_stop : (text : List ℕ) (f g : Fault) (at place : ℕ) → IsFirstFault text f at → IsFirstFault text g place → stop_of f at ≡ stop_of g place
same_stop text f g at place x y = let two = one_first text f g at place x y in ap (λ z. stop_of z at) two.0 ∙ ap (stop_of g) two.1

-- a refusal where there is a fault
pub that_fault : (text : List ℕ) (g : Fault) (place : ℕ) (stop : LexStop) → TellsFault text stop → IsFirstFault text g place → (stop ≡ stop_of g place) ⊎ (stop ≡ l.OutOfMemory)
that_fault text g place (l.BadByte at) h y = inl (same_stop text f.BadByte g at place h y)
that_fault text g place (l.Unclosed at) h y = inl (same_stop text f.Unclosed g at place h y)
that_fault text g place (l.TooLarge at) h y = inl (same_stop text f.TooLarge g at place h y)
that_fault text g place (l.NotUtf8 at) h y = absurd h
that_fault text g place l.OutOfMemory h y = inr refl

abbrev err : LexStop → Result Lexed LexStop
err stop = Err stop

pub same_err : (r : Result Lexed LexStop) (a b : LexStop) → r ≡ Err a → a ≡ b → r ≡ Err b
same_err r a b e f = e ∙ ap err f

pub refuses : (r : Result Lexed LexStop) (a b : LexStop) → r ≡ Err a → (a ≡ b) ⊎ (a ≡ l.OutOfMemory) → Refuses r b
refuses r a b e (inl f) = inl (same_err r a b e f)
refuses r a b e (inr f) = inr (same_err r a l.OutOfMemory e f)
