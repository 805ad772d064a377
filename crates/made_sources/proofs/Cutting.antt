-- The tokens of a text without templates, by computing.
use Rattle.std.proofs.Common.{◌≡◌, ℕ, zero, suc, ◌-◌, List, [], ◌∷◌, ◌++◌, length, Option, Some, None, refl, subst}
use Rattle.std.specs.Str.{IsUtf8}
use Rattle.hog_grammar.specs.declared.token.Fault.{Fault}
use Rattle.hog_grammar.specs.declared.token.Token.{Token}
use Rattle.hog_grammar.specs.Pieces.{Place, Code, Template, with_token, IsTokensOf}
use Rattle.hog_tokens.specs.declared.pieces.Spot.TheVariants as s
use Rattle.hog_tokens.specs.Reading.{Begun, begin, moved, first_found, shifted}
use Rattle.hog_tokens.specs.View.{token_kind}
use Rattle.hog_tokens.proofs.Cutting.{IsRead, nothing_read, piece_more, all_read}

-- what goes on with what is left of a text, after these tokens
abbrev GoOn : Type 0
GoOn = List ℕ → List Token → Option (List Token)

-- after a piece, with its fault and the place after it
abbrev past_piece : GoOn → List ℕ → List Token → Option (Fault × ℕ) → Place → Option (List Token)
past_piece go_on rest list None (Code []) = go_on rest list
past_piece go_on rest list None (Code (n ∷ holes)) = None
past_piece go_on rest list None (Template holes) = None
past_piece go_on rest list (Some f) place = None

-- with the piece that what is left begins with
abbrev with_piece : GoOn → ℕ → List ℕ → List Token → Option Begun → Option (List Token)
with_piece go_on size rest list None = None
with_piece go_on size rest list (Some b) =
    past_piece go_on b.rest (list ++ with_token (token_kind b.kind) (size - length rest) (size - length b.rest) []) b.fault (moved b.kind (Code []))

-- The tokens of a text of that size, of which this is left after these tokens. There are none where a piece has a fault
-- or is a template's, and where there are more pieces than `most`.
abbrev tokens_on : ℕ → ℕ → GoOn
tokens_on most size [] list = Some list
tokens_on zero size (c ∷ cs) list = None
tokens_on (suc most) size (c ∷ cs) list = with_piece (tokens_on most size) size (c ∷ cs) list (begin s.Code (c ∷ cs))

-- the tokens of a text, if it has no templates and no faults
abbrev pub tokens_of : List ℕ → Option (List Token)
tokens_of text = tokens_on (length text) (length text) text []

same_list : (a b : List Token) → Some a ≡ Some b → a ≡ b
same_list a b is = cc

-- what comes of going on are the tokens of the text
abbrev Tells : List ℕ → GoOn → Type 0
Tells text go_on = (rest : List ℕ) (start : ℕ) (list out : List Token) → IsRead text (Code []) rest start None list → go_on rest list ≡ Some out → IsTokensOf text out

past_tells : (text : List ℕ) (go_on : GoOn) (rest : List ℕ) (from start : ℕ) (list out : List Token) → Tells text go_on
    → (fault : Option (Fault × ℕ)) (place : Place) → IsRead text place rest start (first_found None (shifted from fault)) list
    → past_piece go_on rest list fault place ≡ Some out → IsTokensOf text out
past_tells text go_on rest from start list out tells None (Code []) read is = tells rest start list out read is
past_tells text go_on rest from start list out tells None (Code (n ∷ holes)) read is = absurd (cc)
past_tells text go_on rest from start list out tells None (Template holes) read is = absurd (cc)
past_tells text go_on rest from start list out tells (Some f) place read is = absurd (cc)

piece_tells : (text : List ℕ) (go_on : GoOn) (rest : List ℕ) (start : ℕ) (list out : List Token) → Tells text go_on
    → IsRead text (Code []) rest start None list → (found : Option Begun) → begin s.Code rest ≡ found
    → with_piece go_on (length text) rest list found ≡ Some out → IsTokensOf text out
piece_tells text go_on rest start list out tells read None begins is = absurd (cc)
piece_tells text go_on rest start list out tells read (Some b) begins is =
    let from = length text - length rest in
    past_tells text go_on b.rest from from _ out tells b.fault (moved b.kind (Code []))
    (piece_more text (Code []) rest start from None list b from (length text - length b.rest) read begins (λ _. refl) refl refl refl) is

tokens_tell : (text : List ℕ) → IsUtf8 text → (most : ℕ) → Tells text (tokens_on most (length text))
tokens_tell text utf8 most [] start list out read is = subst (IsTokensOf text) (same_list list out is) (all_read text (Code []) [] start list utf8 read refl refl)
tokens_tell text utf8 zero (c ∷ cs) start list out read is = absurd (cc)
tokens_tell text utf8 (suc most) (c ∷ cs) start list out read is =
    piece_tells text (tokens_on most (length text)) (c ∷ cs) start list out (tokens_tell text utf8 most) read (begin s.Code (c ∷ cs)) refl is

pub tokens_are : (text : List ℕ) (list : List Token) → IsUtf8 text → tokens_of text ≡ Some list → IsTokensOf text list
tokens_are text list utf8 is = tokens_tell text utf8 (length text) text 0 [] list (nothing_read text 0) is
