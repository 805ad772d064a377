-- What reading tells of a piece: its kind, its first fault, and where it can stand.
use Rattle.std.proofs.Common.{◌≡◌, ℕ, zero, suc, List, [], ◌∷◌, Option, Some, None, cond, nat_lt, refl, sym, ap, ◌∙◌, subst}
use Rattle.hog_grammar.specs.declared.token.Fault.{Fault}
use Rattle.hog_grammar.specs.declared.token.Fault.TheVariants.{BadByte, TooLarge}
use Rattle.hog_grammar.specs.Bytes.{value_from, greatest}
use Rattle.hog_grammar.specs.Pieces.{OfText, OfTemplate, Piece, Blank, LineComment, BlockComment, Word, Number, Text, Mark, LongMark, OpenBrace, CloseBrace, TemplateStart, Characters, HoleStart, HoleEnd, TemplateEnd, Stray, Place, Code, Template, opened, InCode, Moves, kind_of}
use Rattle.hog_tokens.specs.declared.pieces.Kind.{Kind}
use Rattle.hog_tokens.specs.declared.pieces.Kind.TheVariants as k
use Rattle.hog_tokens.specs.declared.pieces.Spot.{Spot}
use Rattle.hog_tokens.specs.declared.pieces.Spot.TheVariants as s
use Rattle.hog_tokens.specs.Reading.{bad_byte, spot_of, moved, holes_of, outer, one_less}
use Rattle.hog_tokens.specs.View.{token_kind}
use Rattle.hog_tokens.proofs.Runs.{bad_from}

abbrev pub piece_kind : Piece → Kind
piece_kind (Blank c) = k.Gap
piece_kind (LineComment cs) = k.Gap
piece_kind (BlockComment cs) = k.Gap
piece_kind (Word c cs) = k.Word
piece_kind (Number c cs) = k.Number
piece_kind (Text us) = k.Text
piece_kind (Mark c) = k.Mark
piece_kind (LongMark c d) = k.Mark
piece_kind OpenBrace = k.OpenBrace
piece_kind CloseBrace = k.CloseBrace
piece_kind TemplateStart = k.TemplateStart
piece_kind (Characters us) = k.Characters
piece_kind HoleStart = k.HoleStart
piece_kind HoleEnd = k.HoleEnd
piece_kind TemplateEnd = k.TemplateEnd
piece_kind (Stray c) = k.Gap

pub same_kind : (p : Piece) → token_kind (piece_kind p) ≡ kind_of p
same_kind (Blank c) = refl
same_kind (LineComment cs) = refl
same_kind (BlockComment cs) = refl
same_kind (Word c cs) = refl
same_kind (Number c cs) = refl
same_kind (Text us) = refl
same_kind (Mark c) = refl
same_kind (LongMark c d) = refl
same_kind OpenBrace = refl
same_kind CloseBrace = refl
same_kind TemplateStart = refl
same_kind (Characters us) = refl
same_kind HoleStart = refl
same_kind HoleEnd = refl
same_kind TemplateEnd = refl
same_kind (Stray c) = refl

abbrev pub first_fault : Piece → Option (Fault × ℕ)
first_fault (Number c cs) = cond (nat_lt greatest (value_from 0 (c ∷ cs))) (Some (TooLarge, 0)) None
first_fault (Text us) = bad_byte (bad_from OfText 1 us)
first_fault (Characters us) = bad_byte (bad_from OfTemplate 0 us)
first_fault (Stray c) = Some (BadByte, 0)
first_fault _ = None

-- spots in code; those in no hole that `}` ends; the others
abbrev pub CodeSpot : Spot → Type 0
CodeSpot s.Code = Unit {0}
CodeSpot s.Hole = Unit {0}
CodeSpot s.Template = ⊥

abbrev pub PlainSpot : Spot → Type 0
PlainSpot s.Code = Unit {0}
PlainSpot s.Hole = ⊥
PlainSpot s.Template = ⊥

abbrev pub HoleSpot : Spot → Type 0
HoleSpot s.Code = ⊥
HoleSpot s.Hole = Unit {0}
HoleSpot s.Template = ⊥

abbrev pub TemplateSpot : Spot → Type 0
TemplateSpot s.Code = ⊥
TemplateSpot s.Hole = ⊥
TemplateSpot s.Template = Unit {0}

-- the spots where a piece of that kind can stand
abbrev pub Fits : Kind → Spot → Type 0
Fits k.Gap = CodeSpot
Fits k.Word = CodeSpot
Fits k.Number = CodeSpot
Fits k.Text = CodeSpot
Fits k.Mark = CodeSpot
Fits k.OpenBrace = CodeSpot
Fits k.TemplateStart = CodeSpot
Fits k.CloseBrace = PlainSpot
Fits k.HoleEnd = HoleSpot
Fits k.Characters = TemplateSpot
Fits k.HoleStart = TemplateSpot
Fits k.TemplateEnd = TemplateSpot

pub record Goes (kind : Kind) (place next : Place) : Type 0 where
  pub fits : Fits kind (spot_of place)
  pub to : next ≡ moved kind place

code_fits : (holes : List ℕ) → CodeSpot (spot_of (Code holes))
code_fits [] = tt
code_fits (zero ∷ holes) = tt
code_fits (suc n ∷ holes) = tt

open_fits : (holes : List ℕ) → PlainSpot (spot_of (Code (opened holes)))
open_fits [] = tt
open_fits (n ∷ holes) = tt

less_opened : (holes : List ℕ) → one_less (opened holes) ≡ holes
less_opened [] = refl
less_opened (n ∷ holes) = refl

code_goes : (kind : Kind) (place next : Place) → Fits kind ≡ CodeSpot → ((holes : List ℕ) → moved kind (Code holes) ≡ Code holes) → InCode place next → Goes kind place next
code_goes kind place next is stays m = record {
  fits = subst (λ (P : Spot → Type 0). P (spot_of place)) (sym is) (subst (λ (q : Place). CodeSpot (spot_of q)) (sym m.1) (code_fits m.0));
  to = m.2 ∙ sym (stays m.0) ∙ ap (moved kind) (sym m.1);
}

goes : (kind : Kind) (place from next to : Place) → place ≡ from → next ≡ to → Fits kind (spot_of from) → to ≡ moved kind from → Goes kind place next
goes kind place from next to a b fits is = record { fits = subst (λ (q : Place). Fits kind (spot_of q)) (sym a) fits; to = b ∙ is ∙ ap (moved kind) (sym a) }

pub moves_goes : (p : Piece) (place next : Place) → Moves p place next → Goes (piece_kind p) place next
moves_goes (Blank c) place next m = code_goes k.Gap place next refl (λ _. refl) m
moves_goes (LineComment cs) place next m = code_goes k.Gap place next refl (λ _. refl) m
moves_goes (BlockComment cs) place next m = code_goes k.Gap place next refl (λ _. refl) m
moves_goes (Word c cs) place next m = code_goes k.Word place next refl (λ _. refl) m
moves_goes (Number c cs) place next m = code_goes k.Number place next refl (λ _. refl) m
moves_goes (Text us) place next m = code_goes k.Text place next refl (λ _. refl) m
moves_goes (Mark c) place next m = code_goes k.Mark place next refl (λ _. refl) m
moves_goes (LongMark c d) place next m = code_goes k.Mark place next refl (λ _. refl) m
moves_goes OpenBrace place next m = goes k.OpenBrace place (Code m.0) next (Code (opened m.0)) m.1 m.2 (code_fits m.0) refl
moves_goes CloseBrace place next m = goes k.CloseBrace place (Code (opened m.0)) next (Code m.0) m.1 m.2 (open_fits m.0) (ap (λ z. Code z) (sym (less_opened m.0)))
moves_goes TemplateStart place next m = goes k.TemplateStart place (Code m.0) next (Template m.0) m.1 m.2 (code_fits m.0) refl
moves_goes (Characters us) place next m = goes k.Characters place (Template m.0) next (Template m.0) m.1 m.2 tt refl
moves_goes HoleStart place next m = goes k.HoleStart place (Template m.0) next (Code (0 ∷ m.0)) m.1 m.2 tt refl
moves_goes HoleEnd place next m = goes k.HoleEnd place (Code (0 ∷ m.0)) next (Template m.0) m.1 m.2 tt refl
moves_goes TemplateEnd place next m = goes k.TemplateEnd place (Template m.0) next (Code m.0) m.1 m.2 tt refl
moves_goes (Stray c) place next m = code_goes k.Gap place next refl (λ _. refl) m

code_is : (place : Place) → CodeSpot (spot_of place) → place ≡ Code (holes_of place)
code_is (Code holes) f = refl
code_is (Template holes) f = absurd f

plain_is : (place : Place) → PlainSpot (spot_of place) → place ≡ Code (opened (one_less (holes_of place)))
plain_is (Code []) f = refl
plain_is (Code (zero ∷ holes)) f = absurd f
plain_is (Code (suc n ∷ holes)) f = refl
plain_is (Template holes) f = absurd f

hole_is : (place : Place) → HoleSpot (spot_of place) → place ≡ Code (0 ∷ outer (holes_of place))
hole_is (Code []) f = absurd f
hole_is (Code (zero ∷ holes)) f = refl
hole_is (Code (suc n ∷ holes)) f = absurd f
hole_is (Template holes) f = absurd f

template_is : (place : Place) → TemplateSpot (spot_of place) → place ≡ Template (holes_of place)
template_is (Code []) f = absurd f
template_is (Code (zero ∷ holes)) f = absurd f
template_is (Code (suc n ∷ holes)) f = absurd f
template_is (Template holes) f = refl

in_code : (place : Place) → CodeSpot (spot_of place) → InCode place place
in_code place f = (holes_of place, code_is place f, code_is place f)

pub fits_moves : (p : Piece) (place : Place) → Fits (piece_kind p) (spot_of place) → Moves p place (moved (piece_kind p) place)
fits_moves (Blank c) place f = in_code place f
fits_moves (LineComment cs) place f = in_code place f
fits_moves (BlockComment cs) place f = in_code place f
fits_moves (Word c cs) place f = in_code place f
fits_moves (Number c cs) place f = in_code place f
fits_moves (Text us) place f = in_code place f
fits_moves (Mark c) place f = in_code place f
fits_moves (LongMark c d) place f = in_code place f
fits_moves OpenBrace place f = (holes_of place, code_is place f, refl)
fits_moves CloseBrace place f = (one_less (holes_of place), plain_is place f, refl)
fits_moves TemplateStart place f = (holes_of place, code_is place f, refl)
fits_moves (Characters us) place f = (holes_of place, template_is place f, template_is place f)
fits_moves HoleStart place f = (holes_of place, template_is place f, refl)
fits_moves HoleEnd place f = (outer (holes_of place), hole_is place f, refl)
fits_moves TemplateEnd place f = (holes_of place, template_is place f, refl)
fits_moves (Stray c) place f = in_code place f
