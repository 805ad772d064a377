-- At most one list, at most one first fault, and one or the other.
use Rattle.std.proofs.Common.{◌≡◌, ℕ, zero, suc, ◌+◌, ◌-◌, ◌<◌, ◌≤◌, Bool, true, false, List, [], ◌∷◌, ◌++◌, length, Option, Some, None, refl, sym, ap, ◌∙◌, arith, length-append, ◌⊎◌, inl, inr}
use Rattle.std.specs.Str.{IsUtf8}
use Rattle.hog_grammar.specs.declared.token.Fault.{Fault}
use Rattle.hog_grammar.specs.declared.token.Fault.TheVariants.{BadByte, Unclosed, TooLarge}
use Rattle.hog_grammar.specs.declared.token.Token.{Token}
use Rattle.hog_grammar.specs.Pieces.{Piece, Blank, LineComment, BlockComment, Word, Number, Text, Mark, LongMark, OpenBrace, CloseBrace, TemplateStart, Characters, HoleStart, HoleEnd, TemplateEnd, Stray, spelled, Place, Code, Template, Moves, Passes, kind_of, with_token, tokens_at, IsTokensOf}
use Rattle.hog_grammar.specs.Faults.{Holds, size_of, IsOpen, IsBadPlace, IsFirstFault}
use Rattle.hog_grammar.specs.Laws.{OneList, TokensOrFault, NotBoth, OneFirstFault}
use Rattle.hog_grammar.proofs.Sizes.{piece_some, passes_length, size-append}
use Rattle.hog_tokens.specs.declared.pieces.Kind.{Kind}
use Rattle.hog_tokens.specs.declared.pieces.Kind.TheVariants as k
use Rattle.hog_tokens.specs.Reading.{Begun, begin, spot_of, moved, is_outside}
use Rattle.hog_tokens.specs.View.{token_kind}
use Rattle.hog_tokens.proofs.PieceKinds.{piece_kind, same_kind}
use Rattle.hog_tokens.proofs.PieceFaults.{fault_within}
use Rattle.hog_tokens.proofs.Texts.{first_at, one_piece, moved_on, fault_after, open_after, good_found}
use Rattle.hog_tokens.proofs.Cutting.{IsRead, nothing_read, piece_more, all_read, first_is, open_is, past_good, Chosen, chosen_outside, chosen_inside}
use Rattle.hog_tokens.proofs.Bounds.{shorter}

-- one list

same_tokens : (ps qs : List Piece) (a b : Place) (text : List ℕ) (n m : ℕ) → n ≡ m → Passes ps a text b [] → Passes qs a text b [] → tokens_at n ps ≡ tokens_at m qs
same_tokens [] [] a b text n m e x y = refl
same_tokens [] (q ∷ qs) a b text n m e x y = absurd (omega (arith, ap length x.1, ap length y.bytes, length-append (spelled q) y.more, piece_some q y.more y.piece))
same_tokens (p ∷ ps) [] a b text n m e x y = absurd (omega (arith, ap length y.1, ap length x.bytes, length-append (spelled p) x.more, piece_some p x.more x.piece))
same_tokens (p ∷ ps) (q ∷ qs) a b text n m e x y =
    let same = one_piece p q _ _ a text x y in
    let size : length (spelled p) ≡ length (spelled q) = same.size in
    let end : n + length (spelled p) ≡ m + length (spelled q) = omega (arith, e, size) in
    let kind : kind_of p ≡ kind_of q = sym (same_kind p) ∙ ap token_kind same.kind ∙ same_kind q in
    let on = same_tokens ps qs x.next b x.more (n + length (spelled p)) (m + length (spelled q)) end x.others (moved_on qs x.next y.next b x.more y.more [] same.next same.more y.others) in
    ap (λ z. with_token z n (n + length (spelled p)) (tokens_at (n + length (spelled p)) ps)) kind ∙ ap (λ z. with_token (kind_of q) z (n + length (spelled p)) (tokens_at (n + length (spelled p)) ps)) e
    ∙ ap (λ z. with_token (kind_of q) m z (tokens_at (n + length (spelled p)) ps)) end ∙ ap (with_token (kind_of q) m (m + length (spelled q))) on

pub one_list : OneList
one_list text a b x y = x.tokens ∙ same_tokens x.pieces y.pieces (Code []) (Code []) text 0 0 refl x.cut y.cut ∙ sym y.tokens

-- no bad place beside tokens

open_some : (rest : List ℕ) → IsOpen rest → 0 < length rest
open_some rest o = elim o.opens [ inl h ↦ omega (arith, ap length h) | inr h ↦ elim h [ inl g ↦ omega (arith, ap length g) | inr g ↦ omega (arith, ap length g) ] ]

pub not_both : NotBoth
not_both text list f at t (inl z) =
    let size = passes_length t.pieces (Code []) (Code []) text [] t.cut in
    let other = passes_length (z.pieces ++ z.last ∷ []) (Code []) z.to text z.rest z.passes in
    elim (fault_after t.pieces z.pieces z.last (Code []) (Code []) z.to text [] z.rest 0 f z.offset t.cut z.passes z.holds) [
      | inl h ↦ past_good (first_at 0 t.pieces) (0 + (size_of z.pieces + z.offset)) (good_found 0 t.pieces t.good) h
      | inr h ↦ omega (arith, h, size, other, size-append z.pieces (z.last ∷ []), fault_within z.last f z.offset z.holds)
    ]
not_both text list f at t (inr z) =
    let size = passes_length t.pieces (Code []) (Code []) text [] t.cut in
    let other = passes_length z.pieces (Code []) (Code []) text z.rest z.passes in
    omega (arith, size, other, open_after t.pieces z.pieces (Code []) text [] z.rest t.cut z.passes z.is_open.open_still, open_some z.rest z.is_open)

-- one first fault

abbrev fault_by : Kind → Fault
fault_by k.Number = TooLarge
fault_by _ = BadByte

-- a piece holds one sort of fault
holds_by : (p : Piece) (f : Fault) (n : ℕ) → Holds p f n → f ≡ fault_by (piece_kind p)
holds_by (Number c cs) f n h = h.0
holds_by (Text us) f n h = h.1
holds_by (Characters us) f n h = h.0
holds_by (Stray c) f n h = h.0
holds_by (Blank c) f n h = absurd h
holds_by (LineComment cs) f n h = absurd h
holds_by (BlockComment cs) f n h = absurd h
holds_by (Word c cs) f n h = absurd h
holds_by (Mark c) f n h = absurd h
holds_by (LongMark c d) f n h = absurd h
holds_by OpenBrace f n h = absurd h
holds_by CloseBrace f n h = absurd h
holds_by TemplateStart f n h = absurd h
holds_by HoleStart f n h = absurd h
holds_by HoleEnd f n h = absurd h
holds_by TemplateEnd f n h = absurd h

same_fault : (qs rs : List Piece) (p q : Piece) (a b c : Place) (text rest other : List ℕ) (f g : Fault) (n m : ℕ) → Passes (qs ++ p ∷ []) a text b rest → Passes (rs ++ q ∷ []) a text c other → Holds p f n → Holds q g m → size_of qs + n ≡ size_of rs + m → f ≡ g
same_fault [] [] p q a b c text rest other f g n m x y h i e = let same = one_piece p q _ _ a text x y in holds_by p f n h ∙ ap fault_by same.kind ∙ sym (holds_by q g m i)
same_fault [] (r ∷ rs) p q a b c text rest other f g n m x y h i e =
    let same = one_piece p r _ _ a text x y in
    let size : length (spelled p) ≡ length (spelled r) = same.size in
    absurd (omega (arith, e, size, fault_within p f n h))
same_fault (r ∷ qs) [] p q a b c text rest other f g n m x y h i e =
    let same = one_piece r q _ _ a text x y in
    let size : length (spelled r) ≡ length (spelled q) = same.size in
    absurd (omega (arith, e, size, fault_within q g m i))
same_fault (r ∷ qs) (s ∷ rs) p q a b c text rest other f g n m x y h i e =
    let same = one_piece r s _ _ a text x y in
    let size : length (spelled r) ≡ length (spelled s) = same.size in
    same_fault qs rs p q x.next b c x.more rest other f g n m x.others (moved_on (rs ++ q ∷ []) x.next y.next c x.more y.more other same.next same.more y.others) h i (omega (arith, e, size))

-- a piece whose first byte is a fault leads from outside of templates to there
leads_out : (p : Piece) (f : Fault) (n : ℕ) (from to : Place) → n ≡ 0 → Holds p f n → from ≡ Code [] → Moves p from to → to ≡ Code []
leads_out (Number c cs) f n from to z h e m = m.2 ∙ sym m.1 ∙ e
leads_out (Stray c) f n from to z h e m = m.2 ∙ sym m.1 ∙ e
leads_out (Text us) f n from to z h e m = absurd (omega (arith, z, h.2))
leads_out (Characters us) f n from to z h e m = let x : Code [] ≡ Template m.0 = sym e ∙ m.1 in absurd (cc)
leads_out (Blank c) f n from to z h e m = absurd h
leads_out (LineComment cs) f n from to z h e m = absurd h
leads_out (BlockComment cs) f n from to z h e m = absurd h
leads_out (Word c cs) f n from to z h e m = absurd h
leads_out (Mark c) f n from to z h e m = absurd h
leads_out (LongMark c d) f n from to z h e m = absurd h
leads_out OpenBrace f n from to z h e m = absurd h
leads_out CloseBrace f n from to z h e m = absurd h
leads_out TemplateStart f n from to z h e m = absurd h
leads_out HoleStart f n from to z h e m = absurd h
leads_out HoleEnd f n from to z h e m = absurd h
leads_out TemplateEnd f n from to z h e m = absurd h

-- what is open begins with no fault of a piece
not_open : (qs rs : List Piece) (p : Piece) (a b : Place) (text rest other : List ℕ) (f : Fault) (n : ℕ) → Passes (qs ++ p ∷ []) a text b rest → Passes rs a text (Code []) other → IsOpen other → Holds p f n → size_of qs + n ≡ size_of rs → ⊥
not_open [] [] p a b text rest other f n x y o h e =
    let to : x.next ≡ Code [] = leads_out p f n a x.next (omega (arith, e)) h y.0 x.moves in
    let out : Passes (p ∷ []) a text (Code []) x.more = record { next = x.next; more = x.more; bytes = x.bytes; piece = x.piece; moves = x.moves; others = (to, refl) } in
    o.open_still p [] x.more (moved_on (p ∷ []) (Code []) a (Code []) other text x.more (sym y.0) (sym y.1) out)
not_open [] (r ∷ rs) p a b text rest other f n x y o h e =
    let same = one_piece p r _ _ a text x y in
    let size : length (spelled p) ≡ length (spelled r) = same.size in
    omega (arith, e, size, fault_within p f n h)
not_open (r ∷ qs) [] p a b text rest other f n x y o h e = omega (arith, e, piece_some r x.more x.piece)
not_open (r ∷ qs) (s ∷ rs) p a b text rest other f n x y o h e =
    let same = one_piece r s _ _ a text x y in
    let size : length (spelled r) ≡ length (spelled s) = same.size in
    not_open qs rs p x.next b x.more rest other f n x.others (moved_on rs x.next y.next (Code []) x.more y.more other same.next same.more y.others) o h (omega (arith, e, size))

one_at : (text : List ℕ) (f g : Fault) (at place : ℕ) → at ≡ place → IsBadPlace text f at → IsBadPlace text g place → f ≡ g
one_at text f g at place e (inl x) (inl y) = same_fault x.pieces y.pieces x.last y.last (Code []) x.to y.to text x.rest y.rest f g x.offset y.offset x.passes y.passes x.holds y.holds (omega (arith, e, x.place, y.place))
one_at text f g at place e (inl x) (inr y) = absurd (not_open x.pieces y.pieces x.last (Code []) x.to text x.rest y.rest f x.offset x.passes y.passes y.is_open x.holds (omega (arith, e, x.place, y.place)))
one_at text f g at place e (inr x) (inl y) = absurd (not_open y.pieces x.pieces y.last (Code []) y.to text y.rest x.rest g y.offset y.passes x.passes x.is_open y.holds (omega (arith, e, x.place, y.place)))
one_at text f g at place e (inr x) (inr y) = x.fault ∙ sym y.fault

pub one_first : OneFirstFault
one_first text f g at place x y =
    let e : at ≡ place = omega (arith, x.least g place y.stands, y.least f at x.stands) in
    (one_at text f g at place e x.stands y.stands, e)

-- tokens or a first fault

abbrev Answer : List ℕ → Type 0
Answer text = ((list : List Token) × IsTokensOf text list) ⊎ ((f : Fault) × (at : ℕ) × IsFirstFault text f at)

abbrev Further : List ℕ → Place → List ℕ → ℕ → Option (Fault × ℕ) → Type 0
Further text place rest start found = (then_start : ℕ) (b : Begun) → begin (spot_of place) rest ≡ Some b → Chosen text place rest start then_start found → Answer text

-- a piece, or the end of what has none
next_piece : (text : List ℕ) (place : Place) (rest : List ℕ) (start then_start : ℕ) (found : Option (Fault × ℕ)) (list : List Token) (b : Option Begun) → IsRead text place rest start found list → Chosen text place rest start then_start found
    → begin (spot_of place) rest ≡ b → Further text place rest start found → Answer text
next_piece text place rest start then_start found list None r x e on = inr (Unclosed, then_start, open_is text place rest start then_start found list (is_outside place) r e refl x.clean x.some x.at)
next_piece text place rest start then_start found list (Some b) r x e on = on then_start b e x

decide : (text : List ℕ) (place : Place) (rest : List ℕ) (start : ℕ) (found : Option (Fault × ℕ)) (list : List Token) (outside : Bool) → is_outside place ≡ outside → IsUtf8 text → IsRead text place rest start found list
    → Further text place rest start found → Answer text
decide text place rest start (Some x) list true is utf8 r on = inr (x.0, x.1, first_is text place rest start x.0 x.1 list r is)
decide text place [] start None list true is utf8 r on = inl (list, all_read text place [] start list utf8 r is refl)
decide text place (c ∷ rest) start None list true is utf8 r on =
    next_piece text place (c ∷ rest) start (length text - length (c ∷ rest)) None list (begin (spot_of place) (c ∷ rest)) r (chosen_outside text place (c ∷ rest) start _ None is refl (omega arith) refl) refl on
decide text place rest start found list false is utf8 r on = next_piece text place rest start start found list (begin (spot_of place) rest) r (chosen_inside text place rest start start found is refl) refl on

answers : (n : ℕ) (text : List ℕ) (place : Place) (rest : List ℕ) (start : ℕ) (found : Option (Fault × ℕ)) (list : List Token) → length rest ≤ n → IsUtf8 text → IsRead text place rest start found list → Answer text
answers zero text place rest start found list le utf8 r = decide text place rest start found list (is_outside place) refl utf8 r (λ then_start b e x. absurd (omega (arith, le, shorter place rest b e)))
answers (suc n) text place rest start found list le utf8 r = decide text place rest start found list (is_outside place) refl utf8 r
    (λ then_start b e x. answers n text (moved b.kind place) b.rest then_start _ _ (omega (arith, le, shorter place rest b e)) utf8
    (piece_more text place rest start then_start found list b (length text - length rest) (length text - length b.rest) r e x.clean x.at refl refl))

pub tokens_or_fault : TokensOrFault
tokens_or_fault text utf8 = answers (length text) text (Code []) text 0 None [] (omega arith) utf8 (nothing_read text 0)
