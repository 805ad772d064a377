-- Cutting a text piece by piece, as a loop does.
use Rattle.std.proofs.Common.{◌≡◌, ℕ, ◌+◌, ◌-◌, ◌<◌, ◌≤◌, Bool, true, false, List, [], ◌∷◌, ◌++◌, length, Option, Some, None, cond, refl, sym, ap, ◌∙◌, subst, arith, length-append, ◌⊎◌, inl, inr}
use Rattle.std.specs.Prelude.{◌==◌, ◌&&◌}
use Rattle.std.specs.Str.{IsUtf8}
use Rattle.std.proofs.lemmas.Bool.Decides.{nat_tests}
use Rattle.hog_grammar.specs.declared.token.Fault.{Fault}
use Rattle.hog_grammar.specs.declared.token.Fault.TheVariants.{Unclosed}
use Rattle.hog_grammar.specs.declared.token.Token.{Token}
use Rattle.hog_grammar.specs.declared.token.TokenKind.{TokenKind}
use Rattle.hog_grammar.specs.Bytes.{Class, Space, LineFeed, Letter, Digit, Quote, Slash, OpensBrace, ClosesBrace, Sign, Half, Other, class, is_quote, is_word, in_line}
use Rattle.hog_grammar.specs.Pieces.{Piece, Blank, LineComment, BlockComment, Word, Number, Text, Mark, LongMark, OpenBrace, CloseBrace, TemplateStart, Characters, HoleStart, HoleEnd, TemplateEnd, Stray, spelled, IsPiece, Place, Code, Template, Passes, kind_of, with_token, tokens_at, IsTokensOf}
use Rattle.hog_grammar.specs.Faults.{size_of, IsOpen, IsFirstFault}
use Rattle.hog_grammar.proofs.Sizes.{passes_length, size-append}
use Rattle.hog_tokens.specs.declared.pieces.Kind.{Kind}
use Rattle.hog_tokens.specs.declared.pieces.Kind.TheVariants as k
use Rattle.hog_tokens.specs.declared.pieces.Spot.TheVariants as s
use Rattle.hog_tokens.specs.Reading.{after, block_from, Begun, begun, stray, begin_word, begin_block, begin_slash, past_pair, begin_mark, begin_code, begin, spot_of, moved, is_outside, first_found, shifted}
use Rattle.hog_tokens.specs.View.{token_kind}
use Rattle.hog_tokens.proofs.Tests.{tells}
use Rattle.hog_tokens.proofs.PieceKinds.{piece_kind, first_fault, Fits, moves_goes, fits_moves, same_kind}
use Rattle.hog_tokens.proofs.PieceReads.{quote_is, slash_is, piece_reads}
use Rattle.hog_tokens.proofs.PieceSound.{piece_sound}
use Rattle.hog_tokens.proofs.PieceFaults.{fault_within, one_fault}
use Rattle.hog_tokens.proofs.Texts.{first_at, reads_as, one_piece, moved_on, passes-append, passes_front, FoundBy, fault_after, open_after, none_found, first_stands}

-- each place after one of these pieces is inside of a template
abbrev pub Within : List Piece → Place → Type 0
Within [] place = Unit {0}
Within (p ∷ ps) place = (is_outside (moved (piece_kind p) place) ≡ false) × Within ps (moved (piece_kind p) place)

-- the template in which the text stands, and the good pieces before it
pub record Since (text : List ℕ) (place : Place) (rest : List ℕ) (start : ℕ) : Type 0 where
  pub before : List Piece
  pub since : List Piece
  pub left : List ℕ
  pub tail : List ℕ
  pub front : Passes before (Code []) text (Code []) left
  pub good : first_at 0 before ≡ None
  pub began : start ≡ size_of before
  pub opens : left ≡ 102 ∷ 39 ∷ tail
  pub on : Passes since (Code []) left place rest
  pub within : Within since (Code [])

-- A text has been read up to what is left, which stands at that place.
pub record IsRead (text : List ℕ) (place : Place) (rest : List ℕ) (start : ℕ) (found : Option (Fault × ℕ)) (list : List Token) : Type 0 where
  pub pieces : List Piece
  pub passes : Passes pieces (Code []) text place rest
  pub fault : found ≡ first_at 0 pieces
  pub tokens : list ≡ tokens_at 0 pieces
  pub inside : is_outside place ≡ false → Since text place rest start

-- the start

pub nothing_read : (text : List ℕ) (start : ℕ) → IsRead text (Code []) text start None []
nothing_read text start = record { pieces = []; passes = (refl, refl); fault = refl; tokens = refl; inside = λ e. absurd (cc) }

-- one piece more

found_none : (a : Option (Fault × ℕ)) → first_found a None ≡ a
found_none (Some x) = refl
found_none None = refl

found_assoc : (a b c : Option (Fault × ℕ)) → first_found a (first_found b c) ≡ first_found (first_found a b) c
found_assoc (Some x) b c = refl
found_assoc None b c = refl

first-push : (n m : ℕ) (ps : List Piece) (p : Piece) → m ≡ n + size_of ps → first_at n (ps ++ p ∷ []) ≡ first_found (first_at n ps) (shifted m (first_fault p))
first-push n m [] p is = let same : n ≡ m = omega (arith, is) in found_none (shifted n (first_fault p)) ∙ ap (λ k. shifted k (first_fault p)) same
first-push n m (q ∷ ps) p is =
    let same : m ≡ n + length (spelled q) + size_of ps = omega (arith, is) in
    ap (first_found (shifted n (first_fault q))) (first-push (n + length (spelled q)) m ps p same) ∙ found_assoc (shifted n (first_fault q)) (first_at (n + length (spelled q)) ps) (shifted m (first_fault p))

before_more : (kind : Option TokenKind) (a b : ℕ) (ts us : List Token) → with_token kind a b (ts ++ us) ≡ with_token kind a b ts ++ us
before_more None a b ts us = refl
before_more (Some kind) a b ts us = refl

tokens-push : (n from to : ℕ) (ps : List Piece) (p : Piece) → from ≡ n + size_of ps → to ≡ from + length (spelled p) → tokens_at n (ps ++ p ∷ []) ≡ tokens_at n ps ++ with_token (kind_of p) from to []
tokens-push n from to [] p a b =
    let here : n ≡ from = omega (arith, a) in
    let there : n + length (spelled p) ≡ to = omega (arith, a, b) in
    ap (λ k. with_token (kind_of p) k (n + length (spelled p)) []) here ∙ ap (λ k. with_token (kind_of p) from k []) there
tokens-push n from to (q ∷ ps) p a b =
    let m = n + length (spelled q) in
    let same : from ≡ m + size_of ps = omega (arith, a) in
    ap (with_token (kind_of q) n m) (tokens-push m from to ps p same b) ∙ before_more (kind_of q) n m (tokens_at m ps) (with_token (kind_of p) from to [])

within-push : (ps : List Piece) (p : Piece) (a b : Place) (text rest : List ℕ) → Passes ps a text b rest → Within ps a → is_outside (moved (piece_kind p) b) ≡ false → Within (ps ++ p ∷ []) a
within-push [] p a b text rest x w h = (ap (λ z. is_outside (moved (piece_kind p) z)) x.0 ∙ h, tt)
within-push (q ∷ ps) p a b text rest x w h =
    let next = (moves_goes q a x.next x.moves).to in
    (w.0, within-push ps p (moved (piece_kind q) a) b x.more rest (subst (λ (z : Place). Passes ps z x.more b rest) next x.others) w.1 h)

outside_is : (place : Place) → is_outside place ≡ true → place ≡ Code []
outside_is (Code []) e = refl
outside_is (Code (n ∷ holes)) e = absurd (cc)
outside_is (Template holes) e = absurd (cc)

-- a piece that leads from outside into a template begins it
enters : (p : Piece) → Fits (piece_kind p) s.Code → is_outside (moved (piece_kind p) (Code [])) ≡ false → spelled p ≡ 102 ∷ 39 ∷ []
enters (Blank c) f e = absurd (cc)
enters (LineComment cs) f e = absurd (cc)
enters (BlockComment cs) f e = absurd (cc)
enters (Word c cs) f e = absurd (cc)
enters (Number c cs) f e = absurd (cc)
enters (Text us) f e = absurd (cc)
enters (Mark c) f e = absurd (cc)
enters (LongMark c d) f e = absurd (cc)
enters OpenBrace f e = absurd (cc)
enters CloseBrace f e = absurd (cc)
enters TemplateStart f e = refl
enters (Characters us) f e = absurd f
enters HoleStart f e = absurd f
enters HoleEnd f e = absurd f
enters TemplateEnd f e = absurd f
enters (Stray c) f e = absurd (cc)

-- a piece that was read
pub record ReadOn (place : Place) (rest : List ℕ) (b : Begun) : Type 0 where
  pub p : Piece
  pub bytes : rest ≡ spelled p ++ b.rest
  pub piece : IsPiece p b.rest
  pub fits : Fits (piece_kind p) (spot_of place)
  pub kind : b.kind ≡ piece_kind p
  pub fault : b.fault ≡ first_fault p

same_begun : (a b : Begun) → Some a ≡ Some b → a ≡ b
same_begun a b e = cc

pub read_on : (place : Place) (rest : List ℕ) (b : Begun) → begin (spot_of place) rest ≡ Some b → ReadOn place rest b
read_on place rest b e =
    let f = piece_sound (spot_of place) rest b e in
    let x : b ≡ record { kind = piece_kind f.p; rest = b.rest; fault = first_fault f.p } = same_begun b _ (sym e ∙ ap (begin (spot_of place)) f.bytes ∙ piece_reads f.p (spot_of place) b.rest f.piece f.fits) in
    record { p = f.p; bytes = f.bytes; piece = f.piece; fits = f.fits; kind = ap (λ (z : Begun). z.kind) x; fault = ap (λ (z : Begun). z.fault) x }

one_passes : (place : Place) (rest : List ℕ) (b : Begun) (x : ReadOn place rest b) → Passes (x.p ∷ []) place rest (moved (piece_kind x.p) place) b.rest
one_passes place rest b x = record { next = moved (piece_kind x.p) place; more = b.rest; bytes = x.bytes; piece = x.piece; moves = fits_moves x.p place x.fits; others = (refl, refl) }

-- the template that was open, or that begins here
since_then : (text : List ℕ) (place : Place) (rest : List ℕ) (start then_start : ℕ) (found : Option (Fault × ℕ)) (list : List Token) (b : Begun) (r : IsRead text place rest start found list) (x : ReadOn place rest b) (outside : Bool)
    → is_outside place ≡ outside → (outside ≡ true → found ≡ None) → then_start ≡ cond outside (length text - length rest) start → is_outside (moved (piece_kind x.p) place) ≡ false
    → Since text (moved (piece_kind x.p) place) b.rest then_start
since_then text place rest start then_start found list b r x true is clean at inner =
    let here : place ≡ Code [] = outside_is place is in
    let fits : Fits (piece_kind x.p) s.Code = subst (λ (z : Place). Fits (piece_kind x.p) (spot_of z)) here x.fits in
    let enter : is_outside (moved (piece_kind x.p) (Code [])) ≡ false = ap (λ z. is_outside (moved (piece_kind x.p) z)) (sym here) ∙ inner in
    record {
      before = r.pieces;
      since = x.p ∷ [];
      left = rest;
      tail = b.rest;
      front = subst (λ (z : Place). Passes r.pieces (Code []) text z rest) here r.passes;
      good = sym r.fault ∙ clean refl;
      began = omega (arith, at, passes_length r.pieces (Code []) place text rest r.passes);
      opens = x.bytes ∙ ap (λ z. z ++ b.rest) (enters x.p fits enter);
      on = subst (λ (z : Place). Passes (x.p ∷ []) z rest (moved (piece_kind x.p) place) b.rest) here (one_passes place rest b x);
      within = (enter, tt);
    }
since_then text place rest start then_start found list b r x false is clean at inner =
    let q = r.inside is in
    record {
      before = q.before;
      since = q.since ++ x.p ∷ [];
      left = q.left;
      tail = q.tail;
      front = q.front;
      good = q.good;
      began = at ∙ q.began;
      opens = q.opens;
      on = passes-append q.since (x.p ∷ []) (Code []) place (moved (piece_kind x.p) place) q.left rest b.rest q.on (one_passes place rest b x);
      within = within-push q.since x.p (Code []) place q.left rest q.on q.within inner;
    }

-- A piece is read, and the text goes on behind it.
pub piece_more : (text : List ℕ) (place : Place) (rest : List ℕ) (start then_start : ℕ) (found : Option (Fault × ℕ)) (list : List Token) (b : Begun) (from to : ℕ)
    → IsRead text place rest start found list → begin (spot_of place) rest ≡ Some b → (is_outside place ≡ true → found ≡ None) → then_start ≡ cond (is_outside place) (length text - length rest) start
    → from ≡ length text - length rest → to ≡ length text - length b.rest
    → IsRead text (moved b.kind place) b.rest then_start (first_found found (shifted from b.fault)) (list ++ with_token (token_kind b.kind) from to [])
piece_more text place rest start then_start found list b from to r e clean at f t =
    let x = read_on place rest b e in
    let size = passes_length r.pieces (Code []) place text rest r.passes in
    let sizes = ap length x.bytes ∙ length-append (spelled x.p) b.rest in
    let here : from ≡ size_of r.pieces = omega (arith, f, size) in
    let there : to ≡ from + length (spelled x.p) = omega (arith, f, t, size, sizes) in
    let done : IsRead text (moved (piece_kind x.p) place) b.rest then_start (first_found found (shifted from (first_fault x.p))) (list ++ with_token (token_kind (piece_kind x.p)) from to []) = record {
      pieces = r.pieces ++ x.p ∷ [];
      passes = passes-append r.pieces (x.p ∷ []) (Code []) place (moved (piece_kind x.p) place) text rest b.rest r.passes (one_passes place rest b x);
      fault = ap (λ z. first_found z (shifted from (first_fault x.p))) r.fault ∙ sym (first-push 0 from r.pieces x.p (here ∙ omega arith));
      tokens = ap (λ z. z ++ with_token (token_kind (piece_kind x.p)) from to []) r.tokens ∙ ap (λ z. tokens_at 0 r.pieces ++ with_token z from to []) (same_kind x.p) ∙ sym (tokens-push 0 from to r.pieces x.p (here ∙ omega arith) there);
      inside = since_then text place rest start then_start found list b r x (is_outside place) refl clean at;
    } in
    subst (λ (z : Kind). IsRead text (moved z place) b.rest then_start (first_found found (shifted from b.fault)) (list ++ with_token (token_kind z) from to [])) (sym x.kind)
    (subst (λ (z : Option (Fault × ℕ)). IsRead text (moved (piece_kind x.p) place) b.rest then_start (first_found found (shifted from z)) (list ++ with_token (token_kind (piece_kind x.p)) from to [])) (sym x.fault) done)

-- the end

pub all_read : (text : List ℕ) (place : Place) (rest : List ℕ) (start : ℕ) (list : List Token) → IsUtf8 text → IsRead text place rest start None list → is_outside place ≡ true → length rest ≡ 0 → IsTokensOf text list
all_read text place (c ∷ rest) start list utf8 r out none = absurd (omega (arith, none))
all_read text place [] start list utf8 r out none = record {
  utf8 = utf8;
  pieces = r.pieces;
  cut = subst (λ (z : Place). Passes r.pieces (Code []) text z []) (outside_is place out) r.passes;
  good = none_found 0 r.pieces (sym r.fault);
  tokens = r.tokens;
}

-- the first fault, outside of templates

-- what the first fault of good pieces is not before
pub past_good : (a : Option (Fault × ℕ)) (at : ℕ) → a ≡ None → FoundBy a at → ⊥
past_good (Some x) at e h = cc
past_good None at e h = h

by_found : (a : Option (Fault × ℕ)) (f : Fault) (n at : ℕ) → a ≡ Some (f, n) → FoundBy a at → n ≤ at
by_found None f n at e h = absurd h
by_found (Some x) f n at e h = let same : x.1 ≡ n = ap (λ y. y.1) (one_fault x (f, n) e) in omega (arith, same, h)

pub first_is : (text : List ℕ) (place : Place) (rest : List ℕ) (start : ℕ) (f : Fault) (at : ℕ) (list : List Token) → IsRead text place rest start (Some (f, at)) list → is_outside place ≡ true → IsFirstFault text f at
first_is text place rest start f at list r out =
    let x = first_stands 0 r.pieces f at (sym r.fault) in
    let y = x.2 in
    let front = passes_front (y.front ++ y.last ∷ []) y.back (Code []) place text rest (subst (λ (z : List Piece). Passes z (Code []) text place rest) y.is r.passes) in
    let sizes = ap size_of y.is ∙ size-append (y.front ++ y.last ∷ []) y.back in
    let inner = size-append y.front (y.last ∷ []) in
    let last = fault_within y.last f y.offset y.holds in
    let before : at < size_of r.pieces = omega (arith, sizes, inner, last, x.1, y.place) in
    let whole : Passes r.pieces (Code []) text (Code []) rest = subst (λ (z : Place). Passes r.pieces (Code []) text z rest) (outside_is place out) r.passes in record {
      stands = inl (record { pieces = y.front; last = y.last; offset = y.offset; to = front.0; rest = front.1; passes = front.2; holds = y.holds; place = omega (arith, x.1, y.place) });
      least = λ g m bad. elim bad [
        | inl z ↦ elim (fault_after r.pieces z.pieces z.last (Code []) place z.to text rest z.rest 0 g z.offset r.passes z.passes z.holds) [
          | inl h ↦ (let by = by_found (first_at 0 r.pieces) f at (0 + (size_of z.pieces + z.offset)) (sym r.fault) h in omega (arith, by, z.place))
          | inr h ↦ omega (arith, h, before, z.place)
        ]
        | inr z ↦ omega (arith, open_after r.pieces z.pieces (Code []) text rest z.rest whole z.passes z.is_open.open_still, before, z.place)
      ];
    }

-- what has no end

never_out : (ps : List Piece) (a place : Place) (text rest : List ℕ) → Passes ps a text place rest → Within ps a → is_outside place ≡ false → begin (spot_of place) rest ≡ None
    → (q : Piece) (qs : List Piece) (out : List ℕ) → Passes (q ∷ qs) a text (Code []) out → ⊥
never_out [] a place text rest x w inner none q qs out y =
    let some = reads_as q _ a text y in
    let same : begin (spot_of a) text ≡ None = ap (λ z. begin (spot_of z) text) x.0 ∙ ap (begin (spot_of place)) x.1 ∙ none in
    cc
never_out (p ∷ ps) a place text rest x w inner none q [] out y =
    let same = one_piece p q _ _ a text x y in
    let next = (moves_goes p a x.next x.moves).to in
    let is : is_outside (Code []) ≡ false = ap is_outside (sym y.others.0 ∙ sym same.next ∙ next) ∙ w.0 in
    cc
never_out (p ∷ ps) a place text rest x w inner none q (r ∷ rs) out y =
    let same = one_piece p q _ _ a text x y in
    let next = (moves_goes p a x.next x.moves).to in
    never_out ps x.next place x.more rest x.others (subst (λ (z : Place). Within ps z) (sym next) w.1) inner none r rs out (moved_on (r ∷ rs) x.next y.next (Code []) x.more y.more out same.next same.more y.others)

unclosed_first : (text : List ℕ) (before : List Piece) (left : List ℕ) (start : ℕ) → Passes before (Code []) text (Code []) left → first_at 0 before ≡ None → IsOpen left → start ≡ size_of before → IsFirstFault text Unclosed start
unclosed_first text before left start x good is at = record {
  stands = inr (record { pieces = before; rest = left; passes = x; is_open = is; fault = refl; place = at });
  least = λ g m bad. elim bad [
    | inl z ↦ elim (fault_after before z.pieces z.last (Code []) (Code []) z.to text left z.rest 0 g z.offset x z.passes z.holds) [
      | inl h ↦ absurd (past_good (first_at 0 before) (0 + (size_of z.pieces + z.offset)) good h)
      | inr h ↦ omega (arith, h, at, z.place)
    ]
    | inr z ↦ omega (arith, open_after before z.pieces (Code []) text left z.rest x z.passes z.is_open.open_still, at, z.place)
  ];
}

-- what begins there, where no piece does

abbrev Opens : ℕ → List ℕ → Type 0
Opens c cs = (tail : List ℕ) × ((c ∷ cs ≡ 39 ∷ tail) ⊎ (c ∷ cs ≡ 47 ∷ 42 ∷ tail))

slash_opens : (c : ℕ) (cs : List ℕ) → c ≡ 47 → begin_slash cs ≡ None → Opens c cs
slash_opens c [] is e = absurd (cc)
slash_opens c (d ∷ ds) is e =
    let line = begun k.Gap (after in_line ds) None in
    let block = begin_block (block_from false ds) in
    let on = cond (d == 42) block (stray (d ∷ ds)) in
    elim (tells (d == 47)) [
      | inl h ↦ (let x : line ≡ None = ap (λ b. cond b line on) (sym h) ∙ e in absurd (cc))
      | inr h ↦ (let e2 : on ≡ None = ap (λ b. cond b line on) (sym h) ∙ e in
          elim (tells (d == 42)) [
            | inl g ↦ (let star : d ≡ 42 = grind (arith, nat_tests) in (ds, inr (ap (λ z. z ∷ d ∷ ds) is ∙ ap (λ z. 47 ∷ z ∷ ds) star)))
            | inr g ↦ (let x : stray (d ∷ ds) ≡ None = ap (λ b. cond b block (stray (d ∷ ds))) (sym g) ∙ e2 in absurd (cc))
          ])
    ]

word_some : (c : ℕ) (cs : List ℕ) → begin_word c cs ≡ None → ⊥
word_some c [] e = cc
word_some c (d ∷ ds) e =
    let word = begun k.Word (after is_word (d ∷ ds)) None in
    elim (tells (c == 102 && is_quote d)) [
      | inl h ↦ (let x : begun k.TemplateStart ds None ≡ None = ap (λ b. cond b (begun k.TemplateStart ds None) word) (sym h) ∙ e in cc)
      | inr h ↦ (let x : word ≡ None = ap (λ b. cond b (begun k.TemplateStart ds None) word) (sym h) ∙ e in cc)
    ]

mark_some : (rest : Option (List ℕ)) (b : Begun) → begin_mark rest (Some b) ≡ None → ⊥
mark_some (Some rest) b e = cc
mark_some None b e = cc

class_opens : (x : Class) (c : ℕ) (cs : List ℕ) → class c ≡ x → begin_code false x c cs ≡ None → Opens c cs
class_opens Quote c cs q e = (cs, inl (ap (λ z. z ∷ cs) (quote_is c q)))
class_opens Slash c cs q e = slash_opens c cs (slash_is c q) e
class_opens Letter c cs q e = absurd (word_some c cs e)
class_opens Sign c cs q e = absurd (mark_some (past_pair c cs) _ e)
class_opens Half c cs q e = absurd (mark_some (past_pair c cs) _ e)
class_opens Space c cs q e = absurd (cc)
class_opens LineFeed c cs q e = absurd (cc)
class_opens Digit c cs q e = absurd (cc)
class_opens OpensBrace c cs q e = absurd (cc)
class_opens ClosesBrace c cs q e = absurd (cc)
class_opens Other c cs q e = absurd (cc)

nothing_opens : (rest : List ℕ) → 0 < length rest → begin s.Code rest ≡ None → IsOpen rest
nothing_opens [] some e = absurd (omega arith)
nothing_opens (c ∷ cs) some e =
    let x = class_opens (class c) c cs refl e in record {
      rest = x.0;
      opens = elim x.1 [ inl h ↦ inl h | inr h ↦ inr (inl h) ];
      open_still = λ p ps out y. (let z = reads_as p _ (Code []) (c ∷ cs) y in cc);
    }

-- No piece begins there, and the text is not at its end outside of templates.
pub open_is : (text : List ℕ) (place : Place) (rest : List ℕ) (start then_start : ℕ) (found : Option (Fault × ℕ)) (list : List Token) (outside : Bool) → IsRead text place rest start found list → begin (spot_of place) rest ≡ None
    → is_outside place ≡ outside → (outside ≡ true → found ≡ None) → (outside ≡ true → 0 < length rest) → then_start ≡ cond outside (length text - length rest) start → IsFirstFault text Unclosed then_start
open_is text place rest start then_start found list true r none is clean some at =
    let here : place ≡ Code [] = outside_is place is in
    unclosed_first text r.pieces rest then_start (subst (λ (z : Place). Passes r.pieces (Code []) text z rest) here r.passes) (sym r.fault ∙ clean refl)
    (nothing_opens rest (some refl) (ap (λ z. begin (spot_of z) rest) (sym here) ∙ none)) (omega (arith, at, passes_length r.pieces (Code []) place text rest r.passes))
open_is text place rest start then_start found list false r none is clean some at =
    let q = r.inside is in
    unclosed_first text q.before q.left then_start q.front q.good (record { rest = q.tail; opens = inr (inr q.opens); open_still = λ p ps out y. never_out q.since (Code []) place q.left rest q.on q.within is none p ps out y }) (at ∙ q.began)

-- What holds where a piece is looked for: outside of templates there is no fault so far, and some text is left.
pub record Chosen (text : List ℕ) (place : Place) (rest : List ℕ) (start then_start : ℕ) (found : Option (Fault × ℕ)) : Type 0 where
  pub clean : is_outside place ≡ true → found ≡ None
  pub some : is_outside place ≡ true → 0 < length rest
  pub at : then_start ≡ cond (is_outside place) (length text - length rest) start

pub chosen_outside : (text : List ℕ) (place : Place) (rest : List ℕ) (start then_start : ℕ) (found : Option (Fault × ℕ)) → is_outside place ≡ true → found ≡ None → 0 < length rest → then_start ≡ length text - length rest
    → Chosen text place rest start then_start found
chosen_outside text place rest start then_start found is none some at = record { clean = λ _. none; some = λ _. some; at = at ∙ ap (λ b. cond b (length text - length rest) start) (sym is) }

pub chosen_inside : (text : List ℕ) (place : Place) (rest : List ℕ) (start then_start : ℕ) (found : Option (Fault × ℕ)) → is_outside place ≡ false → then_start ≡ start → Chosen text place rest start then_start found
chosen_inside text place rest start then_start found is at = record { clean = λ e. absurd (cc); some = λ e. absurd (cc); at = at ∙ ap (λ b. cond b (length text - length rest) start) (sym is) }

pub same_read : (text : List ℕ) (p q : Place) (rest : List ℕ) (start : ℕ) (found other : Option (Fault × ℕ)) (list more : List Token) → p ≡ q → found ≡ other → list ≡ more → IsRead text q rest start other more → IsRead text p rest start found list
same_read text p q rest start found other list more a b c r = subst (λ (z : Place). IsRead text z rest start found list) (sym a)
    (subst (λ (z : Option (Fault × ℕ)). IsRead text q rest start z list) (sym b) (subst (λ (z : List Token). IsRead text q rest start other z) (sym c) r))
