-- A piece is read as what it is, and what is read is a piece.
use Rattle.std.proofs.Common.{◌≡◌, ℕ, Bool, true, false, List, [], ◌∷◌, ◌++◌, Some, None, cond, nat_lt, refl, sym, ap, ◌∙◌, append_assoc, arith, ◌⊎◌, inl, inr}
use Rattle.std.specs.Prelude.{◌==◌, ◌||◌, ◌&&◌, codes}
use Rattle.std.proofs.lemmas.Bool.Decides.{nat_tests}
use Rattle.hog_grammar.specs.declared.token.Fault.TheVariants.{TooLarge}
use Rattle.hog_grammar.specs.Bytes.{Class, Space, LineFeed, Letter, Digit, Quote, Slash, OpensBrace, ClosesBrace, Sign, Half, Other, class, is_pair, is_space_class, is_word, is_word_class, is_digit, in_line, is_quote, AllOf, Stops, value_from, greatest}
use Rattle.hog_grammar.specs.Pieces.{Plain, Escape, inside, OfText, OfTemplate, Piece, Blank, LineComment, BlockComment, Word, Number, Text, Mark, LongMark, OpenBrace, CloseBrace, TemplateStart, Characters, HoleStart, HoleEnd, TemplateEnd, Stray, spelled, IsStray, IsPiece}
use Rattle.hog_tokens.specs.declared.pieces.Kind.TheVariants as k
use Rattle.hog_tokens.specs.declared.pieces.Spot.{Spot}
use Rattle.hog_tokens.specs.declared.pieces.Spot.TheVariants as s
use Rattle.hog_tokens.specs.Reading.{after, run_from, block_from, begun, stray, begin_word, begin_text, begin_characters, begin_block, past_pair, begin_mark, begin_code, begin}
use Rattle.hog_tokens.proofs.Tests.{tells, or_true, and_true, or_false, after_all, during_all}
use Rattle.hog_tokens.proofs.Runs.{run_reads}
use Rattle.hog_tokens.proofs.Comments.{block_reads, end_zero}
use Rattle.hog_tokens.proofs.PieceKinds.{piece_kind, first_fault, CodeSpot, Fits}

-- bytes and their classes

pub quote_is : (c : ℕ) → class c ≡ Quote → c ≡ 39
unfolding class
quote_is c h = grind (arith, nat_tests)

pub slash_is : (c : ℕ) → class c ≡ Slash → c ≡ 47
unfolding class
slash_is c h = grind (arith, nat_tests)

pub open_is : (c : ℕ) → class c ≡ OpensBrace → c ≡ 123
unfolding class
open_is c h = grind (arith, nat_tests)

pub close_is : (c : ℕ) → class c ≡ ClosesBrace → c ≡ 125
unfolding class
close_is c h = grind (arith, nat_tests)

class_39 : class 39 ≡ Quote
unfolding class
class_39 = refl

class_47 : class 47 ≡ Slash
unfolding class
class_47 = refl

class_102 : class 102 ≡ Letter
unfolding class
class_102 = refl

class_123 : class 123 ≡ OpensBrace
unfolding class
class_123 = refl

class_125 : class 125 ≡ ClosesBrace
unfolding class
class_125 = refl

no_quote_class : (x : Class) → is_word_class x ≡ true → Quote ≡ x → ⊥
no_quote_class Quote h e = absurd (cc)
no_quote_class _ h e = absurd (cc)

no_quote : (c : ℕ) → is_word c ≡ true → is_quote c ≡ false
no_quote c h = elim (tells (is_quote c)) [
  | inl g ↦ (let is : c ≡ 39 = grind (arith, nat_tests) in absurd (no_quote_class (class c) h (sym (ap class is ∙ class_39))))
  | inr g ↦ g
]

-- the first byte of a mark of two is a mark by itself, or begins only such marks
abbrev FirstOf : ℕ → Type 0
FirstOf c = (class c ≡ Sign) ⊎ (class c ≡ Half)

half : (c n : ℕ) → c == n ≡ true → class n ≡ Half → FirstOf c
half c n h is = let e : c ≡ n = grind (arith, nat_tests) in inr (ap class e ∙ is)

sign : (c n : ℕ) → c == n ≡ true → class n ≡ Sign → FirstOf c
sign c n h is = let e : c ≡ n = grind (arith, nat_tests) in inl (ap class e ∙ is)

before_equals : (c : ℕ) → c == 58 || c == 61 || c == 33 || c == 60 || c == 62 ≡ true → FirstOf c
unfolding class
before_equals c h = elim (or_true (c == 58 || c == 61 || c == 33 || c == 60) (c == 62) h) [
  | inr g ↦ sign c 62 g refl
  | inl g ↦ elim (or_true (c == 58 || c == 61 || c == 33) (c == 60) g) [
    | inr f ↦ sign c 60 f refl
    | inl f ↦ elim (or_true (c == 58 || c == 61) (c == 33) f) [
      | inr e ↦ half c 33 e refl
      | inl e ↦ elim (or_true (c == 58) (c == 61) e) [ inr x ↦ half c 61 x refl | inl x ↦ sign c 58 x refl ]
    ]
  ]
]

first_class : (c d : ℕ) → is_pair c d ≡ true → FirstOf c
unfolding class is_pair
first_class c d h =
    let a = c == 63 && (d == 46 || d == 63) in
    let b = c == 45 && d == 62 in
    let e = (c == 58 || c == 61 || c == 33 || c == 60 || c == 62) && d == 61 in
    elim (or_true (a || b) e h) [
      | inr g ↦ before_equals c (and_true (c == 58 || c == 61 || c == 33 || c == 60 || c == 62) (d == 61) g).0
      | inl g ↦ elim (or_true a b g) [
        | inr f ↦ sign c 45 (and_true (c == 45) (d == 62) f).0 refl
        | inl f ↦ half c 63 (and_true (c == 63) (d == 46 || d == 63) f).0 refl
      ]
    ]

-- pieces are read

abbrev pub is_hole : Spot → Bool
is_hole s.Code = false
is_hole s.Hole = true
is_hole s.Template = false

begin_in_code : (spot : Spot) (c : ℕ) (cs : List ℕ) → CodeSpot spot → begin spot (c ∷ cs) ≡ begin_code (is_hole spot) (class c) c cs
begin_in_code s.Code c cs f = refl
begin_in_code s.Hole c cs f = refl
begin_in_code s.Template c cs f = absurd f

-- in code, by the class of the first byte
by_class : (spot : Spot) (c : ℕ) (cs : List ℕ) (x : Class) → CodeSpot spot → class c ≡ x → begin spot (c ∷ cs) ≡ begin_code (is_hole spot) x c cs
by_class spot c cs x f is = begin_in_code spot c cs f ∙ ap (λ y. begin_code (is_hole spot) y c cs) is

space_reads : (x : Class) (hole : Bool) (c : ℕ) (cs : List ℕ) → is_space_class x ≡ true → begin_code hole x c cs ≡ begun k.Gap cs None
space_reads Space hole c cs h = refl
space_reads LineFeed hole c cs h = refl
space_reads _ hole c cs h = absurd (cc)

stray_reads : (x : Class) (hole : Bool) (c : ℕ) (cs : List ℕ) → IsStray x c cs → begin_code hole x c cs ≡ stray cs
stray_reads Slash hole c [] h = refl
stray_reads Slash hole c (d ∷ ds) h = let two = or_false (d == 47) (d == 42) h in
    ap (λ b. cond b (begun k.Gap (after in_line ds) None) (cond (d == 42) (begin_block (block_from false ds)) (stray (d ∷ ds)))) two.0
    ∙ ap (λ b. cond b (begin_block (block_from false ds)) (stray (d ∷ ds))) two.1
stray_reads Half hole c [] h = refl
stray_reads Half hole c (d ∷ ds) h = ap (λ b. begin_mark (cond b (Some ds) None) (stray (d ∷ ds))) h
stray_reads Other hole c cs h = refl
stray_reads Space hole c cs h = absurd h
stray_reads LineFeed hole c cs h = absurd h
stray_reads Letter hole c cs h = absurd h
stray_reads Digit hole c cs h = absurd h
stray_reads Quote hole c cs h = absurd h
stray_reads OpensBrace hole c cs h = absurd h
stray_reads ClosesBrace hole c cs h = absurd h
stray_reads Sign hole c cs h = absurd h

both_false : (a b : Bool) → (a ≡ true → b ≡ false) → a && b ≡ false
both_false true b h = h refl
both_false false b h = refl

word_reads : (c : ℕ) (cs rest : List ℕ) → AllOf is_word cs → Stops is_word rest → (c ∷ cs ≡ codes "f" → Stops is_quote rest) → begin_word c (cs ++ rest) ≡ begun k.Word rest None
word_reads c [] [] all stop f = refl
word_reads c [] (d ∷ ds) all stop f =
    let apart : (c == 102) && is_quote d ≡ false = both_false (c == 102) (is_quote d) (λ h. let is : c ≡ 102 = grind (arith, nat_tests) in f (ap (λ z. z ∷ []) is)) in
    ap (λ b. cond b (begun k.TemplateStart ds None) (begun k.Word (after is_word (d ∷ ds)) None)) apart ∙ ap (λ z. begun k.Word z None) (after_all is_word [] (d ∷ ds) tt stop)
word_reads c (x ∷ xs) rest all stop f =
    let apart : (c == 102) && is_quote x ≡ false = both_false (c == 102) (is_quote x) (λ h. no_quote x all.0) in
    ap (λ b. cond b (begun k.TemplateStart (xs ++ rest) None) (begun k.Word (after is_word (x ∷ (xs ++ rest))) None)) apart ∙ ap (λ z. begun k.Word z None) (after_all is_word (x ∷ xs) rest all stop)

mark_reads : (c : ℕ) (rest : List ℕ) → Stops (is_pair c) rest → past_pair c rest ≡ None
mark_reads c [] stop = refl
mark_reads c (d ∷ ds) stop = ap (λ b. cond b (Some ds) None) stop

pub piece_reads : (p : Piece) (spot : Spot) (rest : List ℕ) → IsPiece p rest → Fits (piece_kind p) spot → begin spot (spelled p ++ rest) ≡ begun (piece_kind p) rest (first_fault p)
piece_reads (Blank c) spot rest i f = begin_in_code spot c rest f ∙ space_reads (class c) (is_hole spot) c rest i
piece_reads (LineComment cs) spot rest i f = by_class spot 47 (47 ∷ (cs ++ rest)) Slash f class_47 ∙ ap (λ z. begun k.Gap z None) (after_all in_line cs rest i.0 i.1)
piece_reads (BlockComment cs) spot rest i f =
    let e : block_from false (cs ++ 42 ∷ 47 ∷ rest) ≡ Some rest = block_reads 0 cs rest (end_zero (cs ++ 42 ∷ []) ∙ i) in
    by_class spot 47 (42 ∷ ((cs ++ 42 ∷ 47 ∷ []) ++ rest)) Slash f class_47 ∙ ap (λ z. begin_block (block_from false z)) (append_assoc cs (42 ∷ 47 ∷ []) rest) ∙ ap begin_block e
piece_reads (Word c cs) spot rest i f = by_class spot c (cs ++ rest) Letter f i.0 ∙ word_reads c cs rest i.1 i.2 i.3
piece_reads (Number c cs) spot rest i f =
    by_class spot c (cs ++ rest) Digit f i.0
    ∙ ap (λ z. begun k.Number (after is_digit (cs ++ rest)) (cond (nat_lt greatest (value_from 0 (c ∷ z))) (Some (TooLarge, 0)) None)) (during_all is_digit cs rest i.1 i.2)
    ∙ ap (λ z. begun k.Number z (cond (nat_lt greatest (value_from 0 (c ∷ cs))) (Some (TooLarge, 0)) None)) (after_all is_digit cs rest i.1 i.2)
piece_reads (Text us) spot rest i f =
    by_class spot 39 ((inside us ++ 39 ∷ []) ++ rest) Quote f class_39 ∙ ap (λ z. begin_text (run_from OfText 1 None z)) (append_assoc (inside us) (39 ∷ []) rest)
    ∙ ap begin_text (run_reads OfText us 1 None (39 ∷ rest) i refl)
piece_reads (Mark c) spot rest i f = by_class spot c rest Sign f i.0 ∙ ap (λ z. begin_mark z (begun k.Mark rest None)) (mark_reads c rest i.1)
piece_reads (LongMark c d) spot rest i f = elim (first_class c d i) [
  | inl h ↦ by_class spot c (d ∷ rest) Sign f h ∙ ap (λ b. begin_mark (cond b (Some rest) None) (begun k.Mark (d ∷ rest) None)) i
  | inr h ↦ by_class spot c (d ∷ rest) Half f h ∙ ap (λ b. begin_mark (cond b (Some rest) None) (stray (d ∷ rest))) i
]
piece_reads OpenBrace spot rest i f = by_class spot 123 rest OpensBrace f class_123
piece_reads CloseBrace s.Code rest i f = by_class s.Code 125 rest ClosesBrace tt class_125
piece_reads CloseBrace s.Hole rest i f = absurd f
piece_reads CloseBrace s.Template rest i f = absurd f
piece_reads TemplateStart spot rest i f = by_class spot 102 (39 ∷ rest) Letter f class_102
piece_reads (Characters us) s.Code rest i f = absurd f
piece_reads (Characters us) s.Hole rest i f = absurd f
piece_reads (Characters []) s.Template rest i f = absurd (i.0 refl)
piece_reads (Characters (Plain c ∷ us)) s.Template rest i f =
    let two = or_false (c == 39) (c == 123) i.1.1 in
    ap (λ b. cond b (begun k.TemplateEnd (inside us ++ rest) None) (cond (c == 123) (begun k.HoleStart (inside us ++ rest) None) (begin_characters (run_from OfTemplate 0 None (c ∷ (inside us ++ rest)))))) two.0
    ∙ ap (λ b. cond b (begun k.HoleStart (inside us ++ rest) None) (begin_characters (run_from OfTemplate 0 None (c ∷ (inside us ++ rest))))) two.1
    ∙ ap begin_characters (run_reads OfTemplate (Plain c ∷ us) 0 None rest i.1 i.2)
piece_reads (Characters (Escape c ∷ us)) s.Template rest i f = ap begin_characters (run_reads OfTemplate (Escape c ∷ us) 0 None rest i.1 i.2)
piece_reads HoleStart s.Template rest i f = refl
piece_reads HoleStart s.Code rest i f = absurd f
piece_reads HoleStart s.Hole rest i f = absurd f
piece_reads HoleEnd s.Hole rest i f = by_class s.Hole 125 rest ClosesBrace tt class_125
piece_reads HoleEnd s.Code rest i f = absurd f
piece_reads HoleEnd s.Template rest i f = absurd f
piece_reads TemplateEnd s.Template rest i f = refl
piece_reads TemplateEnd s.Code rest i f = absurd f
piece_reads TemplateEnd s.Hole rest i f = absurd f
piece_reads (Stray c) spot rest i f = begin_in_code spot c rest f ∙ stray_reads (class c) (is_hole spot) c rest i
