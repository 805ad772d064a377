-- What is read is a piece.
use Rattle.std.proofs.Common.{◌≡◌, ℕ, Bool, true, false, List, [], ◌∷◌, ◌++◌, Option, Some, None, cond, nat_lt, refl, sym, ap, ◌∙◌, subst, append_assoc, arith, inl, inr}
use Rattle.std.specs.Prelude.{◌==◌, ◌||◌, ◌&&◌, codes}
use Rattle.std.proofs.lemmas.Bool.Decides.{nat_tests}
use Rattle.hog_grammar.specs.declared.token.Fault.{Fault}
use Rattle.hog_grammar.specs.declared.token.Fault.TheVariants.{BadByte, TooLarge}
use Rattle.hog_grammar.specs.Bytes.{Class, Space, LineFeed, Letter, Digit, Quote, Slash, OpensBrace, ClosesBrace, Sign, Half, Other, class, is_pair, is_space_class, is_word, is_digit, in_line, is_quote, Stops, Begins, value_from, greatest}
use Rattle.hog_grammar.specs.Pieces.{inside, OfText, OfTemplate, is_end, Piece, Blank, LineComment, BlockComment, Word, Number, Text, Mark, LongMark, OpenBrace, CloseBrace, TemplateStart, Characters, HoleStart, HoleEnd, TemplateEnd, Stray, spelled, IsStray, IsPiece}
use Rattle.hog_tokens.specs.declared.pieces.Kind.{Kind}
use Rattle.hog_tokens.specs.declared.pieces.Kind.TheVariants as k
use Rattle.hog_tokens.specs.declared.pieces.Spot.{Spot}
use Rattle.hog_tokens.specs.declared.pieces.Spot.TheVariants as s
use Rattle.hog_tokens.specs.Reading.{during, after, Run, run_from, block_from, Begun, begun, bad_byte, stray, begin_word, closed, begin_text, begin_characters, begin_block, begin_slash, past_pair, begin_mark, closing, begin_code, begin_template, begin}
use Rattle.hog_tokens.proofs.Tests.{tells, and_true, and_at, span, all_during, stops_after}
use Rattle.hog_tokens.proofs.Runs as r
use Rattle.hog_tokens.proofs.Runs.{run_sound}
use Rattle.hog_tokens.proofs.Comments.{block_sound, end_zero}
use Rattle.hog_tokens.proofs.PieceKinds.{piece_kind, CodeSpot, Fits}
use Rattle.hog_tokens.proofs.PieceReads.{quote_is, slash_is, open_is, close_is, is_hole}

pub record FoundBefore (spot : Spot) (ts rest : List ℕ) : Type 0 where
  pub p : Piece
  pub bytes : ts ≡ spelled p ++ rest
  pub piece : IsPiece p rest
  pub fits : Fits (piece_kind p) spot

abbrev pub Found : Spot → List ℕ → Begun → Type 0
Found spot ts b = FoundBefore spot ts b.rest

-- a piece before what was read on
is_found : (spot : Spot) (ts : List ℕ) (kind : Kind) (rest : List ℕ) (fault : Option (Fault × ℕ)) (b : Begun) → begun kind rest fault ≡ Some b → FoundBefore spot ts rest → Found spot ts b
is_found spot ts kind rest fault b e f = let q : record { kind = kind; rest = rest; fault = fault } ≡ b = cc in subst (λ (x : Begun). Found spot ts x) q f

first : List ℕ → ℕ
first [] = 0
first (c ∷ cs) = c

others : List ℕ → List ℕ
others [] = []
others (c ∷ cs) = cs

-- a word before a byte with which it begins no template
alone : (c d : ℕ) (ds : List ℕ) → c == 102 && is_quote d ≡ false → c ∷ during is_word (d ∷ ds) ≡ codes "f" → Stops is_quote (after is_word (d ∷ ds))
unfolding first others
alone c d ds apart e =
    let is : c ≡ 102 = ap first e in
    let it_is : c == 102 ≡ true = grind (arith, nat_tests) in
    let none : during is_word (d ∷ ds) ≡ [] = ap others e in
    let all : d ∷ ds ≡ after is_word (d ∷ ds) = span is_word (d ∷ ds) ∙ ap (λ z. z ++ after is_word (d ∷ ds)) none in
    subst (λ (z : List ℕ). Stops is_quote z) all (and_at (c == 102) (is_quote d) apart it_is)

word_sound : (spot : Spot) (c : ℕ) (cs : List ℕ) (b : Begun) → CodeSpot spot → class c ≡ Letter → begin_word c cs ≡ Some b → Found spot (c ∷ cs) b
word_sound spot c [] b f q e = is_found spot (c ∷ []) k.Word [] None b e (record { p = Word c []; bytes = refl; piece = (q, tt, tt, λ _. tt); fits = f })
word_sound spot c (d ∷ ds) b f q e =
    let word = begun k.Word (after is_word (d ∷ ds)) None in
    elim (tells (c == 102 && is_quote d)) [
      | inl h ↦ (let two = and_true (c == 102) (is_quote d) h in
          let a : c ≡ 102 = grind (arith, nat_tests) in
          let z : d ≡ 39 = grind (arith, nat_tests) in
          is_found spot (c ∷ d ∷ ds) k.TemplateStart ds None b (ap (λ x. cond x (begun k.TemplateStart ds None) word) (sym h) ∙ e)
          (record { p = TemplateStart; bytes = ap (λ x. x ∷ d ∷ ds) a ∙ ap (λ x. 102 ∷ x ∷ ds) z; piece = tt; fits = f }))
      | inr h ↦ is_found spot (c ∷ d ∷ ds) k.Word (after is_word (d ∷ ds)) None b (ap (λ x. cond x (begun k.TemplateStart ds None) word) (sym h) ∙ e)
          (record { p = Word c (during is_word (d ∷ ds)); bytes = ap (λ x. c ∷ x) (span is_word (d ∷ ds)); piece = (q, all_during is_word (d ∷ ds), stops_after is_word (d ∷ ds), alone c d ds h); fits = f })
    ]

-- the quote that ends a text
text_end : (spot : Spot) (c : ℕ) (cs rest : List ℕ) (bad : Option ℕ) (b : Begun) → CodeSpot spot → class c ≡ Quote → r.Characters OfText cs rest → closed rest bad ≡ Some b → Found spot (c ∷ cs) b
text_end spot c cs [] bad b f q x e = absurd x.end
text_end spot c cs (d ∷ ds) bad b f q x e =
    let h : d == 39 ≡ true = x.end in
    let is : d ≡ 39 = grind (arith, nat_tests) in
    is_found spot (c ∷ cs) k.Text ds (bad_byte bad) b e (record {
      p = Text x.us;
      bytes = ap (λ y. y ∷ cs) (quote_is c q) ∙ ap (λ y. 39 ∷ y) (x.bytes ∙ ap (λ y. inside x.us ++ y ∷ ds) is ∙ sym (append_assoc (inside x.us) (39 ∷ []) ds));
      piece = x.all;
      fits = f;
    })

text_sound : (spot : Spot) (c : ℕ) (cs : List ℕ) (b : Begun) (run : Option Run) → CodeSpot spot → class c ≡ Quote → run_from OfText 1 None cs ≡ run → begin_text run ≡ Some b → Found spot (c ∷ cs) b
text_sound spot c cs b None f q is e = absurd (cc)
text_sound spot c cs b (Some run) f q is e = text_end spot c cs run.rest run.bad b f q (run_sound OfText cs 1 None run is) e

block_is : (spot : Spot) (c d : ℕ) (ds : List ℕ) (b : Begun) (rest : Option (List ℕ)) → CodeSpot spot → class c ≡ Slash → d ≡ 42 → block_from false ds ≡ rest → begin_block rest ≡ Some b → Found spot (c ∷ d ∷ ds) b
block_is spot c d ds b None f q star is e = absurd (cc)
block_is spot c d ds b (Some rest) f q star is e = elim (block_sound 0 ds rest is) [
  | inl y ↦ absurd (omega (arith, y.0))
  | inr i ↦ is_found spot (c ∷ d ∷ ds) k.Gap rest None b e (record {
    p = BlockComment i.xs;
    bytes = ap (λ y. y ∷ d ∷ ds) (slash_is c q) ∙ ap (λ y. 47 ∷ y ∷ ds) star ∙ ap (λ y. 47 ∷ 42 ∷ y) (i.bytes ∙ sym (append_assoc i.xs (42 ∷ 47 ∷ []) rest));
    piece = sym (end_zero (i.xs ++ 42 ∷ [])) ∙ i.no_end;
    fits = f;
  })
]

either_false : (a b : Bool) → a ≡ false → b ≡ false → a || b ≡ false
either_false true b g h = absurd (cc)
either_false false b g h = h

stray_found : (spot : Spot) (c : ℕ) (cs : List ℕ) (x : Class) (b : Begun) → CodeSpot spot → class c ≡ x → IsStray x c cs → stray cs ≡ Some b → Found spot (c ∷ cs) b
stray_found spot c cs x b f q is e = is_found spot (c ∷ cs) k.Gap cs (Some (BadByte, 0)) b e (record { p = Stray c; bytes = refl; piece = subst (λ (y : Class). IsStray y c cs) (sym q) is; fits = f })

slash_sound : (spot : Spot) (c : ℕ) (cs : List ℕ) (b : Begun) → CodeSpot spot → class c ≡ Slash → begin_slash cs ≡ Some b → Found spot (c ∷ cs) b
slash_sound spot c [] b f q e = stray_found spot c [] Slash b f q tt e
slash_sound spot c (d ∷ ds) b f q e =
    let line = begun k.Gap (after in_line ds) None in
    let block = begin_block (block_from false ds) in
    elim (tells (d == 47)) [
      | inl h ↦ (let z : d ≡ 47 = grind (arith, nat_tests) in
          is_found spot (c ∷ d ∷ ds) k.Gap (after in_line ds) None b (ap (λ x. cond x line (cond (d == 42) block (stray (d ∷ ds)))) (sym h) ∙ e) (record {
            p = LineComment (during in_line ds);
            bytes = ap (λ y. y ∷ d ∷ ds) (slash_is c q) ∙ ap (λ y. 47 ∷ y ∷ ds) z ∙ ap (λ y. 47 ∷ 47 ∷ y) (span in_line ds);
            piece = (all_during in_line ds, stops_after in_line ds);
            fits = f;
          }))
      | inr h ↦ (let e2 : cond (d == 42) block (stray (d ∷ ds)) ≡ Some b = ap (λ x. cond x line (cond (d == 42) block (stray (d ∷ ds)))) (sym h) ∙ e in
          elim (tells (d == 42)) [
            | inl g ↦ (let z : d ≡ 42 = grind (arith, nat_tests) in block_is spot c d ds b (block_from false ds) f q z refl (ap (λ x. cond x block (stray (d ∷ ds))) (sym g) ∙ e2))
            | inr g ↦ stray_found spot c (d ∷ ds) Slash b f q (either_false (d == 47) (d == 42) h g) (ap (λ x. cond x block (stray (d ∷ ds))) (sym g) ∙ e2)
          ])
    ]

-- a mark of two bytes, or what the first is by itself
mark_sound : (spot : Spot) (c : ℕ) (cs : List ℕ) (b : Begun) (by_itself : Option Begun) → CodeSpot spot → begin_mark (past_pair c cs) by_itself ≡ Some b → (Stops (is_pair c) cs → by_itself ≡ Some b → Found spot (c ∷ cs) b) → Found spot (c ∷ cs) b
mark_sound spot c [] b by_itself f e on = on tt e
mark_sound spot c (d ∷ ds) b by_itself f e on = elim (tells (is_pair c d)) [
  | inl h ↦ is_found spot (c ∷ d ∷ ds) k.Mark ds None b (ap (λ x. begin_mark (cond x (Some ds) None) by_itself) (sym h) ∙ e) (record { p = LongMark c d; bytes = refl; piece = h; fits = f })
  | inr h ↦ on h (ap (λ x. begin_mark (cond x (Some ds) None) by_itself) (sym h) ∙ e)
]

close_sound : (spot : Spot) (c : ℕ) (cs : List ℕ) (b : Begun) → CodeSpot spot → class c ≡ ClosesBrace → begun (closing (is_hole spot)) cs None ≡ Some b → Found spot (c ∷ cs) b
close_sound s.Code c cs b f q e = is_found s.Code (c ∷ cs) k.CloseBrace cs None b e (record { p = CloseBrace; bytes = ap (λ y. y ∷ cs) (close_is c q); piece = tt; fits = tt })
close_sound s.Hole c cs b f q e = is_found s.Hole (c ∷ cs) k.HoleEnd cs None b e (record { p = HoleEnd; bytes = ap (λ y. y ∷ cs) (close_is c q); piece = tt; fits = tt })
close_sound s.Template c cs b f q e = absurd f

class_sound : (x : Class) (spot : Spot) (c : ℕ) (cs : List ℕ) (b : Begun) → CodeSpot spot → class c ≡ x → begin_code (is_hole spot) x c cs ≡ Some b → Found spot (c ∷ cs) b
class_sound Space spot c cs b f q e = is_found spot (c ∷ cs) k.Gap cs None b e (record { p = Blank c; bytes = refl; piece = ap is_space_class q; fits = f })
class_sound LineFeed spot c cs b f q e = is_found spot (c ∷ cs) k.Gap cs None b e (record { p = Blank c; bytes = refl; piece = ap is_space_class q; fits = f })
class_sound Letter spot c cs b f q e = word_sound spot c cs b f q e
class_sound Digit spot c cs b f q e =
    is_found spot (c ∷ cs) k.Number (after is_digit cs) (cond (nat_lt greatest (value_from 0 (c ∷ during is_digit cs))) (Some (TooLarge, 0)) None) b e
    (record { p = Number c (during is_digit cs); bytes = ap (λ y. c ∷ y) (span is_digit cs); piece = (q, all_during is_digit cs, stops_after is_digit cs); fits = f })
class_sound Quote spot c cs b f q e = text_sound spot c cs b (run_from OfText 1 None cs) f q refl e
class_sound Slash spot c cs b f q e = slash_sound spot c cs b f q e
class_sound OpensBrace spot c cs b f q e = is_found spot (c ∷ cs) k.OpenBrace cs None b e (record { p = OpenBrace; bytes = ap (λ y. y ∷ cs) (open_is c q); piece = tt; fits = f })
class_sound ClosesBrace spot c cs b f q e = close_sound spot c cs b f q e
class_sound Sign spot c cs b f q e = mark_sound spot c cs b (begun k.Mark cs None) f e (λ stop g. is_found spot (c ∷ cs) k.Mark cs None b g (record { p = Mark c; bytes = refl; piece = (q, stop); fits = f }))
class_sound Half spot c cs b f q e = mark_sound spot c cs b (stray cs) f e (λ stop g. stray_found spot c cs Half b f q stop g)
class_sound Other spot c cs b f q e = stray_found spot c cs Other b f q tt e

-- characters of a template: not none, since the first byte ends nothing
characters_found : (c : ℕ) (cs rest : List ℕ) → is_end OfTemplate c ≡ false → r.Characters OfTemplate (c ∷ cs) rest → FoundBefore s.Template (c ∷ cs) rest
characters_found c cs rest apart x = record {
  p = Characters x.us;
  bytes = x.bytes;
  piece = (λ none. (let at : Begins (is_end OfTemplate) (c ∷ cs) = subst (λ (z : List ℕ). Begins (is_end OfTemplate) z) (sym (x.bytes ∙ ap (λ us. inside us ++ rest) none)) x.end in absurd (cc)), x.all, x.end);
  fits = tt;
}

characters_sound : (c : ℕ) (cs : List ℕ) (b : Begun) (run : Option Run) → is_end OfTemplate c ≡ false → run_from OfTemplate 0 None (c ∷ cs) ≡ run → begin_characters run ≡ Some b → Found s.Template (c ∷ cs) b
characters_sound c cs b None apart is e = absurd (cc)
characters_sound c cs b (Some run) apart is e = is_found s.Template (c ∷ cs) k.Characters run.rest (bad_byte run.bad) b e (characters_found c cs run.rest apart (run_sound OfTemplate (c ∷ cs) 0 None run is))

template_sound : (c : ℕ) (cs : List ℕ) (b : Begun) → begin_template c cs ≡ Some b → Found s.Template (c ∷ cs) b
template_sound c cs b e =
    let run = begin_characters (run_from OfTemplate 0 None (c ∷ cs)) in
    let hole = begun k.HoleStart cs None in
    elim (tells (c == 39)) [
      | inl h ↦ (let z : c ≡ 39 = grind (arith, nat_tests) in
          is_found s.Template (c ∷ cs) k.TemplateEnd cs None b (ap (λ x. cond x (begun k.TemplateEnd cs None) (cond (c == 123) hole run)) (sym h) ∙ e) (record { p = TemplateEnd; bytes = ap (λ y. y ∷ cs) z; piece = tt; fits = tt }))
      | inr h ↦ (let e2 : cond (c == 123) hole run ≡ Some b = ap (λ x. cond x (begun k.TemplateEnd cs None) (cond (c == 123) hole run)) (sym h) ∙ e in
          elim (tells (c == 123)) [
            | inl g ↦ (let z : c ≡ 123 = grind (arith, nat_tests) in
                is_found s.Template (c ∷ cs) k.HoleStart cs None b (ap (λ x. cond x hole run) (sym g) ∙ e2) (record { p = HoleStart; bytes = ap (λ y. y ∷ cs) z; piece = tt; fits = tt }))
            | inr g ↦ characters_sound c cs b (run_from OfTemplate 0 None (c ∷ cs)) (either_false (c == 39) (c == 123) h g) refl (ap (λ x. cond x hole run) (sym g) ∙ e2)
          ])
    ]

pub piece_sound : (spot : Spot) (ts : List ℕ) (b : Begun) → begin spot ts ≡ Some b → Found spot ts b
piece_sound spot [] b e = absurd (cc)
piece_sound s.Template (c ∷ cs) b e = template_sound c cs b e
piece_sound s.Code (c ∷ cs) b e = class_sound (class c) s.Code c cs b tt refl e
piece_sound s.Hole (c ∷ cs) b e = class_sound (class c) s.Hole c cs b tt refl e
