-- A test of pieces that stand by themselves, whatever follows them.
use Rattle.std.proofs.Common.{◌≡◌, ℕ, ◌<◌, Bool, true, false, cond, List, [], ◌∷◌, ◌++◌, refl, ap, ◌∙◌, arith, inl, inr}
use Rattle.std.specs.Prelude.{◌==◌, ◌&&◌, ◌||◌, nat_lt}
use Rattle.std.proofs.lemmas.Bool.Decides.{Decides-eqb, nat_tests}
use Rattle.hog_grammar.specs.Bytes.{Class, Sign, class, is_pair, is_space, is_word, is_quote, Stops}
use Rattle.hog_grammar.specs.Pieces.{Piece, Blank, Word, Mark, LongMark, IsPiece, IsGood, AreGood, Code, Moves}
use Rattle.hog_grammar.specs.Terminal.{Terminal}
use Rattle.hog_grammar.proofs.Meaning.{meanings}
use Rattle.hog_grammar.proofs.Utf8.{AllLow, all_low}
use Rattle.hog_tokens.proofs.Tests.{and_true, or_true}
use Rattle.hog_printer.proofs.Meant.{is_letter_class, letter_class, all_word, all_words}
use Rattle.hog_printer.proofs.Pieces.{Prints, Any, Fits, Walks, spelled_all}

-- a test that a piece can stand before these bytes, and more

abbrev is_sign_class : Class → Bool
is_sign_class Sign = true
is_sign_class _ = false

sign_class : (x : Class) → is_sign_class x ≡ true → x ≡ Sign
sign_class Sign e = refl
sign_class _ e = absurd (cc)

abbrev ends_word : ℕ → Bool
ends_word c = cond (is_word c) false (cond (is_quote c) false true)

ended : (a b : Bool) → cond a false (cond b false true) ≡ true → (a ≡ false) × (b ≡ false)
ended true b e = absurd (cc)
ended false true e = absurd (cc)
ended false false e = (refl, refl)

-- a mark that is part of no longer one
abbrev is_alone : ℕ → Bool
is_alone c = c == 40 || c == 41 || c == 91 || c == 93 || c == 46 || c == 59

abbrev Alone : ℕ → Type 0
Alone c = (d : ℕ) → is_pair c d ≡ false

alone_at : (c e : ℕ) → (c == e) ≡ true → Alone e → Alone c
alone_at c e h a d = ap (λ z. is_pair z d) ((Decides-eqb c e).0 h) ∙ a d

alone_40 : Alone 40
unfolding is_pair
alone_40 d = refl

alone_41 : Alone 41
unfolding is_pair
alone_41 d = refl

alone_91 : Alone 91
unfolding is_pair
alone_91 d = refl

alone_93 : Alone 93
unfolding is_pair
alone_93 d = refl

alone_46 : Alone 46
unfolding is_pair
alone_46 d = refl

alone_59 : Alone 59
unfolding is_pair
alone_59 d = refl

alone_is : (c : ℕ) → is_alone c ≡ true → Alone c
alone_is c h = elim (or_true (c == 40 || c == 41 || c == 91 || c == 93 || c == 46) (c == 59) h) [
  | inr e ↦ alone_at c 59 e alone_59
  | inl x ↦ (elim (or_true (c == 40 || c == 41 || c == 91 || c == 93) (c == 46) x) [
    | inr e ↦ alone_at c 46 e alone_46
    | inl y ↦ (elim (or_true (c == 40 || c == 41 || c == 91) (c == 93) y) [
      | inr e ↦ alone_at c 93 e alone_93
      | inl z ↦ (elim (or_true (c == 40 || c == 41) (c == 91) z) [
        | inr e ↦ alone_at c 91 e alone_91
        | inl w ↦ (elim (or_true (c == 40) (c == 41) w) [
          | inr e ↦ alone_at c 41 e alone_41
          | inl e ↦ alone_at c 40 e alone_40
        ])
      ])
    ])
  ])
]

alone_stops : (c : ℕ) (more : List ℕ) → Alone c → Stops (is_pair c) more
alone_stops c [] a = tt
alone_stops c (d ∷ more) a = a d

abbrev stands : Piece → List ℕ → Bool
stands (Blank c) rest = is_space c
stands (Word c cs) [] = false
stands (Word c cs) (d ∷ rest) = is_letter_class (class c) && (all_word cs && ends_word d)
stands (Mark c) [] = is_sign_class (class c) && is_alone c
stands (Mark c) (d ∷ rest) = is_sign_class (class c) && cond (is_pair c d) false true
stands (LongMark c d) rest = is_pair c d
stands _ rest = false

negated : (b : Bool) → cond b false true ≡ true → b ≡ false
negated true e = absurd (cc)
negated false e = refl

piece_stands : (p : Piece) (rest more : List ℕ) → stands p rest ≡ true → IsPiece p (rest ++ more)
piece_stands (Blank c) rest more e = e
piece_stands (Word c cs) [] more e = absurd (cc)
piece_stands (Word c cs) (d ∷ rest) more e =
    let a = and_true (is_letter_class (class c)) (all_word cs && ends_word d) e in
    let b = and_true (all_word cs) (ends_word d) a.1 in
    let two = ended (is_word d) (is_quote d) b.1 in
    (letter_class (class c) a.0, all_words cs b.0, two.0, λ _. two.1)
piece_stands (Mark c) [] more e = let a = and_true (is_sign_class (class c)) (is_alone c) e in (sign_class (class c) a.0, alone_stops c more (alone_is c a.1))
piece_stands (Mark c) (d ∷ rest) more e = let a = and_true (is_sign_class (class c)) (cond (is_pair c d) false true) e in (sign_class (class c) a.0, negated (is_pair c d) a.1)
piece_stands (LongMark c d) rest more e = e
piece_stands _ rest more e = absurd (cc)

piece_moves : (p : Piece) (rest holes : List ℕ) → stands p rest ≡ true → Moves p (Code holes) (Code holes)
piece_moves (Blank c) rest holes e = (holes, refl, refl)
piece_moves (Word c cs) rest holes e = (holes, refl, refl)
piece_moves (Mark c) rest holes e = (holes, refl, refl)
piece_moves (LongMark c d) rest holes e = (holes, refl, refl)
piece_moves _ rest holes e = absurd (cc)

piece_good : (p : Piece) (rest : List ℕ) → stands p rest ≡ true → IsGood p
piece_good (Blank c) rest e = tt
piece_good (Word c cs) rest e = tt
piece_good (Mark c) rest e = tt
piece_good (LongMark c d) rest e = tt
piece_good _ rest e = absurd (cc)

abbrev all_stand : List Piece → Bool
all_stand [] = true
all_stand (p ∷ ps) = stands p (spelled_all ps) && all_stand ps

abbrev are_low : List ℕ → Bool
are_low [] = true
are_low (c ∷ cs) = nat_lt c 128 && are_low cs

one_low : (c : ℕ) → nat_lt c 128 ≡ true → c < 128
one_low c e = grind (arith, nat_tests)

low_bytes : (cs : List ℕ) → are_low cs ≡ true → AllLow cs
low_bytes [] e = tt
low_bytes (c ∷ cs) e = let two = and_true (nat_lt c 128) (are_low cs) e in (one_low c two.0, low_bytes cs two.1)

all_fit : (ps : List Piece) (more : List ℕ) → all_stand ps ≡ true → Fits ps more
all_fit [] more e = tt
all_fit (p ∷ ps) more e = let two = and_true (stands p (spelled_all ps)) (all_stand ps) e in (piece_stands p (spelled_all ps) more two.0, all_fit ps more two.1)

all_walk : (ps : List Piece) (holes : List ℕ) → all_stand ps ≡ true → Walks ps (Code holes) (Code holes)
all_walk [] holes e = refl
all_walk (p ∷ ps) holes e = let two = and_true (stands p (spelled_all ps)) (all_stand ps) e in (Code holes, piece_moves p (spelled_all ps) holes two.0, all_walk ps holes two.1)

all_good : (ps : List Piece) → all_stand ps ≡ true → AreGood ps
all_good [] e = tt
all_good (p ∷ ps) e = let two = and_true (stands p (spelled_all ps)) (all_stand ps) e in (piece_good p (spelled_all ps) two.0, all_good ps two.1)

-- Pieces that pass the test print so.
pub lit : (ps : List Piece) (ts : List Terminal) → all_stand ps ≡ true → are_low (spelled_all ps) ≡ true → meanings ps ≡ ts → Prints Code Code Any (spelled_all ps) ts
lit ps ts ok low means = record {
  pieces = ps;
  bytes = refl;
  meaning = means;
  fits = λ more next. all_fit ps more ok;
  walks = λ holes. all_walk ps holes ok;
  good = all_good ps ok;
  utf8 = all_low (spelled_all ps) (low_bytes (spelled_all ps) low);
}

-- a space
abbrev pub sp : Piece
sp = Blank 32
