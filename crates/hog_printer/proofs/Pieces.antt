-- Pieces that a printed text is cut into, and texts that are put together.
use Rattle.std.proofs.Common.{◌≡◌, ℕ, List, [], ◌∷◌, ◌++◌, Option, Some, None, refl, sym, ap, ◌∙◌, subst, append_assoc, append-nil}
use Rattle.std.specs.Str.{IsUtf8}
use Rattle.std.proofs.lemmas.Str.{IsUtf8-append}
use Rattle.hog_grammar.specs.declared.token.Token.{Token}
use Rattle.hog_grammar.specs.declared.token.TokenKind.{TokenKind}
use Rattle.hog_grammar.specs.Bytes.{is_word, is_quote, Stops}
use Rattle.hog_grammar.specs.Pieces.{Piece, spelled, IsPiece, AreGood, Place, Code, Moves, Passes, kind_of, tokens_at, IsTokensOf}
use Rattle.hog_grammar.specs.Terminal.{Terminal, terminals}
use Rattle.hog_grammar.proofs.Meaning.{with_meaning, meanings, terminals_of_pieces}

abbrev pub spelled_all : List Piece → List ℕ
spelled_all [] = []
spelled_all (p ∷ ps) = spelled p ++ spelled_all ps

spelled_all-append : (ps qs : List Piece) → spelled_all (ps ++ qs) ≡ spelled_all ps ++ spelled_all qs
spelled_all-append [] qs = refl
spelled_all-append (p ∷ ps) qs = ap (λ z. spelled p ++ z) (spelled_all-append ps qs) ∙ sym (append_assoc (spelled p) (spelled_all ps) (spelled_all qs))

with_more : (kind : Option TokenKind) (bytes : List ℕ) (ss ts : List Terminal) → with_meaning kind bytes (ss ++ ts) ≡ with_meaning kind bytes ss ++ ts
with_more None bytes ss ts = refl
with_more (Some kind) bytes ss ts = refl

meanings-append : (ps qs : List Piece) → meanings (ps ++ qs) ≡ meanings ps ++ meanings qs
meanings-append [] qs = refl
meanings-append (p ∷ ps) qs = ap (with_meaning (kind_of p) (spelled p)) (meanings-append ps qs) ∙ with_more (kind_of p) (spelled p) (meanings ps) (meanings qs)

good_append : (ps qs : List Piece) → AreGood ps → AreGood qs → AreGood (ps ++ qs)
good_append [] qs f g = g
good_append (p ∷ ps) qs f g = (f.0, good_append ps qs f.1 g)

-- each is the longest piece that can stand there, where these bytes follow the last
abbrev pub Fits : List Piece → List ℕ → Type 0
Fits [] more = Unit {0}
Fits (p ∷ ps) more = IsPiece p (spelled_all ps ++ more) × Fits ps more

fits_append : (ps qs : List Piece) (more : List ℕ) → Fits ps (spelled_all qs ++ more) → Fits qs more → Fits (ps ++ qs) more
fits_append [] qs more f g = g
fits_append (p ∷ ps) qs more f g =
    let same : spelled_all (ps ++ qs) ++ more ≡ spelled_all ps ++ (spelled_all qs ++ more) = ap (λ z. z ++ more) (spelled_all-append ps qs) ∙ append_assoc (spelled_all ps) (spelled_all qs) more in
    (subst (IsPiece p) (sym same) f.0, fits_append ps qs more f.1 g)

-- they lead from one place to the other
abbrev pub Walks : List Piece → Place → Place → Type 0
Walks [] from to = from ≡ to
Walks (p ∷ ps) from to = (next : Place) × Moves p from next × Walks ps next to

walks_append : (ps qs : List Piece) (a b c : Place) → Walks ps a b → Walks qs b c → Walks (ps ++ qs) a c
walks_append [] qs a b c w v = subst (λ (z : Place). Walks qs z c) (sym w) v
walks_append (p ∷ ps) qs a b c w v = (w.0, w.1, walks_append ps qs w.0 b c w.2 v)

passes_of : (ps : List Piece) (a b : Place) (more : List ℕ) → Fits ps more → Walks ps a b → Passes ps a (spelled_all ps ++ more) b more
passes_of [] a b more f w = (w, refl)
passes_of (p ∷ ps) a b more f w =
    record { next = w.0; more = spelled_all ps ++ more; bytes = append_assoc (spelled p) (spelled_all ps) more; piece = f.0; moves = w.1; others = passes_of ps w.0 b more f.1 w.2 }

-- The text is cut into good pieces with these meanings, from one place to another for each list of holes, where
-- what follows is such.
pub record Prints (From To : List ℕ → Place) (Next : List ℕ → Type 0) (text : List ℕ) (ts : List Terminal) : Type 0 where
  pub pieces : List Piece
  pub bytes : text ≡ spelled_all pieces
  pub meaning : meanings pieces ≡ ts
  pub fits : (more : List ℕ) → Next more → Fits pieces more
  pub walks : (holes : List ℕ) → Walks pieces (From holes) (To holes)
  pub good : AreGood pieces
  pub utf8 : IsUtf8 text

-- anything may follow
abbrev pub Any : List ℕ → Type 0
Any more = Unit {0}

-- what follows goes on no word and no number, and makes no template of an `f`
abbrev pub Apart : List ℕ → Type 0
Apart more = Stops is_word more × Stops is_quote more

-- a text that may follow a word, whatever follows it
pub record Sep (text : List ℕ) : Type 0 where
  pub apart : (more : List ℕ) → Apart (text ++ more)

pub joined : {F M T : List ℕ → Place} {N O : List ℕ → Type 0} {xs ys : List ℕ} {ss ts : List Terminal} → Prints F M N xs ss → Prints M T O ys ts → ((more : List ℕ) → O more → N (ys ++ more)) → Prints F T O (xs ++ ys) (ss ++ ts)
joined {F} {M} {T} {N} {O} {xs} {ys} {ss} {ts} a b apart = record {
  pieces = a.pieces ++ b.pieces;
  bytes = ap (λ z. z ++ ys) a.bytes ∙ ap (λ z. spelled_all a.pieces ++ z) b.bytes ∙ sym (spelled_all-append a.pieces b.pieces);
  meaning = meanings-append a.pieces b.pieces ∙ ap (λ z. z ++ meanings b.pieces) a.meaning ∙ ap (λ z. ss ++ z) b.meaning;
  fits = λ more next. fits_append a.pieces b.pieces more (subst (λ (z : List ℕ). Fits a.pieces (z ++ more)) b.bytes (a.fits (ys ++ more) (apart more next))) (b.fits more next);
  walks = λ holes. walks_append a.pieces b.pieces (F holes) (M holes) (T holes) (a.walks holes) (b.walks holes);
  good = good_append a.pieces b.pieces a.good b.good;
  utf8 = IsUtf8-append xs ys a.utf8 b.utf8;
}

pub after_any : {F M T : List ℕ → Place} {O : List ℕ → Type 0} {xs ys : List ℕ} {ss ts : List Terminal} → Prints F M Any xs ss → Prints M T O ys ts → Prints F T O (xs ++ ys) (ss ++ ts)
after_any a b = joined a b (λ more next. tt)

pub after_word : {F M T : List ℕ → Place} {O : List ℕ → Type 0} {xs ys : List ℕ} {ss ts : List Terminal} → Prints F M Apart xs ss → Sep ys → Prints M T O ys ts → Prints F T O (xs ++ ys) (ss ++ ts)
after_word a sep b = joined a b (λ more next. sep.apart more)

-- where anything may follow, such may
pub loosen : {F T : List ℕ → Place} {O : List ℕ → Type 0} {xs : List ℕ} {ss : List Terminal} → Prints F T Any xs ss → Prints F T O xs ss
loosen a = record { pieces = a.pieces; bytes = a.bytes; meaning = a.meaning; fits = λ more next. a.fits more tt; walks = a.walks; good = a.good; utf8 = a.utf8 }

-- the same text or meaning in another form
pub as_text : {F T : List ℕ → Place} {O : List ℕ → Type 0} {xs ys : List ℕ} {ss : List Terminal} → xs ≡ ys → Prints F T O xs ss → Prints F T O ys ss
as_text {F} {T} {O} {xs} {ys} {ss} e a = subst (λ (z : List ℕ). Prints F T O z ss) e a

pub as_tokens : {F T : List ℕ → Place} {O : List ℕ → Type 0} {xs : List ℕ} {ss ts : List Terminal} → ss ≡ ts → Prints F T O xs ss → Prints F T O xs ts
as_tokens {F} {T} {O} {xs} {ss} {ts} e a = subst (λ (z : List Terminal). Prints F T O xs z) e a

-- inside more holes or braces
pub inner : {F T : List ℕ → Place} {O : List ℕ → Type 0} {xs : List ℕ} {ss : List Terminal} (f : List ℕ → List ℕ) → Prints F T O xs ss → Prints (λ holes. F (f holes)) (λ holes. T (f holes)) O xs ss
inner f a = record { pieces = a.pieces; bytes = a.bytes; meaning = a.meaning; fits = a.fits; walks = λ holes. a.walks (f holes); good = a.good; utf8 = a.utf8 }

pub nothing : {F : List ℕ → Place} {O : List ℕ → Type 0} → IsUtf8 [] → Prints F F O [] []
nothing u = record { pieces = []; bytes = refl; meaning = refl; fits = λ more next. tt; walks = λ holes. refl; good = tt; utf8 = u }

-- What is printed has tokens, and they mean that.
pub record HasTokens (text : List ℕ) (ts : List Terminal) : Type 0 where
  pub list : List Token
  pub tokens : IsTokensOf text list
  pub meaning : terminals text list ≡ ts

pub has_tokens : (text : List ℕ) (ts : List Terminal) → Prints Code Code Any text ts → HasTokens text ts
has_tokens text ts a =
    let same : spelled_all a.pieces ++ [] ≡ text = append-nil (spelled_all a.pieces) ∙ sym a.bytes in
    let cut = subst (λ (z : List ℕ). Passes a.pieces (Code []) z (Code []) []) same (passes_of a.pieces (Code []) (Code []) [] (a.fits [] tt) (a.walks [])) in
    record {
      list = tokens_at 0 a.pieces;
      tokens = record { utf8 = a.utf8; pieces = a.pieces; cut = cut; good = a.good; tokens = refl };
      meaning = terminals_of_pieces a.pieces (Code []) (Code []) text [] cut ∙ a.meaning;
    }
