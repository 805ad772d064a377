-- What the tokens of a text can mean.
use Rattle.std.proofs.Common.{◌≡◌, ◌≢◌, List, [], ◌∷◌, ◌++◌, Bool, true, false, cond, ℕ, ◌≤◌, refl, sym, ap, ◌∙◌, subst, ◌⊎◌, inl, inr}
use Rattle.std.specs.Prelude.{◌&&◌, bytes_eq}
use Rattle.std.specs.Str.{IsUtf8}
use Rattle.std.proofs.lemmas.Slice.Eq.{bytes_eq-Decides}
use Rattle.hog_tree.specs.Plain.{Word}
use Rattle.hog_grammar.specs.Bytes.{Class, Letter, class, is_word, AllOf, greatest}
use Rattle.hog_grammar.specs.Terminal.{Terminal, word, mark, named, reserved_words, marks}
use Rattle.hog_grammar.specs.Terminal as k
use Rattle.hog_tokens.proofs.Tests.{tells, and_true}
use Rattle.hog_printer.proofs.Fit.{IsWord, IsFree}

abbrev pub IsMeant : Terminal → Type 0
IsMeant (k.Word w) = IsFree w
IsMeant (k.Number n) = n ≤ greatest
IsMeant (k.Text bs) = IsUtf8 bs
IsMeant (k.Characters bs) = (bs ≢ []) × IsUtf8 bs
IsMeant _ = Unit {0}

abbrev pub begins_characters : List Terminal → Bool
begins_characters [] = false
begins_characters (k.Characters bs ∷ ts) = true
begins_characters (_ ∷ ts) = false

-- no two runs of characters stand side by side
abbrev pub IsApart : Terminal → List Terminal → Type 0
IsApart (k.Characters bs) ts = begins_characters ts ≡ false
IsApart _ ts = Unit {0}

abbrev pub AreMeant : List Terminal → Type 0
AreMeant [] = Unit {0}
AreMeant (t ∷ ts) = IsMeant t × IsApart t ts × AreMeant ts

-- parts of such a list

first_same : (t : Terminal) (xs ys : List Terminal) → begins_characters (t ∷ (xs ++ ys)) ≡ begins_characters (t ∷ xs)
first_same (k.Characters bs) xs ys = refl
first_same _ xs ys = refl

front_free : (xs ys : List Terminal) → begins_characters (xs ++ ys) ≡ false → begins_characters xs ≡ false
front_free [] ys h = refl
front_free (t ∷ xs) ys h = sym (first_same t xs ys) ∙ h

front_apart : (t : Terminal) (xs ys : List Terminal) → IsApart t (xs ++ ys) → IsApart t xs
front_apart (k.Characters bs) xs ys h = front_free xs ys h
front_apart _ xs ys h = tt

pub front : (xs ys : List Terminal) → AreMeant (xs ++ ys) → AreMeant xs
front [] ys m = tt
front (t ∷ xs) ys m = (m.0, front_apart t xs ys m.1, front xs ys m.2)

pub back : (xs ys : List Terminal) → AreMeant (xs ++ ys) → AreMeant ys
back [] ys m = m
back (t ∷ xs) ys m = back xs ys m.2

-- words

abbrev pub is_letter_class : Class → Bool
is_letter_class Letter = true
is_letter_class _ = false

pub letter_class : (c : Class) → is_letter_class c ≡ true → c ≡ Letter
letter_class Letter e = refl
letter_class _ e = absurd (cc)

abbrev pub all_word : List ℕ → Bool
all_word [] = true
all_word (c ∷ cs) = is_word c && all_word cs

abbrev is_name : Word → Bool
is_name [] = false
is_name (c ∷ cs) = is_letter_class (class c) && all_word cs

pub all_words : (cs : List ℕ) → all_word cs ≡ true → AllOf is_word cs
all_words [] e = tt
all_words (c ∷ cs) e = let two = and_true (is_word c) (all_word cs) e in (two.0, all_words cs two.1)

name_word : (w : Word) → is_name w ≡ true → IsWord w
name_word [] e = absurd (cc)
name_word (c ∷ cs) e =
    let two = and_true (is_letter_class (class c)) (all_word cs) e in
    record { first = c; others = cs; bytes = refl; letter = letter_class (class c) two.0; all = all_words cs two.1 }

abbrev all_names : List (List ℕ × Terminal) → Bool
all_names [] = true
all_names (row ∷ rows) = is_name row.0 && all_names rows

reserved_names : all_names reserved_words ≡ true
unfolding class
reserved_names = refl

same_bytes : (xs ys : List ℕ) → bytes_eq xs ys ≡ true → xs ≡ ys
same_bytes xs ys e = (bytes_eq-Decides xs ys).0 e

named_word : (rows : List (List ℕ × Terminal)) (w : Word) (other : Terminal) → all_names rows ≡ true → (named rows w other ≡ other) ⊎ IsWord w
named_word [] w other all = inl refl
named_word (row ∷ rows) w other all =
    let two = and_true (is_name row.0) (all_names rows) all in
    elim (tells (bytes_eq row.0 w)) [
      | inl h ↦ inr (subst IsWord (same_bytes row.0 w h) (name_word row.0 two.0))
      | inr h ↦ (elim (named_word rows w other two.1) [
        | inl e ↦ inl (ap (λ b. cond b row.1 (named rows w other)) h ∙ e)
        | inr x ↦ inr x
      ])
    ]

-- The name of a property in a text is a word.
pub word_is : (w : Word) → IsMeant (word w) → IsWord w
unfolding word
word_is w m = elim (named_word reserved_words w (k.Word w) reserved_names) [
  | inl e ↦ (let free : IsFree w = subst IsMeant e m in free.is_word)
  | inr x ↦ x
]

-- what may stand anywhere
abbrev pub Ordinary : Terminal → Type 0
Ordinary t = IsMeant t × ((ts : List Terminal) → IsApart t ts)

abbrev AllOrdinary : List (List ℕ × Terminal) → Type 0
AllOrdinary [] = Unit {0}
AllOrdinary (row ∷ rows) = Ordinary row.1 × AllOrdinary rows

named_ordinary : (rows : List (List ℕ × Terminal)) (w : Word) (other : Terminal) → AllOrdinary rows → (named rows w other ≡ other → Ordinary other) → Ordinary (named rows w other)
named_ordinary [] w other all o = o refl
named_ordinary (row ∷ rows) w other all o = elim (tells (bytes_eq row.0 w)) [
  | inl h ↦ subst (λ (b : Bool). Ordinary (cond b row.1 (named rows w other))) (sym h) all.0
  | inr h ↦ subst (λ (b : Bool). Ordinary (cond b row.1 (named rows w other))) (sym h) (named_ordinary rows w other all.1 (λ e. o (ap (λ b. cond b row.1 (named rows w other)) h ∙ e)))
]

plain : Unit {0} × ((ts : List Terminal) → Unit {0})
plain = (tt, λ _. tt)

pub word_ordinary : (w : Word) → IsWord w → Ordinary (word w)
unfolding word plain
word_ordinary w is = named_ordinary reserved_words w (k.Word w)
    (plain, (plain, (plain, (plain, (plain, (plain, (plain, (plain, (plain, (plain, (plain, (plain, (plain, (plain, (plain, (plain, (plain, tt)))))))))))))))))
    (λ e. (record { is_word = is; free = e }, λ _. tt))

pub mark_ordinary : (bytes : List ℕ) → Ordinary (mark bytes)
unfolding mark plain
mark_ordinary bytes = named_ordinary marks bytes k.Nothing
    (plain, (plain, (plain, (plain, (plain, (plain, (plain, (plain, (plain, (plain, (plain, (plain, (plain, (plain, (plain, (plain, (plain, (plain, (plain, (plain, (plain, (plain, (plain, tt)))))))))))))))))))))))
    (λ e. plain)
