-- The free words of the first items of lists.
use Rattle.std.proofs.Common.{◌≡◌, ℕ, ◌+◌, ◌<◌, List, [], ◌∷◌, ◌++◌, length, take, get_or, Option, Some, None, Bool, true, false, bytes_eq, cond, refl, sym, ap, ◌∙◌, append-nil, append_assoc}
use Rattle.std.specs.Prelude.{option_to_list}
use Rattle.std.proofs.lemmas.List.{take_more}
use Rattle.hog_tree.specs.Plain.{Word}
use Rattle.hog_tree.specs.declared.tree.Stmt.{Stmt}
use Rattle.hog_tree.specs.View.{stm_of, stms_from}
use Rattle.hog_captures.specs.Frees.{without, without_all, without_name, name_by, stm_frees, stms_frees}

-- the names that these statements declare
abbrev pub names_in : List Stmt → List Word
names_in [] = []
names_in (s ∷ ss) = option_to_list (name_by (stm_of s)) ++ names_in ss

-- a list that gives words: those of its items one after another
module _ {X : Type 0} (one : X → List Word) (words : List X → List Word) (nil : words [] ≡ []) (cons : (x : X) (xs : List X) → words (x ∷ xs) ≡ one x ++ words xs) where
  words-snoc : (xs : List X) (x : X) → words (xs ++ x ∷ []) ≡ words xs ++ one x
  words-snoc [] x = cons x [] ∙ ap (λ r. one x ++ r) nil ∙ append-nil (one x) ∙ ap (λ r. r ++ one x) (sym nil)
  words-snoc (y ∷ xs) x =
      cons y (xs ++ x ∷ []) ∙ ap (λ r. one y ++ r) (words-snoc xs x) ∙ sym (append_assoc (one y) (words xs) (one x)) ∙ ap (λ r. r ++ one x) (sym (cons y xs))

  pub words_more : (xs : List X) (i : ℕ) (x : X) → i < length xs → x ≡ get_or xs i x → words (take (i + 1) xs) ≡ words (take i xs) ++ one x
  words_more xs i x lt is = ap words (take_more xs i x lt ∙ ap (λ y. take i xs ++ y ∷ []) (sym is)) ∙ words-snoc (take i xs) x

without-append : (w : Word) (xs ys : List Word) → without w (xs ++ ys) ≡ without w xs ++ without w ys
without-append w [] ys = refl
without-append w (x ∷ xs) ys = by (bytes_eq x w) (without-append w xs ys)
  where
    by : (b : Bool) → without w (xs ++ ys) ≡ without w xs ++ without w ys
        → cond b (without w (xs ++ ys)) (x ∷ without w (xs ++ ys)) ≡ cond b (without w xs) (x ∷ without w xs) ++ without w ys
    by true ih = ih
    by false ih = ap (λ r. x ∷ r) ih

name-append : (n : Option Word) (xs ys : List Word) → without_name n (xs ++ ys) ≡ without_name n xs ++ without_name n ys
name-append None xs ys = refl
name-append (Some w) xs ys = without-append w xs ys

pub name_is : (n : Option Word) (names ws : List Word) → without_name n (without_all names ws) ≡ without_all (option_to_list n ++ names) ws
name_is None names ws = refl
name_is (Some w) names ws = refl

stms-snoc : (xs : List Stmt) (x : Stmt) → stms_frees true (stms_from (xs ++ x ∷ [])) ≡ stms_frees true (stms_from xs) ++ without_all (names_in xs) (stm_frees true (stm_of x))
stms-snoc [] x = append-words (name_by (stm_of x))
  where
    append-words : (n : Option Word) → stm_frees true (stm_of x) ++ without_name n [] ≡ stm_frees true (stm_of x)
    append-words None = append-nil (stm_frees true (stm_of x))
    append-words (Some w) = append-nil (stm_frees true (stm_of x))
stms-snoc (y ∷ xs) x =
    let n = name_by (stm_of y) in
    let own = stm_frees true (stm_of y) in
    let last = stm_frees true (stm_of x) in
    let rest = stms_frees true (stms_from xs) in
    ap (λ r. own ++ without_name n r) (stms-snoc xs x)
    ∙ ap (λ r. own ++ r) (name-append n rest (without_all (names_in xs) last) ∙ ap (λ r. without_name n rest ++ r) (name_is n (names_in xs) last))
    ∙ sym (append_assoc own (without_name n rest) (without_all (option_to_list n ++ names_in xs) last))

pub stms_more : (xs : List Stmt) (i : ℕ) (x : Stmt) → i < length xs → x ≡ get_or xs i x
    → stms_frees true (stms_from (take (i + 1) xs)) ≡ stms_frees true (stms_from (take i xs)) ++ without_all (names_in (take i xs)) (stm_frees true (stm_of x))
stms_more xs i x lt is = ap (λ ys. stms_frees true (stms_from ys)) (take_more xs i x lt ∙ ap (λ y. take i xs ++ y ∷ []) (sym is)) ∙ stms-snoc (take i xs) x

names-snoc : (xs : List Stmt) (x : Stmt) → names_in (xs ++ x ∷ []) ≡ names_in xs ++ option_to_list (name_by (stm_of x))
names-snoc [] x = append-nil (option_to_list (name_by (stm_of x)))
names-snoc (y ∷ xs) x =
    let n = option_to_list (name_by (stm_of y)) in
    ap (λ r. n ++ r) (names-snoc xs x) ∙ sym (append_assoc n (names_in xs) (option_to_list (name_by (stm_of x))))

pub names_more : (xs : List Stmt) (i : ℕ) (x : Stmt) → i < length xs → x ≡ get_or xs i x → names_in (take (i + 1) xs) ≡ names_in (take i xs) ++ option_to_list (name_by (stm_of x))
names_more xs i x lt is = ap names_in (take_more xs i x lt ∙ ap (λ y. take i xs ++ y ∷ []) (sym is)) ∙ names-snoc (take i xs) x
