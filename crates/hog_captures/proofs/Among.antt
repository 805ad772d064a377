-- Whether a word is among others.
use Rattle.std.proofs.Common.{◌≡◌, ℕ, ◌+◌, ◌<◌, List, [], ◌∷◌, ◌++◌, length, drop, get_or, Option, Some, None, Bool, true, false, not, ◌&&◌, ◌||◌, bytes_eq, cond, refl, sym, ap, ◌∙◌, arith}
use Rattle.std.specs.Cmp.Lexicographic.{bytes_decides}
use Rattle.std.proofs.lemmas.List.{drop_more}
use Rattle.hog_tree.specs.Plain.{Word}
use Rattle.hog_captures.specs.Frees.{is_among, without, without_all, without_name}
use Rattle.hog_captures.specs.View.{is_name}

pub among-append : (w : Word) (xs ys : List Word) → is_among w (xs ++ ys) ≡ (is_among w xs || is_among w ys)
among-append w [] ys = refl
among-append w (x ∷ xs) ys = grind (arith, among-append w xs ys)

left_same : (u v w : Word) → bytes_eq u v ≡ true → bytes_eq u w ≡ bytes_eq v w
left_same u v w e = ap (λ x. bytes_eq x w) ((bytes_decides u v).0 e)

right_same : (u v w : Word) → bytes_eq v w ≡ true → bytes_eq u w ≡ bytes_eq u v
right_same u v w e = ap (bytes_eq u) (sym ((bytes_decides v w).0 e))

none_left : (b : Bool) → false ≡ (b && false)
none_left true = refl
none_left false = refl

-- a word that was left out
pub among-without : (w v : Word) (ws : List Word) → is_among w (without v ws) ≡ (not (bytes_eq v w) && is_among w ws)
among-without w v [] = none_left (not (bytes_eq v w))
among-without w v (u ∷ ws) = by (bytes_eq u v) refl (bytes_eq v w) refl (among-without w v ws)
  where
    by : (b : Bool) → bytes_eq u v ≡ b → (c : Bool) → bytes_eq v w ≡ c → is_among w (without v ws) ≡ (not c && is_among w ws)
        → is_among w (cond b (without v ws) (u ∷ without v ws)) ≡ (not c && (bytes_eq u w || is_among w ws))
    by true e true f ih = ih
    by true e false f ih = rw (left_same u v w e ∙ f) ih
    by false e true f ih = rw (right_same u v w f ∙ e) ih
    by false e false f ih = ap (λ r. bytes_eq u w || r) ih

pub among-without_all : (w : Word) (ps ws : List Word) → is_among w (without_all ps ws) ≡ (not (is_among w ps) && is_among w ws)
among-without_all w [] ws = refl
among-without_all w (p ∷ ps) ws = grind (arith, among-without w p (without_all ps ws), among-without_all w ps ws)

pub among-without_name : (w : Word) (n : Option Word) (ws : List Word) → is_among w (without_name n ws) ≡ (not (is_name w n) && is_among w ws)
among-without_name w None ws = refl
among-without_name w (Some v) ws = among-without w v ws

-- a list whose items are gone through, where `words` gives the words of items one after another
module _ {X : Type 0} (one : X → List Word) (words : List X → List Word) (cons : (x : X) (xs : List X) → words (x ∷ xs) ≡ one x ++ words xs)
    (w : Word) (xs : List X) (i : ℕ) (x : X) (lt : i < length xs) (is : x ≡ get_or xs i x) (same : is_among w (words (drop i xs)) ≡ is_among w (words xs)) where
  here : is_among w (words xs) ≡ (is_among w (one x) || is_among w (words (drop (i + 1) xs)))
  here =
      sym same ∙ ap (λ ys. is_among w (words ys)) (drop_more xs i x lt ∙ ap (λ y. y ∷ drop (i + 1) xs) (sym is))
      ∙ ap (is_among w) (cons x (drop (i + 1) xs)) ∙ among-append w (one x) (words (drop (i + 1) xs))

  pub met : true ≡ is_among w (one x) → true ≡ is_among w (words xs)
  met found = sym (here ∙ ap (λ b. b || is_among w (words (drop (i + 1) xs))) (sym found))

  pub passed : false ≡ is_among w (one x) → is_among w (words (drop (i + 1) xs)) ≡ is_among w (words xs)
  passed none = sym (here ∙ ap (λ b. b || is_among w (words (drop (i + 1) xs))) (sym none))

pub ruleset amongs = (among-append, among-without, among-without_all, among-without_name)
