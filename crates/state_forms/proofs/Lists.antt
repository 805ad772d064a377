-- Lists of data, and reading them.
use Rattle.std.proofs.Common.{◌≡◌, ℕ, zero, suc, ◌<◌, ◌+◌, List, [], ◌∷◌, ◌++◌, Option, Some, None, map, length, get_or, drop, add-one, refl, sym, ap, ap₂, ◌∙◌, arith}
use Rattle.std.proofs.lemmas.List.{map-append}
use Rattle.std.proofs.lemmas.Option.{same_Some}
use Rattle.std.proofs.Math.Seq.{drop-cons}
use Rattle.std.specs.List.{AllByRecursion}
use Rattle.serde_json.specs.Data.{Data, Items}
use Rattle.serde_json.specs.View.{items_of}
use Rattle.std.specs.Prelude.{option_map}
use Rattle.state_forms.specs.declared.stop.ReadStop.{ReadStop}
use Rattle.state_forms.specs.declared.stop.ReadStop.TheVariants as stops
use Rattle.state_forms.specs.Shapes.{Fails, ◌>>=◌, items_list, list_in, list, each, list_by}

pub items_list-items_of : (ds : List Data) → items_list (items_of ds) ≡ ds
items_list-items_of [] = refl
items_list-items_of (d ∷ ds) = ap (λ xs. d ∷ xs) (items_list-items_of ds)

pub list_in-list : (ds : List Data) → list_in (list ds) ≡ Some ds
list_in-list ds = ap Some (items_list-items_of ds)

pub each_push : {A B C : Type 0} (f : B → Option C) (v : A → B) (xs : List A) (ys : List C) (x : A) (y : C) → each f (map v xs) ≡ Some ys → f (v x) ≡ Some y → each f (map v (xs ++ x ∷ [])) ≡ Some (ys ++ y ∷ [])
each_push f v [] ys x y e h = push_end (f (v x)) ys y e h
  where
    push_end : {C : Type 0} (o : Option C) (ys : List C) (y : C) → Some [] ≡ Some ys → o ≡ Some y → (o >>= λ z. Some (z ∷ [])) ≡ Some (ys ++ y ∷ [])
    push_end o [] y e h = ap (λ p. p >>= λ z. Some (z ∷ [])) h
    push_end o (z ∷ ys) y e h = absurd cc
each_push {A} {B} {C} f v (w ∷ xs) ys x y e h = more_end (f (v w)) (each f (map v xs)) (each f (map v (xs ++ x ∷ []))) ys y (λ zs k. each_push f v xs zs x y k h) e
  where
    more_end : {C : Type 0} (o : Option C) (r q : Option (List C)) (ys : List C) (y : C) → ((zs : List C) → r ≡ Some zs → q ≡ Some (zs ++ y ∷ [])) → (o >>= λ a. r >>= λ zs. Some (a ∷ zs)) ≡ Some ys → (o >>= λ a. q >>= λ zs. Some (a ∷ zs)) ≡ Some (ys ++ y ∷ [])
    more_end None r q ys y more e = absurd cc
    more_end (Some a) None q ys y more e = absurd cc
    more_end {C} (Some a) (Some zs) q ys y more e = ap (λ p. p >>= λ ws. Some (a ∷ ws)) (more zs refl) ∙ ap (λ (ws : List C). Some (ws ++ y ∷ [])) (same_Some _ _ e)

pub each_none : {A B C : Type 0} (f : B → Option C) (v : A → B) (xs : List A) (i : ℕ) (x : A) → i < length xs → x ≡ get_or xs i x → f (v x) ≡ None → each f (map v xs) ≡ None
each_none f v [] i x lt at h = absurd (omega arith)
each_none f v (w ∷ xs) zero x lt at h = ap (λ o. o >>= λ y. each f (map v xs) >>= λ ys. Some (y ∷ ys)) (ap (λ a. f (v a)) (sym at) ∙ h)
each_none f v (w ∷ xs) (suc i) x lt at h = rest_none (f (v w)) (each f (map v xs)) (each_none f v xs i x (omega arith) at h)
  where
    rest_none : {C : Type 0} (o : Option C) (r : Option (List C)) → r ≡ None → (o >>= λ y. r >>= λ ys. Some (y ∷ ys)) ≡ None
    rest_none None r e = refl
    rest_none (Some y) r e = ap (λ q. q >>= λ ys. Some (y ∷ ys)) e

-- what was written is read
pub each_back : {A B : Type 0} (f : B → Option A) (g : A → B) (P : A → Type 0) → ((x : A) → P x → f (g x) ≡ Some x) → (xs : List A) → AllByRecursion P xs → each f (map g xs) ≡ Some xs
each_back f g P h [] all = refl
each_back f g P h (x ∷ xs) all = ap (λ o. o >>= λ y. each f (map g xs) >>= λ ys. Some (y ∷ ys)) (h x all.0) ∙ ap (λ r. r >>= λ ys. Some (x ∷ ys)) (each_back f g P h xs all.1)

pub items_list-map : {A : Type 0} (v : A → Data) (xs : List A) (o : Option Items) → Some (items_of (map v xs)) ≡ o → option_map items_list o ≡ Some (map v xs)
items_list-map v xs o e = ap (option_map items_list) (sym e) ∙ ap Some (items_list-items_of (map v xs))

-- the first item that stops a reader stops the list's
pub each_fails : {A B C : Type 0} (e : ReadStop) (f : B → Option C) (v : A → B) (xs : List A) (i : ℕ) (x : A) → i < length xs → x ≡ get_or xs i x → Fails e (f (v x)) → Fails e (each f (map v xs))
each_fails stops.OutOfMemory f v xs i x lt at h = tt
each_fails stops.Refused f v xs i x lt at h = each_none f v xs i x lt at h

pub all_push : {A : Type 0} (P : A → Type 0) (xs : List A) (x : A) → AllByRecursion P xs → P x → AllByRecursion P (xs ++ x ∷ [])
all_push P [] x all h = (h, tt)
all_push P (y ∷ xs) x all h = (all.0, all_push P xs x all.1 h)

pub list_by_back : {A : Type 0} (f : Data → Option A) (g : A → Data) (P : A → Type 0) → ((x : A) → P x → f (g x) ≡ Some x) → (xs : List A) → AllByRecursion P xs → list_by f (list (map g xs)) ≡ Some xs
unfolding list_by
list_by_back f g P h xs all = ap (λ o. o >>= each f) (list_in-list (map g xs)) ∙ each_back f g P h xs all

-- the item at an index, and the rest
pub drop_here : {A : Type 0} (xs : List A) (i : ℕ) (x : A) → i < length xs → x ≡ get_or xs i x → drop i xs ≡ x ∷ drop (i + 1) xs
drop_here xs i x lt at = drop-cons xs i x lt ∙ ap (λ y. y ∷ drop (suc i) xs) (sym at) ∙ ap (λ n. x ∷ drop n xs) (sym (add-one i))

-- one more on both sides
pub one_more : {A B C : Type 0} (f : A → C) (g : B → C) (xs : List A) (ys : List B) (x : A) (y : B) → map f xs ≡ map g ys → f x ≡ g y → map f (xs ++ x ∷ []) ≡ map g (ys ++ y ∷ [])
one_more f g xs ys x y e h = map-append f xs (x ∷ []) ∙ ap₂ (λ a b. a ++ b ∷ []) e h ∙ sym (map-append g ys (y ∷ []))
