-- Texts in byte order: the list is told by which texts are in it.
use Rattle.std.proofs.Common.{◌≡◌, List, [], ◌∷◌, fold, refl, sym, ap, ◌∙◌, subst, ◌⊎◌, inl, inr, ⊎_elim}
use Rattle.std.specs.Ordering.{nat_cmp, match_ordering, ordering_reverse, is_eq}
use Rattle.std.specs.declared.cmp.Ordering.{Ordering}
use Rattle.std.specs.declared.cmp.Ordering.TheVariants.{Less, Equal, Greater}
use Rattle.std.specs.Cmp.Lexicographic.{slice_cmp}
use Rattle.std.specs.BTreeSet.{insert_key}
use Rattle.std.proofs.lemmas.Cmp.{nat_list_cmp_total}
use Rattle.std.proofs.lemmas.Map.Text.{is_eq-slice_cmp}
use Rattle.std.proofs.lemmas.Slice.Eq.{bytes_eq-Decides}
use Rattle.hog_tree.specs.Plain.{Word}
use Rattle.hog_bridge.proofs.Words.{In}

abbrev cmp : Word → Word → Ordering
cmp x y = slice_cmp nat_cmp x y

equal_words : (x y : Word) → cmp x y ≡ Equal → x ≡ y
equal_words x y e = (bytes_eq-Decides x y).0 (sym (is_eq-slice_cmp x y) ∙ ap is_eq e)

-- a text that is put in, and those that were there
in_new : (ks : List Word) (k : Word) → In k (insert_key cmp ks k)
in_new [] k = inl refl
in_new (x ∷ xs) k = go (in_new xs k) (cmp k x) refl
  where
    go : In k (insert_key cmp xs k) → (o : Ordering) → cmp k x ≡ o → In k (match_ordering o (k ∷ x ∷ xs) (x ∷ xs) (x ∷ insert_key cmp xs k))
    go ih Less e = inl refl
    go ih Equal e = inl (sym (equal_words k x e))
    go ih Greater e = inr ih

in_old : (ks : List Word) (k t : Word) → In t ks → In t (insert_key cmp ks k)
in_old [] k t i = absurd i
in_old (x ∷ xs) k t i = go (in_old xs k t) (cmp k x) i
  where
    go : (In t xs → In t (insert_key cmp xs k)) → (o : Ordering) → (x ≡ t) ⊎ In t xs → In t (match_ordering o (k ∷ x ∷ xs) (x ∷ xs) (x ∷ insert_key cmp xs k))
    go ih Less i = inr i
    go ih Equal i = i
    go ih Greater (inl e) = inl e
    go ih Greater (inr i) = inr (ih i)

in_back : (ks : List Word) (k t : Word) → In t (insert_key cmp ks k) → (k ≡ t) ⊎ In t ks
in_back [] k t (inl e) = inl e
in_back [] k t (inr i) = absurd i
in_back (x ∷ xs) k t i = go (in_back xs k t) (cmp k x) i
  where
    go : (In t (insert_key cmp xs k) → (k ≡ t) ⊎ In t xs) → (o : Ordering) → In t (match_ordering o (k ∷ x ∷ xs) (x ∷ xs) (x ∷ insert_key cmp xs k)) → (k ≡ t) ⊎ In t (x ∷ xs)
    go ih Less (inl e) = inl e
    go ih Less (inr i) = inr i
    go ih Equal i = inr i
    go ih Greater (inl e) = inr (inl e)
    go ih Greater (inr i) = ⊎_elim (λ e. inl e) (λ j. inr (inr j)) (ih i)

pub in_kept : (ts acc : List Word) (t : Word) → In t acc → In t (fold (insert_key cmp) acc ts)
in_kept [] acc t i = i
in_kept (k ∷ ts) acc t i = in_kept ts (insert_key cmp acc k) t (in_old acc k t i)

pub in_sorted : (ts acc : List Word) (t : Word) → In t ts → In t (fold (insert_key cmp) acc ts)
in_sorted [] acc t i = absurd i
in_sorted (k ∷ ts) acc t (inl e) = in_kept ts (insert_key cmp acc k) t (subst (λ z. In z (insert_key cmp acc k)) e (in_new acc k))
in_sorted (k ∷ ts) acc t (inr i) = in_sorted ts (insert_key cmp acc k) t i

pub from_sorted : (ts acc : List Word) (t : Word) → In t (fold (insert_key cmp) acc ts) → In t ts ⊎ In t acc
from_sorted [] acc t i = inr i
from_sorted (k ∷ ts) acc t i =
    ⊎_elim (λ j. inl (inr j)) (λ j. ⊎_elim (λ e. inl (inl e)) (λ m. inr m) (in_back acc k t j)) (from_sorted ts (insert_key cmp acc k) t i)

-- ascending texts
abbrev pub Above : Word → List Word → Type 0
Above x [] = Unit {0}
Above x (y ∷ ys) = (cmp x y ≡ Less) × Above x ys

abbrev pub Ascend : List Word → Type 0
Ascend [] = Unit {0}
Ascend (x ∷ xs) = Above x xs × Ascend xs

reversed : (x y : Word) (o : Ordering) → cmp x y ≡ o → cmp y x ≡ ordering_reverse o
reversed x y o e = nat_list_cmp_total.antisymm y x ∙ ap ordering_reverse e

above_below : (k x : Word) (xs : List Word) → cmp k x ≡ Less → Above x xs → Above k xs
above_below k x [] e a = tt
above_below k x (y ∷ ys) e a = (nat_list_cmp_total.trans k x y e a.0, above_below k x ys e a.1)

above_insert : (x : Word) (ys : List Word) (k : Word) → cmp x k ≡ Less → Above x ys → Above x (insert_key cmp ys k)
above_insert x [] k e a = (e, tt)
above_insert x (y ∷ ys) k e a = go (above_insert x ys k e a.1) (cmp k y)
  where
    go : Above x (insert_key cmp ys k) → (o : Ordering) → Above x (match_ordering o (k ∷ y ∷ ys) (y ∷ ys) (y ∷ insert_key cmp ys k))
    go ih Less = (e, a)
    go ih Equal = a
    go ih Greater = (a.0, ih)

ascend_insert : (ks : List Word) (k : Word) → Ascend ks → Ascend (insert_key cmp ks k)
ascend_insert [] k a = (tt, tt)
ascend_insert (x ∷ xs) k a = go (ascend_insert xs k a.1) (cmp k x) refl
  where
    go : Ascend (insert_key cmp xs k) → (o : Ordering) → cmp k x ≡ o → Ascend (match_ordering o (k ∷ x ∷ xs) (x ∷ xs) (x ∷ insert_key cmp xs k))
    go ih Less e = ((e, above_below k x xs e a.0), a)
    go ih Equal e = a
    go ih Greater e = (above_insert x xs k (reversed k x Greater e) a.0, ih)

pub ascend_sorted : (ts acc : List Word) → Ascend acc → Ascend (fold (insert_key cmp) acc ts)
ascend_sorted [] acc a = a
ascend_sorted (k ∷ ts) acc a = ascend_sorted ts (insert_key cmp acc k) (ascend_insert acc k a)

above_in : (x : Word) (ys : List Word) (t : Word) → Above x ys → In t ys → cmp x t ≡ Less
above_in x [] t a i = absurd i
above_in x (y ∷ ys) t a (inl e) = subst (λ z. cmp x z ≡ Less) e a.0
above_in x (y ∷ ys) t a (inr i) = above_in x ys t a.1 i

never_both : (x y : Word) → cmp x y ≡ Less → cmp y x ≡ Less → ⊥
never_both x y e f = let g = reversed x y Less e in let h : Greater ≡ Less = sym g ∙ f in cc

-- ascending lists of the same texts are the same
pub same_ascending : (xs ys : List Word) → Ascend xs → Ascend ys → ((t : Word) → In t xs → In t ys) → ((t : Word) → In t ys → In t xs) → xs ≡ ys
same_ascending [] [] a b f k = refl
same_ascending [] (y ∷ ys) a b f k = absurd (k y (inl refl))
same_ascending (x ∷ xs) [] a b f k = absurd (f x (inl refl))
same_ascending (x ∷ xs) (y ∷ ys) a b f k =
    let e = heads (f x (inl refl)) (k y (inl refl)) in
    let more = same_ascending xs ys a.1 b.1 (λ t i. past (f t (inr i)) i e) (λ t i. back (k t (inr i)) i e) in
    ap (λ z. z ∷ xs) e ∙ ap (λ zs. y ∷ zs) more
  where
    heads : In x (y ∷ ys) → In y (x ∷ xs) → x ≡ y
    heads (inl e) j = sym e
    heads (inr i) (inl e) = e
    heads (inr i) (inr j) = absurd (never_both x y (above_in x xs y a.0 j) (above_in y ys x b.0 i))

    past : {t : Word} → In t (y ∷ ys) → In t xs → x ≡ y → In t ys
    past (inr i) j e = i
    past {t} (inl q) j e = let l = above_in x xs t a.0 j in let same : x ≡ t = e ∙ q in let m = subst (λ z. cmp z t ≡ Less) same l in absurd (never_both t t m m)

    back : {t : Word} → In t (x ∷ xs) → In t ys → x ≡ y → In t xs
    back (inr i) j e = i
    back {t} (inl q) j e = let l = above_in y ys t b.0 j in let same : y ≡ t = sym e ∙ q in let m = subst (λ z. cmp z t ≡ Less) same l in absurd (never_both t t m m)

-- lists with the same texts are the same in byte order
pub same_order : (ts us : List Word) → ((t : Word) → In t ts → In t us) → ((t : Word) → In t us → In t ts) → fold (insert_key cmp) [] ts ≡ fold (insert_key cmp) [] us
same_order ts us f k =
    same_ascending (fold (insert_key cmp) [] ts) (fold (insert_key cmp) [] us) (ascend_sorted ts [] tt) (ascend_sorted us [] tt)
    (λ t i. ⊎_elim (λ j. in_sorted us [] t (f t j)) (λ j. absurd j) (from_sorted ts [] t i))
    (λ t i. ⊎_elim (λ j. in_sorted ts [] t (k t j)) (λ j. absurd j) (from_sorted us [] t i))
