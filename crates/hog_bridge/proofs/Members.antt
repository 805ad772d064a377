-- Lists of words with the same members are the same set in byte order.
use Rattle.std.proofs.Common.{◌≡◌, List, [], ◌∷◌, ◌++◌, fold, refl, sym, ap, ◌∙◌, subst, ◌⊎◌, inl, inr, ⊎_elim}
use Rattle.std.specs.Ordering.{nat_cmp, match_ordering, ordering_reverse}
use Rattle.std.specs.declared.cmp.Ordering.{Ordering}
use Rattle.std.specs.declared.cmp.Ordering.TheVariants.{Less, Equal, Greater}
use Rattle.std.specs.Cmp.Lexicographic.{slice_cmp, nat_list_cmp_total}
use Rattle.std.specs.FinMap.{nat_cmp-IsAntisymmetric, slice_cmp-IsAntisymmetric}
use Rattle.std.specs.BTreeSet.{insert_key}
use Rattle.hog_tree.specs.Plain.{Word}
use Rattle.hog_bridge.proofs.Words.{In, in_left, in_right}

-- the same members
pub record Alike (ts us : List Word) : Type 0 where
  pub there : (x : Word) → In x ts → In x us
  pub back : (x : Word) → In x us → In x ts

pub alike_same : (ts : List Word) → Alike ts ts
alike_same ts = record { there = λ x h. h; back = λ x h. h }

pub alike_back : {ts us : List Word} → Alike ts us → Alike us ts
alike_back a = record { there = a.back; back = a.there }

pub alike_on : {ts us vs : List Word} → Alike ts us → Alike us vs → Alike ts vs
alike_on a b = record { there = λ x h. b.there x (a.there x h); back = λ x h. a.back x (b.back x h) }

pub in_both : (x : Word) (ts us : List Word) → In x (ts ++ us) → In x ts ⊎ In x us
in_both x [] us h = inr h
in_both x (t ∷ ts) us (inl h) = inl (inl h)
in_both x (t ∷ ts) us (inr h) = ⊎_elim (λ a. inl (inr a)) (λ b. inr b) (in_both x ts us h)

-- part by part
pub alike_both : {qs rs ts us : List Word} → Alike qs ts → Alike rs us → Alike (qs ++ rs) (ts ++ us)
alike_both {qs} {rs} {ts} {us} a b = record {
  there = λ x h. ⊎_elim (λ l. in_left x ts us (a.there x l)) (λ r. in_right x ts us (b.there x r)) (in_both x qs rs h);
  back = λ x h. ⊎_elim (λ l. in_left x qs rs (a.back x l)) (λ r. in_right x qs rs (b.back x r)) (in_both x ts us h);
}

-- in the other order
pub alike_turn : {qs rs ts us : List Word} → Alike qs ts → Alike rs us → Alike (rs ++ qs) (ts ++ us)
alike_turn {qs} {rs} {ts} {us} a b = record {
  there = λ x h. ⊎_elim (λ r. in_right x ts us (b.there x r)) (λ l. in_left x ts us (a.there x l)) (in_both x rs qs h);
  back = λ x h. ⊎_elim (λ l. in_right x rs qs (a.back x l)) (λ r. in_left x rs qs (b.back x r)) (in_both x ts us h);
}

abbrev order : Word → Word → Ordering
order = slice_cmp nat_cmp

ordered : (x y : Word) → order x y ≡ Equal → x ≡ y
ordered = slice_cmp-IsAntisymmetric nat_cmp-IsAntisymmetric

-- less than each of these
abbrev Before : Word → List Word → Type 0
Before x [] = Unit {0}
Before x (y ∷ ys) = (order x y ≡ Less) × Before x ys

abbrev Ascends : List Word → Type 0
Ascends [] = Unit {0}
Ascends (x ∷ xs) = Before x xs × Ascends xs

before_on : (x y : Word) (zs : List Word) → order x y ≡ Less → Before y zs → Before x zs
before_on x y [] e b = tt
before_on x y (z ∷ zs) e b = (nat_list_cmp_total.trans x y z e b.0, before_on x y zs e b.1)

before_in : (x y : Word) (ys : List Word) → Before x ys → In y ys → order x y ≡ Less
before_in x y [] b h = absurd h
before_in x y (z ∷ ys) b (inl h) = subst (λ w. order x w ≡ Less) h b.0
before_in x y (z ∷ ys) b (inr h) = before_in x y ys b.1 h

not_before : (x y : Word) → order x y ≡ Less → order y x ≡ Less → ⊥
not_before x y e f = let turned : Less ≡ Greater = sym e ∙ nat_list_cmp_total.antisymm x y ∙ ap ordering_reverse f in absurd cc

not_itself : (x : Word) → order x x ≡ Less → ⊥
not_itself x e = not_before x x e e

before_insert : (x k : Word) (ks : List Word) → order x k ≡ Less → Before x ks → Before x (insert_key order ks k)
before_insert x k [] e b = (e, tt)
before_insert x k (y ∷ ks) e b = by (order k y) (before_insert x k ks e b.1)
  where
    by : (o : Ordering) → Before x (insert_key order ks k) → Before x (match_ordering o (k ∷ y ∷ ks) (y ∷ ks) (y ∷ insert_key order ks k))
    by Less ih = (e, b)
    by Equal ih = b
    by Greater ih = (b.0, ih)

ascends_insert : (k : Word) (ks : List Word) → Ascends ks → Ascends (insert_key order ks k)
ascends_insert k [] a = (tt, tt)
ascends_insert k (y ∷ ks) a = by (order k y) refl (ascends_insert k ks a.1)
  where
    by : (o : Ordering) → order k y ≡ o → Ascends (insert_key order ks k) → Ascends (match_ordering o (k ∷ y ∷ ks) (y ∷ ks) (y ∷ insert_key order ks k))
    by Less e ih = ((e, before_on k y ks e a.0), a)
    by Equal e ih = a
    by Greater e ih = (before_insert y k ks (nat_list_cmp_total.antisymm y k ∙ ap ordering_reverse e) a.0, ih)

insert_in : (x k : Word) (ks : List Word) → In x (insert_key order ks k) → In x (k ∷ ks)
insert_in x k [] h = h
insert_in x k (y ∷ ks) h = by (order k y) h (insert_in x k ks)
  where
    by : (o : Ordering) → In x (match_ordering o (k ∷ y ∷ ks) (y ∷ ks) (y ∷ insert_key order ks k)) → (In x (insert_key order ks k) → In x (k ∷ ks)) → In x (k ∷ y ∷ ks)
    by Less h ih = h
    by Equal h ih = inr h
    by Greater (inl h) ih = inr (inl h)
    by Greater (inr h) ih = ⊎_elim (λ e. inl e) (λ i. inr (inr i)) (ih h)

in_insert : (x k : Word) (ks : List Word) → In x (k ∷ ks) → In x (insert_key order ks k)
in_insert x k [] h = h
in_insert x k (y ∷ ks) h = by (order k y) refl h (in_insert x k ks)
  where
    by : (o : Ordering) → order k y ≡ o → In x (k ∷ y ∷ ks) → (In x (k ∷ ks) → In x (insert_key order ks k)) → In x (match_ordering o (k ∷ y ∷ ks) (y ∷ ks) (y ∷ insert_key order ks k))
    by Less e h ih = h
    by Equal e (inl h) ih = inl (sym (ordered k y e) ∙ h)
    by Equal e (inr h) ih = h
    by Greater e (inl h) ih = inr (ih (inl h))
    by Greater e (inr (inl h)) ih = inl h
    by Greater e (inr (inr h)) ih = inr (ih (inr h))

ascends_fold : (ts ks : List Word) → Ascends ks → Ascends (fold (insert_key order) ks ts)
ascends_fold [] ks a = a
ascends_fold (t ∷ ts) ks a = ascends_fold ts (insert_key order ks t) (ascends_insert t ks a)

fold_in : (x : Word) (ts ks : List Word) → In x (fold (insert_key order) ks ts) → In x ks ⊎ In x ts
fold_in x [] ks h = inl h
fold_in x (t ∷ ts) ks h = ⊎_elim (λ i. ⊎_elim (λ e. inr (inl e)) (λ k. inl k) (insert_in x t ks i)) (λ i. inr (inr i)) (fold_in x ts (insert_key order ks t) h)

in_fold : (x : Word) (ts ks : List Word) → In x ks ⊎ In x ts → In x (fold (insert_key order) ks ts)
in_fold x [] ks (inl h) = h
in_fold x [] ks (inr h) = absurd h
in_fold x (t ∷ ts) ks (inl h) = in_fold x ts (insert_key order ks t) (inl (in_insert x t ks (inr h)))
in_fold x (t ∷ ts) ks (inr (inl h)) = in_fold x ts (insert_key order ks t) (inl (in_insert x t ks (inl h)))
in_fold x (t ∷ ts) ks (inr (inr h)) = in_fold x ts (insert_key order ks t) (inr h)

-- lists that ascend and have the same members are the same
one_ascending : (xs ys : List Word) → Ascends xs → Ascends ys → Alike xs ys → xs ≡ ys
one_ascending [] [] a b same = refl
one_ascending [] (y ∷ ys) a b same = absurd (same.back y (inl refl))
one_ascending (x ∷ xs) [] a b same = absurd (same.there x (inl refl))
one_ascending (x ∷ xs) (y ∷ ys) a b same = let first = heads (same.there x (inl refl)) (same.back y (inl refl)) in rest first (one_ascending xs ys a.1 b.1 (tails first))
  where
    heads : In x (y ∷ ys) → In y (x ∷ xs) → x ≡ y
    heads (inl e) h = sym e
    heads (inr h) (inl e) = e
    heads (inr h) (inr i) = absurd (not_before x y (before_in x y xs a.0 i) (before_in y x ys b.0 h))

    tail : (u v z : Word) (us vs : List Word) → u ≡ v → Before u us → In z us → In z (v ∷ vs) → In z vs
    tail u v z us vs e before h (inl f) = absurd (not_itself u (subst (λ w. order u w ≡ Less) (sym (e ∙ f)) (before_in u z us before h)))
    tail u v z us vs e before h (inr i) = i

    tails : x ≡ y → Alike xs ys
    tails e = record {
      there = λ z h. tail x y z xs ys e a.0 h (same.there z (inr h));
      back = λ z h. tail y x z ys xs (sym e) b.0 h (same.back z (inr h));
    }

    rest : x ≡ y → xs ≡ ys → x ∷ xs ≡ y ∷ ys
    rest e f = λ i. e i ∷ f i

-- the set in byte order depends on the members alone
pub one_set : (ts us : List Word) → Alike ts us → fold (insert_key (slice_cmp nat_cmp)) [] ts ≡ fold (insert_key (slice_cmp nat_cmp)) [] us
one_set ts us same = one_ascending _ _ (ascends_fold ts [] tt) (ascends_fold us [] tt) (record {
  there = λ x h. in_fold x us [] (⊎_elim (λ n. absurd n) (λ i. inr (same.there x i)) (fold_in x ts [] h));
  back = λ x h. in_fold x ts [] (⊎_elim (λ n. absurd n) (λ i. inr (same.back x i)) (fold_in x us [] h));
})
