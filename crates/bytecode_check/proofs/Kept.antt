-- What the shapes of places keep, and what one more changes.
use Rattle.std.proofs.Common.{◌≡◌, ℕ, ◌+◌, ◌-◌, ◌<◌, ◌≤◌, ◌^◌, List, [], ◌∷◌, ◌++◌, Option, Some, None, Bool, true, false, cond, refl, sym, ap, ap₂, ◌∙◌, subst, arith}
use Rattle.std.specs.Prelude.{◌==◌, ◌&&◌, nat_lt, is_some, Result, Ok, Err, OnOk, OnErr}
use Rattle.std.specs.Option.{option_map, option_eq, MatchOption, IfSome}
use Rattle.std.specs.Map.{lookup}
use Rattle.std.proofs.lemmas.Bool.Decides.{nat_tests}
use Rattle.indexmap.specs.IndexMap.{insert_entry}
use Rattle.bytecode_check.specs.declared.shapes.FrameShape.{FrameShape}
use Rattle.bytecode_check.specs.Shape.{OpenTry, Shape, shaped, same_tries, same_shape, before_catches, Shapes, shape_at, given, given_over}
use Rattle.bytecode_check.specs.declared.stops.VerifyStop.TheVariants.{ShapesDiffer}
use Rattle.bytecode_check.specs.Verify.{agrees, may_get}
use Rattle.bytecode_check.specs.Noted.{give_one, tries_over, tries_in, seen, all_seen, innermost, noted, all_noted, AllKept, Kept, IsKnown, Grows}

-- what stands at a place among the kept
pub noted_at : (X : Shapes) (p : ℕ) → lookup (λ k. p == k) (all_noted X) ≡ option_map noted (shape_at X p)
noted_at [] p = refl
noted_at (x ∷ xs) p = ap (λ r. cond (p == x.0) (Some (noted x.1)) r) (noted_at xs p) ∙ go (p == x.0)
  where
    go : (b : Bool) → cond b (Some (noted x.1)) (option_map noted (shape_at xs p)) ≡ option_map noted (cond b (Some x.1) (shape_at xs p))
    go true = refl
    go false = refl

-- what is kept of the shape at a place
pub record KeptAt (S : Shapes) (p : ℕ) (s : Shape) : Type 0 where
  pub tries : tries_in S (innermost s.tries) ≡ s.tries
  pub before : before_catches p s.tries ≡ true
  pub grown : s.depth ≤ 2 ^ 32 + p

eq_is : (m n : ℕ) → (m == n) ≡ true → m ≡ n
eq_is m n h = grind (arith, nat_tests)

pub kept_at : (S X : Shapes) (p : ℕ) (s : Shape) → AllKept S X → shape_at X p ≡ Some s → KeptAt S p s
kept_at S [] p s k e = absurd cc
kept_at S (x ∷ xs) p s k e = go (p == x.0) refl e (kept_at S xs p s k.3)
  where
    head : KeptAt S x.0 x.1
    head = record { tries = k.0; before = k.1; grown = k.2 }

    go : (b : Bool) → (p == x.0) ≡ b → cond b (Some x.1) (shape_at xs p) ≡ Some s → (shape_at xs p ≡ Some s → KeptAt S p s) → KeptAt S p s
    go true q h f =
        let is : x.1 ≡ s = cc in
        subst (λ n. KeptAt S n s) (sym (eq_is p x.0 q)) (subst (KeptAt S x.0) is head)
    go false q h f = f h

known_by : (S : Shapes) (ts : List OpenTry) → tries_in S (innermost ts) ≡ ts → IsKnown S (innermost ts)
known_by S [] e = tt
known_by S (t ∷ ts) e = go (shape_at S t.catch) e
  where
    go : (o : Option Shape) → tries_over t.catch o ≡ t ∷ ts → is_some o ≡ true
    go None h = absurd cc
    go (Some s) h = refl

-- a look-up

abbrev Found : Shapes → ℕ → Option FrameShape → Type 0
Found S p r = MatchOption r (shape_at S p ≡ None) (λ f. shape_at S p ≡ Some (seen S f))

found : (S : Shapes) (p : ℕ) (r : Option FrameShape) (o : Option Shape) → AllKept S S → shape_at S p ≡ o → r ≡ option_map noted o → Found S p r × IfSome r (λ f. IsKnown S f.within) × IfSome r (λ f. f.depth ≤ 2 ^ 32 + p)
found S p (Some f) None k e is = absurd cc
found S p None None k e is = (e, tt, tt)
found S p None (Some s) k e is = absurd cc
found S p (Some f) (Some s) k e is =
    let at = kept_at S S p s k e in
    let same : f ≡ noted s = cc in
    subst (λ g. (shape_at S p ≡ Some (seen S g)) × IsKnown S g.within × (g.depth ≤ 2 ^ 32 + p)) (sym same)
    (e ∙ ap (λ ts. Some (shaped s.depth ts)) (sym at.tries), known_by S s.tries at.tries, at.grown)

pub looked_up : (es : List (ℕ × FrameShape)) (S : Shapes) (p : ℕ) (r : Option FrameShape) → all_seen [] es ≡ S → Kept es → r ≡ lookup (λ k. p == k) es → Found S p r × IfSome r (λ f. IsKnown S f.within) × IfSome r (λ f. f.depth ≤ 2 ^ 32 + p)
looked_up es S p r v k e =
    let V : Shapes = all_seen [] es in
    subst (λ X. Found X p r × IfSome r (λ f. IsKnown X f.within) × IfSome r (λ f. f.depth ≤ 2 ^ 32 + p)) v
    (found V p r (shape_at V p) k.kept refl (e ∙ ap (lookup (λ k. p == k)) k.noted ∙ noted_at V p))

-- a place among catch places

further : (p q : ℕ) (ts : List OpenTry) → p < q → before_catches q ts ≡ true → before_catches p ts ≡ true
further p q [] lt e = refl
further p q (t ∷ ts) lt e = go (nat_lt q t.catch) refl e (further p q ts lt)
  where
    go : (b : Bool) → nat_lt q t.catch ≡ b → (b && before_catches q ts) ≡ true → (before_catches q ts ≡ true → before_catches p ts ≡ true) → (nat_lt p t.catch && before_catches p ts) ≡ true
    go true c h f = let first : nat_lt p t.catch ≡ true = grind (arith, nat_tests) in ap (λ b. b && before_catches p ts) first ∙ f h
    go false c h f = absurd cc

pub before_one : (S : Shapes) (p catch : ℕ) → AllKept S S → IsKnown S (Some catch) → nat_lt p catch ≡ before_catches p (tries_in S (Some catch))
before_one S p catch k known = go (shape_at S catch) refl known (nat_lt p catch) refl
  where
    go : (o : Option Shape) → shape_at S catch ≡ o → is_some o ≡ true → (b : Bool) → nat_lt p catch ≡ b → nat_lt p catch ≡ before_catches p (tries_over catch o)
    go None e h b c = absurd cc
    go (Some s) e h true c =
        let at = kept_at S S catch s k e in
        let lt : p < catch = grind (arith, nat_tests) in
        c ∙ sym (ap (λ b. b && before_catches p s.tries) c ∙ further p catch s.tries lt at.before)
    go (Some s) e h false c = c ∙ sym (ap (λ b. b && before_catches p s.tries) c)

-- the same shape

same_tries_self : (ts : List OpenTry) → same_tries ts ts ≡ true
same_tries_self [] = refl
same_tries_self (t ∷ ts) =
    let a : (t.depth == t.depth) ≡ true = grind (arith, nat_tests) in
    let b : (t.catch == t.catch) ≡ true = grind (arith, nat_tests) in
    ap₂ (λ x y. x && (y && same_tries ts ts)) a b ∙ same_tries_self ts

pub innermost_is : (S : Shapes) (w : Option ℕ) → IsKnown S w → innermost (tries_in S w) ≡ w
innermost_is S None k = refl
innermost_is S (Some c) k = go (shape_at S c) k
  where
    go : (o : Option Shape) → is_some o ≡ true → innermost (tries_over c o) ≡ Some c
    go None h = absurd cc
    go (Some s) h = refl

same_within : (S : Shapes) (w v : Option ℕ) → IsKnown S w → IsKnown S v → option_eq (λ x y. x == y) w v ≡ same_tries (tries_in S w) (tries_in S v)
same_within S None None k l = refl
same_within S None (Some d) k l = go (shape_at S d) l
  where
    go : (o : Option Shape) → is_some o ≡ true → false ≡ same_tries [] (tries_over d o)
    go None h = absurd cc
    go (Some z) h = refl
same_within S (Some c) None k l = go (shape_at S c) k
  where
    go : (o : Option Shape) → is_some o ≡ true → false ≡ same_tries (tries_over c o) []
    go None h = absurd cc
    go (Some s) h = refl
same_within S (Some c) (Some d) k l = go (c == d) refl (shape_at S c) (shape_at S d) refl refl k l
  where
    go : (b : Bool) → (c == d) ≡ b → (o q : Option Shape) → shape_at S c ≡ o → shape_at S d ≡ q → is_some o ≡ true → is_some q ≡ true → (c == d) ≡ same_tries (tries_over c o) (tries_over d q)
    go b e None q f g h i = absurd cc
    go b e (Some s) None f g h i = absurd cc
    go true e (Some s) (Some z) f g h i =
        let one : c ≡ d = eq_is c d e in
        let same : s ≡ z = some_is s z (sym f ∙ ap (shape_at S) one ∙ g) in
        e ∙ sym (same_tries_self (tries_over c (Some s))) ∙ ap₂ (λ x y. same_tries (tries_over c (Some s)) (tries_over x (Some y))) one same
      where
        some_is : (x y : Shape) → Some x ≡ Some y → x ≡ y
        some_is x y e = cc
    go false e (Some s) (Some z) f g h i = e ∙ sym (ap (λ b. (s.depth - 1 == z.depth - 1) && (b && same_tries s.tries z.tries)) e ∙ and_false (s.depth - 1 == z.depth - 1))
      where
        and_false : (a : Bool) → (a && false) ≡ false
        and_false true = refl
        and_false false = refl

pub same_is : (S : Shapes) (a b : FrameShape) → IsKnown S a.within → IsKnown S b.within → ((a.depth == b.depth) && option_eq (λ x y. x == y) a.within b.within) ≡ same_shape (seen S a) (seen S b)
same_is S a b k l = ap (λ t. (a.depth == b.depth) && t) (same_within S a.within b.within k l)

-- one more place

seen_snoc : (S : Shapes) (es : List (ℕ × FrameShape)) (p : ℕ) (f : FrameShape) → all_seen S (es ++ (p, f) ∷ []) ≡ all_seen S es ++ (p, seen (all_seen S es) f) ∷ []
seen_snoc S [] p f = refl
seen_snoc S (e ∷ es) p f = seen_snoc (S ++ (e.0, seen S e.1) ∷ []) es p f

noted_snoc : (X : Shapes) (p : ℕ) (s : Shape) → all_noted (X ++ (p, s) ∷ []) ≡ all_noted X ++ (p, noted s) ∷ []
noted_snoc [] p s = refl
noted_snoc (x ∷ xs) p s = ap (λ r. (x.0, noted x.1) ∷ r) (noted_snoc xs p s)

inserted : (X : Shapes) (p : ℕ) (f : FrameShape) → shape_at X p ≡ None → insert_entry (λ a b. a == b) (all_noted X) p f ≡ all_noted X ++ (p, f) ∷ []
inserted [] p f e = refl
inserted (x ∷ xs) p f e = go (p == x.0) e (inserted xs p f)
  where
    go : (b : Bool) → cond b (Some x.1) (shape_at xs p) ≡ None → (shape_at xs p ≡ None → insert_entry (λ a b. a == b) (all_noted xs) p f ≡ all_noted xs ++ (p, f) ∷ []) → cond b ((x.0, f) ∷ all_noted xs) ((x.0, noted x.1) ∷ insert_entry (λ a b. a == b) (all_noted xs) p f) ≡ (x.0, noted x.1) ∷ (all_noted xs ++ (p, f) ∷ [])
    go true h g = absurd cc
    go false h g = ap (λ r. (x.0, noted x.1) ∷ r) (g h)

at_kept : (xs ys : Shapes) (p : ℕ) (s : Shape) → shape_at xs p ≡ Some s → shape_at (xs ++ ys) p ≡ Some s
at_kept [] ys p s e = absurd cc
at_kept (x ∷ xs) ys p s e = go (p == x.0) e (at_kept xs ys p s)
  where
    go : (b : Bool) → cond b (Some x.1) (shape_at xs p) ≡ Some s → (shape_at xs p ≡ Some s → shape_at (xs ++ ys) p ≡ Some s) → cond b (Some x.1) (shape_at (xs ++ ys) p) ≡ Some s
    go true h f = h
    go false h f = f h

at_new : (xs ys : Shapes) (p : ℕ) → shape_at xs p ≡ None → shape_at (xs ++ ys) p ≡ shape_at ys p
at_new [] ys p e = refl
at_new (x ∷ xs) ys p e = go (p == x.0) e (at_new xs ys p)
  where
    go : (b : Bool) → cond b (Some x.1) (shape_at xs p) ≡ None → (shape_at xs p ≡ None → shape_at (xs ++ ys) p ≡ shape_at ys p) → cond b (Some x.1) (shape_at (xs ++ ys) p) ≡ shape_at ys p
    go true h f = absurd cc
    go false h f = f h

pub grows_same : (X : Shapes) → Grows X X
grows_same X p s e = e

-- tries that are known stay what they are
pub tries_stay : (X Y : Shapes) (w : Option ℕ) → Grows X Y → IsKnown X w → tries_in Y w ≡ tries_in X w
tries_stay X Y None g k = refl
tries_stay X Y (Some c) g k = go (shape_at X c) refl k
  where
    go : (o : Option Shape) → shape_at X c ≡ o → is_some o ≡ true → tries_over c (shape_at Y c) ≡ tries_over c o
    go None e h = absurd cc
    go (Some s) e h = ap (tries_over c) (g c s e)

pub known_stays : (X Y : Shapes) (w : Option ℕ) → Grows X Y → IsKnown X w → IsKnown Y w
known_stays X Y None g k = tt
known_stays X Y (Some c) g k = go (shape_at X c) refl k
  where
    go : (o : Option Shape) → shape_at X c ≡ o → is_some o ≡ true → is_some (shape_at Y c) ≡ true
    go None e h = absurd cc
    go (Some s) e h = ap is_some (g c s e)

all_stay : (S T X : Shapes) → Grows S T → AllKept S X → AllKept T X
all_stay S T [] g k = tt
all_stay S T (x ∷ xs) g k = (tries_stay S T (innermost x.1.tries) g (known_by S x.1.tries k.0) ∙ k.0, k.1, k.2, all_stay S T xs g k.3)

all_snoc : (S X : Shapes) (p : ℕ) (s : Shape) → AllKept S X → KeptAt S p s → AllKept S (X ++ (p, s) ∷ [])
all_snoc S [] p s k a = (a.tries, a.before, a.grown, tt)
all_snoc S (x ∷ xs) p s k a = (k.0, k.1, k.2, all_snoc S xs p s k.3 a)

-- what a place that had no shape makes of all
pub record OneMore (es new : List (ℕ × FrameShape)) (S : Shapes) (p : ℕ) (s : Shape) : Type 0 where
  pub kept : Kept new
  pub view : all_seen [] new ≡ S ++ (p, s) ∷ []
  pub there : shape_at (all_seen [] new) p ≡ Some s
  pub grows : Grows S (all_seen [] new)

one_more_seen : (es new : List (ℕ × FrameShape)) (p : ℕ) (f : FrameShape) → Kept es → shape_at (all_seen [] es) p ≡ None → IsKnown (all_seen [] es) f.within
    → before_catches p (tries_in (all_seen [] es) f.within) ≡ true → f.depth ≤ 2 ^ 32 + p → new ≡ insert_entry (λ a b. a == b) es p f
    → OneMore es new (all_seen [] es) p (seen (all_seen [] es) f)
one_more_seen es new p f k none known before grown is =
    let S : Shapes = all_seen [] es in
    let s : Shape = seen S f in
    let same : noted s ≡ f = ap (λ w. record { depth = f.depth; within = w }) (innermost_is S f.within known) in
    let entries : new ≡ es ++ (p, f) ∷ [] =
    is ∙ ap (λ xs. insert_entry (λ a b. a == b) xs p f) k.noted ∙ inserted S p f none ∙ ap (λ xs. xs ++ (p, f) ∷ []) (sym k.noted) in
    let view : all_seen [] new ≡ S ++ (p, s) ∷ [] = ap (all_seen []) entries ∙ seen_snoc [] es p f in
    let T : Shapes = S ++ (p, s) ∷ [] in
    let grows : Grows S T = λ q z e. at_kept S ((p, s) ∷ []) q z e in
    let self : (p == p) ≡ true = grind (arith, nat_tests) in
    let at : KeptAt S p s = record { tries = ap (tries_in S) (innermost_is S f.within known); before = before; grown = grown } in
    let all : AllKept T T = all_snoc T S p s (all_stay S T S grows k.kept)
    (record { tries = tries_stay S T (innermost s.tries) grows (known_by S s.tries at.tries) ∙ at.tries; before = before; grown = grown }) in
    let notes : new ≡ all_noted T = entries ∙ ap₂ (λ xs g. xs ++ (p, g) ∷ []) k.noted (sym same) ∙ sym (noted_snoc S p s) in
    record {
      kept = record { noted = notes ∙ ap all_noted (sym view); kept = subst (λ X. AllKept X X) (sym view) all };
      view = view;
      there = ap (λ X. shape_at X p) view ∙ at_new S ((p, s) ∷ []) p none ∙ ap (λ b. cond b (Some s) None) self;
      grows = λ q z e. ap (λ X. shape_at X q) view ∙ grows q z e;
    }

pub one_more : (es new : List (ℕ × FrameShape)) (S : Shapes) (p : ℕ) (f : FrameShape) → all_seen [] es ≡ S → Kept es → shape_at S p ≡ None → IsKnown S f.within
    → before_catches p (tries_in S f.within) ≡ true → f.depth ≤ 2 ^ 32 + p → new ≡ insert_entry (λ a b. a == b) es p f
    → OneMore es new S p (seen S f)
one_more es new S p f v k none known before grown is =
    subst (λ X. shape_at X p ≡ None → IsKnown X f.within → before_catches p (tries_in X f.within) ≡ true → OneMore es new X p (seen X f)) v
    (λ n k1 b. one_more_seen es new p f k n k1 b grown is) none known before

-- the definition gives the place its shape too
pub gives_more : (S V : Shapes) (at p : ℕ) (s : Shape) → shape_at S p ≡ None → before_catches p s.tries ≡ true → at < p → V ≡ S ++ (p, s) ∷ [] → give_one at (p, s) S ≡ Ok V
gives_more S V at p s none before lt view =
    let ahead : nat_lt at p ≡ true = grind (arith, nat_tests) in
    let may : may_get at S (p, s) ≡ true = ap₂ (λ b o. b && agrees at p s o) before none ∙ ahead in
    let more : given S p s ≡ S ++ (p, s) ∷ [] = ap (λ o. given_over o S p s) none in
    ap (λ b. cond b (Ok (given S p s)) (Err (ShapesDiffer at))) may ∙ ap Ok (more ∙ sym view)

pub kept_or_more : {A E : Type 0} (r : Result A E) (es new : List (ℕ × FrameShape)) (S : Shapes) (p : ℕ) (f : FrameShape) → all_seen [] es ≡ S → Kept es → shape_at S p ≡ None → IsKnown S f.within
    → before_catches p (tries_in S f.within) ≡ true → f.depth ≤ 2 ^ 32 + p → OnOk r (new ≡ insert_entry (λ a b. a == b) es p f) → OnErr r (new ≡ es) → Kept new
kept_or_more (Ok a) es new S p f v k none known before grown ok err = (one_more es new S p f v k none known before grown ok).kept
kept_or_more (Err x) es new S p f v k none known before grown ok err = subst Kept (sym err) k
