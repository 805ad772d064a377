-- What is read of an expression is spelled by the tokens before the rest.
use Rattle.std.proofs.Common.{◌≡◌, ℕ, zero, suc, ◌<◌, ◌≤◌, max, Bool, true, false, List, [], ◌∷◌, ◌++◌, length, Option, Some, None, Result, Ok, Err, cond, refl, sym, ap, ◌∙◌, subst, append_assoc, arith, ◌⊎◌, inl, inr}
use Rattle.std.specs.Prelude.{nat_lt, map}
use Rattle.std.proofs.lemmas.Bool.Decides.{nat_tests}
use Rattle.hog_tree.specs.Plain.{Exp, Stm}
use Rattle.hog_grammar.specs.Terminal.{Terminal}
use Rattle.hog_grammar.specs.Terminal as k
use Rattle.hog_grammar.specs.Forms.{Phrase, Listing, Others}
use Rattle.hog_grammar.specs.Spelling.{OfStm, StartOf, StepOf}
use Rattle.hog_terms.specs.Marks.{Shut, after_comma, lead}
use Rattle.hog_terms.specs.Listed.{closing}
use Rattle.hog_reading.specs.Read.{Fault, Got, got, ◌>>=◌, wants, either_way, Read, Readers, put, ended_list, others, some, listing}
use Rattle.hog_spelling.proofs.Fronts.{Closes, is_comma}
use Rattle.hog_spelling.proofs.Forms.{Spelled}

pub bind_ok : {A B : Type 0} (r : Result A Fault) (f : A → Result B Fault) (y : B) → (r >>= f) ≡ Ok y → (x : A) × (r ≡ Ok x) × (f x ≡ Ok y)
bind_ok (Ok x) f y h = (x, refl, h)
bind_ok (Err e) f y h = absurd (cc)

pub cond_ok : {A : Type 0} (b : Bool) (e : Fault) (r : Result A Fault) (y : A) → cond b (Err e) r ≡ Ok y → (b ≡ false) × (r ≡ Ok y)
cond_ok true e r y h = absurd (cc)
cond_ok false e r y h = (refl, h)

pub unless_ok : {A : Type 0} (b : Bool) (e : Fault) (r : Result A Fault) (y : A) → cond b r (Err e) ≡ Ok y → (b ≡ true) × (r ≡ Ok y)
unless_ok true e r y h = (refl, h)
unless_ok false e r y h = absurd (cc)

pub choice_ok : {A : Type 0} (b : Bool) (r s : Result A Fault) (y : A) → cond b r s ≡ Ok y → ((b ≡ true) × (r ≡ Ok y)) ⊎ ((b ≡ false) × (s ≡ Ok y))
choice_ok true r s y h = inl (refl, h)
choice_ok false r s y h = inr (refl, h)

pub wants_ok : {A B : Type 0} (o : Option A) (f : A → Result B Fault) (y : B) → wants o f ≡ Ok y → (us : A) × (o ≡ Some us) × (f us ≡ Ok y)
wants_ok (Some us) f y h = (us, refl, h)
wants_ok None f y h = absurd (cc)

pub either_ok : {A B : Type 0} (o : Option A) (f : A → Result B Fault) (r : Result B Fault) (y : B) → either_way o f r ≡ Ok y → ((us : A) × (o ≡ Some us) × (f us ≡ Ok y)) ⊎ ((o ≡ None) × (r ≡ Ok y))
either_ok (Some us) f r y h = inl (us, refl, h)
either_ok None f r y h = inr (refl, h)

abbrev pub okay : {A : Type 0} → A → Result A Fault
okay x = Ok x

pub from_ok : {A : Type 0} (x y : A) → okay x ≡ okay y → x ≡ y
from_ok x y h = cc

pub not_ok : {A B : Type 0} (e : Fault) (x : A) → Err e ≡ okay x → B
not_ok e x h = absurd (cc)

pub below : (a b : ℕ) → nat_lt a b ≡ false → b ≤ a
below a b h = grind (arith, nat_tests)

pub under : (a b : ℕ) → nat_lt a b ≡ true → a < b
under a b h = grind (arith, nat_tests)

-- These tokens are spelled, and what is left follows them.
pub record Taken {A : Type 0} (P : A → Phrase) (d : ℕ) (ts : List Terminal) (g : Got A) : Type 0 where
  pub front : List Terminal
  pub tokens : ts ≡ front ++ g.rest
  pub spells : P g.tree front g.height
  pub low : g.height ≤ d

pub taken : {A : Type 0} (P : A → Phrase) (d : ℕ) (ts front rest : List Terminal) (x : A) (h : ℕ) → ts ≡ front ++ rest → P x front h → h ≤ d → Taken P d ts (got x h rest)
taken P d ts front rest x h is spells low = record { front = front; tokens = is; spells = spells; low = low }

-- of statements, what follows counts
pub record Stated {A : Type 0} (P : A → List Terminal → List Terminal → ℕ → Type 0) (d : ℕ) (ts : List Terminal) (g : Got A) : Type 0 where
  pub front : List Terminal
  pub tokens : ts ≡ front ++ g.rest
  pub spells : P g.tree front g.rest g.height
  pub low : g.height ≤ d

-- an expression of level l, up to where no operator of level l follows
pub record Leveled (d l : ℕ) (ts : List Terminal) (g : Got Exp) : Type 0 where
  pub front : List Terminal
  pub tokens : ts ≡ front ++ g.rest
  pub spells : Spelled g.tree l front g.height
  pub stops : lead g.rest < l
  pub low : g.height ≤ d

pub record Sound (d : ℕ) (again : Readers) : Type 0 where
  pub expression : (l : ℕ) (ts : List Terminal) (g : Got Exp) → l ≤ 11 → again.expression l ts ≡ Ok g → Leveled d l ts g
  pub statement : (ts : List Terminal) (g : Got Stm) → again.statement ts ≡ Ok g → Stated OfStm d ts g
  pub start : (ts : List Terminal) (g : Got Stm) → again.start ts ≡ Ok g → Taken StartOf d ts g
  pub step : (ts : List Terminal) (g : Got Stm) → again.step ts ≡ Ok g → Taken StepOf d ts g

-- Lists.

module _ {A : Type 0} (d : ℕ) (item : Read A) (comma : Bool) (close : Terminal) (shut : Shut) (c : Closes close shut) (P : A → Phrase)
    (sound : (ts : List Terminal) (g : Got A) → item ts ≡ Ok g → Taken P d ts g) where
  -- a list with an item
  record Several (ts : List Terminal) (g : Got (List A)) : Type 0 where
    head : A
    tail : List A
    left : List Terminal
    right : List Terminal
    low : ℕ
    other : ℕ
    tree : g.tree ≡ head ∷ tail
    first : P head left low
    second : Others comma close (map P tail) right other
    tokens : ts ≡ left ++ (right ++ g.rest)
    height : g.height ≡ max low other
    fits : g.height ≤ d

  record Following (ts : List Terminal) (g : Got (List A)) : Type 0 where
    front : List Terminal
    tokens : ts ≡ front ++ g.rest
    spells : Others comma close (map P g.tree) front g.height
    fits : g.height ≤ d

  last_following : (ts front rest : List Terminal) (g : Got (List A)) → Others comma close [] front 0 → ts ≡ front ++ rest → ended_list rest ≡ okay g → Following ts g
  last_following ts front rest g spells is same =
      let it : Following ts (got [] 0 rest) = record { front = front; tokens = is; spells = spells; fits = omega arith } in subst (λ (z : Got (List A)). Following ts z) (from_ok _ _ same) it

  more_following : (ts us : List Terminal) (g : Got (List A)) → ts ≡ k.Comma ∷ us → Several us g → Following ts g
  more_following ts us g is s = record {
    front = k.Comma ∷ (s.left ++ s.right);
    tokens = is ∙ ap (λ z. k.Comma ∷ z) (s.tokens ∙ sym (append_assoc s.left s.right g.rest));
    spells = subst (λ (xs : List A). Others comma close (map P xs) (k.Comma ∷ (s.left ++ s.right)) g.height) (sym s.tree)
        (record { left = s.left; right = s.right; low = s.low; other = s.other; first = s.first; second = s.second; tokens = refl; height = (let h = s.height in omega (arith, h)) });
    fits = s.fits;
  }

  following : (m : ℕ) → ((ts : List Terminal) (g : Got (List A)) → some item comma shut m ts ≡ Ok g → Several ts g) → (ts : List Terminal) (g : Got (List A)) → others comma shut (some item comma shut m) ts ≡ Ok g → Following ts g
  following m hyp ts g is =
      elim (either_ok (after_comma ts) (λ us. either_way (closing comma shut us) ended_list (some item comma shut m us)) (wants (shut ts) ended_list) g is) [
        | inl x ↦ elim (either_ok (closing comma shut x.0) ended_list (some item comma shut m x.0) g x.2) [
          | inl y ↦ (let z = closes comma x.0 y.0 y.1 in
              last_following ts (k.Comma ∷ close ∷ []) y.0 g (inr (z.0, record { tokens = refl; height = refl })) (is_comma ts x.0 x.1 ∙ ap (λ q. k.Comma ∷ q) (c.is_shut x.0 y.0 z.1)) y.2)
          | inr y ↦ more_following ts x.0 g (is_comma ts x.0 x.1) (hyp x.0 g y.1)
        ]
        | inr x ↦ (let y = wants_ok (shut ts) ended_list g x.1 in last_following ts (close ∷ []) y.0 g (inl (record { tokens = refl; height = refl })) (c.is_shut ts y.0 y.1) y.2)
      ]
    where
      closes : (b : Bool) (us vs : List Terminal) → closing b shut us ≡ Some vs → (b ≡ true) × (shut us ≡ Some vs)
      closes true us vs e = (refl, e)
      closes false us vs e = absurd (cc)

  some_sound : (m : ℕ) (ts : List Terminal) (g : Got (List A)) → some item comma shut m ts ≡ Ok g → Several ts g
  unfolding some
  some_sound zero ts g is = absurd (cc)
  some_sound (suc m) ts g is =
      let x = bind_ok (item ts) (λ g. others comma shut (some item comma shut m) g.rest >>= put g) g is in
      let y = bind_ok (others comma shut (some item comma shut m) x.0.rest) (put x.0) g x.2 in
      let t = sound ts x.0 x.1 in
      let f = following m (some_sound m) x.0.rest y.0 y.1 in
      let it : Several ts (got (x.0.tree ∷ y.0.tree) (max x.0.height y.0.height) y.0.rest) = record {
        head = x.0.tree;
        tail = y.0.tree;
        left = t.front;
        right = f.front;
        low = x.0.height;
        other = y.0.height;
        tree = refl;
        first = t.spells;
        second = f.spells;
        tokens = t.tokens ∙ ap (λ z. t.front ++ z) f.tokens;
        height = refl;
        fits = (let a = t.low in let b = f.fits in omega (arith, a, b));
      } in
      subst (λ (z : Got (List A)). Several ts z) (from_ok _ _ y.2) it

  pub listing_sound : (ts : List Terminal) (g : Got (List A)) → listing item comma shut ts ≡ Ok g → Taken (λ xs. Listing comma close (map P xs)) d ts g
  unfolding listing
  listing_sound ts g is = elim (either_ok (shut ts) ended_list (some item comma shut (length ts) ts) g is) [
    | inl x ↦ (let it : Taken (λ xs. Listing comma close (map P xs)) d ts (got [] 0 x.0) = record { front = close ∷ []; tokens = c.is_shut ts x.0 x.1; spells = record { tokens = refl; height = refl }; low = omega arith } in
        subst (λ (z : Got (List A)). Taken (λ xs. Listing comma close (map P xs)) d ts z) (from_ok _ _ x.2) it)
    | inr x ↦ whole ts g (some_sound (length ts) ts g x.1)
  ]
    where
      whole : (ts : List Terminal) (g : Got (List A)) → Several ts g → Taken (λ xs. Listing comma close (map P xs)) d ts g
      whole ts g s = record {
        front = s.left ++ s.right;
        tokens = s.tokens ∙ sym (append_assoc s.left s.right g.rest);
        spells = subst (λ (xs : List A). Listing comma close (map P xs) (s.left ++ s.right) g.height) (sym s.tree)
            (record { left = s.left; right = s.right; low = s.low; other = s.other; first = s.first; second = s.second; tokens = refl; height = (let h = s.height in omega (arith, h)) });
        low = s.fits;
      }
