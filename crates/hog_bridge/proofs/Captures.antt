-- What a new function captures.
use Rattle.std.proofs.Common.{◌≡◌, ◌≢◌, ℕ, suc, ◌+◌, ◌<◌, ◌≤◌, List, [], ◌∷◌, ◌++◌, length, Option, Some, None, Bool, true, false, cond, refl, sym, ap, ◌∙◌, subst, ◌⊎◌, inl, inr, ⊎_elim, arith, append_assoc, append-nil}
use Rattle.std.specs.Prelude.{◌==◌, nat_lt, bytes_eq, slice_get}
use Rattle.std.proofs.lemmas.List.{length-map}
use Rattle.std.proofs.lemmas.Bool.Decides.{eqb_tells, nat_tests}
use Rattle.hog_value.specs.Values.{Val}
use Rattle.hog_value.specs.Cells.{HeapOf}
use Rattle.hog_tree.specs.Plain.{Word}
use Rattle.hog_captures.specs.Frames as names
use Rattle.hog_captures.specs.Frames.{find_local, find_up, next_index, is_found, knows, captured_of, captures_of, capture}
use Rattle.hog_meaning.specs.World.{Env, find_var}
use Rattle.vm_course.specs.State.{Slot, Upvalue, Frame}
use Rattle.vm_course.specs.Stack.{one_on, find_open, or_opened, or_closed, capture_one, capture_all}
use Rattle.hog_bridge.proofs.Words.{In, Sub, word_tells, captured_known, known_captured, found_in}
use Rattle.hog_bridge.proofs.Places.{Seat, Temp, Var, read, place_of, up_of, up_of_place, ups_of, owner_of, Distinct, placed, seat_place, seat_within}
use Rattle.hog_bridge.proofs.Heaps.{AllFuns, all_map}
use Rattle.hog_bridge.proofs.Picture.{Twin, Owned, UpSees, SeesWord, Sees, FunOk}
use Rattle.hog_bridge.proofs.Exps.{up_sees_on, sees_on, get_more}
use Rattle.hog_bridge.proofs.Writes.{none_on}

-- two variables do not share a place
place_inj : (L : List Seat) (a b p : ℕ) → place_of L a ≡ Some p → place_of L b ≡ Some p → a ≡ b
place_inj [] a b p e f = absurd (cc)
place_inj (Temp v ∷ L) a b p e f = place_inj L a b p e f
place_inj (Var y ∷ L) a b p e f = go (place_inj L a b p) (eqb_tells y a) (eqb_tells y b)
  where
    low : (z : ℕ) → place_of L z ≡ Some p → p < length L
    low z g = (placed [] L z p g).0

    go : (place_of L a ≡ Some p → place_of L b ≡ Some p → a ≡ b) → (((y == a) ≡ true) × (y ≡ a)) ⊎ (((y == a) ≡ false) × (y ≢ a)) → (((y == b) ≡ true) × (y ≡ b)) ⊎ (((y == b) ≡ false) × (y ≢ b)) → a ≡ b
    go ih (inl h) (inl k) = sym h.1 ∙ k.1
    go ih (inl h) (inr k) =
        let e1 : Some (length L) ≡ Some p = rw h.0 at e in let f1 : place_of L b ≡ Some p = rw k.0 at f in
        let lt = low b f1 in let q : length L ≡ p = cc in absurd (omega arith)
    go ih (inr h) (inl k) =
        let f1 : Some (length L) ≡ Some p = rw k.0 at f in let e1 : place_of L a ≡ Some p = rw h.0 at e in
        let lt = low a e1 in let q : length L ≡ p = cc in absurd (omega arith)
    go ih (inr h) (inr k) = let e1 : place_of L a ≡ Some p = rw h.0 at e in let f1 : place_of L b ≡ Some p = rw k.0 at f in ih e1 f1

-- the open upvalue of a place is that of its variable
open_is : (store : List Val) (L : List Seat) (p x : ℕ) (owners : List ℕ) → place_of L x ≡ Some p → find_open (ups_of L store owners) p ≡ owner_of owners x
open_is store L p x [] e = refl
open_is store L p x (o ∷ os) e = go (place_of L o) refl (open_is store L p x os e)
  where
    go : (q : Option ℕ) → place_of L o ≡ q → find_open (ups_of L store os) p ≡ owner_of os x → find_open (up_of_place q (read store o) ∷ ups_of L store os) p ≡ cond (o == x) (Some 0) (one_on (owner_of os x))
    go None f ih =
        let ne : o ≢ x = λ s. absurd (let g : place_of L o ≡ Some p = subst (λ z. place_of L z ≡ Some p) (sym s) e in cc) in
        let t : (o == x) ≡ false = grind (arith, nat_tests) in
        rw t (ap one_on ih)
    go (Some q) f ih = ⊎_elim same other (eqb_tells o x)
      where
        same : ((o == x) ≡ true) × (o ≡ x) → cond (q == p) (Some 0) (one_on (find_open (ups_of L store os) p)) ≡ cond (o == x) (Some 0) (one_on (owner_of os x))
        same h =
            let g : place_of L o ≡ Some p = subst (λ z. place_of L z ≡ Some p) (sym h.1) e in
            let qp : q ≡ p = cc in
            let t : (q == p) ≡ true = grind (arith, nat_tests) in
            rw (t, h.0) refl

        other : ((o == x) ≡ false) × (o ≢ x) → cond (q == p) (Some 0) (one_on (find_open (ups_of L store os) p)) ≡ cond (o == x) (Some 0) (one_on (owner_of os x))
        other h =
            let ne : q ≢ p = λ s. h.1 (place_inj L o x p (subst (λ z. place_of L o ≡ Some z) s f) e) in
            let t : (q == p) ≡ false = grind (arith, nat_tests) in
            rw (t, h.0) (ap one_on ih)

owner_app : (xs : List ℕ) (x v : ℕ) → owner_of xs x ≡ None → x ≢ v → owner_of (xs ++ v ∷ []) x ≡ None
owner_app [] x v e ne = let t : (v == x) ≡ false = grind (arith, nat_tests) in rw t refl
owner_app (y ∷ xs) x v e ne = go (λ f. owner_app xs x v f ne) (y == x) e
  where
    go : (owner_of xs x ≡ None → owner_of (xs ++ v ∷ []) x ≡ None) → (b : Bool) → cond b (Some 0) (one_on (owner_of xs x)) ≡ None → cond b (Some 0) (one_on (owner_of (xs ++ v ∷ []) x)) ≡ None
    go ih true f = absurd (cc)
    go ih false f = ap one_on (ih (none_on (owner_of xs x) f))

differs : (xs : List ℕ) (y x : ℕ) → owner_of (y ∷ xs) x ≡ None → (y ≢ x) × (owner_of xs x ≡ None)
differs xs y x e = ⊎_elim (λ h. absurd (let f : Some 0 ≡ None = rw h.0 at e in cc)) (λ h. (h.1, none_on (owner_of xs x) (rw h.0 at e))) (eqb_tells y x)

owned_app : (n : ℕ) (xs : List ℕ) (v : ℕ) → Owned n xs → owner_of xs v ≡ None → v < n → Owned n (xs ++ v ∷ [])
owned_app n [] v o e h = (h, refl, tt)
owned_app n (x ∷ xs) v o e h =
    let d = differs xs x v e in (o.0, owner_app xs x v o.1 d.0, owned_app n xs v o.2 d.1 h)

found : (xs : List ℕ) (x k : ℕ) → owner_of xs x ≡ Some k → slice_get xs k ≡ Some x
found [] x k e = absurd (cc)
found (y ∷ xs) x k e = ⊎_elim here (there (λ j. found xs x j)) (eqb_tells y x)
  where
    up_some : (o : Option ℕ) (k : ℕ) → one_on o ≡ Some k → (j : ℕ) × (o ≡ Some j) × (k ≡ suc j)
    up_some None k e = absurd (cc)
    up_some (Some j) k e = (j, refl, let q : j + 1 ≡ k = cc in omega (arith, q))

    here : ((y == x) ≡ true) × (y ≡ x) → slice_get (y ∷ xs) k ≡ Some x
    here h = let f : Some 0 ≡ Some k = rw h.0 at e in let q : 0 ≡ k = cc in subst (λ j. slice_get (y ∷ xs) j ≡ Some x) q (ap Some h.1)

    there : ((j : ℕ) → owner_of xs x ≡ Some j → slice_get xs j ≡ Some x) → ((y == x) ≡ false) × (y ≢ x) → slice_get (y ∷ xs) k ≡ Some x
    there ih h = let f : one_on (owner_of xs x) ≡ Some k = rw h.0 at e in
        let u = up_some (owner_of xs x) k f in
        subst (λ j. slice_get (y ∷ xs) j ≡ Some x) (sym u.2) (ih u.0 u.1)

get_seam : {A : Type 0} (xs : List A) (v : A) → slice_get (xs ++ v ∷ []) (length xs) ≡ Some v
get_seam [] v = refl
get_seam (x ∷ xs) v = get_seam xs v

ups_app : (L : List Seat) (store : List Val) (xs ys : List ℕ) → ups_of L store (xs ++ ys) ≡ ups_of L store xs ++ ups_of L store ys
ups_app L store [] ys = refl
ups_app L store (x ∷ xs) ys = ap (λ us. up_of L store x ∷ us) (ups_app L store xs ys)

placed_below : (n : ℕ) (L : List Seat) (x p : ℕ) → Distinct n L → place_of L x ≡ Some p → x < n
placed_below n [] x p d e = absurd (cc)
placed_below n (Temp v ∷ L) x p d e = placed_below n L x p d e
placed_below n (Var y ∷ L) x p d e = ⊎_elim (λ h. subst (λ z. z < n) h.1 d.0) (λ h. placed_below n L x p d.2 (rw h.0 at e)) (eqb_tells y x)

-- one capture
record One (store : List Val) (L : List Seat) (owners : List ℕ) (v : Option ℕ) (got : ℕ × List Upvalue) : Type 0 where
  more : List ℕ
  is : got.1 ≡ ups_of L store (owners ++ more)
  var : ℕ
  known : v ≡ Some var
  owner : slice_get (owners ++ more) got.0 ≡ Some var
  owned : Owned (length store) (owners ++ more)

module _ (store : List Val) (L : List Seat) (f : Frame) (captured : List ℕ) (height : ℕ) (high : length L ≤ height) where
  local_one : (p x : ℕ) (owners : List ℕ) (q : Option ℕ) → Distinct (length store) L → Owned (length store) owners → place_of L x ≡ Some p → owner_of owners x ≡ q → One store L owners (Some x) (or_opened p (ups_of L store owners) q)
  local_one p x owners (Some k) d o e f =
      let nil = append-nil owners in
      record {
        more = [];
        is = ap (ups_of L store) (sym nil);
        var = x;
        known = refl;
        owner = subst (λ xs. slice_get xs k ≡ Some x) (sym nil) (found owners x k f);
        owned = subst (Owned (length store)) (sym nil) o;
      }
  local_one p x owners None d o e f = record {
    more = x ∷ [];
    is = ap (λ u. ups_of L store owners ++ u ∷ []) (ap (λ q. up_of_place q (read store x)) (sym e)) ∙ sym (ups_app L store owners (x ∷ []));
    var = x;
    known = refl;
    owner = ap (λ k. slice_get (owners ++ x ∷ []) k) (length-map owners (λ y. up_of L store y)) ∙ get_seam owners x;
    owned = owned_app (length store) owners x o f (placed_below (length store) L x p d e);
  }

  cap_one : (l u v : Option ℕ) (owners : List ℕ) → SeesWord l u v f.base captured L owners → Distinct (length store) L → Owned (length store) owners → is_found l u ≡ true → One store L owners v (capture_one height f captured (capture l u) (ups_of L store owners))
  cap_one (Some i) u (Some x) owners s d o k =
      let e = seat_place (length store) L (f.base + i) x d s in
      let lt = seat_within L (f.base + i) (Var x) s in
      let t : nat_lt (f.base + i) height ≡ true = grind (arith, nat_tests) in
      subst (λ b. One store L owners (Some x) (cond b (or_opened (f.base + i) (ups_of L store owners) (find_open (ups_of L store owners) (f.base + i))) (or_closed (ups_of L store owners) None))) (sym t)
      (subst (λ q. One store L owners (Some x) (or_opened (f.base + i) (ups_of L store owners) q)) (sym (open_is store L (f.base + i) x owners e))
      (local_one (f.base + i) x owners (owner_of owners x) d o e refl))
  cap_one (Some i) u None owners s d o k = absurd s
  cap_one None (Some j) (Some x) owners s d o k =
      let nil = append-nil owners in
      subst (λ q. One store L owners (Some x) (or_closed (ups_of L store owners) q)) (sym s.1)
      (record {
        more = [];
        is = ap (ups_of L store) (sym nil);
        var = x;
        known = refl;
        owner = subst (λ xs. slice_get xs s.0 ≡ Some x) (sym nil) s.2;
        owned = subst (Owned (length store)) (sym nil) o;
      })
  cap_one None (Some j) None owners s d o k = absurd s
  cap_one None None v owners s d o k = absurd (cc)

shift : (j v : Option ℕ) (k : ℕ) (us owners : List ℕ) → UpSees j v us owners → UpSees (next_index j) v (k ∷ us) owners
shift None None k us owners h = h
shift (Some j) (Some x) k us owners h = h
shift None (Some x) k us owners h = h
shift (Some j) None k us owners h = h

-- all captures of a new function
pub record Taken (store : List Val) (L : List Seat) (ρ : Env) (owners : List ℕ) (xs : List Word) (got : List ℕ × List Upvalue) : Type 0 where
  pub more : List ℕ
  pub is : got.1 ≡ ups_of L store (owners ++ more)
  pub owned : Owned (length store) (owners ++ more)
  pub sees : (x : Word) → In x xs → UpSees (find_up xs x) (find_var ρ x) got.0 (owners ++ more)

module _ (store : List Val) (L : List Seat) (f : Frame) (captured : List ℕ) (height : ℕ) (high : length L ≤ height) (fr : names.Frame) (ρ : Env) (ws : List Word) where
  pub take_all : (xs : List Word) (owners : List ℕ) → Sees ws fr ρ f.base captured L owners → Distinct (length store) L → Owned (length store) owners → ((x : Word) → In x xs → In x ws × (knows fr x ≡ true)) → Taken store L ρ owners xs (capture_all height f captured (captures_of fr xs) (ups_of L store owners))
  take_all [] owners s d o k = record {
    more = [];
    is = ap (ups_of L store) (sym (append-nil owners));
    owned = subst (Owned (length store)) (sym (append-nil owners)) o;
    sees = λ x i. absurd i;
  }
  take_all (y ∷ ys) owners s d o k =
      let c = capture (find_local fr.locals y) (find_up fr.ups y) in
      let got1 = capture_one height f captured c (ups_of L store owners) in
      let ky = k y (inl refl) in
      let one : One store L owners (find_var ρ y) got1 = cap_one store L f captured height high (find_local fr.locals y) (find_up fr.ups y) (find_var ρ y) owners (s y ky.0) d o ky.1 in
      let s1 = sees_on ws fr ρ f.base captured L owners one.more s in
      let rest0 = take_all ys (owners ++ one.more) s1 d one.owned (λ x i. k x (inr i)) in
      let rest : Taken store L ρ (owners ++ one.more) ys (capture_all height f captured (captures_of fr ys) got1.1) =
      subst (λ us. Taken store L ρ (owners ++ one.more) ys (capture_all height f captured (captures_of fr ys) us)) (sym one.is) rest0 in
      let both = append_assoc owners one.more rest.more in
      let numbers = (capture_all height f captured (captures_of fr ys) got1.1).0 in
      record {
        more = one.more ++ rest.more;
        is = rest.is ∙ ap (ups_of L store) both;
        owned = subst (Owned (length store)) both rest.owned;
        sees = λ x i. subst (λ os. UpSees (find_up (y ∷ ys) x) (find_var ρ x) (got1.0 ∷ numbers) os) both
            (⊎_elim
            (λ h. at_head y ys x got1.0 numbers one.var ((owners ++ one.more) ++ rest.more) h one.known (get_more (owners ++ one.more) rest.more got1.0 one.var one.owner))
            (λ h. at_tail y ys x got1.0 numbers ((owners ++ one.more) ++ rest.more) h.0 (rest.sees x (older y ys x h.1 i)))
            (word_tells y x));
      }
    where
      older : (y : Word) (ys : List Word) (x : Word) → y ≢ x → (y ≡ x) ⊎ In x ys → In x ys
      older y ys x n (inl e) = absurd (n e)
      older y ys x n (inr i) = i

      at_head : (y : Word) (ys : List Word) (x : Word) (u : ℕ) (us : List ℕ) (var : ℕ) (os : List ℕ) → (bytes_eq y x ≡ true) × (y ≡ x) → find_var ρ y ≡ Some var → slice_get os u ≡ Some var → UpSees (find_up (y ∷ ys) x) (find_var ρ x) (u ∷ us) os
      at_head y ys x u us var os h known owner =
          let e : find_var ρ x ≡ Some var = subst (λ z. find_var ρ z ≡ Some var) h.1 known in
          rw (h.0, e) (u, refl, owner)

      at_tail : (y : Word) (ys : List Word) (x : Word) (u : ℕ) (us os : List ℕ) → bytes_eq y x ≡ false → UpSees (find_up ys x) (find_var ρ x) us os → UpSees (find_up (y ∷ ys) x) (find_var ρ x) (u ∷ us) os
      at_tail y ys x u us os f h = rw f (shift (find_up ys x) (find_var ρ x) u us os h)

  unseen : (l u v : Option ℕ) (owners us os : List ℕ) → is_found l u ≡ false → SeesWord l u v f.base captured L owners → UpSees None v us os
  unseen (Some i) u v owners us os e s = absurd (cc)
  unseen None (Some j) v owners us os e s = absurd (cc)
  unseen None None None owners us os e s = s
  unseen None None (Some x) owners us os e s = absurd s

  -- the new function's captured variables are those of its names in sight
  pub taken_sees : (words : List Word) (owners : List ℕ) (got : List ℕ × List Upvalue) → Sub words ws → Sees ws fr ρ f.base captured L owners → (t : Taken store L ρ owners (captured_of fr words) got) → (x : Word) → In x words → UpSees (find_up (captured_of fr words) x) (find_var ρ x) got.0 (owners ++ t.more)
  taken_sees words owners got sub s t x i = go (knows fr x) refl
    where
      go : (b : Bool) → knows fr x ≡ b → UpSees (find_up (captured_of fr words) x) (find_var ρ x) got.0 (owners ++ t.more)
      go true e = t.sees x (known_captured fr words x i e)
      go false e = ⊎_elim
          (λ (none : find_up (captured_of fr words) x ≡ None). subst (λ j. UpSees j (find_var ρ x) got.0 (owners ++ t.more)) (sym none)
          (unseen (find_local fr.locals x) (find_up fr.ups x) (find_var ρ x) owners got.0 (owners ++ t.more) e (s x (sub.all x i))))
          (λ k. let r = captured_known fr words x k in let r1 = r.1 in absurd (cc))
          (found_in (captured_of fr words) x (find_up (captured_of fr words) x) refl)

  pub known_names : (words : List Word) → Sub words ws → (x : Word) → In x (captured_of fr words) → In x ws × (knows fr x ≡ true)
  known_names words sub x i = let r = captured_known fr words x i in (sub.all x r.0, r.1)

-- the functions that were there see what they saw
pub fun_on : (code : List Slot) (owners more : List ℕ) (t : Twin) → FunOk code owners t → FunOk code (owners ++ more) t
fun_on code owners more t k = record {
  ups = k.ups;
  code_at = k.code_at;
  params = k.params;
  calls = k.calls;
  sees = λ x i. up_sees_on (find_up k.ups x) (find_var t.0.env x) t.1.captured owners more (k.sees x i);
}

pub funs_on : (code : List Slot) (owners more : List ℕ) (h : HeapOf Twin) → AllFuns (FunOk code owners) h → AllFuns (FunOk code (owners ++ more)) h
funs_on code owners more h a = all_map (FunOk code owners) (FunOk code (owners ++ more)) h (λ t k. fun_on code owners more t k) a
