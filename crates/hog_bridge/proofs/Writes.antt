-- A new variable, and a write to one.
use Rattle.std.proofs.Common.{◌≡◌, ◌≢◌, ℕ, zero, suc, ◌+◌, ◌<◌, ◌≤◌, List, [], ◌∷◌, ◌++◌, length, Option, Some, None, Bool, true, false, cond, refl, sym, ap, ◌∙◌, subst, ◌⊎◌, inl, inr, ⊎_elim, arith, length-append}
use Rattle.std.specs.Prelude.{◌==◌, bytes_eq, slice_get, slice_set}
use Rattle.std.proofs.lemmas.List.{get_or_append_left, get_or-set_same, get_or-set_other, length-set}
use Rattle.std.proofs.lemmas.Option.{unwrap_or-slice_get}
use Rattle.std.proofs.Math.Seq.{get_or-append_seam}
use Rattle.std.proofs.lemmas.Bool.Decides.{eqb_tells, nat_tests}
use Rattle.hog_value.specs.Values.{Val}
use Rattle.hog_value.specs.declared.value.Value.TheVariants.{Null}
use Rattle.hog_tree.specs.Plain.{Word}
use Rattle.hog_captures.specs.Frames as names
use Rattle.hog_captures.specs.Frames.{find_local, find_up, with_local}
use Rattle.hog_meaning.specs.World.{World, Env, find_var, declare, write_var}
use Rattle.vm_course.specs.State.{Closed, Frame}
use Rattle.vm_course.specs.Stack.{with_value, one_on}
use Rattle.hog_bridge.proofs.Words.{In, Tells, word_tells}
use Rattle.hog_bridge.proofs.Places.{Seat, Temp, Var, read, seat_at, place_of, up_of, up_of_place, stack_of, ups_of, owner_of, Distinct, length-stack, placed, temps}
use Rattle.hog_bridge.proofs.Picture.{Given, Ghost, Landing, pic, Owned, Kept, SeesWord, Sees}
use Rattle.hog_bridge.proofs.Steps.{sees_push}

read_new : (store : List Val) (v : Val) → read (store ++ v ∷ []) (length store) ≡ v
read_new store v = unwrap_or-slice_get (store ++ v ∷ []) (length store) Null ∙ get_or-append_seam store v [] Null

read_old : (store : List Val) (v : Val) (x : ℕ) → x < length store → read (store ++ v ∷ []) x ≡ read store x
read_old store v x h = unwrap_or-slice_get (store ++ v ∷ []) x Null ∙ get_or_append_left store (v ∷ []) Null x h ∙ sym (unwrap_or-slice_get store x Null)

pub stack_more : (store : List Val) (v : Val) (L : List Seat) → Distinct (length store) L → stack_of (store ++ v ∷ []) L ≡ stack_of store L
stack_more store v [] d = refl
stack_more store v (Temp u ∷ L) d = ap (λ xs. u ∷ xs) (stack_more store v L d)
stack_more store v (Var x ∷ L) d = let e = read_old store v x d.0 in let t = stack_more store v L d.2 in cc

pub distinct_more : (m n : ℕ) (L : List Seat) → m ≤ n → Distinct m L → Distinct n L
distinct_more m n [] le d = d
distinct_more m n (Temp v ∷ L) le d = distinct_more m n L le d
distinct_more m n (Var x ∷ L) le d = (omega (arith, d.0), d.1, distinct_more m n L le d.2)

pub owned_more : (m n : ℕ) (xs : List ℕ) → m ≤ n → Owned m xs → Owned n xs
owned_more m n [] le d = d
owned_more m n (x ∷ xs) le d = (omega (arith, d.0), d.1, owned_more m n xs le d.2)

-- a number that is not given out yet stands nowhere
pub fresh_place : (n : ℕ) (L : List Seat) → Distinct n L → place_of L n ≡ None
fresh_place n [] d = refl
fresh_place n (Temp v ∷ L) d = fresh_place n L d
fresh_place n (Var x ∷ L) d = let ih = fresh_place n L d.2 in let lt = d.0 in grind (arith, nat_tests)

-- the two pictures are the same but for the upvalues and the stack
pub place_temps : (vs : List Val) (L M : List Seat) (o : ℕ) → place_of L o ≡ place_of M o → place_of (temps vs L) o ≡ place_of (temps vs M) o
place_temps [] L M o e = e
place_temps (v ∷ vs) L M o e = place_temps vs (Temp v ∷ L) (Temp v ∷ M) o e

pub stack_temps : (vs : List Val) (s1 s2 : List Val) (L M : List Seat) → stack_of s1 L ≡ stack_of s2 M → stack_of s1 (temps vs L) ≡ stack_of s2 (temps vs M)
stack_temps [] s1 s2 L M e = e
stack_temps (v ∷ vs) s1 s2 L M e = stack_temps vs s1 s2 (Temp v ∷ L) (Temp v ∷ M) (ap (λ xs. v ∷ xs) e)

pub new_place : (n : ℕ) (v : Val) (L : List Seat) (o : ℕ) → o < n → place_of (Temp v ∷ L) o ≡ place_of (Var n ∷ L) o
new_place n v L o h = grind (arith, nat_tests)

up_new : (store : List Val) (v : Val) (vs : List Val) (L : List Seat) (o : ℕ) → o < length store → up_of (temps vs (Temp v ∷ L)) store o ≡ up_of (temps vs (Var (length store) ∷ L)) (store ++ v ∷ []) o
up_new store v vs L o h =
    let p = place_temps vs (Temp v ∷ L) (Var (length store) ∷ L) o (new_place (length store) v L o h) in
    let r = read_old store v o h in
    ap (λ q. up_of_place q (read store o)) p ∙ ap (up_of_place (place_of (temps vs (Var (length store) ∷ L)) o)) (sym r)

pub ups_new : (store : List Val) (v : Val) (vs : List Val) (L : List Seat) (owners : List ℕ) → Owned (length store) owners → ups_of (temps vs (Temp v ∷ L)) store owners ≡ ups_of (temps vs (Var (length store) ∷ L)) (store ++ v ∷ []) owners
ups_new store v vs L [] h = refl
ups_new store v vs L (o ∷ os) h = let a = up_new store v vs L o h.0 in let b = ups_new store v vs L os h.2 in cc

-- a temporary becomes a variable
pub becomes : (fs : List Frame) (ls : List Landing) (vs : List Val) (v : Val) (L : List Seat) (G : Ghost) (w : World) → Distinct (length w.store) L → Owned (length w.store) G.owners → pic fs ls (temps vs (Temp v ∷ L)) G w ≡ pic fs ls (temps vs (Var (length w.store) ∷ L)) G (declare v w)
becomes fs ls vs v L G w d o =
    let M = temps vs (Var (length w.store) ∷ L) in
    let top : stack_of w.store (Temp v ∷ L) ≡ stack_of (w.store ++ v ∷ []) (Var (length w.store) ∷ L) =
    let e1 = read_new w.store v in let e2 = stack_more w.store v L d in cc in
    let st = stack_temps vs w.store (w.store ++ v ∷ []) (Temp v ∷ L) (Var (length w.store) ∷ L) top in
    let us = ups_new w.store v vs L G.owners o in
    ap (λ x. record (pic fs ls (temps vs (Temp v ∷ L)) G w) { stack = x }) st
    ∙ ap (λ x. record (pic fs ls M G (declare v w)) { upvalues = x }) us

pub kept_new : {g : Given} {n : ℕ} (v : Val) (L : List Seat) {G : Ghost} (w : World) → Kept g n L G w → Kept g n (Var (length w.store) ∷ L) G (declare v w)
kept_new v L {G} w k =
    let m : length (w.store ++ v ∷ []) ≡ length w.store + 1 = omega (arith, length-append w.store (v ∷ [])) in
    record {
      layout = (omega arith, fresh_place (length w.store) L k.layout, distinct_more (length w.store) _ L (omega arith) k.layout);
      owners = owned_more (length w.store) _ G.owners (omega arith) k.owners;
      heap = k.heap;
      funs = k.funs;
      texts = k.texts;
      turns = k.turns;
    }

-- a write to a variable on the stack

read_set_same : (store : List Val) (x : ℕ) (v : Val) → x < length store → read (slice_set store x v) x ≡ v
read_set_same store x v h = unwrap_or-slice_get (slice_set store x v) x Null ∙ get_or-set_same store x v Null h

read_set_other : (store : List Val) (x y : ℕ) (v : Val) → y ≢ x → read (slice_set store x v) y ≡ read store y
read_set_other store x y v h = unwrap_or-slice_get (slice_set store x v) y Null ∙ get_or-set_other store x y v Null h ∙ sym (unwrap_or-slice_get store y Null)

-- where the variable stands nowhere, the stack stays
stack_elsewhere : (store : List Val) (x : ℕ) (v : Val) (L : List Seat) → place_of L x ≡ None → stack_of (slice_set store x v) L ≡ stack_of store L
stack_elsewhere store x v [] e = refl
stack_elsewhere store x v (Temp u ∷ L) e = ap (λ xs. u ∷ xs) (stack_elsewhere store x v L e)
stack_elsewhere store x v (Var y ∷ L) e =
    ⊎_elim (λ h. absurd (grind (arith, nat_tests)))
    (λ h. let e1 : place_of L x ≡ None = grind (arith, nat_tests) in
    let a = read_set_other store x y v h.1 in let b = stack_elsewhere store x v L e1 in cc)
    (eqb_tells y x)

pub stack_write : (store : List Val) (x p : ℕ) (v : Val) (L : List Seat) → Distinct (length store) L → place_of L x ≡ Some p → with_value (stack_of store L) p v ≡ stack_of (slice_set store x v) L
stack_write store x p v [] d e = absurd (cc)
stack_write store x p v (Temp u ∷ L) d e =
    let pl = placed store L x p e in let l = length-stack store L in
    let ih = stack_write store x p v L d e in
    let ne : ((length (stack_of store L)) == p) ≡ false = grind (arith, nat_tests) in
    rw ne (ap (λ xs. u ∷ xs) ih)
stack_write store x p v (Var y ∷ L) d e =
    let l = length-stack store L in
    ⊎_elim
    (λ h.
    let p_is : length L ≡ p = grind (arith, nat_tests) in
    let t : ((length (stack_of store L)) == p) ≡ true = grind (arith, nat_tests) in
    let no : place_of L x ≡ None = subst (λ z. place_of L z ≡ None) h.1 d.1 in
    let lt : x < length store = subst (λ z. z < length store) h.1 d.0 in
    let a = read_set_same store x v lt in
    let b = stack_elsewhere store x v L no in
    let q = h.1 in
    rw t cc)
    (λ h.
    let e1 : place_of L x ≡ Some p = grind (arith, nat_tests) in
    let pl = placed store L x p e1 in
    let ne : ((length (stack_of store L)) == p) ≡ false = grind (arith, nat_tests) in
    let a = read_set_other store x y v h.1 in
    let ih = stack_write store x p v L d.2 e1 in
    rw ne cc)
    (eqb_tells y x)

up_write : (store : List Val) (x p : ℕ) (v : Val) (L : List Seat) (o : ℕ) → place_of L x ≡ Some p → up_of L store o ≡ up_of L (slice_set store x v) o
up_write store x p v L o e =
    ⊎_elim
    (λ h. let e1 : place_of L o ≡ Some p = subst (λ z. place_of L z ≡ Some p) (sym h.1) e in
    ap (λ q. up_of_place q (read store o)) e1 ∙ ap (λ q. up_of_place q (read (slice_set store x v) o)) (sym e1))
    (λ h. ap (up_of_place (place_of L o)) (sym (read_set_other store x o v h.1)))
    (eqb_tells o x)

ups_write : (store : List Val) (x p : ℕ) (v : Val) (L : List Seat) (owners : List ℕ) → place_of L x ≡ Some p → ups_of L store owners ≡ ups_of L (slice_set store x v) owners
ups_write store x p v L [] e = refl
ups_write store x p v L (o ∷ os) e = let a = up_write store x p v L o e in let b = ups_write store x p v L os e in cc

pub writes : (fs : List Frame) (ls : List Landing) (L : List Seat) (G : Ghost) (w : World) (x p : ℕ) (v : Val) → Distinct (length w.store) L → place_of L x ≡ Some p → record (pic fs ls L G w) { stack = with_value (stack_of w.store L) p v } ≡ pic fs ls L G (write_var x v w)
writes fs ls L G w x p v d e =
    ap (λ st. record (pic fs ls L G w) { stack = st }) (stack_write w.store x p v L d e)
    ∙ ap (λ us. record (pic fs ls L G (write_var x v w)) { upvalues = us }) (ups_write w.store x p v L G.owners e)

pub none_on : (o : Option ℕ) → one_on o ≡ None → o ≡ None
none_on None q = refl
none_on (Some i) q = absurd (cc)

-- a write to a closed upvalue
not_owned : (xs : List ℕ) (u x y : ℕ) → owner_of xs y ≡ None → slice_get xs u ≡ Some x → x ≢ y
not_owned [] u x y h e = absurd (cc)
not_owned (z ∷ xs) zero x y h e = λ q. let e1 : z ≡ x = cc in ⊎_elim (λ t. absurd (let h2 : Some 0 ≡ None = rw t.0 at h in cc)) (λ t. t.1 (e1 ∙ q)) (eqb_tells z y)
not_owned (z ∷ xs) (suc u) x y h e = not_owned xs u x y (tail ((z == y)) h) e
  where
    tail : (b : Bool) → cond b (Some 0) (one_on (owner_of xs y)) ≡ None → owner_of xs y ≡ None
    tail true q = absurd (cc)
    tail false q = none_on (owner_of xs y) q

ups_elsewhere : (store : List Val) (x : ℕ) (v : Val) (L : List Seat) (owners : List ℕ) → owner_of owners x ≡ None → ups_of L store owners ≡ ups_of L (slice_set store x v) owners
ups_elsewhere store x v L [] h = refl
ups_elsewhere store x v L (o ∷ os) h =
    let parts = apart (eqb_tells o x) h in
    let a = ap (up_of_place (place_of L o)) (sym (read_set_other store x o v parts.0)) in
    let b = ups_elsewhere store x v L os parts.1 in
    cc
  where
    apart : (((o == x) ≡ true) × (o ≡ x)) ⊎ (((o == x) ≡ false) × (o ≢ x)) → owner_of (o ∷ os) x ≡ None → (o ≢ x) × (owner_of os x ≡ None)
    apart (inl t) e = absurd (let e1 : Some 0 ≡ None = rw t.0 at e in cc)
    apart (inr t) e = (t.1, none_on (owner_of os x) (rw t.0 at e))

ups_closed : (store : List Val) (x u : ℕ) (v : Val) (L : List Seat) (owners : List ℕ) → Owned (length store) owners → slice_get owners u ≡ Some x → place_of L x ≡ None → slice_set (ups_of L store owners) u (Closed v) ≡ ups_of L (slice_set store x v) owners
ups_closed store x u v L [] d e none = absurd (cc)
ups_closed store x zero v L (o ∷ os) d e none =
    let same : o ≡ x = cc in
    let no : owner_of os x ≡ None = subst (λ z. owner_of os z ≡ None) same d.1 in
    let lt : x < length store = subst (λ z. z < length store) same d.0 in
    let none_o : place_of L o ≡ None = subst (λ z. place_of L z ≡ None) (sym same) none in
    let r : read (slice_set store x v) o ≡ v = ap (read (slice_set store x v)) same ∙ read_set_same store x v lt in
    let a : Closed v ≡ up_of L (slice_set store x v) o = ap Closed (sym r) ∙ ap (λ q. up_of_place q (read (slice_set store x v) o)) (sym none_o) in
    let b = ups_elsewhere store x v L os no in
    cc
ups_closed store x (suc u) v L (o ∷ os) d e none =
    let ne : o ≢ x = λ q. not_owned os u x o d.1 e (sym q) in
    let a = ap (up_of_place (place_of L o)) (sym (read_set_other store x o v ne)) in
    let b = ups_closed store x u v L os d.2 e none in
    cc

pub writes_closed : (fs : List Frame) (ls : List Landing) (L : List Seat) (G : Ghost) (w : World) (x u : ℕ) (v : Val) → Owned (length w.store) G.owners → slice_get G.owners u ≡ Some x → place_of L x ≡ None → record (pic fs ls L G w) { upvalues = slice_set (ups_of L w.store G.owners) u (Closed v) } ≡ pic fs ls L G (write_var x v w)
writes_closed fs ls L G w x u v d e none =
    ap (λ us. record (pic fs ls L G w) { upvalues = us }) (ups_closed w.store x u v L G.owners d e none)
    ∙ ap (λ st. record (pic fs ls L G (write_var x v w)) { stack = st }) (sym (stack_elsewhere w.store x v L none))

pub kept_write : {g : Given} {n : ℕ} (x : ℕ) (v : Val) (L : List Seat) {G : Ghost} (w : World) → Kept g n L G w → Kept g n L G (write_var x v w)
kept_write x v L {G} w k =
    let e : length w.store ≡ length (slice_set w.store x v) = sym (length-set w.store x v) in
    record { layout = subst (λ m. Distinct m L) e k.layout; owners = subst (λ m. Owned m G.owners) e k.owners; heap = k.heap; funs = k.funs; texts = k.texts; turns = k.turns }

-- a new local is seen by its name
pub sees_local : (ws : List Word) (fr : names.Frame) (ρ : Env) (base : ℕ) (captured : List ℕ) (x : Word) (var : ℕ) (L : List Seat) (owners : List ℕ) → length L ≡ base + length fr.locals → Sees ws fr ρ base captured L owners → Sees (x ∷ ws) (with_local (Some x) fr) ((x, var) ∷ ρ) base captured (Var var ∷ L) owners
sees_local ws fr ρ base captured x var L owners full h y i = split (word_tells x y)
  where
    top : seat_at (Var var ∷ L) (base + length fr.locals) ≡ Some (Var var)
    top = grind (arith, nat_tests, full)

    At : Bool → Type 0
    At b = SeesWord (cond b (Some (length fr.locals)) (find_local fr.locals y)) (find_up fr.ups y) (cond b (Some var) (find_var ρ y)) base captured (Var var ∷ L) owners

    split : Tells x y → At (bytes_eq x y)
    split (inl t) = subst At (sym t.0) top
    split (inr t) = subst At (sym t.0) (sees_push ws fr ρ base captured (Var var) L owners h y (older i))
      where
        older : (x ≡ y) ⊎ In y ws → In y ws
        older (inl e) = absurd (t.1 e)
        older (inr k) = k
