-- What events come to where the names in sight are known with the numbers of their declarations: the items of their words,
-- how many names are declared then, and the names in sight after them.
use Rattle.std.proofs.Common.{◌≡◌, ℕ, suc, ◌+◌, List, [], ◌∷◌, ◌++◌, length, Option, Some, None, Bool, true, false, cond, Result, Ok, Err, is_some, refl, sym, ap, ◌∙◌, subst, inl, inr, ⊎_elim, append_assoc, append-nil, add-zero, arith}
use Rattle.std.specs.Prelude.{bytes_eq, option_map}
use Rattle.hog_value.specs.declared.native.Native.{Native}
use Rattle.hog_value.specs.Natives.{native_named, takes_of}
use Rattle.hog_tree.specs.Plain.{Word}
use Rattle.hog_scope.specs.declared.item.Item.{Item}
use Rattle.hog_scope.specs.declared.item.Item.TheVariants as item
use Rattle.hog_scope.specs.declared.scope.Variable.{Variable}
use Rattle.hog_scope.specs.Words.{Event, Closes, Declares, Binds, Reads, Assigns, Calls, Spells, scope_of, declared, all_declared}
use Rattle.hog_scope.specs.Scopes.{Scope, Known, Cause, AlreadyDeclared, WrongCount, step, run, onward, opened, closed, with_item, read_item, assigned_item, called_item, variable_in, with_declared, with_seen, with_name, seen_or, nearest, seen_at}
use Rattle.hog_scope.proofs.Environment.{seen-binds}
use Rattle.hog_scope.proofs.Closed.{KeepsScopes}
use Rattle.hog_meaning.specs.World.{Env, find_var}
use Rattle.hog_names.specs.Numbers.{param_items, call_item, with_numbers}
use Rattle.hog_bridge.proofs.Words.{Tells, word_tells}

-- the environment finds the declaration that each word means
pub record Tied (σ : Env) (k : Known) : Type 0 where
  pub found : (w : Word) → seen_at k w ≡ find_var σ w

-- what was known before and after events
pub record Went (τ : Env) (n : ℕ) (new : List Item) (k m : Known) : Type 0 where
  pub items : m.items ≡ k.items ++ new
  pub count : m.declared ≡ n
  pub tied : Tied τ m
  pub around : m.around ≡ k.around

-- from names in sight to names in sight
pub record Part (σ : Env) (i : ℕ) (τ : Env) (j : ℕ) (es : List Event) (new : List Item) : Type 0 where
  pub goes : (k m : Known) → Tied σ k → k.declared ≡ i → run es k ≡ Ok m → Went τ j new k m

-- events that were gone through were so in two parts
pub parted : (es fs : List Event) (k m : Known) → run (es ++ fs) k ≡ Ok m → (n : Known) × (run es k ≡ Ok n) × (run fs n ≡ Ok m)
parted [] fs k m h = (k, refl, h)
parted (e ∷ es) fs k m h = by (step e k) h (λ n. parted es fs n m)
  where
    by : (o : Result Known Cause) → onward (length k.items) o (run (es ++ fs)) ≡ Ok m
        → ((n : Known) → run (es ++ fs) n ≡ Ok m → (j : Known) × (run es n ≡ Ok j) × (run fs j ≡ Ok m))
        → (j : Known) × (onward (length k.items) o (run es) ≡ Ok j) × (run fs j ≡ Ok m)
    by (Ok n) h rest = rest n h
    by (Err cause) h rest = absurd cc

-- events go on from what is known after those before them
pub run_on : (es fs : List Event) (k m : Known) → run es k ≡ Ok m → run (es ++ fs) k ≡ run fs m
run_on [] fs k m ran = let same : k ≡ m = cc in ap (run fs) same
run_on (e ∷ es) fs k m ran = by (step e k) ran (λ n. run_on es fs n m)
  where
    by : (o : Result Known Cause) → onward (length k.items) o (run es) ≡ Ok m → ((n : Known) → run es n ≡ Ok m → run (es ++ fs) n ≡ run fs m)
        → onward (length k.items) o (run (es ++ fs)) ≡ run fs m
    by (Ok n) ran rest = rest n ran
    by (Err cause) ran rest = absurd cc

-- what is known after one event
pub one : (e : Event) (k m : Known) → run (e ∷ []) k ≡ Ok m → step e k ≡ Ok m
one e k m h = by (step e k) h
  where
    by : (o : Result Known Cause) → onward (length k.items) o (run []) ≡ Ok m → o ≡ Ok m
    by (Ok n) h = let same : n ≡ m = cc in ap Ok same
    by (Err cause) h = absurd cc

went_is : {τ : Env} {j : ℕ} {new : List Item} (k n m : Known) {E : Type 0} {o : Result Known E} → o ≡ Ok n → o ≡ Ok m → Went τ j new k n → Went τ j new k m
went_is {τ} {j} {new} k n m is h g = let same : n ≡ m = cc in subst (Went τ j new k) same g

pub then_part : {σ τ υ : Env} {i j l : ℕ} {es fs : List Event} {is js : List Item} → Part σ i τ j es is → Part τ j υ l fs js → Part σ i υ l (es ++ fs) (is ++ js)
then_part {σ} {τ} {υ} {i} {j} {l} {es} {fs} {is} {js} p q = record { goes = both }
  where
    both : (k m : Known) → Tied σ k → k.declared ≡ i → run (es ++ fs) k ≡ Ok m → Went υ l (is ++ js) k m
    both k m t c h =
        let n = parted es fs k m h in
        let a = p.goes k n.0 t c n.1 in
        let b = q.goes n.0 m a.tied a.count n.2 in
        record {
          items = b.items ∙ ap (λ z. z ++ js) a.items ∙ append_assoc k.items is js;
          count = b.count;
          tied = b.tied;
          around = b.around ∙ a.around;
        }

pub nothing : {σ : Env} {i : ℕ} → Part σ i σ i [] []
nothing {σ} = record { goes = λ k m t c h. went_is k k m refl h (record { items = sym (append-nil k.items); count = c; tied = t; around = refl }) }

-- the same, in other words
pub events_so : {σ τ : Env} {i j : ℕ} {es fs : List Event} {is : List Item} → es ≡ fs → Part σ i τ j es is → Part σ i τ j fs is
events_so {σ} {τ} {i} {j} {es} {fs} {is} e p = subst (λ z. Part σ i τ j z is) e p

pub items_so : {σ τ : Env} {i j : ℕ} {es : List Event} {is js : List Item} → is ≡ js → Part σ i τ j es is → Part σ i τ j es js
items_so {σ} {τ} {i} {j} {es} e p = subst (Part σ i τ j es) e p

pub count_so : {σ τ : Env} {i j l : ℕ} {es : List Event} {is : List Item} → j ≡ l → Part σ i τ j es is → Part σ i τ l es is
count_so {σ} {τ} {i} {j} {l} {es} {is} e p = subst (λ z. Part σ i τ z es is) e p

-- a word with its item
with_this_item : {σ : Env} {i : ℕ} (k m : Known) (x : Item) → with_item k (Ok x) ≡ Ok m → Tied σ k → k.declared ≡ i → Went σ i (x ∷ []) k m
with_this_item k m x h t c =
    went_is k (record k { items = k.items ++ x ∷ [] }) m refl h
    (record { items = refl; count = c; tied = record { found = t.found }; around = refl })

pub reads : {σ : Env} {i : ℕ} (w : Word) → Part σ i σ i (Reads w ∷ []) (read_item (find_var σ w) ∷ [])
reads {σ} {i} w = record {
  goes = λ k m t c h. subst (λ o. Went σ i (read_item o ∷ []) k m) (t.found w)
      (with_this_item k m (read_item (seen_at k w)) (one (Reads w) k m h) t c);
}

-- a word that is assigned without fault is declared
pub assigns : {σ : Env} {i : ℕ} (w : Word) → Part σ i σ i (Assigns w ∷ []) (read_item (find_var σ w) ∷ [])
assigns {σ} {i} w = record {
  goes = λ k m t c h. subst (λ o. Went σ i (read_item o ∷ []) k m) (t.found w) (by (seen_at k w) k m (one (Assigns w) k m h) t c);
}
  where
    by : (o : Option ℕ) (k m : Known) → with_item k (assigned_item o) ≡ Ok m → Tied σ k → k.declared ≡ i → Went σ i (read_item o ∷ []) k m
    by None k m h t c = absurd cc
    by (Some x) k m h t c = with_this_item k m (item.Declared x) h t c

-- a word that is called without fault is declared, or a native
pub calls : {σ : Env} {i : ℕ} (w : Word) (n : ℕ) → Part σ i σ i (Calls w n ∷ []) (call_item (find_var σ w) (native_named w) ∷ [])
calls {σ} {i} w n = record {
  goes = λ k m t c h. subst (λ o. Went σ i (call_item o (native_named w) ∷ []) k m) (t.found w)
      (by (seen_at k w) (native_named w) k m (one (Calls w n) k m h) t c);
}
  where
    native : (b : Bool) (f : Native) (k m : Known) → with_item k (cond b (Ok (item.Native f)) (Err WrongCount)) ≡ Ok m → Tied σ k → k.declared ≡ i → Went σ i (item.Native f ∷ []) k m
    native true f k m h t c = with_this_item k m (item.Native f) h t c
    native false f k m h t c = absurd cc

    by : (o : Option ℕ) (f : Option Native) (k m : Known) → with_item k (called_item o f n) ≡ Ok m → Tied σ k → k.declared ≡ i → Went σ i (call_item o f ∷ []) k m
    by None None k m h t c = absurd cc
    by None (Some f) k m h t c = native (takes_of f n) f k m h t c
    by (Some x) f k m h t c = with_this_item k m (item.Declared x) h t c

pub spells : {σ : Env} {i : ℕ} (t : Word) → Part σ i σ i (Spells t ∷ []) []
spells t = record {
  goes = λ k m tied c h. went_is k k m refl (one (Spells t) k m h) (record { items = sym (append-nil k.items); count = c; tied = tied; around = refl });
}

-- the number that a scope has for a word, seen or not
abbrev pub number_in : Scope → Word → Option ℕ
number_in scope w = option_map (λ x. x.number) (variable_in scope w)

itself : (w : Word) → bytes_eq w w ≡ true
itself w = ⊎_elim (λ t. t.0) (λ t. absurd (t.1 refl)) (word_tells w w)

other_way : (v w : Word) → bytes_eq v w ≡ bytes_eq w v
other_way v w = ⊎_elim (λ s. s.0 ∙ sym (itself v) ∙ ap (λ z. bytes_eq z v) s.1) (λ s. s.0 ∙ sym (apart (word_tells w v) s.1)) (word_tells v w)
  where
    apart : Tells w v → (v ≡ w → ⊥) → bytes_eq w v ≡ false
    apart (inl t) n = absurd (n (sym t.1))
    apart (inr t) n = t.0

pub number_new : (scope : Scope) (w : Word) (n : ℕ) → variable_in scope w ≡ None → number_in (with_declared scope w n) w ≡ Some n
number_new [] w n none = rw (itself w) refl
number_new ((u, x) ∷ scope) w n none = by (bytes_eq w u) none (number_new scope w n)
  where
    by : (b : Bool) → cond b (Some x) (variable_in scope w) ≡ None → (variable_in scope w ≡ None → number_in (with_declared scope w n) w ≡ Some n)
        → option_map (λ (y : Variable). y.number) (cond b (Some x) (variable_in (with_declared scope w n) w)) ≡ Some n
    by true none ih = absurd cc
    by false none ih = ih none

pub number_declared : (scope : Scope) (w v : Word) (n i : ℕ) → number_in scope v ≡ Some i → number_in (with_declared scope w n) v ≡ Some i
number_declared [] w v n i h = absurd cc
number_declared ((u, x) ∷ scope) w v n i h = by (bytes_eq v u) h (number_declared scope w v n i)
  where
    by : (b : Bool) → option_map (λ (y : Variable). y.number) (cond b (Some x) (variable_in scope v)) ≡ Some i → (number_in scope v ≡ Some i → number_in (with_declared scope w n) v ≡ Some i)
        → option_map (λ (y : Variable). y.number) (cond b (Some x) (variable_in (with_declared scope w n) v)) ≡ Some i
    by true h ih = h
    by false h ih = ih h

pub number_seen : (scope : Scope) (w v : Word) → number_in (with_seen scope w) v ≡ number_in scope v
number_seen [] w v = refl
number_seen ((u, x) ∷ scope) w v = by (bytes_eq w u) (bytes_eq v u) refl (number_seen scope w v)
  where
    by : (b c : Bool) → bytes_eq v u ≡ c → number_in (with_seen scope w) v ≡ number_in scope v
        → number_in (cond b ((u, record x { is_seen = true }) ∷ scope) ((u, x) ∷ with_seen scope w)) v ≡ option_map (λ (y : Variable). y.number) (cond c (Some x) (variable_in scope v))
    by true true e ih = rw e refl
    by true false e ih = rw e refl
    by false true e ih = rw e refl
    by false false e ih = rw e ih

-- a name that is declared isn't in sight yet
unseen_yet : (scope : Scope) (w v : Word) (n : ℕ) (outer : Option ℕ) → seen_or (variable_in (with_declared scope w n) v) outer ≡ seen_or (variable_in scope v) outer
unseen_yet [] w v n outer = by (bytes_eq v w)
  where
    by : (b : Bool) → seen_or (cond b (Some (record { number = n; is_seen = false })) None) outer ≡ outer
    by true = refl
    by false = refl
unseen_yet ((u, x) ∷ scope) w v n outer = by (bytes_eq v u) (unseen_yet scope w v n outer)
  where
    by : (b : Bool) → seen_or (variable_in (with_declared scope w n) v) outer ≡ seen_or (variable_in scope v) outer
        → seen_or (cond b (Some x) (variable_in (with_declared scope w n) v)) outer ≡ seen_or (cond b (Some x) (variable_in scope v)) outer
    by true ih = refl
    by false ih = ih

-- a declaration: the scope has its number then
pub record Added (σ : Env) (w : Word) (k m : Known) : Type 0 where
  pub is_item : m.items ≡ k.items ++ item.Declared k.declared ∷ []
  pub count : m.declared ≡ suc k.declared
  pub scope : m.scope ≡ with_declared k.scope w k.declared
  pub number : number_in m.scope w ≡ Some k.declared
  pub around : m.around ≡ k.around
  pub tied : Tied σ m

pub declares_goes : {σ : Env} (w : Word) (k m : Known) → Tied σ k → run (Declares w ∷ []) k ≡ Ok m → Added σ w k m
declares_goes {σ} w k m t h = by (variable_in k.scope w) refl (one (Declares w) k m h)
  where
    by : (o : Option Variable) → variable_in k.scope w ≡ o → cond (is_some o) (Err AlreadyDeclared) (Ok (with_name k w)) ≡ Ok m → Added σ w k m
    by (Some x) is h = absurd cc
    by None is h =
        let same : with_name k w ≡ m = cc in
        subst (Added σ w k) same (record {
          is_item = refl;
          count = refl;
          scope = refl;
          number = number_new k.scope w k.declared is;
          around = refl;
          tied = record { found = λ v. unseen_yet k.scope w v k.declared (nearest k.around v) ∙ t.found v };
        })

-- once a declared name is bound the environment finds its declaration
pub binds_goes : {σ : Env} (w : Word) (n : ℕ) (k m : Known) → number_in k.scope w ≡ Some n → Tied σ k → run (Binds w ∷ []) k ≡ Ok m
    → (m ≡ record k { scope = with_seen k.scope w }) × Tied ((w, n) ∷ σ) m
binds_goes {σ} w n k m has t h =
    let s = one (Binds w) k m h in
    let same : record k { scope = with_seen k.scope w } ≡ m = cc in
    (sym same, subst (Tied ((w, n) ∷ σ)) same (by (variable_in k.scope w) refl has))
  where
    by : (o : Option Variable) → variable_in k.scope w ≡ o → option_map (λ (y : Variable). y.number) o ≡ Some n → Tied ((w, n) ∷ σ) (record k { scope = with_seen k.scope w })
    by None e has = absurd cc
    by (Some x) e has = let number : x.number ≡ n = cc in record {
      found = λ v. seen-binds k w x e v ∙ ap (λ b. cond b (Some x.number) (seen_at k v)) (other_way v w)
          ∙ ap (λ z. cond (bytes_eq w v) (Some z) (seen_at k v)) number ∙ ap (cond (bytes_eq w v) (Some n)) (t.found v);
    }

-- a name that is declared, these events, and then the name is seen
pub let_part : {σ : Env} {i j : ℕ} {es : List Event} {new : List Item} (w : Word) → KeepsScopes es → Part σ (suc i) σ j es new
    → Part σ i ((w, i) ∷ σ) j (Declares w ∷ (es ++ Binds w ∷ [])) (item.Declared i ∷ new)
let_part {σ} {i} {j} {es} {new} w kept part = record { goes = all }
  where
    all : (k m : Known) → Tied σ k → k.declared ≡ i → run (Declares w ∷ (es ++ Binds w ∷ [])) k ≡ Ok m → Went ((w, i) ∷ σ) j (item.Declared i ∷ new) k m
    all k m t c h =
        let n = parted (Declares w ∷ []) (es ++ Binds w ∷ []) k m h in
        let d = declares_goes w k n.0 t n.1 in
        let p = parted es (Binds w ∷ []) n.0 m n.2 in
        let a = part.goes n.0 p.0 d.tied (d.count ∙ ap suc c) p.1 in
        let has : number_in p.0.scope w ≡ Some i = ap (λ z. number_in z w) (kept.scope n.0 p.0 p.1) ∙ d.number ∙ ap Some c in
        let b = binds_goes w i p.0 m has a.tied p.2 in
        record {
          items = ap (λ (z : Known). z.items) b.0 ∙ a.items ∙ ap (λ z. z ++ new) d.is_item ∙ append_assoc k.items (item.Declared k.declared ∷ []) new
              ∙ ap (λ z. k.items ++ item.Declared z ∷ new) c;
          count = ap (λ (z : Known). z.declared) b.0 ∙ a.count;
          tied = b.1;
          around = ap (λ (z : Known). z.around) b.0 ∙ a.around ∙ d.around;
        }

-- two names that are declared, these events, and then both are seen
pub let_both : {σ : Env} {i j : ℕ} {es : List Event} {new : List Item} (u v : Word) → KeepsScopes es → Part σ (suc (suc i)) σ j es new
    → Part σ i ((v, suc i) ∷ (u, i) ∷ σ) j (Declares u ∷ Declares v ∷ ((es ++ Binds u ∷ []) ++ Binds v ∷ [])) (item.Declared i ∷ item.Declared (suc i) ∷ new)
let_both {σ} {i} {j} {es} {new} u v kept part = record { goes = all }
  where
    all : (k m : Known) → Tied σ k → k.declared ≡ i → run (Declares u ∷ Declares v ∷ ((es ++ Binds u ∷ []) ++ Binds v ∷ [])) k ≡ Ok m
        → Went ((v, suc i) ∷ (u, i) ∷ σ) j (item.Declared i ∷ item.Declared (suc i) ∷ new) k m
    all k m t c h =
        let n1 = parted (Declares u ∷ []) (Declares v ∷ ((es ++ Binds u ∷ []) ++ Binds v ∷ [])) k m h in
        let d1 = declares_goes u k n1.0 t n1.1 in
        let n2 = parted (Declares v ∷ []) ((es ++ Binds u ∷ []) ++ Binds v ∷ []) n1.0 m n1.2 in
        let d2 = declares_goes v n1.0 n2.0 d1.tied n2.1 in
        let c1 : n1.0.declared ≡ suc i = d1.count ∙ ap suc c in
        let p2 = parted (es ++ Binds u ∷ []) (Binds v ∷ []) n2.0 m n2.2 in
        let p1 = parted es (Binds u ∷ []) n2.0 p2.0 p2.1 in
        let a = part.goes n2.0 p1.0 d2.tied (d2.count ∙ ap suc c1) p1.1 in
        let same = kept.scope n2.0 p1.0 p1.1 in
        let has_u : number_in p1.0.scope u ≡ Some i = ap (λ z. number_in z u) (same ∙ d2.scope) ∙ number_declared n1.0.scope v u n1.0.declared i (d1.number ∙ ap Some c) in
        let has_v : number_in p1.0.scope v ≡ Some (suc i) = ap (λ z. number_in z v) same ∙ d2.number ∙ ap Some c1 in
        let b1 = binds_goes u i p1.0 p2.0 has_u a.tied p1.2 in
        let still : number_in p2.0.scope v ≡ Some (suc i) = ap (λ (z : Known). number_in z.scope v) b1.0 ∙ number_seen p1.0.scope u v ∙ has_v in
        let b2 = binds_goes v (suc i) p2.0 m still b1.1 p2.2 in
        record {
          items = ap (λ (z : Known). z.items) b2.0 ∙ ap (λ (z : Known). z.items) b1.0 ∙ a.items
              ∙ ap (λ z. z ++ new) (d2.is_item ∙ ap (λ z. z ++ item.Declared n1.0.declared ∷ []) d1.is_item)
              ∙ append_assoc (k.items ++ item.Declared k.declared ∷ []) (item.Declared n1.0.declared ∷ []) new
              ∙ append_assoc k.items (item.Declared k.declared ∷ []) (item.Declared n1.0.declared ∷ new)
              ∙ ap (λ z. k.items ++ item.Declared z ∷ item.Declared n1.0.declared ∷ new) c
              ∙ ap (λ z. k.items ++ item.Declared i ∷ item.Declared z ∷ new) c1;
          count = ap (λ (z : Known). z.declared) b2.0 ∙ ap (λ (z : Known). z.declared) b1.0 ∙ a.count;
          tied = b2.1;
          around = ap (λ (z : Known). z.around) b2.0 ∙ ap (λ (z : Known). z.around) b1.0 ∙ a.around ∙ d2.around ∙ d1.around;
        }

-- a scope of its own
pub scope_part : {σ τ : Env} {i j : ℕ} {es : List Event} {new : List Item} → Part σ i τ j es new → Part σ i σ j (scope_of es) new
scope_part {σ} {τ} {i} {j} {es} {new} part = record { goes = all }
  where
    ended : (k j m : Known) (around : List Scope) → around ≡ k.scope ∷ k.around → (let o : Result Known Cause = Ok (closed j around) in o ≡ Ok m)
        → (m.items ≡ j.items) × (m.scope ≡ k.scope) × (m.around ≡ k.around) × (m.declared ≡ j.declared)
    ended k j m around e h =
        let same : closed j around ≡ m = cc in
        let to : m ≡ closed j (k.scope ∷ k.around) = sym same ∙ ap (closed j) e in
        (ap (λ (z : Known). z.items) to, ap (λ (z : Known). z.scope) to, ap (λ (z : Known). z.around) to, ap (λ (z : Known). z.declared) to)

    all : (k m : Known) → Tied σ k → k.declared ≡ i → run (scope_of es) k ≡ Ok m → Went σ j new k m
    all k m t c h =
        let n = parted es (Closes ∷ []) (opened k) m h in
        let a = part.goes (opened k) n.0 (record { found = t.found }) c n.1 in
        let e = ended k n.0 m n.0.around a.around (one Closes n.0 m n.2) in
        record {
          items = e.0 ∙ a.items;
          count = e.3 ∙ a.count;
          tied = record { found = λ w. ap (λ scopes. nearest scopes w) (ap (λ z. z ∷ m.around) e.1 ∙ ap (λ z. k.scope ∷ z) e.2) ∙ t.found w };
          around = e.2;
        }

pub no_scopes : KeepsScopes []
no_scopes = record { scope = λ k m h. (same k m h).0; around = λ k m h. (same k m h).1 }
  where
    same : (k m : Known) → run [] k ≡ Ok m → (m.scope ≡ k.scope) × (m.around ≡ k.around)
    same k m h = let e : m ≡ k = cc in (ap (λ (z : Known). z.scope) e, ap (λ (z : Known). z.around) e)

-- a name that is seen at once, and parameters
pub declared_part : {σ : Env} {i : ℕ} (w : Word) → Part σ i ((w, i) ∷ σ) (suc i) (declared w) (item.Declared i ∷ [])
declared_part w = let_part w no_scopes nothing

pub params_part : {σ : Env} {i : ℕ} (ps : List Word) → Part σ i (with_numbers ps i σ) (i + length ps) (all_declared ps) (param_items ps i)
params_part {σ} {i} [] = count_so (sym (add-zero i)) nothing
params_part {σ} {i} (p ∷ ps) = count_so (omega arith) (then_part (declared_part p) (params_part ps))
