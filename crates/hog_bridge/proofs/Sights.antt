-- What events come to where the words in sight are known: which they leave in sight, and which texts of theirs are literal.
use Rattle.std.proofs.Common.{◌≡◌, ℕ, List, [], ◌∷◌, ◌++◌, length, drop, Option, Some, None, Bool, true, false, cond, Result, Ok, Err, is_some, refl, sym, ap, ◌∙◌, subst, inl, inr, ⊎_elim, append_assoc, append-nil}
use Rattle.std.specs.Prelude.{bytes_eq, ◌||◌}
use Rattle.hog_value.specs.declared.native.Native.{Native}
use Rattle.hog_value.specs.Natives.{native_named, takes_of}
use Rattle.hog_tree.specs.Plain.{Word}
use Rattle.hog_captures.specs.Frees.{is_among}
use Rattle.hog_scope.specs.declared.item.Item.{Item}
use Rattle.hog_scope.specs.declared.item.Item.TheVariants as item
use Rattle.hog_scope.specs.declared.scope.Variable.{Variable}
use Rattle.hog_scope.specs.Words.{Event, Closes, Declares, Binds, Reads, Assigns, Calls, Spells, scope_of, declared, all_declared}
use Rattle.hog_scope.specs.Literals.{texts_of}
use Rattle.hog_scope.specs.Scopes.{Scope, Known, Cause, AlreadyDeclared, WrongCount, step, run, onward, opened, closed, with_item, read_item, assigned_item, called_item, native_item, variable_in, with_declared, with_seen, with_name, seen_or, nearest, seen_at}
use Rattle.hog_scope.proofs.Environment.{seen-binds}
use Rattle.hog_scope.proofs.Closed.{KeepsScopes}
use Rattle.hog_bridge.proofs.Words.{Tells, word_tells, onto}
use Rattle.hog_bridge.proofs.Resolved.{NativeOk}

-- these words are in sight
pub record Tied (V : List Word) (k : Known) : Type 0 where
  pub tells : (w : Word) → is_some (seen_at k w) ≡ is_among w V

-- what events come to: what holds then, the items of their words, their literal texts, the words in sight, and the scopes around
pub record Went (W : List Word) (es : List Event) (P : Type 0) (ts : List Word) (k m : Known) : Type 0 where
  pub holds : P
  pub new : List Item
  pub items : m.items ≡ k.items ++ new
  pub texts : (fs : List Event) (rest : List Item) → texts_of (es ++ fs) (new ++ rest) ≡ ts ++ texts_of fs rest
  pub tied : Tied W m
  pub around : m.around ≡ k.around

-- from words in sight to words in sight
pub record Part (V W : List Word) (es : List Event) (P : Type 0) (ts : List Word) : Type 0 where
  pub goes : (k m : Known) → Tied V k → run es k ≡ Ok m → Went W es P ts k m

-- events that were gone through were so in two parts
pub parted : (es fs : List Event) (k m : Known) → run (es ++ fs) k ≡ Ok m → (n : Known) × (run es k ≡ Ok n) × (run fs n ≡ Ok m)
parted [] fs k m h = (k, refl, h)
parted (e ∷ es) fs k m h = by (step e k) h (λ n. parted es fs n m)
  where
    by : (o : Result Known Cause) → onward (length k.items) o (run (es ++ fs)) ≡ Ok m
        → ((n : Known) → run (es ++ fs) n ≡ Ok m → (j : Known) × (run es n ≡ Ok j) × (run fs j ≡ Ok m))
        → (j : Known) × (onward (length k.items) o (run es) ≡ Ok j) × (run fs j ≡ Ok m)
    by (Ok n) h rest = rest n h
    by (Err cause) h rest = absurd cc

-- what is known after one event
pub one : (e : Event) (k m : Known) → run (e ∷ []) k ≡ Ok m → step e k ≡ Ok m
one e k m h = by (step e k) h
  where
    by : (o : Result Known Cause) → onward (length k.items) o (run []) ≡ Ok m → o ≡ Ok m
    by (Ok n) h = let same : n ≡ m = cc in ap Ok same
    by (Err cause) h = absurd cc

drop-none : {A : Type 0} (xs : List A) → drop 0 xs ≡ xs
drop-none [] = refl
drop-none (x ∷ xs) = refl

-- what comes of a known state that is the one given
went_is : {W : List Word} {es : List Event} {P : Type 0} {ts : List Word} (k n m : Known) {E : Type 0} {o : Result Known E} → o ≡ Ok n → o ≡ Ok m → Went W es P ts k n → Went W es P ts k m
went_is {W} {es} {P} {ts} k n m is h g = let same : n ≡ m = cc in subst (λ z. Went W es P ts k z) same g

pub then_part : {V W X : List Word} {es fs : List Event} {P Q : Type 0} {ts us : List Word} → Part V W es P ts → Part W X fs Q us → Part V X (es ++ fs) (P × Q) (ts ++ us)
then_part {V} {W} {X} {es} {fs} {P} {Q} {ts} {us} p q = record { goes = both }
  where
    both : (k m : Known) → Tied V k → run (es ++ fs) k ≡ Ok m → Went X (es ++ fs) (P × Q) (ts ++ us) k m
    both k m t h =
        let n = parted es fs k m h in
        let a = p.goes k n.0 t n.1 in
        let b = q.goes n.0 m a.tied n.2 in
        record {
          holds = (a.holds, b.holds);
          new = a.new ++ b.new;
          items = b.items ∙ ap (λ z. z ++ b.new) a.items ∙ append_assoc k.items a.new b.new;
          texts = λ gs rest.
              ap (λ z. texts_of z ((a.new ++ b.new) ++ rest)) (append_assoc es fs gs)
              ∙ ap (texts_of (es ++ (fs ++ gs))) (append_assoc a.new b.new rest)
              ∙ a.texts (fs ++ gs) (b.new ++ rest)
              ∙ ap (λ z. ts ++ z) (b.texts gs rest)
              ∙ sym (append_assoc ts us (texts_of gs rest));
          tied = b.tied;
          around = b.around ∙ a.around;
        }

-- what holds, in other words
pub so : {V W : List Word} {es : List Event} {P Q : Type 0} {ts : List Word} → (P → Q) → Part V W es P ts → Part V W es Q ts
so f p = record {
  goes = λ k m t h. let a = p.goes k m t h in record { holds = f a.holds; new = a.new; items = a.items; texts = a.texts; tied = a.tied; around = a.around };
}

-- the same texts, in other words
pub texts_so : {V W : List Word} {es : List Event} {P : Type 0} {ts us : List Word} → ts ≡ us → Part V W es P ts → Part V W es P us
texts_so {V} {W} {es} {P} e p = subst (λ z. Part V W es P z) e p

pub nothing : {V : List Word} → Part V V [] (Unit {0}) []
nothing {V} = record {
  goes = λ k m t h. went_is k k m refl h
      (record { holds = tt; new = []; items = sym (append-nil k.items); texts = λ fs rest. refl; tied = t; around = refl });
}

-- a word with its item
with_one_item : {V : List Word} (e : Event) {P : Type 0} (ts : List Word) (k m : Known) (o : Result Item Cause) → with_item k o ≡ Ok m → Tied V k
    → ((i : Item) → o ≡ Ok i → P × ((fs : List Event) (rest : List Item) → texts_of (e ∷ fs) (i ∷ rest) ≡ ts ++ texts_of fs rest)) → Went V (e ∷ []) P ts k m
with_one_item e ts k m (Ok i) h t how =
    went_is k (record k { items = k.items ++ i ∷ [] }) m refl h
    (record { holds = (how i refl).0; new = i ∷ []; items = refl; texts = (how i refl).1; tied = record { tells = t.tells }; around = refl })
with_one_item e ts k m (Err cause) h t how = absurd cc

-- a word that is read is a literal text where it isn't in sight
abbrev pub read_texts : Word → Bool → List Word
read_texts w b = cond b [] (w ∷ [])

with_this_item : {V : List Word} (e : Event) {P : Type 0} (ts : List Word) (k m : Known) (i : Item) → with_item k (Ok i) ≡ Ok m → Tied V k → P
    → ((fs : List Event) (rest : List Item) → texts_of (e ∷ fs) (i ∷ rest) ≡ ts ++ texts_of fs rest) → Went V (e ∷ []) P ts k m
with_this_item e ts k m i h t p texts =
    went_is k (record k { items = k.items ++ i ∷ [] }) m refl h
    (record { holds = p; new = i ∷ []; items = refl; texts = texts; tied = record { tells = t.tells }; around = refl })

pub reads : {V : List Word} (w : Word) → Part V V (Reads w ∷ []) (Unit {0}) (read_texts w (is_among w V))
reads {V} w = record {
  goes = λ k m t h. texts_by (seen_at k w) (t.tells w) k m (one (Reads w) k m h) t;
}
  where
    texts_by : (o : Option ℕ) → is_some o ≡ is_among w V → (k m : Known) → with_item k (Ok (read_item o)) ≡ Ok m → Tied V k → Went V (Reads w ∷ []) (Unit {0}) (read_texts w (is_among w V)) k m
    texts_by None e k m h t =
        subst (λ b. Went V (Reads w ∷ []) (Unit {0}) (read_texts w b) k m) e
        (with_this_item (Reads w) (w ∷ []) k m item.Global h t tt (λ fs rest. ap (λ z. w ∷ texts_of fs z) (drop-none rest)))
    texts_by (Some n) e k m h t =
        subst (λ b. Went V (Reads w ∷ []) (Unit {0}) (read_texts w b) k m) e
        (with_this_item (Reads w) [] k m (item.Declared n) h t tt (λ fs rest. ap (texts_of fs) (drop-none rest)))

pub assigns : {V : List Word} (w : Word) → Part V V (Assigns w ∷ []) (Unit {0}) []
assigns w = record {
  goes = λ k m t h. with_one_item (Assigns w) [] k m (assigned_item (seen_at k w)) (one (Assigns w) k m h) t (λ i is. (tt, λ fs rest. ap (texts_of fs) (drop-none rest)));
}

-- a word that is called and isn't in sight is a native, and takes so many
pub calls : {V : List Word} (w : Word) (n : ℕ) → Part V V (Calls w n ∷ []) (is_among w V ≡ false → NativeOk (native_named w) n) []
calls {V} w n = record {
  goes = λ k m t h. with_one_item (Calls w n) [] k m (called_item (seen_at k w) (native_named w) n) (one (Calls w n) k m h) t
      (λ i is. (λ out. native (seen_at k w) i (t.tells w ∙ out) is, λ fs rest. ap (texts_of fs) (drop-none rest)));
}
  where
    takes : (f : Native) (b : Bool) (i : Item) → cond b (Ok (item.Native f)) (Err WrongCount) ≡ Ok i → b ≡ true
    takes f true i is = refl
    takes f false i is = absurd cc

    of_native : (o : Option Native) (i : Item) → native_item o n ≡ Ok i → NativeOk o n
    of_native None i is = cc
    of_native (Some f) i is = takes f (takes_of f n) i is

    native : (o : Option ℕ) (i : Item) → is_some o ≡ false → called_item o (native_named w) n ≡ Ok i → NativeOk (native_named w) n
    native None i out is = of_native (native_named w) i is
    native (Some x) i out is = absurd cc

pub spells : {V : List Word} (t : Word) → Part V V (Spells t ∷ []) (Unit {0}) (t ∷ [])
spells t = record {
  goes = λ k m tied h. went_is k k m refl (one (Spells t) k m h)
      (record { holds = tt; new = []; items = sym (append-nil k.items); texts = λ fs rest. ap (λ z. t ∷ texts_of fs z) (drop-none rest); tied = tied; around = refl });
}

-- a name that is declared isn't in sight yet
pub unseen_yet : (scope : Scope) (w v : Word) (n : ℕ) (outer : Option ℕ) → seen_or (variable_in (with_declared scope w n) v) outer ≡ seen_or (variable_in scope v) outer
unseen_yet [] w v n outer = by (bytes_eq v w)
  where
    by : (b : Bool) → seen_or (cond b (Some (record { number = n; is_seen = false })) None) outer ≡ outer
    by true = refl
    by false = refl
unseen_yet ((u, x) ∷ scope) w v n outer = by (bytes_eq v u) (unseen_yet scope w v n outer)
  where
    by : (b : Bool) → seen_or (variable_in (with_declared scope w n) v) outer ≡ seen_or (variable_in scope v) outer
        → seen_or (cond b (Some x) (variable_in (with_declared scope w n) v)) outer ≡ seen_or (cond b (Some x) (variable_in scope v)) outer
    by true ih = refl
    by false ih = ih

-- a scope has a word, seen or not
abbrev pub Has : Scope → Word → Type 0
Has scope w = is_some (variable_in scope w) ≡ true

pub has_declared : (scope : Scope) (w v : Word) (n : ℕ) → Has scope v → Has (with_declared scope w n) v
has_declared [] w v n h = absurd cc
has_declared ((u, x) ∷ scope) w v n h = by (bytes_eq v u) h (has_declared scope w v n)
  where
    by : (b : Bool) → is_some (cond b (Some x) (variable_in scope v)) ≡ true → (Has scope v → Has (with_declared scope w n) v) → is_some (cond b (Some x) (variable_in (with_declared scope w n) v)) ≡ true
    by true h ih = refl
    by false h ih = ih h

itself : (w : Word) → bytes_eq w w ≡ true
itself w = ⊎_elim (λ t. t.0) (λ t. absurd (t.1 refl)) (word_tells w w)

pub has_new : (scope : Scope) (w : Word) (n : ℕ) → Has (with_declared scope w n) w
has_new [] w n = by (bytes_eq w w) (itself w)
  where
    by : (b : Bool) → b ≡ true → is_some {T = Variable} (cond b (Some (record { number = n; is_seen = false })) None) ≡ true
    by true e = refl
    by false e = absurd cc
has_new ((u, x) ∷ scope) w n = by (bytes_eq w u) (has_new scope w n)
  where
    by : (b : Bool) → Has (with_declared scope w n) w → is_some (cond b (Some x) (variable_in (with_declared scope w n) w)) ≡ true
    by true ih = refl
    by false ih = ih

pub has_seen : (scope : Scope) (w v : Word) → Has scope v → Has (with_seen scope w) v
has_seen [] w v h = absurd cc
has_seen ((u, x) ∷ scope) w v h = by (bytes_eq w u) (bytes_eq v u) refl h (has_seen scope w v)
  where
    by : (b c : Bool) → bytes_eq v u ≡ c → is_some (cond c (Some x) (variable_in scope v)) ≡ true → (Has scope v → Has (with_seen scope w) v) → Has (cond b ((u, record x { is_seen = true }) ∷ scope) ((u, x) ∷ with_seen scope w)) v
    by true true e h ih = rw e refl
    by true false e h ih = rw e h
    by false true e h ih = rw e refl
    by false false e h ih = rw e (ih h)

other_way : (v w : Word) → bytes_eq v w ≡ bytes_eq w v
other_way v w = ⊎_elim (λ s. s.0 ∙ sym (itself v) ∙ ap (λ z. bytes_eq z v) s.1) (λ s. s.0 ∙ sym (apart (word_tells w v) s.1)) (word_tells v w)
  where
    apart : Tells w v → (v ≡ w → ⊥) → bytes_eq w v ≡ false
    apart (inl t) n = absurd (n (sym t.1))
    apart (inr t) n = t.0

-- once a declared name is bound it is in sight
pub tied_bound : {V : List Word} (k : Known) (w : Word) → Has k.scope w → Tied V k → Tied (w ∷ V) (record k { scope = with_seen k.scope w })
tied_bound {V} k w h t = by (variable_in k.scope w) refl h
  where
    or_else : (b : Bool) (x : ℕ) (o : Option ℕ) (c : Bool) → is_some o ≡ c → is_some (cond b (Some x) o) ≡ (b || c)
    or_else true x o c e = refl
    or_else false x o c e = e

    by : (o : Option Variable) → variable_in k.scope w ≡ o → is_some o ≡ true → Tied (w ∷ V) (record k { scope = with_seen k.scope w })
    by None e h = absurd cc
    by (Some x) e h = record {
      tells = λ v. ap is_some (seen-binds k w x e v) ∙ or_else (bytes_eq v w) x.number (seen_at k v) (is_among v V) (t.tells v) ∙ ap (λ b. b || is_among v V) (other_way v w);
    }

pub tied_declared : {V : List Word} (k : Known) (w : Word) → Tied V k → Tied V (with_name k w)
tied_declared k w t = record { tells = λ v. ap is_some (unseen_yet k.scope w v k.declared (nearest k.around v)) ∙ t.tells v }

-- a declaration: the scope has the name then, and those that it had
pub record Added (V : List Word) (w : Word) (k m : Known) : Type 0 where
  pub is_item : m.items ≡ k.items ++ item.Declared k.declared ∷ []
  pub scope : m.scope ≡ with_declared k.scope w k.declared
  pub around : m.around ≡ k.around
  pub tied : Tied V m

pub declares_goes : {V : List Word} (w : Word) (k m : Known) → Tied V k → run (Declares w ∷ []) k ≡ Ok m → Added V w k m
declares_goes {V} w k m t h = by (is_some (variable_in k.scope w)) (one (Declares w) k m h)
  where
    by : (b : Bool) → cond b (Err AlreadyDeclared) (Ok (with_name k w)) ≡ Ok m → Added V w k m
    by true h = absurd cc
    by false h =
        let same : with_name k w ≡ m = cc in
        subst (Added V w k) same (record { is_item = refl; scope = refl; around = refl; tied = tied_declared k w t })

-- a binding
pub binds_goes : {V : List Word} (w : Word) (k m : Known) → Has k.scope w → Tied V k → run (Binds w ∷ []) k ≡ Ok m → (m ≡ record k { scope = with_seen k.scope w }) × Tied (w ∷ V) m
binds_goes {V} w k m has t h =
    let s = one (Binds w) k m h in
    let same : record k { scope = with_seen k.scope w } ≡ m = cc in
    (sym same, subst (Tied (w ∷ V)) same (tied_bound k w has t))

-- a name that is declared, these events, and then the name is seen
pub let_part : {V : List Word} {es : List Event} {P : Type 0} {ts : List Word} (w : Word) → KeepsScopes es → Part V V es P ts → Part V (w ∷ V) (Declares w ∷ (es ++ Binds w ∷ [])) P ts
let_part {V} {es} {P} {ts} w kept part = record { goes = all }
  where
    all : (k m : Known) → Tied V k → run (Declares w ∷ (es ++ Binds w ∷ [])) k ≡ Ok m → Went (w ∷ V) (Declares w ∷ (es ++ Binds w ∷ [])) P ts k m
    all k m t h =
        let n = parted (Declares w ∷ []) (es ++ Binds w ∷ []) k m h in
        let d = declares_goes w k n.0 t n.1 in
        let p = parted es (Binds w ∷ []) n.0 m n.2 in
        let a = part.goes n.0 p.0 d.tied p.1 in
        let has : Has p.0.scope w = subst (λ z. Has z w) (sym (kept.scope n.0 p.0 p.1 ∙ d.scope)) (has_new k.scope w k.declared) in
        let b = binds_goes w p.0 m has a.tied p.2 in
        record {
          holds = a.holds;
          new = item.Declared k.declared ∷ a.new;
          items = ap (λ (z : Known). z.items) b.0 ∙ a.items ∙ ap (λ z. z ++ a.new) d.is_item ∙ append_assoc k.items (item.Declared k.declared ∷ []) a.new;
          texts = λ fs rest.
              ap (texts_of ((es ++ Binds w ∷ []) ++ fs)) (drop-none (a.new ++ rest))
              ∙ ap (λ z. texts_of z (a.new ++ rest)) (append_assoc es (Binds w ∷ []) fs)
              ∙ a.texts (Binds w ∷ fs) rest
              ∙ ap (λ z. ts ++ texts_of fs z) (drop-none rest);
          tied = b.1;
          around = ap (λ (z : Known). z.around) b.0 ∙ a.around ∙ d.around;
        }

-- two names that are declared, these events, and then both are seen
pub let_both : {V : List Word} {es : List Event} {P : Type 0} {ts : List Word} (u v : Word) → KeepsScopes es → Part V V es P ts → Part V (v ∷ u ∷ V) (Declares u ∷ Declares v ∷ ((es ++ Binds u ∷ []) ++ Binds v ∷ [])) P ts
let_both {V} {es} {P} {ts} u v kept part = record { goes = all }
  where
    all : (k m : Known) → Tied V k → run (Declares u ∷ Declares v ∷ ((es ++ Binds u ∷ []) ++ Binds v ∷ [])) k ≡ Ok m → Went (v ∷ u ∷ V) (Declares u ∷ Declares v ∷ ((es ++ Binds u ∷ []) ++ Binds v ∷ [])) P ts k m
    all k m t h =
        let n1 = parted (Declares u ∷ []) (Declares v ∷ ((es ++ Binds u ∷ []) ++ Binds v ∷ [])) k m h in
        let d1 = declares_goes u k n1.0 t n1.1 in
        let n2 = parted (Declares v ∷ []) ((es ++ Binds u ∷ []) ++ Binds v ∷ []) n1.0 m n1.2 in
        let d2 = declares_goes v n1.0 n2.0 d1.tied n2.1 in
        let p2 = parted (es ++ Binds u ∷ []) (Binds v ∷ []) n2.0 m n2.2 in
        let p1 = parted es (Binds u ∷ []) n2.0 p2.0 p2.1 in
        let a = part.goes n2.0 p1.0 d2.tied p1.1 in
        let has_u : Has n2.0.scope u = subst (λ z. Has z u) (sym d2.scope) (has_declared n1.0.scope v u n1.0.declared (subst (λ z. Has z u) (sym d1.scope) (has_new k.scope u k.declared))) in
        let has_v : Has n2.0.scope v = subst (λ z. Has z v) (sym d2.scope) (has_new n1.0.scope v n1.0.declared) in
        let same = kept.scope n2.0 p1.0 p1.1 in
        let b1 = binds_goes u p1.0 p2.0 (subst (λ z. Has z u) (sym same) has_u) a.tied p1.2 in
        let still : Has p2.0.scope v = subst (λ (z : Known). Has z.scope v) (sym b1.0) (has_seen p1.0.scope u v (subst (λ z. Has z v) (sym same) has_v)) in
        let b2 = binds_goes v p2.0 m still b1.1 p2.2 in
        record {
          holds = a.holds;
          new = item.Declared k.declared ∷ item.Declared n1.0.declared ∷ a.new;
          items = ap (λ (z : Known). z.items) b2.0 ∙ ap (λ (z : Known). z.items) b1.0 ∙ a.items
              ∙ ap (λ z. z ++ a.new) (d2.is_item ∙ ap (λ z. z ++ item.Declared n1.0.declared ∷ []) d1.is_item)
              ∙ append_assoc (k.items ++ item.Declared k.declared ∷ []) (item.Declared n1.0.declared ∷ []) a.new
              ∙ append_assoc k.items (item.Declared k.declared ∷ []) (item.Declared n1.0.declared ∷ a.new);
          texts = λ fs rest.
              ap (texts_of (((es ++ Binds u ∷ []) ++ Binds v ∷ []) ++ fs)) (drop-none (a.new ++ rest))
              ∙ ap (λ z. texts_of z (a.new ++ rest)) (append_assoc (es ++ Binds u ∷ []) (Binds v ∷ []) fs ∙ append_assoc es (Binds u ∷ []) (Binds v ∷ fs))
              ∙ a.texts (Binds u ∷ Binds v ∷ fs) rest
              ∙ ap (λ z. ts ++ texts_of (Binds v ∷ fs) z) (drop-none rest)
              ∙ ap (λ z. ts ++ texts_of fs z) (drop-none rest);
          tied = b2.1;
          around = ap (λ (z : Known). z.around) b2.0 ∙ ap (λ (z : Known). z.around) b1.0 ∙ a.around ∙ d2.around ∙ d1.around;
        }

-- a scope of its own
pub scope_part : {V W : List Word} {es : List Event} {P : Type 0} {ts : List Word} → Part V W es P ts → Part V V (scope_of es) P ts
scope_part {V} {W} {es} {P} {ts} part = record { goes = all }
  where
    ended : (k j m : Known) (around : List Scope) → around ≡ k.scope ∷ k.around → (let o : Result Known Cause = Ok (closed j around) in o ≡ Ok m) → (m.items ≡ j.items) × (m.scope ≡ k.scope) × (m.around ≡ k.around)
    ended k j m around e h =
        let same : closed j around ≡ m = cc in
        let to : m ≡ closed j (k.scope ∷ k.around) = sym same ∙ ap (closed j) e in
        (ap (λ (z : Known). z.items) to, ap (λ (z : Known). z.scope) to, ap (λ (z : Known). z.around) to)

    all : (k m : Known) → Tied V k → run (scope_of es) k ≡ Ok m → Went V (scope_of es) P ts k m
    all k m t h =
        let n = parted es (Closes ∷ []) (opened k) m h in
        let a = part.goes (opened k) n.0 (record { tells = t.tells }) n.1 in
        let c = ended k n.0 m n.0.around a.around (one Closes n.0 m n.2) in
        record {
          holds = a.holds;
          new = a.new;
          items = c.0 ∙ a.items;
          texts = λ fs rest.
              ap (texts_of ((es ++ Closes ∷ []) ++ fs)) (drop-none (a.new ++ rest))
              ∙ ap (λ z. texts_of z (a.new ++ rest)) (append_assoc es (Closes ∷ []) fs)
              ∙ a.texts (Closes ∷ fs) rest
              ∙ ap (λ z. ts ++ texts_of fs z) (drop-none rest);
          tied = record { tells = λ w. ap (λ scopes. is_some (nearest scopes w)) (ap (λ z. z ∷ m.around) c.1 ∙ ap (λ z. k.scope ∷ z) c.2) ∙ t.tells w };
          around = c.2;
        }

no_scopes : KeepsScopes []
no_scopes = record { scope = λ k m h. (same k m h).0; around = λ k m h. (same k m h).1 }
  where
    same : (k m : Known) → run [] k ≡ Ok m → (m.scope ≡ k.scope) × (m.around ≡ k.around)
    same k m h = let e : m ≡ k = cc in (ap (λ (z : Known). z.scope) e, ap (λ (z : Known). z.around) e)

-- a name that is seen at once, and parameters
pub declared_part : {V : List Word} (w : Word) → Part V (w ∷ V) (declared w) (Unit {0}) []
declared_part w = let_part w no_scopes nothing

pub all_declared_part : {V : List Word} (ws : List Word) → Part V (onto ws V) (all_declared ws) (Unit {0}) []
all_declared_part [] = nothing
all_declared_part (w ∷ ws) = so (λ h. tt) (then_part (declared_part w) (all_declared_part ws))
