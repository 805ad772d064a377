-- What the events of a program with its variables called anew come to, where those of the program come through: the same items,
-- and the same literal texts.
use Rattle.std.proofs.Common.{◌≡◌, ℕ, suc, ◌+◌, ◌≤◌, List, [], ◌∷◌, ◌++◌, length, drop, Option, Some, None, Bool, true, false, cond, Ok, Err, is_some, refl, sym, ap, ◌∙◌, subst, inl, inr, append_assoc, append-nil, add-zero, arith}
use Rattle.std.specs.Prelude.{bytes_eq, option_map}
use Rattle.hog_value.specs.declared.native.Native.{Native}
use Rattle.hog_value.specs.Natives.{native_named, takes_of}
use Rattle.hog_tree.specs.Plain.{Word}
use Rattle.hog_scope.specs.declared.item.Item.{Item}
use Rattle.hog_scope.specs.declared.item.Item.TheVariants as item
use Rattle.hog_scope.specs.declared.scope.Variable.{Variable}
use Rattle.hog_scope.specs.Words.{Event, Closes, Declares, Binds, Reads, Assigns, Calls, Spells, scope_of, declared, all_declared}
use Rattle.hog_scope.specs.Literals.{texts_of}
use Rattle.hog_scope.specs.Scopes.{Scope, Known, AlreadyDeclared, WrongCount, step, run, onward, opened, closed, with_item, read_item, assigned_item, called_item, variable_in, with_declared, with_seen, with_name}
use Rattle.hog_scope.proofs.Closed.{KeepsScopes}
use Rattle.hog_meaning.specs.World.{Env, find_var}
use Rattle.hog_bridge.proofs.Words.{Tells, word_tells}
use Rattle.hog_names.specs.Anew.{Naming}
use Rattle.hog_names.specs.Numbers.{call_item, param_items, with_numbers}
use Rattle.hog_names.proofs.Found.{Tied, Went, Part, parted, run_on, one, number_in, number_declared, number_seen, Added, declares_goes, binds_goes, no_scopes, declared_part}
use Rattle.hog_names.proofs.Within.{names_in}
use Rattle.hog_names.proofs.Sights.{AreApart}
use Rattle.hog_names.proofs.Runs.{Looked, BothFind, NoneFinds}

drop-none : {A : Type 0} (xs : List A) → drop 0 xs ≡ xs
drop-none [] = refl
drop-none (x ∷ xs) = refl

module _ (call : Naming) where
  -- no variable is called as a declaration from the number n on will be
  pub record Unused (n : ℕ) (scope : Scope) : Type 0 where
    pub none : (i : ℕ) → n ≤ i → number_in scope (call i) ≡ None

  abbrev pub AllUnused : ℕ → List Scope → Type 0
  AllUnused n [] = Unit {0}
  AllUnused n (scope ∷ around) = Unused n scope × AllUnused n around

  abbrev pub Fresh : Known → Type 0
  Fresh k = AllUnused k.declared (k.scope ∷ k.around)

  unused_later : {n m : ℕ} (scopes : List Scope) → n ≤ m → AllUnused n scopes → AllUnused m scopes
  unused_later [] le u = tt
  unused_later (scope ∷ around) le u = (record { none = λ i lt. u.0.none i (omega (arith, le, lt)) }, unused_later around le u.1)

  -- what the new events come to
  pub record Did (τ : Env) (j : ℕ) (es : List Event) (new : List Item) (k : Known) : Type 0 where
    pub known : Known
    pub ran : run es k ≡ Ok known
    pub went : Went τ j new k known
    pub fresh : Fresh known

  pub record Again (σ σ' : Env) (i : ℕ) (τ' : Env) (j : ℕ) (es es' : List Event) (new : List Item) : Type 0 where
    pub goes : (k m k' : Known) → Tied σ k → k.declared ≡ i → run es k ≡ Ok m → Tied σ' k' → k'.declared ≡ i → Fresh k' → Did τ' j es' new k'
    pub texts : (fs fs' : List Event) (rest : List Item) → texts_of fs rest ≡ texts_of fs' rest → texts_of (es ++ fs) (new ++ rest) ≡ texts_of (es' ++ fs') (new ++ rest)

  pub then_again : {σ σ' τ τ' υ' : Env} {i j l : ℕ} {es es' fs fs' : List Event} {is js : List Item} → Part σ i τ j es is → Again σ σ' i τ' j es es' is → Again τ τ' j υ' l fs fs' js
      → Again σ σ' i υ' l (es ++ fs) (es' ++ fs') (is ++ js)
  then_again {σ} {σ'} {τ} {τ'} {υ'} {i} {j} {l} {es} {es'} {fs} {fs'} {is} {js} p a b = record {
    goes = all;
    texts = λ gs gs' rest e.
        ap (λ z. texts_of z ((is ++ js) ++ rest)) (append_assoc es fs gs) ∙ ap (texts_of (es ++ (fs ++ gs))) (append_assoc is js rest)
        ∙ a.texts (fs ++ gs) (fs' ++ gs') (js ++ rest) (b.texts gs gs' rest e)
        ∙ sym (ap (texts_of (es' ++ (fs' ++ gs'))) (append_assoc is js rest)) ∙ sym (ap (λ z. texts_of z ((is ++ js) ++ rest)) (append_assoc es' fs' gs'));
  }
    where
      all : (k m k' : Known) → Tied σ k → k.declared ≡ i → run (es ++ fs) k ≡ Ok m → Tied σ' k' → k'.declared ≡ i → Fresh k' → Did υ' l (es' ++ fs') (is ++ js) k'
      all k m k' t c h t' c' f' =
          let n = parted es fs k m h in
          let w = p.goes k n.0 t c n.1 in
          let d = a.goes k n.0 k' t c n.1 t' c' f' in
          let e = b.goes n.0 m d.known w.tied w.count n.2 d.went.tied d.went.count d.fresh in
          record {
            known = e.known;
            ran = run_on es' fs' k' d.known d.ran ∙ e.ran;
            went = record {
              items = e.went.items ∙ ap (λ z. z ++ js) d.went.items ∙ append_assoc k'.items is js;
              count = e.went.count;
              tied = e.went.tied;
              around = e.went.around ∙ d.went.around;
            };
            fresh = e.fresh;
          }

  pub nothing_again : {σ σ' : Env} {i : ℕ} → Again σ σ' i σ' i [] [] []
  nothing_again = record {
    goes = λ k m k' t c h t' c' f'. record { known = k'; ran = refl; went = record { items = sym (append-nil k'.items); count = c'; tied = t'; around = refl }; fresh = f' };
    texts = λ fs fs' rest e. e;
  }

  -- the same, in other words
  pub again_count : {σ σ' τ' : Env} {i j l : ℕ} {es es' : List Event} {is : List Item} → j ≡ l → Again σ σ' i τ' j es es' is → Again σ σ' i τ' l es es' is
  again_count {σ} {σ'} {τ'} {i} {j} {l} {es} {es'} {is} e a = subst (λ z. Again σ σ' i τ' z es es' is) e a

  pub again_items : {σ σ' τ' : Env} {i j : ℕ} {es es' : List Event} {is js : List Item} → is ≡ js → Again σ σ' i τ' j es es' is → Again σ σ' i τ' j es es' js
  again_items {σ} {σ'} {τ'} {i} {j} {es} {es'} e a = subst (λ z. Again σ σ' i τ' j es es' z) e a

  pub again_events : {σ σ' τ' : Env} {i j : ℕ} {es es' fs fs' : List Event} {is : List Item} → es ≡ fs → es' ≡ fs' → Again σ σ' i τ' j es es' is → Again σ σ' i τ' j fs fs' is
  again_events {σ} {σ'} {τ'} {i} {j} {es} {es'} {fs} {fs'} {is} e e' a = subst (λ z. Again σ σ' i τ' j z fs' is) e (subst (λ z. Again σ σ' i τ' j es z is) e' a)

  pub none_again : {σ σ' τ' : Env} {i : ℕ} {es es' : List Event} {is : List Item} → Again σ σ' i τ' i es es' is → Again σ σ' i τ' (i + 0) es es' is
  none_again {i = i} a = again_count (sym (add-zero i)) a

  -- a word with its item
  did_item : {σ' : Env} {i : ℕ} (e : Event) (x : Item) (k : Known) → step e k ≡ with_item k (Ok x) → Tied σ' k → k.declared ≡ i → Fresh k → Did σ' i (e ∷ []) (x ∷ []) k
  did_item e x k is t c f = record {
    known = record k { items = k.items ++ x ∷ [] };
    ran = ap (λ o. onward (length k.items) o (run [])) is;
    went = record { items = refl; count = c; tied = record { found = t.found }; around = refl };
    fresh = f;
  }

  looked_same : {σ σ' : Env} {w w' : Word} → Looked call σ σ' w w' → find_var σ' w' ≡ find_var σ w
  looked_same (BothFind x e e') = e' ∙ sym e
  looked_same {σ' = σ'} (NoneFinds s e e') = ap (find_var σ') s ∙ e' ∙ sym e

  pub reads_again : {σ σ' : Env} {i : ℕ} {w w' : Word} → Looked call σ σ' w w' → Again σ σ' i σ' i (Reads w ∷ []) (Reads w' ∷ []) (read_item (find_var σ w) ∷ [])
  reads_again {σ} {σ'} {i} {w} {w'} l = record {
    goes = λ k m k' t c h t' c' f'. did_item (Reads w') (read_item (find_var σ w)) k' (ap (λ o. with_item k' (Ok (read_item o))) (t'.found w' ∙ looked_same l)) t' c' f';
    texts = λ fs fs' rest e. texts_by l fs fs' rest (ap (texts_of fs) (drop-none rest) ∙ e ∙ sym (ap (texts_of fs') (drop-none rest)));
  }
    where
      texts_by : Looked call σ σ' w w' → (fs fs' : List Event) (rest : List Item) → texts_of fs (drop 0 rest) ≡ texts_of fs' (drop 0 rest)
          → texts_of (Reads w ∷ fs) (read_item (find_var σ w) ∷ rest) ≡ texts_of (Reads w' ∷ fs') (read_item (find_var σ w) ∷ rest)
      texts_by (BothFind x e e') fs fs' rest same = subst (λ o. texts_of (Reads w ∷ fs) (read_item o ∷ rest) ≡ texts_of (Reads w' ∷ fs') (read_item o ∷ rest)) (sym e) same
      texts_by (NoneFinds s e e') fs fs' rest same =
          subst (λ o. texts_of (Reads w ∷ fs) (read_item o ∷ rest) ≡ texts_of (Reads w' ∷ fs') (read_item o ∷ rest)) (sym e)
          (ap (λ z. w ∷ z) same ∙ ap (λ v. v ∷ texts_of fs' (drop 0 rest)) (sym s))

  -- an event that has an item and no literal text
  silent : (x : Item) (fs fs' : List Event) (rest : List Item) → texts_of fs rest ≡ texts_of fs' rest → texts_of fs (drop 0 rest) ≡ texts_of fs' (drop 0 rest)
  silent x fs fs' rest e = ap (texts_of fs) (drop-none rest) ∙ e ∙ sym (ap (texts_of fs') (drop-none rest))

  pub assigns_again : {σ σ' : Env} {i : ℕ} {w w' : Word} → Looked call σ σ' w w' → Again σ σ' i σ' i (Assigns w ∷ []) (Assigns w' ∷ []) (read_item (find_var σ w) ∷ [])
  assigns_again {σ} {σ'} {i} {w} {w'} l = record {
    goes = λ k m k' t c h t' c' f'. did_item (Assigns w') (read_item (find_var σ w)) k' (ap (λ o. with_item k' (assigned_item o)) (t'.found w' ∙ looked_same l) ∙ fine (find_var σ w) k m k' (sym (ap (λ o. with_item k (assigned_item o)) (t.found w)) ∙ one (Assigns w) k m h)) t' c' f';
    texts = λ fs fs' rest e. silent (read_item (find_var σ w)) fs fs' rest e;
  }
    where
      fine : (o : Option ℕ) (k m k' : Known) → with_item k (assigned_item o) ≡ Ok m → with_item k' (assigned_item o) ≡ with_item k' (Ok (read_item o))
      fine None k m k' h = absurd cc
      fine (Some x) k m k' h = refl

  pub calls_again : {σ σ' : Env} {i : ℕ} {w w' : Word} (n : ℕ) → Looked call σ σ' w w' → Again σ σ' i σ' i (Calls w n ∷ []) (Calls w' n ∷ []) (call_item (find_var σ w) (native_named w) ∷ [])
  calls_again {σ} {σ'} {i} {w} {w'} n l = record {
    goes = λ k m k' t c h t' c' f'. did_item (Calls w' n) (call_item (find_var σ w) (native_named w)) k'
        (ap (λ o. with_item k' (called_item o (native_named w') n)) (t'.found w' ∙ looked_same l)
        ∙ fine l k m k' (sym (ap (λ o. with_item k (called_item o (native_named w) n)) (t.found w)) ∙ one (Calls w n) k m h)) t' c' f';
    texts = λ fs fs' rest e. silent (call_item (find_var σ w) (native_named w)) fs fs' rest e;
  }
    where
      takes : (b : Bool) (f : Native) (k m k' : Known) → with_item k (cond b (Ok (item.Native f)) (Err WrongCount)) ≡ Ok m → with_item k' (cond b (Ok (item.Native f)) (Err WrongCount)) ≡ with_item k' (Ok (item.Native f))
      takes true f k m k' h = refl
      takes false f k m k' h = absurd cc

      native : (f : Option Native) (k m k' : Known) → with_item k (called_item None f n) ≡ Ok m → with_item k' (called_item None f n) ≡ with_item k' (Ok (call_item None f))
      native None k m k' h = absurd cc
      native (Some f) k m k' h = takes (takes_of f n) f k m k' h

      fine : Looked call σ σ' w w' → (k m k' : Known) → with_item k (called_item (find_var σ w) (native_named w) n) ≡ Ok m
          → with_item k' (called_item (find_var σ w) (native_named w') n) ≡ with_item k' (Ok (call_item (find_var σ w) (native_named w)))
      fine (BothFind x e e') k m k' h =
          subst (λ o. with_item k' (called_item o (native_named w') n) ≡ with_item k' (Ok (call_item o (native_named w)))) (sym e) refl
      fine (NoneFinds s e e') k m k' h =
          ap (λ v. with_item k' (called_item (find_var σ w) (native_named v) n)) s
          ∙ subst (λ o. with_item k (called_item o (native_named w) n) ≡ Ok m → with_item k' (called_item o (native_named w) n) ≡ with_item k' (Ok (call_item o (native_named w)))) (sym e) (native (native_named w) k m k') h

  pub spells_again : {σ σ' : Env} {i : ℕ} (t : Word) → Again σ σ' i σ' i (Spells t ∷ []) (Spells t ∷ []) []
  spells_again t = record {
    goes = λ k m k' tied c h t' c' f'. record { known = k'; ran = refl; went = record { items = sym (append-nil k'.items); count = c'; tied = t'; around = refl }; fresh = f' };
    texts = λ fs fs' rest e. ap (λ z. t ∷ z) (silent (item.Global) fs fs' rest e);
  }

  -- a scope of its own
  pub scope_again : {σ σ' τ' : Env} {i j : ℕ} {es es' : List Event} {new : List Item} → Again σ σ' i τ' j es es' new → Again σ σ' i σ' j (scope_of es) (scope_of es') new
  scope_again {σ} {σ'} {τ'} {i} {j} {es} {es'} {new} a = record { goes = all; texts = texts }
    where
      all : (k m k' : Known) → Tied σ k → k.declared ≡ i → run (scope_of es) k ≡ Ok m → Tied σ' k' → k'.declared ≡ i → Fresh k' → Did σ' j (scope_of es') new k'
      all k m k' t c h t' c' f' =
          let n = parted es (Closes ∷ []) (opened k) m h in
          let d = a.goes (opened k) n.0 (opened k') (record { found = t.found }) c n.1 (record { found = t'.found }) c' (record { none = λ i lt. refl }, f') in
          let outer : AllUnused d.known.declared (k'.scope ∷ k'.around) = subst (AllUnused d.known.declared) d.went.around d.fresh.1 in
          record {
            known = record d.known { scope = k'.scope; around = k'.around };
            ran = run_on es' (Closes ∷ []) (opened k') d.known d.ran ∙ ap (λ z. onward (length d.known.items) (Ok (closed d.known z)) (run [])) d.went.around;
            went = record { items = d.went.items; count = d.went.count; tied = record { found = t'.found }; around = refl };
            fresh = outer;
          }

      texts : (fs fs' : List Event) (rest : List Item) → texts_of fs rest ≡ texts_of fs' rest → texts_of (scope_of es ++ fs) (new ++ rest) ≡ texts_of (scope_of es' ++ fs') (new ++ rest)
      texts fs fs' rest e =
          ap (texts_of ((es ++ Closes ∷ []) ++ fs)) (drop-none (new ++ rest)) ∙ ap (λ z. texts_of z (new ++ rest)) (append_assoc es (Closes ∷ []) fs)
          ∙ a.texts (Closes ∷ fs) (Closes ∷ fs') rest (silent item.Global fs fs' rest e)
          ∙ sym (ap (λ z. texts_of z (new ++ rest)) (append_assoc es' (Closes ∷ []) fs')) ∙ sym (ap (texts_of ((es' ++ Closes ∷ []) ++ fs')) (drop-none (new ++ rest)))

  module _ (far : AreApart call) where
    none_variable : (o : Option Variable) → option_map (λ (x : Variable). x.number) o ≡ None → o ≡ None
    none_variable None e = refl
    none_variable (Some x) e = absurd cc

    unused_declared : (scope : Scope) (i l n : ℕ) → suc i ≤ l → number_in scope (call l) ≡ None → number_in (with_declared scope (call i) n) (call l) ≡ None
    unused_declared [] i l n lt e = by (word_tells (call l) (call i))
      where
        by : Tells (call l) (call i) → number_in ((call i, record { number = n; is_seen = false }) ∷ []) (call l) ≡ None
        by (inl t) = let same = far.apart l i t.1 in absurd (omega (arith, lt, same))
        by (inr t) = rw t.0 refl
    unused_declared ((u, x) ∷ scope) i l n lt e = by (bytes_eq (call l) u) e (unused_declared scope i l n lt)
      where
        by : (b : Bool) → option_map (λ (y : Variable). y.number) (cond b (Some x) (variable_in scope (call l))) ≡ None → (number_in scope (call l) ≡ None → number_in (with_declared scope (call i) n) (call l) ≡ None)
            → option_map (λ (y : Variable). y.number) (cond b (Some x) (variable_in (with_declared scope (call i) n) (call l))) ≡ None
        by true e ih = absurd cc
        by false e ih = ih e

    -- a declaration
    record Declared (σ' : Env) (i : ℕ) (k : Known) : Type 0 where
      ran : run (Declares (call i) ∷ []) k ≡ Ok (with_name k (call i))
      added : Added σ' (call i) k (with_name k (call i))
      fresh : Fresh (with_name k (call i))

    declares_anew : {σ' : Env} (i : ℕ) (k : Known) → Tied σ' k → k.declared ≡ i → Fresh k → Declared σ' i k
    declares_anew {σ'} i k t c f =
        let none = none_variable (variable_in k.scope (call i)) (f.0.none i (omega (arith, c))) in
        let ran : run (Declares (call i) ∷ []) k ≡ Ok (with_name k (call i)) = ap (λ o. onward (length k.items) (cond (is_some o) (Err AlreadyDeclared) (Ok (with_name k (call i)))) (run [])) none in
        record {
          ran = ran;
          added = declares_goes (call i) k (with_name k (call i)) t ran;
          fresh = (record { none = λ l lt. unused_declared k.scope i l k.declared (omega (arith, lt, c)) (f.0.none l (omega (arith, lt))) }, unused_later k.around (omega arith) f.1);
        }

    -- a binding leaves the scopes without the same names
    unused_bound : (k : Known) (w : Word) → Fresh k → Fresh (record k { scope = with_seen k.scope w })
    unused_bound k w f = (record { none = λ i lt. number_seen k.scope w (call i) ∙ f.0.none i lt }, f.1)

    pub let_again : {σ σ' : Env} {i j : ℕ} {es es' : List Event} {new : List Item} (w : Word) → KeepsScopes es' → Again σ σ' (suc i) σ' j es es' new
        → Again σ σ' i ((call i, i) ∷ σ') j (Declares w ∷ (es ++ Binds w ∷ [])) (Declares (call i) ∷ (es' ++ Binds (call i) ∷ [])) (item.Declared i ∷ new)
    let_again {σ} {σ'} {i} {j} {es} {es'} {new} w kept a = record { goes = all; texts = texts }
      where
        all : (k m k' : Known) → Tied σ k → k.declared ≡ i → run (Declares w ∷ (es ++ Binds w ∷ [])) k ≡ Ok m → Tied σ' k' → k'.declared ≡ i → Fresh k'
            → Did ((call i, i) ∷ σ') j (Declares (call i) ∷ (es' ++ Binds (call i) ∷ [])) (item.Declared i ∷ new) k'
        all k m k' t c h t' c' f' =
            let n = parted (Declares w ∷ []) (es ++ Binds w ∷ []) k m h in
            let d = declares_goes w k n.0 t n.1 in
            let p = parted es (Binds w ∷ []) n.0 m n.2 in
            let k1 = with_name k' (call i) in
            let d' = declares_anew i k' t' c' f' in
            let e = a.goes n.0 p.0 k1 d.tied (d.count ∙ ap suc c) p.1 d'.added.tied (ap suc c') d'.fresh in
            let has : number_in e.known.scope (call i) ≡ Some i = ap (λ z. number_in z (call i)) (kept.scope k1 e.known e.ran) ∙ d'.added.number ∙ ap Some c' in
            let last = record e.known { scope = with_seen e.known.scope (call i) } in
            let b = binds_goes (call i) i e.known last has e.went.tied refl in
            record {
              known = last;
              ran = run_on (Declares (call i) ∷ []) (es' ++ Binds (call i) ∷ []) k' k1 d'.ran ∙ run_on es' (Binds (call i) ∷ []) k1 e.known e.ran;
              went = record {
                items = e.went.items ∙ append_assoc k'.items (item.Declared k'.declared ∷ []) new ∙ ap (λ z. k'.items ++ item.Declared z ∷ new) c';
                count = e.went.count;
                tied = b.1;
                around = e.went.around;
              };
              fresh = unused_bound e.known (call i) e.fresh;
            }

        texts : (fs fs' : List Event) (rest : List Item) → texts_of fs rest ≡ texts_of fs' rest
            → texts_of ((Declares w ∷ (es ++ Binds w ∷ [])) ++ fs) ((item.Declared i ∷ new) ++ rest) ≡ texts_of ((Declares (call i) ∷ (es' ++ Binds (call i) ∷ [])) ++ fs') ((item.Declared i ∷ new) ++ rest)
        texts fs fs' rest e =
            ap (texts_of ((es ++ Binds w ∷ []) ++ fs)) (drop-none (new ++ rest)) ∙ ap (λ z. texts_of z (new ++ rest)) (append_assoc es (Binds w ∷ []) fs)
            ∙ a.texts (Binds w ∷ fs) (Binds (call i) ∷ fs') rest (silent item.Global fs fs' rest e)
            ∙ sym (ap (λ z. texts_of z (new ++ rest)) (append_assoc es' (Binds (call i) ∷ []) fs')) ∙ sym (ap (texts_of ((es' ++ Binds (call i) ∷ []) ++ fs')) (drop-none (new ++ rest)))

    -- two names that are declared, these events, and then both are seen
    pub both_again : {σ σ' : Env} {i j : ℕ} {es es' : List Event} {new : List Item} (u v : Word) → KeepsScopes es' → Again σ σ' (suc (suc i)) σ' j es es' new
        → Again σ σ' i ((call (suc i), suc i) ∷ (call i, i) ∷ σ') j (Declares u ∷ Declares v ∷ ((es ++ Binds u ∷ []) ++ Binds v ∷ []))
        (Declares (call i) ∷ Declares (call (suc i)) ∷ ((es' ++ Binds (call i) ∷ []) ++ Binds (call (suc i)) ∷ [])) (item.Declared i ∷ item.Declared (suc i) ∷ new)
    both_again {σ} {σ'} {i} {j} {es} {es'} {new} u v kept a = record { goes = all; texts = texts }
      where
        all : (k m k' : Known) → Tied σ k → k.declared ≡ i → run (Declares u ∷ Declares v ∷ ((es ++ Binds u ∷ []) ++ Binds v ∷ [])) k ≡ Ok m → Tied σ' k' → k'.declared ≡ i → Fresh k'
            → Did ((call (suc i), suc i) ∷ (call i, i) ∷ σ') j (Declares (call i) ∷ Declares (call (suc i)) ∷ ((es' ++ Binds (call i) ∷ []) ++ Binds (call (suc i)) ∷ [])) (item.Declared i ∷ item.Declared (suc i) ∷ new) k'
        all k m k' t c h t' c' f' =
            let n1 = parted (Declares u ∷ []) (Declares v ∷ ((es ++ Binds u ∷ []) ++ Binds v ∷ [])) k m h in
            let d1 = declares_goes u k n1.0 t n1.1 in
            let n2 = parted (Declares v ∷ []) ((es ++ Binds u ∷ []) ++ Binds v ∷ []) n1.0 m n1.2 in
            let d2 = declares_goes v n1.0 n2.0 d1.tied n2.1 in
            let p2 = parted (es ++ Binds u ∷ []) (Binds v ∷ []) n2.0 m n2.2 in
            let p1 = parted es (Binds u ∷ []) n2.0 p2.0 p2.1 in
            let k1 = with_name k' (call i) in
            let e1 = declares_anew i k' t' c' f' in
            let k2 = with_name k1 (call (suc i)) in
            let e2 = declares_anew (suc i) k1 e1.added.tied (ap suc c') e1.fresh in
            let e = a.goes n2.0 p1.0 k2 d2.tied (d2.count ∙ ap suc (d1.count ∙ ap suc c)) p1.1 e2.added.tied (ap suc (ap suc c')) e2.fresh in
            let same = kept.scope k2 e.known e.ran in
            let has_u : number_in e.known.scope (call i) ≡ Some i = ap (λ z. number_in z (call i)) same ∙ number_declared k1.scope (call (suc i)) (call i) k1.declared i (e1.added.number ∙ ap Some c') in
            let has_v : number_in e.known.scope (call (suc i)) ≡ Some (suc i) = ap (λ z. number_in z (call (suc i))) same ∙ e2.added.number ∙ ap Some (ap suc c') in
            let next = record e.known { scope = with_seen e.known.scope (call i) } in
            let b1 = binds_goes (call i) i e.known next has_u e.went.tied refl in
            let last = record next { scope = with_seen next.scope (call (suc i)) } in
            let b2 = binds_goes (call (suc i)) (suc i) next last (number_seen e.known.scope (call i) (call (suc i)) ∙ has_v) b1.1 refl in
            record {
              known = last;
              ran = run_on (Declares (call i) ∷ []) (Declares (call (suc i)) ∷ ((es' ++ Binds (call i) ∷ []) ++ Binds (call (suc i)) ∷ [])) k' k1 e1.ran
                  ∙ run_on (Declares (call (suc i)) ∷ []) ((es' ++ Binds (call i) ∷ []) ++ Binds (call (suc i)) ∷ []) k1 k2 e2.ran
                  ∙ run_on (es' ++ Binds (call i) ∷ []) (Binds (call (suc i)) ∷ []) k2 next (run_on es' (Binds (call i) ∷ []) k2 e.known e.ran);
              went = record {
                items = e.went.items ∙ append_assoc (k'.items ++ item.Declared k'.declared ∷ []) (item.Declared (suc k'.declared) ∷ []) new
                    ∙ append_assoc k'.items (item.Declared k'.declared ∷ []) (item.Declared (suc k'.declared) ∷ new)
                    ∙ ap (λ z. k'.items ++ item.Declared z ∷ item.Declared (suc z) ∷ new) c';
                count = e.went.count;
                tied = b2.1;
                around = e.went.around;
              };
              fresh = unused_bound next (call (suc i)) (unused_bound e.known (call i) e.fresh);
            }

        texts : (fs fs' : List Event) (rest : List Item) → texts_of fs rest ≡ texts_of fs' rest
            → texts_of ((Declares u ∷ Declares v ∷ ((es ++ Binds u ∷ []) ++ Binds v ∷ [])) ++ fs) ((item.Declared i ∷ item.Declared (suc i) ∷ new) ++ rest)
            ≡ texts_of ((Declares (call i) ∷ Declares (call (suc i)) ∷ ((es' ++ Binds (call i) ∷ []) ++ Binds (call (suc i)) ∷ [])) ++ fs') ((item.Declared i ∷ item.Declared (suc i) ∷ new) ++ rest)
        texts fs fs' rest e =
            let left = ap (texts_of (((es ++ Binds u ∷ []) ++ Binds v ∷ []) ++ fs)) (drop-none (new ++ rest))
            ∙ ap (λ z. texts_of z (new ++ rest)) (append_assoc (es ++ Binds u ∷ []) (Binds v ∷ []) fs ∙ append_assoc es (Binds u ∷ []) (Binds v ∷ fs)) in
            let right = ap (texts_of (((es' ++ Binds (call i) ∷ []) ++ Binds (call (suc i)) ∷ []) ++ fs')) (drop-none (new ++ rest))
            ∙ ap (λ z. texts_of z (new ++ rest)) (append_assoc (es' ++ Binds (call i) ∷ []) (Binds (call (suc i)) ∷ []) fs' ∙ append_assoc es' (Binds (call i) ∷ []) (Binds (call (suc i)) ∷ fs')) in
            ap (texts_of (Declares v ∷ (((es ++ Binds u ∷ []) ++ Binds v ∷ []) ++ fs))) (drop-none (item.Declared (suc i) ∷ (new ++ rest))) ∙ left
            ∙ a.texts (Binds u ∷ Binds v ∷ fs) (Binds (call i) ∷ Binds (call (suc i)) ∷ fs') rest (silent item.Global (Binds v ∷ fs) (Binds (call (suc i)) ∷ fs') rest (silent item.Global fs fs' rest e))
            ∙ sym right ∙ sym (ap (texts_of (Declares (call (suc i)) ∷ (((es' ++ Binds (call i) ∷ []) ++ Binds (call (suc i)) ∷ []) ++ fs'))) (drop-none (item.Declared (suc i) ∷ (new ++ rest))))

    -- a name that is seen at once, and parameters
    pub declared_again : {σ σ' : Env} {i : ℕ} (w : Word) → Again σ σ' i ((call i, i) ∷ σ') (suc i) (declared w) (declared (call i)) (item.Declared i ∷ [])
    declared_again w = let_again w no_scopes nothing_again

    pub params_again : (ps : List Word) {σ σ' : Env} {i : ℕ} → Again σ σ' i (with_numbers (names_in call i ps) i σ') (i + length ps) (all_declared ps) (all_declared (names_in call i ps)) (param_items ps i)
    params_again [] = none_again nothing_again
    params_again (p ∷ ps) = again_count (omega arith) (then_again (declared_part p) (declared_again p) (params_again ps))
