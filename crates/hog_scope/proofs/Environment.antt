-- Names are found by environments: the number that a word has is that of the nearest declaration of its name.
use Rattle.std.proofs.Common.{◌≡◌, ℕ, length, List, [], ◌∷◌, ◌++◌, Bool, true, false, cond, Option, Some, None, Result, Ok, Err, is_some, refl, sym, ap, ◌∙◌, subst, true≢false}
use Rattle.std.specs.Prelude.{bytes_eq, option_map}
use Rattle.std.specs.Cmp.Lexicographic.{bytes_decides}
use Rattle.std.specs.List.{flat_map}
use Rattle.std.specs.Map.{lookup}
use Rattle.hog_value.specs.Natives.{native_named}
use Rattle.hog_tree.specs.Plain.{Word}
use Rattle.hog_scope.specs.declared.item.Item.{Item}
use Rattle.hog_scope.specs.Words.{Event, Opens, Closes, Declares, Binds, Reads, Assigns, Calls, Spells}
use Rattle.hog_scope.specs.declared.scope.Variable.{Variable}
use Rattle.hog_scope.specs.Scopes.{Scope, Known, Cause, AlreadyDeclared, start, step, run, onward, opened, closed, with_item, read_item, assigned_item, called_item, variable_in, with_declared, with_seen, with_name, seen_or, nearest, seen_at}
use Rattle.hog_scope.specs.Environment.{seen_in, environment}

same_word : (v w : Word) → bytes_eq v w ≡ true → v ≡ w
same_word v w e = (bytes_decides v w).0 e

itself : (w : Word) → bytes_eq w w ≡ true
itself w = (bytes_decides w w).1 refl

other_way : (v w : Word) → bytes_eq v w ≡ false → bytes_eq w v ≡ false
other_way v w e = by (bytes_eq w v) refl
  where
    by : (b : Bool) → bytes_eq w v ≡ b → b ≡ false
    by false is = refl
    by true is = absurd (true≢false (sym (itself v) ∙ ap (bytes_eq v) (sym (same_word w v is)) ∙ e))

-- no name stands twice in the scope
abbrev pub IsDistinct : Scope → Type 0
IsDistinct [] = Unit {0}
IsDistinct ((w, x) ∷ scope) = (variable_in scope w ≡ None) × IsDistinct scope

-- nor in any of these
abbrev pub AreDistinct : List Scope → Type 0
AreDistinct [] = Unit {0}
AreDistinct (scope ∷ around) = IsDistinct scope × AreDistinct around

-- what a scope shows of a word, before others
seen_first : (scope : Scope) → IsDistinct scope → (w : Word) (rest : List (Word × ℕ))
    → lookup (bytes_eq w) (seen_in scope ++ rest) ≡ seen_or (variable_in scope w) (lookup (bytes_eq w) rest)
seen_first [] d w rest = refl
seen_first ((v, x) ∷ scope) d w rest = by (bytes_eq w v) refl x.is_seen (seen_first scope d.1 w rest)
  where
    there : bytes_eq w v ≡ true → variable_in scope w ≡ None
    there e = subst (λ u. variable_in scope u ≡ None) (sym (same_word w v e)) d.0

    by : (b : Bool) → bytes_eq w v ≡ b → (s : Bool)
        → lookup (bytes_eq w) (seen_in scope ++ rest) ≡ seen_or (variable_in scope w) (lookup (bytes_eq w) rest)
        → lookup (bytes_eq w) (cond s ((v, x.number) ∷ seen_in scope) (seen_in scope) ++ rest)
        ≡ seen_or (cond b (Some (record x { is_seen = s })) (variable_in scope w)) (lookup (bytes_eq w) rest)
    by true e true ih = rw e refl
    by true e false ih = ih ∙ ap (λ o. seen_or o (lookup (bytes_eq w) rest)) (there e)
    by false e true ih = rw e ih
    by false e false ih = ih

-- the nearest declaration is the first in the environment
pub nearest-environment : (scopes : List Scope) → AreDistinct scopes → (w : Word) → nearest scopes w ≡ lookup (bytes_eq w) (flat_map seen_in scopes)
nearest-environment [] d w = refl
nearest-environment (scope ∷ around) d w =
    ap (seen_or (variable_in scope w)) (nearest-environment around d.1 w)
    ∙ sym (seen_first scope d.0 w (flat_map seen_in around))

-- a name that is declared isn't in sight yet
declared_unseen : (scope : Scope) (w : Word) (n : ℕ) → seen_in (with_declared scope w n) ≡ seen_in scope
declared_unseen [] w n = refl
declared_unseen ((v, x) ∷ scope) w n = ap (λ r. cond x.is_seen ((v, x.number) ∷ r) r) (declared_unseen scope w n)

pub environment-declares : (k : Known) (w : Word) → environment (with_name k w) ≡ environment k
environment-declares k w = ap (λ s. s ++ flat_map seen_in k.around) (declared_unseen k.scope w k.declared)

-- a scope that begins changes nothing
pub environment-opens : (k : Known) → environment (opened k) ≡ environment k
environment-opens k = refl

-- the variable, seen
abbrev see : Variable → Variable
see x = record x { is_seen = true }

-- what a scope has under a word v after its name w is seen
variable-with_seen : (scope : Scope) (w v : Word)
    → variable_in (with_seen scope w) v ≡ cond (bytes_eq v w) (option_map see (variable_in scope v)) (variable_in scope v)
variable-with_seen [] w v = by (bytes_eq v w)
  where
    by : (b : Bool) → None ≡ cond b (option_map see None) None
    by true = refl
    by false = refl
variable-with_seen ((u, x) ∷ scope) w v = by (bytes_eq w u) refl (bytes_eq v u) refl (variable-with_seen scope w v)
  where
    here : bytes_eq w u ≡ true → bytes_eq v w ≡ bytes_eq v u
    here e = ap (bytes_eq v) (same_word w u e)

    not_here : bytes_eq w u ≡ false → bytes_eq v u ≡ true → bytes_eq v w ≡ false
    not_here n e = rw (same_word v u e) (other_way w u n)

    by : (b : Bool) → bytes_eq w u ≡ b → (c : Bool) → bytes_eq v u ≡ c
        → variable_in (with_seen scope w) v ≡ cond (bytes_eq v w) (option_map see (variable_in scope v)) (variable_in scope v)
        → variable_in (cond b ((u, see x) ∷ scope) ((u, x) ∷ with_seen scope w)) v
        ≡ cond (bytes_eq v w) (option_map see (cond c (Some x) (variable_in scope v))) (cond c (Some x) (variable_in scope v))
    by true e true f ih = rw (here e) (rw f refl)
    by true e false f ih = rw (here e) (rw f refl)
    by false e true f ih = rw (not_here e f) (rw f refl)
    by false e false f ih = rw f ih

-- once a declared name is bound, a word of that name means it, and any other word what it meant
pub seen-binds : (k : Known) (w : Word) (x : Variable) → variable_in k.scope w ≡ Some x → (v : Word)
    → seen_at (record k { scope = with_seen k.scope w }) v ≡ cond (bytes_eq v w) (Some x.number) (seen_at k v)
seen-binds k w x is v =
    ap (λ o. seen_or o (nearest k.around v)) (variable-with_seen k.scope w v) ∙ by (bytes_eq v w) refl
  where
    by : (b : Bool) → bytes_eq v w ≡ b
        → seen_or (cond b (option_map see (variable_in k.scope v)) (variable_in k.scope v)) (nearest k.around v)
        ≡ cond b (Some x.number) (seen_or (variable_in k.scope v) (nearest k.around v))
    by true e = ap (λ o. seen_or (option_map see o) (nearest k.around v)) (ap (variable_in k.scope) (same_word v w e) ∙ is)
    by false e = refl

-- each open scope has distinct names
pub record IsSound (k : Known) : Type 0 where
  pub scope : IsDistinct k.scope
  pub around : AreDistinct k.around

absent_after : (scope : Scope) (w : Word) (x : Variable) (u : Word) → variable_in scope u ≡ None → bytes_eq u w ≡ false
    → variable_in (scope ++ (w, x) ∷ []) u ≡ None
absent_after [] w x u none other = rw other refl
absent_after ((v, y) ∷ scope) w x u none other = by (bytes_eq u v) none (λ n. absent_after scope w x u n other)
  where
    by : (b : Bool) → cond b (Some y) (variable_in scope u) ≡ None → (variable_in scope u ≡ None → variable_in (scope ++ (w, x) ∷ []) u ≡ None)
        → cond b (Some y) (variable_in (scope ++ (w, x) ∷ []) u) ≡ None
    by true none rest = cc
    by false none rest = rest none

-- a scope without w has distinct names with it
distinct_declared : (scope : Scope) (w : Word) (x : Variable) → IsDistinct scope → variable_in scope w ≡ None → IsDistinct (scope ++ (w, x) ∷ [])
distinct_declared [] w x d none = (refl, tt)
distinct_declared ((u, y) ∷ scope) w x d none = by (bytes_eq w u) refl none (distinct_declared scope w x d.1)
  where
    by : (b : Bool) → bytes_eq w u ≡ b → cond b (Some y) (variable_in scope w) ≡ None → (variable_in scope w ≡ None → IsDistinct (scope ++ (w, x) ∷ []))
        → IsDistinct (((u, y) ∷ scope) ++ (w, x) ∷ [])
    by true e none rest = absurd cc
    by false e none rest = (absent_after scope w x u d.0 (other_way w u e), rest none)

absent_seen : (scope : Scope) (w u : Word) → variable_in scope u ≡ None → variable_in (with_seen scope w) u ≡ None
absent_seen scope w u none = variable-with_seen scope w u ∙ by (bytes_eq u w)
  where
    by : (b : Bool) → cond b (option_map see (variable_in scope u)) (variable_in scope u) ≡ None
    by true = ap (option_map see) none
    by false = none

distinct_seen : (scope : Scope) (w : Word) → IsDistinct scope → IsDistinct (with_seen scope w)
distinct_seen [] w d = tt
distinct_seen ((u, x) ∷ scope) w d = by (bytes_eq w u) (distinct_seen scope w d.1)
  where
    by : (b : Bool) → IsDistinct (with_seen scope w) → IsDistinct (cond b ((u, see x) ∷ scope) ((u, x) ∷ with_seen scope w))
    by true ih = d
    by false ih = (absent_seen scope w u d.0, ih)

-- what is known has what it should
is_known : {E : Type 0} (k m : Known) {o : Result Known E} → o ≡ Ok k → o ≡ Ok m → IsSound k → IsSound m
is_known k m is h s = let same : k ≡ m = cc in subst IsSound same s

item_sound : (k m : Known) (o : Result Item Cause) → with_item k o ≡ Ok m → IsSound k → IsSound m
item_sound k m (Ok i) h s = is_known (record k { items = k.items ++ i ∷ [] }) m refl h (record { scope = s.scope; around = s.around })
item_sound k m (Err cause) h s = absurd cc

closed_sound : (k : Known) (around : List Scope) → IsDistinct k.scope → AreDistinct k.around → AreDistinct around → IsSound (closed k around)
closed_sound k [] d a _ = record { scope = d; around = a }
closed_sound k (scope ∷ around) d a b = record { scope = b.0; around = b.1 }

pub step-sound : (e : Event) (k m : Known) → step e k ≡ Ok m → IsSound k → IsSound m
step-sound Opens k m h s = is_known (opened k) m refl h (record { scope = tt; around = (s.scope, s.around) })
step-sound Closes k m h s = is_known (closed k k.around) m refl h (closed_sound k k.around s.scope s.around s.around)
step-sound (Declares w) k m h s = by (variable_in k.scope w) refl h
  where
    by : (o : Option Variable) → variable_in k.scope w ≡ o → cond (is_some o) (Err AlreadyDeclared) (Ok (with_name k w)) ≡ Ok m → IsSound m
    by None none h = is_known (with_name k w) m refl h (record { scope = distinct_declared k.scope w _ s.scope none; around = s.around })
    by (Some x) some h = absurd cc
step-sound (Binds w) k m h s = is_known (record k { scope = with_seen k.scope w }) m refl h (record { scope = distinct_seen k.scope w s.scope; around = s.around })
step-sound (Reads w) k m h s = item_sound k m (Ok (read_item (seen_at k w))) h s
step-sound (Assigns w) k m h s = item_sound k m (assigned_item (seen_at k w)) h s
step-sound (Calls w count) k m h s = item_sound k m (called_item (seen_at k w) (native_named w) count) h s
step-sound (Spells t) k m h s = is_known k m refl h s

pub run-sound : (es : List Event) (k m : Known) → run es k ≡ Ok m → IsSound k → IsSound m
run-sound [] k m h s = is_known k m refl h s
run-sound (e ∷ es) k m h s = by (step e k) refl h (λ n is t. run-sound es n m is t)
  where
    by : (o : Result Known Cause) → step e k ≡ o → onward (length k.items) o (run es) ≡ Ok m → ((n : Known) → run es n ≡ Ok m → IsSound n → IsSound m) → IsSound m
    by (Ok n) is h rest = rest n h (step-sound e k n is s)
    by (Err cause) is h rest = absurd cc

-- At each point of a program, the number that a word has is that of the nearest declaration of its name in the
-- environment.
pub seen-environment : (es : List Event) (k : Known) → run es start ≡ Ok k → (w : Word) → seen_at k w ≡ lookup (bytes_eq w) (environment k)
seen-environment es k ran w =
    let s = run-sound es start k ran (record { scope = tt; around = tt }) in
    nearest-environment (k.scope ∷ k.around) (s.scope, s.around) w
