-- Scopes that a part of a program begins it also ends: after an expression the names in sight are those before it,
-- and after a statement the scopes around are.
use Rattle.std.proofs.Common.{◌≡◌, ℕ, List, [], ◌∷◌, ◌++◌, length, Bool, true, false, cond, Option, Some, None, Result, Ok, Err, is_some, refl, sym, ap, ◌∙◌}
use Rattle.hog_value.specs.Natives.{native_named}
use Rattle.hog_tree.specs.Plain.{Word, Exp, Exps, Parts, Pairs, Body, Stm, Stms, OptionExp, OptionStm, OptionStms, Int, Truth, Null, Text, Template, Name, Array, Dict, Neg, Not, Binary, Coalesce, Prop, PropNullish, Index, Call, Lambda, NoExp, MoreExp, NoPart, MoreText, MoreHole, NoPair, MorePair, OneExp, ManyStms, Let, Assign, Do, Return, Throw, If, While, For, ForIn, Fun, Try, Block, Done, Then, NoneExp, SomeExp, NoneStm, SomeStm, NoneStms, SomeStms}
use Rattle.hog_scope.specs.declared.item.Item.{Item}
use Rattle.hog_scope.specs.Words.{Event, Closes, Declares, Binds, Reads, Assigns, Calls, Spells, scope_of, declared, all_declared, declares, binds, count_of, callee, target, exp_words, exps_words, parts_words, pairs_words, body_words, stm_words, stms_words, option_exp_words, option_stm_words, option_step_words, option_stms_words}
use Rattle.hog_scope.specs.Scopes.{Scope, Known, Cause, AlreadyDeclared, step, run, onward, opened, closed, with_item, read_item, assigned_item, called_item, variable_in, with_seen, with_name, seen_at}

-- the scopes around are as before these events
pub record KeepsAround (es : List Event) : Type 0 where
  pub around : (k m : Known) → run es k ≡ Ok m → m.around ≡ k.around

-- all open scopes are
pub record KeepsScopes (es : List Event) : Type 0 where
  pub scope : (k m : Known) → run es k ≡ Ok m → m.scope ≡ k.scope
  pub around : (k m : Known) → run es k ≡ Ok m → m.around ≡ k.around

-- events that were gone through were so in two parts
parted : (es fs : List Event) (k m : Known) → run (es ++ fs) k ≡ Ok m → (n : Known) × (run es k ≡ Ok n) × (run fs n ≡ Ok m)
parted [] fs k m h = (k, refl, h)
parted (e ∷ es) fs k m h = by (step e k) h (λ n. parted es fs n m)
  where
    by : (o : Result Known Cause) → onward (length k.items) o (run (es ++ fs)) ≡ Ok m
        → ((n : Known) → run (es ++ fs) n ≡ Ok m → (j : Known) × (run es n ≡ Ok j) × (run fs j ≡ Ok m))
        → (j : Known) × (onward (length k.items) o (run es) ≡ Ok j) × (run fs j ≡ Ok m)
    by (Ok n) h rest = rest n h
    by (Err cause) h rest = absurd cc

-- what is known has the scopes that it should
scope_is : {E : Type 0} (k m : Known) {o : Result Known E} → o ≡ Ok k → o ≡ Ok m → m.scope ≡ k.scope
scope_is k m is h = let same : k ≡ m = cc in ap (λ n. n.scope) (sym same)

around_is : {E : Type 0} (k m : Known) {o : Result Known E} → o ≡ Ok k → o ≡ Ok m → m.around ≡ k.around
around_is k m is h = let same : k ≡ m = cc in ap (λ n. n.around) (sym same)

-- one event after another
around_then : {es fs : List Event} → KeepsAround es → KeepsAround fs → KeepsAround (es ++ fs)
around_then {es} {fs} p q = record {
  around = λ k m h. let n = parted es fs k m h in q.around n.0 m n.2 ∙ p.around k n.0 n.1;
}

scopes_then : {es fs : List Event} → KeepsScopes es → KeepsScopes fs → KeepsScopes (es ++ fs)
scopes_then {es} {fs} p q = record {
  scope = λ k m h. let n = parted es fs k m h in q.scope n.0 m n.2 ∙ p.scope k n.0 n.1;
  around = λ k m h. let n = parted es fs k m h in q.around n.0 m n.2 ∙ p.around k n.0 n.1;
}

around_of : {es : List Event} → KeepsScopes es → KeepsAround es
around_of p = record { around = p.around }

nothing : KeepsScopes []
nothing = record { scope = λ k m h. scope_is k m refl h; around = λ k m h. around_is k m refl h }

-- what is known after one event
one : (e : Event) (k m : Known) → run (e ∷ []) k ≡ Ok m → step e k ≡ Ok m
one e k m h = by (step e k) h
  where
    by : (o : Result Known Cause) → onward (length k.items) o (run []) ≡ Ok m → o ≡ Ok m
    by (Ok n) h = let same : n ≡ m = cc in ap Ok same
    by (Err cause) h = absurd cc

with_scope : (k m : Known) (o : Result Item Cause) → with_item k o ≡ Ok m → (m.scope ≡ k.scope) × (m.around ≡ k.around)
with_scope k m (Ok i) h = let n : Known = record k { items = k.items ++ i ∷ [] } in (scope_is n m refl h, around_is n m refl h)
with_scope k m (Err cause) h = absurd cc

reads : (w : Word) → KeepsScopes (Reads w ∷ [])
reads w = record {
  scope = λ k m h. (with_scope k m (Ok (read_item (seen_at k w))) (one (Reads w) k m h)).0;
  around = λ k m h. (with_scope k m (Ok (read_item (seen_at k w))) (one (Reads w) k m h)).1;
}

assigns : (w : Word) → KeepsScopes (Assigns w ∷ [])
assigns w = record {
  scope = λ k m h. (with_scope k m (assigned_item (seen_at k w)) (one (Assigns w) k m h)).0;
  around = λ k m h. (with_scope k m (assigned_item (seen_at k w)) (one (Assigns w) k m h)).1;
}

calls : (w : Word) (n : ℕ) → KeepsScopes (Calls w n ∷ [])
calls w n = record {
  scope = λ k m h. (with_scope k m (called_item (seen_at k w) (native_named w) n) (one (Calls w n) k m h)).0;
  around = λ k m h. (with_scope k m (called_item (seen_at k w) (native_named w) n) (one (Calls w n) k m h)).1;
}

spells : (t : Word) → KeepsScopes (Spells t ∷ [])
spells t = record { scope = λ k m h. scope_is k m refl (one (Spells t) k m h); around = λ k m h. around_is k m refl (one (Spells t) k m h) }

binds_around : (w : Word) → KeepsAround (Binds w ∷ [])
binds_around w = record { around = λ k m h. around_is (record k { scope = with_seen k.scope w }) m refl (one (Binds w) k m h) }

declares_around : (w : Word) → KeepsAround (Declares w ∷ [])
declares_around w = record { around = λ k m h. by k m (is_some (variable_in k.scope w)) (one (Declares w) k m h) }
  where
    by : (k m : Known) (b : Bool) → cond b (Err AlreadyDeclared) (Ok (with_name k w)) ≡ Ok m → m.around ≡ k.around
    by k m true h = absurd cc
    by k m false h = around_is (with_name k w) m refl h

-- a scope that begins and ends
scope_kept : {es : List Event} → KeepsAround es → KeepsScopes (scope_of es)
scope_kept {es} p = record { scope = λ k m h. (ended k m h).0; around = λ k m h. (ended k m h).1 }
  where
    closes : (j m : Known) (scope : Scope) (around : List Scope) → j.around ≡ scope ∷ around → run (Closes ∷ []) j ≡ Ok m → (m.scope ≡ scope) × (m.around ≡ around)
    closes j m scope around is h =
        let c = one Closes j m h in
        let to : closed j j.around ≡ closed j (scope ∷ around) = ap (closed j) is in
        (scope_is (closed j j.around) m refl c ∙ ap (λ n. n.scope) to, around_is (closed j j.around) m refl c ∙ ap (λ n. n.around) to)

    ended : (k m : Known) → run (scope_of es) k ≡ Ok m → (m.scope ≡ k.scope) × (m.around ≡ k.around)
    ended k m h =
        let n = parted es (Closes ∷ []) (opened k) m h in
        closes n.0 m k.scope k.around (p.around _ n.0 n.1) n.2

-- one event before others
before_scopes : {e : Event} {es : List Event} → KeepsScopes (e ∷ []) → KeepsScopes es → KeepsScopes (e ∷ es)
before_scopes p q = scopes_then p q

before_around : {e : Event} {es : List Event} → KeepsAround (e ∷ []) → KeepsAround es → KeepsAround (e ∷ es)
before_around p q = around_then p q

declared_around : (w : Word) → KeepsAround (declared w)
declared_around w = before_around (declares_around w) (binds_around w)

all_declared_around : (ws : List Word) → KeepsAround (all_declared ws)
all_declared_around [] = around_of nothing
all_declared_around (w ∷ ws) = around_then (declared_around w) (all_declared_around ws)

option_declares : (o : Option Word) → KeepsAround (declares o)
option_declares None = around_of nothing
option_declares (Some w) = declares_around w

option_binds : (o : Option Word) → KeepsAround (binds o)
option_binds None = around_of nothing
option_binds (Some w) = binds_around w

-- what is called and what is assigned, by the words that an expression other than a name has
callee_closed : (x : Exp) (n : ℕ) (es : List Event) → KeepsScopes es → KeepsScopes (callee x n es)
callee_closed (Int _) n es p = p
callee_closed (Truth _) n es p = p
callee_closed Null n es p = p
callee_closed (Text _) n es p = p
callee_closed (Template _) n es p = p
callee_closed (Name w) n es p = calls w n
callee_closed (Array _) n es p = p
callee_closed (Dict _) n es p = p
callee_closed (Neg _) n es p = p
callee_closed (Not _) n es p = p
callee_closed (Binary _ _ _) n es p = p
callee_closed (Coalesce _ _) n es p = p
callee_closed (Prop _ _) n es p = p
callee_closed (PropNullish _ _) n es p = p
callee_closed (Index _ _) n es p = p
callee_closed (Call _ _) n es p = p
callee_closed (Lambda _ _) n es p = p

target_closed : (x : Exp) (es : List Event) → KeepsScopes es → KeepsScopes (target x es)
target_closed (Int _) es p = p
target_closed (Truth _) es p = p
target_closed Null es p = p
target_closed (Text _) es p = p
target_closed (Template _) es p = p
target_closed (Name w) es p = assigns w
target_closed (Array _) es p = p
target_closed (Dict _) es p = p
target_closed (Neg _) es p = p
target_closed (Not _) es p = p
target_closed (Binary _ _ _) es p = p
target_closed (Coalesce _ _) es p = p
target_closed (Prop _ _) es p = p
target_closed (PropNullish _ _) es p = p
target_closed (Index _ _) es p = p
target_closed (Call _ _) es p = p
target_closed (Lambda _ _) es p = p

mutual
  pub exp_closed : (x : Exp) → KeepsScopes (exp_words x)
  exp_closed (Int n) = nothing
  exp_closed (Truth b) = nothing
  exp_closed Null = nothing
  exp_closed (Text t) = spells t
  exp_closed (Template ps) = parts_closed ps
  exp_closed (Name w) = reads w
  exp_closed (Array xs) = exps_closed xs
  exp_closed (Dict ds) = pairs_closed ds
  exp_closed (Neg x) = exp_closed x
  exp_closed (Not x) = exp_closed x
  exp_closed (Binary op x y) = scopes_then (exp_closed x) (exp_closed y)
  exp_closed (Coalesce x y) = scopes_then (exp_closed x) (exp_closed y)
  exp_closed (Prop x w) = scopes_then (exp_closed x) (spells w)
  exp_closed (PropNullish x w) = scopes_then (exp_closed x) (spells w)
  exp_closed (Index x y) = scopes_then (exp_closed x) (exp_closed y)
  exp_closed (Call f xs) = scopes_then (callee_closed f (count_of xs) (exp_words f) (exp_closed f)) (exps_closed xs)
  exp_closed (Lambda ps b) = scope_kept (around_then (all_declared_around ps) (body_closed b))

  pub exps_closed : (xs : Exps) → KeepsScopes (exps_words xs)
  exps_closed NoExp = nothing
  exps_closed (MoreExp x xs) = scopes_then (exp_closed x) (exps_closed xs)

  pub parts_closed : (ps : Parts) → KeepsScopes (parts_words ps)
  parts_closed NoPart = nothing
  parts_closed (MoreText t ps) = before_scopes (spells t) (parts_closed ps)
  parts_closed (MoreHole x ps) = scopes_then (exp_closed x) (parts_closed ps)

  pub pairs_closed : (ds : Pairs) → KeepsScopes (pairs_words ds)
  pairs_closed NoPair = nothing
  pairs_closed (MorePair x y ds) = scopes_then (scopes_then (exp_closed x) (exp_closed y)) (pairs_closed ds)

  pub body_closed : (b : Body) → KeepsAround (body_words b)
  body_closed (OneExp x) = around_of (exp_closed x)
  body_closed (ManyStms ss) = stms_closed ss

  pub stm_closed : (s : Stm) → KeepsAround (stm_words s)
  stm_closed (Let w x) = before_around (declares_around w) (around_then (around_of (option_exp_closed x)) (binds_around w))
  stm_closed (Assign x y) = around_of (scopes_then (target_closed x (exp_words x) (exp_closed x)) (exp_closed y))
  stm_closed (Do x) = around_of (exp_closed x)
  stm_closed (Return x) = around_of (option_exp_closed x)
  stm_closed (Throw x) = around_of (exp_closed x)
  stm_closed (If c b o) = around_of (scopes_then (scopes_then (exp_closed c) (scope_kept (stms_closed b))) (option_stms_closed o))
  stm_closed (While c b) = around_of (scopes_then (exp_closed c) (scope_kept (stms_closed b)))
  stm_closed (For a c n b) =
      around_of (scope_kept (around_then (around_then (around_then (option_stm_closed a) (around_of (option_exp_closed c))) (around_of (option_step_closed n))) (around_of (scope_kept (stms_closed b)))))
  stm_closed (ForIn k v x b) =
      around_of (scope_kept (around_then (around_then (around_then (option_declares k) (before_around (declares_around v) (around_of (exp_closed x)))) (option_binds k)) (before_around (binds_around v) (around_of (scope_kept (stms_closed b))))))
  stm_closed (Fun w ps b) = around_then (declared_around w) (around_of (scope_kept (around_then (all_declared_around ps) (stms_closed b))))
  stm_closed (Try b w c) = around_of (scopes_then (scope_kept (stms_closed b)) (scope_kept (around_then (declared_around w) (around_of (scope_kept (stms_closed c))))))
  stm_closed (Block b) = around_of (scope_kept (stms_closed b))

  pub stms_closed : (ss : Stms) → KeepsAround (stms_words ss)
  stms_closed Done = around_of nothing
  stms_closed (Then s ss) = around_then (stm_closed s) (stms_closed ss)

  pub option_exp_closed : (o : OptionExp) → KeepsScopes (option_exp_words o)
  option_exp_closed NoneExp = nothing
  option_exp_closed (SomeExp x) = exp_closed x

  pub option_stm_closed : (o : OptionStm) → KeepsAround (option_stm_words o)
  option_stm_closed NoneStm = around_of nothing
  option_stm_closed (SomeStm s) = stm_closed s

  pub option_step_closed : (o : OptionStm) → KeepsScopes (option_step_words o)
  option_step_closed NoneStm = nothing
  option_step_closed (SomeStm s) = scope_kept (stm_closed s)

  pub option_stms_closed : (o : OptionStms) → KeepsScopes (option_stms_words o)
  option_stms_closed NoneStms = nothing
  option_stms_closed (SomeStms b) = scope_kept (stms_closed b)
