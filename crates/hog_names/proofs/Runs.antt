-- Expressions and statements in both runs, where what costs a turn does the same in both.
use Rattle.std.proofs.Common.{◌≡◌, ℕ, suc, ◌+◌, ◌≤◌, ℤ, pos, ◌+ℤ◌, List, [], ◌∷◌, ◌++◌, length, Option, Some, None, true, cond, refl, ap, ◌∙◌, inl, arith}
use Rattle.std.specs.Prelude.{int_le, not, slice_set}
use Rattle.hog_value.specs.declared.value.Kind.TheVariants.{TypeError}
use Rattle.hog_value.specs.declared.native.Native.TheVariants.{Concat}
use Rattle.hog_value.specs.declared.value.Value.TheVariants.{Null, Bool as Truth, Int, Ref}
use Rattle.hog_value.specs.Values.{Val}
use Rattle.hog_value.specs.Cells.{Array, Fun}
use Rattle.hog_value.specs.Operations.{made, truth_of, key_of, set_key_of}
use Rattle.hog_value.proofs.Naturality.{made-heap_map, key_of-heap_map, set_key_of-heap_map, truth_of-heap_map}
use Rattle.hog_tree.specs.declared.tree.BinaryOp.{BinaryOp}
use Rattle.hog_tree.specs.Plain as t
use Rattle.hog_tree.specs.Plain.{Word, Exp, Exps, NoExp, MoreExp, Parts, NoPart, MoreText, MoreHole, Pairs, NoPair, MorePair, Body, OneExp, ManyStms, Stm, Stms, Done, Then, OptionExp, NoneExp, SomeExp, OptionStm, NoneStm, SomeStm, OptionStms, NoneStms, SomeStms}
use Rattle.hog_captures.specs.Frees.{without, without_all, without_name, name_by, option_name_by, exp_frees, exps_frees, parts_frees, pairs_frees, body_frees, stm_frees, stms_frees, option_exp_frees, option_stm_frees, option_stms_frees}
use Rattle.hog_meaning.specs.Operators.{operated, is_left_first, negated, accessed, property_of, nullish_property_of, assigned, property_assigned, dictionary_made}
use Rattle.hog_meaning.specs.Meaning.{Effect, Loop, LoopWithStep, LoopOver, literal, read_word, called_with, bind_key, bind_item, run_over, run_for, is_null, assign_word, call_named, value, values, parts, pairs, effect, optional, otherwise, begin, condition, effects, body_effect}
use Rattle.hog_meaning.specs.World.{Env, Closure, World, Fixed, Got, Gives, and_then, Flow, GoesOn, find_var, read_var, of_result, of_outcome}
use Rattle.hog_names.specs.Anew.{Naming}
use Rattle.hog_names.specs.Numbers.{option_count, exp_count, stm_count, stms_count, option_exp_count, option_stm_count, with_number, with_numbers}
use Rattle.hog_bridge.proofs.Operated.{operated-heap_map, accessed-heap_map, assigned-heap_map, dictionary_made-heap_map}
use Rattle.hog_names.proofs.Within.{word_found, word_in, names_in, option_in, exp_in, exps_in, parts_in, pairs_in, body_in, stm_in, stms_in, option_exp_in, option_stm_in, option_stms_in}
use Rattle.hog_names.proofs.Sights.{AreApart, Here, Alike, here_left, here_right, here_later, here_named, here_option, alike_named}
use Rattle.hog_names.proofs.Twins.{Twin, older, newer, Worlds, old_world, new_world, Pair, BothReturn, BothLeave, give, throw, pair_so, then_pair, choice, throws_pair, result_pair, outcome_pair, turn_pair, Ends, Leaves, SameValue, go_on, flow_pair, flow_leaves, leaves, leave_pair, fall_pair, catch_pair}
use Rattle.hog_names.proofs.Calls.{Good, copies_of, call_native_pair, copied_pair, value_called_pair, native_called_pair}

-- operations that look into no function
module _ (call : Naming) (W : Worlds call) where
  truth_pair : {X A : Type 0} {l r : X → A} (v : Val) {x y x' y' : Got A} → Pair call l r x x' → Pair call l r y y'
      → Pair call l r (cond (truth_of (old_world call W).heap v) x y) (cond (truth_of (new_world call W).heap v) x' y')
  truth_pair v p q = choice call (truth_of W.heap v) (truth_of-heap_map (older call) W.heap v) (truth_of-heap_map (newer call) W.heap v) p q

  not_pair : (v : Val) → SameValue call (Gives (Truth (not (truth_of (old_world call W).heap v))) (old_world call W)) (Gives (Truth (not (truth_of (new_world call W).heap v))) (new_world call W))
  not_pair v =
      pair_so call (ap (λ b. Gives (Truth (not b)) (old_world call W)) (truth_of-heap_map (older call) W.heap v)) (ap (λ b. Gives (Truth (not b)) (new_world call W)) (truth_of-heap_map (newer call) W.heap v))
      (give call (Truth (not (truth_of W.heap v))) W)

  operated_pair : (op : BinaryOp) (x y : Val) → SameValue call (of_result (operated op (old_world call W).heap x y) (old_world call W)) (of_result (operated op (new_world call W).heap x y) (new_world call W))
  operated_pair op x y = result_pair call (operated op W.heap x y) W (operated-heap_map (older call) W.heap op x y) (operated-heap_map (newer call) W.heap op x y)

  accessed_pair : (x k : Val) → SameValue call (of_result (accessed (old_world call W).heap x k) (old_world call W)) (of_result (accessed (new_world call W).heap x k) (new_world call W))
  accessed_pair x k = result_pair call (accessed W.heap x k) W (accessed-heap_map (older call) W.heap x k) (accessed-heap_map (newer call) W.heap x k)

  property_pair : (v : Val) (w : Word) → SameValue call (of_result (property_of (old_world call W).heap v w) (old_world call W)) (of_result (property_of (new_world call W).heap v w) (new_world call W))
  property_pair Null w = result_pair call (property_of W.heap Null w) W refl refl
  property_pair (Truth b) w = result_pair call (property_of W.heap (Truth b) w) W refl refl
  property_pair (Int z) w = result_pair call (property_of W.heap (Int z) w) W refl refl
  property_pair (Ref n) w = result_pair call (key_of W.heap n w) W (key_of-heap_map (older call) W.heap n w) (key_of-heap_map (newer call) W.heap n w)

  nullish_pair : (v : Val) (w : Word) → SameValue call (of_result (nullish_property_of (old_world call W).heap v w) (old_world call W)) (of_result (nullish_property_of (new_world call W).heap v w) (new_world call W))
  nullish_pair Null w = give call Null W
  nullish_pair (Truth b) w = property_pair (Truth b) w
  nullish_pair (Int z) w = property_pair (Int z) w
  nullish_pair (Ref n) w = property_pair (Ref n) w

  assigned_pair : (x k v : Val) → SameValue call (of_outcome (assigned (old_world call W).heap x k v W.units) (old_world call W)) (of_outcome (assigned (new_world call W).heap x k v W.units) (new_world call W))
  assigned_pair x k v = outcome_pair call (assigned W.heap x k v W.units) W (assigned-heap_map (older call) W.heap x k v W.units) (assigned-heap_map (newer call) W.heap x k v W.units)

  property_assigned_pair : (x : Val) (w : Word) (v : Val) → SameValue call (of_outcome (property_assigned (old_world call W).heap x w v W.units) (old_world call W)) (of_outcome (property_assigned (new_world call W).heap x w v W.units) (new_world call W))
  property_assigned_pair Null w v = throws_pair call TypeError W
  property_assigned_pair (Truth b) w v = throws_pair call TypeError W
  property_assigned_pair (Int z) w v = throws_pair call TypeError W
  property_assigned_pair (Ref n) w v =
      outcome_pair call (set_key_of W.heap n w v W.units) W (set_key_of-heap_map (older call) W.heap n w v W.units) (set_key_of-heap_map (newer call) W.heap n w v W.units)

  -- a function that is made in both
  function_made : (ps : List Word) (b : Body) (σ : Env) (n : ℕ) → Here call σ n (without_all ps (body_frees b)) → (ρ ρ' : Env) → Alike call σ ρ ρ'
      → SameValue call (of_outcome (made (Fun (record { params = ps; body = b; env = ρ })) (old_world call W).heap W.units) (old_world call W))
      (of_outcome (made (Fun (record { params = names_in call n ps; body = body_in call (with_numbers ps n σ) (n + length ps) b; env = ρ' })) (new_world call W).heap W.units) (new_world call W))
  function_made ps b σ n h ρ ρ' a =
      let old : Closure = record { params = ps; body = b; env = ρ } in
      let new : Closure = record { params = names_in call n ps; body = body_in call (with_numbers ps n σ) (n + length ps) b; env = ρ' } in
      let twin : Twin call = record { old = old; new = new; sight = σ; next = n; params = refl; body = refl; env = a; here = h } in
      outcome_pair call (made (Fun twin) W.heap W.units) W (made-heap_map (older call) (Fun twin) W.heap W.units) (made-heap_map (newer call) (Fun twin) W.heap W.units)

-- a name that a statement declares is counted
pub stm_named_within : (s : Stm) (n : ℕ) → n + option_count (name_by s) ≤ n + stm_count s
stm_named_within (t.Let w x) n = omega arith
stm_named_within (t.Assign x y) n = omega arith
stm_named_within (t.Do x) n = omega arith
stm_named_within (t.Return x) n = omega arith
stm_named_within (t.Throw x) n = omega arith
stm_named_within (t.If c b o) n = omega arith
stm_named_within (t.While c b) n = omega arith
stm_named_within (t.For a c s b) n = omega arith
stm_named_within (t.ForIn k v x b) n = omega arith
stm_named_within (t.Fun w ps b) n = omega arith
stm_named_within (t.Try b w c) n = omega arith
stm_named_within (t.Block b) n = omega arith

pub named_within : (s : OptionStm) (n : ℕ) → n + option_count (option_name_by s) ≤ n + option_stm_count s
named_within NoneStm n = omega arith
named_within (SomeStm s) n = stm_named_within s n

-- where a word is looked for: its variable is found in both, or none is and the word is the same
module _ (call : Naming) where
  pub data Looked (ρ ρ' : Env) (w w' : Word) : Type 0 where
    BothFind : (x : ℕ) → find_var ρ w ≡ Some x → find_var ρ' w' ≡ Some x → Looked ρ ρ' w w'
    NoneFinds : w' ≡ w → find_var ρ w ≡ None → find_var ρ' w ≡ None → Looked ρ ρ' w w'

  pub looked : {σ ρ ρ' : Env} {n : ℕ} (w : Word) → Here call σ n (w ∷ []) → Alike call σ ρ ρ' → Looked ρ ρ' w (word_in call σ w)
  looked {σ} {ρ} {ρ'} w h a = by (find_var σ w) refl
    where
      by : (o : Option ℕ) → find_var σ w ≡ o → Looked ρ ρ' w (word_found call o w)
      by (Some i) e = let k = a.known w i e in BothFind k.0 k.1 k.2
      by None e = NoneFinds refl (a.unknown w e) (a.others w (h.clear w (inl refl) e))

  read_pair : (fixed : Fixed) {ρ ρ' : Env} {w w' : Word} → Looked ρ ρ' w w' → (W : Worlds call)
      → SameValue call (read_word fixed (find_var ρ w) w (old_world call W)) (read_word fixed (find_var ρ' w') w' (new_world call W))
  read_pair fixed {ρ} {ρ'} {w} {w'} (BothFind x e e') W =
      pair_so call (ap (λ o. read_word fixed o w (old_world call W)) e) (ap (λ o. read_word fixed o w' (new_world call W)) e') (give call _ W)
  read_pair fixed {ρ} {ρ'} {w} {w'} (NoneFinds s e e') W =
      pair_so call (ap (λ o. read_word fixed o w (old_world call W)) e)
      (ap (λ v. read_word fixed (find_var ρ' v) v (new_world call W)) s ∙ ap (λ o. read_word fixed o w (new_world call W)) e')
      (result_pair call (key_of W.heap fixed.globals w) W (key_of-heap_map (older call) W.heap fixed.globals w) (key_of-heap_map (newer call) W.heap fixed.globals w))

  assign_pair : {τ ρ ρ' : Env} {w w' : Word} → Looked ρ ρ' w w' → Alike call τ ρ ρ' → (v : Val) (W : Worlds call)
      → Ends call τ (Gives (GoesOn ρ) (assign_word (find_var ρ w) v (old_world call W))) (Gives (GoesOn ρ') (assign_word (find_var ρ' w') v (new_world call W)))
  assign_pair {ρ = ρ} {ρ' = ρ'} (BothFind x e e') a v W =
      pair_so call (ap (λ o. Gives (GoesOn ρ) (assign_word o v (old_world call W))) e) (ap (λ o. Gives (GoesOn ρ') (assign_word o v (new_world call W))) e')
      (go_on call ρ ρ' a (record W { store = slice_set W.store x v }))
  assign_pair {ρ = ρ} {ρ' = ρ'} {w = w} (NoneFinds s e e') a v W =
      pair_so call (ap (λ o. Gives (GoesOn ρ) (assign_word o v (old_world call W))) e)
      (ap (λ u. Gives (GoesOn ρ') (assign_word (find_var ρ' u) v (new_world call W))) s ∙ ap (λ o. Gives (GoesOn ρ') (assign_word o v (new_world call W))) e')
      (go_on call ρ ρ' a W)

  module _ (far : AreApart call) where
    -- the new variables of a turn
    key_pair : {σ ρ ρ' : Env} {n : ℕ} {ws : List Word} (k : Option Word) (keys : Val) (i : ℤ) → Here call σ n ws → Alike call σ ρ ρ' → (W : Worlds call)
        → Ends call (with_number k n σ) (bind_key k keys i ρ (old_world call W)) (bind_key (option_in call n k) keys i ρ' (new_world call W))
    key_pair {ρ = ρ} {ρ' = ρ'} None keys i h a W = go_on call ρ ρ' a W
    key_pair {ρ = ρ} {ρ' = ρ'} (Some k) keys i h a W =
        then_pair call _ _ (result_pair call (accessed W.heap keys (Int i)) W (accessed-heap_map (older call) W.heap keys (Int i)) (accessed-heap_map (newer call) W.heap keys (Int i)))
        (λ v W1. go_on call _ _ (alike_named call far h a k (length W1.store)) (record W1 { store = W1.store ++ v ∷ [] }))

    item_pair : {σ ρ ρ' : Env} {n : ℕ} (k : Option Word) (x : Word) (t : Val × Val × ℤ) (i : ℤ) (ws : List Word) → Here call σ n (without_name k ws) → Alike call σ ρ ρ' → (W : Worlds call)
        → Ends call ((x, n + option_count k) ∷ with_number k n σ) (bind_item (copies_of call k x t) i ρ (old_world call W)) (bind_item (copies_of call (option_in call n k) (call (n + option_count k)) t) i ρ' (new_world call W))
    item_pair {n = n} k x t i ws h a W =
        then_pair call _ _ (key_pair k t.0 i h a W) (λ f W1. flow_pair call f W1 _ _
        (λ ρ1 ρ1' a1. then_pair call _ _ (result_pair call (accessed W1.heap t.1 (Int i)) W1 (accessed-heap_map (older call) W1.heap t.1 (Int i)) (accessed-heap_map (newer call) W1.heap t.1 (Int i)))
        (λ v W3. go_on call _ _ (alike_named call far (here_option call k ws h) a1 x (length W3.store)) (record W3 { store = W3.store ++ v ∷ [] }))))

    module _ (again again' : Effect) (ih : Good call far again again') where
      called_pair : {ρ ρ' : Env} (depth : ℕ) (f : Exp) (σ : Env) (n : ℕ) → Here call σ n (exp_frees true f) → Alike call σ ρ ρ' → (callee callee' : World → Got Val) (vs : List Val) (W : Worlds call) → SameValue call (callee (old_world call W)) (callee' (new_world call W))
          → SameValue call (called_with again depth f ρ callee vs (old_world call W)) (called_with again' depth (exp_in call σ n f) ρ' callee' vs (new_world call W))
      called_pair {ρ} {ρ'} depth (t.Name w) σ n h a callee callee' vs W g = by (looked w h a)
        where
          by : Looked ρ ρ' w (word_in call σ w) → SameValue call (called_with again depth (t.Name w) ρ callee vs (old_world call W)) (called_with again' depth (exp_in call σ n (t.Name w)) ρ' callee' vs (new_world call W))
          by (BothFind x e e') =
              pair_so call (ap (λ o. call_named again depth o w vs (old_world call W)) e) (ap (λ o. call_named again' depth o (word_in call σ w) vs (new_world call W)) e')
              (value_called_pair call far again again' ih depth (read_var (old_world call W) x) vs W)
          by (NoneFinds s e e') =
              pair_so call (ap (λ o. call_named again depth o w vs (old_world call W)) e)
              (ap (λ v. call_named again' depth (find_var ρ' v) v vs (new_world call W)) s ∙ ap (λ o. call_named again' depth o w vs (new_world call W)) e')
              (native_called_pair call far again again' ih depth w vs W)
      called_pair depth f σ n h a callee callee' vs W g = then_pair call _ _ g (λ v W1. value_called_pair call far again again' ih depth v vs W1)

      pub over_pair : (depth : ℕ) (σ : Env) (n m : ℕ) (k : Option Word) (x : Word) (t : Val × Val × ℤ) (i : ℤ) (b : Stms) → suc (n + option_count k) ≤ m → Here call σ n (without_name k (without x (stms_frees true b)))
          → (block block' : Env → World → Got Flow)
          → ((ρ ρ' : Env) → Alike call ((x, n + option_count k) ∷ with_number k n σ) ρ ρ' → (W : Worlds call) → Leaves call (block ρ (old_world call W)) (block' ρ' (new_world call W)))
          → (ρ ρ' : Env) → Alike call σ ρ ρ' → (W : Worlds call)
          → Ends call σ (run_over again depth (copies_of call k x t) i b block ρ (old_world call W))
          (run_over again' depth (copies_of call (option_in call n k) (call (n + option_count k)) t) i (stms_in call ((x, n + option_count k) ∷ with_number k n σ) m b) block' ρ' (new_world call W))
      over_pair depth σ n m k x t i b le h block block' blocks ρ ρ' a W =
          choice call (int_le i t.2) refl refl
          (then_pair call _ _ (then_pair call _ _ (then_pair call _ _ (item_pair k x t i (without x (stms_frees true b)) h a W) (λ f W1. flow_leaves call f W1 block block' (λ ρ1 ρ1' a1. blocks ρ1 ρ1' a1 W1))) (leave_pair call ρ ρ' a))
          (λ f W2. flow_pair call f W2 _ _ (λ ρ1 ρ1' a1. turn_pair call W2 (again depth (LoopOver (copies_of call k x t) (i +ℤ pos 1) b) ρ1)
          (again' depth (LoopOver (copies_of call (option_in call n k) (call (n + option_count k)) t) (i +ℤ pos 1) (stms_in call ((x, n + option_count k) ∷ with_number k n σ) m b)) ρ1')
          (ih.over depth σ n m k x t (i +ℤ pos 1) b le h ρ1 ρ1' a1))))
          (go_on call ρ ρ' a W)

      pub for_pair : (depth : ℕ) (σ : Env) (n : ℕ) (c : OptionExp) (s : OptionStm) (b : Stms) → Here call σ n (option_exp_frees true c ++ (option_stm_frees true s ++ stms_frees true b))
          → (test test' : Env → World → Got Val) (block block' step step' : Env → World → Got Flow)
          → ((ρ ρ' : Env) → Alike call σ ρ ρ' → (W : Worlds call) → SameValue call (test ρ (old_world call W)) (test' ρ' (new_world call W)))
          → ((ρ ρ' : Env) → Alike call σ ρ ρ' → (W : Worlds call) → Leaves call (block ρ (old_world call W)) (block' ρ' (new_world call W)))
          → ((ρ ρ' : Env) → Alike call σ ρ ρ' → (W : Worlds call) → Leaves call (step ρ (old_world call W)) (step' ρ' (new_world call W)))
          → (ρ ρ' : Env) → Alike call σ ρ ρ' → (W : Worlds call)
          → Ends call σ (run_for again depth c s b test block step ρ (old_world call W))
          (run_for again' depth (option_exp_in call σ n c) (option_stm_in call σ (n + option_exp_count c) s) (stms_in call σ (n + option_exp_count c + option_stm_count s) b) test' block' step' ρ' (new_world call W))
      for_pair depth σ n c s b h test test' block block' step step' tests blocks steps ρ ρ' a W =
          then_pair call _ _ (tests ρ ρ' a W) (λ v W1. truth_pair call W1 v
          (then_pair call _ _ (then_pair call _ _ (blocks ρ ρ' a W1) (leave_pair call ρ ρ' a)) (λ f W2. flow_pair call f W2 _ _ (λ ρ1 ρ1' a1.
          then_pair call _ _ (then_pair call _ _ (steps ρ1 ρ1' a1 W2) (leave_pair call ρ1 ρ1' a1)) (λ f1 W4. flow_pair call f1 W4 _ _ (λ ρ2 ρ2' a2. turn_pair call W4 (again depth (LoopWithStep c s b) ρ2)
          (again' depth (LoopWithStep (option_exp_in call σ n c) (option_stm_in call σ (n + option_exp_count c) s) (stms_in call σ (n + option_exp_count c + option_stm_count s) b)) ρ2')
          (ih.with_step depth σ n c s b h ρ2 ρ2' a2))))))
          (go_on call ρ ρ' a W1))

module _ (call : Naming) (far : AreApart call) (fixed : Fixed) (again again' : Effect) (ih : Good call far again again') where
  mutual
    pub value_pair : (depth : ℕ) (e : Exp) (σ : Env) (n : ℕ) → Here call σ n (exp_frees true e) → (ρ ρ' : Env) → Alike call σ ρ ρ' → (W : Worlds call)
        → SameValue call (value fixed again depth e ρ (old_world call W)) (value fixed again' depth (exp_in call σ n e) ρ' (new_world call W))
    value_pair depth (t.Int z) σ n h ρ ρ' a W = give call _ W
    value_pair depth (t.Truth b) σ n h ρ ρ' a W = give call _ W
    value_pair depth t.Null σ n h ρ ρ' a W = give call _ W
    value_pair depth (t.Text text) σ n h ρ ρ' a W = give call _ W
    value_pair depth (t.Template ps) σ n h ρ ρ' a W = then_pair call _ _ (parts_pair depth ps σ n h ρ ρ' a W) (call_native_pair call depth Concat)
    value_pair depth (t.Name w) σ n h ρ ρ' a W = read_pair call fixed (looked call w h a) W
    value_pair depth (t.Array es) σ n h ρ ρ' a W =
        then_pair call _ _ (values_pair depth es σ n h ρ ρ' a W) (λ vs W1.
        outcome_pair call (made (Array vs) W1.heap W1.units) W1 (made-heap_map (older call) (Array vs) W1.heap W1.units) (made-heap_map (newer call) (Array vs) W1.heap W1.units))
    value_pair depth (t.Dict ds) σ n h ρ ρ' a W =
        then_pair call _ _ (pairs_pair depth ds σ n h ρ ρ' a W) (λ kvs W1.
        outcome_pair call (dictionary_made kvs W1.heap W1.units) W1 (dictionary_made-heap_map (older call) W1.heap kvs W1.units) (dictionary_made-heap_map (newer call) W1.heap kvs W1.units))
    value_pair depth (t.Neg e) σ n h ρ ρ' a W = then_pair call _ _ (value_pair depth e σ n h ρ ρ' a W) (λ v W1. result_pair call (negated v) W1 refl refl)
    value_pair depth (t.Not e) σ n h ρ ρ' a W = then_pair call _ _ (value_pair depth e σ n h ρ ρ' a W) (λ v W1. not_pair call W1 v)
    value_pair depth (t.Binary op x y) σ n h ρ ρ' a W =
        let hx = here_left call (exp_frees true x) (exp_frees true y) h in
        let hy = here_right call (n + exp_count x) (exp_frees true x) (exp_frees true y) (omega arith) h in
        choice call (is_left_first op) refl refl
        (then_pair call _ _ (value_pair depth x σ n hx ρ ρ' a W) (λ u W1. then_pair call _ _ (value_pair depth y σ (n + exp_count x) hy ρ ρ' a W1) (λ v W2. operated_pair call W2 op u v)))
        (then_pair call _ _ (value_pair depth y σ (n + exp_count x) hy ρ ρ' a W) (λ v W1. then_pair call _ _ (value_pair depth x σ n hx ρ ρ' a W1) (λ u W2. operated_pair call W2 op u v)))
    value_pair depth (t.Coalesce x y) σ n h ρ ρ' a W =
        let hx = here_left call (exp_frees true x) (exp_frees true y) h in
        let hy = here_right call (n + exp_count x) (exp_frees true x) (exp_frees true y) (omega arith) h in
        then_pair call _ _ (value_pair depth x σ n hx ρ ρ' a W) (λ v W1. choice call (is_null v) refl refl (value_pair depth y σ (n + exp_count x) hy ρ ρ' a W1) (give call v W1))
    value_pair depth (t.Prop e w) σ n h ρ ρ' a W = then_pair call _ _ (value_pair depth e σ n h ρ ρ' a W) (λ v W1. property_pair call W1 v w)
    value_pair depth (t.PropNullish e w) σ n h ρ ρ' a W = then_pair call _ _ (value_pair depth e σ n h ρ ρ' a W) (λ v W1. nullish_pair call W1 v w)
    value_pair depth (t.Index x k) σ n h ρ ρ' a W =
        let hx = here_left call (exp_frees true x) (exp_frees true k) h in
        let hk = here_right call (n + exp_count x) (exp_frees true x) (exp_frees true k) (omega arith) h in
        then_pair call _ _ (value_pair depth x σ n hx ρ ρ' a W) (λ u W1. then_pair call _ _ (value_pair depth k σ (n + exp_count x) hk ρ ρ' a W1) (λ v W2. accessed_pair call W2 u v))
    value_pair depth (t.Call f es) σ n h ρ ρ' a W =
        let hf = here_left call (exp_frees true f) (exps_frees true es) h in
        let hs = here_right call (n + exp_count f) (exp_frees true f) (exps_frees true es) (omega arith) h in
        then_pair call _ _ (values_pair depth es σ (n + exp_count f) hs ρ ρ' a W) (λ vs W1.
        called_pair call far again again' ih depth f σ n hf a (value fixed again depth f ρ) (value fixed again' depth (exp_in call σ n f) ρ') vs W1 (value_pair depth f σ n hf ρ ρ' a W1))
    value_pair depth (t.Lambda ps b) σ n h ρ ρ' a W = function_made call W ps b σ n h ρ ρ' a

    values_pair : (depth : ℕ) (es : Exps) (σ : Env) (n : ℕ) → Here call σ n (exps_frees true es) → (ρ ρ' : Env) → Alike call σ ρ ρ' → (W : Worlds call)
        → SameValue call (values fixed again depth es ρ (old_world call W)) (values fixed again' depth (exps_in call σ n es) ρ' (new_world call W))
    values_pair depth NoExp σ n h ρ ρ' a W = give call _ W
    values_pair depth (MoreExp e es) σ n h ρ ρ' a W =
        let hx = here_left call (exp_frees true e) (exps_frees true es) h in
        let hs = here_right call (n + exp_count e) (exp_frees true e) (exps_frees true es) (omega arith) h in
        then_pair call _ _ (value_pair depth e σ n hx ρ ρ' a W) (λ v W1. then_pair call _ _ (values_pair depth es σ (n + exp_count e) hs ρ ρ' a W1) (λ vs W2. give call (v ∷ vs) W2))

    parts_pair : (depth : ℕ) (ps : Parts) (σ : Env) (n : ℕ) → Here call σ n (parts_frees true ps) → (ρ ρ' : Env) → Alike call σ ρ ρ' → (W : Worlds call)
        → SameValue call (parts fixed again depth ps ρ (old_world call W)) (parts fixed again' depth (parts_in call σ n ps) ρ' (new_world call W))
    parts_pair depth NoPart σ n h ρ ρ' a W = give call _ W
    parts_pair depth (MoreText text ps) σ n h ρ ρ' a W = then_pair call _ _ (parts_pair depth ps σ n h ρ ρ' a W) (λ vs W1. give call (literal fixed text ∷ vs) W1)
    parts_pair depth (MoreHole e ps) σ n h ρ ρ' a W =
        let hx = here_left call (exp_frees true e) (parts_frees true ps) h in
        let hs = here_right call (n + exp_count e) (exp_frees true e) (parts_frees true ps) (omega arith) h in
        then_pair call _ _ (value_pair depth e σ n hx ρ ρ' a W) (λ v W1. then_pair call _ _ (parts_pair depth ps σ (n + exp_count e) hs ρ ρ' a W1) (λ vs W2. give call (v ∷ vs) W2))

    pairs_pair : (depth : ℕ) (ds : Pairs) (σ : Env) (n : ℕ) → Here call σ n (pairs_frees true ds) → (ρ ρ' : Env) → Alike call σ ρ ρ' → (W : Worlds call)
        → SameValue call (pairs fixed again depth ds ρ (old_world call W)) (pairs fixed again' depth (pairs_in call σ n ds) ρ' (new_world call W))
    pairs_pair depth NoPair σ n h ρ ρ' a W = give call _ W
    pairs_pair depth (MorePair k e ds) σ n h ρ ρ' a W =
        let n1 = n + exp_count k in
        let n2 = n1 + exp_count e in
        let hk = here_left call (exp_frees true k) (exp_frees true e ++ pairs_frees true ds) h in
        let hm = here_right call n1 (exp_frees true k) (exp_frees true e ++ pairs_frees true ds) (omega arith) h in
        let hx = here_left call (exp_frees true e) (pairs_frees true ds) hm in
        let hs = here_right call n2 (exp_frees true e) (pairs_frees true ds) (omega arith) hm in
        then_pair call _ _ (value_pair depth k σ n hk ρ ρ' a W) (λ key W1. then_pair call _ _ (value_pair depth e σ n1 hx ρ ρ' a W1) (λ v W2.
        then_pair call _ _ (pairs_pair depth ds σ n2 hs ρ ρ' a W2) (λ kvs W3. give call ((key, v) ∷ kvs) W3)))

    pub effect_pair : (depth : ℕ) (s : Stm) (σ : Env) (n : ℕ) → Here call σ n (stm_frees true s) → (ρ ρ' : Env) → Alike call σ ρ ρ' → (W : Worlds call)
        → Ends call (with_number (name_by s) n σ) (effect fixed again depth s ρ (old_world call W)) (effect fixed again' depth (stm_in call σ n s) ρ' (new_world call W))
    effect_pair depth (t.Let w e) σ n h ρ ρ' a W =
        then_pair call _ _ (optional_pair depth e σ (suc n) (here_later call (suc n) (omega arith) h) ρ ρ' a W) (λ v W1.
        go_on call _ _ (alike_named call far h a w (length W1.store)) (record W1 { store = W1.store ++ v ∷ [] }))
    effect_pair depth (t.Assign (t.Name w) e) σ n h ρ ρ' a W =
        let hw = here_left call (w ∷ []) (exp_frees true e) h in
        let he = here_right call (n + 0) (w ∷ []) (exp_frees true e) (omega arith) h in
        then_pair call (λ v w1. Gives (GoesOn ρ) (assign_word (find_var ρ w) v w1)) (λ v w1. Gives (GoesOn ρ') (assign_word (find_var ρ' (word_in call σ w)) v w1))
        (value_pair depth e σ (n + 0) he ρ ρ' a W) (λ v W1. assign_pair call (looked call w hw a) a v W1)
    effect_pair depth (t.Assign (t.Prop x w) e) σ n h ρ ρ' a W =
        let hx = here_left call (exp_frees true x) (exp_frees true e) h in
        let he = here_right call (n + exp_count x) (exp_frees true x) (exp_frees true e) (omega arith) h in
        then_pair call _ _ (value_pair depth x σ n hx ρ ρ' a W) (λ u W1. then_pair call _ _ (value_pair depth e σ (n + exp_count x) he ρ ρ' a W1) (λ v W2.
        then_pair call _ _ (property_assigned_pair call W2 u w v) (λ done W3. go_on call ρ ρ' a W3)))
    effect_pair depth (t.Assign (t.Index x k) e) σ n h ρ ρ' a W =
        let n1 = n + exp_count x in
        let n2 = n + (exp_count x + exp_count k) in
        let hxk = here_left call (exp_frees true x ++ exp_frees true k) (exp_frees true e) h in
        let he = here_right call n2 (exp_frees true x ++ exp_frees true k) (exp_frees true e) (omega arith) h in
        let hx = here_left call (exp_frees true x) (exp_frees true k) hxk in
        let hk = here_right call n1 (exp_frees true x) (exp_frees true k) (omega arith) hxk in
        then_pair call _ _ (value_pair depth x σ n hx ρ ρ' a W) (λ u W1. then_pair call _ _ (value_pair depth k σ n1 hk ρ ρ' a W1) (λ key W2. then_pair call _ _ (value_pair depth e σ n2 he ρ ρ' a W2) (λ v W3.
        then_pair call _ _ (assigned_pair call W3 u key v) (λ done W4. go_on call ρ ρ' a W4))))
    effect_pair depth (t.Assign x e) σ n h ρ ρ' a W =
        let hx = here_left call (exp_frees true x) (exp_frees true e) h in
        let he = here_right call (n + exp_count x) (exp_frees true x) (exp_frees true e) (omega arith) h in
        then_pair call (λ u w1. and_then (value fixed again depth e ρ w1) (λ v w2. Gives (GoesOn ρ) w2)) (λ u w1. and_then (value fixed again' depth (exp_in call σ (n + exp_count x) e) ρ' w1) (λ v w2. Gives (GoesOn ρ') w2))
        (value_pair depth x σ n hx ρ ρ' a W) (λ u W1. then_pair call (λ v w2. Gives (GoesOn ρ) w2) (λ v w2. Gives (GoesOn ρ') w2) (value_pair depth e σ (n + exp_count x) he ρ ρ' a W1) (λ v W2. go_on call ρ ρ' a W2))
    effect_pair depth (t.Do e) σ n h ρ ρ' a W = then_pair call _ _ (value_pair depth e σ n h ρ ρ' a W) (λ v W1. go_on call ρ ρ' a W1)
    effect_pair depth (t.Return e) σ n h ρ ρ' a W = then_pair call _ _ (optional_pair depth e σ n h ρ ρ' a W) (λ v W1. give call (BothReturn v) W1)
    effect_pair depth (t.Throw e) σ n h ρ ρ' a W = then_pair call _ _ (value_pair depth e σ n h ρ ρ' a W) (λ v W1. throw call v W1)
    effect_pair depth (t.If c b o) σ n h ρ ρ' a W =
        let n1 = n + exp_count c in
        let n2 = n1 + stms_count b in
        let hc = here_left call (exp_frees true c) (stms_frees true b ++ option_stms_frees true o) h in
        let hm = here_right call n1 (exp_frees true c) (stms_frees true b ++ option_stms_frees true o) (omega arith) h in
        let hb = here_left call (stms_frees true b) (option_stms_frees true o) hm in
        let ho = here_right call n2 (stms_frees true b) (option_stms_frees true o) (omega arith) hm in
        then_pair call _ _ (value_pair depth c σ n hc ρ ρ' a W) (λ v W1.
        then_pair call _ _ (truth_pair call W1 v (effects_pair depth b σ n1 hb ρ ρ' a W1) (otherwise_pair depth o σ n2 ho ρ ρ' a W1)) (leave_pair call ρ ρ' a))
    effect_pair depth (t.While c b) σ n h ρ ρ' a W =
        let hc = here_left call (exp_frees true c) (stms_frees true b) h in
        let hb = here_right call (n + exp_count c) (exp_frees true c) (stms_frees true b) (omega arith) h in
        then_pair call _ _ (value_pair depth c σ n hc ρ ρ' a W) (λ v W1. truth_pair call W1 v
        (then_pair call _ _ (then_pair call _ _ (effects_pair depth b σ (n + exp_count c) hb ρ ρ' a W1) (leave_pair call ρ ρ' a)) (λ f W2. flow_pair call f W2 _ _ (λ ρ1 ρ1' a1. turn_pair call W2 (again depth (Loop c b) ρ1) (again' depth (Loop (exp_in call σ n c) (stms_in call σ (n + exp_count c) b)) ρ1') (ih.loop depth σ n c b h ρ1 ρ1' a1))))
        (go_on call ρ ρ' a W1))
    effect_pair depth (t.For s c r b) σ n h ρ ρ' a W =
        let τ = with_number (option_name_by s) n σ in
        let n1 = n + option_stm_count s in
        let n2 = n1 + option_exp_count c in
        let n3 = n2 + option_stm_count r in
        let rest = option_exp_frees true c ++ (option_stm_frees true r ++ stms_frees true b) in
        let hs = here_left call (option_stm_frees true s) (without_name (option_name_by s) rest) h in
        let hr0 = here_right call n (option_stm_frees true s) (without_name (option_name_by s) rest) (omega arith) h in
        let hi = here_later call n1 (named_within s n) (here_option call (option_name_by s) rest hr0) in
        let hc = here_left call (option_exp_frees true c) (option_stm_frees true r ++ stms_frees true b) hi in
        let hm = here_right call n2 (option_exp_frees true c) (option_stm_frees true r ++ stms_frees true b) (omega arith) hi in
        let hr = here_left call (option_stm_frees true r) (stms_frees true b) hm in
        let hb = here_right call n3 (option_stm_frees true r) (stms_frees true b) (omega arith) hm in
        then_pair call _ _ (then_pair call _ _ (begin_pair depth s σ n hs ρ ρ' a W) (λ f W1. flow_leaves call f W1 _ _ (λ ρ1 ρ1' a1.
        leaves call (for_pair call far again again' ih depth τ n1 c r b hi (condition fixed again depth c) (condition fixed again' depth (option_exp_in call τ n1 c))
        (effects fixed again depth b) (effects fixed again' depth (stms_in call τ n3 b)) (begin fixed again depth r) (begin fixed again' depth (option_stm_in call τ n2 r))
        (condition_pair depth c τ n1 hc) (effects_pair depth b τ n3 hb) (λ ρ2 ρ2' a2 W2. leaves call (begin_pair depth r τ n2 hr ρ2 ρ2' a2 W2)) ρ1 ρ1' a1 W1)))) (leave_pair call ρ ρ' a)
    effect_pair depth (t.ForIn k x e b) σ n h ρ ρ' a W =
        let n1 = n + option_count k in
        let m = suc n1 + exp_count e in
        let inner = without_name k (without x (stms_frees true b)) in
        let he = here_left call (exp_frees true e) inner h in
        let hi = here_right call n (exp_frees true e) inner (omega arith) h in
        let hb = here_later call m (omega arith) (here_named call x (stms_frees true b) (here_option call k (without x (stms_frees true b)) hi)) in
        then_pair call _ _ (value_pair depth e σ (suc n1) (here_later call (suc n1) (omega arith) he) ρ ρ' a W) (λ v W1. then_pair call _ _ (copied_pair call k x n n1 depth v W1) (λ t W2.
        over_pair call far again again' ih depth σ n m k x t (pos 1) b (omega arith) hi (λ ρ1 w3. effects fixed again depth b ρ1 w3) (λ ρ1 w3. effects fixed again' depth (stms_in call ((x, n1) ∷ with_number k n σ) m b) ρ1 w3)
        (effects_pair depth b ((x, n1) ∷ with_number k n σ) m hb) ρ ρ' a W2))
    effect_pair depth (t.Fun f ps b) σ n h ρ ρ' a W =
        let hi = here_named call f (without_all ps (stms_frees true b)) h in
        let ai = alike_named call far h a f (length W.store) in
        then_pair call _ _ (function_made call W ps (ManyStms b) ((f, n) ∷ σ) (suc n) hi ((f, length W.store) ∷ ρ) ((call n, length W.store) ∷ ρ') ai)
        (λ v W1. go_on call _ _ ai (record W1 { store = W1.store ++ v ∷ [] }))
    effect_pair depth (t.Try b x c) σ n h ρ ρ' a W =
        let n1 = n + stms_count b in
        let hb = here_left call (stms_frees true b) (without x (stms_frees true c)) h in
        let hr = here_right call n1 (stms_frees true b) (without x (stms_frees true c)) (omega arith) h in
        catch_pair call _ _ (then_pair call _ _ (effects_pair depth b σ n hb ρ ρ' a W) (leave_pair call ρ ρ' a))
        (λ v W1. then_pair call _ _ (effects_pair depth c ((x, n1) ∷ σ) (suc n1) (here_named call x (stms_frees true c) hr) ((x, length W1.store) ∷ ρ) ((call n1, length W1.store) ∷ ρ')
        (alike_named call far hr a x (length W1.store)) (record W1 { store = W1.store ++ v ∷ [] })) (leave_pair call ρ ρ' a))
    effect_pair depth (t.Block b) σ n h ρ ρ' a W = then_pair call _ _ (effects_pair depth b σ n h ρ ρ' a W) (leave_pair call ρ ρ' a)

    optional_pair : (depth : ℕ) (e : OptionExp) (σ : Env) (n : ℕ) → Here call σ n (option_exp_frees true e) → (ρ ρ' : Env) → Alike call σ ρ ρ' → (W : Worlds call)
        → SameValue call (optional fixed again depth e ρ (old_world call W)) (optional fixed again' depth (option_exp_in call σ n e) ρ' (new_world call W))
    optional_pair depth NoneExp σ n h ρ ρ' a W = give call _ W
    optional_pair depth (SomeExp e) σ n h ρ ρ' a W = value_pair depth e σ n h ρ ρ' a W

    otherwise_pair : (depth : ℕ) (o : OptionStms) (σ : Env) (n : ℕ) → Here call σ n (option_stms_frees true o) → (ρ ρ' : Env) → Alike call σ ρ ρ' → (W : Worlds call)
        → Leaves call (otherwise fixed again depth o ρ (old_world call W)) (otherwise fixed again' depth (option_stms_in call σ n o) ρ' (new_world call W))
    otherwise_pair depth NoneStms σ n h ρ ρ' a W = give call (BothLeave ρ ρ') W
    otherwise_pair depth (SomeStms b) σ n h ρ ρ' a W = effects_pair depth b σ n h ρ ρ' a W

    pub begin_pair : (depth : ℕ) (s : OptionStm) (σ : Env) (n : ℕ) → Here call σ n (option_stm_frees true s) → (ρ ρ' : Env) → Alike call σ ρ ρ' → (W : Worlds call)
        → Ends call (with_number (option_name_by s) n σ) (begin fixed again depth s ρ (old_world call W)) (begin fixed again' depth (option_stm_in call σ n s) ρ' (new_world call W))
    begin_pair depth NoneStm σ n h ρ ρ' a W = go_on call ρ ρ' a W
    begin_pair depth (SomeStm s) σ n h ρ ρ' a W = effect_pair depth s σ n h ρ ρ' a W

    pub condition_pair : (depth : ℕ) (c : OptionExp) (σ : Env) (n : ℕ) → Here call σ n (option_exp_frees true c) → (ρ ρ' : Env) → Alike call σ ρ ρ' → (W : Worlds call)
        → SameValue call (condition fixed again depth c ρ (old_world call W)) (condition fixed again' depth (option_exp_in call σ n c) ρ' (new_world call W))
    condition_pair depth NoneExp σ n h ρ ρ' a W = give call _ W
    condition_pair depth (SomeExp e) σ n h ρ ρ' a W = value_pair depth e σ n h ρ ρ' a W

    pub effects_pair : (depth : ℕ) (ss : Stms) (σ : Env) (n : ℕ) → Here call σ n (stms_frees true ss) → (ρ ρ' : Env) → Alike call σ ρ ρ' → (W : Worlds call)
        → Leaves call (effects fixed again depth ss ρ (old_world call W)) (effects fixed again' depth (stms_in call σ n ss) ρ' (new_world call W))
    effects_pair depth Done σ n h ρ ρ' a W = give call (BothLeave ρ ρ') W
    effects_pair depth (Then s ss) σ n h ρ ρ' a W =
        let rest = without_name (name_by s) (stms_frees true ss) in
        let hs = here_left call (stm_frees true s) rest h in
        let hr = here_right call n (stm_frees true s) rest (omega arith) h in
        let hm = here_later call (n + stm_count s) (stm_named_within s n) (here_option call (name_by s) (stms_frees true ss) hr) in
        then_pair call _ _ (effect_pair depth s σ n hs ρ ρ' a W) (λ f W1. flow_leaves call f W1 _ _ (λ ρ1 ρ1' a1. effects_pair depth ss (with_number (name_by s) n σ) (n + stm_count s) hm ρ1 ρ1' a1 W1))

  pub body_pair : (depth : ℕ) (b : Body) (σ : Env) (n : ℕ) → Here call σ n (body_frees b) → (ρ ρ' : Env) → Alike call σ ρ ρ' → (W : Worlds call)
      → Ends call σ (body_effect fixed again depth b ρ (old_world call W)) (body_effect fixed again' depth (body_in call σ n b) ρ' (new_world call W))
  body_pair depth (OneExp e) σ n h ρ ρ' a W = then_pair call _ _ (value_pair depth e σ n h ρ ρ' a W) (λ v W1. give call (BothReturn v) W1)
  body_pair depth (ManyStms ss) σ n h ρ ρ' a W = then_pair call _ _ (effects_pair depth ss σ n h ρ ρ' a W) (fall_pair call)

  -- further turns of loops
  pub for_again : (depth : ℕ) (c : OptionExp) (s : OptionStm) (b : Stms) (σ : Env) (n : ℕ) → Here call σ n (option_exp_frees true c ++ (option_stm_frees true s ++ stms_frees true b)) → (ρ ρ' : Env) → Alike call σ ρ ρ' → (W : Worlds call)
      → Ends call σ (run_for again depth c s b (condition fixed again depth c) (effects fixed again depth b) (begin fixed again depth s) ρ (old_world call W))
      (run_for again' depth (option_exp_in call σ n c) (option_stm_in call σ (n + option_exp_count c) s) (stms_in call σ (n + option_exp_count c + option_stm_count s) b)
      (condition fixed again' depth (option_exp_in call σ n c)) (effects fixed again' depth (stms_in call σ (n + option_exp_count c + option_stm_count s) b)) (begin fixed again' depth (option_stm_in call σ (n + option_exp_count c) s)) ρ' (new_world call W))
  for_again depth c s b σ n h ρ ρ' a W =
      let n1 = n + option_exp_count c in
      let n2 = n1 + option_stm_count s in
      let hc = here_left call (option_exp_frees true c) (option_stm_frees true s ++ stms_frees true b) h in
      let hm = here_right call n1 (option_exp_frees true c) (option_stm_frees true s ++ stms_frees true b) (omega arith) h in
      let hs = here_left call (option_stm_frees true s) (stms_frees true b) hm in
      let hb = here_right call n2 (option_stm_frees true s) (stms_frees true b) (omega arith) hm in
      for_pair call far again again' ih depth σ n c s b h (condition fixed again depth c) (condition fixed again' depth (option_exp_in call σ n c))
      (effects fixed again depth b) (effects fixed again' depth (stms_in call σ n2 b)) (begin fixed again depth s) (begin fixed again' depth (option_stm_in call σ n1 s))
      (condition_pair depth c σ n hc) (effects_pair depth b σ n2 hb) (λ ρ1 ρ1' a1 W1. leaves call (begin_pair depth s σ n1 hs ρ1 ρ1' a1 W1)) ρ ρ' a W

  pub over_again : (depth : ℕ) (σ : Env) (n m : ℕ) (k : Option Word) (x : Word) (v : Val × Val × ℤ) (i : ℤ) (b : Stms) → suc (n + option_count k) ≤ m → Here call σ n (without_name k (without x (stms_frees true b))) → (ρ ρ' : Env) → Alike call σ ρ ρ' → (W : Worlds call)
      → Ends call σ (run_over again depth (copies_of call k x v) i b (λ ρ1 w1. effects fixed again depth b ρ1 w1) ρ (old_world call W))
      (run_over again' depth (copies_of call (option_in call n k) (call (n + option_count k)) v) i (stms_in call ((x, n + option_count k) ∷ with_number k n σ) m b)
      (λ ρ1 w1. effects fixed again' depth (stms_in call ((x, n + option_count k) ∷ with_number k n σ) m b) ρ1 w1) ρ' (new_world call W))
  over_again depth σ n m k x v i b le h ρ ρ' a W =
      let hb = here_later call m le (here_named call x (stms_frees true b) (here_option call k (without x (stms_frees true b)) h)) in
      over_pair call far again again' ih depth σ n m k x v i b le h (λ ρ1 w1. effects fixed again depth b ρ1 w1) (λ ρ1 w1. effects fixed again' depth (stms_in call ((x, n + option_count k) ∷ with_number k n σ) m b) ρ1 w1)
      (effects_pair depth b ((x, n + option_count k) ∷ with_number k n σ) m hb) ρ ρ' a W
