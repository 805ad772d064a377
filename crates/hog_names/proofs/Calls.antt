-- Natives and calls in both runs.
use Rattle.std.proofs.Common.{◌≡◌, ℕ, suc, ◌+◌, ◌≤◌, ℤ, List, [], ◌∷◌, ◌++◌, length, true, Option, Some, None, refl, ap, ap₂}
use Rattle.std.specs.Prelude.{◌&&◌, nat_lt, nat_le, slice_get, option_map, count_by}
use Rattle.std.proofs.lemmas.Option.{slice_get-map}
use Rattle.hog_value.specs.declared.value.Kind.TheVariants.{TypeError, ArgumentError}
use Rattle.hog_value.specs.declared.native.Native.{Native}
use Rattle.hog_value.specs.declared.native.Native.TheVariants.{Keys, Values, Length}
use Rattle.hog_value.specs.declared.trace.TraceItem.TheVariants.{Printed, Asked}
use Rattle.hog_value.specs.Values.{Val}
use Rattle.hog_value.specs.declared.value.Value.TheVariants.{Null, Bool as Truth, Int, Ref}
use Rattle.hog_value.specs.Meters.{max_turns, max_depth}
use Rattle.hog_value.specs.Natives.{native_named}
use Rattle.hog_value.specs.Cells.{CellOf, Text, Array, Dict, Fun, cell_map}
use Rattle.hog_library.specs.Called.{called, called_map}
use Rattle.hog_library.specs.Called as native
use Rattle.hog_library.specs.Cells.{response}
use Rattle.hog_library.proofs.Naturality.{response-heap_map}
use Rattle.hog_library.proofs.CalledNaturality.{called-heap_map}
use Rattle.hog_tree.specs.Plain.{Word, Exp, Body, Stms, OptionExp, OptionStm}
use Rattle.hog_captures.specs.Frees.{without, without_all, without_name, exp_frees, body_frees, stms_frees, option_exp_frees, option_stm_frees}
use Rattle.hog_meaning.specs.Meaning.{Effect, Copies, Loop, LoopWithStep, LoopOver, Call, replied, of_native, most_requests, is_request, is_fetch, call_native, call_word, bind, of_body, enter, call_function, call_cell, call_value, call_named, keys_copied, copied, number_in}
use Rattle.hog_meaning.specs.World.{Env, Closure, Reply, World, and_then, spent_at}
use Rattle.hog_names.specs.Anew.{Naming}
use Rattle.hog_names.specs.Numbers.{option_count, exp_count, option_exp_count, option_stm_count, with_number, with_numbers}
use Rattle.hog_names.proofs.Within.{names_in, option_in, exp_in, body_in, stms_in, option_exp_in, option_stm_in}
use Rattle.hog_names.proofs.Sights.{AreApart, Here, Alike, here_named, here_params, alike_named}
use Rattle.hog_names.proofs.Twins.{Twin, older, newer, Worlds, old_world, new_world, Pair, give, wait, spend, pair_so, then_pair, choice, throws_pair, outcome_pair, turn_pair, Ends, SameValue, of_body_pair}

module _ (call : Naming) where
  first_pair : (rs : List Reply) (W : Worlds call) → SameValue call (replied rs (old_world call W)) (replied rs (new_world call W))
  first_pair [] W = wait call W
  first_pair (r ∷ rs) W =
      outcome_pair call (response r.status r.body W.heap W.units) (record W { replies = rs })
      (response-heap_map (older call) r.status r.body W.heap W.units) (response-heap_map (newer call) r.status r.body W.heap W.units)

  native_pair : (c : native.Called (Twin call)) (W : Worlds call) → SameValue call (of_native (called_map (older call) c) (old_world call W)) (of_native (called_map (newer call) c) (new_world call W))
  native_pair (native.Gives v h m) W = give call v (record W { heap = h; turns = m.turns; units = m.units })
  native_pair (native.Prints text m) W = give call Null (record W { turns = m.turns; units = m.units; trace = W.trace ++ Printed text ∷ [] })
  native_pair (native.Throws kind) W = throws_pair call kind W
  native_pair (native.Asks request m) W = first_pair W.replies (record W { turns = m.turns; units = m.units; trace = W.trace ++ Asked request ∷ [] })
  native_pair native.TurnsSpent W = spend call _ W
  native_pair native.UnitsSpent W = spend call _ W

  pub call_native_pair : (depth : ℕ) (n : Native) (vs : List Val) (W : Worlds call) → SameValue call (call_native depth n vs (old_world call W)) (call_native depth n vs (new_world call W))
  unfolding call_native
  call_native_pair depth n vs W =
      choice call (is_fetch n && nat_le most_requests (count_by is_request W.trace)) refl refl (spend call _ W)
      (pair_so call (ap (λ c. of_native c (old_world call W)) (called-heap_map (older call) n vs W.heap (spent_at depth (old_world call W))))
      (ap (λ c. of_native c (new_world call W)) (called-heap_map (newer call) n vs W.heap (spent_at depth (new_world call W))))
      (native_pair (called n vs W.heap (spent_at depth (old_world call W))) W))

  word_pair : (depth : ℕ) (o : Option Native) (vs : List Val) (W : Worlds call) → SameValue call (call_word depth o vs (old_world call W)) (call_word depth o vs (new_world call W))
  word_pair depth None vs W = throws_pair call TypeError W
  word_pair depth (Some n) vs W = call_native_pair depth n vs W

  -- the copies of a loop over values
  abbrev pub copies_of : Option Word → Word → Val × Val × ℤ → Copies
  copies_of k x t = record { key = k; value = x; keys = t.0; values = t.1; size = t.2 }

  keys_pair : (k : Option Word) (n depth : ℕ) (v : Val) (W : Worlds call) → SameValue call (keys_copied k depth v (old_world call W)) (keys_copied (option_in call n k) depth v (new_world call W))
  keys_pair None n depth v W = give call Null W
  keys_pair (Some k) n depth v W = call_native_pair depth Keys (v ∷ []) W

  pub copied_pair : (k : Option Word) (x : Word) (n m depth : ℕ) (v : Val) (W : Worlds call)
      → Pair call (copies_of k x) (copies_of (option_in call n k) (call m)) (copied k x depth v (old_world call W)) (copied (option_in call n k) (call m) depth v (new_world call W))
  copied_pair k x n m depth v W =
      then_pair call _ _ (keys_pair k n depth v W) (λ keys W1.
      then_pair call _ _ (call_native_pair depth Values (v ∷ []) W1) (λ values W2.
      then_pair call _ _ (call_native_pair depth Length (values ∷ []) W2) (λ size W3. give call (keys, values, number_in size) W3)))

  names_length : (n : ℕ) (ps : List Word) → length (names_in call n ps) ≡ length ps
  names_length n [] = refl
  names_length n (p ∷ ps) = ap suc (names_length (suc n) ps)

  module _ (far : AreApart call) where
    -- new variables for the parameters
    record Bound (σ : Env) (p q : Env × World) : Type 0 where
      old : Env
      new : Env
      worlds : Worlds call
      alike : Alike call σ old new
      old_is : p ≡ (old, old_world call worlds)
      new_is : q ≡ (new, new_world call worlds)

    bind_pair : {σ : Env} {n : ℕ} (ps ws : List Word) (vs : List Val) (ρ ρ' : Env) (W : Worlds call) → Here call σ n (without_all ps ws) → Alike call σ ρ ρ'
        → Bound (with_numbers ps n σ) (bind ps vs ρ (old_world call W)) (bind (names_in call n ps) vs ρ' (new_world call W))
    bind_pair [] ws vs ρ ρ' W h a = record { old = ρ; new = ρ'; worlds = W; alike = a; old_is = refl; new_is = refl }
    bind_pair {σ} {n} (p ∷ ps) ws [] ρ ρ' W h a =
        bind_pair ps ws [] ((p, length W.store) ∷ ρ) ((call n, length W.store) ∷ ρ') (record W { store = W.store ++ Null ∷ [] })
        (here_named call p (without_all ps ws) h) (alike_named call far h a p (length W.store))
    bind_pair {σ} {n} (p ∷ ps) ws (v ∷ vs) ρ ρ' W h a =
        bind_pair ps ws vs ((p, length W.store) ∷ ρ) ((call n, length W.store) ∷ ρ') (record W { store = W.store ++ v ∷ [] })
        (here_named call p (without_all ps ws) h) (alike_named call far h a p (length W.store))

    -- what costs a turn does the same in both
    pub record Good (again again' : Effect) : Type 0 where
      pub calls : (depth : ℕ) (σ : Env) (n : ℕ) (b : Body) → Here call σ n (body_frees b) → (ρ ρ' : Env) → Alike call σ ρ ρ' → (W : Worlds call)
          → Ends call σ (again depth (Call b) ρ (old_world call W)) (again' depth (Call (body_in call σ n b)) ρ' (new_world call W))
      pub loop : (depth : ℕ) (σ : Env) (n : ℕ) (c : Exp) (b : Stms) → Here call σ n (exp_frees true c ++ stms_frees true b) → (ρ ρ' : Env) → Alike call σ ρ ρ' → (W : Worlds call)
          → Ends call σ (again depth (Loop c b) ρ (old_world call W)) (again' depth (Loop (exp_in call σ n c) (stms_in call σ (n + exp_count c) b)) ρ' (new_world call W))
      pub with_step : (depth : ℕ) (σ : Env) (n : ℕ) (c : OptionExp) (s : OptionStm) (b : Stms) → Here call σ n (option_exp_frees true c ++ (option_stm_frees true s ++ stms_frees true b)) → (ρ ρ' : Env) → Alike call σ ρ ρ' → (W : Worlds call)
          → Ends call σ (again depth (LoopWithStep c s b) ρ (old_world call W))
          (again' depth (LoopWithStep (option_exp_in call σ n c) (option_stm_in call σ (n + option_exp_count c) s) (stms_in call σ (n + option_exp_count c + option_stm_count s) b)) ρ' (new_world call W))
      pub over : (depth : ℕ) (σ : Env) (n m : ℕ) (k : Option Word) (x : Word) (t : Val × Val × ℤ) (i : ℤ) (b : Stms) → suc (n + option_count k) ≤ m → Here call σ n (without_name k (without x (stms_frees true b))) → (ρ ρ' : Env) → Alike call σ ρ ρ' → (W : Worlds call)
          → Ends call σ (again depth (LoopOver (copies_of k x t) i b) ρ (old_world call W))
          (again' depth (LoopOver (copies_of (option_in call n k) (call (n + option_count k)) t) i (stms_in call ((x, n + option_count k) ∷ with_number k n σ) m b)) ρ' (new_world call W))

    module _ (again again' : Effect) (ih : Good again again') where
      -- the new function, by the old one
      abbrev anew : Twin call → Closure
      anew t = record {
        params = names_in call t.next t.old.params;
        body = body_in call (with_numbers t.old.params t.next t.sight) (t.next + length t.old.params) t.old.body;
        env = t.new.env;
      }

      new_is_anew : (t : Twin call) → t.new ≡ anew t
      new_is_anew t = ap₂ (λ p b. record { params = p; body = b; env = t.new.env }) t.params t.body

      enter_pair : (depth : ℕ) (t : Twin call) (vs : List Val) (W : Worlds call) → SameValue call (enter again depth t.old vs (old_world call W)) (enter again' depth (anew t) vs (new_world call W))
      enter_pair depth t vs W =
          let b = bind_pair t.old.params (body_frees t.old.body) vs t.old.env t.new.env W t.here t.env in
          let h = here_params call t.old.params (body_frees t.old.body) t.here in
          pair_so call (ap (λ (z : Env × World). and_then (again (suc depth) (Call t.old.body) z.0 z.1) of_body) b.old_is)
          (ap (λ (z : Env × World). and_then (again' (suc depth) (Call (anew t).body) z.0 z.1) of_body) b.new_is)
          (then_pair call _ _ (ih.calls (suc depth) (with_numbers t.old.params t.next t.sight) (t.next + length t.old.params) t.old.body h b.old b.new b.alike b.worlds) (of_body_pair call))

      function_pair : (depth : ℕ) (t : Twin call) (vs : List Val) (W : Worlds call) → SameValue call (call_function again depth t.old vs (old_world call W)) (call_function again' depth t.new vs (new_world call W))
      function_pair depth t vs W =
          pair_so call refl (ap (λ f. call_function again' depth f vs (new_world call W)) (new_is_anew t))
          (choice call (nat_lt (length t.old.params) (length vs)) refl (ap (λ n. nat_lt n (length vs)) (names_length t.next t.old.params)) (throws_pair call ArgumentError W)
          (choice call (nat_lt depth max_depth) refl refl (turn_pair call W (enter again depth t.old vs) (enter again' depth (anew t) vs) (enter_pair depth t vs))
          (choice call (nat_lt W.turns max_turns) refl refl (spend call _ W) (spend call _ W))))

      cell_pair : (depth : ℕ) (c : Option (CellOf (Twin call))) (vs : List Val) (W : Worlds call)
          → SameValue call (call_cell again depth (option_map (cell_map (older call)) c) vs (old_world call W)) (call_cell again' depth (option_map (cell_map (newer call)) c) vs (new_world call W))
      cell_pair depth None vs W = throws_pair call TypeError W
      cell_pair depth (Some (Text text)) vs W = throws_pair call TypeError W
      cell_pair depth (Some (Array items)) vs W = throws_pair call TypeError W
      cell_pair depth (Some (Dict pairs)) vs W = throws_pair call TypeError W
      cell_pair depth (Some (Fun t)) vs W = function_pair depth t vs W

      pub value_called_pair : (depth : ℕ) (v : Val) (vs : List Val) (W : Worlds call) → SameValue call (call_value again depth v vs (old_world call W)) (call_value again' depth v vs (new_world call W))
      value_called_pair depth Null vs W = throws_pair call TypeError W
      value_called_pair depth (Truth b) vs W = throws_pair call TypeError W
      value_called_pair depth (Int z) vs W = throws_pair call TypeError W
      value_called_pair depth (Ref n) vs W =
          pair_so call (ap (λ c. call_cell again depth c vs (old_world call W)) (slice_get-map (cell_map (older call)) W.heap n))
          (ap (λ c. call_cell again' depth c vs (new_world call W)) (slice_get-map (cell_map (newer call)) W.heap n))
          (cell_pair depth (slice_get W.heap n) vs W)

      -- a word that names no variable
      pub native_called_pair : (depth : ℕ) (word : Word) (vs : List Val) (W : Worlds call) → SameValue call (call_named again depth None word vs (old_world call W)) (call_named again' depth None word vs (new_world call W))
      native_called_pair depth word vs W = word_pair depth (native_named word) vs W
