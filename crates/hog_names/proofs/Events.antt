-- A program with its variables called anew is without fault of names too, with the same items and the same literal texts.
use Rattle.std.proofs.Common.{◌≡◌, ℕ, suc, ◌+◌, List, [], ◌∷◌, ◌++◌, length, Option, Some, None, true, Result, Ok, Err, refl, sym, ap, ◌∙◌, subst, append_assoc, append-nil, add-zero, arith}
use Rattle.hog_tree.specs.Plain.{Word, Exp, Exps, Parts, Pairs, Body, Stm, Stms, OptionExp, OptionStm, OptionStms, Int, Truth, Null, Text, Template, Name, Array, Dict, Neg, Not, Binary, Coalesce, Prop, PropNullish, Index, Call, Lambda, NoExp, MoreExp, NoPart, MoreText, MoreHole, NoPair, MorePair, OneExp, ManyStms, Let, Assign, Do, Return, Throw, If, While, For, ForIn, Fun, Try, Block, Done, Then, NoneExp, SomeExp, NoneStm, SomeStm, NoneStms, SomeStms}
use Rattle.hog_captures.specs.Frees.{without, without_all, without_name, name_by, option_name_by, exp_frees, exps_frees, parts_frees, pairs_frees, body_frees, stm_frees, stms_frees, option_exp_frees, option_stm_frees, option_stms_frees}
use Rattle.hog_scope.specs.declared.item.Item.{Item}
use Rattle.hog_scope.specs.declared.item.Item.TheVariants as item
use Rattle.hog_scope.specs.Words.{Event, Declares, Binds, declares, binds, count_of, callee, target, exp_words, exps_words, parts_words, pairs_words, body_words, stm_words, stms_words, option_exp_words, option_stm_words, option_step_words, option_stms_words}
use Rattle.hog_scope.specs.Literals.{texts_of, in_byte_order}
use Rattle.hog_scope.specs.Scopes.{Known, Fault, start, run, items_at, items_of}
use Rattle.hog_scope.proofs.Closed.{KeepsScopes, exp_closed, option_exp_closed}
use Rattle.hog_meaning.specs.World.{Env}
use Rattle.hog_meaning.specs.Program.{texts_by, texts_in}
use Rattle.hog_names.specs.Anew.{Naming}
use Rattle.hog_names.specs.Numbers.{option_count, exp_count, exps_count, parts_count, pairs_count, body_count, stm_count, stms_count, option_exp_count, option_stm_count, option_stms_count, with_number, with_numbers, option_items, callee_items, exp_items, exps_items, parts_items, pairs_items, body_items, stm_items, stms_items, option_exp_items, option_stm_items, option_stms_items}
use Rattle.hog_names.proofs.Found.{Part, then_part, spells, let_part, let_both, scope_part, declared_part, params_part}
use Rattle.hog_names.proofs.Items.{callee_part, target_part, exp_part, stm_part, stms_part, option_exp_part, option_stm_part, option_step_part}
use Rattle.hog_names.proofs.Within.{names_in, option_in, exp_in, exps_in, parts_in, pairs_in, body_in, stm_in, stms_in, option_exp_in, option_stm_in, option_stms_in}
use Rattle.hog_names.proofs.Sights.{AreApart, Here, Alike, here_left, here_right, here_later, here_named, here_option, here_params, alike_none, alike_named}
use Rattle.hog_names.proofs.Runs.{looked, stm_named_within, named_within}
use Rattle.hog_names.proofs.Again.{Again, then_again, nothing_again, again_count, again_items, again_events, none_again, reads_again, assigns_again, calls_again, spells_again, scope_again, let_again, both_again, declared_again, params_again}

module _ (call : Naming) (far : AreApart call) where
  -- the new names are in sight where the old ones are
  abbrev Beside : Env → Env → Type 0
  Beside σ σ' = Alike call σ σ σ'

  beside_option : {σ σ' : Env} {n : ℕ} {ws : List Word} (o : Option Word) → Here call σ n ws → Beside σ σ' → Beside (with_number o n σ) (with_number (option_in call n o) n σ')
  beside_option None h a = a
  beside_option {n = n} (Some w) h a = alike_named call far h a w n

  beside_params : (ps ws : List Word) {σ σ' : Env} {n : ℕ} → Here call σ n (without_all ps ws) → Beside σ σ' → Beside (with_numbers ps n σ) (with_numbers (names_in call n ps) n σ')
  beside_params [] ws h a = a
  beside_params (p ∷ ps) ws {n = n} h a = beside_params ps ws (here_named call p (without_all ps ws) h) (alike_named call far h a p n)

  count_same : (σ : Env) (n : ℕ) (xs : Exps) → count_of (exps_in call σ n xs) ≡ count_of xs
  count_same σ n NoExp = refl
  count_same σ n (MoreExp x xs) = ap suc (count_same σ (n + exp_count x) xs)

  named_same : (σ : Env) (n : ℕ) (s : Stm) → name_by (stm_in call σ n s) ≡ option_in call n (name_by s)
  named_same σ n (Let w x) = refl
  named_same σ n (Assign x y) = refl
  named_same σ n (Do x) = refl
  named_same σ n (Return x) = refl
  named_same σ n (Throw x) = refl
  named_same σ n (If c b o) = refl
  named_same σ n (While c b) = refl
  named_same σ n (For a c s b) = refl
  named_same σ n (ForIn k v x b) = refl
  named_same σ n (Fun w ps b) = refl
  named_same σ n (Try b w c) = refl
  named_same σ n (Block b) = refl

  -- the new names in sight after statements
  abbrev stms_after : Env → Env → ℕ → Stms → Env
  stms_after σ σ' n Done = σ'
  stms_after σ σ' n (Then s ss) = stms_after (with_number (name_by s) n σ) (with_number (option_in call n (name_by s)) n σ') (n + stm_count s) ss

  abbrev body_after : Env → Env → ℕ → Body → Env
  body_after σ σ' n (OneExp x) = σ'
  body_after σ σ' n (ManyStms ss) = stms_after σ σ' n ss

  callee_again : {σ σ' : Env} {i j : ℕ} (f : Exp) (n : ℕ) → i + exp_count f ≡ j → Here call σ i (exp_frees true f) → Beside σ σ' → Again call σ σ' i σ' j (exp_words f) (exp_words (exp_in call σ i f)) (exp_items σ i f)
      → Again call σ σ' i σ' j (callee f n (exp_words f)) (callee (exp_in call σ i f) n (exp_words (exp_in call σ i f))) (callee_items σ f (exp_items σ i f))
  callee_again (Int _) n e h b a = a
  callee_again (Truth _) n e h b a = a
  callee_again Null n e h b a = a
  callee_again (Text _) n e h b a = a
  callee_again (Template _) n e h b a = a
  callee_again {i = i} (Name w) n e h b a = again_count call (sym (add-zero i) ∙ e) (calls_again call n (looked call w h b))
  callee_again (Array _) n e h b a = a
  callee_again (Dict _) n e h b a = a
  callee_again (Neg _) n e h b a = a
  callee_again (Not _) n e h b a = a
  callee_again (Binary _ _ _) n e h b a = a
  callee_again (Coalesce _ _) n e h b a = a
  callee_again (Prop _ _) n e h b a = a
  callee_again (PropNullish _ _) n e h b a = a
  callee_again (Index _ _) n e h b a = a
  callee_again (Call _ _) n e h b a = a
  callee_again (Lambda _ _) n e h b a = a

  target_again : {σ σ' : Env} {i j : ℕ} (x : Exp) → i + exp_count x ≡ j → Here call σ i (exp_frees true x) → Beside σ σ' → Again call σ σ' i σ' j (exp_words x) (exp_words (exp_in call σ i x)) (exp_items σ i x)
      → Again call σ σ' i σ' j (target x (exp_words x)) (target (exp_in call σ i x) (exp_words (exp_in call σ i x))) (exp_items σ i x)
  target_again (Int _) e h b a = a
  target_again (Truth _) e h b a = a
  target_again Null e h b a = a
  target_again (Text _) e h b a = a
  target_again (Template _) e h b a = a
  target_again {i = i} (Name w) e h b a = again_count call (sym (add-zero i) ∙ e) (assigns_again call (looked call w h b))
  target_again (Array _) e h b a = a
  target_again (Dict _) e h b a = a
  target_again (Neg _) e h b a = a
  target_again (Not _) e h b a = a
  target_again (Binary _ _ _) e h b a = a
  target_again (Coalesce _ _) e h b a = a
  target_again (Prop _ _) e h b a = a
  target_again (PropNullish _ _) e h b a = a
  target_again (Index _ _) e h b a = a
  target_again (Call _ _) e h b a = a
  target_again (Lambda _ _) e h b a = a

  -- the names of a `for .. in`
  abbrev OneAgain : (σ σ' τ' : Env) (i j l : ℕ) (v : Word) (es es' fs fs' : List Event) (is js : List Item) → ℕ → Type 0
  OneAgain σ σ' τ' i j l v es es' fs fs' is js m = Part σ (suc m) σ j es is → Again call σ σ' (suc m) σ' j es es' is → Again call ((v, m) ∷ σ) ((call m, m) ∷ σ') j τ' l fs fs' js
      → Again call σ σ' i τ' l (Declares v ∷ ((es ++ []) ++ Binds v ∷ fs)) (Declares (call m) ∷ ((es' ++ []) ++ Binds (call m) ∷ fs')) (item.Declared m ∷ (is ++ js))

  abbrev TwoAgain : (σ σ' τ' : Env) (i j l : ℕ) (u v : Word) (es es' fs fs' : List Event) (is js : List Item) → ℕ → Type 0
  TwoAgain σ σ' τ' i j l u v es es' fs fs' is js m = Part σ (suc m) σ j es is → Again call σ σ' (suc m) σ' j es es' is → Again call ((v, m) ∷ (u, i) ∷ σ) ((call m, m) ∷ (call i, i) ∷ σ') j τ' l fs fs' js
      → Again call σ σ' i τ' l (Declares u ∷ Declares v ∷ ((es ++ Binds u ∷ []) ++ Binds v ∷ fs)) (Declares (call i) ∷ Declares (call m) ∷ ((es' ++ Binds (call i) ∷ []) ++ Binds (call m) ∷ fs')) (item.Declared i ∷ item.Declared m ∷ (is ++ js))

  names_again : {σ σ' τ' : Env} {i j l : ℕ} (k : Option Word) (v : Word) (m : ℕ) {es es' fs fs' : List Event} {is js : List Item} → i + option_count k ≡ m → KeepsScopes es → KeepsScopes es' → Part σ (suc m) σ j es is
      → Again call σ σ' (suc m) σ' j es es' is → Again call ((v, m) ∷ with_number k i σ) ((call m, m) ∷ with_number (option_in call i k) i σ') j τ' l fs fs' js
      → Again call σ σ' i τ' l (declares k ++ Declares v ∷ es ++ binds k ++ Binds v ∷ fs) (declares (option_in call i k) ++ Declares (call m) ∷ es' ++ binds (option_in call i k) ++ Binds (call m) ∷ fs') (option_items k i ++ item.Declared m ∷ is ++ js)
  names_again {σ} {σ'} {τ'} {i} {j} {l} None v m {es} {es'} {fs} {fs'} {is} {js} e kept kept' = subst (OneAgain σ σ' τ' i j l v es es' fs fs' is js) (sym (add-zero i) ∙ e) single
    where
      single : OneAgain σ σ' τ' i j l v es es' fs fs' is js i
      single p a b =
          again_events call (ap (λ z. Declares v ∷ z) (append_assoc es (Binds v ∷ []) fs ∙ ap (λ z. z ++ Binds v ∷ fs) (sym (append-nil es))))
          (ap (λ z. Declares (call i) ∷ z) (append_assoc es' (Binds (call i) ∷ []) fs' ∙ ap (λ z. z ++ Binds (call i) ∷ fs') (sym (append-nil es'))))
          (then_again call (let_part v kept p) (let_again call far v kept' a) b)
  names_again {σ} {σ'} {τ'} {i} {j} {l} (Some u) v m {es} {es'} {fs} {fs'} {is} {js} e kept kept' = subst (TwoAgain σ σ' τ' i j l u v es es' fs fs' is js) next double
    where
      next : suc i ≡ m
      next = omega (arith, e)

      double : TwoAgain σ σ' τ' i j l u v es es' fs fs' is js (suc i)
      double p a b =
          again_events call (ap (λ z. Declares u ∷ Declares v ∷ z) (append_assoc (es ++ Binds u ∷ []) (Binds v ∷ []) fs)) (ap (λ z. Declares (call i) ∷ Declares (call (suc i)) ∷ z) (append_assoc (es' ++ Binds (call i) ∷ []) (Binds (call (suc i)) ∷ []) fs'))
          (then_again call (let_both u v kept p) (both_again call far u v kept' a) b)

  mutual
    exp_again : (σ σ' : Env) (i : ℕ) (x : Exp) → Here call σ i (exp_frees true x) → Beside σ σ' → Again call σ σ' i σ' (i + exp_count x) (exp_words x) (exp_words (exp_in call σ i x)) (exp_items σ i x)
    exp_again σ σ' i (Int n) h b = none_again call (nothing_again call)
    exp_again σ σ' i (Truth t) h b = none_again call (nothing_again call)
    exp_again σ σ' i Null h b = none_again call (nothing_again call)
    exp_again σ σ' i (Text t) h b = none_again call (spells_again call t)
    exp_again σ σ' i (Template ps) h b = parts_again σ σ' i ps h b
    exp_again σ σ' i (Name w) h b = none_again call (reads_again call (looked call w h b))
    exp_again σ σ' i (Array xs) h b = exps_again σ σ' i xs h b
    exp_again σ σ' i (Dict ds) h b = pairs_again σ σ' i ds h b
    exp_again σ σ' i (Neg x) h b = exp_again σ σ' i x h b
    exp_again σ σ' i (Not x) h b = exp_again σ σ' i x h b
    exp_again σ σ' i (Binary op x y) h b =
        let hx = here_left call (exp_frees true x) (exp_frees true y) h in
        let hy = here_right call (i + exp_count x) (exp_frees true x) (exp_frees true y) (omega arith) h in
        again_count call (omega arith) (then_again call (exp_part σ i x) (exp_again σ σ' i x hx b) (exp_again σ σ' (i + exp_count x) y hy b))
    exp_again σ σ' i (Coalesce x y) h b =
        let hx = here_left call (exp_frees true x) (exp_frees true y) h in
        let hy = here_right call (i + exp_count x) (exp_frees true x) (exp_frees true y) (omega arith) h in
        again_count call (omega arith) (then_again call (exp_part σ i x) (exp_again σ σ' i x hx b) (exp_again σ σ' (i + exp_count x) y hy b))
    exp_again σ σ' i (Prop x w) h b = again_items call (append-nil (exp_items σ i x)) (then_again call (exp_part σ i x) (exp_again σ σ' i x h b) (spells_again call w))
    exp_again σ σ' i (PropNullish x w) h b = again_items call (append-nil (exp_items σ i x)) (then_again call (exp_part σ i x) (exp_again σ σ' i x h b) (spells_again call w))
    exp_again σ σ' i (Index x y) h b =
        let hx = here_left call (exp_frees true x) (exp_frees true y) h in
        let hy = here_right call (i + exp_count x) (exp_frees true x) (exp_frees true y) (omega arith) h in
        again_count call (omega arith) (then_again call (exp_part σ i x) (exp_again σ σ' i x hx b) (exp_again σ σ' (i + exp_count x) y hy b))
    exp_again σ σ' i (Call f xs) h b =
        let n = i + exp_count f in
        let hf = here_left call (exp_frees true f) (exps_frees true xs) h in
        let hs = here_right call n (exp_frees true f) (exps_frees true xs) (omega arith) h in
        again_events call refl (ap (λ z. callee (exp_in call σ i f) z (exp_words (exp_in call σ i f)) ++ exps_words (exps_in call σ n xs)) (sym (count_same σ n xs)))
        (again_count call (omega arith)
        (then_again call (callee_part f (count_of xs) refl (exp_part σ i f)) (callee_again f (count_of xs) refl hf b (exp_again σ σ' i f hf b)) (exps_again σ σ' n xs hs b)))
    exp_again σ σ' i (Lambda ps c) h b =
        again_count call (omega arith)
        (scope_again call (then_again call (params_part ps) (params_again call far ps)
        (body_again (with_numbers ps i σ) (with_numbers (names_in call i ps) i σ') (i + length ps) c (here_params call ps (body_frees c) h) (beside_params ps (body_frees c) h b))))

    exps_again : (σ σ' : Env) (i : ℕ) (xs : Exps) → Here call σ i (exps_frees true xs) → Beside σ σ' → Again call σ σ' i σ' (i + exps_count xs) (exps_words xs) (exps_words (exps_in call σ i xs)) (exps_items σ i xs)
    exps_again σ σ' i NoExp h b = none_again call (nothing_again call)
    exps_again σ σ' i (MoreExp x xs) h b =
        let hx = here_left call (exp_frees true x) (exps_frees true xs) h in
        let hs = here_right call (i + exp_count x) (exp_frees true x) (exps_frees true xs) (omega arith) h in
        again_count call (omega arith) (then_again call (exp_part σ i x) (exp_again σ σ' i x hx b) (exps_again σ σ' (i + exp_count x) xs hs b))

    parts_again : (σ σ' : Env) (i : ℕ) (ps : Parts) → Here call σ i (parts_frees true ps) → Beside σ σ' → Again call σ σ' i σ' (i + parts_count ps) (parts_words ps) (parts_words (parts_in call σ i ps)) (parts_items σ i ps)
    parts_again σ σ' i NoPart h b = none_again call (nothing_again call)
    parts_again σ σ' i (MoreText t ps) h b = then_again call (spells t) (spells_again call t) (parts_again σ σ' i ps h b)
    parts_again σ σ' i (MoreHole x ps) h b =
        let hx = here_left call (exp_frees true x) (parts_frees true ps) h in
        let hs = here_right call (i + exp_count x) (exp_frees true x) (parts_frees true ps) (omega arith) h in
        again_count call (omega arith) (then_again call (exp_part σ i x) (exp_again σ σ' i x hx b) (parts_again σ σ' (i + exp_count x) ps hs b))

    pairs_again : (σ σ' : Env) (i : ℕ) (ds : Pairs) → Here call σ i (pairs_frees true ds) → Beside σ σ' → Again call σ σ' i σ' (i + pairs_count ds) (pairs_words ds) (pairs_words (pairs_in call σ i ds)) (pairs_items σ i ds)
    pairs_again σ σ' i NoPair h b = none_again call (nothing_again call)
    pairs_again σ σ' i (MorePair k x ds) h b =
        let n1 = i + exp_count k in
        let n2 = n1 + exp_count x in
        let hk = here_left call (exp_frees true k) (exp_frees true x ++ pairs_frees true ds) h in
        let hm = here_right call n1 (exp_frees true k) (exp_frees true x ++ pairs_frees true ds) (omega arith) h in
        let hx = here_left call (exp_frees true x) (pairs_frees true ds) hm in
        let hs = here_right call n2 (exp_frees true x) (pairs_frees true ds) (omega arith) hm in
        again_count call (omega arith)
        (then_again call (then_part (exp_part σ i k) (exp_part σ n1 x)) (then_again call (exp_part σ i k) (exp_again σ σ' i k hk b) (exp_again σ σ' n1 x hx b)) (pairs_again σ σ' n2 ds hs b))

    body_again : (σ σ' : Env) (i : ℕ) (c : Body) → Here call σ i (body_frees c) → Beside σ σ' → Again call σ σ' i (body_after σ σ' i c) (i + body_count c) (body_words c) (body_words (body_in call σ i c)) (body_items σ i c)
    body_again σ σ' i (OneExp x) h b = exp_again σ σ' i x h b
    body_again σ σ' i (ManyStms ss) h b = stms_again σ σ' i ss h b

    stm_again : (σ σ' : Env) (i : ℕ) (x : Stm) → Here call σ i (stm_frees true x) → Beside σ σ'
        → Again call σ σ' i (with_number (option_in call i (name_by x)) i σ') (i + stm_count x) (stm_words x) (stm_words (stm_in call σ i x)) (stm_items σ i x)
    stm_again σ σ' i (Let w x) h b =
        again_count call (omega arith) (let_again call far w (option_exp_closed (option_exp_in call σ (suc i) x)) (option_exp_again σ σ' (suc i) x (here_later call (suc i) (omega arith) h) b))
    stm_again σ σ' i (Assign x y) h b =
        let hx = here_left call (exp_frees true x) (exp_frees true y) h in
        let hy = here_right call (i + exp_count x) (exp_frees true x) (exp_frees true y) (omega arith) h in
        again_count call (omega arith)
        (then_again call (target_part x refl (exp_part σ i x)) (target_again x refl hx b (exp_again σ σ' i x hx b)) (exp_again σ σ' (i + exp_count x) y hy b))
    stm_again σ σ' i (Do x) h b = exp_again σ σ' i x h b
    stm_again σ σ' i (Return x) h b = option_exp_again σ σ' i x h b
    stm_again σ σ' i (Throw x) h b = exp_again σ σ' i x h b
    stm_again σ σ' i (If c t o) h b =
        let n1 = i + exp_count c in
        let n2 = n1 + stms_count t in
        let hc = here_left call (exp_frees true c) (stms_frees true t ++ option_stms_frees true o) h in
        let hm = here_right call n1 (exp_frees true c) (stms_frees true t ++ option_stms_frees true o) (omega arith) h in
        let ht = here_left call (stms_frees true t) (option_stms_frees true o) hm in
        let ho = here_right call n2 (stms_frees true t) (option_stms_frees true o) (omega arith) hm in
        again_count call (omega arith)
        (then_again call (then_part (exp_part σ i c) (scope_part (stms_part σ n1 t))) (then_again call (exp_part σ i c) (exp_again σ σ' i c hc b) (scope_again call (stms_again σ σ' n1 t ht b))) (option_stms_again σ σ' n2 o ho b))
    stm_again σ σ' i (While c t) h b =
        let hc = here_left call (exp_frees true c) (stms_frees true t) h in
        let ht = here_right call (i + exp_count c) (exp_frees true c) (stms_frees true t) (omega arith) h in
        again_count call (omega arith) (then_again call (exp_part σ i c) (exp_again σ σ' i c hc b) (scope_again call (stms_again σ σ' (i + exp_count c) t ht b)))
    stm_again σ σ' i (For a c r t) h b =
        let τ = with_number (option_name_by a) i σ in
        let τ' = with_number (option_in call i (option_name_by a)) i σ' in
        let i1 = i + option_stm_count a in
        let i2 = i1 + option_exp_count c in
        let i3 = i2 + option_stm_count r in
        let rest = option_exp_frees true c ++ (option_stm_frees true r ++ stms_frees true t) in
        let ha = here_left call (option_stm_frees true a) (without_name (option_name_by a) rest) h in
        let hr0 = here_right call i (option_stm_frees true a) (without_name (option_name_by a) rest) (omega arith) h in
        let hi = here_later call i1 (named_within a i) (here_option call (option_name_by a) rest hr0) in
        let bi = beside_option (option_name_by a) hr0 b in
        let hc = here_left call (option_exp_frees true c) (option_stm_frees true r ++ stms_frees true t) hi in
        let hm = here_right call i2 (option_exp_frees true c) (option_stm_frees true r ++ stms_frees true t) (omega arith) hi in
        let hr = here_left call (option_stm_frees true r) (stms_frees true t) hm in
        let ht = here_right call i3 (option_stm_frees true r) (stms_frees true t) (omega arith) hm in
        let first = option_stm_part σ i a in
        let second = option_exp_part τ i1 c in
        again_count call (omega arith)
        (scope_again call (then_again call (then_part (then_part first second) (option_step_part τ i2 r))
        (then_again call (then_part first second) (then_again call first (option_stm_again σ σ' i a ha b) (option_exp_again τ τ' i1 c hc bi)) (option_step_again τ τ' i2 r hr bi))
        (scope_again call (stms_again τ τ' i3 t ht bi))))
    stm_again σ σ' i (ForIn k v x t) h b =
        let n = i + option_count k in
        let m = suc n + exp_count x in
        let inner = without_name k (without v (stms_frees true t)) in
        let hx = here_left call (exp_frees true x) inner h in
        let hi = here_right call i (exp_frees true x) inner (omega arith) h in
        let hk = here_option call k (without v (stms_frees true t)) hi in
        let ht = here_later call m (omega arith) (here_named call v (stms_frees true t) hk) in
        let bt = alike_named call far hk (beside_option k hi b) v n in
        again_count call (omega arith)
        (scope_again call (names_again k v n refl (exp_closed x) (exp_closed (exp_in call σ (suc n) x)) (exp_part σ (suc n) x)
        (exp_again σ σ' (suc n) x (here_later call (suc n) (omega arith) hx) b)
        (scope_again call (stms_again ((v, n) ∷ with_number k i σ) ((call n, n) ∷ with_number (option_in call i k) i σ') m t ht bt))))
    stm_again σ σ' i (Fun w ps t) h b =
        let hi = here_named call w (without_all ps (stms_frees true t)) h in
        let bi = alike_named call far h b w i in
        again_count call (omega arith)
        (then_again call (declared_part w) (declared_again call far w)
        (scope_again call (then_again call (params_part ps) (params_again call far ps)
        (stms_again (with_numbers ps (suc i) ((w, i) ∷ σ)) (with_numbers (names_in call (suc i) ps) (suc i) ((call i, i) ∷ σ')) (suc i + length ps) t (here_params call ps (stms_frees true t) hi) (beside_params ps (stms_frees true t) hi bi)))))
    stm_again σ σ' i (Try t w c) h b =
        let n = i + stms_count t in
        let ht = here_left call (stms_frees true t) (without w (stms_frees true c)) h in
        let hr = here_right call n (stms_frees true t) (without w (stms_frees true c)) (omega arith) h in
        again_count call (omega arith)
        (then_again call (scope_part (stms_part σ i t)) (scope_again call (stms_again σ σ' i t ht b))
        (scope_again call (then_again call (declared_part w) (declared_again call far w)
        (scope_again call (stms_again ((w, n) ∷ σ) ((call n, n) ∷ σ') (suc n) c (here_named call w (stms_frees true c) hr) (alike_named call far hr b w n))))))
    stm_again σ σ' i (Block t) h b = scope_again call (stms_again σ σ' i t h b)

    stms_again : (σ σ' : Env) (i : ℕ) (ss : Stms) → Here call σ i (stms_frees true ss) → Beside σ σ' → Again call σ σ' i (stms_after σ σ' i ss) (i + stms_count ss) (stms_words ss) (stms_words (stms_in call σ i ss)) (stms_items σ i ss)
    stms_again σ σ' i Done h b = none_again call (nothing_again call)
    stms_again σ σ' i (Then x ss) h b =
        let rest = without_name (name_by x) (stms_frees true ss) in
        let hx = here_left call (stm_frees true x) rest h in
        let hr = here_right call i (stm_frees true x) rest (omega arith) h in
        let hs = here_later call (i + stm_count x) (stm_named_within x i) (here_option call (name_by x) (stms_frees true ss) hr) in
        again_count call (omega arith)
        (then_again call (stm_part σ i x) (stm_again σ σ' i x hx b)
        (stms_again (with_number (name_by x) i σ) (with_number (option_in call i (name_by x)) i σ') (i + stm_count x) ss hs (beside_option (name_by x) hr b)))

    option_exp_again : (σ σ' : Env) (i : ℕ) (x : OptionExp) → Here call σ i (option_exp_frees true x) → Beside σ σ' → Again call σ σ' i σ' (i + option_exp_count x) (option_exp_words x) (option_exp_words (option_exp_in call σ i x)) (option_exp_items σ i x)
    option_exp_again σ σ' i NoneExp h b = none_again call (nothing_again call)
    option_exp_again σ σ' i (SomeExp x) h b = exp_again σ σ' i x h b

    option_stm_again : (σ σ' : Env) (i : ℕ) (a : OptionStm) → Here call σ i (option_stm_frees true a) → Beside σ σ'
        → Again call σ σ' i (with_number (option_in call i (option_name_by a)) i σ') (i + option_stm_count a) (option_stm_words a) (option_stm_words (option_stm_in call σ i a)) (option_stm_items σ i a)
    option_stm_again σ σ' i NoneStm h b = none_again call (nothing_again call)
    option_stm_again σ σ' i (SomeStm x) h b = stm_again σ σ' i x h b

    -- a step is a scope of its own
    option_step_again : (σ σ' : Env) (i : ℕ) (a : OptionStm) → Here call σ i (option_stm_frees true a) → Beside σ σ'
        → Again call σ σ' i σ' (i + option_stm_count a) (option_step_words a) (option_step_words (option_stm_in call σ i a)) (option_stm_items σ i a)
    option_step_again σ σ' i NoneStm h b = none_again call (nothing_again call)
    option_step_again σ σ' i (SomeStm x) h b = scope_again call (stm_again σ σ' i x h b)

    option_stms_again : (σ σ' : Env) (i : ℕ) (o : OptionStms) → Here call σ i (option_stms_frees true o) → Beside σ σ' → Again call σ σ' i σ' (i + option_stms_count o) (option_stms_words o) (option_stms_words (option_stms_in call σ i o)) (option_stms_items σ i o)
    option_stms_again σ σ' i NoneStms h b = none_again call (nothing_again call)
    option_stms_again σ σ' i (SomeStms t) h b = scope_again call (stms_again σ σ' i t h b)

  -- a whole program
  pub record AnewToo (program : Stms) (items : List Item) : Type 0 where
    pub items_same : items_of (stms_in call [] 0 program) ≡ Ok items
    pub texts_same : texts_in (stms_in call [] 0 program) ≡ texts_in program

  pub program_again : (program : Stms) (items : List Item) → items_of program ≡ Ok items → Here call [] 0 (stms_frees true program) → items ≡ stms_items [] 0 program → AnewToo program items
  program_again program items is h found = by (run (stms_words program) start) refl is
    where
      by : (o : Result Known Fault) → run (stms_words program) start ≡ o → items_at o ≡ Ok items → AnewToo program items
      by (Err fault) ran e = absurd cc
      by (Ok k) ran e =
          let a = stms_again [] [] 0 program h (alike_none call) in
          let d = a.goes start k start (record { found = λ w. refl }) refl ran (record { found = λ w. refl }) refl (record { none = λ i lt. refl }, tt) in
          let new : items_of (stms_in call [] 0 program) ≡ Ok items = ap items_at d.ran ∙ ap Ok (d.went.items ∙ sym found) in
          let same : texts_of (stms_words program) items ≡ texts_of (stms_words (stms_in call [] 0 program)) items =
          subst (λ z. texts_of (stms_words program) z ≡ texts_of (stms_words (stms_in call [] 0 program)) z) (append-nil (stms_items [] 0 program) ∙ sym found)
          (ap (λ z. texts_of z (stms_items [] 0 program ++ [])) (sym (append-nil (stms_words program))) ∙ a.texts [] [] [] refl ∙ ap (λ z. texts_of z (stms_items [] 0 program ++ [])) (append-nil (stms_words (stms_in call [] 0 program)))) in
          record {
            items_same = new;
            texts_same = ap (texts_by (stms_in call [] 0 program)) new ∙ ap in_byte_order (sym same) ∙ sym (ap (texts_by program) is);
          }
