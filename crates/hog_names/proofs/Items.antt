-- The items of a program whose names are without fault are those that environments find.
use Rattle.std.proofs.Common.{◌≡◌, ℕ, suc, ◌+◌, List, [], ◌∷◌, ◌++◌, length, Option, Some, None, Result, Ok, Err, refl, sym, ap, ◌∙◌, subst, append_assoc, append-nil, add-zero, arith}
use Rattle.hog_tree.specs.Plain.{Word, Exp, Exps, Parts, Pairs, Body, Stm, Stms, OptionExp, OptionStm, OptionStms, Int, Truth, Null, Text, Template, Name, Array, Dict, Neg, Not, Binary, Coalesce, Prop, PropNullish, Index, Call, Lambda, NoExp, MoreExp, NoPart, MoreText, MoreHole, NoPair, MorePair, OneExp, ManyStms, Let, Assign, Do, Return, Throw, If, While, For, ForIn, Fun, Try, Block, Done, Then, NoneExp, SomeExp, NoneStm, SomeStm, NoneStms, SomeStms}
use Rattle.hog_captures.specs.Frees.{name_by, option_name_by}
use Rattle.hog_scope.specs.declared.item.Item.{Item}
use Rattle.hog_scope.specs.declared.item.Item.TheVariants as item
use Rattle.hog_scope.specs.Words.{Event, Declares, Binds, declares, binds, count_of, callee, target, exp_words, exps_words, parts_words, pairs_words, body_words, stm_words, stms_words, option_exp_words, option_stm_words, option_step_words, option_stms_words}
use Rattle.hog_scope.specs.Scopes.{Known, Fault, start, run, items_at, items_of}
use Rattle.hog_scope.proofs.Closed.{KeepsScopes, exp_closed, option_exp_closed}
use Rattle.hog_meaning.specs.World.{Env}
use Rattle.hog_names.specs.Numbers.{option_count, exp_count, exps_count, parts_count, pairs_count, body_count, stm_count, stms_count, option_exp_count, option_stm_count, option_stms_count, with_number, with_numbers, option_items, callee_items, exp_items, exps_items, parts_items, pairs_items, body_items, stm_items, stms_items, option_exp_items, option_stm_items, option_stms_items}
use Rattle.hog_names.proofs.Found.{Part, then_part, nothing, events_so, items_so, count_so, reads, assigns, calls, spells, let_part, let_both, scope_part, declared_part, params_part}

-- the names in sight after statements
abbrev pub stms_sight : Env → ℕ → Stms → Env
stms_sight σ n Done = σ
stms_sight σ n (Then s ss) = stms_sight (with_number (name_by s) n σ) (n + stm_count s) ss

abbrev pub body_sight : Env → ℕ → Body → Env
body_sight σ n (OneExp x) = σ
body_sight σ n (ManyStms ss) = stms_sight σ n ss

pub callee_part : {σ : Env} {i j : ℕ} (f : Exp) (n : ℕ) → i + exp_count f ≡ j → Part σ i σ j (exp_words f) (exp_items σ i f) → Part σ i σ j (callee f n (exp_words f)) (callee_items σ f (exp_items σ i f))
callee_part (Int _) n e p = p
callee_part (Truth _) n e p = p
callee_part Null n e p = p
callee_part (Text _) n e p = p
callee_part (Template _) n e p = p
callee_part {σ} {i} (Name w) n e p = count_so (sym (add-zero i) ∙ e) (calls w n)
callee_part (Array _) n e p = p
callee_part (Dict _) n e p = p
callee_part (Neg _) n e p = p
callee_part (Not _) n e p = p
callee_part (Binary _ _ _) n e p = p
callee_part (Coalesce _ _) n e p = p
callee_part (Prop _ _) n e p = p
callee_part (PropNullish _ _) n e p = p
callee_part (Index _ _) n e p = p
callee_part (Call _ _) n e p = p
callee_part (Lambda _ _) n e p = p

pub target_part : {σ : Env} {i j : ℕ} (x : Exp) → i + exp_count x ≡ j → Part σ i σ j (exp_words x) (exp_items σ i x) → Part σ i σ j (target x (exp_words x)) (exp_items σ i x)
target_part (Int _) e p = p
target_part (Truth _) e p = p
target_part Null e p = p
target_part (Text _) e p = p
target_part (Template _) e p = p
target_part {σ} {i} (Name w) e p = count_so (sym (add-zero i) ∙ e) (assigns w)
target_part (Array _) e p = p
target_part (Dict _) e p = p
target_part (Neg _) e p = p
target_part (Not _) e p = p
target_part (Binary _ _ _) e p = p
target_part (Coalesce _ _) e p = p
target_part (Prop _ _) e p = p
target_part (PropNullish _ _) e p = p
target_part (Index _ _) e p = p
target_part (Call _ _) e p = p
target_part (Lambda _ _) e p = p

-- the names of a `for .. in`, not seen in what is run over, where the second one has this number
abbrev OneName : (σ : Env) (i j l : ℕ) (v : Word) (es fs : List Event) (is js : List Item) → ℕ → Type 0
OneName σ i j l v es fs is js m = Part σ (suc m) σ j es is → Part ((v, m) ∷ σ) j ((v, m) ∷ σ) l fs js
    → Part σ i ((v, m) ∷ σ) l (Declares v ∷ ((es ++ []) ++ Binds v ∷ fs)) (item.Declared m ∷ (is ++ js))

abbrev TwoNames : (σ : Env) (i j l : ℕ) (u v : Word) (es fs : List Event) (is js : List Item) → ℕ → Type 0
TwoNames σ i j l u v es fs is js m = Part σ (suc m) σ j es is → Part ((v, m) ∷ (u, i) ∷ σ) j ((v, m) ∷ (u, i) ∷ σ) l fs js
    → Part σ i ((v, m) ∷ (u, i) ∷ σ) l (Declares u ∷ Declares v ∷ ((es ++ Binds u ∷ []) ++ Binds v ∷ fs)) (item.Declared i ∷ item.Declared m ∷ (is ++ js))

names_part : {σ : Env} {i j l : ℕ} (k : Option Word) (v : Word) (m : ℕ) {es fs : List Event} {is js : List Item} → i + option_count k ≡ m → KeepsScopes es → Part σ (suc m) σ j es is
    → Part ((v, m) ∷ with_number k i σ) j ((v, m) ∷ with_number k i σ) l fs js
    → Part σ i ((v, m) ∷ with_number k i σ) l (declares k ++ Declares v ∷ es ++ binds k ++ Binds v ∷ fs) (option_items k i ++ item.Declared m ∷ is ++ js)
names_part {σ} {i} {j} {l} None v m {es} {fs} {is} {js} e kept = subst (OneName σ i j l v es fs is js) (sym (add-zero i) ∙ e) one
  where
    one : OneName σ i j l v es fs is js i
    one p q = events_so (ap (λ z. Declares v ∷ z) (append_assoc es (Binds v ∷ []) fs ∙ ap (λ z. z ++ Binds v ∷ fs) (sym (append-nil es)))) (then_part (let_part v kept p) q)
names_part {σ} {i} {j} {l} (Some u) v m {es} {fs} {is} {js} e kept = subst (TwoNames σ i j l u v es fs is js) next two
  where
    next : suc i ≡ m
    next = omega (arith, e)

    two : TwoNames σ i j l u v es fs is js (suc i)
    two p q = events_so (ap (λ z. Declares u ∷ Declares v ∷ z) (append_assoc (es ++ Binds u ∷ []) (Binds v ∷ []) fs)) (then_part (let_both u v kept p) q)

-- no declarations
none_part : {σ : Env} {i : ℕ} {es : List Event} {is : List Item} → Part σ i σ i es is → Part σ i σ (i + 0) es is
none_part {σ} {i} p = count_so (sym (add-zero i)) p

mutual
  pub exp_part : (σ : Env) (i : ℕ) (x : Exp) → Part σ i σ (i + exp_count x) (exp_words x) (exp_items σ i x)
  exp_part σ i (Int n) = none_part nothing
  exp_part σ i (Truth b) = none_part nothing
  exp_part σ i Null = none_part nothing
  exp_part σ i (Text t) = none_part (spells t)
  exp_part σ i (Template ps) = parts_part σ i ps
  exp_part σ i (Name w) = none_part (reads w)
  exp_part σ i (Array xs) = exps_part σ i xs
  exp_part σ i (Dict ds) = pairs_part σ i ds
  exp_part σ i (Neg x) = exp_part σ i x
  exp_part σ i (Not x) = exp_part σ i x
  exp_part σ i (Binary op x y) = count_so (omega arith) (then_part (exp_part σ i x) (exp_part σ (i + exp_count x) y))
  exp_part σ i (Coalesce x y) = count_so (omega arith) (then_part (exp_part σ i x) (exp_part σ (i + exp_count x) y))
  exp_part σ i (Prop x w) = items_so (append-nil (exp_items σ i x)) (then_part (exp_part σ i x) (spells w))
  exp_part σ i (PropNullish x w) = items_so (append-nil (exp_items σ i x)) (then_part (exp_part σ i x) (spells w))
  exp_part σ i (Index x k) = count_so (omega arith) (then_part (exp_part σ i x) (exp_part σ (i + exp_count x) k))
  exp_part σ i (Call f xs) =
      count_so (omega arith) (then_part (callee_part f (count_of xs) refl (exp_part σ i f)) (exps_part σ (i + exp_count f) xs))
  exp_part σ i (Lambda ps b) =
      count_so (omega arith) (scope_part (then_part (params_part ps) (body_part (with_numbers ps i σ) (i + length ps) b)))

  pub exps_part : (σ : Env) (i : ℕ) (xs : Exps) → Part σ i σ (i + exps_count xs) (exps_words xs) (exps_items σ i xs)
  exps_part σ i NoExp = none_part nothing
  exps_part σ i (MoreExp x xs) = count_so (omega arith) (then_part (exp_part σ i x) (exps_part σ (i + exp_count x) xs))

  pub parts_part : (σ : Env) (i : ℕ) (ps : Parts) → Part σ i σ (i + parts_count ps) (parts_words ps) (parts_items σ i ps)
  parts_part σ i NoPart = none_part nothing
  parts_part σ i (MoreText t ps) = then_part (spells t) (parts_part σ i ps)
  parts_part σ i (MoreHole x ps) = count_so (omega arith) (then_part (exp_part σ i x) (parts_part σ (i + exp_count x) ps))

  pub pairs_part : (σ : Env) (i : ℕ) (ds : Pairs) → Part σ i σ (i + pairs_count ds) (pairs_words ds) (pairs_items σ i ds)
  pairs_part σ i NoPair = none_part nothing
  pairs_part σ i (MorePair k x ds) =
      count_so (omega arith)
      (then_part (then_part (exp_part σ i k) (exp_part σ (i + exp_count k) x)) (pairs_part σ (i + exp_count k + exp_count x) ds))

  pub body_part : (σ : Env) (i : ℕ) (b : Body) → Part σ i (body_sight σ i b) (i + body_count b) (body_words b) (body_items σ i b)
  body_part σ i (OneExp x) = exp_part σ i x
  body_part σ i (ManyStms ss) = stms_part σ i ss

  pub stm_part : (σ : Env) (i : ℕ) (s : Stm) → Part σ i (with_number (name_by s) i σ) (i + stm_count s) (stm_words s) (stm_items σ i s)
  stm_part σ i (Let w x) = count_so (omega arith) (let_part w (option_exp_closed x) (option_exp_part σ (suc i) x))
  stm_part σ i (Assign x y) =
      count_so (omega arith) (then_part (target_part x refl (exp_part σ i x)) (exp_part σ (i + exp_count x) y))
  stm_part σ i (Do x) = exp_part σ i x
  stm_part σ i (Return x) = option_exp_part σ i x
  stm_part σ i (Throw x) = exp_part σ i x
  stm_part σ i (If c b o) =
      count_so (omega arith)
      (then_part (then_part (exp_part σ i c) (scope_part (stms_part σ (i + exp_count c) b))) (option_stms_part σ (i + exp_count c + stms_count b) o))
  stm_part σ i (While c b) = count_so (omega arith) (then_part (exp_part σ i c) (scope_part (stms_part σ (i + exp_count c) b)))
  stm_part σ i (For a c n b) =
      let τ = with_number (option_name_by a) i σ in
      let i1 = i + option_stm_count a in
      let i2 = i1 + option_exp_count c in
      let i3 = i2 + option_stm_count n in
      count_so (omega arith)
      (scope_part (then_part (then_part (then_part (option_stm_part σ i a) (option_exp_part τ i1 c)) (option_step_part τ i2 n)) (scope_part (stms_part τ i3 b))))
  stm_part σ i (ForIn k v x b) =
      let n = i + option_count k in
      count_so (omega arith)
      (scope_part (names_part k v n refl (exp_closed x) (exp_part σ (suc n) x) (scope_part (stms_part ((v, n) ∷ with_number k i σ) (suc n + exp_count x) b))))
  stm_part σ i (Fun w ps b) =
      count_so (omega arith)
      (then_part (declared_part w) (scope_part (then_part (params_part ps) (stms_part (with_numbers ps (suc i) ((w, i) ∷ σ)) (suc i + length ps) b))))
  stm_part σ i (Try b w c) =
      let n = i + stms_count b in
      count_so (omega arith)
      (then_part (scope_part (stms_part σ i b)) (scope_part (then_part (declared_part w) (scope_part (stms_part ((w, n) ∷ σ) (suc n) c)))))
  stm_part σ i (Block b) = scope_part (stms_part σ i b)

  pub stms_part : (σ : Env) (i : ℕ) (ss : Stms) → Part σ i (stms_sight σ i ss) (i + stms_count ss) (stms_words ss) (stms_items σ i ss)
  stms_part σ i Done = none_part nothing
  stms_part σ i (Then x ss) =
      count_so (omega arith) (then_part (stm_part σ i x) (stms_part (with_number (name_by x) i σ) (i + stm_count x) ss))

  pub option_exp_part : (σ : Env) (i : ℕ) (x : OptionExp) → Part σ i σ (i + option_exp_count x) (option_exp_words x) (option_exp_items σ i x)
  option_exp_part σ i NoneExp = none_part nothing
  option_exp_part σ i (SomeExp x) = exp_part σ i x

  pub option_stm_part : (σ : Env) (i : ℕ) (a : OptionStm)
      → Part σ i (with_number (option_name_by a) i σ) (i + option_stm_count a) (option_stm_words a) (option_stm_items σ i a)
  option_stm_part σ i NoneStm = none_part nothing
  option_stm_part σ i (SomeStm x) = stm_part σ i x

  -- a step is a scope of its own
  pub option_step_part : (σ : Env) (i : ℕ) (a : OptionStm) → Part σ i σ (i + option_stm_count a) (option_step_words a) (option_stm_items σ i a)
  option_step_part σ i NoneStm = none_part nothing
  option_step_part σ i (SomeStm x) = scope_part (stm_part σ i x)

  pub option_stms_part : (σ : Env) (i : ℕ) (o : OptionStms) → Part σ i σ (i + option_stms_count o) (option_stms_words o) (option_stms_items σ i o)
  option_stms_part σ i NoneStms = none_part nothing
  option_stms_part σ i (SomeStms b) = scope_part (stms_part σ i b)

-- the items of a whole program
pub items_found : (program : Stms) (items : List Item) → items_of program ≡ Ok items → items ≡ stms_items [] 0 program
items_found program items is = by (run (stms_words program) start) refl is
  where
    by : (o : Result Known Fault) → run (stms_words program) start ≡ o → items_at o ≡ Ok items → items ≡ stms_items [] 0 program
    by (Ok k) ran e =
        let w = (stms_part [] 0 program).goes start k (record { found = λ w. refl }) refl ran in
        let same : k.items ≡ items = cc in
        sym same ∙ w.items
    by (Err fault) ran e = absurd cc
