-- A part of a program with its variables called anew, where the names in sight are known with the numbers of their
-- declarations. By the items that the part has there it is called the same.
use Rattle.std.proofs.Common.{◌≡◌, ℕ, suc, ◌+◌, List, [], ◌∷◌, ◌++◌, length, Option, Some, None, refl, sym, ap, ◌∙◌, append_assoc, append-nil}
use Rattle.hog_value.specs.declared.native.Native.{Native}
use Rattle.hog_value.specs.Natives.{native_named}
use Rattle.hog_tree.specs.Plain.{Word, Exp, Exps, Parts, Pairs, Body, Stm, Stms, OptionExp, OptionStm, OptionStms, Int, Truth, Null, Text, Template, Name, Array, Dict, Neg, Not, Binary, Coalesce, Prop, PropNullish, Index, Call, Lambda, NoExp, MoreExp, NoPart, MoreText, MoreHole, NoPair, MorePair, OneExp, ManyStms, Let, Assign, Do, Return, Throw, If, While, For, ForIn, Fun, Try, Block, Done, Then, NoneExp, SomeExp, NoneStm, SomeStm, NoneStms, SomeStms}
use Rattle.hog_captures.specs.Frees.{name_by, option_name_by}
use Rattle.hog_scope.specs.declared.item.Item.{Item}
use Rattle.hog_scope.specs.declared.item.Item.TheVariants as item
use Rattle.hog_scope.specs.Scopes.{read_item}
use Rattle.hog_meaning.specs.World.{Env, find_var}
use Rattle.hog_names.specs.Numbers.{option_count, exp_count, stm_count, stms_count, option_exp_count, option_stm_count, with_number, with_numbers, option_items, param_items, call_item, callee_items, exp_items, exps_items, parts_items, pairs_items, body_items, stm_items, stms_items, option_exp_items, option_stm_items, option_stms_items}
use Rattle.hog_names.specs.Anew.{Naming, With, word_by, one_part, next_part, apply, word_anew, words_anew, option_word_anew, exp_anew, exps_anew, parts_anew, pairs_anew, body_anew, stm_anew, stms_anew, option_exp_anew, option_stm_anew, option_stms_anew}

-- a word that stands for a word whose declaration was looked for
abbrev pub word_found : Naming → Option ℕ → Word → Word
word_found call None w = w
word_found call (Some i) w = call i

abbrev pub word_in : Naming → Env → Word → Word
word_in call σ w = word_found call (find_var σ w) w

-- names that are declared from the number n on
abbrev pub names_in : Naming → ℕ → List Word → List Word
names_in call n [] = []
names_in call n (w ∷ ws) = call n ∷ names_in call (suc n) ws

abbrev pub option_in : Naming → ℕ → Option Word → Option Word
option_in call n None = None
option_in call n (Some w) = Some (call n)

abbrev mutual
  pub exp_in : Naming → Env → ℕ → Exp → Exp
  exp_in call σ n (Int z) = Int z
  exp_in call σ n (Truth b) = Truth b
  exp_in call σ n Null = Null
  exp_in call σ n (Text t) = Text t
  exp_in call σ n (Template ps) = Template (parts_in call σ n ps)
  exp_in call σ n (Name w) = Name (word_in call σ w)
  exp_in call σ n (Array xs) = Array (exps_in call σ n xs)
  exp_in call σ n (Dict ds) = Dict (pairs_in call σ n ds)
  exp_in call σ n (Neg x) = Neg (exp_in call σ n x)
  exp_in call σ n (Not x) = Not (exp_in call σ n x)
  exp_in call σ n (Binary op x y) = Binary op (exp_in call σ n x) (exp_in call σ (n + exp_count x) y)
  exp_in call σ n (Coalesce x y) = Coalesce (exp_in call σ n x) (exp_in call σ (n + exp_count x) y)
  exp_in call σ n (Prop x w) = Prop (exp_in call σ n x) w
  exp_in call σ n (PropNullish x w) = PropNullish (exp_in call σ n x) w
  exp_in call σ n (Index x k) = Index (exp_in call σ n x) (exp_in call σ (n + exp_count x) k)
  exp_in call σ n (Call f xs) = Call (exp_in call σ n f) (exps_in call σ (n + exp_count f) xs)
  exp_in call σ n (Lambda ps b) = Lambda (names_in call n ps) (body_in call (with_numbers ps n σ) (n + length ps) b)

  pub exps_in : Naming → Env → ℕ → Exps → Exps
  exps_in call σ n NoExp = NoExp
  exps_in call σ n (MoreExp x xs) = MoreExp (exp_in call σ n x) (exps_in call σ (n + exp_count x) xs)

  pub parts_in : Naming → Env → ℕ → Parts → Parts
  parts_in call σ n NoPart = NoPart
  parts_in call σ n (MoreText t ps) = MoreText t (parts_in call σ n ps)
  parts_in call σ n (MoreHole x ps) = MoreHole (exp_in call σ n x) (parts_in call σ (n + exp_count x) ps)

  pub pairs_in : Naming → Env → ℕ → Pairs → Pairs
  pairs_in call σ n NoPair = NoPair
  pairs_in call σ n (MorePair k x ds) =
      MorePair (exp_in call σ n k) (exp_in call σ (n + exp_count k) x) (pairs_in call σ (n + exp_count k + exp_count x) ds)

  pub body_in : Naming → Env → ℕ → Body → Body
  body_in call σ n (OneExp x) = OneExp (exp_in call σ n x)
  body_in call σ n (ManyStms ss) = ManyStms (stms_in call σ n ss)

  pub stm_in : Naming → Env → ℕ → Stm → Stm
  stm_in call σ n (Let w x) = Let (call n) (option_exp_in call σ (suc n) x)
  stm_in call σ n (Assign x y) = Assign (exp_in call σ n x) (exp_in call σ (n + exp_count x) y)
  stm_in call σ n (Do x) = Do (exp_in call σ n x)
  stm_in call σ n (Return x) = Return (option_exp_in call σ n x)
  stm_in call σ n (Throw x) = Throw (exp_in call σ n x)
  stm_in call σ n (If c b o) =
      If (exp_in call σ n c) (stms_in call σ (n + exp_count c) b) (option_stms_in call σ (n + exp_count c + stms_count b) o)
  stm_in call σ n (While c b) = While (exp_in call σ n c) (stms_in call σ (n + exp_count c) b)
  stm_in call σ n (For a c s b) =
      let τ = with_number (option_name_by a) n σ in
      let n1 = n + option_stm_count a in
      let n2 = n1 + option_exp_count c in
      let n3 = n2 + option_stm_count s in
      For (option_stm_in call σ n a) (option_exp_in call τ n1 c) (option_stm_in call τ n2 s) (stms_in call τ n3 b)
  stm_in call σ n (ForIn k v x b) =
      let n1 = n + option_count k in
      ForIn (option_in call n k) (call n1) (exp_in call σ (suc n1) x) (stms_in call ((v, n1) ∷ with_number k n σ) (suc n1 + exp_count x) b)
  stm_in call σ n (Fun w ps b) =
      Fun (call n) (names_in call (suc n) ps) (stms_in call (with_numbers ps (suc n) ((w, n) ∷ σ)) (suc n + length ps) b)
  stm_in call σ n (Try b w c) =
      let n1 = n + stms_count b in
      Try (stms_in call σ n b) (call n1) (stms_in call ((w, n1) ∷ σ) (suc n1) c)
  stm_in call σ n (Block b) = Block (stms_in call σ n b)

  pub stms_in : Naming → Env → ℕ → Stms → Stms
  stms_in call σ n Done = Done
  stms_in call σ n (Then s ss) = Then (stm_in call σ n s) (stms_in call (with_number (name_by s) n σ) (n + stm_count s) ss)

  pub option_exp_in : Naming → Env → ℕ → OptionExp → OptionExp
  option_exp_in call σ n NoneExp = NoneExp
  option_exp_in call σ n (SomeExp x) = SomeExp (exp_in call σ n x)

  pub option_stm_in : Naming → Env → ℕ → OptionStm → OptionStm
  option_stm_in call σ n NoneStm = NoneStm
  option_stm_in call σ n (SomeStm s) = SomeStm (stm_in call σ n s)

  pub option_stms_in : Naming → Env → ℕ → OptionStms → OptionStms
  option_stms_in call σ n NoneStms = NoneStms
  option_stms_in call σ n (SomeStms b) = SomeStms (stms_in call σ n b)

-- what these items make of a part, whatever items follow
record Makes {A : Type 0} (run : List Item → With A) (items : List Item) (a : A) : Type 0 where
  is : (rest : List Item) → run (items ++ rest) ≡ (a, rest)

made_one : {A B : Type 0} {run : List Item → With A} {items : List Item} {a : A} (make : A → B) → Makes run items a → Makes (λ is. one_part make (run is)) items (make a)
made_one make m = record { is = λ rest. ap (one_part make) (m.is rest) }

made_next : {A B C : Type 0} {run : List Item → With A} {go : List Item → With B} {is js : List Item} {a : A} {b : B} (make : A → B → C) → Makes run is a → Makes go js b
    → Makes (λ ks. next_part make (run ks) go) (is ++ js) (make a b)
made_next {run = run} {go = go} {is = is} {js = js} {a = a} make m k = record {
  is = λ rest. ap (λ z. next_part make (run z) go) (append_assoc is js rest) ∙ ap (λ p. next_part make p go) (m.is (js ++ rest)) ∙ ap (one_part (make a)) (k.is rest);
}

made_plain : {A : Type 0} (a : A) → Makes (λ is. (a, is)) [] a
made_plain a = record { is = λ rest. refl }

-- items in other words
items_are : {A : Type 0} {run : List Item → With A} {is js : List Item} {a : A} → is ≡ js → Makes run is a → Makes run js a
items_are {run = run} {a = a} e m = record { is = λ rest. ap (λ z. run (z ++ rest)) (sym e) ∙ m.is rest }

module _ (call : Naming) where
  read_word : (σ : Env) (w : Word) → Makes (word_anew call w) (read_item (find_var σ w) ∷ []) (word_in call σ w)
  read_word σ w = record { is = λ rest. ap (λ v. (v, rest)) (by (find_var σ w)) }
    where
      by : (o : Option ℕ) → word_by call (read_item o) w ≡ word_found call o w
      by None = refl
      by (Some i) = refl

  call_word : (σ : Env) (w : Word) → Makes (word_anew call w) (call_item (find_var σ w) (native_named w) ∷ []) (word_in call σ w)
  call_word σ w = record { is = λ rest. ap (λ v. (v, rest)) (by (find_var σ w) (native_named w)) }
    where
      by : (o : Option ℕ) (f : Option Native) → word_by call (call_item o f) w ≡ word_found call o w
      by None None = refl
      by None (Some f) = refl
      by (Some i) f = refl

  declared_word : (n : ℕ) (w : Word) → Makes (word_anew call w) (item.Declared n ∷ []) (call n)
  declared_word n w = record { is = λ rest. refl }

  declared_words : (n : ℕ) (ws : List Word) → Makes (words_anew call ws) (param_items ws n) (names_in call n ws)
  declared_words n [] = record { is = λ rest. refl }
  declared_words n (w ∷ ws) = let m = made_next (λ v vs. v ∷ vs) (declared_word n w) (declared_words (suc n) ws) in record { is = m.is }

  declared_option : (n : ℕ) (o : Option Word) → Makes (option_word_anew call o) (option_items o n) (option_in call n o)
  declared_option n None = record { is = λ rest. refl }
  declared_option n (Some w) = record { is = λ rest. refl }

  callee_made : (σ : Env) (n : ℕ) (f : Exp) → Makes (exp_anew call f) (exp_items σ n f) (exp_in call σ n f) → Makes (exp_anew call f) (callee_items σ f (exp_items σ n f)) (exp_in call σ n f)
  callee_made σ n (Int _) m = m
  callee_made σ n (Truth _) m = m
  callee_made σ n Null m = m
  callee_made σ n (Text _) m = m
  callee_made σ n (Template _) m = m
  callee_made σ n (Name w) m = let c = made_one Name (call_word σ w) in record { is = c.is }
  callee_made σ n (Array _) m = m
  callee_made σ n (Dict _) m = m
  callee_made σ n (Neg _) m = m
  callee_made σ n (Not _) m = m
  callee_made σ n (Binary _ _ _) m = m
  callee_made σ n (Coalesce _ _) m = m
  callee_made σ n (Prop _ _) m = m
  callee_made σ n (PropNullish _ _) m = m
  callee_made σ n (Index _ _) m = m
  callee_made σ n (Call _ _) m = m
  callee_made σ n (Lambda _ _) m = m

  mutual
    exp_made : (σ : Env) (n : ℕ) (x : Exp) → Makes (exp_anew call x) (exp_items σ n x) (exp_in call σ n x)
    exp_made σ n (Int z) = record { is = λ rest. refl }
    exp_made σ n (Truth b) = record { is = λ rest. refl }
    exp_made σ n Null = record { is = λ rest. refl }
    exp_made σ n (Text t) = record { is = λ rest. refl }
    exp_made σ n (Template ps) = let m = made_one Template (parts_made σ n ps) in record { is = m.is }
    exp_made σ n (Name w) = let m = made_one Name (read_word σ w) in record { is = m.is }
    exp_made σ n (Array xs) = let m = made_one Array (exps_made σ n xs) in record { is = m.is }
    exp_made σ n (Dict ds) = let m = made_one Dict (pairs_made σ n ds) in record { is = m.is }
    exp_made σ n (Neg x) = let m = made_one Neg (exp_made σ n x) in record { is = m.is }
    exp_made σ n (Not x) = let m = made_one Not (exp_made σ n x) in record { is = m.is }
    exp_made σ n (Binary op x y) = let m = made_next (Binary op) (exp_made σ n x) (exp_made σ (n + exp_count x) y) in record { is = m.is }
    exp_made σ n (Coalesce x y) = let m = made_next Coalesce (exp_made σ n x) (exp_made σ (n + exp_count x) y) in record { is = m.is }
    exp_made σ n (Prop x w) = let m = made_one (λ y. Prop y w) (exp_made σ n x) in record { is = m.is }
    exp_made σ n (PropNullish x w) = let m = made_one (λ y. PropNullish y w) (exp_made σ n x) in record { is = m.is }
    exp_made σ n (Index x k) = let m = made_next Index (exp_made σ n x) (exp_made σ (n + exp_count x) k) in record { is = m.is }
    exp_made σ n (Call f xs) = let m = made_next Call (callee_made σ n f (exp_made σ n f)) (exps_made σ (n + exp_count f) xs) in record { is = m.is }
    exp_made σ n (Lambda ps b) = let m = made_next Lambda (declared_words n ps) (body_made (with_numbers ps n σ) (n + length ps) b) in record { is = m.is }

    exps_made : (σ : Env) (n : ℕ) (xs : Exps) → Makes (exps_anew call xs) (exps_items σ n xs) (exps_in call σ n xs)
    exps_made σ n NoExp = record { is = λ rest. refl }
    exps_made σ n (MoreExp x xs) = let m = made_next MoreExp (exp_made σ n x) (exps_made σ (n + exp_count x) xs) in record { is = m.is }

    parts_made : (σ : Env) (n : ℕ) (ps : Parts) → Makes (parts_anew call ps) (parts_items σ n ps) (parts_in call σ n ps)
    parts_made σ n NoPart = record { is = λ rest. refl }
    parts_made σ n (MoreText t ps) = let m = made_one (MoreText t) (parts_made σ n ps) in record { is = m.is }
    parts_made σ n (MoreHole x ps) = let m = made_next MoreHole (exp_made σ n x) (parts_made σ (n + exp_count x) ps) in record { is = m.is }

    pairs_made : (σ : Env) (n : ℕ) (ds : Pairs) → Makes (pairs_anew call ds) (pairs_items σ n ds) (pairs_in call σ n ds)
    pairs_made σ n NoPair = record { is = λ rest. refl }
    pairs_made σ n (MorePair k x ds) =
        let m = made_next apply (made_next {C = Pairs → Pairs} MorePair (exp_made σ n k) (exp_made σ (n + exp_count k) x)) (pairs_made σ (n + exp_count k + exp_count x) ds) in
        record { is = m.is }

    body_made : (σ : Env) (n : ℕ) (b : Body) → Makes (body_anew call b) (body_items σ n b) (body_in call σ n b)
    body_made σ n (OneExp x) = let m = made_one OneExp (exp_made σ n x) in record { is = m.is }
    body_made σ n (ManyStms ss) = let m = made_one ManyStms (stms_made σ n ss) in record { is = m.is }

    stm_made : (σ : Env) (n : ℕ) (s : Stm) → Makes (stm_anew call s) (stm_items σ n s) (stm_in call σ n s)
    stm_made σ n (Let w x) = let m = made_next Let (declared_word n w) (option_exp_made σ (suc n) x) in record { is = m.is }
    stm_made σ n (Assign x y) = let m = made_next Assign (exp_made σ n x) (exp_made σ (n + exp_count x) y) in record { is = m.is }
    stm_made σ n (Do x) = let m = made_one Do (exp_made σ n x) in record { is = m.is }
    stm_made σ n (Return x) = let m = made_one Return (option_exp_made σ n x) in record { is = m.is }
    stm_made σ n (Throw x) = let m = made_one Throw (exp_made σ n x) in record { is = m.is }
    stm_made σ n (If c b o) =
        let n1 = n + exp_count c in
        let n2 = n1 + stms_count b in
        let m = made_next apply (made_next {C = OptionStms → Stm} If (exp_made σ n c) (stms_made σ n1 b)) (option_stms_made σ n2 o) in
        record { is = m.is }
    stm_made σ n (While c b) = let m = made_next While (exp_made σ n c) (stms_made σ (n + exp_count c) b) in record { is = m.is }
    stm_made σ n (For a c s b) =
        let τ = with_number (option_name_by a) n σ in
        let n1 = n + option_stm_count a in
        let n2 = n1 + option_exp_count c in
        let n3 = n2 + option_stm_count s in
        let m = made_next apply (made_next {C = Stms → Stm} apply (made_next {C = OptionStm → Stms → Stm} For (option_stm_made σ n a) (option_exp_made τ n1 c)) (option_stm_made τ n2 s)) (stms_made τ n3 b) in
        record { is = m.is }
    stm_made σ n (ForIn k v x b) =
        let n1 = n + option_count k in
        let n2 = suc n1 + exp_count x in
        let τ = (v, n1) ∷ with_number k n σ in
        let is = option_items k n in
        let js = exp_items σ (suc n1) x in
        let ls = stms_items τ n2 b in
        let m = made_next apply (made_next {C = Stms → Stm} apply (made_next {C = Exp → Stms → Stm} ForIn (declared_option n k) (declared_word n1 v)) (exp_made σ (suc n1) x)) (stms_made τ n2 b) in
        let r = items_are (ap (λ z. z ++ ls) (append_assoc is (item.Declared n1 ∷ []) js)) m in
        record { is = r.is }
    stm_made σ n (Fun w ps b) =
        let m = made_next apply (made_next {C = Stms → Stm} Fun (declared_word n w) (declared_words (suc n) ps)) (stms_made (with_numbers ps (suc n) ((w, n) ∷ σ)) (suc n + length ps) b) in
        record { is = m.is }
    stm_made σ n (Try b w c) =
        let n1 = n + stms_count b in
        let m = made_next apply (made_next {C = Stms → Stm} Try (stms_made σ n b) (declared_word n1 w)) (stms_made ((w, n1) ∷ σ) (suc n1) c) in
        let a = items_are (append_assoc (stms_items σ n b) (item.Declared n1 ∷ []) (stms_items ((w, n1) ∷ σ) (suc n1) c)) m in
        record { is = a.is }
    stm_made σ n (Block b) = let m = made_one Block (stms_made σ n b) in record { is = m.is }

    stms_made : (σ : Env) (n : ℕ) (ss : Stms) → Makes (stms_anew call ss) (stms_items σ n ss) (stms_in call σ n ss)
    stms_made σ n Done = record { is = λ rest. refl }
    stms_made σ n (Then s ss) = let m = made_next Then (stm_made σ n s) (stms_made (with_number (name_by s) n σ) (n + stm_count s) ss) in record { is = m.is }

    option_exp_made : (σ : Env) (n : ℕ) (x : OptionExp) → Makes (option_exp_anew call x) (option_exp_items σ n x) (option_exp_in call σ n x)
    option_exp_made σ n NoneExp = record { is = λ rest. refl }
    option_exp_made σ n (SomeExp x) = let m = made_one SomeExp (exp_made σ n x) in record { is = m.is }

    option_stm_made : (σ : Env) (n : ℕ) (s : OptionStm) → Makes (option_stm_anew call s) (option_stm_items σ n s) (option_stm_in call σ n s)
    option_stm_made σ n NoneStm = record { is = λ rest. refl }
    option_stm_made σ n (SomeStm s) = let m = made_one SomeStm (stm_made σ n s) in record { is = m.is }

    option_stms_made : (σ : Env) (n : ℕ) (o : OptionStms) → Makes (option_stms_anew call o) (option_stms_items σ n o) (option_stms_in call σ n o)
    option_stms_made σ n NoneStms = record { is = λ rest. refl }
    option_stms_made σ n (SomeStms b) = let m = made_one SomeStms (stms_made σ n b) in record { is = m.is }

  -- a whole program
  pub program_made : (program : Stms) → (stms_anew call program (stms_items [] 0 program)).0 ≡ stms_in call [] 0 program
  program_made program =
      ap (λ is. (stms_anew call program is).0) (sym (append-nil (stms_items [] 0 program))) ∙ ap (λ (p : With Stms). p.0) ((stms_made [] 0 program).is [])
