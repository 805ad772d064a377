-- What each word of a program names where names are found by environments: the number of the declaration that an
-- environment finds, a native or a global. The environments go through the tree as those of the meaning do, and are looked
-- into by the same definition; but for a variable they hold the number of its declaration.
use Rattle.std.specs.Prelude.{ℕ, suc, ◌+◌, List, [], ◌∷◌, ◌++◌, length, Option, Some, None}
use Rattle.hog_value.specs.declared.native.Native.{Native}
use Rattle.hog_value.specs.Natives.{native_named}
use Rattle.hog_tree.specs.Plain.{Word, Exp, Exps, Parts, Pairs, Body, Stm, Stms, OptionExp, OptionStm, OptionStms, Int, Truth, Null, Text, Template, Name, Array, Dict, Neg, Not, Binary, Coalesce, Prop, PropNullish, Index, Call, Lambda, NoExp, MoreExp, NoPart, MoreText, MoreHole, NoPair, MorePair, OneExp, ManyStms, Let, Assign, Do, Return, Throw, If, While, For, ForIn, Fun, Try, Block, Done, Then, NoneExp, SomeExp, NoneStm, SomeStm, NoneStms, SomeStms}
use Rattle.hog_scope.specs.declared.item.Item.{Item}
use Rattle.hog_scope.specs.declared.item.Item.TheVariants as item
use Rattle.hog_captures.specs.Frees.{name_by, option_name_by}
use Rattle.hog_scope.specs.Scopes.{read_item}
use Rattle.hog_meaning.specs.World.{Env, find_var}

-- how many names a part of a program declares

abbrev pub option_count : Option Word → ℕ
option_count None = 0
option_count (Some w) = 1

abbrev mutual
  pub exp_count : Exp → ℕ
  exp_count (Int n) = 0
  exp_count (Truth b) = 0
  exp_count Null = 0
  exp_count (Text t) = 0
  exp_count (Template ps) = parts_count ps
  exp_count (Name w) = 0
  exp_count (Array xs) = exps_count xs
  exp_count (Dict ds) = pairs_count ds
  exp_count (Neg x) = exp_count x
  exp_count (Not x) = exp_count x
  exp_count (Binary op x y) = exp_count x + exp_count y
  exp_count (Coalesce x y) = exp_count x + exp_count y
  exp_count (Prop x w) = exp_count x
  exp_count (PropNullish x w) = exp_count x
  exp_count (Index x k) = exp_count x + exp_count k
  exp_count (Call f xs) = exp_count f + exps_count xs
  exp_count (Lambda ps b) = length ps + body_count b

  pub exps_count : Exps → ℕ
  exps_count NoExp = 0
  exps_count (MoreExp x xs) = exp_count x + exps_count xs

  pub parts_count : Parts → ℕ
  parts_count NoPart = 0
  parts_count (MoreText t ps) = parts_count ps
  parts_count (MoreHole x ps) = exp_count x + parts_count ps

  pub pairs_count : Pairs → ℕ
  pairs_count NoPair = 0
  pairs_count (MorePair k x ds) = exp_count k + exp_count x + pairs_count ds

  pub body_count : Body → ℕ
  body_count (OneExp x) = exp_count x
  body_count (ManyStms ss) = stms_count ss

  pub stm_count : Stm → ℕ
  stm_count (Let w x) = suc (option_exp_count x)
  stm_count (Assign x y) = exp_count x + exp_count y
  stm_count (Do x) = exp_count x
  stm_count (Return x) = option_exp_count x
  stm_count (Throw x) = exp_count x
  stm_count (If c b o) = exp_count c + stms_count b + option_stms_count o
  stm_count (While c b) = exp_count c + stms_count b
  stm_count (For a c s b) = option_stm_count a + option_exp_count c + option_stm_count s + stms_count b
  stm_count (ForIn k v x b) = suc (option_count k) + exp_count x + stms_count b
  stm_count (Fun w ps b) = suc (length ps) + stms_count b
  stm_count (Try b w c) = suc (stms_count b) + stms_count c
  stm_count (Block b) = stms_count b

  pub stms_count : Stms → ℕ
  stms_count Done = 0
  stms_count (Then s ss) = stm_count s + stms_count ss

  pub option_exp_count : OptionExp → ℕ
  option_exp_count NoneExp = 0
  option_exp_count (SomeExp x) = exp_count x

  pub option_stm_count : OptionStm → ℕ
  option_stm_count NoneStm = 0
  option_stm_count (SomeStm s) = stm_count s

  pub option_stms_count : OptionStms → ℕ
  option_stms_count NoneStms = 0
  option_stms_count (SomeStms b) = stms_count b

-- the names in sight with the numbers of their declarations, where the next declaration has the number n

-- with the name that is declared next, if one is
abbrev pub with_number : Option Word → ℕ → Env → Env
with_number None n σ = σ
with_number (Some w) n σ = (w, n) ∷ σ

-- with parameters
abbrev pub with_numbers : List Word → ℕ → Env → Env
with_numbers [] n σ = σ
with_numbers (p ∷ ps) n σ = with_numbers ps (suc n) ((p, n) ∷ σ)

-- the items of words that are declared

abbrev pub option_items : Option Word → ℕ → List Item
option_items None n = []
option_items (Some w) n = item.Declared n ∷ []

abbrev pub param_items : List Word → ℕ → List Item
param_items [] n = []
param_items (p ∷ ps) n = item.Declared n ∷ param_items ps (suc n)

-- the item of a word that is called: its declaration, else the native of that name
abbrev pub call_item : Option ℕ → Option Native → Item
call_item (Some n) native = item.Declared n
call_item None (Some native) = item.Native native
call_item None None = item.Global

-- of what is called: a name that stands there is called, any other expression has the items given
abbrev pub callee_items : Env → Exp → List Item → List Item
callee_items σ (Name w) items = call_item (find_var σ w) (native_named w) ∷ []
callee_items σ x items = items

-- the items of the words of a part of a program, in the order of the source
abbrev mutual
  pub exp_items : Env → ℕ → Exp → List Item
  exp_items σ n (Int z) = []
  exp_items σ n (Truth b) = []
  exp_items σ n Null = []
  exp_items σ n (Text t) = []
  exp_items σ n (Template ps) = parts_items σ n ps
  exp_items σ n (Name w) = read_item (find_var σ w) ∷ []
  exp_items σ n (Array xs) = exps_items σ n xs
  exp_items σ n (Dict ds) = pairs_items σ n ds
  exp_items σ n (Neg x) = exp_items σ n x
  exp_items σ n (Not x) = exp_items σ n x
  exp_items σ n (Binary op x y) = exp_items σ n x ++ exp_items σ (n + exp_count x) y
  exp_items σ n (Coalesce x y) = exp_items σ n x ++ exp_items σ (n + exp_count x) y
  exp_items σ n (Prop x w) = exp_items σ n x
  exp_items σ n (PropNullish x w) = exp_items σ n x
  exp_items σ n (Index x k) = exp_items σ n x ++ exp_items σ (n + exp_count x) k
  exp_items σ n (Call f xs) = callee_items σ f (exp_items σ n f) ++ exps_items σ (n + exp_count f) xs
  exp_items σ n (Lambda ps b) = param_items ps n ++ body_items (with_numbers ps n σ) (n + length ps) b

  pub exps_items : Env → ℕ → Exps → List Item
  exps_items σ n NoExp = []
  exps_items σ n (MoreExp x xs) = exp_items σ n x ++ exps_items σ (n + exp_count x) xs

  pub parts_items : Env → ℕ → Parts → List Item
  parts_items σ n NoPart = []
  parts_items σ n (MoreText t ps) = parts_items σ n ps
  parts_items σ n (MoreHole x ps) = exp_items σ n x ++ parts_items σ (n + exp_count x) ps

  pub pairs_items : Env → ℕ → Pairs → List Item
  pairs_items σ n NoPair = []
  pairs_items σ n (MorePair k x ds) =
      exp_items σ n k ++ exp_items σ (n + exp_count k) x ++ pairs_items σ (n + exp_count k + exp_count x) ds

  pub body_items : Env → ℕ → Body → List Item
  body_items σ n (OneExp x) = exp_items σ n x
  body_items σ n (ManyStms ss) = stms_items σ n ss

  pub stm_items : Env → ℕ → Stm → List Item
  stm_items σ n (Let w x) = item.Declared n ∷ option_exp_items σ (suc n) x
  stm_items σ n (Assign x y) = exp_items σ n x ++ exp_items σ (n + exp_count x) y
  stm_items σ n (Do x) = exp_items σ n x
  stm_items σ n (Return x) = option_exp_items σ n x
  stm_items σ n (Throw x) = exp_items σ n x
  stm_items σ n (If c b o) =
      exp_items σ n c ++ stms_items σ (n + exp_count c) b ++ option_stms_items σ (n + exp_count c + stms_count b) o
  stm_items σ n (While c b) = exp_items σ n c ++ stms_items σ (n + exp_count c) b
  stm_items σ n (For a c s b) =
      let τ = with_number (option_name_by a) n σ in
      let n1 = n + option_stm_count a in
      let n2 = n1 + option_exp_count c in
      let n3 = n2 + option_stm_count s in
      option_stm_items σ n a ++ option_exp_items τ n1 c ++ option_stm_items τ n2 s ++ stms_items τ n3 b
  stm_items σ n (ForIn k v x b) =
      let n1 = n + option_count k in
      option_items k n ++ item.Declared n1 ∷ exp_items σ (suc n1) x
      ++ stms_items ((v, n1) ∷ with_number k n σ) (suc n1 + exp_count x) b
  stm_items σ n (Fun w ps b) =
      item.Declared n ∷ param_items ps (suc n) ++ stms_items (with_numbers ps (suc n) ((w, n) ∷ σ)) (suc n + length ps) b
  stm_items σ n (Try b w c) =
      let n1 = n + stms_count b in
      stms_items σ n b ++ item.Declared n1 ∷ stms_items ((w, n1) ∷ σ) (suc n1) c
  stm_items σ n (Block b) = stms_items σ n b

  pub stms_items : Env → ℕ → Stms → List Item
  stms_items σ n Done = []
  stms_items σ n (Then s ss) = stm_items σ n s ++ stms_items (with_number (name_by s) n σ) (n + stm_count s) ss

  pub option_exp_items : Env → ℕ → OptionExp → List Item
  option_exp_items σ n NoneExp = []
  option_exp_items σ n (SomeExp x) = exp_items σ n x

  pub option_stm_items : Env → ℕ → OptionStm → List Item
  option_stm_items σ n NoneStm = []
  option_stm_items σ n (SomeStm s) = stm_items σ n s

  pub option_stms_items : Env → ℕ → OptionStms → List Item
  option_stms_items σ n NoneStms = []
  option_stms_items σ n (SomeStms b) = stms_items σ n b
