-- A program whose names are without fault: its calls are sound, and its literal texts are those of its tree.
use Rattle.std.proofs.Common.{◌≡◌, ℕ, List, [], ◌∷◌, ◌++◌, Option, Some, None, Result, Ok, Err, refl, sym, ap, ◌∙◌, subst, append_assoc, append-nil}
use Rattle.hog_tree.specs.Plain.{Word, Exp, Exps, Parts, Pairs, Body, Stm, Stms, OptionExp, OptionStm, OptionStms, Int, Truth, Null, Text, Template, Name, Array, Dict, Neg, Not, Binary, Coalesce, Prop, PropNullish, Index, Call, Lambda, NoExp, MoreExp, NoPart, MoreText, MoreHole, NoPair, MorePair, OneExp, ManyStms, Let, Assign, Do, Return, Throw, If, While, For, ForIn, Fun, Try, Block, Done, Then, NoneExp, SomeExp, NoneStm, SomeStm, NoneStms, SomeStms}
use Rattle.hog_captures.specs.Frees.{is_among, name_by, option_name_by}
use Rattle.hog_scope.specs.declared.item.Item.{Item}
use Rattle.hog_scope.specs.Words.{Event, Declares, Binds, declares, binds, count_of, callee, target, exp_words, exps_words, parts_words, pairs_words, body_words, stm_words, stms_words, option_exp_words, option_stm_words, option_step_words, option_stms_words}
use Rattle.hog_scope.specs.Literals.{texts_of}
use Rattle.hog_scope.specs.Scopes.{Known, Fault, start, run, items_at, items_of}
use Rattle.hog_scope.proofs.Closed.{KeepsScopes, exp_closed, option_exp_closed}
use Rattle.hog_bridge.proofs.Words.{with_word, onto}
use Rattle.hog_bridge.proofs.Resolved.{CalleeOk, ExpOk, ExpsOk, PartsOk, PairsOk, BodyOk, StmOk, StmsOk, OptionExpOk, OptionStmOk, OptionStmsOk}
use Rattle.hog_bridge.proofs.Sights.{Part, then_part, so, nothing, read_texts, reads, assigns, calls, spells, let_part, let_both, scope_part, declared_part, all_declared_part}

-- the texts of a callee and of a target: a name that stands there has none
abbrev pub but_name : Exp → List Word → List Word
but_name (Name w) ts = []
but_name x ts = ts

-- the literal texts of a tree where these words are in sight, in the order of the source
abbrev mutual
  pub exp_texts : List Word → Exp → List Word
  exp_texts V (Int n) = []
  exp_texts V (Truth b) = []
  exp_texts V Null = []
  exp_texts V (Text t) = t ∷ []
  exp_texts V (Template ps) = parts_texts V ps
  exp_texts V (Name w) = read_texts w (is_among w V)
  exp_texts V (Array xs) = exps_texts V xs
  exp_texts V (Dict ds) = pairs_texts V ds
  exp_texts V (Neg x) = exp_texts V x
  exp_texts V (Not x) = exp_texts V x
  exp_texts V (Binary op x y) = exp_texts V x ++ exp_texts V y
  exp_texts V (Coalesce x y) = exp_texts V x ++ exp_texts V y
  exp_texts V (Prop x w) = exp_texts V x ++ w ∷ []
  exp_texts V (PropNullish x w) = exp_texts V x ++ w ∷ []
  exp_texts V (Index x k) = exp_texts V x ++ exp_texts V k
  exp_texts V (Call f xs) = but_name f (exp_texts V f) ++ exps_texts V xs
  exp_texts V (Lambda ps b) = body_texts (onto ps V) b

  pub exps_texts : List Word → Exps → List Word
  exps_texts V NoExp = []
  exps_texts V (MoreExp x xs) = exp_texts V x ++ exps_texts V xs

  pub parts_texts : List Word → Parts → List Word
  parts_texts V NoPart = []
  parts_texts V (MoreText t ps) = t ∷ parts_texts V ps
  parts_texts V (MoreHole x ps) = exp_texts V x ++ parts_texts V ps

  pub pairs_texts : List Word → Pairs → List Word
  pairs_texts V NoPair = []
  pairs_texts V (MorePair k x ds) = exp_texts V k ++ exp_texts V x ++ pairs_texts V ds

  pub body_texts : List Word → Body → List Word
  body_texts V (OneExp x) = exp_texts V x
  body_texts V (ManyStms ss) = stms_texts V ss

  pub stm_texts : List Word → Stm → List Word
  stm_texts V (Let w x) = option_exp_texts V x
  stm_texts V (Assign x y) = but_name x (exp_texts V x) ++ exp_texts V y
  stm_texts V (Do x) = exp_texts V x
  stm_texts V (Return x) = option_exp_texts V x
  stm_texts V (Throw x) = exp_texts V x
  stm_texts V (If c b o) = exp_texts V c ++ stms_texts V b ++ option_stms_texts V o
  stm_texts V (While c b) = exp_texts V c ++ stms_texts V b
  stm_texts V (For a c n b) =
      let V2 = with_word (option_name_by a) V in
      option_stm_texts V a ++ option_exp_texts V2 c ++ option_stm_texts V2 n ++ stms_texts V2 b
  stm_texts V (ForIn k v x b) = exp_texts V x ++ stms_texts (v ∷ with_word k V) b
  stm_texts V (Fun w ps b) = stms_texts (onto ps (w ∷ V)) b
  stm_texts V (Try b w c) = stms_texts V b ++ stms_texts (w ∷ V) c
  stm_texts V (Block b) = stms_texts V b

  pub stms_texts : List Word → Stms → List Word
  stms_texts V Done = []
  stms_texts V (Then s ss) = stm_texts V s ++ stms_texts (with_word (name_by s) V) ss

  pub option_exp_texts : List Word → OptionExp → List Word
  option_exp_texts V NoneExp = []
  option_exp_texts V (SomeExp x) = exp_texts V x

  pub option_stm_texts : List Word → OptionStm → List Word
  option_stm_texts V NoneStm = []
  option_stm_texts V (SomeStm s) = stm_texts V s

  pub option_stms_texts : List Word → OptionStms → List Word
  option_stms_texts V NoneStms = []
  option_stms_texts V (SomeStms b) = stms_texts V b

-- the words in sight after statements
abbrev pub stms_sight : List Word → Stms → List Word
stms_sight V Done = V
stms_sight V (Then s ss) = stms_sight (with_word (name_by s) V) ss

abbrev pub body_sight : List Word → Body → List Word
body_sight V (OneExp x) = V
body_sight V (ManyStms ss) = stms_sight V ss

events_so : {V W : List Word} {es fs : List Event} {P : Type 0} {ts : List Word} → es ≡ fs → Part V W es P ts → Part V W fs P ts
events_so {V} {W} {es} {fs} {P} {ts} e p = subst (λ z. Part V W z P ts) e p

callee_part : {V : List Word} (f : Exp) (n : ℕ) → Part V V (exp_words f) (ExpOk V f) (exp_texts V f) → Part V V (callee f n (exp_words f)) (CalleeOk V f n × ExpOk V f) (but_name f (exp_texts V f))
callee_part (Int _) n p = so (λ h. (tt, h)) p
callee_part (Truth _) n p = so (λ h. (tt, h)) p
callee_part Null n p = so (λ h. (tt, h)) p
callee_part (Text _) n p = so (λ h. (tt, h)) p
callee_part (Template _) n p = so (λ h. (tt, h)) p
callee_part (Name w) n p = so (λ h. (h, tt)) (calls w n)
callee_part (Array _) n p = so (λ h. (tt, h)) p
callee_part (Dict _) n p = so (λ h. (tt, h)) p
callee_part (Neg _) n p = so (λ h. (tt, h)) p
callee_part (Not _) n p = so (λ h. (tt, h)) p
callee_part (Binary _ _ _) n p = so (λ h. (tt, h)) p
callee_part (Coalesce _ _) n p = so (λ h. (tt, h)) p
callee_part (Prop _ _) n p = so (λ h. (tt, h)) p
callee_part (PropNullish _ _) n p = so (λ h. (tt, h)) p
callee_part (Index _ _) n p = so (λ h. (tt, h)) p
callee_part (Call _ _) n p = so (λ h. (tt, h)) p
callee_part (Lambda _ _) n p = so (λ h. (tt, h)) p

target_part : {V : List Word} (x : Exp) → Part V V (exp_words x) (ExpOk V x) (exp_texts V x) → Part V V (target x (exp_words x)) (ExpOk V x) (but_name x (exp_texts V x))
target_part (Int _) p = p
target_part (Truth _) p = p
target_part Null p = p
target_part (Text _) p = p
target_part (Template _) p = p
target_part (Name w) p = assigns w
target_part (Array _) p = p
target_part (Dict _) p = p
target_part (Neg _) p = p
target_part (Not _) p = p
target_part (Binary _ _ _) p = p
target_part (Coalesce _ _) p = p
target_part (Prop _ _) p = p
target_part (PropNullish _ _) p = p
target_part (Index _ _) p = p
target_part (Call _ _) p = p
target_part (Lambda _ _) p = p

-- the names of a `for .. in`, not seen in what is run over
names_part : {V : List Word} (k : Option Word) (v : Word) {es fs : List Event} {P Q : Type 0} {ts us : List Word} → KeepsScopes es → Part V V es P ts → Part (v ∷ with_word k V) (v ∷ with_word k V) fs Q us
    → Part V (v ∷ with_word k V) (declares k ++ Declares v ∷ es ++ binds k ++ Binds v ∷ fs) (P × Q) (ts ++ us)
names_part None v {es} {fs} kept p q =
    events_so (ap (λ z. Declares v ∷ z) (append_assoc es (Binds v ∷ []) fs ∙ ap (λ z. z ++ Binds v ∷ fs) (sym (append-nil es)))) (then_part (let_part v kept p) q)
names_part (Some u) v {es} {fs} kept p q =
    events_so (ap (λ z. Declares u ∷ Declares v ∷ z) (append_assoc (es ++ Binds u ∷ []) (Binds v ∷ []) fs)) (then_part (let_both u v kept p) q)

mutual
  pub exp_part : (V : List Word) (x : Exp) → Part V V (exp_words x) (ExpOk V x) (exp_texts V x)
  exp_part V (Int n) = nothing
  exp_part V (Truth b) = nothing
  exp_part V Null = nothing
  exp_part V (Text t) = spells t
  exp_part V (Template ps) = parts_part V ps
  exp_part V (Name w) = reads w
  exp_part V (Array xs) = exps_part V xs
  exp_part V (Dict ds) = pairs_part V ds
  exp_part V (Neg x) = exp_part V x
  exp_part V (Not x) = exp_part V x
  exp_part V (Binary op x y) = then_part (exp_part V x) (exp_part V y)
  exp_part V (Coalesce x y) = then_part (exp_part V x) (exp_part V y)
  exp_part V (Prop x w) = so (λ h. h.0) (then_part (exp_part V x) (spells w))
  exp_part V (PropNullish x w) = so (λ h. h.0) (then_part (exp_part V x) (spells w))
  exp_part V (Index x k) = then_part (exp_part V x) (exp_part V k)
  exp_part V (Call f xs) = so (λ h. (h.0.0, h.0.1, h.1)) (then_part (callee_part f (count_of xs) (exp_part V f)) (exps_part V xs))
  exp_part V (Lambda ps b) = so (λ h. h.1) (scope_part (then_part (all_declared_part ps) (body_part (onto ps V) b)))

  pub exps_part : (V : List Word) (xs : Exps) → Part V V (exps_words xs) (ExpsOk V xs) (exps_texts V xs)
  exps_part V NoExp = nothing
  exps_part V (MoreExp x xs) = then_part (exp_part V x) (exps_part V xs)

  pub parts_part : (V : List Word) (ps : Parts) → Part V V (parts_words ps) (PartsOk V ps) (parts_texts V ps)
  parts_part V NoPart = nothing
  parts_part V (MoreText t ps) = so (λ h. h.1) (then_part (spells t) (parts_part V ps))
  parts_part V (MoreHole x ps) = then_part (exp_part V x) (parts_part V ps)

  pub pairs_part : (V : List Word) (ds : Pairs) → Part V V (pairs_words ds) (PairsOk V ds) (pairs_texts V ds)
  pairs_part V NoPair = nothing
  pairs_part V (MorePair k x ds) = so (λ h. (h.0.0, h.0.1, h.1)) (then_part (then_part (exp_part V k) (exp_part V x)) (pairs_part V ds))

  pub body_part : (V : List Word) (b : Body) → Part V (body_sight V b) (body_words b) (BodyOk V b) (body_texts V b)
  body_part V (OneExp x) = exp_part V x
  body_part V (ManyStms ss) = stms_part V ss

  pub stm_part : (V : List Word) (s : Stm) → Part V (with_word (name_by s) V) (stm_words s) (StmOk V s) (stm_texts V s)
  stm_part V (Let w x) = let_part w (option_exp_closed x) (option_exp_part V x)
  stm_part V (Assign x y) = then_part (target_part x (exp_part V x)) (exp_part V y)
  stm_part V (Do x) = exp_part V x
  stm_part V (Return x) = option_exp_part V x
  stm_part V (Throw x) = exp_part V x
  stm_part V (If c b o) = so (λ h. (h.0.0, h.0.1, h.1)) (then_part (then_part (exp_part V c) (scope_part (stms_part V b))) (option_stms_part V o))
  stm_part V (While c b) = then_part (exp_part V c) (scope_part (stms_part V b))
  stm_part V (For a c n b) =
      let V2 = with_word (option_name_by a) V in
      so (λ h. (h.0.0.0, h.0.0.1, h.0.1, h.1))
      (scope_part (then_part (then_part (then_part (option_stm_part V a) (option_exp_part V2 c)) (option_step_part V2 n)) (scope_part (stms_part V2 b))))
  stm_part V (ForIn k v x b) = scope_part (names_part k v (exp_closed x) (exp_part V x) (scope_part (stms_part (v ∷ with_word k V) b)))
  stm_part V (Fun w ps b) = so (λ h. h.1.1) (then_part (declared_part w) (scope_part (then_part (all_declared_part ps) (stms_part (onto ps (w ∷ V)) b))))
  stm_part V (Try b w c) = so (λ h. (h.0, h.1.1)) (then_part (scope_part (stms_part V b)) (scope_part (then_part (declared_part w) (scope_part (stms_part (w ∷ V) c)))))
  stm_part V (Block b) = scope_part (stms_part V b)

  pub stms_part : (V : List Word) (ss : Stms) → Part V (stms_sight V ss) (stms_words ss) (StmsOk V ss) (stms_texts V ss)
  stms_part V Done = nothing
  stms_part V (Then x ss) = then_part (stm_part V x) (stms_part (with_word (name_by x) V) ss)

  pub option_exp_part : (V : List Word) (x : OptionExp) → Part V V (option_exp_words x) (OptionExpOk V x) (option_exp_texts V x)
  option_exp_part V NoneExp = nothing
  option_exp_part V (SomeExp x) = exp_part V x

  pub option_stm_part : (V : List Word) (a : OptionStm) → Part V (with_word (option_name_by a) V) (option_stm_words a) (OptionStmOk V a) (option_stm_texts V a)
  option_stm_part V NoneStm = nothing
  option_stm_part V (SomeStm x) = stm_part V x

  -- a step is a scope of its own
  pub option_step_part : (V : List Word) (a : OptionStm) → Part V V (option_step_words a) (OptionStmOk V a) (option_stm_texts V a)
  option_step_part V NoneStm = nothing
  option_step_part V (SomeStm x) = scope_part (stm_part V x)

  pub option_stms_part : (V : List Word) (o : OptionStms) → Part V V (option_stms_words o) (OptionStmsOk V o) (option_stms_texts V o)
  option_stms_part V NoneStms = nothing
  option_stms_part V (SomeStms b) = scope_part (stms_part V b)

-- the calls of a program whose names are without fault are sound, and its literal texts are those of its tree
pub record Scoped (program : Stms) (items : List Item) : Type 0 where
  pub ok : StmsOk [] program
  pub texts : texts_of (stms_words program) items ≡ stms_texts [] program

pub scoped : (program : Stms) (items : List Item) → items_of program ≡ Ok items → Scoped program items
scoped program items is = by (run (stms_words program) start) refl is
  where
    by : (o : Result Known Fault) → run (stms_words program) start ≡ o → items_at o ≡ Ok items → Scoped program items
    by (Ok k) ran e =
        let w = (stms_part [] program).goes start k (record { tells = λ w. refl }) ran in
        let same : k.items ≡ items = cc in
        record {
          ok = w.holds;
          texts =
              ap (texts_of (stms_words program)) (sym same ∙ w.items)
              ∙ sym (ap (λ z. texts_of z w.new) (append-nil (stms_words program)))
              ∙ ap (texts_of (stms_words program ++ [])) (sym (append-nil w.new))
              ∙ w.texts [] []
              ∙ append-nil (stms_texts [] program);
        }
    by (Err fault) ran e = absurd cc
