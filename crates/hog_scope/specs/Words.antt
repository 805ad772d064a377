-- The words of a program in the order of the source, and where its scopes begin and end.
use Rattle.std.specs.Prelude.{ℕ, suc, List, [], ◌∷◌, ◌++◌, Option, Some, None}
use Rattle.hog_tree.specs.Plain.{Word, Exp, Exps, Parts, Pairs, Body, Stm, Stms, OptionExp, OptionStm, OptionStms, Int, Truth, Null, Text, Template, Name, Array, Dict, Neg, Not, Binary, Coalesce, Prop, PropNullish, Index, Call, Lambda, NoExp, MoreExp, NoPart, MoreText, MoreHole, NoPair, MorePair, OneExp, ManyStms, Let, Assign, Do, Return, Throw, If, While, For, ForIn, Fun, Try, Block, Done, Then, NoneExp, SomeExp, NoneStm, SomeStm, NoneStms, SomeStms}

-- what comes next in the source
pub data Event : Type 0 where
  -- a scope begins
  Opens : Event
  -- the innermost scope ends
  Closes : Event
  -- the innermost scope declares a name
  Declares : Word → Event
  -- the name that was declared is seen from here on
  Binds : Word → Event
  -- the value of a name is read
  Reads : Word → Event
  -- a name is given a value
  Assigns : Word → Event
  -- a name is called with so many arguments
  Calls : Word → ℕ → Event
  -- the name of a property, or a text as it stands in the program
  Spells : Word → Event

-- a scope with these words in it
abbrev pub scope_of : List Event → List Event
scope_of words = Opens ∷ (words ++ Closes ∷ [])

-- a name that is seen at once
abbrev pub declared : Word → List Event
declared w = Declares w ∷ Binds w ∷ []

-- parameters: each is seen at once
abbrev pub all_declared : List Word → List Event
all_declared [] = []
all_declared (w ∷ ws) = declared w ++ all_declared ws

-- a name that may be left out
abbrev pub declares : Option Word → List Event
declares None = []
declares (Some w) = Declares w ∷ []

abbrev pub binds : Option Word → List Event
binds None = []
binds (Some w) = Binds w ∷ []

-- how many arguments
abbrev pub count_of : Exps → ℕ
count_of NoExp = 0
count_of (MoreExp x xs) = suc (count_of xs)

-- what is called: a name that stands there is called, any other expression has the words given
abbrev pub callee : Exp → ℕ → List Event → List Event
callee (Name w) count words = Calls w count ∷ []
callee _ count words = words

-- what is assigned: a name that stands there is given a value, any other expression has the words given
abbrev pub target : Exp → List Event → List Event
target (Name w) words = Assigns w ∷ []
target _ words = words

abbrev mutual
  pub exp_words : Exp → List Event
  exp_words (Int n) = []
  exp_words (Truth b) = []
  exp_words Null = []
  exp_words (Text t) = Spells t ∷ []
  exp_words (Template ps) = parts_words ps
  exp_words (Name w) = Reads w ∷ []
  exp_words (Array xs) = exps_words xs
  exp_words (Dict ds) = pairs_words ds
  exp_words (Neg x) = exp_words x
  exp_words (Not x) = exp_words x
  exp_words (Binary op x y) = exp_words x ++ exp_words y
  exp_words (Coalesce x y) = exp_words x ++ exp_words y
  exp_words (Prop x w) = exp_words x ++ Spells w ∷ []
  exp_words (PropNullish x w) = exp_words x ++ Spells w ∷ []
  exp_words (Index x k) = exp_words x ++ exp_words k
  exp_words (Call f xs) = callee f (count_of xs) (exp_words f) ++ exps_words xs
  exp_words (Lambda ps b) = scope_of (all_declared ps ++ body_words b)

  pub exps_words : Exps → List Event
  exps_words NoExp = []
  exps_words (MoreExp x xs) = exp_words x ++ exps_words xs

  pub parts_words : Parts → List Event
  parts_words NoPart = []
  parts_words (MoreText t ps) = Spells t ∷ parts_words ps
  parts_words (MoreHole x ps) = exp_words x ++ parts_words ps

  pub pairs_words : Pairs → List Event
  pairs_words NoPair = []
  pairs_words (MorePair k v ds) = exp_words k ++ exp_words v ++ pairs_words ds

  -- parameters and the outermost names of a body are one scope
  pub body_words : Body → List Event
  body_words (OneExp x) = exp_words x
  body_words (ManyStms ss) = stms_words ss

  -- a `let` is seen after its value, a `fun` from its name on; the names of a `for .. in` aren't seen in its
  -- expression; the step of a `for` and the bodies of `for`, `for .. in` and `catch` are scopes of their own
  pub stm_words : Stm → List Event
  stm_words (Let w x) = Declares w ∷ (option_exp_words x ++ Binds w ∷ [])
  stm_words (Assign x y) = target x (exp_words x) ++ exp_words y
  stm_words (Do x) = exp_words x
  stm_words (Return x) = option_exp_words x
  stm_words (Throw x) = exp_words x
  stm_words (If c b o) = exp_words c ++ scope_of (stms_words b) ++ option_stms_words o
  stm_words (While c b) = exp_words c ++ scope_of (stms_words b)
  stm_words (For a c n b) =
      scope_of (option_stm_words a ++ option_exp_words c ++ option_step_words n ++ scope_of (stms_words b))
  stm_words (ForIn k v x b) =
      scope_of (declares k ++ Declares v ∷ exp_words x ++ binds k ++ Binds v ∷ scope_of (stms_words b))
  stm_words (Fun w ps b) = declared w ++ scope_of (all_declared ps ++ stms_words b)
  stm_words (Try b w c) = scope_of (stms_words b) ++ scope_of (declared w ++ scope_of (stms_words c))
  stm_words (Block b) = scope_of (stms_words b)

  pub stms_words : Stms → List Event
  stms_words Done = []
  stms_words (Then s ss) = stm_words s ++ stms_words ss

  pub option_exp_words : OptionExp → List Event
  option_exp_words NoneExp = []
  option_exp_words (SomeExp x) = exp_words x

  pub option_stm_words : OptionStm → List Event
  option_stm_words NoneStm = []
  option_stm_words (SomeStm s) = stm_words s

  -- a step
  pub option_step_words : OptionStm → List Event
  option_step_words NoneStm = []
  option_step_words (SomeStm s) = scope_of (stm_words s)

  -- an `else`
  pub option_stms_words : OptionStms → List Event
  option_stms_words NoneStms = []
  option_stms_words (SomeStms b) = scope_of (stms_words b)
