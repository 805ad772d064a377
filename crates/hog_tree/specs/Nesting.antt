-- How many functions of a program stand in one another.
use Rattle.std.specs.Prelude.{ℕ, suc, max}
use Rattle.hog_tree.specs.Plain.{Exp, Exps, Parts, Pairs, Body, Stm, Stms, OptionExp, OptionStm, OptionStms, Int, Truth, Null, Text, Template, Name, Array, Dict, Neg, Not, Binary, Coalesce, Prop, PropNullish, Index, Call, Lambda, NoExp, MoreExp, NoPart, MoreText, MoreHole, NoPair, MorePair, OneExp, ManyStms, Let, Assign, Do, Return, Throw, If, While, For, ForIn, Fun, Try, Block, Done, Then, NoneExp, SomeExp, NoneStm, SomeStm, NoneStms, SomeStms}

-- functions in one another, this many at most, can be compiled
abbrev pub deepest : ℕ
deepest = 1000

abbrev mutual
  pub exp_nesting : Exp → ℕ
  exp_nesting (Int n) = 0
  exp_nesting (Truth b) = 0
  exp_nesting Null = 0
  exp_nesting (Text t) = 0
  exp_nesting (Template ps) = parts_nesting ps
  exp_nesting (Name w) = 0
  exp_nesting (Array xs) = exps_nesting xs
  exp_nesting (Dict ds) = pairs_nesting ds
  exp_nesting (Neg x) = exp_nesting x
  exp_nesting (Not x) = exp_nesting x
  exp_nesting (Binary op x y) = max (exp_nesting x) (exp_nesting y)
  exp_nesting (Coalesce x y) = max (exp_nesting x) (exp_nesting y)
  exp_nesting (Prop x w) = exp_nesting x
  exp_nesting (PropNullish x w) = exp_nesting x
  exp_nesting (Index x k) = max (exp_nesting x) (exp_nesting k)
  exp_nesting (Call f xs) = max (exp_nesting f) (exps_nesting xs)
  exp_nesting (Lambda ps b) = suc (body_nesting b)

  pub exps_nesting : Exps → ℕ
  exps_nesting NoExp = 0
  exps_nesting (MoreExp x xs) = max (exp_nesting x) (exps_nesting xs)

  pub parts_nesting : Parts → ℕ
  parts_nesting NoPart = 0
  parts_nesting (MoreText t ps) = parts_nesting ps
  parts_nesting (MoreHole x ps) = max (exp_nesting x) (parts_nesting ps)

  pub pairs_nesting : Pairs → ℕ
  pairs_nesting NoPair = 0
  pairs_nesting (MorePair k v ds) = max (max (exp_nesting k) (exp_nesting v)) (pairs_nesting ds)

  pub body_nesting : Body → ℕ
  body_nesting (OneExp x) = exp_nesting x
  body_nesting (ManyStms ss) = stms_nesting ss

  pub stm_nesting : Stm → ℕ
  stm_nesting (Let w x) = option_exp_nesting x
  stm_nesting (Assign x y) = max (exp_nesting x) (exp_nesting y)
  stm_nesting (Do x) = exp_nesting x
  stm_nesting (Return x) = option_exp_nesting x
  stm_nesting (Throw x) = exp_nesting x
  stm_nesting (If c b o) = max (exp_nesting c) (max (stms_nesting b) (option_stms_nesting o))
  stm_nesting (While c b) = max (exp_nesting c) (stms_nesting b)
  stm_nesting (For a c n b) = max (max (option_stm_nesting a) (option_exp_nesting c)) (max (option_stm_nesting n) (stms_nesting b))
  stm_nesting (ForIn k v x b) = max (exp_nesting x) (stms_nesting b)
  stm_nesting (Fun w ps b) = suc (stms_nesting b)
  stm_nesting (Try b w h) = max (stms_nesting b) (stms_nesting h)
  stm_nesting (Block b) = stms_nesting b

  pub stms_nesting : Stms → ℕ
  stms_nesting Done = 0
  stms_nesting (Then s ss) = max (stm_nesting s) (stms_nesting ss)

  pub option_exp_nesting : OptionExp → ℕ
  option_exp_nesting NoneExp = 0
  option_exp_nesting (SomeExp x) = exp_nesting x

  pub option_stm_nesting : OptionStm → ℕ
  option_stm_nesting NoneStm = 0
  option_stm_nesting (SomeStm s) = stm_nesting s

  pub option_stms_nesting : OptionStms → ℕ
  option_stms_nesting NoneStms = 0
  option_stms_nesting (SomeStms b) = stms_nesting b
