-- How many statements and expressions a tree has.
use Rattle.std.specs.Prelude.{ℕ, suc, ◌+◌}
use Rattle.hog_tree.specs.Plain.{Exp, Int, Truth, Null, Text, Template, Name, Array, Dict, Neg, Not, Binary, Coalesce, Prop, PropNullish, Index, Call, Lambda, Exps, NoExp, MoreExp, Parts, NoPart, MoreText, MoreHole, Pairs, NoPair, MorePair, Body, OneExp, ManyStms, Stm, Let, Assign, Do, Return, Throw, If, While, For, ForIn, Fun, Try, Block, Stms, Done, Then, OptionExp, NoneExp, SomeExp, OptionStm, NoneStm, SomeStm, OptionStms, NoneStms, SomeStms}

abbrev mutual
  pub of_exp : Exp → ℕ
  of_exp (Int n) = 1
  of_exp (Truth b) = 1
  of_exp Null = 1
  of_exp (Text bs) = 1
  of_exp (Template ps) = 1 + of_parts ps
  of_exp (Name w) = 1
  of_exp (Array es) = 1 + of_exps es
  of_exp (Dict ds) = 1 + of_pairs ds
  of_exp (Neg e) = 1 + of_exp e
  of_exp (Not e) = 1 + of_exp e
  of_exp (Binary op a b) = 1 + of_exp a + of_exp b
  of_exp (Coalesce a b) = 1 + of_exp a + of_exp b
  of_exp (Prop e w) = 1 + of_exp e
  of_exp (PropNullish e w) = 1 + of_exp e
  of_exp (Index e i) = 1 + of_exp e + of_exp i
  of_exp (Call f es) = 1 + of_exp f + of_exps es
  of_exp (Lambda ws b) = 1 + of_body b

  pub of_exps : Exps → ℕ
  of_exps NoExp = 0
  of_exps (MoreExp e es) = of_exp e + of_exps es

  pub of_parts : Parts → ℕ
  of_parts NoPart = 0
  of_parts (MoreText bs ps) = of_parts ps
  of_parts (MoreHole e ps) = of_exp e + of_parts ps

  pub of_pairs : Pairs → ℕ
  of_pairs NoPair = 0
  of_pairs (MorePair x y ds) = of_exp x + of_exp y + of_pairs ds

  pub of_body : Body → ℕ
  of_body (OneExp e) = of_exp e
  of_body (ManyStms ss) = of_stms ss

  pub of_stm : Stm → ℕ
  of_stm (Let x v) = 1 + of_option_exp v
  of_stm (Assign t e) = 1 + of_exp t + of_exp e
  of_stm (Do e) = 1 + of_exp e
  of_stm (Return v) = 1 + of_option_exp v
  of_stm (Throw e) = 1 + of_exp e
  of_stm (If c b o) = 1 + of_exp c + of_stms b + of_option_stms o
  of_stm (While c b) = 1 + of_exp c + of_stms b
  of_stm (For s c n b) = 1 + of_option_stm s + of_option_exp c + of_option_stm n + of_stms b
  of_stm (ForIn i v e b) = 1 + of_exp e + of_stms b
  of_stm (Fun f ws b) = 1 + of_stms b
  of_stm (Try b w c) = 1 + of_stms b + of_stms c
  of_stm (Block b) = 1 + of_stms b

  pub of_stms : Stms → ℕ
  of_stms Done = 0
  of_stms (Then s ss) = of_stm s + of_stms ss

  pub of_option_exp : OptionExp → ℕ
  of_option_exp NoneExp = 0
  of_option_exp (SomeExp e) = of_exp e

  pub of_option_stm : OptionStm → ℕ
  of_option_stm NoneStm = 0
  of_option_stm (SomeStm s) = of_stm s

  pub of_option_stms : OptionStms → ℕ
  of_option_stms NoneStms = 0
  of_option_stms (SomeStms b) = of_stms b
