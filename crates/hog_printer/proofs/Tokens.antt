-- The tokens of a printed program.
use Rattle.std.specs.Prelude.{suc, ℤ, pos, negsuc, List, [], ◌∷◌, ◌++◌, Bool, true, false}
use Rattle.hog_tree.specs.Plain.{Word, Exp, Int, Truth, Null, Text, Template, Name, Array, Dict, Neg, Not, Binary, Coalesce, Prop, PropNullish, Index, Call, Lambda, Exps, NoExp, MoreExp, Parts, NoPart, MoreText, MoreHole, Pairs, NoPair, MorePair, Body, OneExp, ManyStms, Stm, Let, Assign, Do, Return, Throw, If, While, For, ForIn, Fun, Try, Block, Stms, Done, Then, OptionExp, NoneExp, SomeExp, OptionStm, NoneStm, SomeStm, OptionStms, NoneStms, SomeStms}
use Rattle.hog_grammar.specs.Terminal.{Terminal, word}
use Rattle.hog_grammar.specs.Terminal as k
use Rattle.hog_grammar.specs.Spelling as g
use Rattle.hog_grammar.specs.Spelling.{tokens_of}
use Rattle.hog_printer.specs.Print.{form_of, is_compound, is_held_base, is_held_body, is_dict}

abbrev pub wrapped : Bool → List Terminal → List Terminal
wrapped false ts = ts
wrapped true ts = k.Open ∷ (ts ++ k.Close ∷ [])

abbrev pub digits : ℤ → List Terminal
digits (pos n) = k.Number n ∷ []
digits (negsuc n) = k.Minus ∷ k.Number (suc n) ∷ []

abbrev pub more_names_tokens : List Word → List Terminal
more_names_tokens [] = k.Close ∷ []
more_names_tokens (w ∷ ws) = k.Comma ∷ ((k.Word w ∷ []) ++ more_names_tokens ws)

abbrev pub names_tokens : List Word → List Terminal
names_tokens [] = k.Close ∷ []
names_tokens (w ∷ ws) = (k.Word w ∷ []) ++ more_names_tokens ws

abbrev mutual
  pub exp_tokens : Exp → List Terminal
  exp_tokens (Int n) = digits n
  exp_tokens (Truth b) = g.truth b ∷ []
  exp_tokens Null = k.Null ∷ []
  exp_tokens (Text bs) = k.Text bs ∷ []
  exp_tokens (Template ps) = k.TemplateStart ∷ parts_tokens ps
  exp_tokens (Name w) = k.Word w ∷ []
  exp_tokens (Array es) = k.OpenBracket ∷ items_tokens k.CloseBracket es
  exp_tokens (Dict ds) = k.OpenBrace ∷ pairs_tokens ds
  exp_tokens (Neg e) = k.Minus ∷ wrapped (is_compound (form_of e)) (exp_tokens e)
  exp_tokens (Not e) = k.Not ∷ wrapped (is_compound (form_of e)) (exp_tokens e)
  exp_tokens (Binary op a b) = wrapped (is_compound (form_of a)) (exp_tokens a) ++ (tokens_of op ++ wrapped (is_compound (form_of b)) (exp_tokens b))
  exp_tokens (Coalesce a b) = wrapped (is_compound (form_of a)) (exp_tokens a) ++ k.Coalesce ∷ wrapped (is_compound (form_of b)) (exp_tokens b)
  exp_tokens (Prop e w) = wrapped (is_held_base (form_of e)) (exp_tokens e) ++ k.Dot ∷ word w ∷ []
  exp_tokens (PropNullish e w) = wrapped (is_held_base (form_of e)) (exp_tokens e) ++ k.NullishDot ∷ word w ∷ []
  exp_tokens (Index e i) = wrapped (is_held_base (form_of e)) (exp_tokens e) ++ k.OpenBracket ∷ (exp_tokens i ++ k.CloseBracket ∷ [])
  exp_tokens (Call f es) = wrapped (is_compound (form_of f)) (exp_tokens f) ++ k.Open ∷ items_tokens k.Close es
  exp_tokens (Lambda ws b) = (k.Open ∷ names_tokens ws) ++ k.Arrow ∷ body_tokens b

  pub items_tokens : Terminal → Exps → List Terminal
  items_tokens mark NoExp = mark ∷ []
  items_tokens mark (MoreExp e es) = exp_tokens e ++ more_items_tokens mark es

  pub more_items_tokens : Terminal → Exps → List Terminal
  more_items_tokens mark NoExp = mark ∷ []
  more_items_tokens mark (MoreExp e es) = k.Comma ∷ (exp_tokens e ++ more_items_tokens mark es)

  pub parts_tokens : Parts → List Terminal
  parts_tokens NoPart = k.TemplateEnd ∷ []
  parts_tokens (MoreText bs ps) = k.Characters bs ∷ parts_tokens ps
  parts_tokens (MoreHole e ps) = k.HoleStart ∷ (exp_tokens e ++ k.HoleEnd ∷ parts_tokens ps)

  pub pairs_tokens : Pairs → List Terminal
  pairs_tokens NoPair = k.CloseBrace ∷ []
  pairs_tokens (MorePair x y ds) = (exp_tokens x ++ k.Colon ∷ exp_tokens y) ++ more_pairs_tokens ds

  pub more_pairs_tokens : Pairs → List Terminal
  more_pairs_tokens NoPair = k.CloseBrace ∷ []
  more_pairs_tokens (MorePair x y ds) = k.Comma ∷ ((exp_tokens x ++ k.Colon ∷ exp_tokens y) ++ more_pairs_tokens ds)

  pub body_tokens : Body → List Terminal
  body_tokens (OneExp e) = wrapped (is_held_body (form_of e)) (exp_tokens e)
  body_tokens (ManyStms ss) = k.OpenBrace ∷ (stms_tokens ss ++ k.CloseBrace ∷ [])

  pub declared_tokens : OptionExp → Word → List Terminal
  declared_tokens NoneExp w = k.Let ∷ k.Word w ∷ []
  declared_tokens (SomeExp e) w = k.Let ∷ k.Word w ∷ k.Assign ∷ exp_tokens e

  pub returned_tokens : OptionExp → List Terminal
  returned_tokens NoneExp = k.Return ∷ k.Semi ∷ []
  returned_tokens (SomeExp e) = (k.Return ∷ exp_tokens e) ++ k.Semi ∷ []

  pub condition_tokens : OptionExp → List Terminal
  condition_tokens NoneExp = []
  condition_tokens (SomeExp e) = exp_tokens e

  pub clause_tokens : Stm → List Terminal
  clause_tokens (Let w v) = declared_tokens v w
  clause_tokens (Assign t e) = exp_tokens t ++ k.Assign ∷ exp_tokens e
  clause_tokens (Do e) = wrapped (is_dict (form_of e)) (exp_tokens e)
  clause_tokens _ = []

  pub step_tokens : OptionStm → List Terminal
  step_tokens NoneStm = []
  step_tokens (SomeStm s) = clause_tokens s

  pub stm_tokens : Stm → List Terminal
  stm_tokens (Let w v) = declared_tokens v w ++ k.Semi ∷ []
  stm_tokens (Assign t e) = (exp_tokens t ++ k.Assign ∷ exp_tokens e) ++ k.Semi ∷ []
  stm_tokens (Do e) = wrapped (is_dict (form_of e)) (exp_tokens e) ++ k.Semi ∷ []
  stm_tokens (Return v) = returned_tokens v
  stm_tokens (Throw e) = (k.Throw ∷ exp_tokens e) ++ k.Semi ∷ []
  stm_tokens (If c b o) = k.If ∷ k.Open ∷ (exp_tokens c ++ k.Close ∷ ((k.OpenBrace ∷ (stms_tokens b ++ k.CloseBrace ∷ [])) ++ else_tokens o))
  stm_tokens (While c b) = k.While ∷ k.Open ∷ (exp_tokens c ++ k.Close ∷ k.OpenBrace ∷ (stms_tokens b ++ k.CloseBrace ∷ []))
  stm_tokens (For s c n b) = k.For ∷ k.Open ∷ ((step_tokens s ++ k.Semi ∷ (condition_tokens c ++ k.Semi ∷ step_tokens n)) ++ k.Close ∷ k.OpenBrace ∷ (stms_tokens b ++ k.CloseBrace ∷ []))
  stm_tokens (ForIn i v e b) = k.For ∷ k.Open ∷ k.Let ∷ (g.bound i v ++ k.In ∷ (exp_tokens e ++ k.Close ∷ k.OpenBrace ∷ (stms_tokens b ++ k.CloseBrace ∷ [])))
  stm_tokens (Fun f ws b) = k.Fun ∷ k.Word f ∷ k.Open ∷ (names_tokens ws ++ k.OpenBrace ∷ (stms_tokens b ++ k.CloseBrace ∷ []))
  stm_tokens (Try b w c) = k.Try ∷ ((k.OpenBrace ∷ (stms_tokens b ++ k.CloseBrace ∷ [])) ++ k.Catch ∷ k.Open ∷ k.Word w ∷ k.Close ∷ k.OpenBrace ∷ (stms_tokens c ++ k.CloseBrace ∷ []))
  stm_tokens (Block b) = k.OpenBrace ∷ (stms_tokens b ++ k.CloseBrace ∷ [])

  pub else_tokens : OptionStms → List Terminal
  else_tokens NoneStms = []
  else_tokens (SomeStms b) = k.Else ∷ k.OpenBrace ∷ (stms_tokens b ++ k.CloseBrace ∷ [])

  pub stms_tokens : Stms → List Terminal
  stms_tokens Done = []
  stms_tokens (Then s ss) = stm_tokens s ++ stms_tokens ss
