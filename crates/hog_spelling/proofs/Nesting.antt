-- Functions stand in one another no more than a tree is high.
use Rattle.std.proofs.Common.{◌≤◌, ℕ, List, [], ◌∷◌, ◌++◌, Bool, true, false, inl, inr, arith}
use Rattle.hog_tree.specs.Plain.{Word, Exp, Exps, Parts, Pairs, Body, Stm, Stms, OptionExp, OptionStm, OptionStms, Int, Truth, Null, Text, Template, Name, Array, Dict, Neg, Not, Binary, Coalesce, Prop, PropNullish, Index, Call, Lambda, NoExp, MoreExp, NoPart, MoreText, MoreHole, NoPair, MorePair, OneExp, ManyStms, Let, Assign, Do, Return, Throw, If, While, For, ForIn, Fun, Try, Block, Done, Then, NoneExp, SomeExp, NoneStm, SomeStm, NoneStms, SomeStms}
use Rattle.hog_grammar.specs.Terminal.{Terminal}
use Rattle.hog_grammar.specs.Terminal as k
use Rattle.hog_grammar.specs.Forms.{Listing, Others, Governed}
use Rattle.hog_grammar.specs.Spelling.{Bare, items, entries, OfParts, OfBody, OfStm, OfStms, OnlyOne, OfElse, Declared, Returned, Condition, Start, Step}
use Rattle.hog_tree.specs.Nesting.{exp_nesting, exps_nesting, parts_nesting, pairs_nesting, body_nesting, stm_nesting, stms_nesting, option_exp_nesting, option_stm_nesting, option_stms_nesting}

mutual
  bare_low : (x : Exp) (ts : List Terminal) (h : ℕ) → Bare x ts h → exp_nesting x ≤ h
  bare_low (Int n) ts h s = omega arith
  bare_low (Truth v) ts h s = omega arith
  bare_low Null ts h s = omega arith
  bare_low (Text t) ts h s = omega arith
  bare_low (Template ps) ts h s = omega (arith, parts_low ps s.inner s.low s.part, s.height)
  bare_low (Name w) ts h s = omega arith
  bare_low (Array xs) ts h s = omega (arith, items_low xs true k.CloseBracket s.inner s.low s.part, s.height)
  bare_low (Dict ds) ts h s = omega (arith, entries_low ds true k.CloseBrace s.inner s.low s.part, s.height)
  bare_low (Neg x) ts h s = omega (arith, bare_low x s.part.inner s.part.low s.part.bare, s.part.height, s.height)
  bare_low (Not x) ts h s = omega (arith, bare_low x s.part.inner s.part.low s.part.bare, s.part.height, s.height)
  bare_low (Binary op x y) ts h s = omega (arith, bare_low x s.first.inner s.first.low s.first.bare, s.first.height, bare_low y s.second.inner s.second.low s.second.bare, s.second.height, s.height)
  bare_low (Coalesce x y) ts h s = omega (arith, bare_low x s.first.inner s.first.low s.first.bare, s.first.height, bare_low y s.second.inner s.second.low s.second.bare, s.second.height, s.height)
  bare_low (Prop x w) ts h s = omega (arith, bare_low x s.part.inner s.part.low s.part.bare, s.part.height, s.height)
  bare_low (PropNullish x w) ts h s = omega (arith, bare_low x s.part.inner s.part.low s.part.bare, s.part.height, s.height)
  bare_low (Index x y) ts h s = omega (arith, bare_low x s.first.inner s.first.low s.first.bare, s.first.height, bare_low y s.second.inner s.second.low s.second.bare, s.second.height, s.height)
  bare_low (Call f xs) ts h s = omega (arith, bare_low f s.first.inner s.first.low s.first.bare, s.first.height, items_low xs false k.Close s.right s.other s.second, s.height)
  bare_low (Lambda ws b) ts h s = omega (arith, body_low b s.right s.other s.second, s.height)

  items_low : (xs : Exps) (comma : Bool) (mark : Terminal) (ts : List Terminal) (h : ℕ) → Listing comma mark (items xs) ts h → exps_nesting xs ≤ h
  items_low NoExp comma mark ts h s = omega arith
  items_low (MoreExp x xs) comma mark ts h s = omega (arith, bare_low x s.first.inner s.first.low s.first.bare, s.first.height, others_low xs comma mark s.right s.other s.second, s.height)

  others_low : (xs : Exps) (comma : Bool) (mark : Terminal) (ts : List Terminal) (h : ℕ) → Others comma mark (items xs) ts h → exps_nesting xs ≤ h
  others_low NoExp comma mark ts h s = omega arith
  others_low (MoreExp x xs) comma mark ts h s = omega (arith, bare_low x s.first.inner s.first.low s.first.bare, s.first.height, others_low xs comma mark s.right s.other s.second, s.height)

  entries_low : (ds : Pairs) (comma : Bool) (mark : Terminal) (ts : List Terminal) (h : ℕ) → Listing comma mark (entries ds) ts h → pairs_nesting ds ≤ h
  entries_low NoPair comma mark ts h s = omega arith
  entries_low (MorePair x y ds) comma mark ts h s = omega (arith, bare_low x s.first.first.inner s.first.first.low s.first.first.bare, s.first.first.height, bare_low y s.first.second.inner s.first.second.low s.first.second.bare, s.first.second.height, s.first.height, more_low ds comma mark s.right s.other s.second, s.height)

  more_low : (ds : Pairs) (comma : Bool) (mark : Terminal) (ts : List Terminal) (h : ℕ) → Others comma mark (entries ds) ts h → pairs_nesting ds ≤ h
  more_low NoPair comma mark ts h s = omega arith
  more_low (MorePair x y ds) comma mark ts h s = omega (arith, bare_low x s.first.first.inner s.first.first.low s.first.first.bare, s.first.first.height, bare_low y s.first.second.inner s.first.second.low s.first.second.bare, s.first.second.height, s.first.height, more_low ds comma mark s.right s.other s.second, s.height)

  parts_low : (ps : Parts) (ts : List Terminal) (h : ℕ) → OfParts ps ts h → parts_nesting ps ≤ h
  parts_low NoPart ts h s = omega arith
  parts_low (MoreText t ps) ts h s = omega (arith, parts_low ps s.inner s.low s.part, s.height)
  parts_low (MoreHole x ps) ts h s = omega (arith, bare_low x s.first.inner s.first.low s.first.bare, s.first.height, parts_low ps s.right s.other s.second, s.height)

  body_low : (b : Body) (ts : List Terminal) (h : ℕ) → OfBody b ts h → body_nesting b ≤ h
  body_low (OneExp x) ts h s = omega (arith, bare_low x s.part.inner s.part.low s.part.bare, s.part.height)
  body_low (ManyStms ss) ts h s = omega (arith, stms_low ss s.inner (k.CloseBrace ∷ []) s.low s.part, s.height)

  stm_low : (x : Stm) (ts rest : List Terminal) (h : ℕ) → OfStm x ts rest h → stm_nesting x ≤ h
  stm_low (Let x v) ts rest h s = value_low v x s.inner h s.part
  stm_low (Assign t e) ts rest h s =
      let a = s.part.part.1 in
      omega (arith, bare_low t a.first.inner a.first.low a.first.bare, a.first.height, bare_low e a.second.inner a.second.low a.second.bare, a.second.height, a.height)
  stm_low (Do e) ts rest h s =
      let a = s.part.part in
      omega (arith, bare_low e a.part.inner a.part.low a.part.bare, a.part.height, a.height)
  stm_low (Return v) ts rest h s = returned_low v ts rest h s
  stm_low (Throw e) ts rest h s =
      let a = s.part in
      omega (arith, bare_low e a.part.inner a.part.low a.part.bare, a.part.height, a.height)
  stm_low (If c b o) ts rest h s =
      omega (arith, bare_low c s.first.inner s.first.low s.first.bare, s.first.height, governed_low b s.second.left ([] ++ (s.second.right ++ rest)) s.second.low s.second.first, else_low o s.second.right rest s.second.other s.second.second, s.second.height, s.height)
  stm_low (While c b) ts rest h s = omega (arith, bare_low c s.first.inner s.first.low s.first.bare, s.first.height, governed_low b s.right rest s.other s.second, s.height)
  stm_low (For a c n b) ts rest h s =
      omega (arith, start_low a s.first.left s.first.low s.first.first, condition_low c s.first.second.left s.first.second.low s.first.second.first, step_low n s.first.second.right s.first.second.other s.first.second.second, s.first.second.height, s.first.height, governed_low b s.right rest s.other s.second, s.height)
  stm_low (ForIn i v e b) ts rest h s = omega (arith, bare_low e s.first.inner s.first.low s.first.bare, s.first.height, governed_low b s.right rest s.other s.second, s.height)
  stm_low (Fun f ws b) ts rest h s = omega (arith, stms_low b s.second.inner (k.CloseBrace ∷ rest) s.second.low s.second.part, s.second.height, s.height)
  stm_low (Try b w c) ts rest h s =
      omega (arith, stms_low b s.part.first.inner (k.CloseBrace ∷ ((k.Catch ∷ k.Open ∷ k.Word w ∷ k.Close ∷ []) ++ (s.part.right ++ rest))) s.part.first.low s.part.first.part, s.part.first.height, stms_low c s.part.second.inner (k.CloseBrace ∷ rest) s.part.second.low s.part.second.part, s.part.second.height, s.part.height, s.height)
  stm_low (Block b) ts rest h s = omega (arith, stms_low b s.inner (k.CloseBrace ∷ rest) s.low s.part, s.height)

  pub stms_low : (ss : Stms) (ts rest : List Terminal) (h : ℕ) → OfStms ss ts rest h → stms_nesting ss ≤ h
  stms_low Done ts rest h s = omega arith
  stms_low (Then x ss) ts rest h s = omega (arith, stm_low x s.left (s.right ++ rest) s.low s.first, stms_low ss s.right rest s.other s.second, s.height)

  -- what a condition, a loop or `else` governs
  governed_low : (b : Stms) (ts rest : List Terminal) (h : ℕ) → Governed (OfStms b) (OnlyOne b) ts rest h → stms_nesting b ≤ h
  governed_low Done ts rest h s = omega arith
  governed_low (Then x Done) ts rest h (inl s) = omega (arith, stm_low x s.part.left (s.part.right ++ k.CloseBrace ∷ rest) s.part.low s.part.first, s.part.height, s.height)
  governed_low (Then x Done) ts rest h (inr s) = omega (arith, stm_low x ts rest h s.part)
  governed_low (Then x (Then y ss)) ts rest h (inl s) =
      let more = s.part.second in
      omega (arith, stm_low x s.part.left (s.part.right ++ k.CloseBrace ∷ rest) s.part.low s.part.first, stm_low y more.left (more.right ++ k.CloseBrace ∷ rest) more.low more.first, stms_low ss more.right (k.CloseBrace ∷ rest) more.other more.second, more.height, s.part.height, s.height)
  governed_low (Then x (Then y ss)) ts rest h (inr s) = absurd s

  else_low : (o : OptionStms) (ts rest : List Terminal) (h : ℕ) → OfElse o ts rest h → option_stms_nesting o ≤ h
  else_low NoneStms ts rest h s = omega arith
  else_low (SomeStms b) ts rest h s = omega (arith, governed_low b s.inner rest s.low s.part, s.height)

  value_low : (v : OptionExp) (x : Word) (ts : List Terminal) (h : ℕ) → Declared v x ts h → option_exp_nesting v ≤ h
  value_low NoneExp x ts h s = omega arith
  value_low (SomeExp e) x ts h s = omega (arith, bare_low e s.part.inner s.part.low s.part.bare, s.part.height, s.height)

  returned_low : (v : OptionExp) (ts rest : List Terminal) (h : ℕ) → Returned v ts rest h → option_exp_nesting v ≤ h
  returned_low NoneExp ts rest h s = omega arith
  returned_low (SomeExp e) ts rest h s =
      let a = s.part in
      omega (arith, bare_low e a.part.inner a.part.low a.part.bare, a.part.height, a.height)

  condition_low : (v : OptionExp) (ts : List Terminal) (h : ℕ) → Condition v ts h → option_exp_nesting v ≤ h
  condition_low NoneExp ts h s = omega arith
  condition_low (SomeExp e) ts h s = omega (arith, bare_low e s.inner s.low s.bare, s.height)

  start_low : (a : OptionStm) (ts : List Terminal) (h : ℕ) → Start a ts h → option_stm_nesting a ≤ h
  start_low NoneStm ts h s = omega arith
  start_low (SomeStm (Let x NoneExp)) ts h s = omega arith
  start_low (SomeStm (Let x (SomeExp e))) ts h s = omega (arith, bare_low e s.part.inner s.part.low s.part.bare, s.part.height, s.height)
  start_low (SomeStm (Assign t e)) ts h s =
      let a = s.1 in
      omega (arith, bare_low t a.first.inner a.first.low a.first.bare, a.first.height, bare_low e a.second.inner a.second.low a.second.bare, a.second.height, a.height)
  start_low (SomeStm (Do e)) ts h s = omega (arith, bare_low e s.part.inner s.part.low s.part.bare, s.part.height, s.height)
  start_low (SomeStm (Return v)) ts h s = absurd s
  start_low (SomeStm (Throw e)) ts h s = absurd s
  start_low (SomeStm (If c b o)) ts h s = absurd s
  start_low (SomeStm (While c b)) ts h s = absurd s
  start_low (SomeStm (For a c n b)) ts h s = absurd s
  start_low (SomeStm (ForIn i v e b)) ts h s = absurd s
  start_low (SomeStm (Fun f ws b)) ts h s = absurd s
  start_low (SomeStm (Try b w c)) ts h s = absurd s
  start_low (SomeStm (Block b)) ts h s = absurd s

  step_low : (a : OptionStm) (ts : List Terminal) (h : ℕ) → Step a ts h → option_stm_nesting a ≤ h
  step_low NoneStm ts h s = omega arith
  step_low (SomeStm (Let x v)) ts h s = absurd s
  step_low (SomeStm (Assign t e)) ts h s =
      let a = s.1 in
      omega (arith, bare_low t a.first.inner a.first.low a.first.bare, a.first.height, bare_low e a.second.inner a.second.low a.second.bare, a.second.height, a.height)
  step_low (SomeStm (Do e)) ts h s = omega (arith, bare_low e s.part.inner s.part.low s.part.bare, s.part.height, s.height)
  step_low (SomeStm (Return v)) ts h s = absurd s
  step_low (SomeStm (Throw e)) ts h s = absurd s
  step_low (SomeStm (If c b o)) ts h s = absurd s
  step_low (SomeStm (While c b)) ts h s = absurd s
  step_low (SomeStm (For a c n b)) ts h s = absurd s
  step_low (SomeStm (ForIn i v e b)) ts h s = absurd s
  step_low (SomeStm (Fun f ws b)) ts h s = absurd s
  step_low (SomeStm (Try b w c)) ts h s = absurd s
  step_low (SomeStm (Block b)) ts h s = absurd s
