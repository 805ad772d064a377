-- A tree has at most two statements and expressions for each of its tokens.
use Rattle.std.proofs.Common.{◌≡◌, ℕ, zero, suc, ◌+◌, ◌*◌, ◌<◌, ◌≤◌, Bool, true, List, [], ◌∷◌, ◌++◌, length, ap, arith, length-append, inl, inr, pos}
use Rattle.hog_tree.specs.Plain.{Exp, Int, Truth, Null, Text, Template, Name, Array, Dict, Neg, Not, Binary, Coalesce, Prop, PropNullish, Index, Call, Lambda, Exps, NoExp, MoreExp, Parts, NoPart, MoreText, MoreHole, Pairs, NoPair, MorePair, Body, OneExp, ManyStms, Stm, Let, Assign, Do, Return, Throw, If, While, For, ForIn, Fun, Try, Block, Stms, Done, Then, OptionExp, NoneExp, SomeExp, OptionStm, NoneStm, SomeStm, OptionStms, NoneStms, SomeStms}
use Rattle.hog_tree.specs.declared.tree.BinaryOp.{BinaryOp}
use Rattle.hog_tree.specs.declared.tree.BinaryOp.TheVariants as o
use Rattle.hog_grammar.specs.Terminal.{Terminal, word}
use Rattle.hog_grammar.specs.Terminal as k
use Rattle.hog_grammar.specs.Forms.{enclosed, semis, Listing, Others, Governed}
use Rattle.hog_grammar.specs.Spelling.{tokens_of, Bare, items, entries, OfParts, OfBody, OfStm, OfStms, OnlyOne, OfElse, Declared, Returned, Condition, Start, Step, bound, Spells}
use Rattle.hog_tree.specs.Count.{of_exp, of_exps, of_parts, of_pairs, of_body, of_stm, of_stms, of_option_exp, of_option_stm, of_option_stms}
use Rattle.hog_spelling.proofs.Forms.{Spelled}

-- An expression has fewer than two for each token, so that one is left for a statement of it.

enclosed_length : (p : ℕ) (ts : List Terminal) → length ts ≤ length (enclosed p ts)
enclosed_length zero ts = omega arith
enclosed_length (suc p) ts = omega (arith, enclosed_length p ts, length-append (enclosed p ts) (k.Close ∷ []))

semis_length : (e : ℕ) (us : List Terminal) → length (semis e us) ≡ e + length us
semis_length zero us = omega arith
semis_length (suc e) us = omega (arith, semis_length e us)

abbrev Few : Exp → Type 0
Few e = (ts : List Terminal) (h : ℕ) → Bare e ts h → suc (of_exp e) ≤ 2 * length ts

few_at : (e : Exp) → Few e → (l : ℕ) (ts : List Terminal) (h : ℕ) → Spelled e l ts h → suc (of_exp e) ≤ 2 * length ts
few_at e hyp l ts h a = omega (arith, hyp a.inner a.low a.bare, ap length a.tokens, enclosed_length a.pairs a.inner)

few_int : (n : _) → Few (Int n)
few_int (pos n) ts h b = omega (arith, ap length b.tokens)
few_int _ ts h b = absurd b

pub operator_some : (op : BinaryOp) → 0 < length (tokens_of op)
operator_some o.Or = omega arith
operator_some o.And = omega arith
operator_some o.Equal = omega arith
operator_some o.NotEqual = omega arith
operator_some o.Less = omega arith
operator_some o.LessEqual = omega arith
operator_some o.Greater = omega arith
operator_some o.GreaterEqual = omega arith
operator_some o.IsIn = omega arith
operator_some o.NotIn = omega arith
operator_some o.Plus = omega arith
operator_some o.Minus = omega arith
operator_some o.Times = omega arith

few_governed : (ss : Stms) (ts rest : List Terminal) (h : ℕ) → ((ts rest : List Terminal) (h : ℕ) → OnlyOne ss ts rest h → of_stms ss ≤ 2 * length ts) → ((ts rest : List Terminal) (h : ℕ) → OfStms ss ts rest h → of_stms ss ≤ 2 * length ts)
    → Governed (OfStms ss) (OnlyOne ss) ts rest h → of_stms ss ≤ 2 * length ts
few_governed ss ts rest h one many (inl b) = omega (arith, ap length b.tokens, length-append b.inner (k.CloseBrace ∷ []), many b.inner (k.CloseBrace ∷ rest) b.low b.part)
few_governed ss ts rest h one many (inr b) = one ts rest h b

mutual
  few : (e : Exp) → Few e
  few (Int n) ts h b = few_int n ts h b
  few (Truth v) ts h b = omega (arith, ap length b.tokens)
  few Null ts h b = omega (arith, ap length b.tokens)
  few (Text bs) ts h b = omega (arith, ap length b.tokens)
  few (Template ps) ts h b = omega (arith, ap length b.tokens, few_parts ps b.inner b.low b.part)
  few (Name w) ts h b = omega (arith, ap length b.tokens)
  few (Array es) ts h b = omega (arith, ap length b.tokens, few_list true k.CloseBracket es b.inner b.low b.part)
  few (Dict ds) ts h b = omega (arith, ap length b.tokens, few_entries true k.CloseBrace ds b.inner b.low b.part)
  few (Neg e) ts h b = omega (arith, ap length b.tokens, few_at e (few e) 9 b.inner b.low b.part)
  few (Not e) ts h b = omega (arith, ap length b.tokens, few_at e (few e) 4 b.inner b.low b.part)
  few (Binary op x y) ts h b = let l = few_at x (few x) _ b.left b.low b.first in let r = few_at y (few y) _ b.right b.other b.second in
      omega (arith, ap length b.tokens, length-append b.left (tokens_of op ++ b.right), length-append (tokens_of op) b.right, operator_some op, l, r)
  few (Coalesce x y) ts h b = let l = few_at x (few x) 5 b.left b.low b.first in let r = few_at y (few y) 6 b.right b.other b.second in omega (arith, ap length b.tokens, length-append b.left (k.Coalesce ∷ b.right), l, r)
  few (Prop e w) ts h b = omega (arith, ap length b.tokens, length-append b.inner (k.Dot ∷ word w ∷ []), few_at e (few e) 10 b.inner b.low b.part)
  few (PropNullish e w) ts h b = omega (arith, ap length b.tokens, length-append b.inner (k.NullishDot ∷ word w ∷ []), few_at e (few e) 10 b.inner b.low b.part)
  few (Index e i) ts h b = let l = few_at e (few e) 10 b.left b.low b.first in let r = few_at i (few i) 1 b.right b.other b.second in
      omega (arith, ap length b.tokens, length-append b.left (k.OpenBracket ∷ (b.right ++ k.CloseBracket ∷ [])), length-append b.right (k.CloseBracket ∷ []), l, r)
  few (Call f es) ts h b = let l = few_at f (few f) 10 b.left b.low b.first in let r = few_list _ k.Close es b.right b.other b.second in omega (arith, ap length b.tokens, length-append b.left (k.Open ∷ b.right), l, r)
  few (Lambda ws c) ts h b = omega (arith, ap length b.tokens, length-append b.left (k.Arrow ∷ b.right), few_body c b.right b.other b.second)

  few_list : (comma : Bool) (close : Terminal) (es : Exps) (ts : List Terminal) (h : ℕ) → Listing comma close (items es) ts h → of_exps es ≤ 2 * length ts
  few_list comma close NoExp ts h b = omega arith
  few_list comma close (MoreExp e es) ts h b = let l = few_at e (few e) 1 b.left b.low b.first in let r = few_others comma close es b.right b.other b.second in omega (arith, ap length b.tokens, length-append b.left b.right, l, r)

  few_others : (comma : Bool) (close : Terminal) (es : Exps) (ts : List Terminal) (h : ℕ) → Others comma close (items es) ts h → of_exps es ≤ 2 * length ts
  few_others comma close NoExp ts h b = omega arith
  few_others comma close (MoreExp e es) ts h b = let l = few_at e (few e) 1 b.left b.low b.first in let r = few_others comma close es b.right b.other b.second in omega (arith, ap length b.tokens, length-append b.left b.right, l, r)

  few_entries : (comma : Bool) (close : Terminal) (ds : Pairs) (ts : List Terminal) (h : ℕ) → Listing comma close (entries ds) ts h → of_pairs ds ≤ 2 * length ts
  few_entries comma close NoPair ts h b = omega arith
  few_entries comma close (MorePair x y ds) ts h b =
      let p = b.first in
      let l = few_at x (few x) 1 p.left p.low p.first in
      let m = few_at y (few y) 1 p.right p.other p.second in
      let r = few_other_entries comma close ds b.right b.other b.second in
      omega (arith, ap length b.tokens, length-append b.left b.right, ap length p.tokens, length-append p.left (k.Colon ∷ p.right), l, m, r)

  few_other_entries : (comma : Bool) (close : Terminal) (ds : Pairs) (ts : List Terminal) (h : ℕ) → Others comma close (entries ds) ts h → of_pairs ds ≤ 2 * length ts
  few_other_entries comma close NoPair ts h b = omega arith
  few_other_entries comma close (MorePair x y ds) ts h b =
      let p = b.first in
      let l = few_at x (few x) 1 p.left p.low p.first in
      let m = few_at y (few y) 1 p.right p.other p.second in
      let r = few_other_entries comma close ds b.right b.other b.second in
      omega (arith, ap length b.tokens, length-append b.left b.right, ap length p.tokens, length-append p.left (k.Colon ∷ p.right), l, m, r)

  few_parts : (ps : Parts) (ts : List Terminal) (h : ℕ) → OfParts ps ts h → of_parts ps ≤ 2 * length ts
  few_parts NoPart ts h b = omega arith
  few_parts (MoreText bs ps) ts h b = omega (arith, ap length b.tokens, few_parts ps b.inner b.low b.part)
  few_parts (MoreHole e ps) ts h b = let l = few_at e (few e) 1 b.left b.low b.first in let r = few_parts ps b.right b.other b.second in omega (arith, ap length b.tokens, length-append b.left (k.HoleEnd ∷ b.right), l, r)

  few_body : (c : Body) (ts : List Terminal) (h : ℕ) → OfBody c ts h → of_body c ≤ 2 * length ts
  few_body (OneExp e) ts h b = omega (arith, few_at e (few e) 1 ts h b.part)
  few_body (ManyStms ss) ts h b = omega (arith, ap length b.tokens, length-append b.inner (k.CloseBrace ∷ []), few_stms ss b.inner (k.CloseBrace ∷ []) b.low b.part)

  few_declared : (v : OptionExp) (x : _) (ts : List Terminal) (h : ℕ) → Declared v x ts h → suc (of_option_exp v) ≤ 2 * length ts
  few_declared NoneExp x ts h b = omega (arith, ap length b.tokens)
  few_declared (SomeExp e) x ts h b = omega (arith, ap length b.tokens, few_at e (few e) 1 b.inner b.low b.part)

  few_returned : (v : OptionExp) (ts rest : List Terminal) (h : ℕ) → Returned v ts rest h → suc (of_option_exp v) ≤ 2 * length ts
  few_returned NoneExp ts rest h (inl b) = omega (arith, ap length b.tokens)
  few_returned NoneExp ts rest h (inr b) = omega (arith, ap length b.1.tokens)
  few_returned (SomeExp e) ts rest h b = let p = b.part in let l = few_at e (few e) 1 p.inner p.low p.part in omega (arith, ap length b.tokens, length-append b.inner b.ending, ap length p.tokens, l)

  few_stm : (s : Stm) (ts rest : List Terminal) (h : ℕ) → OfStm s ts rest h → of_stm s ≤ 2 * length ts
  few_stm (Let x v) ts rest h b = omega (arith, ap length b.tokens, length-append b.inner b.ending, few_declared v x b.inner h b.part)
  few_stm (Assign t e) ts rest h b = let p = b.part.part.1 in let l = few_at t (few t) 1 p.left p.low p.first in let r = few_at e (few e) 1 p.right p.other p.second in
      omega (arith, ap length b.tokens, length-append b.inner b.ending, ap length p.tokens, length-append p.left (k.Assign ∷ p.right), l, r)
  few_stm (Do e) ts rest h b = let p = b.part.part in let l = few_at e (few e) 1 p.inner p.low p.part in omega (arith, ap length b.tokens, length-append b.inner b.ending, ap length p.tokens, l)
  few_stm (Return v) ts rest h b = omega (arith, few_returned v ts rest h b)
  few_stm (Throw e) ts rest h b = let p = b.part in let l = few_at e (few e) 1 p.inner p.low p.part in omega (arith, ap length b.tokens, length-append b.inner b.ending, ap length p.tokens, l)
  few_stm (If c s o) ts rest h b =
      let l = few_at c (few c) 1 b.left b.low b.first in
      let p = b.second in
      let m = few_governed s p.left (p.right ++ rest) p.low (few_one s) (few_stms s) p.first in
      let r = few_else o p.right rest p.other p.second in
      omega (arith, ap length b.tokens, length-append b.left (k.Close ∷ b.right), ap length p.tokens, length-append p.left p.right, l, m, r)
  few_stm (While c s) ts rest h b =
      let l = few_at c (few c) 1 b.left b.low b.first in
      let m = few_governed s b.right rest b.other (few_one s) (few_stms s) b.second in
      omega (arith, ap length b.tokens, length-append b.left (k.Close ∷ b.right), l, m)
  few_stm (For i c n s) ts rest h b =
      let p = b.first in
      let q = p.second in
      let f = few_start i p.left p.low p.first in
      let g = few_condition c q.left q.low q.first in
      let j = few_step n q.right q.other q.second in
      let m = few_governed s b.right rest b.other (few_one s) (few_stms s) b.second in
      omega (arith, ap length b.tokens, length-append b.left (k.Close ∷ b.right), ap length p.tokens, length-append p.left (k.Semi ∷ p.right), ap length q.tokens, length-append q.left (k.Semi ∷ q.right), f, g, j, m)
  few_stm (ForIn i v e s) ts rest h b =
      let l = few_at e (few e) 1 b.left b.low b.first in
      let m = few_governed s b.right rest b.other (few_one s) (few_stms s) b.second in
      omega (arith, ap length b.tokens, length-append (bound i v) (k.In ∷ (b.left ++ k.Close ∷ b.right)), length-append b.left (k.Close ∷ b.right), l, m)
  few_stm (Fun f ws s) ts rest h b =
      let p = b.second in
      let m = few_stms s p.inner (k.CloseBrace ∷ rest) p.low p.part in
      omega (arith, ap length b.tokens, length-append b.left b.right, ap length p.tokens, length-append p.inner (k.CloseBrace ∷ []), m)
  few_stm (Try s w c) ts rest h b =
      let p = b.part in
      let f = p.first in
      let g = p.second in
      let l = few_stms s f.inner _ f.low f.part in
      let r = few_stms c g.inner _ g.low g.part in
      omega (arith, ap length b.tokens, ap length p.tokens, length-append p.left (k.Catch ∷ k.Open ∷ k.Word w ∷ k.Close ∷ p.right), ap length f.tokens, length-append f.inner (k.CloseBrace ∷ []), ap length g.tokens, length-append g.inner (k.CloseBrace ∷ []), l, r)
  few_stm (Block s) ts rest h b = omega (arith, ap length b.tokens, length-append b.inner (k.CloseBrace ∷ []), few_stms s b.inner (k.CloseBrace ∷ rest) b.low b.part)

  few_stms : (ss : Stms) (ts rest : List Terminal) (h : ℕ) → OfStms ss ts rest h → of_stms ss ≤ 2 * length ts
  few_stms Done ts rest h b = omega arith
  few_stms (Then s ss) ts rest h b = let l = few_stm s b.left (b.right ++ rest) b.low b.first in let r = few_stms ss b.right rest b.other b.second in
      omega (arith, ap length b.tokens, semis_length b.empty (b.left ++ b.right), length-append b.left b.right, l, r)

  few_one : (ss : Stms) (ts rest : List Terminal) (h : ℕ) → OnlyOne ss ts rest h → of_stms ss ≤ 2 * length ts
  few_one Done ts rest h b = omega arith
  few_one (Then s Done) ts rest h b = omega (arith, few_stm s ts rest h b.part)
  few_one (Then s (Then r ss)) ts rest h b = absurd b

  few_else : (o : OptionStms) (ts rest : List Terminal) (h : ℕ) → OfElse o ts rest h → of_option_stms o ≤ 2 * length ts
  few_else NoneStms ts rest h b = omega arith
  few_else (SomeStms s) ts rest h b = omega (arith, ap length b.tokens, few_governed s b.inner rest b.low (few_one s) (few_stms s) b.part)

  few_condition : (c : OptionExp) (ts : List Terminal) (h : ℕ) → Condition c ts h → of_option_exp c ≤ 2 * length ts
  few_condition NoneExp ts h b = omega arith
  few_condition (SomeExp e) ts h b = omega (arith, few_at e (few e) 1 ts h b)

  few_start : (s : OptionStm) (ts : List Terminal) (h : ℕ) → Start s ts h → of_option_stm s ≤ 2 * length ts
  few_start NoneStm ts h b = omega arith
  few_start (SomeStm (Let x v)) ts h b = omega (arith, few_declared v x ts h b)
  few_start (SomeStm (Assign t e)) ts h b = let p = b.1 in let l = few_at t (few t) 1 p.left p.low p.first in let r = few_at e (few e) 1 p.right p.other p.second in omega (arith, ap length p.tokens, length-append p.left (k.Assign ∷ p.right), l, r)
  few_start (SomeStm (Do e)) ts h b = omega (arith, ap length b.tokens, few_at e (few e) 1 b.inner b.low b.part)
  few_start (SomeStm (Return v)) ts h b = absurd b
  few_start (SomeStm (Throw e)) ts h b = absurd b
  few_start (SomeStm (If c b2 o2)) ts h b = absurd b
  few_start (SomeStm (While c b2)) ts h b = absurd b
  few_start (SomeStm (For r c n b2)) ts h b = absurd b
  few_start (SomeStm (ForIn i v e b2)) ts h b = absurd b
  few_start (SomeStm (Fun f ws b2)) ts h b = absurd b
  few_start (SomeStm (Try b2 w c)) ts h b = absurd b
  few_start (SomeStm (Block b2)) ts h b = absurd b

  few_step : (s : OptionStm) (ts : List Terminal) (h : ℕ) → Step s ts h → of_option_stm s ≤ 2 * length ts
  few_step NoneStm ts h b = omega arith
  few_step (SomeStm (Assign t e)) ts h b = let p = b.1 in let l = few_at t (few t) 1 p.left p.low p.first in let r = few_at e (few e) 1 p.right p.other p.second in omega (arith, ap length p.tokens, length-append p.left (k.Assign ∷ p.right), l, r)
  few_step (SomeStm (Do e)) ts h b = omega (arith, ap length b.tokens, few_at e (few e) 1 b.inner b.low b.part)
  few_step (SomeStm (Let x v)) ts h b = absurd b
  few_step (SomeStm (Return v)) ts h b = absurd b
  few_step (SomeStm (Throw e)) ts h b = absurd b
  few_step (SomeStm (If c b2 o2)) ts h b = absurd b
  few_step (SomeStm (While c b2)) ts h b = absurd b
  few_step (SomeStm (For r c n b2)) ts h b = absurd b
  few_step (SomeStm (ForIn i v e b2)) ts h b = absurd b
  few_step (SomeStm (Fun f ws b2)) ts h b = absurd b
  few_step (SomeStm (Try b2 w c)) ts h b = absurd b
  few_step (SomeStm (Block b2)) ts h b = absurd b

-- A program has at most two statements and expressions for each of its tokens.
pub two_for_each : (ss : Stms) (ts : List Terminal) (h : ℕ) → Spells ss ts h → of_stms ss ≤ 2 * length ts
two_for_each ss ts h b = few_stms ss ts [] h b
