-- Statements are spelled likewise before all tokens of which the first ones let the same follow.
use Rattle.std.proofs.Common.{◌≡◌, ℕ, List, [], ◌∷◌, ◌++◌, refl, sym, ◌∙◌, inl, inr}
use Rattle.hog_tree.specs.Plain.{Stm, Let, Assign, Do, Return, Throw, If, While, For, ForIn, Fun, Try, Block, Stms, Done, Then, NoneExp, SomeExp, OptionStms, NoneStms, SomeStms}
use Rattle.hog_grammar.specs.Terminal.{Terminal}
use Rattle.hog_grammar.specs.Terminal as k
use Rattle.hog_grammar.specs.Forms.{Phrase, Statement, goes_on, ends_block, begins_else, Ended, Returns, Before, Prefixed, Around, Braced, Listed, Governed, Only}
use Rattle.hog_grammar.specs.Spelling.{OfStm, OfStms, OnlyOne, OfElse}

abbrev pub Like : List Terminal → List Terminal → Type 0
Like a b = (goes_on a ≡ goes_on b) × (ends_block a ≡ ends_block b) × (begins_else a ≡ begins_else b)

like_first : (t : Terminal) (a b : List Terminal) → Like (t ∷ a) (t ∷ b)
like_first k.Open a b = (refl, refl, refl)
like_first k.OpenBracket a b = (refl, refl, refl)
like_first k.Dot a b = (refl, refl, refl)
like_first k.NullishDot a b = (refl, refl, refl)
like_first k.Plus a b = (refl, refl, refl)
like_first k.Minus a b = (refl, refl, refl)
like_first k.Star a b = (refl, refl, refl)
like_first k.Equal a b = (refl, refl, refl)
like_first k.NotEqual a b = (refl, refl, refl)
like_first k.Less a b = (refl, refl, refl)
like_first k.LessEqual a b = (refl, refl, refl)
like_first k.Greater a b = (refl, refl, refl)
like_first k.GreaterEqual a b = (refl, refl, refl)
like_first k.Coalesce a b = (refl, refl, refl)
like_first k.In a b = (refl, refl, refl)
like_first k.Not a b = (refl, refl, refl)
like_first k.And a b = (refl, refl, refl)
like_first k.Or a b = (refl, refl, refl)
like_first k.Assign a b = (refl, refl, refl)
like_first k.Arrow a b = (refl, refl, refl)
like_first k.Semi a b = (refl, refl, refl)
like_first k.CloseBrace a b = (refl, refl, refl)
like_first k.Else a b = (refl, refl, refl)
like_first _ a b = (refl, refl, refl)

like_after : (x a b : List Terminal) → Like a b → Like (x ++ a) (x ++ b)
like_after [] a b same = same
like_after (t ∷ x) a b same = like_first t (x ++ a) (x ++ b)

pub brace_like : (a b : List Terminal) → Like (k.CloseBrace ∷ a) (k.CloseBrace ∷ b)
brace_like a b = (refl, refl, refl)

abbrev pub Moves : Statement → Type 0
Moves P = (ts a b : List Terminal) (h : ℕ) → Like a b → P ts a h → P ts b h

ended_moves : (P : Phrase) → Moves (Ended P)
ended_moves P ts a b h same x = record {
  inner = x.inner;
  ending = x.ending;
  part = x.part;
  ends = elim x.ends [ inl e ↦ inl e | inr e ↦ inr (e.0, sym same.0 ∙ e.1) ];
  tokens = x.tokens;
}

returns_moves : Moves Returns
returns_moves ts a b h same (inl x) = inl x
returns_moves ts a b h same (inr x) = inr (sym same.1 ∙ x.0, x.1)

before_moves : (P : Phrase) (Q : Statement) (made : List Terminal → List Terminal → List Terminal) (more : ℕ) → Moves Q → Moves (Before P Q made more)
before_moves P Q made more q ts a b h same x =
    record { left = x.left; right = x.right; low = x.low; other = x.other; first = x.first; second = q x.right a b x.other same x.second; tokens = x.tokens; height = x.height }

prefixed_moves : (front : List Terminal) (P : Statement) (more : ℕ) → Moves P → Moves (Prefixed front P more)
prefixed_moves front P more p ts a b h same x = record { inner = x.inner; low = x.low; part = p x.inner a b x.low same x.part; tokens = x.tokens; height = x.height }

around_moves : (P : Statement) (middle : List Terminal) (Q : Statement) → Moves P → Moves Q → Moves (Around P middle Q)
around_moves P middle Q p q ts a b h same x = record {
  left = x.left;
  right = x.right;
  low = x.low;
  other = x.other;
  first = p x.left (middle ++ (x.right ++ a)) (middle ++ (x.right ++ b)) x.low (like_after middle (x.right ++ a) (x.right ++ b) (like_after x.right a b same)) x.first;
  second = q x.right a b x.other same x.second;
  tokens = x.tokens;
  height = x.height;
}

pub braced_moves : (P : Statement) (more : ℕ) → Moves P → Moves (Braced P more)
braced_moves P more p ts a b h same x =
    record { inner = x.inner; low = x.low; part = p x.inner (k.CloseBrace ∷ a) (k.CloseBrace ∷ b) x.low (brace_like a b) x.part; tokens = x.tokens; height = x.height }

listed_moves : (P Q : Statement) → Moves P → Moves Q → Moves (Listed P Q)
listed_moves P Q p q ts a b h same x = record {
  empty = x.empty;
  left = x.left;
  right = x.right;
  low = x.low;
  other = x.other;
  first = p x.left (x.right ++ a) (x.right ++ b) x.low (like_after x.right a b same) x.first;
  second = q x.right a b x.other same x.second;
  tokens = x.tokens;
  height = x.height;
}

governed_moves : (P Q : Statement) → Moves P → Moves Q → Moves (Governed P Q)
governed_moves P Q p q ts a b h same (inl x) = inl (braced_moves P 0 p ts a b h same x)
governed_moves P Q p q ts a b h same (inr x) = inr (q ts a b h same x)

only_moves : (P : Statement) → Moves P → Moves (Only P)
only_moves P p ts a b h same x = record { part = p ts a b h same x.part; no_brace = x.no_brace }

mutual
  stm_moves : (s : Stm) → Moves (OfStm s)
  stm_moves (Let x v) ts a b h same y = ended_moves _ ts a b h same y
  stm_moves (Assign t e) ts a b h same y = ended_moves _ ts a b h same y
  stm_moves (Do e) ts a b h same y = ended_moves _ ts a b h same y
  stm_moves (Return NoneExp) ts a b h same y = returns_moves ts a b h same y
  stm_moves (Return (SomeExp e)) ts a b h same y = ended_moves _ ts a b h same y
  stm_moves (Throw e) ts a b h same y = ended_moves _ ts a b h same y
  stm_moves (If c s o) ts a b h same y = before_moves _ _ _ _ (around_moves _ [] _ (governed_moves (OfStms s) (OnlyOne s) (stms_move s) (one_moves s)) (else_moves o)) ts a b h same y
  stm_moves (While c s) ts a b h same y = before_moves _ _ _ _ (governed_moves (OfStms s) (OnlyOne s) (stms_move s) (one_moves s)) ts a b h same y
  stm_moves (For r c n s) ts a b h same y = before_moves _ _ _ _ (governed_moves (OfStms s) (OnlyOne s) (stms_move s) (one_moves s)) ts a b h same y
  stm_moves (ForIn i v e s) ts a b h same y = before_moves _ _ _ _ (governed_moves (OfStms s) (OnlyOne s) (stms_move s) (one_moves s)) ts a b h same y
  stm_moves (Fun f ws s) ts a b h same y = before_moves _ _ _ _ (braced_moves (OfStms s) 0 (stms_move s)) ts a b h same y
  stm_moves (Try s w c) ts a b h same y = prefixed_moves _ _ _ (around_moves _ _ _ (braced_moves (OfStms s) 0 (stms_move s)) (braced_moves (OfStms c) 0 (stms_move c))) ts a b h same y
  stm_moves (Block s) ts a b h same y = braced_moves (OfStms s) 1 (stms_move s) ts a b h same y

  pub stms_move : (ss : Stms) → Moves (OfStms ss)
  stms_move Done ts a b h same y = record { empty = y.empty; tokens = y.tokens; height = y.height }
  stms_move (Then s ss) ts a b h same y = listed_moves (OfStm s) (OfStms ss) (stm_moves s) (stms_move ss) ts a b h same y

  one_moves : (ss : Stms) → Moves (OnlyOne ss)
  one_moves Done ts a b h same y = y
  one_moves (Then s Done) ts a b h same y = only_moves (OfStm s) (stm_moves s) ts a b h same y
  one_moves (Then s (Then r ss)) ts a b h same y = absurd y

  else_moves : (o : OptionStms) → Moves (OfElse o)
  else_moves NoneStms ts a b h same y = record { none = sym same.2 ∙ y.none; tokens = y.tokens; height = y.height }
  else_moves (SomeStms s) ts a b h same y = prefixed_moves _ _ _ (governed_moves (OfStms s) (OnlyOne s) (stms_move s) (one_moves s)) ts a b h same y
