-- Which tokens spell a tree, and at which height: form by form, from what is spelled to its tokens. The height is
-- the greatest number of statements, expressions and pairs of parentheses round expressions on one path. The
-- parentheses and braces that belong to a form don't count.
use Rattle.std.specs.Prelude.{◌≡◌, ℕ, suc, ℤ, pos, negsuc, List, [], ◌∷◌, ◌++◌, Bool, true, false, Option, Some, None, ◌⊎◌}
use Rattle.hog_tree.specs.declared.tree.BinaryOp.{BinaryOp}
use Rattle.hog_tree.specs.declared.tree.BinaryOp.TheVariants as o
use Rattle.hog_tree.specs.Plain.{Word, Exp, Int, Truth, Null, Text, Template, Name, Array, Dict, Neg, Not, Binary, Coalesce, Prop, PropNullish, Index, Call, Lambda, Exps, NoExp, MoreExp, Parts, NoPart, MoreText, MoreHole, Pairs, NoPair, MorePair, Body, OneExp, ManyStms, Stm, Let, Assign, Do, Return, Throw, If, While, For, ForIn, Fun, Try, Block, Stms, Done, Then, OptionExp, NoneExp, SomeExp, OptionStm, NoneStm, SomeStm, OptionStms, NoneStms, SomeStms}
use Rattle.hog_grammar.specs.Terminal.{Terminal, word}
use Rattle.hog_grammar.specs.Terminal as k
use Rattle.hog_grammar.specs.Forms.{Phrase, Never, Leaf, One, Two, At, Listing, NoBrace, Statement, Ended, Returns, Before, Prefixed, Around, Braced, Listed, Empty, Governed, Only, NoElse}

-- An operator between two operands: its level, 2 for the loosest. Operators of one level group to the left.
abbrev pub level_of : BinaryOp → ℕ
level_of o.Or = 2
level_of o.And = 3
level_of o.Equal = 6
level_of o.NotEqual = 6
level_of o.Less = 6
level_of o.LessEqual = 6
level_of o.Greater = 6
level_of o.GreaterEqual = 6
level_of o.IsIn = 6
level_of o.NotIn = 6
level_of o.Plus = 7
level_of o.Minus = 7
level_of o.Times = 8

abbrev pub tokens_of : BinaryOp → List Terminal
tokens_of o.Or = k.Or ∷ []
tokens_of o.And = k.And ∷ []
tokens_of o.Equal = k.Equal ∷ []
tokens_of o.NotEqual = k.NotEqual ∷ []
tokens_of o.Less = k.Less ∷ []
tokens_of o.LessEqual = k.LessEqual ∷ []
tokens_of o.Greater = k.Greater ∷ []
tokens_of o.GreaterEqual = k.GreaterEqual ∷ []
tokens_of o.IsIn = k.In ∷ []
tokens_of o.NotIn = k.Not ∷ k.In ∷ []
tokens_of o.Plus = k.Plus ∷ []
tokens_of o.Minus = k.Minus ∷ []
tokens_of o.Times = k.Star ∷ []

-- the level of an expression without parentheses round it
abbrev pub level : Exp → ℕ
level (Lambda names body) = 1
level (Binary op a b) = level_of op
level (Not e) = 4
level (Coalesce a b) = 5
level (Neg e) = 9
level (Prop e w) = 10
level (PropNullish e w) = 10
level (Index e i) = 10
level (Call f es) = 10
level (Int n) = 11
level (Truth b) = 11
level Null = 11
level (Text bs) = 11
level (Template ps) = 11
level (Name w) = 11
level (Array es) = 11
level (Dict ds) = 11

-- a number that is written: a minus before it makes a Neg
abbrev pub Digits : ℤ → Phrase
Digits (pos n) = Leaf (k.Number n ∷ []) 1
Digits (negsuc n) = Never

abbrev pub truth : Bool → Terminal
truth true = k.True
truth false = k.False

-- names in order; a reserved word is no name
abbrev pub names : List Word → List Phrase
names [] = []
names (w ∷ ws) = Leaf (k.Word w ∷ []) 0 ∷ names ws

-- one name by itself
abbrev pub Alone : List Word → Phrase
Alone [] = Never
Alone (w ∷ []) = Leaf (k.Word w ∷ []) 0
Alone (w ∷ v ∷ ws) = Never

-- the parameters of an arrow
abbrev pub Parameters : List Word → Phrase
Parameters ws ts h = Alone ws ts h ⊎ One (Listing false k.Close (names ws)) (λ xs. k.Open ∷ xs) 0 ts h

-- what may be assigned to
abbrev pub IsTarget : Exp → Type 0
IsTarget (Name w) = Unit {0}
IsTarget (Prop e w) = Unit {0}
IsTarget (Index e i) = Unit {0}
IsTarget (Int n) = ⊥
IsTarget (Truth b) = ⊥
IsTarget Null = ⊥
IsTarget (Text bs) = ⊥
IsTarget (Template ps) = ⊥
IsTarget (Array es) = ⊥
IsTarget (Dict ds) = ⊥
IsTarget (Neg e) = ⊥
IsTarget (Not e) = ⊥
IsTarget (Binary op a b) = ⊥
IsTarget (Coalesce a b) = ⊥
IsTarget (PropNullish e w) = ⊥
IsTarget (Call f es) = ⊥
IsTarget (Lambda ws b) = ⊥

-- `t := e`, of the spellings of its two sides
abbrev pub Assigned : Exp → Phrase → Phrase → Phrase
Assigned t target value ts h = IsTarget t × Two target value (λ xs ys. xs ++ k.Assign ∷ ys) 1 ts h

-- the names of a `for .. in`
abbrev pub bound : Option Word → Word → List Terminal
bound None v = k.Word v ∷ []
bound (Some i) v = k.Word i ∷ k.Comma ∷ k.Word v ∷ []

-- the start, the condition and the step of a `for`
abbrev pub Header : Phrase → Phrase → Phrase → Phrase
Header start condition step = Two start (Two condition step (λ xs ys. xs ++ k.Semi ∷ ys) 0) (λ xs ys. xs ++ k.Semi ∷ ys) 0

abbrev mutual
  -- an expression without parentheses round it
  pub Bare : Exp → Phrase
  Bare (Int n) = Digits n
  Bare (Truth b) = Leaf (truth b ∷ []) 1
  Bare Null = Leaf (k.Null ∷ []) 1
  Bare (Text bs) = Leaf (k.Text bs ∷ []) 1
  Bare (Template ps) = One (OfParts ps) (λ xs. k.TemplateStart ∷ xs) 1
  Bare (Name w) = Leaf (k.Word w ∷ []) 1
  Bare (Array es) = One (Listing true k.CloseBracket (items es)) (λ xs. k.OpenBracket ∷ xs) 1
  Bare (Dict ds) = One (Listing true k.CloseBrace (entries ds)) (λ xs. k.OpenBrace ∷ xs) 1
  Bare (Neg e) = One (At (Bare e) (level e) 9) (λ xs. k.Minus ∷ xs) 1
  Bare (Not e) = One (At (Bare e) (level e) 4) (λ xs. k.Not ∷ xs) 1
  Bare (Binary op a b) = Two (At (Bare a) (level a) (level_of op)) (At (Bare b) (level b) (suc (level_of op))) (λ xs ys. xs ++ (tokens_of op ++ ys)) 1
  Bare (Coalesce a b) = Two (At (Bare a) (level a) 5) (At (Bare b) (level b) 6) (λ xs ys. xs ++ k.Coalesce ∷ ys) 1
  Bare (Prop e w) = One (At (Bare e) (level e) 10) (λ xs. xs ++ k.Dot ∷ word w ∷ []) 1
  Bare (PropNullish e w) = One (At (Bare e) (level e) 10) (λ xs. xs ++ k.NullishDot ∷ word w ∷ []) 1
  Bare (Index e i) = Two (At (Bare e) (level e) 10) (At (Bare i) (level i) 1) (λ xs ys. xs ++ k.OpenBracket ∷ (ys ++ k.CloseBracket ∷ [])) 1
  Bare (Call f es) = Two (At (Bare f) (level f) 10) (Listing false k.Close (items es)) (λ xs ys. xs ++ k.Open ∷ ys) 1
  Bare (Lambda ws b) = Two (Parameters ws) (OfBody b) (λ xs ys. xs ++ k.Arrow ∷ ys) 1

  -- elements and arguments
  pub items : Exps → List Phrase
  items NoExp = []
  items (MoreExp e es) = At (Bare e) (level e) 1 ∷ items es

  -- the items of a dictionary
  pub entries : Pairs → List Phrase
  entries NoPair = []
  entries (MorePair x y ds) = Two (At (Bare x) (level x) 1) (At (Bare y) (level y) 1) (λ xs ys. xs ++ k.Colon ∷ ys) 0 ∷ entries ds

  -- the parts of a template, and its end
  pub OfParts : Parts → Phrase
  OfParts NoPart = Leaf (k.TemplateEnd ∷ []) 0
  OfParts (MoreText bs ps) = One (OfParts ps) (λ xs. k.Characters bs ∷ xs) 0
  OfParts (MoreHole e ps) = Two (At (Bare e) (level e) 1) (OfParts ps) (λ xs ys. k.HoleStart ∷ (xs ++ k.HoleEnd ∷ ys)) 0

  -- what stands after an arrow: a block where it begins with `{`
  pub OfBody : Body → Phrase
  OfBody (OneExp e) = NoBrace (At (Bare e) (level e) 1)
  OfBody (ManyStms ss) = λ ts h. Braced (OfStms ss) 0 ts [] h

  -- a statement
  pub OfStm : Stm → Statement
  OfStm (Let x v) = Ended (Declared v x)
  OfStm (Assign t e) = Ended (NoBrace (Assigned t (At (Bare t) (level t) 1) (At (Bare e) (level e) 1)))
  OfStm (Do e) = Ended (NoBrace (One (At (Bare e) (level e) 1) (λ xs. xs) 1))
  OfStm (Return v) = Returned v
  OfStm (Throw e) = Ended (One (At (Bare e) (level e) 1) (λ xs. k.Throw ∷ xs) 1)
  OfStm (If c b o) = Before (At (Bare c) (level c) 1) (Around (Governed (OfStms b) (OnlyOne b)) [] (OfElse o)) (λ xs ys. k.If ∷ k.Open ∷ (xs ++ k.Close ∷ ys)) 1
  OfStm (While c b) = Before (At (Bare c) (level c) 1) (Governed (OfStms b) (OnlyOne b)) (λ xs ys. k.While ∷ k.Open ∷ (xs ++ k.Close ∷ ys)) 1
  OfStm (For s c n b) = Before (Header (Start s) (Condition c) (Step n)) (Governed (OfStms b) (OnlyOne b)) (λ xs ys. k.For ∷ k.Open ∷ (xs ++ k.Close ∷ ys)) 1
  OfStm (ForIn i v e b) = Before (At (Bare e) (level e) 1) (Governed (OfStms b) (OnlyOne b)) (λ xs ys. k.For ∷ k.Open ∷ k.Let ∷ (bound i v ++ k.In ∷ (xs ++ k.Close ∷ ys))) 1
  OfStm (Fun f ws b) = Before (Listing false k.Close (names ws)) (Braced (OfStms b) 0) (λ xs ys. k.Fun ∷ k.Word f ∷ k.Open ∷ (xs ++ ys)) 1
  OfStm (Try b w c) = Prefixed (k.Try ∷ []) (Around (Braced (OfStms b) 0) (k.Catch ∷ k.Open ∷ k.Word w ∷ k.Close ∷ []) (Braced (OfStms c) 0)) 1
  OfStm (Block b) = Braced (OfStms b) 1

  pub OfStms : Stms → Statement
  OfStms Done = Empty
  OfStms (Then s ss) = Listed (OfStm s) (OfStms ss)

  -- what is governed, without braces: `;`, or one statement
  pub OnlyOne : Stms → Statement
  OnlyOne Done = λ ts rest h. Leaf (k.Semi ∷ []) 0 ts h
  OnlyOne (Then s Done) = Only (OfStm s)
  OnlyOne (Then s (Then r ss)) = λ ts rest h. ⊥

  pub OfElse : OptionStms → Statement
  OfElse NoneStms = NoElse
  OfElse (SomeStms b) = Prefixed (k.Else ∷ []) (Governed (OfStms b) (OnlyOne b)) 0

  pub Declared : OptionExp → Word → Phrase
  Declared NoneExp x = Leaf (k.Let ∷ k.Word x ∷ []) 1
  Declared (SomeExp e) x = One (At (Bare e) (level e) 1) (λ xs. k.Let ∷ k.Word x ∷ k.Assign ∷ xs) 1

  pub Returned : OptionExp → Statement
  Returned NoneExp = Returns
  Returned (SomeExp e) = Ended (One (At (Bare e) (level e) 1) (λ xs. k.Return ∷ xs) 1)

  pub Condition : OptionExp → Phrase
  Condition NoneExp = Leaf [] 0
  Condition (SomeExp e) = At (Bare e) (level e) 1

  -- the start of a `for`: a declaration, an assignment or an expression, as a statement without its `;`
  pub Start : OptionStm → Phrase
  Start NoneStm = Leaf [] 0
  Start (SomeStm s) = StartOf s

  pub StartOf : Stm → Phrase
  StartOf (Let x v) = Declared v x
  StartOf (Assign t e) = Assigned t (At (Bare t) (level t) 1) (At (Bare e) (level e) 1)
  StartOf (Do e) = One (At (Bare e) (level e) 1) (λ xs. xs) 1
  StartOf (Return v) = Never
  StartOf (Throw e) = Never
  StartOf (If c b o) = Never
  StartOf (While c b) = Never
  StartOf (For s c n b) = Never
  StartOf (ForIn i v e b) = Never
  StartOf (Fun f ws b) = Never
  StartOf (Try b w c) = Never
  StartOf (Block b) = Never

  -- the step of a `for`: an assignment or an expression
  pub Step : OptionStm → Phrase
  Step NoneStm = Leaf [] 0
  Step (SomeStm s) = StepOf s

  pub StepOf : Stm → Phrase
  StepOf (Assign t e) = Assigned t (At (Bare t) (level t) 1) (At (Bare e) (level e) 1)
  StepOf (Do e) = One (At (Bare e) (level e) 1) (λ xs. xs) 1
  StepOf (Let x v) = Never
  StepOf (Return v) = Never
  StepOf (Throw e) = Never
  StepOf (If c b o) = Never
  StepOf (While c b) = Never
  StepOf (For s c n b) = Never
  StepOf (ForIn i v e b) = Never
  StepOf (Fun f ws b) = Never
  StepOf (Try b w c) = Never
  StepOf (Block b) = Never

-- The tokens spell the program at that height.
abbrev pub Spells : Stms → List Terminal → ℕ → Type 0
Spells program ts h = OfStms program ts [] h

-- A list of tokens spells at most one program, at one height.
abbrev pub OneTree : Type 0
OneTree = (a b : Stms) (ts : List Terminal) (h i : ℕ) → Spells a ts h → Spells b ts i → (a ≡ b) × (h ≡ i)
