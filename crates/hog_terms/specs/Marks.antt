-- What reading asks of the tokens at the front. Nobody has to trust this file and the other readings: they are
-- what the code computes, and proofs show that they read exactly what `Spells` allows.
use Rattle.std.specs.Prelude.{ℕ, List, [], ◌∷◌, Bool, true, false, Option, Some, None, cond, codes}
use Rattle.hog_tree.specs.declared.tree.BinaryOp.{BinaryOp}
use Rattle.hog_tree.specs.declared.tree.BinaryOp.TheVariants as o
use Rattle.hog_tree.specs.Plain.{Word, Exp, Int, Truth, Null, Text, Template, Name, Array, Dict, Neg, Not, Binary, Coalesce, Prop, PropNullish, Index, Call, Lambda}
use Rattle.hog_grammar.specs.Terminal.{Terminal, word}
use Rattle.hog_grammar.specs.Terminal as k

-- the tokens after a mark
abbrev pub Shut : Type 0
Shut = List Terminal → Option (List Terminal)

abbrev pub after_open : Shut
after_open (k.Open ∷ ts) = Some ts
after_open _ = None

abbrev pub after_close : Shut
after_close (k.Close ∷ ts) = Some ts
after_close _ = None

abbrev pub after_close_bracket : Shut
after_close_bracket (k.CloseBracket ∷ ts) = Some ts
after_close_bracket _ = None

abbrev pub after_open_brace : Shut
after_open_brace (k.OpenBrace ∷ ts) = Some ts
after_open_brace _ = None

abbrev pub after_close_brace : Shut
after_close_brace (k.CloseBrace ∷ ts) = Some ts
after_close_brace _ = None

abbrev pub after_comma : Shut
after_comma (k.Comma ∷ ts) = Some ts
after_comma _ = None

abbrev pub after_semi : Shut
after_semi (k.Semi ∷ ts) = Some ts
after_semi _ = None

abbrev pub after_colon : Shut
after_colon (k.Colon ∷ ts) = Some ts
after_colon _ = None

abbrev pub after_assign : Shut
after_assign (k.Assign ∷ ts) = Some ts
after_assign _ = None

abbrev pub after_arrow : Shut
after_arrow (k.Arrow ∷ ts) = Some ts
after_arrow _ = None

abbrev pub after_hole : Shut
after_hole (k.HoleEnd ∷ ts) = Some ts
after_hole _ = None

abbrev pub after_else : Shut
after_else (k.Else ∷ ts) = Some ts
after_else _ = None

abbrev pub after_in : Shut
after_in (k.In ∷ ts) = Some ts
after_in _ = None

abbrev pub after_let : Shut
after_let (k.Let ∷ ts) = Some ts
after_let _ = None

abbrev pub after_name : List Terminal → Option (Word × List Terminal)
after_name (k.Word w ∷ ts) = Some (w, ts)
after_name _ = None

-- a function's name, and the parenthesis after it
abbrev pub after_function : List Terminal → Option (Word × List Terminal)
after_function (k.Word w ∷ k.Open ∷ ts) = Some (w, ts)
after_function _ = None

-- `catch`, and a name in parentheses
abbrev pub after_catch : List Terminal → Option (Word × List Terminal)
after_catch (k.Catch ∷ k.Open ∷ k.Word w ∷ k.Close ∷ ts) = Some (w, ts)
after_catch _ = None

-- the second name of a `for .. in` after the first and its comma, and `in`
abbrev pub after_key : Word → List Terminal → Option ((Option Word × Word) × List Terminal)
after_key i (k.Word v ∷ k.In ∷ ts) = Some ((Some i, v), ts)
after_key i _ = None

-- what stands after the first name
abbrev pub after_first : Word → List Terminal → Option ((Option Word × Word) × List Terminal)
after_first v (k.In ∷ ts) = Some ((None, v), ts)
after_first i (k.Comma ∷ ts) = after_key i ts
after_first i _ = None

-- `let`, the names of a `for .. in`, and `in`
abbrev pub after_bound : List Terminal → Option ((Option Word × Word) × List Terminal)
after_bound (k.Let ∷ k.Word v ∷ ts) = after_first v ts
after_bound _ = None

abbrev pub is_plain : Terminal → Bool
is_plain (k.Word w) = true
is_plain _ = false

-- the word that is written so
abbrev pub word_of : Terminal → Option Word
word_of (k.Word w) = cond (is_plain (word w)) (Some w) None
word_of k.Let = Some (codes "let")
word_of k.Fun = Some (codes "fun")
word_of k.Return = Some (codes "return")
word_of k.Throw = Some (codes "throw")
word_of k.Try = Some (codes "try")
word_of k.Catch = Some (codes "catch")
word_of k.If = Some (codes "if")
word_of k.Else = Some (codes "else")
word_of k.While = Some (codes "while")
word_of k.For = Some (codes "for")
word_of k.In = Some (codes "in")
word_of k.Not = Some (codes "not")
word_of k.And = Some (codes "and")
word_of k.Or = Some (codes "or")
word_of k.True = Some (codes "true")
word_of k.False = Some (codes "false")
word_of k.Null = Some (codes "null")
word_of _ = None

abbrev pub with_rest : Option Word → List Terminal → Option (Word × List Terminal)
with_rest (Some w) ts = Some (w, ts)
with_rest None ts = None

-- any word, reserved or not
abbrev pub after_word : List Terminal → Option (Word × List Terminal)
after_word [] = None
after_word (t ∷ ts) = with_rest (word_of t) ts

-- the operator between two operands at the front
abbrev pub operator : List Terminal → Option (BinaryOp × List Terminal)
operator (k.Or ∷ ts) = Some (o.Or, ts)
operator (k.And ∷ ts) = Some (o.And, ts)
operator (k.Equal ∷ ts) = Some (o.Equal, ts)
operator (k.NotEqual ∷ ts) = Some (o.NotEqual, ts)
operator (k.Less ∷ ts) = Some (o.Less, ts)
operator (k.LessEqual ∷ ts) = Some (o.LessEqual, ts)
operator (k.Greater ∷ ts) = Some (o.Greater, ts)
operator (k.GreaterEqual ∷ ts) = Some (o.GreaterEqual, ts)
operator (k.In ∷ ts) = Some (o.IsIn, ts)
operator (k.Not ∷ k.In ∷ ts) = Some (o.NotIn, ts)
operator (k.Plus ∷ ts) = Some (o.Plus, ts)
operator (k.Minus ∷ ts) = Some (o.Minus, ts)
operator (k.Star ∷ ts) = Some (o.Times, ts)
operator _ = None

-- The level at which these tokens go on an expression before them; 0 where they don't. An arrow has a level
-- of its own, so that a name before it is no operand.
abbrev pub lead : List Terminal → ℕ
lead (k.Or ∷ ts) = 2
lead (k.And ∷ ts) = 3
lead (k.Coalesce ∷ ts) = 5
lead (k.Equal ∷ ts) = 6
lead (k.NotEqual ∷ ts) = 6
lead (k.Less ∷ ts) = 6
lead (k.LessEqual ∷ ts) = 6
lead (k.Greater ∷ ts) = 6
lead (k.GreaterEqual ∷ ts) = 6
lead (k.In ∷ ts) = 6
lead (k.Not ∷ k.In ∷ ts) = 6
lead (k.Plus ∷ ts) = 7
lead (k.Minus ∷ ts) = 7
lead (k.Star ∷ ts) = 8
lead (k.Dot ∷ ts) = 10
lead (k.NullishDot ∷ ts) = 10
lead (k.OpenBracket ∷ ts) = 10
lead (k.Open ∷ ts) = 10
lead (k.Arrow ∷ ts) = 12
lead _ = 0

-- whether an opening parenthesis before these tokens is that of an arrow's parameters
abbrev pub begins_arrow : List Terminal → Bool
begins_arrow (k.Close ∷ ts) = true
begins_arrow (k.Word w ∷ k.Comma ∷ ts) = true
begins_arrow (k.Word w ∷ k.Close ∷ k.Arrow ∷ ts) = true
begins_arrow _ = false

-- whether an expression may begin here
abbrev pub starts : List Terminal → Bool
starts (k.Number n ∷ ts) = true
starts (k.Text bs ∷ ts) = true
starts (k.True ∷ ts) = true
starts (k.False ∷ ts) = true
starts (k.Null ∷ ts) = true
starts (k.Word w ∷ ts) = true
starts (k.TemplateStart ∷ ts) = true
starts (k.OpenBracket ∷ ts) = true
starts (k.OpenBrace ∷ ts) = true
starts (k.Minus ∷ ts) = true
starts (k.Not ∷ ts) = true
starts (k.Open ∷ ts) = true
starts _ = false

-- what may be assigned to
abbrev pub is_target : Exp → Bool
is_target (Name w) = true
is_target (Prop e w) = true
is_target (Index e i) = true
is_target (Int n) = false
is_target (Truth b) = false
is_target Null = false
is_target (Text bs) = false
is_target (Template ps) = false
is_target (Array es) = false
is_target (Dict ds) = false
is_target (Neg e) = false
is_target (Not e) = false
is_target (Binary op a b) = false
is_target (Coalesce a b) = false
is_target (PropNullish e w) = false
is_target (Call f es) = false
is_target (Lambda ws b) = false
