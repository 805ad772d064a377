-- The printed text of a program.
use Rattle.std.specs.Prelude.{ℕ, zero, suc, List, [], ◌∷◌, ◌++◌, map, Bool, true, false, cond, ◌==◌, ◌||◌, Option, Some, None, codes}
use Rattle.std.specs.Fmt.{signed_decimal}
use Rattle.std.specs.Str.{byte}
use Rattle.hog_tree.specs.declared.tree.BinaryOp.{BinaryOp}
use Rattle.hog_tree.specs.declared.tree.BinaryOp.TheVariants as o
use Rattle.hog_tree.specs.Plain.{Word, Exp, Int, Truth, Null, Text, Template, Name, Array, Dict, Neg, Not, Binary, Coalesce, Prop, PropNullish, Index, Call, Lambda, Exps, NoExp, MoreExp, Parts, NoPart, MoreText, MoreHole, Pairs, NoPair, MorePair, Body, OneExp, ManyStms, Stm, Let, Assign, Do, Return, Throw, If, While, For, ForIn, Fun, Try, Block, Stms, Done, Then, OptionExp, NoneExp, SomeExp, OptionStm, NoneStm, SomeStm, OptionStms, NoneStms, SomeStms}
use Rattle.hog_grammar.specs.Pieces as i
use Rattle.hog_grammar.specs.Pieces.{Inner, Escape, inside, Quotes, OfText, OfTemplate}
use Rattle.hog_printer.specs.declared.form.Form.{Form}
use Rattle.hog_printer.specs.declared.form.Form.TheVariants.{Number, Operation, Arrow, Dictionary, Plain}
use Rattle.hog_printer.specs.declared.layout.Layout.{Layout}
use Rattle.hog_printer.specs.declared.layout.Layout.TheVariants.{Lines, OneLine}

-- lines

-- the spaces before a line in so many blocks
abbrev pub indentation : ℕ → List ℕ
indentation zero = []
indentation (suc depth) = codes "    " ++ indentation depth

-- what ends a line and begins the next; on one line a single space
abbrev pub line_end : Layout → List ℕ
line_end (Lines depth) = 10 ∷ indentation depth
line_end OneLine = codes " "

-- the lines in a block
abbrev pub within : Layout → Layout
within (Lines depth) = Lines (suc depth)
within OneLine = OneLine

-- a block of these lines
abbrev pub braced : Layout → List ℕ → List ℕ
braced at inner = codes "{" ++ (inner ++ (line_end at ++ codes "}"))

-- texts

-- whether a byte between such quotes has a backslash before it
abbrev pub is_marked : Quotes → ℕ → Bool
is_marked OfText c = c == byte "\\" || c == byte "'"
is_marked OfTemplate c = c == byte "\\" || c == byte "'" || c == byte "{"

-- how a byte is written: a line feed, a carriage return, a tab and a zero by their escapes
abbrev pub written : Quotes → ℕ → Inner
written quotes c = cond (c == 10) (Escape (byte "n")) (cond (c == 13) (Escape (byte "r")) (cond (c == 9) (Escape (byte "t"))
    (cond (c == 0) (Escape (byte "0")) (cond (is_marked quotes c) (Escape c) (i.Plain c)))))

-- the bytes of a text, as they stand between quotes
unfoldable pub quoted : Quotes → List ℕ → List ℕ
quoted quotes bytes = inside (map (written quotes) bytes)

-- parentheses

abbrev pub held : Bool → List ℕ → List ℕ
held false text = text
held true text = codes "(" ++ (text ++ codes ")")

-- the form of an expression, as far as parentheses ask for it
abbrev pub form_of : Exp → Form
form_of (Int n) = Number
form_of (Binary op a b) = Operation
form_of (Coalesce a b) = Operation
form_of (Neg e) = Operation
form_of (Not e) = Operation
form_of (Lambda names body) = Arrow
form_of (Dict ds) = Dictionary
form_of _ = Plain

-- whether it has parentheses as an operand or as what is called
abbrev pub is_compound : Form → Bool
is_compound Operation = true
is_compound Arrow = true
is_compound Dictionary = true
is_compound Number = false
is_compound Plain = false

-- as the base of a property or an index
abbrev pub is_held_base : Form → Bool
is_held_base Number = true
is_held_base f = is_compound f

-- as the body of an arrow
abbrev pub is_held_body : Form → Bool
is_held_body Arrow = true
is_held_body Dictionary = true
is_held_body _ = false

-- as a statement
abbrev pub is_dict : Form → Bool
is_dict Dictionary = true
is_dict _ = false

-- words and operators

abbrev pub truth : Bool → List ℕ
truth true = codes "true"
truth false = codes "false"

abbrev pub operator : BinaryOp → List ℕ
operator o.Or = codes " or "
operator o.And = codes " and "
operator o.Equal = codes " == "
operator o.NotEqual = codes " != "
operator o.Less = codes " < "
operator o.LessEqual = codes " <= "
operator o.Greater = codes " > "
operator o.GreaterEqual = codes " >= "
operator o.IsIn = codes " in "
operator o.NotIn = codes " not in "
operator o.Plus = codes " + "
operator o.Minus = codes " - "
operator o.Times = codes " * "

-- names after the first
abbrev pub more_names : List Word → List ℕ
more_names [] = []
more_names (w ∷ ws) = codes ", " ++ (w ++ more_names ws)

abbrev pub names : List Word → List ℕ
names [] = []
names (w ∷ ws) = w ++ more_names ws

-- the names of a `for .. in`
abbrev pub bound : Option Word → Word → List ℕ
bound None v = v
bound (Some k) v = k ++ (codes ", " ++ v)

-- statements of which the texts of the parts are given

abbrev pub declared : Word → List ℕ → List ℕ
declared w value = codes "let " ++ (w ++ value)

abbrev pub assigned : List ℕ → List ℕ → List ℕ
assigned target value = target ++ (codes " := " ++ value)

abbrev mutual
  pub expression : Exp → List ℕ
  expression (Int n) = signed_decimal n
  expression (Truth b) = truth b
  expression Null = codes "null"
  expression (Text bytes) = codes "'" ++ (quoted OfText bytes ++ codes "'")
  expression (Template ps) = codes "f'" ++ (parts ps ++ codes "'")
  expression (Name w) = w
  expression (Array es) = codes "[" ++ (items es ++ codes "]")
  expression (Dict ds) = codes "{" ++ (pairs ds ++ codes "}")
  expression (Neg e) = codes "-" ++ held (is_compound (form_of e)) (expression e)
  expression (Not e) = codes "not " ++ held (is_compound (form_of e)) (expression e)
  expression (Binary op a b) = held (is_compound (form_of a)) (expression a) ++ (operator op ++ held (is_compound (form_of b)) (expression b))
  expression (Coalesce a b) = held (is_compound (form_of a)) (expression a) ++ (codes " ?? " ++ held (is_compound (form_of b)) (expression b))
  expression (Prop e w) = held (is_held_base (form_of e)) (expression e) ++ (codes "." ++ w)
  expression (PropNullish e w) = held (is_held_base (form_of e)) (expression e) ++ (codes "?." ++ w)
  expression (Index e i) = held (is_held_base (form_of e)) (expression e) ++ (codes "[" ++ (expression i ++ codes "]"))
  expression (Call f es) = held (is_compound (form_of f)) (expression f) ++ (codes "(" ++ (items es ++ codes ")"))
  expression (Lambda ws b) = codes "(" ++ (names ws ++ (codes ") -> " ++ body b))

  -- elements and arguments, and those after the first
  pub items : Exps → List ℕ
  items NoExp = []
  items (MoreExp e es) = expression e ++ more_items es

  pub more_items : Exps → List ℕ
  more_items NoExp = []
  more_items (MoreExp e es) = codes ", " ++ (expression e ++ more_items es)

  pub parts : Parts → List ℕ
  parts NoPart = []
  parts (MoreText bytes ps) = quoted OfTemplate bytes ++ parts ps
  parts (MoreHole e ps) = (codes "{" ++ (expression e ++ codes "}")) ++ parts ps

  -- the items of a dictionary, and those after the first
  pub pairs : Pairs → List ℕ
  pairs NoPair = []
  pairs (MorePair k v ds) = (expression k ++ (codes ": " ++ expression v)) ++ more_pairs ds

  pub more_pairs : Pairs → List ℕ
  more_pairs NoPair = []
  more_pairs (MorePair k v ds) = codes ", " ++ ((expression k ++ (codes ": " ++ expression v)) ++ more_pairs ds)

  -- what stands after an arrow: a block of an expression stands on one line
  pub body : Body → List ℕ
  body (OneExp e) = held (is_held_body (form_of e)) (expression e)
  body (ManyStms ss) = braced OneLine (lines OneLine ss)

  -- the value of a declaration
  pub value : OptionExp → List ℕ
  value NoneExp = []
  value (SomeExp e) = codes " := " ++ expression e

  pub returned : OptionExp → List ℕ
  returned NoneExp = codes "return;"
  returned (SomeExp e) = codes "return " ++ (expression e ++ codes ";")

  pub condition : OptionExp → List ℕ
  condition NoneExp = []
  condition (SomeExp e) = expression e

  -- The start or the step of a `for`, without a `;` of its own. Only a declaration, an assignment and an expression
  -- can stand there.
  pub clause : Stm → List ℕ
  clause (Let w v) = declared w (value v)
  clause (Assign t e) = assigned (expression t) (expression e)
  clause (Do e) = held (is_dict (form_of e)) (expression e)
  clause _ = []

  pub step : OptionStm → List ℕ
  step NoneStm = []
  step (SomeStm s) = clause s

  pub statement : Layout → Stm → List ℕ
  statement at (Let w v) = declared w (value v) ++ codes ";"
  statement at (Assign t e) = assigned (expression t) (expression e) ++ codes ";"
  statement at (Do e) = held (is_dict (form_of e)) (expression e) ++ codes ";"
  statement at (Return v) = returned v
  statement at (Throw e) = codes "throw " ++ (expression e ++ codes ";")
  statement at (If c b o) = (codes "if (" ++ (expression c ++ codes ") ")) ++ (braced at (lines (within at) b) ++ otherwise at o)
  statement at (While c b) = (codes "while (" ++ (expression c ++ codes ") ")) ++ braced at (lines (within at) b)
  statement at (For s c n b) = (codes "for (" ++ (step s ++ (codes "; " ++ (condition c ++ (codes "; " ++ (step n ++ codes ") ")))))) ++ braced at (lines (within at) b)
  statement at (ForIn k v e b) = (codes "for (let " ++ (bound k v ++ (codes " in " ++ (expression e ++ codes ") ")))) ++ braced at (lines (within at) b)
  statement at (Fun f ws b) = (codes "fun " ++ (f ++ (codes "(" ++ (names ws ++ codes ") ")))) ++ braced at (lines (within at) b)
  statement at (Try b w c) = codes "try " ++ (braced at (lines (within at) b) ++ ((codes " catch (" ++ (w ++ codes ") ")) ++ braced at (lines (within at) c)))
  statement at (Block b) = braced at (lines (within at) b)

  pub otherwise : Layout → OptionStms → List ℕ
  otherwise at NoneStms = []
  otherwise at (SomeStms b) = codes " else " ++ braced at (lines (within at) b)

  -- the statements of a block, each on a line after the one before it
  pub lines : Layout → Stms → List ℕ
  lines at Done = []
  lines at (Then s ss) = (line_end at ++ statement at s) ++ lines at ss

-- The printed text of a program: its statements, each on a line.
abbrev pub printed : Stms → List ℕ
printed Done = []
printed (Then s ss) = (statement (Lines 0) s ++ 10 ∷ []) ++ printed ss
