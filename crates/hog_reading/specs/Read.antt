-- Reading expressions from left to right, with one token of lookahead. Recursion is on the height that is left.
use Rattle.std.specs.Prelude.{ℕ, zero, suc, pos, max, List, [], ◌∷◌, length, Bool, true, false, Option, Some, None, Result, Ok, Err, cond, nat_lt}
use Rattle.hog_tree.specs.declared.tree.BinaryOp.{BinaryOp}
use Rattle.hog_tree.specs.Plain.{Word, Exp, Int, Truth, Null, Text, Template, Name, Array, Dict, Neg, Not, Binary, Coalesce, Prop, PropNullish, Index, Call, Lambda, Exps, NoExp, MoreExp, Parts, NoPart, MoreText, MoreHole, Pairs, NoPair, MorePair, Body, OneExp, ManyStms, Stm, Stms, Done, Then}
use Rattle.hog_grammar.specs.Terminal.{Terminal}
use Rattle.hog_grammar.specs.Terminal as k
use Rattle.hog_grammar.specs.Forms.{ends_block}
use Rattle.hog_grammar.specs.Spelling.{level_of}
use Rattle.hog_terms.specs.Listed.{closing}
use Rattle.hog_terms.specs.Marks.{Shut, after_close, after_close_bracket, after_open_brace, after_close_brace, after_comma, after_semi, after_colon, after_arrow, after_hole, after_name, after_word, operator, lead, begins_arrow}

-- why nothing was read
pub data Fault : Type 0 where
  Syntax : Fault
  -- how many tokens there were from the place on at which the height was passed
  TooNested : ℕ → Fault

-- a tree, its height, and the tokens after it
pub record Got (A : Type 0) : Type 0 where
  pub tree : A
  pub height : ℕ
  pub rest : List Terminal

abbrev pub got : {A : Type 0} → A → ℕ → List Terminal → Got A
got t h ts = record { tree = t; height = h; rest = ts }

infixl 10 ◌>>=◌
abbrev pub ◌>>=◌ : {A B : Type 0} → Result A Fault → (A → Result B Fault) → Result B Fault
(Ok x) >>= f = f x
(Err e) >>= f = Err e

abbrev pub wants : {A B : Type 0} → Option A → (A → Result B Fault) → Result B Fault
wants (Some x) f = f x
wants None f = Err Syntax

abbrev pub either_way : {A B : Type 0} → Option A → (A → Result B Fault) → Result B Fault → Result B Fault
either_way (Some x) f other = f x
either_way None f other = other

abbrev pub Read : Type 0 → Type 0
Read A = List Terminal → Result (Got A) Fault

-- what reads the parts of a form, at a height of one less
pub record Readers : Type 0 where
  pub expression : ℕ → Read Exp
  pub statement : Read Stm
  -- the start of a `for`, and its step
  pub start : Read Stm
  pub step : Read Stm

-- a form with one part
abbrev pub grown : {A B : Type 0} → (A → B) → Got A → Result (Got B) Fault
grown make g = Ok (got (make g.tree) (suc g.height) g.rest)

-- Lists.

abbrev pub put : {A : Type 0} → Got A → Got (List A) → Result (Got (List A)) Fault
put g r = Ok (got (g.tree ∷ r.tree) (max g.height r.height) r.rest)

abbrev pub ended_list : {A : Type 0} → List Terminal → Result (Got (List A)) Fault
ended_list ts = Ok (got [] 0 ts)

-- what follows an item
abbrev pub others : {A : Type 0} → Bool → Shut → Read (List A) → Read (List A)
others comma shut next ts = either_way (after_comma ts) (λ us. either_way (closing comma shut us) ended_list (next us)) (wants (shut ts) ended_list)

-- items, no more of them than `most`, and what closes them
unfoldable pub some : {A : Type 0} → Read A → Bool → Shut → ℕ → Read (List A)
some item comma shut zero ts = Err Syntax
some item comma shut (suc most) ts = item ts >>= λ g. others comma shut (some item comma shut most) g.rest >>= put g

-- any number of items
unfoldable pub listing : {A : Type 0} → Read A → Bool → Shut → Read (List A)
listing item comma shut ts = either_way (shut ts) ended_list (some item comma shut (length ts) ts)

abbrev pub exps : List Exp → Exps
exps [] = NoExp
exps (e ∷ es) = MoreExp e (exps es)

abbrev pub pairs : List (Exp × Exp) → Pairs
pairs [] = NoPair
pairs (p ∷ ps) = MorePair p.0 p.1 (pairs ps)

abbrev pub valued : Read Exp → Got Exp → Result (Got (Exp × Exp)) Fault
valued exp g = wants (after_colon g.rest) (λ us. exp us >>= λ v. Ok (got (g.tree, v.tree) (max g.height v.height) v.rest))

-- a key and its value
abbrev pub entry : Read Exp → Read (Exp × Exp)
entry exp ts = exp ts >>= valued exp

abbrev pub name : Read Word
name ts = wants (after_name ts) (λ p. Ok (got p.0 0 p.1))

-- Statements in braces.

abbrev pub put_stm : Got Stm → Got Stms → Result (Got Stms) Fault
put_stm g r = Ok (got (Then g.tree r.tree) (max g.height r.height) r.rest)

-- statements up to a closing brace or the end, no more of them and of `;` than `most`
unfoldable pub several : Read Stm → ℕ → Read Stms
several stm zero ts = Err Syntax
several stm (suc most) ts = either_way (after_semi ts) (several stm most)
    (cond (ends_block ts) (Ok (got Done 0 ts)) (stm ts >>= λ g. several stm most g.rest >>= put_stm g))

abbrev pub closed_brace : {A : Type 0} → Got A → Result (Got A) Fault
closed_brace g = wants (after_close_brace g.rest) (λ us. Ok (got g.tree g.height us))

-- what follows an opening brace
unfoldable pub braced : Read Stm → Read Stms
braced stm ts = several stm (suc (length ts)) ts >>= closed_brace

-- Expressions.

abbrev pub put_text : List ℕ → Got Parts → Result (Got Parts) Fault
put_text bs g = Ok (got (MoreText bs g.tree) g.height g.rest)

abbrev pub put_hole : Got Exp → Got Parts → Result (Got Parts) Fault
put_hole e g = Ok (got (MoreHole e.tree g.tree) (max e.height g.height) g.rest)

-- the parts of a template, no more of them than `most`
unfoldable pub parts : Read Exp → ℕ → Read Parts
parts exp zero ts = Err Syntax
parts exp (suc most) (k.Characters bs ∷ ts) = parts exp most ts >>= put_text bs
parts exp (suc most) (k.HoleStart ∷ ts) = exp ts >>= λ g. wants (after_hole g.rest) (λ us. parts exp most us >>= put_hole g)
parts exp (suc most) (k.TemplateEnd ∷ ts) = Ok (got NoPart 0 ts)
parts exp (suc most) _ = Err Syntax

-- a block after an arrow: nothing goes on from there
abbrev pub block_body : Got Stms → Result (Got Body) Fault
block_body g = cond (nat_lt (lead g.rest) 1) (Ok (got (ManyStms g.tree) g.height g.rest)) (Err Syntax)

abbrev pub one_body : Got Exp → Result (Got Body) Fault
one_body g = Ok (got (OneExp g.tree) g.height g.rest)

-- what stands after an arrow
unfoldable pub body : Readers → Read Body
body again ts = either_way (after_open_brace ts) (λ us. braced again.statement us >>= block_body) (again.expression 1 ts >>= one_body)

abbrev pub arrowed : Got (List Word) → Got Body → Result (Got Exp) Fault
arrowed ws b = Ok (got (Lambda ws.tree b.tree) (suc (max ws.height b.height)) b.rest)

abbrev pub with_body : Readers → Got (List Word) → Result (Got Exp) Fault
with_body again ws = wants (after_arrow ws.rest) (λ us. body again us >>= arrowed ws)

-- an arrow whose parameters stand in parentheses, after the first
unfoldable pub arrow : Readers → ℕ → Read Exp
arrow again l ts = cond (nat_lt 1 l) (Err Syntax) (listing name false after_close ts >>= with_body again)

-- an arrow with one parameter, from the arrow on
unfoldable pub short_arrow : Readers → ℕ → Word → Read Exp
short_arrow again l w ts = cond (nat_lt 1 l) (Err Syntax) (body again ts >>= arrowed (got (w ∷ []) 0 ts))

abbrev pub closed : Got Exp → Result (Got Exp) Fault
closed g = wants (after_close g.rest) (λ us. Ok (got g.tree (suc g.height) us))

-- an expression without operators after it
unfoldable pub first : Readers → ℕ → Read Exp
first again l (k.Number n ∷ ts) = Ok (got (Int (pos n)) 1 ts)
first again l (k.Text bs ∷ ts) = Ok (got (Text bs) 1 ts)
first again l (k.True ∷ ts) = Ok (got (Truth true) 1 ts)
first again l (k.False ∷ ts) = Ok (got (Truth false) 1 ts)
first again l (k.Null ∷ ts) = Ok (got Null 1 ts)
first again l (k.Word w ∷ ts) = either_way (after_arrow ts) (short_arrow again l w) (Ok (got (Name w) 1 ts))
first again l (k.TemplateStart ∷ ts) = parts (again.expression 1) (length ts) ts >>= grown Template
first again l (k.OpenBracket ∷ ts) = listing (again.expression 1) true after_close_bracket ts >>= grown (λ es. Array (exps es))
first again l (k.OpenBrace ∷ ts) = listing (entry (again.expression 1)) true after_close_brace ts >>= grown (λ ds. Dict (pairs ds))
first again l (k.Minus ∷ ts) = cond (nat_lt 9 l) (Err Syntax) (again.expression 9 ts >>= grown Neg)
first again l (k.Not ∷ ts) = cond (nat_lt 4 l) (Err Syntax) (again.expression 4 ts >>= grown Not)
first again l (k.Open ∷ ts) = cond (begins_arrow ts) (arrow again l ts) (again.expression 1 ts >>= closed)
first again l _ = Err Syntax

abbrev pub joined : (Exp → Exp → Exp) → Exp → ℕ → Got Exp → Result (Got Exp) Fault
joined make e h g = Ok (got (make e g.tree) (suc (max h g.height)) g.rest)

abbrev pub binary : Readers → Exp → ℕ → (BinaryOp × List Terminal) → Result (Got Exp) Fault
binary again e h p = again.expression (suc (level_of p.0)) p.1 >>= joined (Binary p.0) e h

abbrev pub indexed : Exp → ℕ → Got Exp → Result (Got Exp) Fault
indexed e h g = wants (after_close_bracket g.rest) (λ us. Ok (got (Index e g.tree) (suc (max h g.height)) us))

abbrev pub called : Exp → ℕ → Got (List Exp) → Result (Got Exp) Fault
called e h g = Ok (got (Call e (exps g.tree)) (suc (max h g.height)) g.rest)

-- one operator, and its right operand
unfoldable pub step : Readers → Exp → ℕ → Read Exp
step again e h (k.Coalesce ∷ ts) = again.expression 6 ts >>= joined Coalesce e h
step again e h (k.Dot ∷ ts) = wants (after_word ts) (λ p. Ok (got (Prop e p.0) (suc h) p.1))
step again e h (k.NullishDot ∷ ts) = wants (after_word ts) (λ p. Ok (got (PropNullish e p.0) (suc h) p.1))
step again e h (k.OpenBracket ∷ ts) = again.expression 1 ts >>= indexed e h
step again e h (k.Open ∷ ts) = listing (again.expression 1) false after_close ts >>= called e h
step again e h ts = wants (operator ts) (binary again e h)

-- goes on with operators of level l and tighter, `most` of them at most, to a height of d at most
unfoldable pub climb : Readers → ℕ → ℕ → ℕ → Got Exp → Result (Got Exp) Fault
climb again zero d l g = cond (nat_lt (lead g.rest) l) (Ok g) (Err (TooNested (length g.rest)))
climb again (suc most) d l g = cond (nat_lt (lead g.rest) l) (Ok g)
    (cond (nat_lt g.height d) (step again g.tree g.height g.rest >>= climb again most d l) (Err (TooNested (length g.rest))))

-- an expression of level l
unfoldable pub leveled : Readers → ℕ → ℕ → Read Exp
leveled again d l ts = first again l ts >>= climb again d d l
