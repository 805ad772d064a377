-- A program with its variables called anew: each declaration, and each word that means its variable, is called as a naming
-- says by the declaration's number, which is taken from the items of the program's words.
use Rattle.std.specs.Prelude.{ℕ, List, [], ◌∷◌, Option, Some, None}
use Rattle.hog_tree.specs.Plain.{Word, Exp, Exps, Parts, Pairs, Body, Stm, Stms, OptionExp, OptionStm, OptionStms, Int, Truth, Null, Text, Template, Name, Array, Dict, Neg, Not, Binary, Coalesce, Prop, PropNullish, Index, Call, Lambda, NoExp, MoreExp, NoPart, MoreText, MoreHole, NoPair, MorePair, OneExp, ManyStms, Let, Assign, Do, Return, Throw, If, While, For, ForIn, Fun, Try, Block, Done, Then, NoneExp, SomeExp, NoneStm, SomeStm, NoneStms, SomeStms}
use Rattle.hog_scope.specs.declared.item.Item.{Item}
use Rattle.hog_scope.specs.declared.item.Item.TheVariants as item

-- how the variables of declarations are called, by the numbers of the declarations
abbrev pub Naming : Type 0
Naming = ℕ → Word

-- the word that stands for a word, by what it names: natives and globals keep their names
abbrev pub word_by : Naming → Item → Word → Word
word_by call (item.Declared n) w = call n
word_by call (item.Native f) w = w
word_by call item.Global w = w

-- what comes of a part of a program, and the items of the words after it
abbrev pub With : Type 0 → Type 0
With A = A × List Item

-- a form of one part; what follows a part
abbrev pub one_part : {A B : Type 0} → (A → B) → With A → With B
one_part make p = (make p.0, p.1)

abbrev pub next_part : {A B C : Type 0} → (A → B → C) → With A → (List Item → With B) → With C
next_part make p go = one_part (make p.0) (go p.1)

abbrev pub apply : {A B : Type 0} → (A → B) → A → B
apply f a = f a

-- the first item is that of the word
abbrev pub word_anew : Naming → Word → List Item → With Word
word_anew call w [] = (w, [])
word_anew call w (i ∷ items) = (word_by call i w, items)

abbrev pub words_anew : Naming → List Word → List Item → With (List Word)
words_anew call [] items = ([], items)
words_anew call (w ∷ ws) items = next_part (λ v vs. v ∷ vs) (word_anew call w items) (words_anew call ws)

abbrev pub option_word_anew : Naming → Option Word → List Item → With (Option Word)
option_word_anew call None items = (None, items)
option_word_anew call (Some w) items = one_part (λ v. Some v) (word_anew call w items)

abbrev mutual
  pub exp_anew : Naming → Exp → List Item → With Exp
  exp_anew call (Int n) items = (Int n, items)
  exp_anew call (Truth b) items = (Truth b, items)
  exp_anew call Null items = (Null, items)
  exp_anew call (Text t) items = (Text t, items)
  exp_anew call (Template ps) items = one_part Template (parts_anew call ps items)
  exp_anew call (Name w) items = one_part Name (word_anew call w items)
  exp_anew call (Array xs) items = one_part Array (exps_anew call xs items)
  exp_anew call (Dict ds) items = one_part Dict (pairs_anew call ds items)
  exp_anew call (Neg x) items = one_part Neg (exp_anew call x items)
  exp_anew call (Not x) items = one_part Not (exp_anew call x items)
  exp_anew call (Binary op x y) items = next_part (Binary op) (exp_anew call x items) (exp_anew call y)
  exp_anew call (Coalesce x y) items = next_part Coalesce (exp_anew call x items) (exp_anew call y)
  exp_anew call (Prop x w) items = one_part (λ y. Prop y w) (exp_anew call x items)
  exp_anew call (PropNullish x w) items = one_part (λ y. PropNullish y w) (exp_anew call x items)
  exp_anew call (Index x k) items = next_part Index (exp_anew call x items) (exp_anew call k)
  exp_anew call (Call f xs) items = next_part Call (exp_anew call f items) (exps_anew call xs)
  exp_anew call (Lambda ps b) items = next_part Lambda (words_anew call ps items) (body_anew call b)

  pub exps_anew : Naming → Exps → List Item → With Exps
  exps_anew call NoExp items = (NoExp, items)
  exps_anew call (MoreExp x xs) items = next_part MoreExp (exp_anew call x items) (exps_anew call xs)

  pub parts_anew : Naming → Parts → List Item → With Parts
  parts_anew call NoPart items = (NoPart, items)
  parts_anew call (MoreText t ps) items = one_part (MoreText t) (parts_anew call ps items)
  parts_anew call (MoreHole x ps) items = next_part MoreHole (exp_anew call x items) (parts_anew call ps)

  pub pairs_anew : Naming → Pairs → List Item → With Pairs
  pairs_anew call NoPair items = (NoPair, items)
  pairs_anew call (MorePair k x ds) items =
      next_part apply (next_part {C = Pairs → Pairs} MorePair (exp_anew call k items) (exp_anew call x)) (pairs_anew call ds)

  pub body_anew : Naming → Body → List Item → With Body
  body_anew call (OneExp x) items = one_part OneExp (exp_anew call x items)
  body_anew call (ManyStms ss) items = one_part ManyStms (stms_anew call ss items)

  pub stm_anew : Naming → Stm → List Item → With Stm
  stm_anew call (Let w x) items = next_part Let (word_anew call w items) (option_exp_anew call x)
  stm_anew call (Assign x y) items = next_part Assign (exp_anew call x items) (exp_anew call y)
  stm_anew call (Do x) items = one_part Do (exp_anew call x items)
  stm_anew call (Return x) items = one_part Return (option_exp_anew call x items)
  stm_anew call (Throw x) items = one_part Throw (exp_anew call x items)
  stm_anew call (If c b o) items =
      next_part apply (next_part {C = OptionStms → Stm} If (exp_anew call c items) (stms_anew call b)) (option_stms_anew call o)
  stm_anew call (While c b) items = next_part While (exp_anew call c items) (stms_anew call b)
  stm_anew call (For a c s b) items =
      next_part apply
      (next_part {C = Stms → Stm} apply (next_part {C = OptionStm → Stms → Stm} For (option_stm_anew call a items) (option_exp_anew call c)) (option_stm_anew call s))
      (stms_anew call b)
  stm_anew call (ForIn k v x b) items =
      next_part apply
      (next_part {C = Stms → Stm} apply (next_part {C = Exp → Stms → Stm} ForIn (option_word_anew call k items) (word_anew call v)) (exp_anew call x))
      (stms_anew call b)
  stm_anew call (Fun w ps b) items =
      next_part apply (next_part {C = Stms → Stm} Fun (word_anew call w items) (words_anew call ps)) (stms_anew call b)
  stm_anew call (Try b w c) items =
      next_part apply (next_part {C = Stms → Stm} Try (stms_anew call b items) (word_anew call w)) (stms_anew call c)
  stm_anew call (Block b) items = one_part Block (stms_anew call b items)

  pub stms_anew : Naming → Stms → List Item → With Stms
  stms_anew call Done items = (Done, items)
  stms_anew call (Then s ss) items = next_part Then (stm_anew call s items) (stms_anew call ss)

  pub option_exp_anew : Naming → OptionExp → List Item → With OptionExp
  option_exp_anew call NoneExp items = (NoneExp, items)
  option_exp_anew call (SomeExp x) items = one_part SomeExp (exp_anew call x items)

  pub option_stm_anew : Naming → OptionStm → List Item → With OptionStm
  option_stm_anew call NoneStm items = (NoneStm, items)
  option_stm_anew call (SomeStm s) items = one_part SomeStm (stm_anew call s items)

  pub option_stms_anew : Naming → OptionStms → List Item → With OptionStms
  option_stms_anew call NoneStms items = (NoneStms, items)
  option_stms_anew call (SomeStms b) items = one_part SomeStms (stms_anew call b items)

-- a program whose words have these items, with its variables called anew
abbrev pub program_anew : Naming → List Item → Stms → Stms
program_anew call items program = (stms_anew call program items).0
