-- What the parts of a program keep that a text has: its words are words of the grammar, its numbers can be written,
-- its texts are UTF-8, and its forms stand where they may.
use Rattle.std.specs.Prelude.{◌≡◌, ◌≢◌, ℕ, ◌≤◌, ℤ, pos, negsuc, List, [], ◌∷◌, Option, Some, None}
use Rattle.std.specs.Str.{IsUtf8}
use Rattle.hog_tree.specs.Plain.{Word, Exp, Int, Truth, Null, Text, Template, Name, Array, Dict, Neg, Not, Binary, Coalesce, Prop, PropNullish, Index, Call, Lambda, Exps, NoExp, MoreExp, Parts, NoPart, MoreText, MoreHole, Pairs, NoPair, MorePair, Body, OneExp, ManyStms, Stm, Let, Assign, Do, Return, Throw, If, While, For, ForIn, Fun, Try, Block, Stms, Done, Then, OptionExp, NoneExp, SomeExp, OptionStm, NoneStm, SomeStm, OptionStms, NoneStms, SomeStms}
use Rattle.hog_grammar.specs.Bytes.{class, Letter, is_word, AllOf, greatest}
use Rattle.hog_grammar.specs.Terminal.{word}
use Rattle.hog_grammar.specs.Terminal as k
use Rattle.hog_grammar.specs.Spelling.{IsTarget}

-- a word of the grammar
pub record IsWord (w : Word) : Type 0 where
  pub first : ℕ
  pub others : List ℕ
  pub bytes : w ≡ first ∷ others
  pub letter : class first ≡ Letter
  pub all : AllOf is_word others

-- a word that is not reserved
pub record IsFree (w : Word) : Type 0 where
  pub is_word : IsWord w
  pub free : word w ≡ k.Word w

abbrev pub AreFree : List Word → Type 0
AreFree [] = Unit {0}
AreFree (w ∷ ws) = IsFree w × AreFree ws

abbrev pub MayBeFree : Option Word → Type 0
MayBeFree None = Unit {0}
MayBeFree (Some w) = IsFree w

abbrev pub IsDigits : ℤ → Type 0
IsDigits (pos n) = n ≤ greatest
IsDigits (negsuc n) = ⊥

-- the parts begin with no characters
abbrev pub NoText : Parts → Type 0
NoText NoPart = Unit {0}
NoText (MoreText bs ps) = ⊥
NoText (MoreHole e ps) = Unit {0}

-- what may be the step of a `for`, and its start
abbrev pub IsStep : Stm → Type 0
IsStep (Assign t e) = Unit {0}
IsStep (Do e) = Unit {0}
IsStep _ = ⊥

abbrev pub IsStart : Stm → Type 0
IsStart (Let w v) = Unit {0}
IsStart (Assign t e) = Unit {0}
IsStart (Do e) = Unit {0}
IsStart _ = ⊥

abbrev pub MayStep : OptionStm → Type 0
MayStep NoneStm = Unit {0}
MayStep (SomeStm s) = IsStep s

abbrev pub MayStart : OptionStm → Type 0
MayStart NoneStm = Unit {0}
MayStart (SomeStm s) = IsStart s

abbrev mutual
  pub FitExp : Exp → Type 0
  FitExp (Int n) = IsDigits n
  FitExp (Truth b) = Unit {0}
  FitExp Null = Unit {0}
  FitExp (Text bs) = IsUtf8 bs
  FitExp (Template ps) = FitParts ps
  FitExp (Name w) = IsFree w
  FitExp (Array es) = FitExps es
  FitExp (Dict ds) = FitPairs ds
  FitExp (Neg e) = FitExp e
  FitExp (Not e) = FitExp e
  FitExp (Binary op a b) = FitExp a × FitExp b
  FitExp (Coalesce a b) = FitExp a × FitExp b
  FitExp (Prop e w) = FitExp e × IsWord w
  FitExp (PropNullish e w) = FitExp e × IsWord w
  FitExp (Index e i) = FitExp e × FitExp i
  FitExp (Call f es) = FitExp f × FitExps es
  FitExp (Lambda ws b) = AreFree ws × FitBody b

  pub FitExps : Exps → Type 0
  FitExps NoExp = Unit {0}
  FitExps (MoreExp e es) = FitExp e × FitExps es

  pub FitParts : Parts → Type 0
  FitParts NoPart = Unit {0}
  FitParts (MoreText bs ps) = (bs ≢ []) × IsUtf8 bs × NoText ps × FitParts ps
  FitParts (MoreHole e ps) = FitExp e × FitParts ps

  pub FitPairs : Pairs → Type 0
  FitPairs NoPair = Unit {0}
  FitPairs (MorePair x y ds) = FitExp x × FitExp y × FitPairs ds

  pub FitBody : Body → Type 0
  FitBody (OneExp e) = FitExp e
  FitBody (ManyStms ss) = FitStms ss

  pub FitOption : OptionExp → Type 0
  FitOption NoneExp = Unit {0}
  FitOption (SomeExp e) = FitExp e

  pub FitStm : Stm → Type 0
  FitStm (Let w v) = IsFree w × FitOption v
  FitStm (Assign t e) = IsTarget t × FitExp t × FitExp e
  FitStm (Do e) = FitExp e
  FitStm (Return v) = FitOption v
  FitStm (Throw e) = FitExp e
  FitStm (If c b o) = FitExp c × FitStms b × FitElse o
  FitStm (While c b) = FitExp c × FitStms b
  FitStm (For s c n b) = (FitClause s × MayStart s) × FitOption c × (FitClause n × MayStep n) × FitStms b
  FitStm (ForIn i v e b) = MayBeFree i × IsFree v × FitExp e × FitStms b
  FitStm (Fun f ws b) = IsFree f × AreFree ws × FitStms b
  FitStm (Try b w c) = FitStms b × IsFree w × FitStms c
  FitStm (Block b) = FitStms b

  pub FitClause : OptionStm → Type 0
  FitClause NoneStm = Unit {0}
  FitClause (SomeStm s) = FitStm s

  pub FitElse : OptionStms → Type 0
  FitElse NoneStms = Unit {0}
  FitElse (SomeStms b) = FitStms b

  pub FitStms : Stms → Type 0
  FitStms Done = Unit {0}
  FitStms (Then s ss) = FitStm s × FitStms ss
