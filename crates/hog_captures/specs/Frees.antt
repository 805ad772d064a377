-- The free words of parts of a program: those that name something outside of the part, in the order of the text.
-- A flag says which are meant: where it is false, only those that stand in a function.
use Rattle.std.specs.Prelude.{List, [], ◌∷◌, ◌++◌, Bool, true, false, Option, Some, None, bytes_eq, ◌||◌, if◌then◌else◌}
use Rattle.hog_tree.specs.Plain.{Word, Exp, Exps, Parts, Pairs, Body, Stm, Stms, OptionExp, OptionStm, OptionStms, Int, Truth, Null, Text, Template, Name, Array, Dict, Neg, Not, Binary, Coalesce, Prop, PropNullish, Index, Call, Lambda, NoExp, MoreExp, NoPart, MoreText, MoreHole, NoPair, MorePair, OneExp, ManyStms, Let, Assign, Do, Return, Throw, If, While, For, ForIn, Fun, Try, Block, Done, Then, NoneExp, SomeExp, NoneStm, SomeStm, NoneStms, SomeStms}

-- whether the word is one of these
abbrev pub is_among : Word → List Word → Bool
is_among w [] = false
is_among w (v ∷ vs) = bytes_eq v w || is_among w vs

-- the words but for this one
abbrev pub without : Word → List Word → List Word
without w [] = []
without w (v ∷ vs) = if bytes_eq v w then without w vs else v ∷ without w vs

-- the words but for these
abbrev pub without_all : List Word → List Word → List Word
without_all [] ws = ws
without_all (p ∷ ps) ws = without p (without_all ps ws)

-- the words but for this one, where there is one
abbrev pub without_name : Option Word → List Word → List Word
without_name None ws = ws
without_name (Some w) ws = without w ws

-- the name that a statement declares, which those after it see
abbrev pub name_by : Stm → Option Word
name_by (Let w x) = Some w
name_by (Fun w ps b) = Some w
name_by s = None

abbrev pub option_name_by : OptionStm → Option Word
option_name_by NoneStm = None
option_name_by (SomeStm s) = name_by s

-- a word by itself
abbrev pub counted : Bool → Word → List Word
counted true w = w ∷ []
counted false w = []

abbrev mutual
  pub exp_frees : Bool → Exp → List Word
  exp_frees f (Int n) = []
  exp_frees f (Truth b) = []
  exp_frees f Null = []
  exp_frees f (Text t) = []
  exp_frees f (Template ps) = parts_frees f ps
  exp_frees f (Name w) = counted f w
  exp_frees f (Array xs) = exps_frees f xs
  exp_frees f (Dict ds) = pairs_frees f ds
  exp_frees f (Neg x) = exp_frees f x
  exp_frees f (Not x) = exp_frees f x
  exp_frees f (Binary op x y) = exp_frees f x ++ exp_frees f y
  exp_frees f (Coalesce x y) = exp_frees f x ++ exp_frees f y
  exp_frees f (Prop x w) = exp_frees f x
  exp_frees f (PropNullish x w) = exp_frees f x
  exp_frees f (Index x k) = exp_frees f x ++ exp_frees f k
  exp_frees f (Call c xs) = exp_frees f c ++ exps_frees f xs
  exp_frees f (Lambda ps b) = without_all ps (body_frees b)

  pub exps_frees : Bool → Exps → List Word
  exps_frees f NoExp = []
  exps_frees f (MoreExp x xs) = exp_frees f x ++ exps_frees f xs

  pub parts_frees : Bool → Parts → List Word
  parts_frees f NoPart = []
  parts_frees f (MoreText t ps) = parts_frees f ps
  parts_frees f (MoreHole x ps) = exp_frees f x ++ parts_frees f ps

  pub pairs_frees : Bool → Pairs → List Word
  pairs_frees f NoPair = []
  pairs_frees f (MorePair k v ds) = exp_frees f k ++ (exp_frees f v ++ pairs_frees f ds)

  -- what stands after an arrow stands in a function
  pub body_frees : Body → List Word
  body_frees (OneExp x) = exp_frees true x
  body_frees (ManyStms ss) = stms_frees true ss

  -- A `let` is seen after its value, a `fun` in its own body too; the names of a `for .. in` aren't seen in its expression.
  pub stm_frees : Bool → Stm → List Word
  stm_frees f (Let w x) = option_exp_frees f x
  stm_frees f (Assign x y) = exp_frees f x ++ exp_frees f y
  stm_frees f (Do x) = exp_frees f x
  stm_frees f (Return x) = option_exp_frees f x
  stm_frees f (Throw x) = exp_frees f x
  stm_frees f (If c b o) = exp_frees f c ++ (stms_frees f b ++ option_stms_frees f o)
  stm_frees f (While c b) = exp_frees f c ++ stms_frees f b
  stm_frees f (For a c n b) =
      option_stm_frees f a ++ without_name (option_name_by a) (option_exp_frees f c ++ (option_stm_frees f n ++ stms_frees f b))
  stm_frees f (ForIn k v x b) = exp_frees f x ++ without_name k (without v (stms_frees f b))
  stm_frees f (Fun w ps b) = without w (without_all ps (stms_frees true b))
  stm_frees f (Try b w c) = stms_frees f b ++ without w (stms_frees f c)
  stm_frees f (Block b) = stms_frees f b

  -- the free words of statements that are a scope
  pub stms_frees : Bool → Stms → List Word
  stms_frees f Done = []
  stms_frees f (Then s ss) = stm_frees f s ++ without_name (name_by s) (stms_frees f ss)

  pub option_exp_frees : Bool → OptionExp → List Word
  option_exp_frees f NoneExp = []
  option_exp_frees f (SomeExp x) = exp_frees f x

  pub option_stm_frees : Bool → OptionStm → List Word
  option_stm_frees f NoneStm = []
  option_stm_frees f (SomeStm s) = stm_frees f s

  pub option_stms_frees : Bool → OptionStms → List Word
  option_stms_frees f NoneStms = []
  option_stms_frees f (SomeStms b) = stms_frees f b
