-- Which calls of a tree are sound where these names are in sight: a word that is called and isn't in sight is a native, which takes so many.
use Rattle.std.proofs.Common.{◌≡◌, ℕ, List, [], ◌∷◌, Option, Some, None, Bool, true, false, cond, refl}
use Rattle.std.specs.Prelude.{bytes_eq, ◌||◌}
use Rattle.hog_value.specs.declared.native.Native.{Native}
use Rattle.hog_value.specs.Natives.{native_named, takes_of}
use Rattle.hog_scope.specs.Words.{count_of}
use Rattle.hog_tree.specs.Plain.{Word, Exp, Exps, Parts, Pairs, Body, Stm, Stms, OptionExp, OptionStm, OptionStms, Int, Truth, Null, Text, Template, Name, Array, Dict, Neg, Not, Binary, Coalesce, Prop, PropNullish, Index, Call, Lambda, NoExp, MoreExp, NoPart, MoreText, MoreHole, NoPair, MorePair, OneExp, ManyStms, Let, Assign, Do, Return, Throw, If, While, For, ForIn, Fun, Try, Block, Done, Then, NoneExp, SomeExp, NoneStm, SomeStm, NoneStms, SomeStms}
use Rattle.hog_captures.specs.Frees.{is_among, name_by, option_name_by}
use Rattle.hog_meaning.specs.World.{Env, find_var}
use Rattle.hog_bridge.proofs.Words.{with_word, onto}

abbrev pub NativeOk : Option Native → ℕ → Type 0
NativeOk None count = ⊥
NativeOk (Some f) count = takes_of f count ≡ true

abbrev pub CalleeOk : List Word → Exp → ℕ → Type 0
CalleeOk V (Name w) count = is_among w V ≡ false → NativeOk (native_named w) count
CalleeOk V f count = Unit {0}

abbrev mutual
  pub ExpOk : List Word → Exp → Type 0
  ExpOk V (Int n) = Unit {0}
  ExpOk V (Truth b) = Unit {0}
  ExpOk V Null = Unit {0}
  ExpOk V (Text t) = Unit {0}
  ExpOk V (Template ps) = PartsOk V ps
  ExpOk V (Name w) = Unit {0}
  ExpOk V (Array xs) = ExpsOk V xs
  ExpOk V (Dict ds) = PairsOk V ds
  ExpOk V (Neg x) = ExpOk V x
  ExpOk V (Not x) = ExpOk V x
  ExpOk V (Binary op x y) = ExpOk V x × ExpOk V y
  ExpOk V (Coalesce x y) = ExpOk V x × ExpOk V y
  ExpOk V (Prop x w) = ExpOk V x
  ExpOk V (PropNullish x w) = ExpOk V x
  ExpOk V (Index x k) = ExpOk V x × ExpOk V k
  ExpOk V (Call f xs) = CalleeOk V f (count_of xs) × ExpOk V f × ExpsOk V xs
  ExpOk V (Lambda ps b) = BodyOk (onto ps V) b

  pub ExpsOk : List Word → Exps → Type 0
  ExpsOk V NoExp = Unit {0}
  ExpsOk V (MoreExp x xs) = ExpOk V x × ExpsOk V xs

  pub PartsOk : List Word → Parts → Type 0
  PartsOk V NoPart = Unit {0}
  PartsOk V (MoreText t ps) = PartsOk V ps
  PartsOk V (MoreHole x ps) = ExpOk V x × PartsOk V ps

  pub PairsOk : List Word → Pairs → Type 0
  PairsOk V NoPair = Unit {0}
  PairsOk V (MorePair k x ds) = ExpOk V k × ExpOk V x × PairsOk V ds

  pub BodyOk : List Word → Body → Type 0
  BodyOk V (OneExp x) = ExpOk V x
  BodyOk V (ManyStms ss) = StmsOk V ss

  pub StmOk : List Word → Stm → Type 0
  StmOk V (Let w x) = OptionExpOk V x
  StmOk V (Assign x y) = ExpOk V x × ExpOk V y
  StmOk V (Do x) = ExpOk V x
  StmOk V (Return x) = OptionExpOk V x
  StmOk V (Throw x) = ExpOk V x
  StmOk V (If c b o) = ExpOk V c × StmsOk V b × OptionStmsOk V o
  StmOk V (While c b) = ExpOk V c × StmsOk V b
  StmOk V (For a c n b) = OptionStmOk V a × OptionExpOk (with_word (option_name_by a) V) c × OptionStmOk (with_word (option_name_by a) V) n × StmsOk (with_word (option_name_by a) V) b
  StmOk V (ForIn k v x b) = ExpOk V x × StmsOk (v ∷ with_word k V) b
  StmOk V (Fun w ps b) = StmsOk (onto ps (w ∷ V)) b
  StmOk V (Try b w c) = StmsOk V b × StmsOk (w ∷ V) c
  StmOk V (Block b) = StmsOk V b

  pub StmsOk : List Word → Stms → Type 0
  StmsOk V Done = Unit {0}
  StmsOk V (Then s ss) = StmOk V s × StmsOk (with_word (name_by s) V) ss

  pub OptionExpOk : List Word → OptionExp → Type 0
  OptionExpOk V NoneExp = Unit {0}
  OptionExpOk V (SomeExp x) = ExpOk V x

  pub OptionStmOk : List Word → OptionStm → Type 0
  OptionStmOk V NoneStm = Unit {0}
  OptionStmOk V (SomeStm s) = StmOk V s

  pub OptionStmsOk : List Word → OptionStms → Type 0
  OptionStmsOk V NoneStms = Unit {0}
  OptionStmsOk V (SomeStms b) = StmsOk V b

-- the words in sight
abbrev pub sight_of : Env → List Word
sight_of [] = []
sight_of (v ∷ ρ) = v.0 ∷ sight_of ρ

-- a word that names no variable isn't in sight
pub out_of_sight : (ρ : Env) (w : Word) → find_var ρ w ≡ None → is_among w (sight_of ρ) ≡ false
out_of_sight [] w e = refl
out_of_sight (v ∷ ρ) w e = go (bytes_eq v.0 w) e (out_of_sight ρ w)
  where
    go : (b : Bool) → cond b (Some v.1) (find_var ρ w) ≡ None → (find_var ρ w ≡ None → is_among w (sight_of ρ) ≡ false) → b || is_among w (sight_of ρ) ≡ false
    go true e ih = absurd (cc)
    go false e ih = ih e
