-- The code of a program, form by form.
use Rattle.std.specs.Prelude.{ℕ, ◌+◌, pos, List, [], ◌++◌, length, true, false, Option, Some, None, if◌then◌else◌}
use Rattle.hog_value.specs.declared.native.Native.TheVariants as native
use Rattle.hog_value.specs.Natives.{native_named}
use Rattle.hog_ops.specs.Plain as o
use Rattle.hog_ops.specs.Plain.{Op, Ops, NoOp, MoreOp, ◌⊕◌}
use Rattle.hog_scope.specs.Words.{count_of}
use Rattle.hog_tree.specs.Plain.{Word, Exp, Exps, Parts, Pairs, Body, Stm, Stms, OptionExp, OptionStm, Int, Truth, Null, Text, Template, Name, Array, Dict, Neg, Not, Binary, Coalesce, Prop, PropNullish, Index, Call, Lambda, NoExp, MoreExp, NoPart, MoreText, MoreHole, NoPair, MorePair, OneExp, ManyStms, Let, Assign, Do, Return, Throw, If, While, For, ForIn, Fun, Try, Block, Done, Then, NoneExp, SomeExp, NoneStm, SomeStm, NoneStms, SomeStms}
use Rattle.hog_captures.specs.Frees.{without_all, name_by, option_name_by, body_frees, stms_frees, option_exp_frees, option_stm_frees}
use Rattle.hog_captures.specs.Frames.{Frame, first_frame, find_local, find_up, knows, captured_of, captures_of, with_local, with_name, with_hidden, inner_frame}
use Rattle.hog_compiler.specs.Pieces.{one, truth_op, read_code, write_op, binary_code, coalesce_code, native_code, value_call, return_null, fun_code, lambda_name, if_code, if_else_code, loop_code, try_code, pop_op, key_count, for_in_code}

-- how many parts, and how many pairs
abbrev pub parts_count : Parts → ℕ
parts_count NoPart = 0
parts_count (MoreText t ps) = parts_count ps + 1
parts_count (MoreHole x ps) = parts_count ps + 1

abbrev pub pairs_count : Pairs → ℕ
pairs_count NoPair = 0
pairs_count (MorePair k v ds) = pairs_count ds + 1

-- the native that is called: a word that the frame doesn't know
abbrev pub called_native : Frame → Exp → Option Word
called_native fr (Name w) = if knows fr w then None else Some w
called_native fr f = None

-- a call, after its arguments, by the native that is called, or else the code of what is called
abbrev pub call_code : Option Word → ℕ → Ops → Ops
call_code None count callee = value_call callee count
call_code (Some w) count callee = native_code (native_named w) count

-- An assignment, by what is assigned: the code of the parts of the target, then the value. No other forms than a word, a
-- property and an item are assigned in a program that was read from a text.
abbrev pub word_set : Frame → Word → Ops → Ops
word_set fr w value = value ⊕ one (write_op (find_local fr.locals w) (find_up fr.ups w))

abbrev pub prop_set : Ops → Word → Ops → Ops
prop_set base w value = base ⊕ MoreOp (o.Str w) (value ⊕ one o.SetProperty)

abbrev pub item_set : Ops → Ops → Ops → Ops
item_set base key value = base ⊕ (key ⊕ (value ⊕ one o.SetProperty))

abbrev pub drop_both : Ops → Ops → Ops
drop_both target value = target ⊕ (value ⊕ MoreOp o.Pop (one o.Pop))

-- The local that a statement declares comes off. Functions in what follows have these free words, and those of a `fun` may
-- name it too.
abbrev pub name_pop : Stm → List Word → Ops
name_pop (Let w x) frees = one (pop_op w frees)
name_pop (Fun w ps b) frees = one (pop_op w (without_all ps (stms_frees true b) ++ frees))
name_pop s frees = NoOp

abbrev pub option_name_pop : OptionStm → List Word → Ops
option_name_pop NoneStm frees = NoOp
option_name_pop (SomeStm s) frees = name_pop s frees

-- a block is its statements, and then the pops of their locals, the last one first
abbrev pub block_pops : Stms → Ops
block_pops Done = NoOp
block_pops (Then s ss) = block_pops ss ⊕ name_pop s (stms_frees false ss)

-- the variables that a function made here captures, where its free words are these
abbrev pub lambda_captured : Frame → List Word → Body → List Word
lambda_captured fr ps b = captured_of fr (without_all ps (body_frees b))

abbrev pub fun_captured : Frame → List Word → Stms → List Word
fun_captured fr ps b = captured_of fr (without_all ps (stms_frees true b))

abbrev mutual
  pub exp_code : Frame → Exp → Ops
  exp_code fr (Int n) = one (o.Integer n)
  exp_code fr (Truth b) = one (truth_op b)
  exp_code fr Null = one o.PushNull
  exp_code fr (Text t) = one (o.Str t)
  exp_code fr (Template ps) = parts_code fr ps ⊕ one (o.CallGlobal native.Concat (parts_count ps))
  exp_code fr (Name w) = read_code (find_local fr.locals w) (find_up fr.ups w) w
  exp_code fr (Array xs) = exps_code fr xs ⊕ one (o.Array (count_of xs))
  exp_code fr (Dict ds) = pairs_code fr ds ⊕ one (o.Dict (pairs_count ds))
  exp_code fr (Neg x) = exp_code fr x ⊕ MoreOp (o.Integer (pos 0)) (one o.Minus)
  exp_code fr (Not x) = exp_code fr x ⊕ one o.Not
  exp_code fr (Binary op x y) = binary_code op (exp_code fr x) (exp_code fr y)
  exp_code fr (Coalesce x y) = coalesce_code (exp_code fr x) (exp_code fr y)
  exp_code fr (Prop x w) = exp_code fr x ⊕ MoreOp (o.Str w) (one o.GetProperty)
  exp_code fr (PropNullish x w) = exp_code fr x ⊕ MoreOp (o.Str w) (one o.GetPropertyNullish)
  exp_code fr (Index x k) = exp_code fr x ⊕ (exp_code fr k ⊕ one o.GetProperty)
  exp_code fr (Call f xs) = exps_code fr xs ⊕ call_code (called_native fr f) (count_of xs) (exp_code fr f)
  exp_code fr (Lambda ps b) =
      fun_code lambda_name ps (captures_of fr (lambda_captured fr ps b)) (body_code (inner_frame ps (lambda_captured fr ps b)) b)

  pub exps_code : Frame → Exps → Ops
  exps_code fr NoExp = NoOp
  exps_code fr (MoreExp x xs) = exp_code fr x ⊕ exps_code fr xs

  pub parts_code : Frame → Parts → Ops
  parts_code fr NoPart = NoOp
  parts_code fr (MoreText t ps) = MoreOp (o.Str t) (parts_code fr ps)
  parts_code fr (MoreHole x ps) = exp_code fr x ⊕ parts_code fr ps

  pub pairs_code : Frame → Pairs → Ops
  pairs_code fr NoPair = NoOp
  pairs_code fr (MorePair k v ds) = exp_code fr k ⊕ (exp_code fr v ⊕ pairs_code fr ds)

  -- A body returns its expression, or null after its statements. Its outermost locals aren't popped.
  pub body_code : Frame → Body → Ops
  body_code fr (OneExp x) = exp_code fr x ⊕ one o.Return
  body_code fr (ManyStms ss) = stms_code fr ss ⊕ return_null

  -- A step is a scope by itself. The value of a `let` and the function of a `fun` stay on the stack as locals.
  pub stm_code : Frame → Stm → Ops
  stm_code fr (Let w x) = value_code fr o.PushNull x
  stm_code fr (Assign (Name w) y) = word_set fr w (exp_code fr y)
  stm_code fr (Assign (Prop x w) y) = prop_set (exp_code fr x) w (exp_code fr y)
  stm_code fr (Assign (Index x k) y) = item_set (exp_code fr x) (exp_code fr k) (exp_code fr y)
  stm_code fr (Assign x y) = drop_both (exp_code fr x) (exp_code fr y)
  stm_code fr (Do x) = exp_code fr x ⊕ one o.Pop
  stm_code fr (Return x) = value_code fr o.PushNull x ⊕ one o.Return
  stm_code fr (Throw x) = exp_code fr x ⊕ one o.Throw
  stm_code fr (If c b NoneStms) = if_code (exp_code fr c) (stms_code fr b ⊕ block_pops b)
  stm_code fr (If c b (SomeStms e)) = if_else_code (exp_code fr c) (stms_code fr b ⊕ block_pops b) (stms_code fr e ⊕ block_pops e)
  stm_code fr (While c b) = loop_code (exp_code fr c) (stms_code fr b ⊕ block_pops b)
  stm_code fr (For a c n b) =
      let inside = with_name (option_name_by a) fr in
      option_stm_code fr a
      ⊕ (loop_code (value_code inside o.PushTrue c) ((stms_code inside b ⊕ block_pops b) ⊕ (option_stm_code inside n ⊕ option_name_pop n []))
      ⊕ option_name_pop a (option_exp_frees false c ++ (option_stm_frees false n ++ stms_frees false b)))
  stm_code fr (ForIn k v x b) =
      let hidden = with_hidden (4 + key_count k) fr in
      exp_code fr x
      ⊕ for_in_code k v (length fr.locals) (stms_code (with_local (Some v) (with_name k hidden)) b ⊕ block_pops b) (stms_frees false b)
  stm_code fr (Fun w ps b) =
      let inside = with_local (Some w) fr in
      fun_code w ps (captures_of inside (fun_captured inside ps b)) (stms_code (inner_frame ps (fun_captured inside ps b)) b ⊕ return_null)
  stm_code fr (Try b w h) =
      try_code (stms_code fr b ⊕ block_pops b) ((stms_code (with_local (Some w) fr) h ⊕ block_pops h) ⊕ one (pop_op w (stms_frees false h)))
  stm_code fr (Block b) = stms_code fr b ⊕ block_pops b

  pub stms_code : Frame → Stms → Ops
  stms_code fr Done = NoOp
  stms_code fr (Then s ss) = stm_code fr s ⊕ stms_code (with_name (name_by s) fr) ss

  -- a value, or what stands for one that is left out
  pub value_code : Frame → Op → OptionExp → Ops
  value_code fr absent NoneExp = one absent
  value_code fr absent (SomeExp x) = exp_code fr x

  -- the start or the step of a `for`
  pub option_stm_code : Frame → OptionStm → Ops
  option_stm_code fr NoneStm = NoOp
  option_stm_code fr (SomeStm s) = stm_code fr s

-- the code of a block
abbrev pub block_code : Frame → Stms → Ops
block_code fr ss = stms_code fr ss ⊕ block_pops ss

-- the code of a program
unfoldable pub code_of : Stms → Ops
code_of program = stms_code first_frame program ⊕ return_null
