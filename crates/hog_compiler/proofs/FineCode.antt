-- The code of each form is a code by itself, in which at most so many bodies stand in one another as functions in the form.
use Rattle.std.proofs.Common.{◌≤◌, ℕ, ◌+◌, pos, List, [], ◌++◌, length, true, false, Option, Some, None, refl, arith}
use Rattle.hog_value.specs.declared.native.Native.TheVariants as native
use Rattle.hog_value.specs.Natives.{native_named}
use Rattle.hog_ops.specs.Plain as o
use Rattle.hog_ops.specs.Plain.{Op, Ops, NoOp, MoreOp, ◌⊕◌}
use Rattle.hog_scope.specs.Words.{count_of}
use Rattle.hog_tree.specs.Plain.{Word, Exp, Exps, Parts, Pairs, Body, Stm, Stms, OptionExp, OptionStm, Int, Truth, Null, Text, Template, Name, Array, Dict, Neg, Not, Binary, Coalesce, Prop, PropNullish, Index, Call, Lambda, NoExp, MoreExp, NoPart, MoreText, MoreHole, NoPair, MorePair, OneExp, ManyStms, Let, Assign, Do, Return, Throw, If, While, For, ForIn, Fun, Try, Block, Done, Then, NoneExp, SomeExp, NoneStm, SomeStm, NoneStms, SomeStms}
use Rattle.hog_captures.specs.Frees.{without_all, name_by, option_name_by, stms_frees, option_exp_frees, option_stm_frees}
use Rattle.hog_captures.specs.Frames.{Frame, find_local, find_up, captures_of, with_local, with_name, with_hidden, inner_frame}
use Rattle.hog_compiler.specs.Pieces.{one, lambda_name, key_count}
use Rattle.hog_compiler.specs.Code.{parts_count, pairs_count, called_native, call_code, name_pop, option_name_pop, block_pops, lambda_captured, fun_captured, exp_code, exps_code, parts_code, pairs_code, body_code, stm_code, stms_code, value_code, option_stm_code}
use Rattle.hog_tree.specs.Nesting.{exp_nesting, exps_nesting, parts_nesting, pairs_nesting, body_nesting, stm_nesting, stms_nesting, option_exp_nesting, option_stm_nesting}
use Rattle.hog_compiler.proofs.Fine.{Fine, fine_none, fine_join, fine_more, fine_one, fine_coalesce, fine_if, fine_if_else, fine_try}
use Rattle.hog_compiler.proofs.FineLoops.{any_count, fine_loop, fine_native, fine_fun, fine_truth, fine_read, fine_write, fine_pop, fine_null, fine_for_in, fine_binary}

-- ---- pops

name_off : (n : ℕ) (s : Stm) (frees : List Word) → Fine n (name_pop s frees)
name_off n (Let w x) frees = fine_pop n w frees
name_off n (Fun w ps b) frees = fine_pop n w (without_all ps (stms_frees true b) ++ frees)
name_off n s frees = fine_none n

option_name_off : (n : ℕ) (s : OptionStm) (frees : List Word) → Fine n (option_name_pop s frees)
option_name_off n NoneStm frees = fine_none n
option_name_off n (SomeStm s) frees = name_off n s frees

pub pops_fine : (n : ℕ) (ss : Stms) → Fine n (block_pops ss)
pops_fine n Done = fine_none n
pops_fine n (Then s ss) = fine_join (pops_fine n ss) (name_off n s (stms_frees false ss))

-- ---- calls

pub call_fine : {n : ℕ} (w : Option Word) (count : ℕ) {callee : Ops} → Fine n callee → Fine n (call_code w count callee)
call_fine {n} None count f = fine_join f (fine_one n (o.CallLocal count) (any_count count) refl (omega arith))
call_fine {n} (Some w) count f = fine_native n (native_named w) count

-- ---- forms

mutual
  pub exp_fine : (e : Exp) (n : ℕ) (fr : Frame) → exp_nesting e ≤ n → Fine n (exp_code fr e)
  exp_fine (Int z) n fr h = fine_one n (o.Integer z) refl refl (omega arith)
  exp_fine (Truth b) n fr h = fine_truth n b
  exp_fine Null n fr h = fine_one n o.PushNull refl refl (omega arith)
  exp_fine (Text t) n fr h = fine_one n (o.Str t) refl refl (omega arith)
  exp_fine (Template ps) n fr h = fine_join (parts_fine ps n fr h) (fine_one n (o.CallGlobal native.Concat (parts_count ps)) refl refl (omega arith))
  exp_fine (Name w) n fr h = fine_read n (find_local fr.locals w) (find_up fr.ups w) w
  exp_fine (Array xs) n fr h = fine_join (exps_fine xs n fr h) (fine_one n (o.Array (count_of xs)) (any_count (count_of xs)) refl (omega arith))
  exp_fine (Dict ds) n fr h = fine_join (pairs_fine ds n fr h) (fine_one n (o.Dict (pairs_count ds)) (any_count (pairs_count ds)) refl (omega arith))
  exp_fine (Neg x) n fr h = fine_join (exp_fine x n fr h) (fine_more (o.Integer (pos 0)) refl refl (omega arith) (fine_one n o.Minus refl refl (omega arith)))
  exp_fine (Not x) n fr h = fine_join (exp_fine x n fr h) (fine_one n o.Not refl refl (omega arith))
  exp_fine (Binary op x y) n fr h = fine_binary op (exp_fine x n fr (omega arith)) (exp_fine y n fr (omega arith))
  exp_fine (Coalesce x y) n fr h = fine_coalesce (exp_fine x n fr (omega arith)) (exp_fine y n fr (omega arith))
  exp_fine (Prop x w) n fr h = fine_join (exp_fine x n fr h) (fine_more (o.Str w) refl refl (omega arith) (fine_one n o.GetProperty refl refl (omega arith)))
  exp_fine (PropNullish x w) n fr h = fine_join (exp_fine x n fr h) (fine_more (o.Str w) refl refl (omega arith) (fine_one n o.GetPropertyNullish refl refl (omega arith)))
  exp_fine (Index x k) n fr h = fine_join (exp_fine x n fr (omega arith)) (fine_join (exp_fine k n fr (omega arith)) (fine_one n o.GetProperty refl refl (omega arith)))
  exp_fine (Call f xs) n fr h = fine_join (exps_fine xs n fr (omega arith)) (call_fine (called_native fr f) (count_of xs) (exp_fine f n fr (omega arith)))
  exp_fine (Lambda ps b) n fr h =
      fine_fun lambda_name ps (captures_of fr (lambda_captured fr ps b)) h (body_fine b (body_nesting b) (inner_frame ps (lambda_captured fr ps b)) (omega arith))

  exps_fine : (xs : Exps) (n : ℕ) (fr : Frame) → exps_nesting xs ≤ n → Fine n (exps_code fr xs)
  exps_fine NoExp n fr h = fine_none n
  exps_fine (MoreExp x xs) n fr h = fine_join (exp_fine x n fr (omega arith)) (exps_fine xs n fr (omega arith))

  parts_fine : (ps : Parts) (n : ℕ) (fr : Frame) → parts_nesting ps ≤ n → Fine n (parts_code fr ps)
  parts_fine NoPart n fr h = fine_none n
  parts_fine (MoreText t ps) n fr h = fine_more (o.Str t) refl refl (omega arith) (parts_fine ps n fr h)
  parts_fine (MoreHole x ps) n fr h = fine_join (exp_fine x n fr (omega arith)) (parts_fine ps n fr (omega arith))

  pairs_fine : (ds : Pairs) (n : ℕ) (fr : Frame) → pairs_nesting ds ≤ n → Fine n (pairs_code fr ds)
  pairs_fine NoPair n fr h = fine_none n
  pairs_fine (MorePair k v ds) n fr h = fine_join (exp_fine k n fr (omega arith)) (fine_join (exp_fine v n fr (omega arith)) (pairs_fine ds n fr (omega arith)))

  pub body_fine : (b : Body) (n : ℕ) (fr : Frame) → body_nesting b ≤ n → Fine n (body_code fr b)
  body_fine (OneExp x) n fr h = fine_join (exp_fine x n fr h) (fine_one n o.Return refl refl (omega arith))
  body_fine (ManyStms ss) n fr h = fine_join (stms_fine ss n fr h) (fine_null n)

  stm_fine : (s : Stm) (n : ℕ) (fr : Frame) → stm_nesting s ≤ n → Fine n (stm_code fr s)
  stm_fine (Let w x) n fr h = value_fine x n fr (fine_one n o.PushNull refl refl (omega arith)) h
  stm_fine (Assign (Name w) y) n fr h = fine_join (exp_fine y n fr (omega arith)) (fine_write n (find_local fr.locals w) (find_up fr.ups w))
  stm_fine (Assign (Prop x w) y) n fr h =
      fine_join (exp_fine x n fr (omega arith)) (fine_more (o.Str w) refl refl (omega arith) (fine_join (exp_fine y n fr (omega arith)) (fine_one n o.SetProperty refl refl (omega arith))))
  stm_fine (Assign (Index x k) y) n fr h =
      fine_join (exp_fine x n fr (omega arith)) (fine_join (exp_fine k n fr (omega arith)) (fine_join (exp_fine y n fr (omega arith)) (fine_one n o.SetProperty refl refl (omega arith))))
  stm_fine (Assign x y) n fr h =
      fine_join (exp_fine x n fr (omega arith)) (fine_join (exp_fine y n fr (omega arith)) (fine_more o.Pop refl refl (omega arith) (fine_one n o.Pop refl refl (omega arith))))
  stm_fine (Do x) n fr h = fine_join (exp_fine x n fr h) (fine_one n o.Pop refl refl (omega arith))
  stm_fine (Return x) n fr h = fine_join (value_fine x n fr (fine_one n o.PushNull refl refl (omega arith)) h) (fine_one n o.Return refl refl (omega arith))
  stm_fine (Throw x) n fr h = fine_join (exp_fine x n fr h) (fine_one n o.Throw refl refl (omega arith))
  stm_fine (If c b NoneStms) n fr h = fine_if (exp_fine c n fr (omega arith)) (fine_join (stms_fine b n fr (omega arith)) (pops_fine n b))
  stm_fine (If c b (SomeStms e)) n fr h =
      fine_if_else (exp_fine c n fr (omega arith)) (fine_join (stms_fine b n fr (omega arith)) (pops_fine n b)) (fine_join (stms_fine e n fr (omega arith)) (pops_fine n e))
  stm_fine (While c b) n fr h = fine_loop _ _ (exp_fine c n fr (omega arith)) (fine_join (stms_fine b n fr (omega arith)) (pops_fine n b))
  stm_fine (For a c m b) n fr h =
      let inside = with_name (option_name_by a) fr in
      fine_join (option_stm_fine a n fr (omega arith))
      (fine_join (fine_loop _ _ (value_fine c n inside (fine_one n o.PushTrue refl refl (omega arith)) (omega arith))
      (fine_join (fine_join (stms_fine b n inside (omega arith)) (pops_fine n b)) (fine_join (option_stm_fine m n inside (omega arith)) (option_name_off n m []))))
      (option_name_off n a (option_exp_frees false c ++ (option_stm_frees false m ++ stms_frees false b))))
  stm_fine (ForIn k v x b) n fr h =
      let hidden = with_hidden (4 + key_count k) fr in
      fine_join (exp_fine x n fr (omega arith))
      (fine_for_in k v (length fr.locals) (stms_frees false b) (fine_join (stms_fine b n (with_local (Some v) (with_name k hidden)) (omega arith)) (pops_fine n b)))
  stm_fine (Fun w ps b) n fr h =
      let inside = with_local (Some w) fr in
      fine_fun w ps (captures_of inside (fun_captured inside ps b)) h
      (fine_join (stms_fine b (stms_nesting b) (inner_frame ps (fun_captured inside ps b)) (omega arith)) (fine_null (stms_nesting b)))
  stm_fine (Try b w c) n fr h =
      fine_try (fine_join (stms_fine b n fr (omega arith)) (pops_fine n b))
      (fine_join (fine_join (stms_fine c n (with_local (Some w) fr) (omega arith)) (pops_fine n c)) (fine_pop n w (stms_frees false c)))
  stm_fine (Block b) n fr h = fine_join (stms_fine b n fr h) (pops_fine n b)

  pub stms_fine : (ss : Stms) (n : ℕ) (fr : Frame) → stms_nesting ss ≤ n → Fine n (stms_code fr ss)
  stms_fine Done n fr h = fine_none n
  stms_fine (Then s ss) n fr h = fine_join (stm_fine s n fr (omega arith)) (stms_fine ss n (with_name (name_by s) fr) (omega arith))

  value_fine : (x : OptionExp) (n : ℕ) (fr : Frame) {absent : Op} → Fine n (one absent) → option_exp_nesting x ≤ n → Fine n (value_code fr absent x)
  value_fine NoneExp n fr f h = f
  value_fine (SomeExp x) n fr f h = exp_fine x n fr h

  option_stm_fine : (s : OptionStm) (n : ℕ) (fr : Frame) → option_stm_nesting s ≤ n → Fine n (option_stm_code fr s)
  option_stm_fine NoneStm n fr h = fine_none n
  option_stm_fine (SomeStm s) n fr h = stm_fine s n fr h
