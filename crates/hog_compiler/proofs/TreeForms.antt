-- Forms with lists, and what stands in them.
use Rattle.std.proofs.Common.{◌≡◌, ◌≤◌, ℕ, [], length, Option, sym, ap, ap₂, ◌∙◌, subst, arith}
use Rattle.hog_value.specs.declared.native.Native.TheVariants as native
use Rattle.hog_ops.specs.Plain as o
use Rattle.hog_ops.specs.Plain.{Ops, NoOp, ◌⊕◌}
use Rattle.std.specs.declared.boxed.Box.{Box}
use Rattle.std.specs.declared.alloc.Global.{Global}
use Rattle.hog_tree.specs.Plain as p
use Rattle.hog_tree.specs.Plain.{Exp, Pairs, NoPair, Body, Stm, Stms}
use Rattle.hog_tree.specs.declared.tree.Expr as e
use Rattle.hog_tree.specs.declared.tree.Expr.{Expr}
use Rattle.hog_tree.specs.declared.tree.Exprs.{Exprs}
use Rattle.hog_tree.specs.declared.tree.Parts.{Parts}
use Rattle.hog_tree.specs.declared.tree.DictItems.{DictItems}
use Rattle.hog_tree.specs.declared.tree.ArrowBody.TheViews.{out-DictItems}
use Rattle.hog_tree.specs.View.{exp_of, exps_from, parts_from, pairs_from, dict_of}
use Rattle.hog_tree.proofs.Rows.{template_is, array_is, call_is, dict_is}
use Rattle.hog_captures.specs.Frames.{Frame}
use Rattle.hog_compiler.specs.AddsCode.{AddsCode}
use Rattle.hog_compiler.specs.Pieces.{one, return_null}
use Rattle.hog_compiler.specs.Code.{pairs_count, called_native, call_code, exp_code, exps_code, parts_code, pairs_code, body_code, stms_code}
use Rattle.hog_tree.specs.Nesting.{deepest, exp_nesting, body_nesting, stm_nesting, stms_nesting}
use Rattle.hog_compiler.proofs.Joins.{adds_then}
use Rattle.hog_compiler.proofs.Fine.{Fine, fine_join}
use Rattle.hog_compiler.proofs.FineLoops.{fine_null}
use Rattle.hog_compiler.proofs.FineCode.{body_fine, stms_fine}
use Rattle.hog_compiler.proofs.Lists.{exps_count, parts_counted, pairs_counted}

-- the same tree is no deeper
pub exp_low : {x y : Exp} → x ≡ y → exp_nesting x ≤ deepest → exp_nesting y ≤ deepest
exp_low {x} {y} same low = let Low : Exp → Type 0 = λ z. exp_nesting z ≤ deepest in subst Low same low

pub body_low : {x y : Body} → x ≡ y → body_nesting x ≤ deepest → body_nesting y ≤ deepest
body_low {x} {y} same low = let Low : Body → Type 0 = λ z. body_nesting z ≤ deepest in subst Low same low

pub stm_low : {x y : Stm} → x ≡ y → stm_nesting x ≤ deepest → stm_nesting y ≤ deepest
stm_low {x} {y} same low = let Low : Stm → Type 0 = λ z. stm_nesting z ≤ deepest in subst Low same low

-- lists as a form holds them

abbrev pairs_in : Exp → Pairs
pairs_in (p.Dict ds) = ds
pairs_in x = NoPair

pub dict_listed : (ds : DictItems) → dict_of ds ≡ pairs_from (out-DictItems ds).list.items
dict_listed ds = ap pairs_in (dict_is ds)

pub template_same : (fr : Frame) (ps : Parts) (x : Expr) (n : ℕ) → x ≡ e.Template ps → n ≡ length ps.list.items
    → parts_code fr (parts_from ps.list.items) ⊕ one (o.CallGlobal native.Concat n) ≡ exp_code fr (exp_of x)
template_same fr ps x n is count =
    ap (λ k. parts_code fr (parts_from ps.list.items) ⊕ one (o.CallGlobal native.Concat k)) (count ∙ sym (parts_counted ps.list.items))
    ∙ sym (ap (exp_code fr) (ap exp_of is ∙ template_is ps))

pub array_same : (fr : Frame) (xs : Exprs) (x : Expr) (n : ℕ) → x ≡ e.Array xs → n ≡ length xs.list.items
    → exps_code fr (exps_from xs.list.items) ⊕ one (o.Array n) ≡ exp_code fr (exp_of x)
array_same fr xs x n is count =
    ap (λ k. exps_code fr (exps_from xs.list.items) ⊕ one (o.Array k)) (count ∙ sym (exps_count xs.list.items))
    ∙ sym (ap (exp_code fr) (ap exp_of is ∙ array_is xs))

pub dict_same : (fr : Frame) (ds : DictItems) (x : Expr) (n : ℕ) → x ≡ e.Dict ds → n ≡ length (out-DictItems ds).list.items
    → pairs_code fr (dict_of ds) ⊕ one (o.Dict n) ≡ exp_code fr (exp_of x)
dict_same fr ds x n is count =
    ap (λ k. pairs_code fr (dict_of ds) ⊕ one (o.Dict k)) (count ∙ sym (pairs_counted (out-DictItems ds).list.items) ∙ sym (ap pairs_count (dict_listed ds)))
    ∙ sym (ap (exp_code fr) (ap exp_of is))

-- a call, by the native that is called
pub call_same : (fr : Frame) (f : Box Expr Global) (xs : Exprs) (x : Expr) (n : ℕ) (w : Option p.Word) → x ≡ e.Call f xs → n ≡ length xs.list.items
    → w ≡ called_native fr (exp_of f.value)
    → exps_code fr (exps_from xs.list.items) ⊕ call_code w n (exp_code fr (exp_of f.value)) ≡ exp_code fr (exp_of x)
call_same fr f xs x n w is count native =
    ap₂ (λ k v. exps_code fr (exps_from xs.list.items) ⊕ call_code v k (exp_code fr (exp_of f.value))) (count ∙ sym (exps_count xs.list.items)) native
    ∙ sym (ap (exp_code fr) (ap exp_of is ∙ call_is f xs))

-- ---- what is written into an empty draft

pub written : {a b x : Ops} → a ≡ NoOp → AddsCode a b x → b ≡ x
written {a} {b} {x} empty adds = adds.is ∙ ap (λ os. os ⊕ x) empty

raised : {x y : Ops} → x ≡ y → Fine deepest y → Fine deepest x
raised same fine = subst (Fine deepest) (sym same) fine

pub lambda_fine : (fr : Frame) (bd : Body) {a b : Ops} → a ≡ NoOp → AddsCode a b (body_code fr bd) → exp_nesting (p.Lambda [] bd) ≤ deepest → Fine deepest b
lambda_fine fr bd empty adds low = raised (written empty adds) (body_fine bd deepest fr (omega arith))

pub function_fine : (fr : Frame) (ss : Stms) {a b d : Ops} → a ≡ NoOp → AddsCode a b (stms_code fr ss) → AddsCode b d return_null → stms_nesting ss ≤ deepest → Fine deepest d
function_fine fr ss empty adds ends low =
    raised (written empty (adds_then adds ends)) (fine_join (stms_fine ss deepest fr low) (fine_null deepest))
