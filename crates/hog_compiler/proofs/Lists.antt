-- Lists of trees, as loops go over them.
use Rattle.std.proofs.Common.{◌≡◌, ◌≤◌, ◌<◌, ℕ, zero, suc, ◌+◌, List, [], ◌∷◌, ◌++◌, length, take, get_or, refl, sym, ap, ◌∙◌, arith}
use Rattle.std.proofs.lemmas.List.{take_more, take_all}
use Rattle.hog_ops.specs.Plain as o
use Rattle.hog_ops.specs.Plain.{Ops, NoOp, MoreOp, ◌⊕◌}
use Rattle.hog_ops.proofs.Join.{join_assoc}
use Rattle.hog_scope.specs.Words.{count_of}
use Rattle.hog_tree.specs.Plain as p
use Rattle.hog_tree.specs.Plain.{Word, Stm, Stms, Done, Then, NoPart, MorePair, NoPair}
use Rattle.hog_tree.specs.declared.tree.Expr.{Expr}
use Rattle.hog_tree.specs.declared.tree.Part.{Part}
use Rattle.hog_tree.specs.declared.tree.Part as t
use Rattle.hog_tree.specs.declared.tree.DictItem.{DictItem}
use Rattle.hog_tree.specs.declared.tree.Stmt.{Stmt}
use Rattle.hog_tree.specs.Count.{of_exp, of_exps, of_parts, of_pairs, of_stm, of_stms}
use Rattle.hog_tree.specs.View.{exp_of, exps_from, part_of, parts_from, pairs_from, stm_of, stms_from}
use Rattle.hog_captures.specs.Frames.{Frame}
use Rattle.hog_compiler.specs.AddsCode.{AddsCode}
use Rattle.hog_compiler.specs.Code.{parts_count, pairs_count, exp_code, exps_code, parts_code, pairs_code}
use Rattle.hog_tree.specs.Nesting.{exp_nesting, exps_nesting, parts_nesting, pairs_nesting, stm_nesting, stms_nesting}
use Rattle.hog_compiler.proofs.Joins.{adds_then, adds_at}

-- the first items and one more
pub one_more : {X : Type 0} (xs : List X) (i : ℕ) (x : X) → i < length xs → x ≡ get_or xs i x → take (i + 1) xs ≡ take i xs ++ x ∷ []
one_more xs i x lt is = take_more xs i x lt ∙ ap (λ y. take i xs ++ y ∷ []) (sym is)

-- ---- code: `code` gives that of items one after another

module _ {X : Type 0} (code : List X → Ops) (more : (xs ys : List X) → code (xs ++ ys) ≡ code xs ⊕ code ys) where
  pub adds_more : {a b c : Ops} (xs : List X) (i : ℕ) (x : X) → i < length xs → x ≡ get_or xs i x
      → AddsCode a b (code (take i xs)) → AddsCode b c (code (x ∷ [])) → AddsCode a c (code (take (i + 1) xs))
  adds_more xs i x lt is h k = adds_at (sym (more (take i xs) (x ∷ [])) ∙ ap code (sym (one_more xs i x lt is))) (adds_then h k)

pub adds_all : {X : Type 0} (code : List X → Ops) {a b : Ops} (xs : List X) (i : ℕ) → length xs ≤ i → AddsCode a b (code (take i xs)) → AddsCode a b (code xs)
adds_all code xs i le h = adds_at (ap code (take_all i xs le)) h

pub exps_more : (fr : Frame) (xs ys : List Expr) → exps_code fr (exps_from (xs ++ ys)) ≡ exps_code fr (exps_from xs) ⊕ exps_code fr (exps_from ys)
exps_more fr [] ys = refl
exps_more fr (x ∷ xs) ys =
    ap (λ q. exp_code fr (exp_of x) ⊕ q) (exps_more fr xs ys) ∙ sym (join_assoc (exp_code fr (exp_of x)) (exps_code fr (exps_from xs)) (exps_code fr (exps_from ys)))

pub parts_more : (fr : Frame) (xs ys : List Part) → parts_code fr (parts_from (xs ++ ys)) ≡ parts_code fr (parts_from xs) ⊕ parts_code fr (parts_from ys)
parts_more fr [] ys = refl
parts_more fr (t.Text w ∷ xs) ys = ap (MoreOp (o.Str w)) (parts_more fr xs ys)
parts_more fr (t.Hole x ∷ xs) ys =
    ap (λ q. exp_code fr (exp_of x) ⊕ q) (parts_more fr xs ys) ∙ sym (join_assoc (exp_code fr (exp_of x)) (parts_code fr (parts_from xs)) (parts_code fr (parts_from ys)))

pub pairs_more : (fr : Frame) (xs ys : List DictItem) → pairs_code fr (pairs_from (xs ++ ys)) ≡ pairs_code fr (pairs_from xs) ⊕ pairs_code fr (pairs_from ys)
pairs_more fr [] ys = refl
pairs_more fr (x ∷ xs) ys =
    let k = exp_code fr (exp_of x.key) in
    let v = exp_code fr (exp_of x.value) in
    let q = pairs_code fr (pairs_from xs) in
    let r = pairs_code fr (pairs_from ys) in
    ap (λ z. k ⊕ (v ⊕ z)) (pairs_more fr xs ys) ∙ ap (λ z. k ⊕ z) (sym (join_assoc v q r)) ∙ sym (join_assoc k (v ⊕ q) r)

-- ---- counts

pub exps_count : (xs : List Expr) → count_of (exps_from xs) ≡ length xs
exps_count [] = refl
exps_count (x ∷ xs) = ap suc (exps_count xs)

pub parts_counted : (xs : List Part) → parts_count (parts_from xs) ≡ length xs
parts_counted [] = refl
parts_counted (t.Text w ∷ xs) = omega (arith, parts_counted xs)
parts_counted (t.Hole x ∷ xs) = omega (arith, parts_counted xs)

pub pairs_counted : (xs : List DictItem) → pairs_count (pairs_from xs) ≡ length xs
pairs_counted [] = refl
pairs_counted (x ∷ xs) = omega (arith, pairs_counted xs)

-- ---- an item is no deeper than its list

pub exps_deep : (xs : List Expr) (i : ℕ) (x : Expr) → i < length xs → x ≡ get_or xs i x → exp_nesting (exp_of x) ≤ exps_nesting (exps_from xs)
exps_deep [] i x lt is = absurd (omega arith)
exps_deep (y ∷ xs) zero x lt is = omega (arith, ap (λ e. exp_nesting (exp_of e)) is)
exps_deep (y ∷ xs) (suc i) x lt is = omega (arith, exps_deep xs i x (omega arith) is)

part_deep : (y : Part) (ps : p.Parts) → (parts_nesting (part_of y NoPart) ≤ parts_nesting (part_of y ps)) × (parts_nesting ps ≤ parts_nesting (part_of y ps))
part_deep (t.Text w) ps = (omega arith, omega arith)
part_deep (t.Hole e) ps = (omega arith, omega arith)

pub parts_deep : (xs : List Part) (i : ℕ) (x : Part) → i < length xs → x ≡ get_or xs i x → parts_nesting (part_of x NoPart) ≤ parts_nesting (parts_from xs)
parts_deep [] i x lt is = absurd (omega arith)
parts_deep (y ∷ xs) zero x lt is = omega (arith, ap (λ e. parts_nesting (part_of e NoPart)) is, (part_deep y (parts_from xs)).0)
parts_deep (y ∷ xs) (suc i) x lt is = omega (arith, parts_deep xs i x (omega arith) is, (part_deep y (parts_from xs)).1)

pub pairs_deep : (xs : List DictItem) (i : ℕ) (x : DictItem) → i < length xs → x ≡ get_or xs i x → pairs_nesting (MorePair (exp_of x.key) (exp_of x.value) NoPair) ≤ pairs_nesting (pairs_from xs)
pairs_deep [] i x lt is = absurd (omega arith)
pairs_deep (y ∷ xs) zero x lt is = omega (arith, ap (λ (e : DictItem). pairs_nesting (MorePair (exp_of e.key) (exp_of e.value) NoPair)) is)
pairs_deep (y ∷ xs) (suc i) x lt is = omega (arith, pairs_deep xs i x (omega arith) is)

pub stms_deep : (xs : List Stmt) (i : ℕ) (x : Stmt) → i < length xs → x ≡ get_or xs i x → stm_nesting (stm_of x) ≤ stms_nesting (stms_from xs)
stms_deep [] i x lt is = absurd (omega arith)
stms_deep (y ∷ xs) zero x lt is = omega (arith, ap (λ s. stm_nesting (stm_of s)) is)
stms_deep (y ∷ xs) (suc i) x lt is = omega (arith, stms_deep xs i x (omega arith) is)

-- ---- an item has no more statements and expressions than its list

pub exps_counts : (xs : List Expr) (i : ℕ) (x : Expr) → i < length xs → x ≡ get_or xs i x → of_exp (exp_of x) ≤ of_exps (exps_from xs)
exps_counts [] i x lt is = absurd (omega arith)
exps_counts (y ∷ xs) zero x lt is = omega (arith, ap (λ e. of_exp (exp_of e)) is)
exps_counts (y ∷ xs) (suc i) x lt is = omega (arith, exps_counts xs i x (omega arith) is)

part_counts : (y : Part) (ps : p.Parts) → of_parts (part_of y ps) ≡ of_parts (part_of y NoPart) + of_parts ps
part_counts (t.Text w) ps = omega arith
part_counts (t.Hole e) ps = omega arith

pub parts_counts : (xs : List Part) (i : ℕ) (x : Part) → i < length xs → x ≡ get_or xs i x → of_parts (part_of x NoPart) ≤ of_parts (parts_from xs)
parts_counts [] i x lt is = absurd (omega arith)
parts_counts (y ∷ xs) zero x lt is = omega (arith, ap (λ e. of_parts (part_of e NoPart)) is, part_counts y (parts_from xs))
parts_counts (y ∷ xs) (suc i) x lt is = omega (arith, parts_counts xs i x (omega arith) is, part_counts y (parts_from xs))

pub pairs_counts : (xs : List DictItem) (i : ℕ) (x : DictItem) → i < length xs → x ≡ get_or xs i x → of_exp (exp_of x.key) + of_exp (exp_of x.value) ≤ of_pairs (pairs_from xs)
pairs_counts [] i x lt is = absurd (omega arith)
pairs_counts (y ∷ xs) zero x lt is = omega (arith, ap (λ (e : DictItem). of_exp (exp_of e.key) + of_exp (exp_of e.value)) is)
pairs_counts (y ∷ xs) (suc i) x lt is = omega (arith, pairs_counts xs i x (omega arith) is)

pub stms_counts : (xs : List Stmt) (i : ℕ) (x : Stmt) → i < length xs → x ≡ get_or xs i x → of_stm (stm_of x) ≤ of_stms (stms_from xs)
stms_counts [] i x lt is = absurd (omega arith)
stms_counts (y ∷ xs) zero x lt is = omega (arith, ap (λ s. of_stm (stm_of s)) is)
stms_counts (y ∷ xs) (suc i) x lt is = omega (arith, stms_counts xs i x (omega arith) is)
