-- Pops of the locals of a block, from the last one on.
use Rattle.std.proofs.Common.{◌≡◌, ◌<◌, ℕ, zero, suc, List, [], ◌∷◌, length, drop, get_or, false, sym, ap, ◌∙◌, arith}
use Rattle.hog_ops.specs.Plain.{Ops, ◌⊕◌}
use Rattle.hog_tree.specs.declared.tree.Stmt.{Stmt}
use Rattle.hog_tree.specs.View.{stm_of, stms_from}
use Rattle.hog_captures.specs.Frees.{stms_frees}
use Rattle.hog_compiler.specs.AddsCode.{AddsCode}
use Rattle.hog_compiler.specs.Code.{name_pop, block_pops}
use Rattle.hog_compiler.proofs.Joins.{adds_then, adds_at}

pops_one : (xs : List Stmt) (at : ℕ) (s : Stmt) → at < length xs → s ≡ get_or xs at s
    → block_pops (stms_from (drop at xs)) ≡ block_pops (stms_from (drop (suc at) xs)) ⊕ name_pop (stm_of s) (stms_frees false (stms_from (drop (suc at) xs)))
pops_one [] at s lt is = absurd (omega arith)
pops_one (y ∷ xs) zero s lt is = ap (λ x. block_pops (stms_from xs) ⊕ name_pop (stm_of x) (stms_frees false (stms_from xs))) (sym is)
pops_one (y ∷ xs) (suc at) s lt is = pops_one xs at s (omega arith) is

-- one local more comes off
pub adds_pop : {a b c : Ops} (xs : List Stmt) (at rest : ℕ) (s : Stmt) → at < length xs → rest ≡ suc at → s ≡ get_or xs at s
    → AddsCode a b (block_pops (stms_from (drop rest xs))) → AddsCode b c (name_pop (stm_of s) (stms_frees false (stms_from (drop rest xs))))
    → AddsCode a c (block_pops (stms_from (drop at xs)))
adds_pop xs at rest s lt next is h k =
    let same = ap (λ n. block_pops (stms_from (drop n xs)) ⊕ name_pop (stm_of s) (stms_frees false (stms_from (drop n xs)))) next in
    adds_at (same ∙ sym (pops_one xs at s lt is)) (adds_then h k)
