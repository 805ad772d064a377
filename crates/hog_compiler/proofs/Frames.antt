-- Frames that grow and are left.
use Rattle.std.proofs.Common.{◌≡◌, ◌<◌, ℕ, zero, suc, ◌+◌, List, [], ◌∷◌, ◌++◌, length, take, get_or, Option, Some, None, refl, sym, ap, ◌∙◌}
use Rattle.hog_ops.specs.Plain.{Ops, ◌⊕◌}
use Rattle.hog_ops.proofs.Join.{join_assoc, join_none}
use Rattle.hog_tree.specs.Plain.{Word, Stms, Done, Then}
use Rattle.hog_tree.specs.declared.tree.Stmt.{Stmt}
use Rattle.hog_tree.specs.View.{stm_of, stms_from}
use Rattle.hog_captures.specs.Frees.{name_by}
use Rattle.hog_captures.specs.Frames.{Frame, with_local, with_name, with_hidden}
use Rattle.hog_compiler.specs.AddsCode.{AddsCode}
use Rattle.hog_compiler.specs.Code.{stm_code, stms_code}
use Rattle.hog_compiler.proofs.Joins.{adds_then, adds_at}
use Rattle.hog_compiler.proofs.Lists.{one_more}

-- a frame, and what it is with locals more
pub record Grown (fr later : Frame) : Type 0 where
  pub names : List (Option Word)
  pub is : later ≡ record { locals = names ++ fr.locals; ups = fr.ups }

pub grown_none : (fr : Frame) → Grown fr fr
grown_none fr = record { names = []; is = refl }

pub grown_local : {fr later : Frame} (name : Option Word) → Grown fr later → Grown fr (with_local name later)
grown_local name g = record { names = name ∷ g.names; is = ap (with_local name) g.is }

pub grown_name : {fr later : Frame} (name : Option Word) → Grown fr later → Grown fr (with_name name later)
grown_name None g = g
grown_name (Some w) g = grown_local (Some w) g

pub grown_hidden : {fr later : Frame} (n : ℕ) → Grown fr later → Grown fr (with_hidden n later)
grown_hidden zero g = g
grown_hidden (suc n) g = grown_local None (grown_hidden n g)

-- the frame after statements
abbrev pub after : Frame → Stms → Frame
after fr Done = fr
after fr (Then s ss) = after (with_name (name_by s) fr) ss

pub grown_after : {fr later : Frame} (ss : Stms) → Grown fr later → Grown fr (after later ss)
grown_after Done g = g
grown_after (Then s ss) g = grown_after ss (grown_name (name_by s) g)

-- one statement more

after_more : (fr : Frame) (xs : List Stmt) (s : Stmt) → after fr (stms_from (xs ++ s ∷ [])) ≡ with_name (name_by (stm_of s)) (after fr (stms_from xs))
after_more fr [] s = refl
after_more fr (x ∷ xs) s = after_more (with_name (name_by (stm_of x)) fr) xs s

stms_more : (fr : Frame) (xs : List Stmt) (s : Stmt) → stms_code fr (stms_from (xs ++ s ∷ [])) ≡ stms_code fr (stms_from xs) ⊕ stm_code (after fr (stms_from xs)) (stm_of s)
stms_more fr [] s = join_none (stm_code fr (stm_of s))
stms_more fr (x ∷ xs) s =
    let inside = with_name (name_by (stm_of x)) fr in
    ap (λ q. stm_code fr (stm_of x) ⊕ q) (stms_more inside xs s)
    ∙ sym (join_assoc (stm_code fr (stm_of x)) (stms_code inside (stms_from xs)) (stm_code (after inside (stms_from xs)) (stm_of s)))

pub adds_stm : {a b c : Ops} (fr : Frame) (xs : List Stmt) (i : ℕ) (s : Stmt) → i < length xs → s ≡ get_or xs i s
    → AddsCode a b (stms_code fr (stms_from (take i xs))) → AddsCode b c (stm_code (after fr (stms_from (take i xs))) (stm_of s))
    → AddsCode a c (stms_code fr (stms_from (take (i + 1) xs)))
adds_stm fr xs i s lt is h k =
    adds_at (sym (stms_more fr (take i xs) s) ∙ ap (λ ys. stms_code fr (stms_from ys)) (sym (one_more xs i s lt is))) (adds_then h k)

pub after_one : (fr : Frame) (xs : List Stmt) (i : ℕ) (s : Stmt) → i < length xs → s ≡ get_or xs i s
    → after fr (stms_from (take (i + 1) xs)) ≡ with_name (name_by (stm_of s)) (after fr (stms_from (take i xs)))
after_one fr xs i s lt is = ap (λ ys. after fr (stms_from ys)) (one_more xs i s lt is) ∙ after_more fr (take i xs) s
