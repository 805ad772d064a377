-- The prelude's functions, placed and read.
use Rattle.std.proofs.Common.{◌≡◌, ◌≢◌, ℕ, ◌<◌, List, [], ◌∷◌, ◌++◌, length, slice_index_or, Bool, true, false, ◌||◌, if◌then◌else◌, IfOk, Result, Ok, Err, refl, subst, ◌∙◌, arith}
use Rattle.std.specs.Bool.{◌==◌}
use Rattle.hog_tree.specs.declared.tree.Stmt.{Stmt}
use Rattle.hog_tree.specs.Plain.{Stm, Stms, Done, Then, Block}
use Rattle.hog_tree.specs.View.{stm_of, stms_from}
use Rattle.hog_tree.proofs.Rows.{add_stm, stms_from-snoc}
use Rattle.hog_program.specs.Placing.{added}
use Rattle.hog_program.specs.Prelude.{array_map, array_filter, array_exists}

-- a text's only statement is there, and it is the first
pub is_there : (xs : List Stmt) (s : Stm) → stms_from xs ≡ Then s Done → 0 < length xs
is_there [] s is = absurd (cc)
is_there (x ∷ xs) s is = omega arith

pub is_first : (xs : List Stmt) (s : Stm) (d : Stmt) → stms_from xs ≡ Then s Done → stm_of (slice_index_or xs 0 d) ≡ s
is_first [] s d is = absurd (cc)
is_first (x ∷ xs) s d is = cc

pub ok_then : {T E : Type 0} (r : Result T E) (P Q : T → Type 0) → ((t : T) → P t → Q t) → IfOk r P → IfOk r Q
ok_then (Ok t) P Q f h = f t h
ok_then (Err e) P Q f h = tt

-- a program with the functions that are wanted
abbrev pub whole : Bool → Bool → Bool → Stms → Stms
whole maps filters tests program =
    if maps || (filters || (tests || false))
    then (if maps then Then array_map (if filters then Then array_filter (if tests then Then array_exists (Then (Block program) Done) else Then (Block program) Done) else (if tests then Then array_exists (Then (Block program) Done) else Then (Block program) Done))
    else (if filters then Then array_filter (if tests then Then array_exists (Then (Block program) Done) else Then (Block program) Done) else (if tests then Then array_exists (Then (Block program) Done) else Then (Block program) Done)))
    else program

abbrev pub functions : Bool → Bool → Bool → Stms
functions maps filters tests = added tests array_exists (added filters array_filter (added maps array_map Done))

pub none_placed : (maps filters tests : Bool) (program : Stms) → functions maps filters tests ≡ Done → program ≡ whole maps filters tests program
none_placed true true true program is = absurd (cc)
none_placed true true false program is = absurd (cc)
none_placed true false true program is = absurd (cc)
none_placed true false false program is = absurd (cc)
none_placed false true true program is = absurd (cc)
none_placed false true false program is = absurd (cc)
none_placed false false true program is = absurd (cc)
none_placed false false false program is = refl

pub some_placed : (maps filters tests : Bool) (program : Stms) → functions maps filters tests ≢ Done → add_stm (functions maps filters tests) (Block program) ≡ whole maps filters tests program
some_placed true true true program is = refl
some_placed true true false program is = refl
some_placed true false true program is = refl
some_placed true false false program is = refl
some_placed false true true program is = refl
some_placed false true false program is = refl
some_placed false false true program is = refl
some_placed false false false program is = absurd (is refl)

pub no_statement : (xs : List Stmt) → length xs ≡ 0 → stms_from xs ≡ Done
no_statement [] is = refl
no_statement (x ∷ xs) is = absurd (omega (arith, is))

pub some_statement : (xs : List Stmt) → length xs ≢ 0 → stms_from xs ≢ Done
some_statement [] is same = is refl
some_statement (x ∷ xs) is same = cc

pub one_behind : (xs : List Stmt) (x : Stmt) → stms_from (xs ++ x ∷ []) ≡ add_stm (stms_from xs) (stm_of x)
one_behind xs x = stms_from-snoc xs x

never : false ≡ true → ⊥
never same = cc

pub not_empty : (n m : ℕ) → false ≡ (n == 0) → n ≡ m → m ≡ 0 → ⊥
not_empty n m full same none = never (subst (λ (k : ℕ). false ≡ (k == 0)) (same ∙ none) full)
