-- In a program with what it mentions of the prelude functions stand in one another at most one deeper than in it.
use Rattle.std.proofs.Common.{◌≤◌, ℕ, suc, Bool, true, false, cond, arith}
use Rattle.std.specs.Prelude.{codes, drop}
use Rattle.std.specs.List.{list_any}
use Rattle.hog_tree.specs.Plain.{Word, Stm, Stms, Then, Done, Block}
use Rattle.hog_tree.specs.Nesting.{stm_nesting, stms_nesting}
use Rattle.hog_grammar.specs.Pieces.{Lexed}
use Rattle.hog_program.specs.Prelude.{array_map, array_filter, array_exists, prelude, mentions, placed, with_prelude}

-- with what it mentions of the prelude, whose functions hold none
placed_low : (b : Bool) (s : Stm) (rest : Stms) (n : ℕ) → stm_nesting s ≤ n → stms_nesting rest ≤ n → stms_nesting (cond b (Then s rest) rest) ≤ n
placed_low true s rest n p q = omega (arith, p, q)
placed_low false s rest n p q = q

pub whole_low : (c : Lexed) (program : Stms) → stms_nesting (with_prelude c program) ≤ suc (stms_nesting program)
whole_low c program = by (list_any (λ (f : Word × Stm). mentions c f.0) prelude)
  where
    n : ℕ
    n = suc (stms_nesting program)

    by : (b : Bool) → stms_nesting (cond b (placed c prelude (Then (Block program) Done)) program) ≤ n
    by true =
        placed_low (mentions c (codes "arrayMap")) array_map (placed c (drop 1 prelude) (Then (Block program) Done)) n (omega arith)
        (placed_low (mentions c (codes "arrayFilter")) array_filter (placed c (drop 2 prelude) (Then (Block program) Done)) n (omega arith)
        (placed_low (mentions c (codes "arrayExists")) array_exists (Then (Block program) Done) n (omega arith) (omega arith)))
    by false = omega arith
