-- How what is read of the tokens of a program stands to what they spell.
use Rattle.std.specs.Prelude.{◌≡◌, ℕ, suc, ◌+◌, ◌*◌, ◌<◌, ◌≤◌, List, length, Ok, Err}
use Rattle.hog_tree.specs.Plain.{Stms}
use Rattle.hog_tree.specs.Count.{of_stms}
use Rattle.hog_grammar.specs.Terminal.{Terminal}
use Rattle.hog_grammar.specs.Spelling.{Spells}
use Rattle.hog_reading.specs.Read.{Syntax, TooNested, Got}
use Rattle.hog_reading.specs.ReadStatements.{program}

-- what is read at a height is spelled at one that is no greater
abbrev pub ReadIsSpelled : Type 0
ReadIsSpelled = (d : ℕ) (ts : List Terminal) (g : Got Stms) → program d ts ≡ Ok g → (h : ℕ) × (h ≤ d) × Spells g.tree ts h

-- what is refused for its syntax is spelled at no height
abbrev pub RefusedIsUnspelled : Type 0
RefusedIsUnspelled = (d : ℕ) (ts : List Terminal) → program d ts ≡ Err Syntax → (tree : Stms) (h : ℕ) → ¬ (Spells tree ts h)

-- what is refused as too nested is spelled above that height alone
abbrev pub NestedIsHigher : Type 0
NestedIsHigher = (d n : ℕ) (ts : List Terminal) → program d ts ≡ Err (TooNested n) → (tree : Stms) (h : ℕ) → Spells tree ts h → d < h

-- a height is passed half as many tokens after the start at the least; n are left from there on
abbrev pub NestedIsLate : Type 0
NestedIsLate = (d n : ℕ) (ts : List Terminal) → program d ts ≡ Err (TooNested n) → d + 2 * n ≤ suc (2 * length ts)

-- a program has at most two statements and expressions for each of its tokens
abbrev pub TwoForEach : Type 0
TwoForEach = (tree : Stms) (ts : List Terminal) (h : ℕ) → Spells tree ts h → of_stms tree ≤ 2 * length ts
