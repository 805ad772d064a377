-- What the parser's answers say of spellings.
use Rattle.std.proofs.Common.{◌≡◌, ℕ, suc, ◌*◌, ◌<◌, ◌≤◌, [], length, Ok, Err, arith, ⊎_elim}
use Rattle.std.proofs.lemmas.Bool.Decides.{leb_tells}
use Rattle.hog_tree.specs.Plain.{Stms}
use Rattle.hog_grammar.specs.Pieces.{Lexed}
use Rattle.hog_grammar.specs.Terminal.{terminals}
use Rattle.hog_grammar.specs.Spelling.{Spells}
use Rattle.hog_tree.specs.Count.{of_stms}
use Rattle.hog_tree.specs.Nesting.{stms_nesting}
use Rattle.hog_reading.specs.Read.{TooNested, Got}
use Rattle.hog_reading.specs.ReadStatements.{program}
use Rattle.hog_terms.specs.View.{left}
use Rattle.hog_parser.specs.Before.{tokens_before}
use Rattle.hog_spelling.proofs.FromReading.{found}
use Rattle.hog_spelling.proofs.Count.{two_for_each}
use Rattle.hog_spelling.proofs.Nested.{nested_late}
use Rattle.hog_spelling.proofs.Nesting.{stms_low}
use Rattle.hog_terms.proofs.Place.{left_length}

pub found_in : (c : Lexed) (g : Got Stms) → program 100 (left c 0) ≡ Ok g → (h : ℕ) × (h ≤ 100) × Spells g.tree (terminals c.text c.list) h
found_in c g is = found 100 (left c 0) g is

pub count_in : (c : Lexed) (g : Got Stms) → program 100 (left c 0) ≡ Ok g → of_stms g.tree ≤ 2 * length c.list
count_in c g is =
    let f = found 100 (left c 0) g is in
    omega (arith, two_for_each g.tree (left c 0) f.0 f.2, left_length c.text c.list 0)

pub nesting_in : (c : Lexed) (g : Got Stms) → program 100 (left c 0) ≡ Ok g → stms_nesting g.tree ≤ 100
nesting_in c g is =
    let f = found 100 (left c 0) g is in
    omega (arith, stms_low g.tree (left c 0) [] f.0 f.2, f.1)

pub late_in : (c : Lexed) (i at : ℕ) → program 100 (left c 0) ≡ Err (TooNested (length (left c i))) → (i < length c.list → i ≤ tokens_before at c.list) → (length c.list ≤ i → length c.list ≤ tokens_before at c.list) → 40 ≤ tokens_before at c.list
late_in c i at is token end =
    let late = nested_late (length (left c i)) (left c 0) is in
    let some = left_length c.text c.list i in
    let all = left_length c.text c.list 0 in
    ⊎_elim (λ h. omega (arith, late, some, all, token h.1)) (λ h. (let over : length c.list ≤ i = omega arith in omega (arith, late, some, all, end over))) (leb_tells (suc i) (length c.list))
