-- Where the height is passed in a program, there were tokens enough before: each two levels of height cost a token.
use Rattle.std.proofs.Common.{◌≡◌, ℕ, zero, suc, ◌+◌, ◌*◌, ◌≤◌, List, [], ◌∷◌, ◌++◌, length, Option, Some, Result, Ok, Err, cond, subst, ap, arith, length-append}
use Rattle.hog_tree.specs.Plain.{Word, Exp, Stm, Let, Do, Return, Throw, Block, Stms, Done, NoneExp, SomeExp, NoneStm, SomeStm, NoneStms}
use Rattle.hog_grammar.specs.Terminal.{Terminal}
use Rattle.hog_grammar.specs.Terminal as k
use Rattle.hog_grammar.specs.Forms.{goes_on, ends_block}
use Rattle.hog_grammar.specs.Spelling.{bound}
use Rattle.hog_terms.specs.Marks.{Shut, after_open, after_close, after_open_brace, after_close_brace, after_semi, after_assign, after_else, after_name, after_function, after_catch, after_bound, is_target}
use Rattle.hog_reading.specs.Read.{Fault, Syntax, TooNested, Got, got, ◌>>=◌, wants, either_way, Read, Readers, grown, braced}
use Rattle.hog_reading.specs.ReadStatements.{ended, value_of, named, declared, assigned, assigning, plain, start_of, returned, in_parentheses, condition, only, governed, some_block, otherwise, conditional, looped, shut_some, optional, run, run_through, run_over, over_each, block, function, with_parameters, tried, begun, readers, all_read, program}
use Rattle.hog_spelling.proofs.Fronts.{is_open, is_open_brace, is_semi, is_assign, is_else}
use Rattle.hog_spelling.proofs.SoundParts.{is_name}
use Rattle.hog_spelling.proofs.SoundStatements.{is_function, is_catch, is_bound}
use Rattle.hog_spelling.proofs.NestedLists.{Near, Nears, Fits, Shortens, read_near, syntax_near, high_near, bind_near, weaker_near, wants_near, either_near, cond_near, close_less, names_near, several_near, braced_near}
use Rattle.hog_spelling.proofs.NestedForms.{leveled_near}

semi_less : Shortens after_semi
semi_less ts us e = ap length (is_semi ts us e)

-- what ends with `;`

ended_near : (d n : ℕ) (ts : List Terminal) (g : Got Stm) → Fits 0 ts g → Near (Fits 0 ts) d n (ended g)
ended_near d n ts g p = either_near (after_semi g.rest) (λ us. Ok (got g.tree g.height us)) (cond (goes_on g.rest) (Err Syntax) (Ok g))
    (λ us e. let l = semi_less g.rest us e in read_near (omega (arith, p)))
    (cond_near (goes_on g.rest) (Err Syntax) (Ok g) syntax_near (λ s. read_near p))

declared_near : (d : ℕ) (again : Readers) → Nears d again → (ts : List Terminal) → Near (Fits 0 ts) (suc d) (2 * suc (length ts)) (declared again ts)
declared_near d again near ts = wants_near (after_name ts) (named again)
    (λ p e. let l : length ts ≡ suc (length p.1) = ap length (is_name ts p e) in
    either_near (after_assign p.1) (value_of again p.0) (Ok (got (Let p.0 NoneExp) 1 p.1))
    (λ us a. let m : length p.1 ≡ suc (length us) = ap length (is_assign p.1 us a) in
    bind_near (grown (λ v. Let p.0 (SomeExp v))) (near.expression 1 us) (omega arith) (λ g q. read_near (omega (arith, q))))
    (read_near (omega arith)))

plain_near : (d : ℕ) (again : Readers) → Nears d again → (ts : List Terminal) → Near (Fits 0 ts) (suc d) (suc (2 * length ts)) (plain again ts)
unfolding plain
plain_near d again near ts = bind_near (assigning again) (near.expression 1 ts) (omega arith)
    (λ t p. either_near (after_assign t.rest) (λ us. cond (is_target t.tree) (again.expression 1 us >>= assigned t) (Err Syntax)) (Ok (got (Do t.tree) (suc t.height) t.rest))
    (λ us e. let l : length t.rest ≡ suc (length us) = ap length (is_assign t.rest us e) in
    cond_near (is_target t.tree) (again.expression 1 us >>= assigned t) (Err Syntax)
    (bind_near (assigned t) (near.expression 1 us) (omega (arith, p)) (λ v q. read_near (omega (arith, p, q)))) (λ s. syntax_near))
    (read_near (omega (arith, p))))

start_near : (d : ℕ) (again : Readers) → Nears d again → (ts : List Terminal) → Near (Fits 0 ts) (suc d) (suc (2 * length ts)) (start_of again ts)
unfolding start_of
start_near d again near (k.Let ∷ ts) = weaker_near (declared_near d again near ts) (omega arith) (λ x p. omega (arith, p))
start_near d again near [] = plain_near d again near []
start_near d again near (t ∷ ts) = plain_near d again near (t ∷ ts)

-- `throw e` and `return e`
valued_near : (d : ℕ) (again : Readers) → Nears d again → (make : Exp → Stm) (t : Terminal) (ts : List Terminal) → Near (Fits 0 (t ∷ ts)) (suc d) (2 * suc (length ts)) (again.expression 1 ts >>= grown make >>= ended)
valued_near d again near make t ts =
    let grow : Near (Fits 0 (t ∷ ts)) (suc d) (2 * suc (length ts)) (again.expression 1 ts >>= grown make) = bind_near (grown make) (near.expression 1 ts) (omega arith) (λ g p. read_near (omega (arith, p))) in
    bind_near ended grow (omega arith) (λ g p. ended_near (suc d) (2 * suc (length ts)) (t ∷ ts) g p)

returned_near : (d : ℕ) (again : Readers) → Nears d again → (ts : List Terminal) → Near (Fits 0 (k.Return ∷ ts)) (suc d) (2 * suc (length ts)) (returned again ts)
returned_near d again near ts =
    let value = again.expression 1 ts >>= grown (λ e. Return (SomeExp e)) >>= ended in
    either_near (after_semi ts) (λ us. Ok (got (Return NoneExp) 1 us)) (cond (ends_block ts) (Ok (got (Return NoneExp) 1 ts)) value)
    (λ us e. let l = semi_less ts us e in read_near (omega arith))
    (cond_near (ends_block ts) (Ok (got (Return NoneExp) 1 ts)) value (read_near (omega arith)) (λ s. valued_near d again near (λ e. Return (SomeExp e)) k.Return ts))

-- what is governed

parenthesis_near : (d : ℕ) (again : Readers) → Nears d again → (ts : List Terminal) → Near (Fits 0 ts) d (2 * length ts) (again.expression 1 ts >>= in_parentheses)
parenthesis_near d again near ts = bind_near in_parentheses (near.expression 1 ts) (omega arith)
    (λ c p. wants_near (after_close c.rest) (λ us. Ok (got c.tree c.height us)) (λ us e. let l = close_less c.rest us e in read_near (omega (arith, p))))

condition_near : (d : ℕ) (again : Readers) → Nears d again → (ts : List Terminal) → Near (Fits 0 ts) d (2 * length ts) (condition again ts)
condition_near d again near ts = wants_near (after_open ts) (λ us. again.expression 1 us >>= in_parentheses)
    (λ us e. let l : length ts ≡ suc (length us) = ap length (is_open ts us e) in weaker_near (parenthesis_near d again near us) (omega arith) (λ x p. omega (arith, p)))

opened_near : (d : ℕ) (again : Readers) → Nears d again → (ts us : List Terminal) → after_open_brace ts ≡ Some us → Near (Fits 0 ts) d (2 * length ts) (braced again.statement us)
opened_near d again near ts us e = let l : length ts ≡ suc (length us) = ap length (is_open_brace ts us e) in weaker_near (braced_near d again near us) (omega arith) (λ x p. omega (arith, p))

governed_near : (d : ℕ) (again : Readers) → Nears d again → (ts : List Terminal) → Near (Fits 0 ts) d (suc (2 * length ts)) (governed again ts)
unfolding governed
governed_near d again near ts =
    let alone = again.statement ts >>= only in
    either_near (after_open_brace ts) (braced again.statement) (either_way (after_semi ts) (λ us. Ok (got Done 0 us)) alone)
    (λ us e. weaker_near (opened_near d again near ts us e) (omega arith) (λ x p. p))
    (either_near (after_semi ts) (λ us. Ok (got Done 0 us)) alone (λ us e. let l = semi_less ts us e in read_near (omega arith))
    (bind_near only (near.statement ts) (omega arith) (λ g p. read_near p)))

otherwise_near : (d : ℕ) (again : Readers) → Nears d again → (ts : List Terminal) → Near (Fits 0 ts) d (2 * length ts) (otherwise again ts)
otherwise_near d again near ts = either_near (after_else ts) (λ us. governed again us >>= some_block) (Ok (got NoneStms 0 ts))
    (λ us e. let l : length ts ≡ suc (length us) = ap length (is_else ts us e) in bind_near some_block (governed_near d again near us) (omega arith) (λ b p. read_near (omega (arith, p))))
    (read_near (omega arith))

if_near : (d : ℕ) (again : Readers) → Nears d again → (ts : List Terminal) → Near (Fits 0 (k.If ∷ ts)) (suc d) (2 * suc (length ts)) (condition again ts >>= λ c. governed again c.rest >>= λ b. otherwise again b.rest >>= conditional c b)
if_near d again near ts = bind_near (λ c. governed again c.rest >>= λ b. otherwise again b.rest >>= conditional c b) (condition_near d again near ts) (omega arith)
    (λ c p. bind_near (λ b. otherwise again b.rest >>= conditional c b) (governed_near d again near c.rest) (omega (arith, p))
    (λ b q. bind_near (conditional c b) (otherwise_near d again near b.rest) (omega (arith, p, q)) (λ e r. read_near (omega (arith, p, q, r)))))

while_near : (d : ℕ) (again : Readers) → Nears d again → (ts : List Terminal) → Near (Fits 0 (k.While ∷ ts)) (suc d) (2 * suc (length ts)) (condition again ts >>= λ c. governed again c.rest >>= looped c)
while_near d again near ts = bind_near (λ c. governed again c.rest >>= looped c) (condition_near d again near ts) (omega arith)
    (λ c p. bind_near (looped c) (governed_near d again near c.rest) (omega (arith, p)) (λ b q. read_near (omega (arith, p, q))))

-- `for`

optional_near : {A B : Type 0} (d : ℕ) (none : B) (make : A → B) (shut : Shut) (part : Read A) (ts : List Terminal) → Shortens shut → Near (Fits 0 ts) d (suc (2 * length ts)) (part ts) → Near (Fits 0 ts) d (suc (2 * length ts)) (optional none make shut part ts)
optional_near d none make shut part ts less near = either_near (shut ts) (λ us. Ok (got none 0 us)) (part ts >>= shut_some make shut) (λ us e. let l = less ts us e in read_near (omega arith))
    (bind_near (shut_some make shut) near (omega arith) (λ g p. wants_near (shut g.rest) (λ us. Ok (got (make g.tree) g.height us)) (λ us e. let l = less g.rest us e in read_near (omega (arith, p)))))

through_near : (d : ℕ) (again : Readers) → Nears d again → (ts : List Terminal) → Near (Fits 0 (k.For ∷ ts)) (suc d) (2 * suc (length ts)) (run_through again ts)
unfolding run_through
through_near d again near ts = bind_near (λ s. optional NoneExp SomeExp after_semi (again.expression 1) s.rest >>= λ c. optional NoneStm SomeStm after_close again.step c.rest >>= λ n. governed again n.rest >>= run s c n)
    (optional_near d NoneStm SomeStm after_semi again.start ts semi_less (near.start ts)) (omega arith)
    (λ s p. bind_near (λ c. optional NoneStm SomeStm after_close again.step c.rest >>= λ n. governed again n.rest >>= run s c n)
    (optional_near d NoneExp SomeExp after_semi (again.expression 1) s.rest semi_less (weaker_near (near.expression 1 s.rest) (omega arith) (λ x q. omega (arith, q)))) (omega (arith, p))
    (λ c q. bind_near (λ n. governed again n.rest >>= run s c n) (optional_near d NoneStm SomeStm after_close again.step c.rest close_less (near.step c.rest)) (omega (arith, p, q))
    (λ n r. bind_near (run s c n) (governed_near d again near n.rest) (omega (arith, p, q, r)) (λ b t. read_near (omega (arith, p, q, r, t))))))

each_near : (d : ℕ) (again : Readers) → Nears d again → (ts : List Terminal) (p : (Option Word × Word) × List Terminal) → length p.1 ≤ length ts → Near (Fits 0 (k.For ∷ ts)) (suc d) (2 * suc (length ts)) (over_each again p)
each_near d again near ts p less = bind_near (λ e. governed again e.rest >>= run_over p.0 e) (parenthesis_near d again near p.1) (omega arith)
    (λ e q. bind_near (run_over p.0 e) (governed_near d again near e.rest) (omega (arith, q)) (λ b r. read_near (omega (arith, q, r))))

for_near : (d : ℕ) (again : Readers) → Nears d again → (ts : List Terminal) → Near (Fits 0 (k.For ∷ ts)) (suc d) (2 * suc (length ts)) (wants (after_open ts) (λ us. either_way (after_bound us) (over_each again) (run_through again us)))
for_near d again near ts = wants_near (after_open ts) (λ us. either_way (after_bound us) (over_each again) (run_through again us))
    (λ us e. let l : length ts ≡ suc (length us) = ap length (is_open ts us e) in
    either_near (after_bound us) (over_each again) (run_through again us)
    (λ p b. let m : length us ≡ suc (length (bound p.0.0 p.0.1 ++ k.In ∷ p.1)) = ap length (is_bound us p b) in
    let n = length-append (bound p.0.0 p.0.1) (k.In ∷ p.1) in
    each_near d again near ts p (omega arith))
    (weaker_near (through_near d again near us) (omega arith) (λ x q. omega (arith, q))))

-- functions and `try`

block_near : (d : ℕ) (again : Readers) → Nears d again → (ts : List Terminal) → Near (Fits 0 ts) d (2 * length ts) (block again ts)
block_near d again near ts = wants_near (after_open_brace ts) (braced again.statement) (λ us e. opened_near d again near ts us e)

fun_near : (d : ℕ) (again : Readers) → Nears d again → (ts : List Terminal) → Near (Fits 0 (k.Fun ∷ ts)) (suc d) (2 * suc (length ts)) (wants (after_function ts) (with_parameters again))
fun_near d again near ts = wants_near (after_function ts) (with_parameters again)
    (λ p e. let l : length ts ≡ suc (suc (length p.1)) = ap length (is_function ts p e) in
    bind_near (λ ws. block again ws.rest >>= function p.0 ws) (names_near d p.1) (omega arith)
    (λ ws q. bind_near (function p.0 ws) (block_near d again near ws.rest) (omega (arith, q)) (λ b r. read_near (omega (arith, q, r)))))

try_near : (d : ℕ) (again : Readers) → Nears d again → (ts : List Terminal) → Near (Fits 0 (k.Try ∷ ts)) (suc d) (2 * suc (length ts)) (block again ts >>= λ b. wants (after_catch b.rest) (λ p. block again p.1 >>= tried b p.0))
try_near d again near ts = bind_near (λ b. wants (after_catch b.rest) (λ p. block again p.1 >>= tried b p.0)) (block_near d again near ts) (omega arith)
    (λ b p. wants_near (after_catch b.rest) (λ p. block again p.1 >>= tried b p.0)
    (λ c e. let l : length b.rest ≡ suc (suc (suc (suc (length c.1)))) = ap length (is_catch b.rest c e) in
    bind_near (tried b c.0) (block_near d again near c.1) (omega (arith, p)) (λ x q. read_near (omega (arith, p, q)))))

-- statements

plain_ended_near : (d : ℕ) (again : Readers) → Nears d again → (ts : List Terminal) → Near (Fits 0 ts) (suc d) (suc (2 * length ts)) (plain again ts >>= ended)
plain_ended_near d again near ts = bind_near ended (plain_near d again near ts) (omega arith) (λ g p. ended_near (suc d) (suc (2 * length ts)) ts g p)

let_near : (d : ℕ) (again : Readers) → Nears d again → (ts : List Terminal) → Near (Fits 0 (k.Let ∷ ts)) (suc d) (2 * suc (length ts)) (declared again ts >>= ended)
let_near d again near ts = bind_near ended (declared_near d again near ts) (omega arith) (λ g p. ended_near (suc d) (2 * suc (length ts)) (k.Let ∷ ts) g (omega (arith, p)))

more : {d : ℕ} (t : Terminal) (ts : List Terminal) {r : Result (Got Stm) Fault} → Near (Fits 0 (t ∷ ts)) (suc d) (2 * suc (length ts)) r → Near (Fits 0 (t ∷ ts)) (suc d) (suc (2 * suc (length ts))) r
more t ts near = weaker_near near (omega arith) (λ x p. p)

begun_near : (d : ℕ) (again : Readers) → Nears d again → (ts : List Terminal) → Near (Fits 0 ts) (suc d) (suc (2 * length ts)) (begun again ts)
unfolding begun
begun_near d again near (k.Let ∷ ts) = more k.Let ts (let_near d again near ts)
begun_near d again near (k.Return ∷ ts) = more k.Return ts (returned_near d again near ts)
begun_near d again near (k.Throw ∷ ts) = more k.Throw ts (valued_near d again near Throw k.Throw ts)
begun_near d again near (k.If ∷ ts) = more k.If ts (if_near d again near ts)
begun_near d again near (k.While ∷ ts) = more k.While ts (while_near d again near ts)
begun_near d again near (k.For ∷ ts) = more k.For ts (for_near d again near ts)
begun_near d again near (k.Fun ∷ ts) = more k.Fun ts (fun_near d again near ts)
begun_near d again near (k.Try ∷ ts) = more k.Try ts (try_near d again near ts)
begun_near d again near (k.OpenBrace ∷ ts) = bind_near (grown Block) (braced_near d again near ts) (omega arith) (λ g p. read_near (omega (arith, p)))
begun_near d again near [] = plain_ended_near d again near []
begun_near d again near (t ∷ ts) = plain_ended_near d again near (t ∷ ts)

readers_near : (d : ℕ) → Nears d (readers d)
unfolding readers
readers_near zero = record { expression = λ l ts. high_near (omega arith); statement = λ ts. high_near (omega arith); start = λ ts. high_near (omega arith); step = λ ts. high_near (omega arith) }
readers_near (suc d) = let near = readers_near d in record {
  expression = λ l ts. leveled_near d l (readers d) near ts;
  statement = λ ts. begun_near d (readers d) near ts;
  start = λ ts. start_near d (readers d) near ts;
  step = λ ts. plain_near d (readers d) near ts;
}

program_near : (d : ℕ) (ts : List Terminal) → Near (Fits 0 ts) d (suc (2 * length ts)) (program d ts)
unfolding program
program_near d ts = bind_near all_read (several_near d (readers d) (readers_near d) (suc (length ts)) ts) (omega arith)
    (λ g p. either_near (after_close_brace g.rest) (λ us. Err Syntax) (Ok g) (λ us e. syntax_near) (read_near p))

-- The height is passed half as many tokens after the start at the least.
pub passed_late : (d n : ℕ) (ts : List Terminal) → program d ts ≡ Err (TooNested n) → d + 2 * n ≤ suc (2 * length ts)
passed_late d n ts is = let near = subst (λ (r : Result (Got Stms) Fault). Near (Fits 0 ts) d (suc (2 * length ts)) r) is (program_near d ts) in near.answer

pub nested_late : (n : ℕ) (ts : List Terminal) → program 100 ts ≡ Err (TooNested n) → n + 40 ≤ length ts
nested_late n ts is = omega (arith, passed_late 100 n ts is)
