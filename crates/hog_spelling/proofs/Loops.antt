-- Conditions, loops, functions and `try` that are spelled are read.
use Rattle.std.proofs.Common.{◌≡◌, ℕ, suc, ◌+◌, max, false, List, ◌∷◌, ◌++◌, Option, Some, None, Ok, refl, sym, ap, ◌∙◌, subst, append_assoc, arith, inl, inr}
use Rattle.hog_tree.specs.Plain.{Word, Exp, Stm, Let, If, While, For, ForIn, Fun, Try, Block, Stms, OptionExp, NoneExp, SomeExp, OptionStm, NoneStm, SomeStm, OptionStms}
use Rattle.hog_grammar.specs.Terminal.{Terminal}
use Rattle.hog_grammar.specs.Terminal as k
use Rattle.hog_grammar.specs.Forms.{Governed}
use Rattle.hog_grammar.specs.Spelling.{OfStm, OfStms, OnlyOne, Condition, Start, Step, bound}
use Rattle.hog_terms.specs.Marks.{Shut, after_close, after_semi, after_bound, after_catch, lead}
use Rattle.hog_reading.specs.Read.{Got, got, ◌>>=◌, wants, either_way, Read, listing, name, braced, grown}
use Rattle.hog_reading.specs.ReadStatements.{readers, begun, governed, otherwise, condition, in_parentheses, conditional, looped, optional, shut_some, run, run_through, run_over, over_each, block, function, tried}
use Rattle.hog_spelling.proofs.Begin.{starts_no_semi, starts_no_close, starts_unbound}
use Rattle.hog_spelling.proofs.Comes.{Ends, ends, same_ends, bind_ends}
use Rattle.hog_spelling.proofs.Forms.{Reads, spelled_starts}
use Rattle.hog_spelling.proofs.Groups.{names_end}
use Rattle.hog_spelling.proofs.Plains.{from_begun, Plainly, start_plain, step_plain, Declares, start_declared}
use Rattle.hog_spelling.proofs.Blocks.{StmsRead, GovernedReads, ElseReads, in_braces}

condition_ends : (d : ℕ) (us vs : List Terminal) (c : Exp) (h : ℕ) → Ends ((readers d).expression 1 us) d (k.Close ∷ vs) c h → Ends (condition (readers d) (k.Open ∷ us)) d vs c h
condition_ends d us vs c h it = bind_ends in_parentheses it (λ z. z) (λ fits. ends fits refl)

if_ends : (d : ℕ) (us vs ws rest : List Terminal) (c : Exp) (b : Stms) (o : OptionStms) (low mid other h : ℕ) → h ≡ 1 + max low (max mid other) → Ends ((readers d).expression 1 us) d (k.Close ∷ vs) c low
    → Ends (governed (readers d) vs) d ws b mid → Ends (otherwise (readers d) ws) d rest o other → Ends (begun (readers d) (k.If ∷ k.Open ∷ us)) (suc d) rest (If c b o) h
unfolding begun
if_ends d us vs ws rest c b o low mid other h high one two three =
    bind_ends (λ c. governed (readers d) c.rest >>= λ b. otherwise (readers d) b.rest >>= conditional c b) (condition_ends d us vs c low one) (λ z. omega (arith, z, high))
    (λ f. bind_ends (λ b. otherwise (readers d) b.rest >>= conditional (got c low vs) b) two (λ z. omega (arith, z, high))
    (λ g. bind_ends (conditional (got c low vs) (got b mid ws)) three (λ z. omega (arith, z, high))
    (λ i. ends (omega (arith, f, g, i, high)) (ap (λ n. Ok (got (If c b o) n rest)) (let q : suc (max low (max mid other)) ≡ h = omega (arith, high) in q)))))

pub if_stm : (c : Exp) (b : Stms) (o : OptionStms) → Reads c → GovernedReads b (Governed (OfStms b) (OnlyOne b)) → ElseReads o → (ts rest : List Terminal) (h : ℕ) → OfStm (If c b o) ts rest h
    → (d : ℕ) → Ends ((readers d).statement (ts ++ rest)) d rest (If c b o) h
if_stm c b o one two three ts rest h x d =
    let y = x.second in
    let ws = y.right ++ rest in
    let vs = x.right ++ rest in
    let us = x.left ++ k.Close ∷ vs in
    let all : ts ++ rest ≡ k.If ∷ k.Open ∷ us = ap (λ z. z ++ rest) x.tokens ∙ ap (λ z. k.If ∷ k.Open ∷ z) (append_assoc x.left (k.Close ∷ x.right) rest) in
    let body : vs ≡ y.left ++ ws = ap (λ z. z ++ rest) y.tokens ∙ append_assoc y.left y.right rest in
    let quiet : lead (k.Close ∷ vs) ≡ 0 = refl in
    let high : h ≡ 1 + max x.low (max y.low y.other) = omega (arith, x.height, y.height) in
    from_begun (ts ++ rest) rest (If c b o) h (omega (arith, high))
    (λ i. same_ends (ap (begun (readers i)) all) (if_ends i us vs ws rest c b o x.low y.low y.other h high (one x.left x.low x.first (k.Close ∷ vs) quiet i)
    (same_ends (ap (governed (readers i)) body) (two y.left ws y.low y.first i)) (three y.right rest y.other y.second i))) d

while_ends : (d : ℕ) (us vs rest : List Terminal) (c : Exp) (b : Stms) (low other h : ℕ) → h ≡ 1 + max low other → Ends ((readers d).expression 1 us) d (k.Close ∷ vs) c low
    → Ends (governed (readers d) vs) d rest b other → Ends (begun (readers d) (k.While ∷ k.Open ∷ us)) (suc d) rest (While c b) h
unfolding begun
while_ends d us vs rest c b low other h high one two =
    bind_ends (λ c. governed (readers d) c.rest >>= looped c) (condition_ends d us vs c low one) (λ z. omega (arith, z, high))
    (λ f. bind_ends (looped (got c low vs)) two (λ z. omega (arith, z, high))
    (λ g. ends (omega (arith, f, g, high)) (ap (λ n. Ok (got (While c b) n rest)) (let q : suc (max low other) ≡ h = omega (arith, high) in q))))

pub while_stm : (c : Exp) (b : Stms) → Reads c → GovernedReads b (Governed (OfStms b) (OnlyOne b)) → (ts rest : List Terminal) (h : ℕ) → OfStm (While c b) ts rest h
    → (d : ℕ) → Ends ((readers d).statement (ts ++ rest)) d rest (While c b) h
while_stm c b one two ts rest h x d =
    let vs = x.right ++ rest in
    let us = x.left ++ k.Close ∷ vs in
    let all : ts ++ rest ≡ k.While ∷ k.Open ∷ us = ap (λ z. z ++ rest) x.tokens ∙ ap (λ z. k.While ∷ k.Open ∷ z) (append_assoc x.left (k.Close ∷ x.right) rest) in
    let quiet : lead (k.Close ∷ vs) ≡ 0 = refl in
    from_begun (ts ++ rest) rest (While c b) h (omega (arith, x.height))
    (λ i. same_ends (ap (begun (readers i)) all) (while_ends i us vs rest c b x.low x.other h x.height (one x.left x.low x.first (k.Close ∷ vs) quiet i) (two x.right rest x.other x.second i))) d

-- what may be left out in a `for`

optional_some : {A B : Type 0} (none : B) (make : A → B) (shut : Shut) (part : Read A) (d : ℕ) (ts mid rest : List Terminal) (x : A) (h : ℕ) → shut ts ≡ None → shut mid ≡ Some rest → Ends (part ts) d mid x h
    → Ends (optional none make shut part ts) d rest (make x) h
optional_some none make shut part d ts mid rest x h begun_not closes it =
    same_ends (ap (λ o. either_way o (λ us. Ok (got none 0 us)) (part ts >>= shut_some make shut)) begun_not)
    (bind_ends (shut_some make shut) it (λ z. z) (λ fits. ends fits (ap (λ o. wants o (λ us. Ok (got (make x) h us))) closes)))

abbrev pub ConditionReads : OptionExp → Type 0
ConditionReads c = (ts : List Terminal) (h : ℕ) → Condition c ts h → (rest : List Terminal) (d : ℕ) → Ends (optional NoneExp SomeExp after_semi ((readers d).expression 1) (ts ++ k.Semi ∷ rest)) d rest c h

pub no_condition : ConditionReads NoneExp
no_condition ts h b rest d = rw (b.tokens, b.height) (none rest)
  where
    none : (rest : List Terminal) → Ends (optional NoneExp SomeExp after_semi ((readers d).expression 1) (k.Semi ∷ rest)) d rest NoneExp 0
    none rest = ends (omega arith) refl

pub some_condition : (e : Exp) → Reads e → ConditionReads (SomeExp e)
some_condition e hyp ts h b rest d =
    let all = ts ++ k.Semi ∷ rest in
    optional_some NoneExp SomeExp after_semi ((readers d).expression 1) d all (k.Semi ∷ rest) rest e h (starts_no_semi all (spelled_starts e hyp ts h b (k.Semi ∷ rest) refl)) refl (hyp ts h b (k.Semi ∷ rest) refl d)

abbrev pub StartReads : OptionStm → Type 0
StartReads s = (ts : List Terminal) (h : ℕ) → Start s ts h → (rest : List Terminal)
    → ((d : ℕ) → Ends (optional NoneStm SomeStm after_semi (readers d).start (ts ++ k.Semi ∷ rest)) d rest s h) × (after_bound (ts ++ k.Semi ∷ rest) ≡ None)

pub no_start : StartReads NoneStm
no_start ts h b rest = (λ d. rw (b.tokens, b.height) (none d rest), ap (λ z. after_bound (z ++ k.Semi ∷ rest)) b.tokens)
  where
    none : (d : ℕ) (rest : List Terminal) → Ends (optional NoneStm SomeStm after_semi (readers d).start (k.Semi ∷ rest)) d rest NoneStm 0
    none d rest = ends (omega arith) refl

pub plain_started : (s : Stm) (ts rest : List Terminal) (h : ℕ) → Plainly s ts (k.Semi ∷ rest) h
    → ((d : ℕ) → Ends (optional NoneStm SomeStm after_semi (readers d).start (ts ++ k.Semi ∷ rest)) d rest (SomeStm s) h) × (after_bound (ts ++ k.Semi ∷ rest) ≡ None)
plain_started s ts rest h p =
    let all = ts ++ k.Semi ∷ rest in
    (λ d. optional_some NoneStm SomeStm after_semi (readers d).start d all (k.Semi ∷ rest) rest s h (starts_no_semi all p.begins) refl (start_plain s ts (k.Semi ∷ rest) h p d), starts_unbound all p.begins)

pub let_started : (x : Word) (v : OptionExp) (ts rest : List Terminal) (h : ℕ) → Declares x v ts (k.Semi ∷ rest) h
    → ((d : ℕ) → Ends (optional NoneStm SomeStm after_semi (readers d).start (ts ++ k.Semi ∷ rest)) d rest (SomeStm (Let x v)) h) × (after_bound (ts ++ k.Semi ∷ rest) ≡ None)
let_started x v ts rest h p =
    let all = ts ++ k.Semi ∷ rest in (
      λ d. optional_some NoneStm SomeStm after_semi (readers d).start d all (k.Semi ∷ rest) rest (Let x v) h (ap after_semi p.tokens) refl (start_declared x v ts (k.Semi ∷ rest) h p d),
      ap after_bound p.tokens ∙ elim p.follows [ inl e ↦ ap (λ z. after_bound (k.Let ∷ k.Word x ∷ z)) e | inr e ↦ ap (λ z. after_bound (k.Let ∷ k.Word x ∷ z)) e.1 ],
    )

abbrev pub StepReads : OptionStm → Type 0
StepReads s = (ts : List Terminal) (h : ℕ) → Step s ts h → (rest : List Terminal) (d : ℕ) → Ends (optional NoneStm SomeStm after_close (readers d).step (ts ++ k.Close ∷ rest)) d rest s h

pub no_step : StepReads NoneStm
no_step ts h b rest d = rw (b.tokens, b.height) (none rest)
  where
    none : (rest : List Terminal) → Ends (optional NoneStm SomeStm after_close (readers d).step (k.Close ∷ rest)) d rest NoneStm 0
    none rest = ends (omega arith) refl

pub plain_stepped : (s : Stm) (ts rest : List Terminal) (h : ℕ) → Plainly s ts (k.Close ∷ rest) h → (d : ℕ) → Ends (optional NoneStm SomeStm after_close (readers d).step (ts ++ k.Close ∷ rest)) d rest (SomeStm s) h
plain_stepped s ts rest h p d =
    let all = ts ++ k.Close ∷ rest in
    optional_some NoneStm SomeStm after_close (readers d).step d all (k.Close ∷ rest) rest s h (starts_no_close all p.begins) refl (step_plain s ts (k.Close ∷ rest) h p d)

for_ends : (d : ℕ) (us vs ws xs rest : List Terminal) (s : OptionStm) (c : OptionExp) (n : OptionStm) (b : Stms) (hs hc hn hb h : ℕ) → h ≡ 1 + max (0 + max hs (0 + max hc hn)) hb → after_bound us ≡ None
    → Ends (optional NoneStm SomeStm after_semi (readers d).start us) d vs s hs → Ends (optional NoneExp SomeExp after_semi ((readers d).expression 1) vs) d ws c hc
    → Ends (optional NoneStm SomeStm after_close (readers d).step ws) d xs n hn → Ends (governed (readers d) xs) d rest b hb → Ends (begun (readers d) (k.For ∷ k.Open ∷ us)) (suc d) rest (For s c n b) h
unfolding begun run_through
for_ends d us vs ws xs rest s c n b hs hc hn hb h high free one two three four =
    let run_s = λ (s : Got OptionStm). optional NoneExp SomeExp after_semi ((readers d).expression 1) s.rest >>= λ c. optional NoneStm SomeStm after_close (readers d).step c.rest >>= λ n. governed (readers d) n.rest >>= run s c n in
    same_ends (ap (λ o. either_way o (over_each (readers d)) (optional NoneStm SomeStm after_semi (readers d).start us >>= run_s)) free)
    (bind_ends run_s one (λ z. omega (arith, z, high))
    (λ f. bind_ends (λ c. optional NoneStm SomeStm after_close (readers d).step c.rest >>= λ n. governed (readers d) n.rest >>= run (got s hs vs) c n) two (λ z. omega (arith, z, high))
    (λ g. bind_ends (λ n. governed (readers d) n.rest >>= run (got s hs vs) (got c hc ws) n) three (λ z. omega (arith, z, high))
    (λ i. bind_ends (run (got s hs vs) (got c hc ws) (got n hn xs)) four (λ z. omega (arith, z, high))
    (λ j. ends (omega (arith, f, g, i, j, high)) (ap (λ m. Ok (got (For s c n b) m rest)) (let q : suc (max (max hs (max hc hn)) hb) ≡ h = omega (arith, high) in q)))))))

pub for_stm : (s : OptionStm) (c : OptionExp) (n : OptionStm) (b : Stms) → StartReads s → ConditionReads c → StepReads n → GovernedReads b (Governed (OfStms b) (OnlyOne b)) → (ts rest : List Terminal) (h : ℕ)
    → OfStm (For s c n b) ts rest h → (d : ℕ) → Ends ((readers d).statement (ts ++ rest)) d rest (For s c n b) h
for_stm s c n b one two three four ts rest h x d =
    let y = x.first in
    let z = y.second in
    let xs = x.right ++ rest in
    let ws = z.right ++ k.Close ∷ xs in
    let vs = z.left ++ k.Semi ∷ ws in
    let us = y.left ++ k.Semi ∷ vs in
    let inner : z.left ++ k.Semi ∷ z.right ≡ y.right = sym z.tokens in
    let later : y.right ++ k.Close ∷ xs ≡ vs = ap (λ q. q ++ k.Close ∷ xs) z.tokens ∙ append_assoc z.left (k.Semi ∷ z.right) (k.Close ∷ xs) in
    let all : ts ++ rest ≡ k.For ∷ k.Open ∷ us = ap (λ q. q ++ rest) x.tokens ∙ ap (λ q. k.For ∷ k.Open ∷ q)
    (append_assoc x.left (k.Close ∷ x.right) rest ∙ ap (λ q. q ++ k.Close ∷ xs) y.tokens ∙ append_assoc y.left (k.Semi ∷ y.right) (k.Close ∷ xs) ∙ ap (λ q. y.left ++ k.Semi ∷ q) later) in
    let high : h ≡ 1 + max (0 + max y.low (0 + max z.low z.other)) x.other = omega (arith, x.height, y.height, z.height) in
    let start = one y.left y.low y.first vs in
    from_begun (ts ++ rest) rest (For s c n b) h (omega (arith, high))
    (λ i. same_ends (ap (begun (readers i)) all) (for_ends i us vs ws xs rest s c n b y.low z.low z.other x.other h high start.1 (start.0 i) (two z.left z.low z.first ws i) (three z.right z.other z.second xs i) (four x.right rest x.other x.second i))) d

each_ends : (d : ℕ) (us vs rest : List Terminal) (i : Option Word) (v : Word) (e : Exp) (b : Stms) (low other h : ℕ) → h ≡ 1 + max low other → Ends ((readers d).expression 1 us) d (k.Close ∷ vs) e low
    → Ends (governed (readers d) vs) d rest b other → Ends (over_each (readers d) ((i, v), us)) (suc d) rest (ForIn i v e b) h
each_ends d us vs rest i v e b low other h high one two =
    bind_ends (λ e. governed (readers d) e.rest >>= run_over (i, v) e) (condition_ends d us vs e low one) (λ z. omega (arith, z, high))
    (λ f. bind_ends (run_over (i, v) (got e low vs)) two (λ z. omega (arith, z, high))
    (λ g. ends (omega (arith, f, g, high)) (ap (λ n. Ok (got (ForIn i v e b) n rest)) (let q : suc (max low other) ≡ h = omega (arith, high) in q))))

each_begun : (d : ℕ) (i : Option Word) (v : Word) (us : List Terminal) → begun (readers d) (k.For ∷ k.Open ∷ k.Let ∷ (bound i v ++ k.In ∷ us)) ≡ over_each (readers d) ((i, v), us)
unfolding begun
each_begun d None v us = refl
each_begun d (Some i) v us = refl

bound_append : (i : Option Word) (v : Word) (us rest : List Terminal) → (bound i v ++ us) ++ rest ≡ bound i v ++ (us ++ rest)
bound_append i v us rest = append_assoc (bound i v) us rest

pub each_stm : (i : Option Word) (v : Word) (e : Exp) (b : Stms) → Reads e → GovernedReads b (Governed (OfStms b) (OnlyOne b)) → (ts rest : List Terminal) (h : ℕ)
    → OfStm (ForIn i v e b) ts rest h → (d : ℕ) → Ends ((readers d).statement (ts ++ rest)) d rest (ForIn i v e b) h
each_stm i v e b one two ts rest h x d =
    let vs = x.right ++ rest in
    let us = x.left ++ k.Close ∷ vs in
    let all : ts ++ rest ≡ k.For ∷ k.Open ∷ k.Let ∷ (bound i v ++ k.In ∷ us) = ap (λ z. z ++ rest) x.tokens ∙ ap (λ z. k.For ∷ k.Open ∷ k.Let ∷ z)
    (append_assoc (bound i v) (k.In ∷ (x.left ++ k.Close ∷ x.right)) rest ∙ ap (λ z. bound i v ++ k.In ∷ z) (append_assoc x.left (k.Close ∷ x.right) rest)) in
    let quiet : lead (k.Close ∷ vs) ≡ 0 = refl in
    from_begun (ts ++ rest) rest (ForIn i v e b) h (omega (arith, x.height))
    (λ n. same_ends (ap (begun (readers n)) all ∙ each_begun n i v us) (each_ends n us vs rest i v e b x.low x.other h x.height (one x.left x.low x.first (k.Close ∷ vs) quiet n) (two x.right rest x.other x.second n))) d

-- functions, `try` and blocks

fun_ends : (d : ℕ) (us vs rest : List Terminal) (f : Word) (ws : List Word) (b : Stms) (low other h : ℕ) → h ≡ 1 + max low other → Ends (listing name false after_close us) d (k.OpenBrace ∷ vs) ws low
    → Ends (braced (readers d).statement vs) d rest b other → Ends (begun (readers d) (k.Fun ∷ k.Word f ∷ k.Open ∷ us)) (suc d) rest (Fun f ws b) h
unfolding begun
fun_ends d us vs rest f ws b low other h high one two =
    bind_ends (λ ws. block (readers d) ws.rest >>= function f ws) one (λ z. omega (arith, z, high))
    (λ g. bind_ends (function f (got ws low (k.OpenBrace ∷ vs))) two (λ z. omega (arith, z, high))
    (λ i. ends (omega (arith, g, i, high)) (ap (λ n. Ok (got (Fun f ws b) n rest)) (let q : suc (max low other) ≡ h = omega (arith, high) in q))))

pub fun_stm : (f : Word) (ws : List Word) (b : Stms) → StmsRead b → (ts rest : List Terminal) (h : ℕ) → OfStm (Fun f ws b) ts rest h → (d : ℕ) → Ends ((readers d).statement (ts ++ rest)) d rest (Fun f ws b) h
fun_stm f ws b hyp ts rest h x d =
    let y = in_braces b hyp x.right rest 0 x.other x.second in
    let us = x.left ++ k.OpenBrace ∷ y.0 in
    let all : ts ++ rest ≡ k.Fun ∷ k.Word f ∷ k.Open ∷ us = ap (λ z. z ++ rest) x.tokens ∙ ap (λ z. k.Fun ∷ k.Word f ∷ k.Open ∷ z) (append_assoc x.left x.right rest ∙ ap (λ z. x.left ++ z) y.1) in
    let high : h ≡ 1 + max x.low y.2 = omega (arith, x.height, y.3) in
    from_begun (ts ++ rest) rest (Fun f ws b) h (omega (arith, high))
    (λ i. same_ends (ap (begun (readers i)) all) (fun_ends i us y.0 rest f ws b x.low y.2 h high (names_end i ws x.left x.low x.first (k.OpenBrace ∷ y.0)) (y.4 i))) d

try_ends : (d : ℕ) (us vs rest : List Terminal) (b : Stms) (w : Word) (c : Stms) (low other h : ℕ) → h ≡ 1 + max low other → Ends (braced (readers d).statement us) d (k.Catch ∷ k.Open ∷ k.Word w ∷ k.Close ∷ k.OpenBrace ∷ vs) b low
    → Ends (braced (readers d).statement vs) d rest c other → Ends (begun (readers d) (k.Try ∷ k.OpenBrace ∷ us)) (suc d) rest (Try b w c) h
unfolding begun
try_ends d us vs rest b w c low other h high one two =
    let mid = k.Catch ∷ k.Open ∷ k.Word w ∷ k.Close ∷ k.OpenBrace ∷ vs in
    bind_ends (λ b. wants (after_catch b.rest) (λ p. block (readers d) p.1 >>= tried b p.0)) one (λ z. omega (arith, z, high))
    (λ g. bind_ends (tried (got b low mid) w) two (λ z. omega (arith, z, high))
    (λ i. ends (omega (arith, g, i, high)) (ap (λ n. Ok (got (Try b w c) n rest)) (let q : suc (max low other) ≡ h = omega (arith, high) in q))))

pub try_stm : (b : Stms) (w : Word) (c : Stms) → StmsRead b → StmsRead c → (ts rest : List Terminal) (h : ℕ) → OfStm (Try b w c) ts rest h → (d : ℕ) → Ends ((readers d).statement (ts ++ rest)) d rest (Try b w c) h
try_stm b w c one two ts rest h x d =
    let y = x.part in
    let catch = λ (z : List Terminal). k.Catch ∷ k.Open ∷ k.Word w ∷ k.Close ∷ z in
    let second = in_braces c two y.right rest 0 y.other y.second in
    let first = in_braces b one y.left (catch (y.right ++ rest)) 0 y.low y.first in
    let all : ts ++ rest ≡ k.Try ∷ k.OpenBrace ∷ first.0 = ap (λ z. z ++ rest) x.tokens ∙ ap (λ z. k.Try ∷ z) (ap (λ z. z ++ rest) y.tokens ∙ append_assoc y.left (catch y.right) rest ∙ first.1) in
    let high : h ≡ 1 + max first.2 second.2 = omega (arith, x.height, y.height, first.3, second.3) in
    from_begun (ts ++ rest) rest (Try b w c) h (omega (arith, high))
    (λ i. same_ends (ap (begun (readers i)) all) (try_ends i first.0 second.0 rest b w c first.2 second.2 h high (moved i first.0 (y.right ++ rest) second.0 first.2 second.1 (first.4 i)) (second.4 i))) d
  where
    moved : (i : ℕ) (us vs ws : List Terminal) (n : ℕ) → vs ≡ k.OpenBrace ∷ ws → Ends (braced (readers i).statement us) i (k.Catch ∷ k.Open ∷ k.Word w ∷ k.Close ∷ vs) b n
        → Ends (braced (readers i).statement us) i (k.Catch ∷ k.Open ∷ k.Word w ∷ k.Close ∷ k.OpenBrace ∷ ws) b n
    moved i us vs ws n same it = subst (λ (z : List Terminal). Ends (braced (readers i).statement us) i (k.Catch ∷ k.Open ∷ k.Word w ∷ k.Close ∷ z) b n) same it

block_ends : (d : ℕ) (us rest : List Terminal) (b : Stms) (low h : ℕ) → h ≡ 1 + low → Ends (braced (readers d).statement us) d rest b low → Ends (begun (readers d) (k.OpenBrace ∷ us)) (suc d) rest (Block b) h
unfolding begun
block_ends d us rest b low h high one =
    bind_ends (grown Block) one (λ z. omega (arith, z, high)) (λ i. ends (omega (arith, i, high)) (ap (λ n. Ok (got (Block b) n rest)) (let q : suc low ≡ h = omega (arith, high) in q)))

pub block_stm : (b : Stms) → StmsRead b → (ts rest : List Terminal) (h : ℕ) → OfStm (Block b) ts rest h → (d : ℕ) → Ends ((readers d).statement (ts ++ rest)) d rest (Block b) h
block_stm b hyp ts rest h x d =
    let y = in_braces b hyp ts rest 1 h x in
    from_begun (ts ++ rest) rest (Block b) h (omega (arith, y.3)) (λ i. same_ends (ap (begun (readers i)) y.1) (block_ends i y.0 rest b y.2 h y.3 (y.4 i))) d
