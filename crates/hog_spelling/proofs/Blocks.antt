-- Statements in braces, and what a condition or a loop governs, are read where they are spelled.
use Rattle.std.proofs.Common.{◌≡◌, ℕ, zero, suc, ◌+◌, ◌<◌, max, true, false, List, [], ◌∷◌, ◌++◌, length, None, Ok, cond, refl, ap, ◌∙◌, append_assoc, arith, length-append, inl, inr}
use Rattle.hog_tree.specs.Plain.{Stm, Let, Assign, Do, Return, Throw, If, While, For, ForIn, Fun, Try, Block, Stms, Done, Then, OptionExp, NoneExp, SomeExp, OptionStms, NoneStms, SomeStms}
use Rattle.hog_grammar.specs.Terminal.{Terminal}
use Rattle.hog_grammar.specs.Terminal as k
use Rattle.hog_grammar.specs.Forms.{ends_block, begins_else, semis, Braced, Governed}
use Rattle.hog_grammar.specs.Spelling.{OfStm, OfStms, OnlyOne, OfElse, Declared}
use Rattle.hog_terms.specs.Marks.{after_semi, after_open_brace}
use Rattle.hog_reading.specs.Read.{Got, got, ◌>>=◌, either_way, Read, first, leveled, several, put_stm, braced, closed_brace}
use Rattle.hog_reading.specs.ReadStatements.{readers, begun, plain, governed, only, otherwise, some_block}
use Rattle.hog_spelling.proofs.Begin.{no_brace_none, no_else_none}
use Rattle.hog_spelling.proofs.Comes.{Ends, ends, same_ends, at_height, bind_ends, at_own}
use Rattle.hog_spelling.proofs.Lists.{pred_of}
use Rattle.hog_spelling.proofs.Forms.{spelled_above}
use Rattle.hog_spelling.proofs.Plains.{block_semi}

pub not_semi : (d : ℕ) (ts : List Terminal) (g : Got Stm) → (readers d).statement ts ≡ Ok g → after_semi ts ≡ None
unfolding readers begun plain leveled first
not_semi zero ts g e = absurd (cc)
not_semi (suc zero) (k.Semi ∷ ts) g e = absurd (cc)
not_semi (suc (suc d)) (k.Semi ∷ ts) g e = absurd (cc)
not_semi (suc d) [] g e = refl
not_semi (suc d) (_ ∷ ts) g e = refl

pub in_block : (d : ℕ) (ts : List Terminal) (g : Got Stm) → (readers d).statement ts ≡ Ok g → ends_block ts ≡ false
unfolding readers begun plain leveled first
in_block zero ts g e = absurd (cc)
in_block (suc zero) (k.CloseBrace ∷ ts) g e = absurd (cc)
in_block (suc (suc d)) (k.CloseBrace ∷ ts) g e = absurd (cc)
in_block (suc zero) [] g e = absurd (cc)
in_block (suc (suc d)) [] g e = absurd (cc)
in_block (suc d) (_ ∷ ts) g e = refl

abbrev pub StmReads : Stm → Type 0
StmReads s = (ts rest : List Terminal) (h : ℕ) → OfStm s ts rest h → (d : ℕ) → Ends ((readers d).statement (ts ++ rest)) d rest s h

abbrev pub StmsRead : Stms → Type 0
StmsRead ss = (ts rest : List Terminal) (h : ℕ) → OfStms ss ts rest h → ends_block rest ≡ true → (d m : ℕ) → length ts < m → Ends (several (readers d).statement m (ts ++ rest)) d rest ss h

declared_length : (v : OptionExp) (x : _) (ts : List Terminal) (h : ℕ) → Declared v x ts h → 0 < length ts
declared_length NoneExp x ts h b = omega (arith, ap length b.tokens)
declared_length (SomeExp e) x ts h b = omega (arith, ap length b.tokens)

-- a statement has a token
pub stm_length : (s : Stm) (ts rest : List Terminal) (h : ℕ) → OfStm s ts rest h → 0 < length ts
stm_length (Let x v) ts rest h b = omega (arith, ap length b.tokens, length-append b.inner b.ending, declared_length v x b.inner h b.part)
stm_length (Assign t e) ts rest h b = let p = b.part.part.1 in omega (arith, ap length b.tokens, length-append b.inner b.ending, ap length p.tokens, length-append p.left (k.Assign ∷ p.right))
stm_length (Do e) ts rest h b = let p = b.part.part in omega (arith, ap length b.tokens, length-append b.inner b.ending, ap length p.tokens, (spelled_above e 1 p.inner p.low p.part).1)
stm_length (Return NoneExp) ts rest h (inl b) = omega (arith, ap length b.tokens)
stm_length (Return NoneExp) ts rest h (inr b) = omega (arith, ap length b.1.tokens)
stm_length (Return (SomeExp e)) ts rest h b = omega (arith, ap length b.tokens, length-append b.inner b.ending, ap length b.part.tokens)
stm_length (Throw e) ts rest h b = omega (arith, ap length b.tokens, length-append b.inner b.ending, ap length b.part.tokens)
stm_length (If c s o) ts rest h b = omega (arith, ap length b.tokens)
stm_length (While c s) ts rest h b = omega (arith, ap length b.tokens)
stm_length (For i c n s) ts rest h b = omega (arith, ap length b.tokens)
stm_length (ForIn i v e s) ts rest h b = omega (arith, ap length b.tokens)
stm_length (Fun f ws s) ts rest h b = omega (arith, ap length b.tokens)
stm_length (Try s w c) ts rest h b = omega (arith, ap length b.tokens)
stm_length (Block s) ts rest h b = omega (arith, ap length b.tokens)

-- lists of statements

semis_append : (e : ℕ) (us rest : List Terminal) → semis e us ++ rest ≡ semis e (us ++ rest)
semis_append zero us rest = refl
semis_append (suc e) us rest = ap (λ ts. k.Semi ∷ ts) (semis_append e us rest)

semis_length : (e : ℕ) (us : List Terminal) → length (semis e us) ≡ e + length us
semis_length zero us = omega arith
semis_length (suc e) us = omega (arith, semis_length e us)

skip_one : (stm : Read Stm) (m : ℕ) (us : List Terminal) → several stm (suc m) (k.Semi ∷ us) ≡ several stm m us
unfolding several
skip_one stm m us = refl

skip_semis : (stm : Read Stm) (e m : ℕ) (us : List Terminal) → e < m → (j : ℕ) × (m ≡ e + j) × (several stm m (semis e us) ≡ several stm j us)
skip_semis stm zero m us h = (m, omega arith, refl)
skip_semis stm (suc e) zero us h = absurd (omega arith)
skip_semis stm (suc e) (suc m) us h = let r = skip_semis stm e m us (omega arith) in (r.0, omega (arith, r.1), skip_one stm m (semis e us) ∙ r.2)

several_over : (stm : Read Stm) (j : ℕ) (rest : List Terminal) → ends_block rest ≡ true → several stm (suc j) rest ≡ Ok (got Done 0 rest)
unfolding several
several_over stm j rest over =
    let next = stm rest >>= λ g. several stm j g.rest >>= put_stm g in
    ap (λ o. either_way o (several stm j) (cond (ends_block rest) (Ok (got Done 0 rest)) next)) (block_semi rest over) ∙ ap (λ b. cond b (Ok (got Done 0 rest)) next) over

several_one : (d j : ℕ) (s : Stm) (low : ℕ) (all mid rest : List Terminal) (ss : Stms) (other : ℕ) → ((i : ℕ) → Ends ((readers i).statement all) i mid s low)
    → Ends (several (readers d).statement j mid) d rest ss other → Ends (several (readers d).statement (suc j) all) d rest (Then s ss) (max low other)
unfolding several
several_one d j s low all mid rest ss other go next =
    let stm = (readers d).statement in
    let own = at_own (go low) in
    let after = stm all >>= λ g. several stm j g.rest >>= put_stm g in
    same_ends (ap (λ o. either_way o (several stm j) (cond (ends_block all) (Ok (got Done 0 all)) after)) (not_semi low all (got s low mid) own)
    ∙ ap (λ b. cond b (Ok (got Done 0 all)) after) (in_block low all (got s low mid) own))
    (bind_ends (λ g. several stm j g.rest >>= put_stm g) (go d) (λ z. omega (arith, z))
    (λ fits. bind_ends (put_stm (got s low mid)) next (λ z. omega (arith, z)) (λ small. ends (omega (arith, fits, small)) refl)))

pub no_statements : StmsRead Done
no_statements ts rest h b over d m room =
    let j = skip_semis (readers d).statement b.empty m rest (omega (arith, room, ap length b.tokens, semis_length b.empty [])) in
    let i = pred_of j.0 (omega (arith, room, j.1, ap length b.tokens, semis_length b.empty [])) in
    let it : Ends (several (readers d).statement m (semis b.empty rest)) d rest Done 0 = ends (omega arith) (j.2 ∙ ap (λ n. several (readers d).statement n rest) i.1 ∙ several_over (readers d).statement i.0 rest over) in
    rw (b.tokens, b.height, semis_append) it

pub more_statements : (s : Stm) (ss : Stms) → StmReads s → StmsRead ss → StmsRead (Then s ss)
more_statements s ss one others ts rest h b over d m room =
    let sizes = length-append b.left b.right in
    let all = ap length b.tokens ∙ semis_length b.empty (b.left ++ b.right) in
    let some = stm_length s b.left (b.right ++ rest) b.low b.first in
    let us = b.left ++ (b.right ++ rest) in
    let j = skip_semis (readers d).statement b.empty m us (omega (arith, room, all, sizes)) in
    let i = pred_of j.0 (omega (arith, room, j.1, all, sizes)) in
    let it = several_one d i.0 s b.low us (b.right ++ rest) rest ss b.other (λ n. one b.left (b.right ++ rest) b.low b.first n)
    (others b.right rest b.other b.second over d i.0 (omega (arith, room, j.1, i.1, all, sizes, some))) in
    let same : ts ++ rest ≡ semis b.empty us = ap (λ z. z ++ rest) b.tokens ∙ semis_append b.empty (b.left ++ b.right) rest ∙ ap (semis b.empty) (append_assoc b.left b.right rest) in
    rw b.height (same_ends (ap (several (readers d).statement m) same ∙ j.2 ∙ ap (λ n. several (readers d).statement n us) i.1) it)

-- braces

pub braced_reads : (ss : Stms) → StmsRead ss → (inner rest : List Terminal) (low : ℕ) → OfStms ss inner (k.CloseBrace ∷ rest) low → (d : ℕ) → Ends (braced (readers d).statement (inner ++ k.CloseBrace ∷ rest)) d rest ss low
unfolding braced
braced_reads ss hyp inner rest low b d =
    let it = hyp inner (k.CloseBrace ∷ rest) low b refl d (suc (length (inner ++ k.CloseBrace ∷ rest))) (omega (arith, length-append inner (k.CloseBrace ∷ rest))) in
    bind_ends closed_brace it (λ z. z) (λ fits. ends fits refl)

-- what follows an opening brace, of all that stands in braces
pub in_braces : (ss : Stms) → StmsRead ss → (ts rest : List Terminal) (more h : ℕ) → Braced (OfStms ss) more ts rest h
    → (us : List Terminal) × (ts ++ rest ≡ k.OpenBrace ∷ us) × (low : ℕ) × (h ≡ more + low) × ((d : ℕ) → Ends (braced (readers d).statement us) d rest ss low)
in_braces ss hyp ts rest more h b =
    (b.inner ++ k.CloseBrace ∷ rest, ap (λ z. z ++ rest) b.tokens ∙ ap (λ z. k.OpenBrace ∷ z) (append_assoc b.inner (k.CloseBrace ∷ []) rest), b.low, b.height, λ d. braced_reads ss hyp b.inner rest b.low b.part d)

-- what is governed

abbrev pub GovernedReads : Stms → (List Terminal → List Terminal → ℕ → Type 0) → Type 0
GovernedReads ss P = (ts rest : List Terminal) (h : ℕ) → P ts rest h → (d : ℕ) → Ends (governed (readers d) (ts ++ rest)) d rest ss h

open_governed : (d : ℕ) (us : List Terminal) → governed (readers d) (k.OpenBrace ∷ us) ≡ braced (readers d).statement us
unfolding governed
open_governed d us = refl

pub governed_reads : (ss : Stms) → StmsRead ss → GovernedReads ss (OnlyOne ss) → GovernedReads ss (Governed (OfStms ss) (OnlyOne ss))
governed_reads ss hyp one ts rest h (inr b) d = one ts rest h b d
governed_reads ss hyp one ts rest h (inl b) d =
    let x = in_braces ss hyp ts rest 0 h b in
    let same : x.2 ≡ h = omega (arith, x.3) in
    same_ends (ap (governed (readers d)) x.1 ∙ open_governed d x.0) (at_height same (x.4 d))

semi_governed : (d : ℕ) (rest : List Terminal) → Ends (governed (readers d) (k.Semi ∷ rest)) d rest Done 0
unfolding governed
semi_governed d rest = ends (omega arith) refl

pub no_one : GovernedReads Done (OnlyOne Done)
no_one ts rest h b d = rw (b.tokens, b.height) (semi_governed d rest)

one_governed : (d : ℕ) (all rest : List Terminal) (s : Stm) (h : ℕ) → after_open_brace all ≡ None → ((i : ℕ) → Ends ((readers i).statement all) i rest s h) → Ends (governed (readers d) all) d rest (Then s Done) h
unfolding governed
one_governed d all rest s h none go =
    let one = (readers d).statement all >>= only in
    same_ends (ap (λ o. either_way o (braced (readers d).statement) (either_way (after_semi all) (λ us. Ok (got Done 0 us)) one)) none
    ∙ ap (λ o. either_way o (λ us. Ok (got Done 0 us)) one) (not_semi h all (got s h rest) (at_own (go h)))) (bind_ends only (go d) (λ z. z) (λ fits. ends fits refl))

pub just_one : (s : Stm) → StmReads s → GovernedReads (Then s Done) (OnlyOne (Then s Done))
just_one s hyp ts rest h b d = one_governed d (ts ++ rest) rest s h (no_brace_none ts rest (stm_length s ts rest h b.part) b.no_brace) (λ i. hyp ts rest h b.part i)

abbrev pub ElseReads : OptionStms → Type 0
ElseReads o = (ts rest : List Terminal) (h : ℕ) → OfElse o ts rest h → (d : ℕ) → Ends (otherwise (readers d) (ts ++ rest)) d rest o h

pub no_else : ElseReads NoneStms
no_else ts rest h b d = rw (b.tokens, b.height) (none rest b.none)
  where
    none : (rest : List Terminal) → begins_else rest ≡ false → Ends (otherwise (readers d) rest) d rest NoneStms 0
    none rest is = ends (omega arith) (ap (λ o. either_way o (λ us. governed (readers d) us >>= some_block) (Ok (got NoneStms 0 rest))) (no_else_none rest is))

pub some_else : (ss : Stms) → GovernedReads ss (Governed (OfStms ss) (OnlyOne ss)) → ElseReads (SomeStms ss)
some_else ss hyp ts rest h b d =
    let same : b.low ≡ h = omega (arith, b.height) in
    let it : Ends (otherwise (readers d) (k.Else ∷ (b.inner ++ rest))) d rest (SomeStms ss) b.low = bind_ends some_block (hyp b.inner rest b.low b.part d) (λ z. z) (λ fits. ends fits refl) in
    rw b.tokens (at_height same it)
