-- Assignments, expressions and declarations that are spelled are read, with the `;` after them.
use Rattle.std.proofs.Common.{◌≡◌, ℕ, zero, suc, ◌+◌, ◌<◌, max, true, false, List, [], ◌∷◌, ◌++◌, length, None, Result, Ok, Err, cond, refl, sym, ap, ◌∙◌, append_assoc, arith, length-append, ◌⊎◌, inl, inr}
use Rattle.hog_tree.specs.Plain.{Word, Exp, Int, Truth, Null, Text, Template, Name, Array, Dict, Neg, Not, Binary, Coalesce, Prop, PropNullish, Index, Call, Lambda, Stm, Let, Assign, Do, Return, Throw, OptionExp, NoneExp, SomeExp}
use Rattle.hog_grammar.specs.Terminal.{Terminal}
use Rattle.hog_grammar.specs.Terminal as k
use Rattle.hog_grammar.specs.Forms.{Phrase, One, NoBrace, goes_on, ends_block, begins_brace, Ending, Ended}
use Rattle.hog_grammar.specs.Spelling.{IsTarget, Assigned, Declared, Returned}
use Rattle.hog_terms.specs.Marks.{after_assign, after_semi, lead, starts, is_target}
use Rattle.hog_reading.specs.Read.{Fault, Syntax, Got, got, ◌>>=◌, either_way, grown}
use Rattle.hog_reading.specs.ReadStatements.{readers, begun, start_of, plain, ended, assigning, assigned, declared, value_of}
use Rattle.hog_spelling.proofs.Begin.{plain_begun, plain_start, starts_no_semi, starts_in_block}
use Rattle.hog_spelling.proofs.Comes.{Ends, ends, deeper, same_ends, bind_ends}
use Rattle.hog_spelling.proofs.Forms.{Spelled, Reads, spelled_above, spelled_starts}

-- what may follow a statement

pub free_lead : (ts : List Terminal) → goes_on ts ≡ false → lead ts ≡ 0
free_lead (k.Or ∷ ts) e = absurd (cc)
free_lead (k.And ∷ ts) e = absurd (cc)
free_lead (k.Coalesce ∷ ts) e = absurd (cc)
free_lead (k.Equal ∷ ts) e = absurd (cc)
free_lead (k.NotEqual ∷ ts) e = absurd (cc)
free_lead (k.Less ∷ ts) e = absurd (cc)
free_lead (k.LessEqual ∷ ts) e = absurd (cc)
free_lead (k.Greater ∷ ts) e = absurd (cc)
free_lead (k.GreaterEqual ∷ ts) e = absurd (cc)
free_lead (k.In ∷ ts) e = absurd (cc)
free_lead (k.Not ∷ ts) e = absurd (cc)
free_lead (k.Plus ∷ ts) e = absurd (cc)
free_lead (k.Minus ∷ ts) e = absurd (cc)
free_lead (k.Star ∷ ts) e = absurd (cc)
free_lead (k.Dot ∷ ts) e = absurd (cc)
free_lead (k.NullishDot ∷ ts) e = absurd (cc)
free_lead (k.OpenBracket ∷ ts) e = absurd (cc)
free_lead (k.Open ∷ ts) e = absurd (cc)
free_lead (k.Arrow ∷ ts) e = absurd (cc)
free_lead [] e = refl
free_lead (_ ∷ ts) e = refl

pub free_semi : (ts : List Terminal) → goes_on ts ≡ false → after_semi ts ≡ None
free_semi (k.Semi ∷ ts) e = absurd (cc)
free_semi [] e = refl
free_semi (_ ∷ ts) e = refl

free_assign : (ts : List Terminal) → goes_on ts ≡ false → after_assign ts ≡ None
free_assign (k.Assign ∷ ts) e = absurd (cc)
free_assign [] e = refl
free_assign (_ ∷ ts) e = refl

pub block_semi : (ts : List Terminal) → ends_block ts ≡ true → after_semi ts ≡ None
block_semi (k.Semi ∷ ts) e = absurd (cc)
block_semi [] e = refl
block_semi (_ ∷ ts) e = refl

ending_free : (ending rest : List Terminal) → Ending ending rest → (lead (ending ++ rest) ≡ 0) × (after_assign (ending ++ rest) ≡ None)
ending_free ending rest (inl e) = (ap (λ x. lead (x ++ rest)) e, ap (λ x. after_assign (x ++ rest)) e)
ending_free ending rest (inr e) = (ap (λ x. lead (x ++ rest)) e.0 ∙ free_lead rest e.1, ap (λ x. after_assign (x ++ rest)) e.0 ∙ free_assign rest e.1)

ended_is : (s : Stm) (h : ℕ) (ending rest : List Terminal) → Ending ending rest → ended (got s h (ending ++ rest)) ≡ Ok (got s h rest)
ended_is s h ending rest (inl is) = ap (λ x. ended (got s h (x ++ rest))) is
ended_is s h ending rest (inr is) = ap (λ x. ended (got s h (x ++ rest))) is.0
    ∙ ap (λ o. either_way o (λ us. Ok (got s h us)) (cond (goes_on rest) (Err Syntax) (Ok (got s h rest)))) (free_semi rest is.1)
    ∙ ap (λ b. cond b (Err Syntax) (Ok (got s h rest))) is.1

pub ended_ends : {r : Result (Got Stm) Fault} {d : ℕ} {s : Stm} {h : ℕ} (ending rest : List Terminal) → Ending ending rest → Ends r d (ending ++ rest) s h → Ends (r >>= ended) d rest s h
ended_ends {s = s} {h = h} ending rest is it = bind_ends ended it (λ z. z) (λ fits. ends fits (ended_is s h ending rest is))

pub from_begun : (ts rest : List Terminal) (s : Stm) (h : ℕ) → 0 < h → ((d : ℕ) → Ends (begun (readers d) ts) (suc d) rest s h) → (d : ℕ) → Ends ((readers d).statement ts) d rest s h
unfolding readers
from_begun ts rest s h above go zero = deeper above (length ts) refl
from_begun ts rest s h above go (suc d) = go d

pub from_start : (ts rest : List Terminal) (s : Stm) (h : ℕ) → 0 < h → ((d : ℕ) → Ends (start_of (readers d) ts) (suc d) rest s h) → (d : ℕ) → Ends ((readers d).start ts) d rest s h
unfolding readers
from_start ts rest s h above go zero = deeper above (length ts) refl
from_start ts rest s h above go (suc d) = go d

pub from_step : (ts rest : List Terminal) (s : Stm) (h : ℕ) → 0 < h → ((d : ℕ) → Ends (plain (readers d) ts) (suc d) rest s h) → (d : ℕ) → Ends ((readers d).step ts) d rest s h
unfolding readers
from_step ts rest s h above go zero = deeper above (length ts) refl
from_step ts rest s h above go (suc d) = go d

-- Such a phrase is an assignment or an expression, without the `;`.
pub record Plainly (s : Stm) (ts rest : List Terminal) (h : ℕ) : Type 0 where
  pub reads : (d : ℕ) → Ends (plain (readers d) (ts ++ rest)) (suc d) rest s h
  pub begins : starts (ts ++ rest) ≡ true
  pub some : 0 < length ts
  pub above : 0 < h

abbrev pub Plains : Stm → Phrase → Type 0
Plains s P = (ts : List Terminal) (h : ℕ) → P ts h → (rest : List Terminal) → lead rest ≡ 0 → after_assign rest ≡ None → Plainly s ts rest h

do_ends : (d : ℕ) (us rest : List Terminal) (e : Exp) (low h : ℕ) → h ≡ 1 + low → after_assign rest ≡ None → Ends ((readers d).expression 1 us) d rest e low → Ends (plain (readers d) us) (suc d) rest (Do e) h
unfolding plain
do_ends d us rest e low h high none it =
    bind_ends (assigning (readers d)) it (λ z. omega (arith, z, high))
    (λ fits. ends (omega (arith, fits, high)) (ap (λ o. either_way o (λ us. cond (is_target e) ((readers d).expression 1 us >>= assigned (got e low rest)) (Err Syntax)) (Ok (got (Do e) (suc low) rest))) none
    ∙ ap (λ i. Ok (got (Do e) i rest)) (let q : suc low ≡ h = omega (arith, high) in q)))

pub do_plains : (e : Exp) → Reads e → Plains (Do e) (One (Spelled e 1) (λ xs. xs) 1)
do_plains e hyp ts h b rest stop none = record {
  reads = λ d. do_ends d (ts ++ rest) rest e b.low h b.height none (same_ends (ap (λ z. (readers d).expression 1 (z ++ rest)) b.tokens) (hyp b.inner b.low b.part rest stop d));
  begins = ap (λ z. starts (z ++ rest)) b.tokens ∙ spelled_starts e hyp b.inner b.low b.part rest stop;
  some = omega (arith, ap length b.tokens, (spelled_above e 1 b.inner b.low b.part).1);
  above = omega (arith, b.height);
}

target : (t : Exp) → IsTarget t → is_target t ≡ true
target (Name w) i = refl
target (Prop e w) i = refl
target (Index e j) i = refl
target (Int n) i = absurd i
target (Truth b) i = absurd i
target Null i = absurd i
target (Text bs) i = absurd i
target (Template ps) i = absurd i
target (Array es) i = absurd i
target (Dict ds) i = absurd i
target (Neg e) i = absurd i
target (Not e) i = absurd i
target (Binary op a b) i = absurd i
target (Coalesce a b) i = absurd i
target (PropNullish e w) i = absurd i
target (Call f es) i = absurd i
target (Lambda ws b) i = absurd i

assign_ends : (d : ℕ) (us vs rest : List Terminal) (t e : Exp) (low other h : ℕ) → h ≡ 1 + max low other → IsTarget t → Ends ((readers d).expression 1 us) d (k.Assign ∷ vs) t low
    → Ends ((readers d).expression 1 vs) d rest e other → Ends (plain (readers d) us) (suc d) rest (Assign t e) h
unfolding plain
assign_ends d us vs rest t e low other h high is one next =
    bind_ends (assigning (readers d)) one (λ z. omega (arith, z, high))
    (λ fits. same_ends (ap (λ b. cond b ((readers d).expression 1 vs >>= assigned (got t low (k.Assign ∷ vs))) (Err Syntax)) (target t is))
    (bind_ends (assigned (got t low (k.Assign ∷ vs))) next (λ z. omega (arith, z, high))
    (λ small. ends (omega (arith, fits, small, high)) (ap (λ i. Ok (got (Assign t e) i rest)) (let q : suc (max low other) ≡ h = omega (arith, high) in q)))))

pub assign_plains : (t e : Exp) → Reads t → Reads e → Plains (Assign t e) (Assigned t (Spelled t 1) (Spelled e 1))
assign_plains t e left right ts h b rest stop none =
    let p = b.1 in
    let us = p.right ++ rest in
    let all : ts ++ rest ≡ p.left ++ k.Assign ∷ us = ap (λ z. z ++ rest) p.tokens ∙ append_assoc p.left (k.Assign ∷ p.right) rest in
    let quiet : lead (k.Assign ∷ us) ≡ 0 = refl in
    record {
      reads = λ d. assign_ends d (ts ++ rest) us rest t e p.low p.other h p.height b.0
          (same_ends (ap (λ z. (readers d).expression 1 z) all) (left p.left p.low p.first (k.Assign ∷ us) quiet d)) (right p.right p.other p.second rest stop d);
      begins = ap starts all ∙ spelled_starts t left p.left p.low p.first (k.Assign ∷ us) quiet;
      some = omega (arith, ap length p.tokens, length-append p.left (k.Assign ∷ p.right));
      above = omega (arith, p.height);
    }

brace_after : (ts rest : List Terminal) → 0 < length ts → begins_brace ts ≡ false → begins_brace (ts ++ rest) ≡ false
brace_after [] rest some b = absurd (omega arith)
brace_after (k.OpenBrace ∷ ts) rest some b = absurd (cc)
brace_after (_ ∷ ts) rest some b = refl

pub plain_stm : (s : Stm) (P : Phrase) → Plains s P → (ts rest : List Terminal) (h : ℕ) → Ended (NoBrace P) ts rest h → (d : ℕ) → Ends ((readers d).statement (ts ++ rest)) d rest s h
plain_stm s P plains ts rest h b d =
    let after = b.ending ++ rest in
    let free = ending_free b.ending rest b.ends in
    let p = plains b.inner h b.part.part after free.0 free.1 in
    let all : ts ++ rest ≡ b.inner ++ after = ap (λ z. z ++ rest) b.tokens ∙ append_assoc b.inner b.ending rest in
    from_begun (ts ++ rest) rest s h p.above
    (λ i. same_ends (ap (begun (readers i)) all ∙ plain_begun (readers i) (b.inner ++ after) p.begins (brace_after b.inner after p.some b.part.no_brace)) (ended_ends b.ending rest b.ends (p.reads i))) d

pub start_plain : (s : Stm) (ts rest : List Terminal) (h : ℕ) → Plainly s ts rest h → (d : ℕ) → Ends ((readers d).start (ts ++ rest)) d rest s h
start_plain s ts rest h p d = from_start (ts ++ rest) rest s h p.above (λ i. same_ends (plain_start (readers i) (ts ++ rest) p.begins) (p.reads i)) d

pub step_plain : (s : Stm) (ts rest : List Terminal) (h : ℕ) → Plainly s ts rest h → (d : ℕ) → Ends ((readers d).step (ts ++ rest)) d rest s h
step_plain s ts rest h p d = from_step (ts ++ rest) rest s h p.above p.reads d

-- declarations

-- These tokens are a declaration, without the `;`: what follows the name is what follows all, or a value.
pub record Declares (x : Word) (v : OptionExp) (ts rest : List Terminal) (h : ℕ) : Type 0 where
  pub after : List Terminal
  pub tokens : ts ++ rest ≡ k.Let ∷ k.Word x ∷ after
  pub reads : (d : ℕ) → Ends (declared (readers d) (k.Word x ∷ after)) (suc d) rest (Let x v) h
  pub follows : (after ≡ rest) ⊎ ((us : List Terminal) × (after ≡ k.Assign ∷ us))
  pub above : 0 < h

abbrev pub DeclaredReads : OptionExp → Type 0
DeclaredReads v = (x : Word) (ts : List Terminal) (h : ℕ) → Declared v x ts h → (rest : List Terminal) → lead rest ≡ 0 → after_assign rest ≡ None → Declares x v ts rest h

pub no_value : DeclaredReads NoneExp
no_value x ts h b rest stop none = record {
  after = rest;
  tokens = ap (λ z. z ++ rest) b.tokens;
  reads = λ d. ends (omega (arith, b.height)) (ap (λ o. either_way o (value_of (readers d) x) (Ok (got (Let x NoneExp) 1 rest))) none ∙ ap (λ i. Ok (got (Let x NoneExp) i rest)) (sym b.height));
  follows = inl refl;
  above = omega (arith, b.height);
}

value_ends : (d : ℕ) (x : Word) (us rest : List Terminal) (e : Exp) (low h : ℕ) → h ≡ 1 + low → Ends ((readers d).expression 1 us) d rest e low
    → Ends (declared (readers d) (k.Word x ∷ k.Assign ∷ us)) (suc d) rest (Let x (SomeExp e)) h
value_ends d x us rest e low h high it =
    bind_ends (grown (λ v. Let x (SomeExp v))) it (λ z. omega (arith, z, high)) (λ fits. ends (omega (arith, fits, high)) (ap (λ i. Ok (got (Let x (SomeExp e)) i rest)) (let q : suc low ≡ h = omega (arith, high) in q)))

pub some_value : (e : Exp) → Reads e → DeclaredReads (SomeExp e)
some_value e hyp x ts h b rest stop none = record {
  after = k.Assign ∷ (b.inner ++ rest);
  tokens = ap (λ z. z ++ rest) b.tokens;
  reads = λ d. value_ends d x (b.inner ++ rest) rest e b.low h b.height (hyp b.inner b.low b.part rest stop d);
  follows = inr (b.inner ++ rest, refl);
  above = omega (arith, b.height);
}

let_begun : (d : ℕ) (us : List Terminal) → begun (readers d) (k.Let ∷ us) ≡ (declared (readers d) us >>= ended)
unfolding begun
let_begun d us = refl

let_start : (d : ℕ) (us : List Terminal) → start_of (readers d) (k.Let ∷ us) ≡ declared (readers d) us
unfolding start_of
let_start d us = refl

pub let_stm : (x : Word) (v : OptionExp) → DeclaredReads v → (ts rest : List Terminal) (h : ℕ) → Ended (Declared v x) ts rest h → (d : ℕ) → Ends ((readers d).statement (ts ++ rest)) d rest (Let x v) h
let_stm x v hyp ts rest h b d =
    let after = b.ending ++ rest in
    let free = ending_free b.ending rest b.ends in
    let p = hyp x b.inner h b.part after free.0 free.1 in
    let all : ts ++ rest ≡ k.Let ∷ k.Word x ∷ p.after = ap (λ z. z ++ rest) b.tokens ∙ append_assoc b.inner b.ending rest ∙ p.tokens in
    from_begun (ts ++ rest) rest (Let x v) h p.above (λ i. same_ends (ap (begun (readers i)) all ∙ let_begun i (k.Word x ∷ p.after)) (ended_ends b.ending rest b.ends (p.reads i))) d

pub start_declared : (x : Word) (v : OptionExp) (ts rest : List Terminal) (h : ℕ) → Declares x v ts rest h → (d : ℕ) → Ends ((readers d).start (ts ++ rest)) d rest (Let x v) h
start_declared x v ts rest h p d = from_start (ts ++ rest) rest (Let x v) h p.above (λ i. same_ends (ap (start_of (readers i)) p.tokens ∙ let_start i (k.Word x ∷ p.after)) (p.reads i)) d

-- `throw` and `return`

prefix_stm : (front : Terminal) (make : Exp → Stm) → ((d : ℕ) (us : List Terminal) → starts us ≡ true → begun (readers d) (front ∷ us) ≡ ((readers d).expression 1 us >>= grown make >>= ended)) → (e : Exp) → Reads e
    → (ts rest : List Terminal) (h : ℕ) → Ended (One (Spelled e 1) (λ xs. front ∷ xs) 1) ts rest h → (d : ℕ) → Ends ((readers d).statement (ts ++ rest)) d rest (make e) h
prefix_stm front make is e hyp ts rest h b d =
    let after = b.ending ++ rest in
    let free = ending_free b.ending rest b.ends in
    let p = b.part in
    let us = p.inner ++ after in
    let high = p.height in
    let all : ts ++ rest ≡ front ∷ us = ap (λ z. z ++ rest) b.tokens ∙ append_assoc b.inner b.ending rest ∙ ap (λ z. z ++ after) p.tokens in
    from_begun (ts ++ rest) rest (make e) h (omega (arith, high))
    (λ i. same_ends (ap (begun (readers i)) all ∙ is i us (spelled_starts e hyp p.inner p.low p.part after free.0))
    (ended_ends b.ending rest b.ends (bind_ends (grown make) (hyp p.inner p.low p.part after free.0 i) (λ z. omega (arith, z, high))
    (λ fits. ends (omega (arith, fits, high)) (ap (λ n. Ok (got (make e) n after)) (let q : suc p.low ≡ h = omega (arith, high) in q)))))) d

throw_begun : (d : ℕ) (us : List Terminal) → starts us ≡ true → begun (readers d) (k.Throw ∷ us) ≡ ((readers d).expression 1 us >>= grown Throw >>= ended)
unfolding begun
throw_begun d us s = refl

return_begun : (d : ℕ) (us : List Terminal) → starts us ≡ true → begun (readers d) (k.Return ∷ us) ≡ ((readers d).expression 1 us >>= grown (λ e. Return (SomeExp e)) >>= ended)
unfolding begun
return_begun d us s =
    let value = (readers d).expression 1 us >>= grown (λ e. Return (SomeExp e)) >>= ended in
    ap (λ o. either_way o (λ vs. Ok (got (Return NoneExp) 1 vs)) (cond (ends_block us) (Ok (got (Return NoneExp) 1 us)) value)) (starts_no_semi us s)
    ∙ ap (λ b. cond b (Ok (got (Return NoneExp) 1 us)) value) (starts_in_block us s)

pub throw_stm : (e : Exp) → Reads e → (ts rest : List Terminal) (h : ℕ) → Ended (One (Spelled e 1) (λ xs. k.Throw ∷ xs) 1) ts rest h → (d : ℕ) → Ends ((readers d).statement (ts ++ rest)) d rest (Throw e) h
throw_stm e hyp ts rest h b d = prefix_stm k.Throw Throw throw_begun e hyp ts rest h b d

abbrev pub ReturnReads : OptionExp → Type 0
ReturnReads v = (ts rest : List Terminal) (h : ℕ) → Returned v ts rest h → (d : ℕ) → Ends ((readers d).statement (ts ++ rest)) d rest (Return v) h

pub return_value : (e : Exp) → Reads e → ReturnReads (SomeExp e)
return_value e hyp ts rest h b d = prefix_stm k.Return (λ v. Return (SomeExp v)) return_begun e hyp ts rest h b d

return_semi : (rest : List Terminal) (d : ℕ) → Ends (begun (readers d) (k.Return ∷ k.Semi ∷ rest)) (suc d) rest (Return NoneExp) 1
unfolding begun
return_semi rest d = ends (omega arith) refl

return_end : (rest : List Terminal) → ends_block rest ≡ true → (d : ℕ) → Ends (begun (readers d) (k.Return ∷ rest)) (suc d) rest (Return NoneExp) 1
unfolding begun
return_end rest over d =
    let value = (readers d).expression 1 rest >>= grown (λ e. Return (SomeExp e)) >>= ended in
    ends (omega arith) (ap (λ o. either_way o (λ vs. Ok (got (Return NoneExp) 1 vs)) (cond (ends_block rest) (Ok (got (Return NoneExp) 1 rest)) value)) (block_semi rest over)
    ∙ ap (λ b. cond b (Ok (got (Return NoneExp) 1 rest)) value) over)

pub return_nothing : ReturnReads NoneExp
return_nothing ts rest h (inl b) d = rw (b.tokens, b.height) (from_begun (k.Return ∷ k.Semi ∷ rest) rest (Return NoneExp) 1 (omega arith) (return_semi rest) d)
return_nothing ts rest h (inr b) d = rw (b.1.tokens, b.1.height) (from_begun (k.Return ∷ rest) rest (Return NoneExp) 1 (omega arith) (return_end rest b.0) d)
