-- One step of reading at a height that is known to be left, and the plain trees of what holds a list.
use Rattle.std.proofs.Common.{◌≡◌, ℕ, zero, suc, ◌+◌, ◌-◌, ◌<◌, true, List, [], ◌∷◌, map, length, Some, Result, Ok, Err, cond, refl, sym, ap, ◌∙◌, arith}
use Rattle.std.specs.Prelude.{nat_lt}
use Rattle.std.specs.declared.boxed.Box.{Box}
use Rattle.std.specs.declared.alloc.Global.{Global}
use Rattle.hog_tree.specs.Plain as p
use Rattle.hog_tree.specs.Plain.{Exp, MoreExp, MorePair}
use Rattle.hog_tree.specs.View.{exp_of, exps_from, pairs_from, parts_from, body_of, stms_from}
use Rattle.hog_tree.specs.declared.tree.Expr as e
use Rattle.hog_tree.specs.declared.tree.Expr.{Expr, Dict}
use Rattle.hog_tree.specs.declared.tree.Exprs.{Exprs}
use Rattle.hog_tree.specs.declared.tree.Parts.{Parts}
use Rattle.hog_tree.specs.declared.tree.Stmts.{Stmts}
use Rattle.hog_tree.specs.declared.tree.ArrowBody as a
use Rattle.hog_tree.specs.declared.tree.BinaryOp.{BinaryOp}
use Rattle.hog_tree.specs.declared.tree.DictItem.{DictItem}
use Rattle.hog_tree.specs.declared.tree.DictItems.{DictItems}
use Rattle.hog_tree.specs.declared.tree.ArrowBody.TheViews.{out-DictItems}
use Rattle.hog_tree.proofs.Rows.{array_is, call_is, template_is, body_is, dict_is}
use Rattle.hog_grammar.specs.Pieces.{Lexed}
use Rattle.hog_grammar.specs.Terminal.{Terminal}
use Rattle.hog_grammar.specs.Terminal as k
use Rattle.hog_reading.specs.declared.found.Stop.{Stop}
use Rattle.hog_reading.specs.declared.found.Stop.TheVariants as s
use Rattle.hog_terms.specs.Marks.{operator, lead, after_open_brace}
use Rattle.hog_reading.specs.Read.{Fault, Syntax, TooNested, Got, got, ◌>>=◌, wants, either_way, Readers, exps, pairs, first, step, climb, leveled, binary, grown, body, block_body, one_body, braced}
use Rattle.hog_reading.specs.ReadStatements.{begun, start_of, plain, readers}
use Rattle.hog_reading.specs.Gives.{Fails, followed, list_of, entry_of, entries_of}
use Rattle.hog_reading.proofs.Climb.{lt_true}

pub expression_one : (d l : ℕ) (ts : List Terminal) → 0 < d → (readers d).expression l ts ≡ (first (readers (d - 1)) l ts >>= climb (readers (d - 1)) d d l)
unfolding readers leveled
expression_one zero l ts h = absurd (omega arith)
expression_one (suc d) l ts h = let e : d ≡ suc d - 1 = omega arith in ap (λ i. first (readers i) l ts >>= climb (readers i) (suc d) (suc d) l) e

pub expression_none : (l : ℕ) (ts : List Terminal) → (readers 0).expression l ts ≡ Err (TooNested (length ts))
unfolding readers
expression_none l ts = refl

pub statement_one : (d : ℕ) (ts : List Terminal) → 0 < d → (readers d).statement ts ≡ begun (readers (d - 1)) ts
unfolding readers
statement_one zero ts h = absurd (omega arith)
statement_one (suc d) ts h = let e : d ≡ suc d - 1 = omega arith in ap (λ i. begun (readers i) ts) e

pub statement_none : (ts : List Terminal) → (readers 0).statement ts ≡ Err (TooNested (length ts))
unfolding readers
statement_none ts = refl

pub start_one : (d : ℕ) (ts : List Terminal) → 0 < d → (readers d).start ts ≡ start_of (readers (d - 1)) ts
unfolding readers
start_one zero ts h = absurd (omega arith)
start_one (suc d) ts h = let e : d ≡ suc d - 1 = omega arith in ap (λ i. start_of (readers i) ts) e

pub start_none : (ts : List Terminal) → (readers 0).start ts ≡ Err (TooNested (length ts))
unfolding readers
start_none ts = refl

pub step_one : (d : ℕ) (ts : List Terminal) → 0 < d → (readers d).step ts ≡ plain (readers (d - 1)) ts
unfolding readers
step_one zero ts h = absurd (omega arith)
step_one (suc d) ts h = let e : d ≡ suc d - 1 = omega arith in ap (λ i. plain (readers i) ts) e

pub step_none : (ts : List Terminal) → (readers 0).step ts ≡ Err (TooNested (length ts))
unfolding readers
step_none ts = refl

-- lists in trees

exps_map : (xs : List Expr) → exps_from xs ≡ exps (map exp_of xs)
exps_map [] = refl
exps_map (x ∷ xs) = ap (MoreExp (exp_of x)) (exps_map xs)

pub array_of : (es : Exprs) → exp_of (e.Array es) ≡ p.Array (exps (list_of es))
array_of es = array_is es ∙ ap p.Array (exps_map es.list.items)

pub call_of : (f : Box Expr Global) (es : Exprs) → exp_of (e.Call f es) ≡ p.Call (exp_of f.value) (exps (list_of es))
call_of f es = call_is f es ∙ ap (p.Call (exp_of f.value)) (exps_map es.list.items)

pairs_map : (xs : List DictItem) → pairs_from xs ≡ pairs (map entry_of xs)
pairs_map [] = refl
pairs_map (x ∷ xs) = ap (MorePair (exp_of x.key) (exp_of x.value)) (pairs_map xs)

pub dict_of : (ds : DictItems) → exp_of (Dict ds) ≡ p.Dict (pairs (entries_of ds))
dict_of ds = dict_is ds ∙ ap p.Dict (pairs_map (out-DictItems ds).list.items)

pub dict_found : (r : Result (Got (List (Exp × Exp))) Fault) (ds : DictItems) (h : ℕ) (us : List Terminal) → r ≡ Ok (got (entries_of ds) h us) → followed r (grown (λ ds. p.Dict (pairs ds))) ≡ Ok (got (exp_of (Dict ds)) (h + 1) us)
dict_found r ds h us is =
    let one : suc h ≡ h + 1 = omega arith in
    ap (λ z. followed z (grown (λ ds. p.Dict (pairs ds)))) is ∙ ap (λ z. Ok (got z (suc h) us)) (sym (dict_of ds)) ∙ ap (λ n. Ok (got (exp_of (Dict ds)) n us)) one

pub template_found : (r : Result (Got p.Parts) Fault) (ps : Parts) (h : ℕ) (us : List Terminal) → r ≡ Ok (got (parts_from ps.list.items) h us) → followed r (grown p.Template) ≡ Ok (got (exp_of (e.Template ps)) (h + 1) us)
template_found r ps h us is =
    let one : suc h ≡ h + 1 = omega arith in
    ap (λ z. followed z (grown p.Template)) is ∙ ap (λ z. Ok (got z (suc h) us)) (sym (template_is ps)) ∙ ap (λ n. Ok (got (exp_of (e.Template ps)) n us)) one

pub followed_fails : {A B : Type 0} (c : Lexed) (stop : Stop) (r : Result (Got A) Fault) (f : Got A → Result (Got B) Fault) → Fails c stop r → Fails c stop (followed r f)
followed_fails c (s.Syntax i) r f is = ap (λ z. followed z f) is
followed_fails c (s.TooNested i) r f is = ap (λ z. followed z f) is
followed_fails c s.OutOfMemory r f is = tt

lead_low : (n : ℕ) → n < 1 → nat_lt n 1 ≡ true
lead_low n h = lt_true n 1 h

pub block_found : (again : Readers) (ts us : List Terminal) (ss : Stmts) (h : ℕ) (vs : List Terminal) → after_open_brace ts ≡ Some us → braced again.statement us ≡ Ok (got (stms_from ss.list.items) h vs) → lead vs < 1
    → body again ts ≡ Ok (got (body_of (a.Block ss)) h vs)
unfolding body
block_found again ts us ss h vs brace is low =
    ap (λ o. either_way o (λ us. braced again.statement us >>= block_body) (again.expression 1 ts >>= one_body)) brace
    ∙ ap (λ r. r >>= block_body) is
    ∙ ap (λ b. cond b (Ok (got (p.ManyStms (stms_from ss.list.items)) h vs)) (Err Syntax)) (lead_low (lead vs) low)
    ∙ ap (λ z. Ok (got z h vs)) (sym (body_is ss))

pub step_infix : (again : Readers) (x : Exp) (h : ℕ) (ts : List Terminal) (q : BinaryOp × List Terminal) → operator ts ≡ Some q → step again x h ts ≡ binary again x h q
unfolding step
step_infix again x h (k.Coalesce ∷ ts) q is = absurd (cc)
step_infix again x h (k.Dot ∷ ts) q is = absurd (cc)
step_infix again x h (k.NullishDot ∷ ts) q is = absurd (cc)
step_infix again x h (k.OpenBracket ∷ ts) q is = absurd (cc)
step_infix again x h (k.Open ∷ ts) q is = absurd (cc)
step_infix again x h [] q is = absurd (cc)
step_infix again x h (_ ∷ ts) q is = ap (λ o. wants o (binary again x h)) is
