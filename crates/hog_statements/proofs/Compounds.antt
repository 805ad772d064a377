-- What statements of several parts are, from what their parts are.
use Rattle.std.proofs.Common.{◌≡◌, ℕ, suc, max, false, List, Option, Some, Result, Ok, sym, ap, ◌∙◌}
use Rattle.hog_tree.specs.Plain.{Word, Exp, Stm, If, For, ForIn, Fun, Try, Stms, OptionExp, NoneExp, SomeExp, OptionStm, NoneStm, SomeStm, OptionStms}
use Rattle.hog_grammar.specs.Terminal.{Terminal}
use Rattle.hog_terms.specs.Marks.{after_close, after_semi, after_function, after_catch}
use Rattle.hog_reading.specs.Read.{Fault, Got, got, ◌>>=◌, wants, Readers, listing, name}
use Rattle.hog_reading.specs.ReadStatements.{in_parentheses, condition, governed, otherwise, conditional, optional, run, run_through, run_over, over_each, block, function, with_parameters, tried}

abbrev okay : Got Stm → Result (Got Stm) Fault
okay g = Ok g

as_made : (x y : Stm) (h i : ℕ) (ts : List Terminal) → x ≡ y → h ≡ i → okay (got y i ts) ≡ okay (got x h ts)
as_made x y h i ts e f = ap (λ z. okay (got z i ts)) (sym e) ∙ ap (λ z. okay (got x z ts)) (sym f)

pub if_gives : (again : Readers) (ts : List Terminal) (c : Got Exp) (b : Got Stms) (o : Got OptionStms) (x : Stm) (h : ℕ) → condition again ts ≡ Ok c → governed again c.rest ≡ Ok b → otherwise again b.rest ≡ Ok o
    → x ≡ If c.tree b.tree o.tree → h ≡ suc (max c.height (max b.height o.height)) → (condition again ts >>= λ c. governed again c.rest >>= λ b. otherwise again b.rest >>= conditional c b) ≡ Ok (got x h o.rest)
if_gives again ts c b o x h test body other is high =
    ap (λ r. r >>= λ c. governed again c.rest >>= λ b. otherwise again b.rest >>= conditional c b) test ∙ ap (λ r. r >>= λ b. otherwise again b.rest >>= conditional c b) body ∙ ap (λ r. r >>= conditional c b) other
    ∙ as_made x (If c.tree b.tree o.tree) h (suc (max c.height (max b.height o.height))) o.rest is high

pub each_gives : (again : Readers) (p : (Option Word × Word) × List Terminal) (e : Got Exp) (b : Got Stms) (x : Stm) (h : ℕ) → (again.expression 1 p.1 >>= in_parentheses) ≡ Ok e → governed again e.rest ≡ Ok b
    → x ≡ ForIn p.0.0 p.0.1 e.tree b.tree → h ≡ suc (max e.height b.height) → over_each again p ≡ Ok (got x h b.rest)
each_gives again p e b x h items body is high =
    ap (λ r. r >>= λ e. governed again e.rest >>= run_over p.0 e) items ∙ ap (λ r. r >>= run_over p.0 e) body ∙ as_made x (ForIn p.0.0 p.0.1 e.tree b.tree) h (suc (max e.height b.height)) b.rest is high

pub steps_give : (again : Readers) (ts : List Terminal) (s : Got OptionStm) (c : Got OptionExp) (n : Got OptionStm) (b : Got Stms) (x : Stm) (h : ℕ) → optional NoneStm SomeStm after_semi again.start ts ≡ Ok s
    → optional NoneExp SomeExp after_semi (again.expression 1) s.rest ≡ Ok c → optional NoneStm SomeStm after_close again.step c.rest ≡ Ok n → governed again n.rest ≡ Ok b
    → x ≡ For s.tree c.tree n.tree b.tree → h ≡ suc (max (max s.height (max c.height n.height)) b.height) → run_through again ts ≡ Ok (got x h b.rest)
unfolding run_through
steps_give again ts s c n b x h first test last body is high =
    ap (λ r. r >>= λ s. optional NoneExp SomeExp after_semi (again.expression 1) s.rest >>= λ c. optional NoneStm SomeStm after_close again.step c.rest >>= λ n. governed again n.rest >>= run s c n) first
    ∙ ap (λ r. r >>= λ c. optional NoneStm SomeStm after_close again.step c.rest >>= λ n. governed again n.rest >>= run s c n) test ∙ ap (λ r. r >>= λ n. governed again n.rest >>= run s c n) last ∙ ap (λ r. r >>= run s c n) body
    ∙ as_made x (For s.tree c.tree n.tree b.tree) h (suc (max (max s.height (max c.height n.height)) b.height)) b.rest is high

pub function_gives : (again : Readers) (ts us : List Terminal) (f : Word) (ws : Got (List Word)) (b : Got Stms) (x : Stm) (h : ℕ) → after_function ts ≡ Some (f, us) → listing name false after_close us ≡ Ok ws → block again ws.rest ≡ Ok b
    → x ≡ Fun f ws.tree b.tree → h ≡ suc (max ws.height b.height) → wants (after_function ts) (with_parameters again) ≡ Ok (got x h b.rest)
function_gives again ts us f ws b x h named params body is high =
    ap (λ o. wants o (with_parameters again)) named ∙ ap (λ r. r >>= λ ws. block again ws.rest >>= function f ws) params ∙ ap (λ r. r >>= function f ws) body
    ∙ as_made x (Fun f ws.tree b.tree) h (suc (max ws.height b.height)) b.rest is high

pub try_gives : (again : Readers) (ts us : List Terminal) (b : Got Stms) (w : Word) (c : Got Stms) (x : Stm) (h : ℕ) → block again ts ≡ Ok b → after_catch b.rest ≡ Some (w, us) → block again us ≡ Ok c
    → x ≡ Try b.tree w c.tree → h ≡ suc (max b.height c.height) → (block again ts >>= λ b. wants (after_catch b.rest) (λ p. block again p.1 >>= tried b p.0)) ≡ Ok (got x h c.rest)
try_gives again ts us b w c x h body named caught is high =
    ap (λ r. r >>= λ b. wants (after_catch b.rest) (λ p. block again p.1 >>= tried b p.0)) body ∙ ap (λ o. wants o (λ p. block again p.1 >>= tried b p.0)) named ∙ ap (λ r. r >>= tried b w) caught
    ∙ as_made x (Try b.tree w c.tree) h (suc (max b.height c.height)) c.rest is high
