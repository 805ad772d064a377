-- How the loop over statements goes on and ends.
use Rattle.std.proofs.Common.{◌≡◌, ℕ, zero, suc, ◌+◌, ◌-◌, ◌<◌, ◌≤◌, max, true, false, List, Some, None, Result, Ok, Err, cond, refl, sym, ap, ◌∙◌, arith}
use Rattle.hog_tree.specs.Plain.{Stm, Stms, Done, Then}
use Rattle.hog_tree.proofs.Rows.{add_stm}
use Rattle.hog_grammar.specs.Pieces.{Lexed}
use Rattle.hog_grammar.specs.Terminal.{Terminal}
use Rattle.hog_grammar.specs.Forms.{ends_block}
use Rattle.hog_reading.specs.declared.found.Stop.{Stop}
use Rattle.hog_reading.specs.declared.found.Stop.TheVariants.{Syntax, TooNested, OutOfMemory}
use Rattle.hog_terms.specs.Marks.{after_semi}
use Rattle.hog_reading.specs.Read as r
use Rattle.hog_reading.specs.Read.{Fault, Got, got, ◌>>=◌, either_way, Read, several, put_stm}
use Rattle.hog_reading.specs.Gives.{Fails}

-- the statements, and then the others
abbrev joined_stms : Stms → Stms → Stms
joined_stms Done rs = rs
joined_stms (Then s ss) rs = Then s (joined_stms ss rs)

abbrev pub after_stms : Stms → ℕ → Got Stms → Result (Got Stms) Fault
after_stms ss top g = Ok (got (joined_stms ss g.tree) (max top g.height) g.rest)

-- what statements that were read are in the whole
abbrev pub Goes : Read Stm → ℕ → Stms → ℕ → List Terminal → Result (Got Stms) Fault → Type 0
Goes stm most ss top ts total = (several stm most ts >>= after_stms ss top) ≡ total

more : (ss : Stms) (s : Stm) (rs : Stms) → joined_stms ss (Then s rs) ≡ joined_stms (add_stm ss s) rs
more Done s rs = refl
more (Then x ss) s rs = ap (Then x) (more ss s rs)

all : (ss : Stms) → joined_stms ss Done ≡ ss
all Done = refl
all (Then s ss) = ap (Then s) (all ss)

abbrev okay : Got Stms → Result (Got Stms) Fault
okay g = Ok g

begins : (x : Result (Got Stms) Fault) → (x >>= after_stms Done 0) ≡ x
begins (Ok g) = let e : max 0 g.height ≡ g.height = omega arith in ap (λ h. okay (got g.tree h g.rest)) e
begins (Err e) = refl

pub several_begins : (stm : Read Stm) (n : ℕ) (ss : Stms) (ts : List Terminal) → ss ≡ Done → Goes stm (n - 0) ss 0 ts (several stm n ts)
several_begins stm n ss ts none =
    let e : n - 0 ≡ n = omega arith in
    ap (λ z. several stm (n - 0) ts >>= after_stms z 0) none ∙ begins (several stm (n - 0) ts) ∙ ap (λ m. several stm m ts) e

abbrev next : Read Stm → ℕ → Got Stm → Result (Got Stms) Fault
next stm m g = several stm m g.rest >>= put_stm g

after_put : (ss : Stms) (top : ℕ) (g : Got Stm) (x : Result (Got Stms) Fault) → (x >>= put_stm g >>= after_stms ss top) ≡ (x >>= after_stms (add_stm ss g.tree) (max top g.height))
after_put ss top g (Ok x) =
    let e : max top (max g.height x.height) ≡ max (max top g.height) x.height = omega arith in
    ap (λ t. okay (got t (max top (max g.height x.height)) x.rest)) (more ss g.tree x.tree) ∙ ap (λ h. okay (got (joined_stms (add_stm ss g.tree) x.tree) h x.rest)) e
after_put ss top g (Err e) = refl

one_step : (stm : Read Stm) (m : ℕ) (ts : List Terminal) → several stm (suc m) ts ≡ either_way (after_semi ts) (several stm m) (cond (ends_block ts) (Ok (got Done 0 ts)) (stm ts >>= next stm m))
unfolding several
one_step stm m ts = refl

rest_step : (stm : Read Stm) (m : ℕ) (ts : List Terminal) → after_semi ts ≡ None → several stm (suc m) ts ≡ cond (ends_block ts) (Ok (got Done 0 ts)) (stm ts >>= next stm m)
rest_step stm m ts none = one_step stm m ts ∙ ap (λ o. either_way o (several stm m) (cond (ends_block ts) (Ok (got Done 0 ts)) (stm ts >>= next stm m))) none

stm_step : (stm : Read Stm) (m : ℕ) (ts : List Terminal) → after_semi ts ≡ None → ends_block ts ≡ false → several stm (suc m) ts ≡ (stm ts >>= next stm m)
stm_step stm m ts none on = rest_step stm m ts none ∙ ap (λ b. cond b (Ok (got Done 0 ts)) (stm ts >>= next stm m)) on

pub several_skips : (stm : Read Stm) (n i : ℕ) (ss : Stms) (top : ℕ) (ts us : List Terminal) (total : Result (Got Stms) Fault) → i < n → after_semi ts ≡ Some us
    → Goes stm (n - i) ss top ts total → Goes stm (n - (i + 1)) ss top us total
several_skips stm n i ss top ts us total lt is so_far =
    let m : n - i ≡ suc (n - (i + 1)) = omega arith in
    sym (ap (λ j. several stm j ts >>= after_stms ss top) m ∙ ap (λ x. x >>= after_stms ss top) (one_step stm (n - (i + 1)) ts)
    ∙ ap (λ o. either_way o (several stm (n - (i + 1))) (cond (ends_block ts) (Ok (got Done 0 ts)) (stm ts >>= next stm (n - (i + 1)))) >>= after_stms ss top) is) ∙ so_far

pub several_goes : (stm : Read Stm) (n i : ℕ) (ss : Stms) (top : ℕ) (ts : List Terminal) (x : Got Stm) (total : Result (Got Stms) Fault) → i < n → after_semi ts ≡ None → ends_block ts ≡ false → stm ts ≡ Ok x
    → Goes stm (n - i) ss top ts total → Goes stm (n - (i + 1)) (add_stm ss x.tree) (max top x.height) x.rest total
several_goes stm n i ss top ts x total lt none on is so_far =
    let m : n - i ≡ suc (n - (i + 1)) = omega arith in
    sym (ap (λ j. several stm j ts >>= after_stms ss top) m ∙ ap (λ y. y >>= after_stms ss top) (stm_step stm (n - (i + 1)) ts none on ∙ ap (λ y. y >>= next stm (n - (i + 1))) is)
    ∙ after_put ss top x (several stm (n - (i + 1)) x.rest)) ∙ so_far

pub several_ends : (stm : Read Stm) (n i : ℕ) (ss : Stms) (top : ℕ) (ts : List Terminal) (total : Result (Got Stms) Fault) → i < n → after_semi ts ≡ None → ends_block ts ≡ true
    → Goes stm (n - i) ss top ts total → total ≡ Ok (got ss top ts)
several_ends stm n i ss top ts total lt none over so_far =
    let m : n - i ≡ suc (n - (i + 1)) = omega arith in
    let e : max top 0 ≡ top = omega arith in
    sym so_far ∙ ap (λ j. several stm j ts >>= after_stms ss top) m ∙ ap (λ x. x >>= after_stms ss top) (rest_step stm (n - (i + 1)) ts none)
    ∙ ap (λ b. cond b (Ok (got Done 0 ts)) (stm ts >>= next stm (n - (i + 1))) >>= after_stms ss top) over ∙ ap (λ t. okay (got t (max top 0) ts)) (all ss) ∙ ap (λ h. okay (got ss h ts)) e

fails_as : (c : Lexed) (e : Stop) (x : Result (Got Stm) Fault) (go : Got Stm → Result (Got Stms) Fault) (on : Got Stms → Result (Got Stms) Fault) (total : Result (Got Stms) Fault)
    → Fails c e x → (x >>= go >>= on) ≡ total → Fails c e total
fails_as c (Syntax at) x go on total h same = sym same ∙ ap (λ y. y >>= go >>= on) h
fails_as c (TooNested at) x go on total h same = sym same ∙ ap (λ y. y >>= go >>= on) h
fails_as c OutOfMemory x go on total h same = tt

pub several_fails : (c : Lexed) (e : Stop) (stm : Read Stm) (n i : ℕ) (ss : Stms) (top : ℕ) (ts : List Terminal) (total : Result (Got Stms) Fault) → i < n → after_semi ts ≡ None → ends_block ts ≡ false → Fails c e (stm ts)
    → Goes stm (n - i) ss top ts total → Fails c e total
several_fails c e stm n i ss top ts total lt none on is so_far =
    let m : n - i ≡ suc (n - (i + 1)) = omega arith in
    fails_as c e (stm ts) (next stm (n - (i + 1))) (after_stms ss top) total is
    (ap (λ x. x >>= after_stms ss top) (sym (stm_step stm (n - (i + 1)) ts none on)) ∙ sym (ap (λ j. several stm j ts >>= after_stms ss top) m) ∙ so_far)

out_of : (stm : Read Stm) (ts : List Terminal) → several stm zero ts ≡ Err r.Syntax
unfolding several
out_of stm ts = refl

pub several_is_out : (stm : Read Stm) (n i : ℕ) (ss : Stms) (top : ℕ) (ts : List Terminal) (total : Result (Got Stms) Fault) → n ≤ i → Goes stm (n - i) ss top ts total → total ≡ Err r.Syntax
several_is_out stm n i ss top ts total out so_far =
    let m : n - i ≡ zero = omega arith in
    sym so_far ∙ ap (λ j. several stm j ts >>= after_stms ss top) m ∙ ap (λ x. x >>= after_stms ss top) (out_of stm ts)
