-- What a slice does, and two slices and one.
use Rattle.std.proofs.Common.{◌≡◌, ℕ, zero, suc, ◌+◌, ◌≤◌, ◌<◌, refl, sym, ap, ◌∙◌, arith}
use Rattle.hog_ops.specs.Plain.{Ops}
use Rattle.vm_course.specs.State.{Running, Waiting, Ended, Mode}
use Rattle.vm_course.specs.Run.{RunState, one_more, where_running, run_for}
use Rattle.vm_course.specs.Laws.{SlicesCount}

-- a run that goes on does one operation
pub goes : (code : Ops) (n : ℕ) (r : RunState) → r.state.mode ≡ Running → run_for code (suc n) r ≡ run_for code n (one_more code r)
goes code n r e = ap (λ m. where_running m (run_for code n (one_more code r)) r) e

-- one that doesn't, does none
pub rests : (code : Ops) (n : ℕ) (r : RunState) → (r.state.mode ≡ Running → ⊥) → run_for code n r ≡ r
rests code zero r still = refl
rests code (suc n) r still = by_mode r.state.mode refl
  where
    by_mode : (m : Mode) → r.state.mode ≡ m → run_for code (suc n) r ≡ r
    by_mode Running e = absurd (still e)
    by_mode Waiting e = ap (λ x. where_running x (run_for code n (one_more code r)) r) e
    by_mode (Ended end) e = ap (λ x. where_running x (run_for code n (one_more code r)) r) e

-- how many operations a slice does
least : (code : Ops) (n : ℕ) (r : RunState) → r.ops ≤ (run_for code n r).ops
least code zero r = omega arith
least code (suc n) r = by_mode r.state.mode (least code n (one_more code r))
  where
    by_mode : (m : Mode) → r.ops + 1 ≤ (run_for code n (one_more code r)).ops → r.ops ≤ (where_running m (run_for code n (one_more code r)) r).ops
    by_mode Running more = omega arith
    by_mode Waiting more = omega arith
    by_mode (Ended e) more = omega arith

most : (code : Ops) (n : ℕ) (r : RunState) → (run_for code n r).ops ≤ r.ops + n
most code zero r = omega arith
most code (suc n) r = by_mode r.state.mode (most code n (one_more code r))
  where
    by_mode : (m : Mode) → (run_for code n (one_more code r)).ops ≤ r.ops + 1 + n → (where_running m (run_for code n (one_more code r)) r).ops ≤ r.ops + suc n
    by_mode Running more = omega arith
    by_mode Waiting more = omega arith
    by_mode (Ended e) more = omega arith

-- none of which takes a reply in
used_still : (code : Ops) (n : ℕ) (r : RunState) → (run_for code n r).used ≡ r.used
used_still code zero r = refl
used_still code (suc n) r = by_mode r.state.mode (used_still code n (one_more code r))
  where
    by_mode : (m : Mode) → (run_for code n (one_more code r)).used ≡ r.used → (where_running m (run_for code n (one_more code r)) r).used ≡ r.used
    by_mode Running is = is
    by_mode Waiting is = refl
    by_mode (Ended e) is = refl

-- all of them where the run goes on
all_done : (code : Ops) (n : ℕ) (r : RunState) → (run_for code n r).state.mode ≡ Running → (run_for code n r).ops ≡ r.ops + n
all_done code zero r runs = omega arith
all_done code (suc n) r runs = by_mode r.state.mode refl (all_done code n (one_more code r)) runs
  where
    by_mode : (m : Mode) → r.state.mode ≡ m → ((run_for code n (one_more code r)).state.mode ≡ Running → (run_for code n (one_more code r)).ops ≡ r.ops + 1 + n)
        → (where_running m (run_for code n (one_more code r)) r).state.mode ≡ Running → (where_running m (run_for code n (one_more code r)) r).ops ≡ r.ops + suc n
    by_mode Running is more still = let all = more still in omega arith
    by_mode Waiting is more still = let no : Waiting ≡ Running = sym is ∙ still in absurd cc
    by_mode (Ended e) is more still = let no : Ended e ≡ Running = sym is ∙ still in absurd cc

-- and one at least, where it goes on to begin with
some_done : (code : Ops) (n : ℕ) (r : RunState) → 1 ≤ n → r.state.mode ≡ Running → r.ops < (run_for code n r).ops
some_done code zero r some runs = absurd (omega arith)
some_done code (suc n) r some runs = let more = least code n (one_more code r) in let is = ap (λ (x : RunState). x.ops) (goes code n r runs) in omega arith

pub slices_count : SlicesCount
slices_count code n r = record {
  at_most = most code n r;
  all_done = all_done code n r;
  goes_on = some_done code n r;
  used = used_still code n r;
  rests = rests code n r;
}

still : (r : RunState) (m : Mode) → r.state.mode ≡ m → where_running m zero (suc zero) ≡ suc zero → r.state.mode ≡ Running → ⊥
still r Running e h runs = absurd (omega (arith, h))
still r Waiting e h runs = let no : Waiting ≡ Running = sym e ∙ runs in cc
still r (Ended end) e h runs = let no : Ended end ≡ Running = sym e ∙ runs in cc

pub slices : (code : Ops) (a b : ℕ) (r : RunState) → run_for code (a + b) r ≡ run_for code b (run_for code a r)
slices code zero b r = let none : zero + b ≡ b = omega arith in ap (λ n. run_for code n r) none
slices code (suc a) b r = let more : suc a + b ≡ suc (a + b) = omega arith in ap (λ n. run_for code n r) more ∙ by_mode (slices code a b (one_more code r)) r.state.mode refl
  where
    by_mode : run_for code (a + b) (one_more code r) ≡ run_for code b (run_for code a (one_more code r)) → (m : Mode) → r.state.mode ≡ m
        → run_for code (suc (a + b)) r ≡ run_for code b (run_for code (suc a) r)
    by_mode next Running e =
        ap (λ x. where_running x (run_for code (a + b) (one_more code r)) r) e
        ∙ next
        ∙ sym (ap (λ x. run_for code b (where_running x (run_for code a (one_more code r)) r)) e)
    by_mode next Waiting e =
        ap (λ x. where_running x (run_for code (a + b) (one_more code r)) r) e
        ∙ sym (rests code b r (still r Waiting e refl))
        ∙ sym (ap (λ x. run_for code b (where_running x (run_for code a (one_more code r)) r)) e)
    by_mode next (Ended end) e =
        ap (λ x. where_running x (run_for code (a + b) (one_more code r)) r) e
        ∙ sym (rests code b r (still r (Ended end) e refl))
        ∙ sym (ap (λ x. run_for code b (where_running x (run_for code a (one_more code r)) r)) e)
