-- What reading does at one step.
use Rattle.std.proofs.Common.{◌≡◌, ℕ, zero, suc, ◌<◌, ◌≤◌, true, false, length, Ok, Err, cond, ap, ◌∙◌, arith}
use Rattle.std.specs.Prelude.{nat_lt}
use Rattle.std.proofs.lemmas.Bool.Decides.{nat_tests}
use Rattle.hog_tree.specs.Plain.{Exp}
use Rattle.hog_terms.specs.Marks.{lead}
use Rattle.hog_reading.specs.Read.{TooNested, Got, ◌>>=◌, Readers, step, climb}

pub lt_true : (a b : ℕ) → a < b → nat_lt a b ≡ true
lt_true a b h = grind (arith, nat_tests)

pub lt_false : (a b : ℕ) → b ≤ a → nat_lt a b ≡ false
lt_false a b h = grind (arith, nat_tests)

pub climb_stops : (again : Readers) (m d l : ℕ) (g : Got Exp) → lead g.rest < l → climb again m d l g ≡ Ok g
unfolding climb
climb_stops again zero d l g h = ap (λ b. cond b (Ok g) (Err (TooNested (length g.rest)))) (lt_true (lead g.rest) l h)
climb_stops again (suc m) d l g h =
    ap (λ b. cond b (Ok g) (cond (nat_lt g.height d) (step again g.tree g.height g.rest >>= climb again m d l) (Err (TooNested (length g.rest))))) (lt_true (lead g.rest) l h)

pub climb_full : (again : Readers) (m d l : ℕ) (g : Got Exp) → l ≤ lead g.rest → d ≤ g.height → climb again m d l g ≡ Err (TooNested (length g.rest))
unfolding climb
climb_full again zero d l g h full = ap (λ b. cond b (Ok g) (Err (TooNested (length g.rest)))) (lt_false (lead g.rest) l h)
climb_full again (suc m) d l g h full =
    ap (λ b. cond b (Ok g) (cond (nat_lt g.height d) (step again g.tree g.height g.rest >>= climb again m d l) (Err (TooNested (length g.rest))))) (lt_false (lead g.rest) l h)
    ∙ ap (λ b. cond b (step again g.tree g.height g.rest >>= climb again m d l) (Err (TooNested (length g.rest)))) (lt_false g.height d full)

pub climb_steps : (again : Readers) (m d l : ℕ) (g : Got Exp) → l ≤ lead g.rest → g.height < d → climb again (suc m) d l g ≡ (step again g.tree g.height g.rest >>= climb again m d l)
unfolding climb
climb_steps again m d l g h room =
    ap (λ b. cond b (Ok g) (cond (nat_lt g.height d) (step again g.tree g.height g.rest >>= climb again m d l) (Err (TooNested (length g.rest))))) (lt_false (lead g.rest) l h)
    ∙ ap (λ b. cond b (step again g.tree g.height g.rest >>= climb again m d l) (Err (TooNested (length g.rest)))) (lt_true g.height d room)
