-- One job more.
use Rattle.std.proofs.Common.{◌≡◌, ◌<◌, ◌+◌, ℕ, Bool, true, false, cond, List, [], ◌∷◌, ◌++◌, length, take, get_or, refl, ap, sym, ◌∙◌, arith}
use Rattle.std.specs.Prelude.{sum_by}
use Rattle.std.proofs.lemmas.List.{take_more, map-append}
use Rattle.std.proofs.lemmas.List.Sums.{sum_by-append}
use Rattle.hog_value.specs.declared.trace.Shown.{Shown}
use Rattle.cyclotron_jobs.specs.declared.row.Row.{Row}
use Rattle.job_counts.specs.Counts.{prints_in, requests_in, is_done, is_throw, counted_in, shown_of}
use Rattle.job_counts.specs.Sums.{one_if, counted_more}

one_is : (b : Bool) → cond b 1 0 ≡ one_if b
one_is true = refl
one_is false = refl

pub one_few : (b : Bool) → one_if b < 2
one_few true = omega arith
one_few false = omega arith

sum_more : (f : Shown → ℕ) (all : List Shown) (shown : Shown) → sum_by f (all ++ shown ∷ []) ≡ sum_by f all + f shown
sum_more f all shown = omega (arith, sum_by-append f all (shown ∷ []))

if_more : (f : Shown → Bool) (all : List Shown) (shown : Shown) → sum_by (λ (s : Shown). cond (f s) 1 0) (all ++ shown ∷ []) ≡ sum_by (λ (s : Shown). cond (f s) 1 0) all + one_if (f shown)
if_more f all shown = omega (arith, sum_more (λ (s : Shown). cond (f s) 1 0) all shown, one_is (f shown))

counted_in-more : (all : List Shown) (shown : Shown) → counted_in (all ++ shown ∷ []) ≡ counted_more (counted_in all) shown
counted_in-more all shown =
    rw (
      sum_more (λ (s : Shown). prints_in s.trace) all shown,
      sum_more (λ (s : Shown). requests_in s.trace) all shown,
      if_more (λ (s : Shown). is_done s.end) all shown,
      if_more (λ (s : Shown). is_throw s.end) all shown,
    ) refl

pub counted_in-row : (rows : List Row) (job : ℕ) (row : Row) → job < length rows → row ≡ get_or rows job row → counted_in (shown_of (take (job + 1) rows)) ≡ counted_more (counted_in (shown_of (take job rows))) row.shown
counted_in-row rows job row lt is =
    ap (λ rs. counted_in (shown_of rs)) (take_more rows job row lt ∙ ap (λ (r : Row). take job rows ++ r ∷ []) (sym is))
    ∙ ap counted_in (map-append (λ (r : Row). r.shown) (take job rows) (row ∷ []))
    ∙ counted_in-more (shown_of (take job rows)) row.shown
