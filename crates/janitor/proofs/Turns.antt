-- One sweep more.
use Rattle.std.proofs.Common.{◌≡◌, ℕ, zero, suc, ◌+◌, ◌<◌, ◌≤◌, inl, inr, Bool, true, false, cond, List, [], ◌∷◌, ◌++◌, length, set, get_or, Some, Option, slice_get, count_by, refl, ap, sym, ◌∙◌, subst, arith, append_assoc}
use Rattle.std.specs.Prelude.{if◌then◌else◌, nat_le}
use Rattle.std.specs.List.{AllZip}
use Rattle.std.proofs.lemmas.List.{append-nil, length_push}
use Rattle.std.proofs.lemmas.List.Elements.{All-nil, All-push}
use Rattle.std.proofs.lemmas.List.Sums.{sum_by-set}
use Rattle.std.proofs.lemmas.Option.{slice_get_within, get_or_from_slice_get}
use Rattle.cyclotron_jobs.specs.declared.row.Row.{Row}
use Rattle.cyclotron_jobs.specs.declared.row.JobState.{JobState}
use Rattle.cyclotron_jobs.specs.declared.row.JobState.TheVariants.{Available, Running, Completed, Failed}
use Rattle.cyclotron_jobs.specs.declared.entry.Entry.{Entry}
use Rattle.cyclotron_jobs.specs.declared.entry.Entry.TheVariants.{Swept}
use Rattle.queue_history.specs.Facts.{facts_of}
use Rattle.cyclotron_core.specs.Queue.{QueueOf}
use Rattle.cyclotron_core.specs.Changes.{row_after_sweep, IsSweep}
use Rattle.janitor.specs.Turn.{IsSweptAt, IsSameOrSwept, HasSwept}

abbrev is_running_state : JobState → Bool
is_running_state Available = false
is_running_state Running = true
is_running_state Completed = false
is_running_state Failed = false

-- how many jobs run
abbrev pub running_in : List Row → ℕ
running_in rows = count_by (λ row. is_running_state row.state) rows

-- a swept job doesn't run
rests : (b : Bool) → is_running_state (if b then Failed else Available) ≡ false
rests true = refl
rests false = refl

swept_rests : (moment : ℕ) (row : Row) → is_running_state (row_after_sweep moment row).state ≡ false
swept_rests moment row = rests (nat_le 3 (length row.sweeps + 1))

-- a sweep leaves one running job fewer
pub running-sweep : {K : Type 0} {tells : Bool} {held : K → ℕ → Option Row} {old new : QueueOf K} {moment job : ℕ}
    → IsSweep tells held old new moment job → running_in new.rows + 1 ≡ running_in old.rows
running-sweep {old = old} {new} {moment} {job} sweep =
    let before = sweep.step.before in
    let after = row_after_sweep moment before in
    let lt : job < length old.rows = slice_get_within old.rows job before sweep.step.there in
    let read : get_or old.rows job before ≡ before = get_or_from_slice_get old.rows job before before sweep.step.there in
    let f : Row → ℕ = λ row. cond (is_running_state row.state) 1 0 in
    let was : f (get_or old.rows job before) ≡ 1 = ap f read ∙ ap (λ s. cond (is_running_state s) 1 0) sweep.ran in
    let now : f after ≡ 0 = ap (λ b. cond b 1 0) (swept_rests moment before) in
    let rows : running_in new.rows ≡ running_in (set old.rows job after) = ap running_in sweep.step.rows in
    omega (arith, sum_by-set f old.rows job after before lt)

AllZip-same : {A : Type 0} (R : A → A → Type 0) → ((x : A) → R x x) → (xs : List A) → AllZip R xs xs
AllZip-same R same [] = tt
AllZip-same R same (x ∷ xs) = (same x, AllZip-same R same xs)

AllZip-set : {A : Type 0} (R : A → A → Type 0) (xs ys : List A) (i : ℕ) (y z : A) → slice_get ys i ≡ Some y → ((x : A) → R x y → R x z) → AllZip R xs ys → AllZip R xs (set ys i z)
AllZip-set R [] [] i y z at step all = all
AllZip-set R [] (w ∷ ys) i y z at step all = absurd all
AllZip-set R (x ∷ xs) [] i y z at step all = absurd all
AllZip-set R (x ∷ xs) (w ∷ ys) zero y z at step all = let same : w ≡ y = cc in (step x (subst (λ v. R x v) same all.0), all.1)
AllZip-set R (x ∷ xs) (w ∷ ys) (suc i) y z at step all = (all.0, AllZip-set R xs ys i y z at step all.1)

-- nothing was swept yet
pub HasSwept-none : {K : Type 0} (moment : ℕ) (q : QueueOf K) → HasSwept moment 0 q q
HasSwept-none moment q = record {
  more = [];
  history = sym (append-nil q.history);
  count = refl;
  sweeps = All-nil (IsSweptAt moment);
  rows = AllZip-same (IsSameOrSwept moment) (λ row. inl refl) q.rows;
}

-- a row that runs was not swept
once : (moment : ℕ) (first before : Row) → before.state ≡ Running → IsSameOrSwept moment first before → IsSameOrSwept moment first (row_after_sweep moment before)
once moment first before ran (inl same) = inr (ap (row_after_sweep moment) same)
once moment first before ran (inr swept) =
    let bad : true ≡ false = ap is_running_state (sym ran) ∙ (ap (λ (r : Row). is_running_state r.state) swept ∙ swept_rests moment first) in
    absurd cc

pub HasSwept-more : {K : Type 0} {tells : Bool} {held : K → ℕ → Option Row} {first old new : QueueOf K} {moment n job : ℕ}
    → HasSwept moment n first old → IsSweep tells held old new moment job → HasSwept moment (n + 1) first new
HasSwept-more {first = first} {old} {new} {moment} {n} {job} was sweep =
    let entry : Entry = Swept job moment (facts_of job old.history).beat in
    let before = sweep.step.before in
    record {
      more = was.more ++ entry ∷ [];
      history = sweep.step.history ∙ (ap (λ h. h ++ entry ∷ []) was.history ∙ append_assoc first.history was.more (entry ∷ []));
      count = length_push was.more entry ∙ ap (λ k. k + 1) was.count;
      sweeps = All-push (IsSweptAt moment) was.more entry was.sweeps refl;
      rows = subst (λ rows. AllZip (IsSameOrSwept moment) first.rows rows) (sym sweep.step.rows)
          (AllZip-set (IsSameOrSwept moment) first.rows old.rows job before (row_after_sweep moment before) sweep.step.there (λ x. once moment x before sweep.ran) was.rows);
    }

-- what holds before each sweep: so many were made, and so many jobs still run
pub record IsTurning {K : Type 0} (faults : K → ℕ) (moment : ℕ) (first now : QueueOf K) : Type 0 where
  pub n : ℕ
  pub swept : HasSwept moment n first now
  pub running : n + running_in now.rows ≡ running_in first.rows
  pub count : faults first.keeper ≤ faults now.keeper
