-- A row that is put.
use Rattle.std.proofs.Common.{◌≡◌, ◌≢◌, ℕ, zero, suc, ◌<◌, ◌==◌, true, false, cond, List, [], ◌∷◌, ◌++◌, length, set, get_or, Some, refl, ap, ◌∙◌, arith, inl, inr}
use Rattle.std.proofs.lemmas.Bool.Decides.{nat_tests}
use Rattle.std.proofs.lemmas.Bool.{cases_eq}
use Rattle.cyclotron_jobs.specs.declared.row.Row.{Row}
use Rattle.job_keeper.specs.Held.{put_at}
use Rattle.job_keeper.specs.Memory.{row_of}

pub row_of-set : (rows : List Row) (at : ℕ) (row : Row) → at < length rows → (get_or rows at row).job ≡ row.job → ((k : ℕ) → k < at → (get_or rows k row).job ≢ row.job)
    → (job : ℕ) → row_of (set rows at row) job ≡ put_at (row_of rows) row job
row_of-set [] at row lt same first job = absurd (omega arith)
row_of-set (x ∷ rows) zero row lt same first job =
    elim (cases_eq job row.job) [
      | inl here ↦ (
          let p : (row.job == job) ≡ true = grind (arith, nat_tests) in
          let q : (job == row.job) ≡ true = grind (arith, nat_tests) in
          rw (p, q) refl)
      | inr away ↦ (
          let p : (row.job == job) ≡ false = grind (arith, nat_tests) in
          let q : (job == row.job) ≡ false = grind (arith, nat_tests) in
          let r : (x.job == job) ≡ false = grind (arith, nat_tests) in
          rw (p, q, r) refl)
    ]
row_of-set (x ∷ rows) (suc at) row lt same first job =
    let other : x.job ≢ row.job = first 0 (omega arith) in
    let rest : row_of (set rows at row) job ≡ put_at (row_of rows) row job = row_of-set rows at row (omega arith) same (λ k below. first (suc k) (omega arith)) job in
    elim (cases_eq job row.job) [
      | inl here ↦ (
          let q : (job == row.job) ≡ true = grind (arith, nat_tests) in
          let r : (x.job == job) ≡ false = grind (arith, nat_tests) in
          rw (r, q) (rest ∙ rw q refl))
      | inr away ↦ (
          let q : (job == row.job) ≡ false = grind (arith, nat_tests) in
          let rest' : row_of (set rows at row) job ≡ row_of rows job = rest ∙ rw q refl in
          ap (λ o. cond (x.job == job) (Some x) o) rest' ∙ rw q refl)
    ]

pub row_of-push : (rows : List Row) (row : Row) → ((k : ℕ) → k < length rows → (get_or rows k row).job ≢ row.job) → (job : ℕ) → row_of (rows ++ row ∷ []) job ≡ put_at (row_of rows) row job
row_of-push [] row none job =
    elim (cases_eq job row.job) [
      | inl here ↦ (
          let p : (row.job == job) ≡ true = grind (arith, nat_tests) in
          let q : (job == row.job) ≡ true = grind (arith, nat_tests) in
          rw (p, q) refl)
      | inr away ↦ (
          let p : (row.job == job) ≡ false = grind (arith, nat_tests) in
          let q : (job == row.job) ≡ false = grind (arith, nat_tests) in
          rw (p, q) refl)
    ]
row_of-push (x ∷ rows) row none job =
    let other : x.job ≢ row.job = none 0 (omega arith) in
    let rest : row_of (rows ++ row ∷ []) job ≡ put_at (row_of rows) row job = row_of-push rows row (λ k below. none (suc k) (omega arith)) job in
    elim (cases_eq job row.job) [
      | inl here ↦ (
          let q : (job == row.job) ≡ true = grind (arith, nat_tests) in
          let r : (x.job == job) ≡ false = grind (arith, nat_tests) in
          rw (r, q) (rest ∙ rw q refl))
      | inr away ↦ (
          let q : (job == row.job) ≡ false = grind (arith, nat_tests) in
          let rest' : row_of (rows ++ row ∷ []) job ≡ row_of rows job = rest ∙ rw q refl in
          ap (λ o. cond (x.job == job) (Some x) o) rest' ∙ rw q refl)
    ]
