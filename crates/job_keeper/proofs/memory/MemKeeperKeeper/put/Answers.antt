use Rattle.std.proofs.Common.{◌≡◌, ℕ, ◌++◌, ◌∷◌, [], List, set, ap, ◌∙◌, subst}
use Rattle.cyclotron_jobs.specs.declared.row.Row.{Row}
use Rattle.job_keeper.specs.Held.{put_at}
use Rattle.job_keeper.specs.Memory.{MemoryOf, row_of, HasNone, IsFirstOf}
use Rattle.job_keeper.proofs.Rows.{row_of-set, row_of-push}
use Rattle.job_keeper.proofs.memory.MemKeeperKeeper.put.Goals as goal

-- what is held is the same inside
same_held : {a b : MemoryOf} → a ≡ b → (row : Row) (job : ℕ) → put_at (row_of a.rows) row job ≡ put_at (row_of b.rows) row job
same_held same row job = ap (λ (k : MemoryOf). put_at (row_of k.rows) row job) same

pub returns-in-Some-clause-ok : goal.returns-in-Some-clause-ok
returns-in-Some-clause-ok c = λ _ job.
    let rows = c.self.inside.rows.items in
    let at = c.in-Some.at in
    let row = c.args.row.now in
    let first : IsFirstOf rows row.job at = subst (λ (rs : List Row). IsFirstOf rs row.job at) c.as_slice.ensures.value c.in-Some.ensures in
    ap (λ (r : Row). row_of (set rows at r) job) c.in-Ok.ensures ∙ row_of-set rows at row first.within (first.here row) (λ k lt. first.first k row lt) job ∙ same_held c.self.view_is row job

pub returns-else-is_err-clause-ok : goal.returns-else-is_err-clause-ok
returns-else-is_err-clause-ok c = λ _ job.
    let rows = c.self.inside.rows.items in
    let row = c.args.row.now in
    let none : HasNone rows row.job = subst (λ (rs : List Row). HasNone rs row.job) c.as_slice.ensures.value c.in-None.ensures in
    ap (λ (rs : List Row). row_of rs job) (c.push_reserved.ensures.items ∙ ap (λ (rs : List Row). rs ++ c.in-Ok.copy ∷ []) c.reserve.ensures.items) ∙ (ap (λ (r : Row). row_of (rows ++ r ∷ []) job) c.in-Ok.ensures ∙ row_of-push rows row (λ k lt. none k row lt) job) ∙ same_held c.self.view_is row job
