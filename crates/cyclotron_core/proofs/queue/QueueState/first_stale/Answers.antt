use Rattle.std.proofs.Common.{◌≡◌, length, Some, slice_get, refl, sym, ◌∙◌, arith}
use Rattle.std.proofs.lemmas.Bool.{false≢true}
use Rattle.std.proofs.lemmas.Option.{slice_get_read, slice_get_within}
use Rattle.cyclotron_core.proofs.Found.{HasState-stale}
use Rattle.cyclotron_core.proofs.Walks.{first-row, IsFirstStale-first, NoneStale-first, NoneStale-none}
use Rattle.cyclotron_core.proofs.queue.QueueState.first_stale.Goals as goal

pub index-requires : goal.index-requires
index-requires g c =
    let row = first-row c.self.invariant.sound.kept c.self.inside.lists c.self.invariant.listed c.args.now c.in_ok-job.job (sym c.in_ok-job.ensures) in
    omega (arith, c.self.inside.rows.ok.0, slice_get_within c.self.inside.rows.items c.in_ok-job.job row.0 row.1.0)

pub returns-in_err-job-clause-first : goal.returns-in_err-job-clause-first
returns-in_err-job-clause-first g c =
    rw c.from_residual.ensures (rw (← c.self.view_is) (NoneStale-none c.self.invariant.sound.kept c.self.inside.lists c.self.invariant.listed c.args.now (sym c.in_err-job.ensures)))

pub returns-then-is_silent-clause-first : goal.returns-then-is_silent-clause-first
returns-then-is_silent-clause-first g c =
    let rows = c.self.inside.rows.items in
    let kept = c.self.invariant.sound.kept in
    let row = first-row kept c.self.inside.lists c.self.invariant.listed c.args.now c.in_ok-job.job (sym c.in_ok-job.ensures) in
    let here : slice_get rows c.in_ok-job.job ≡ Some c.index.result.now = slice_get_read rows (length rows) c.in_ok-job.job c.index.result.now refl (slice_get_within rows c.in_ok-job.job row.0 row.1.0) c.index.ensures in
    rw (← c.self.view_is) (IsFirstStale-first kept c.self.inside.lists c.self.invariant.listed c.args.now c.in_ok-job.job c.index.result.now (sym c.in_ok-job.ensures) here (c.is_silent.ensures.0 c.if-is_silent.true))

pub returns-then-is_silent-clause-row : goal.returns-then-is_silent-clause-row
returns-then-is_silent-clause-row g c =
    let rows = c.self.inside.rows.items in
    let kept = c.self.invariant.sound.kept in
    let row = first-row kept c.self.inside.lists c.self.invariant.listed c.args.now c.in_ok-job.job (sym c.in_ok-job.ensures) in
    let here : slice_get rows c.in_ok-job.job ≡ Some c.index.result.now = slice_get_read rows (length rows) c.in_ok-job.job c.index.result.now refl (slice_get_within rows c.in_ok-job.job row.0 row.1.0) c.index.ensures in
    rw (← c.self.view_is) (HasState-stale kept c.args.now (Some c.in_ok-job.job)
    (IsFirstStale-first kept c.self.inside.lists c.self.invariant.listed c.args.now c.in_ok-job.job c.index.result.now (sym c.in_ok-job.ensures) here (c.is_silent.ensures.0 c.if-is_silent.true)))

pub returns-else-is_silent-clause-first : goal.returns-else-is_silent-clause-first
returns-else-is_silent-clause-first g c =
    let rows = c.self.inside.rows.items in
    let kept = c.self.invariant.sound.kept in
    let row = first-row kept c.self.inside.lists c.self.invariant.listed c.args.now c.in_ok-job.job (sym c.in_ok-job.ensures) in
    let here : slice_get rows c.in_ok-job.job ≡ Some c.index.result.now = slice_get_read rows (length rows) c.in_ok-job.job c.index.result.now refl (slice_get_within rows c.in_ok-job.job row.0 row.1.0) c.index.ensures in
    rw (← c.self.view_is) (NoneStale-first kept c.self.inside.lists c.self.invariant.listed c.args.now c.in_ok-job.job c.index.result.now (sym c.in_ok-job.ensures) here (λ silent. false≢true (sym c.if-is_silent.false ∙ c.is_silent.ensures.1 silent)))
