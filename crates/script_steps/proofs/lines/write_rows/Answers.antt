use Rattle.std.proofs.Common.{◌≡◌, Some, sym, arith}
use Rattle.std.specs.Prelude.{slice_get}
use Rattle.std.proofs.lemmas.Option.{slice_get_within, get_or_from_slice_get}
use Rattle.cyclotron_jobs.specs.declared.row.Row.{Row}
use Rattle.line_writer.proofs.AddedLemmas.{AddsBytes-item, AddsPrefix-item, AddsPrefix-items, AddsPrefix-all}
use Rattle.script_steps.specs.Lines.{row_lines}
use Rattle.script_steps.proofs.lines.write_rows.Goals as goal

pub returns-in_err-write_row-clause-prefix : goal.returns-in_err-write_row-clause-prefix
returns-in_err-write_row-clause-prefix g c =
    let rows = c.args.queue.now.rows in
    let job = c.loop-row.job in
    let row : Row = c.in-Some.row.now in
    let there : slice_get rows job ≡ Some row = sym c.in-Some.ensures.row in
    AddsPrefix-item row_lines rows job row (slice_get_within rows job row there) (sym (get_or_from_slice_get rows job row row there)) c.loop-row.invariant.added c.in_err-write_row.ensures.prefix

pub loop-row-preserved : goal.loop-row-preserved
loop-row-preserved g c =
    let rows = c.args.queue.now.rows in
    let job = c.loop-row.job in
    let row : Row = c.in-Some.row.now in
    let there : slice_get rows job ≡ Some row = sym c.in-Some.ensures.row in
    let within = slice_get_within rows job row there in
    record {
      within = omega (arith, within);
      added = AddsBytes-item row_lines rows job row within (sym (get_or_from_slice_get rows job row row there)) c.loop-row.invariant.added c.in_ok-write_row.ensures.ok;
      count = omega (arith, c.in_ok-write_row.ensures.count, c.loop-row.invariant.count);
    }

pub returns-clause-prefix : goal.returns-clause-prefix
returns-clause-prefix g c = AddsPrefix-items row_lines c.args.queue.now.rows c.loop-row.job (AddsPrefix-all c.loop-row.invariant.added)
