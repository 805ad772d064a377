use Rattle.std.proofs.lemmas.Result.{on_ok_weaker}
use Rattle.line_writer.proofs.AddedLemmas.{AddsBytes-then, AddsPrefix-then}
use Rattle.line_writer.proofs.output.write_run.Goals as goal

pub returns-clause-ok : goal.returns-clause-ok
returns-clause-ok g c =
    let traced = rw c.items.ensures at c.in_ok-write_trace.ensures.ok in
    on_ok_weaker c.write_rest.result (AddsBytes-then traced) c.write_rest.ensures.ok

pub returns-clause-prefix : goal.returns-clause-prefix
returns-clause-prefix g c =
    let traced = rw c.items.ensures at c.in_ok-write_trace.ensures.ok in
    AddsPrefix-then traced c.write_rest.ensures.prefix
