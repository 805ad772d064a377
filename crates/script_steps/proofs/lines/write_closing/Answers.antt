use Rattle.std.proofs.Common.{◌∙◌, ap, List, subst}
use Rattle.hog_json.specs.Lines.{ended}
use Rattle.cyclotron_jobs.specs.declared.entry.Entry.{Entry}
use Rattle.line_writer.specs.Added.{AddsBytes, AddsPrefix}
use Rattle.line_writer.proofs.AddedLemmas.{AddsBytes-then, AddsPrefix-then, AddsPrefix-all}
use Rattle.script_steps.specs.Lines.{counts_line}
use Rattle.script_steps.proofs.lines.write_closing.Goals as goal

pub returns-in_err-write_whole-clause-prefix : goal.returns-in_err-write_whole-clause-prefix
returns-in_err-write_whole-clause-prefix g c =
    let line = c.as_bytes.ensures.value ∙ c.in_ok-line.ensures ∙ ap (λ (h : List Entry). ended (counts_line h)) c.history.ensures.value in
    AddsPrefix-then c.in_ok-write_rows.ensures.ok
    (subst (AddsPrefix (g.W.Sink.taken c.write_rows.new.sink) (g.W.Sink.taken c.write_whole.new.sink)) line c.in_err-write_whole.ensures.prefix)

pub returns-clause-ok : goal.returns-clause-ok
returns-clause-ok g c =
    let line = c.as_bytes.ensures.value ∙ c.in_ok-line.ensures ∙ ap (λ (h : List Entry). ended (counts_line h)) c.history.ensures.value in
    AddsBytes-then c.in_ok-write_rows.ensures.ok
    (subst (AddsBytes (g.W.Sink.taken c.write_rows.new.sink) (g.W.Sink.taken c.write_whole.new.sink)) line c.in_ok-write_whole.ensures.ok)

pub returns-clause-prefix : goal.returns-clause-prefix
returns-clause-prefix g c =
    let line = c.as_bytes.ensures.value ∙ c.in_ok-line.ensures ∙ ap (λ (h : List Entry). ended (counts_line h)) c.history.ensures.value in
    AddsPrefix-then c.in_ok-write_rows.ensures.ok
    (AddsPrefix-all (subst (AddsBytes (g.W.Sink.taken c.write_rows.new.sink) (g.W.Sink.taken c.write_whole.new.sink)) line c.in_ok-write_whole.ensures.ok))
