use Rattle.std.proofs.Common.{◌++◌, ◌∙◌, subst}
use Rattle.std.proofs.lemmas.Result.{on_ok_weaker}
use Rattle.hog_json.specs.Lines.{ended}
use Rattle.line_writer.specs.Added.{AddsBytes, AddsPrefix}
use Rattle.line_writer.specs.Lines.{output_of}
use Rattle.line_writer.proofs.AddedLemmas.{AddsBytes-then, AddsPrefix-then, AddsPrefix-more}
use Rattle.script_steps.specs.Lines.{job_line, poisoned_lines}
use Rattle.script_steps.proofs.lines.write_row.Goals as goal

pub returns-in_err-write_whole-clause-prefix : goal.returns-in_err-write_whole-clause-prefix
returns-in_err-write_whole-clause-prefix g c =
    let row = c.args.row.now in
    AddsPrefix-more (output_of row.shown ++ poisoned_lines row.state row.sweeps)
    (subst (AddsPrefix (g.W.Sink.taken c.args.sink.now) (g.W.Sink.taken c.write_whole.new.sink)) (c.as_bytes.ensures.value ∙ c.in_ok-line.ensures) c.in_err-write_whole.ensures.prefix)

pub returns-in_err-write_shown-clause-prefix : goal.returns-in_err-write_shown-clause-prefix
returns-in_err-write_shown-clause-prefix g c =
    let row = c.args.row.now in
    let line : AddsBytes (g.W.Sink.taken c.args.sink.now) (g.W.Sink.taken c.write_whole.new.sink) (ended (job_line row.job row.state row.queue)) =
    subst (AddsBytes (g.W.Sink.taken c.args.sink.now) (g.W.Sink.taken c.write_whole.new.sink)) (c.as_bytes.ensures.value ∙ c.in_ok-line.ensures) c.in_ok-write_whole.ensures.ok in
    AddsPrefix-then line (AddsPrefix-more (poisoned_lines row.state row.sweeps) c.in_err-write_shown.ensures.prefix)

pub returns-clause-ok : goal.returns-clause-ok
returns-clause-ok g c =
    let row = c.args.row.now in
    let line : AddsBytes (g.W.Sink.taken c.args.sink.now) (g.W.Sink.taken c.write_whole.new.sink) (ended (job_line row.job row.state row.queue)) =
    subst (AddsBytes (g.W.Sink.taken c.args.sink.now) (g.W.Sink.taken c.write_whole.new.sink)) (c.as_bytes.ensures.value ∙ c.in_ok-line.ensures) c.in_ok-write_whole.ensures.ok in
    on_ok_weaker c.write_poisoned.result
    (λ (rest : AddsBytes (g.W.Sink.taken c.write_shown.new.sink) (g.W.Sink.taken c.write_poisoned.new.sink) (poisoned_lines row.state row.sweeps)).
    AddsBytes-then line (AddsBytes-then {xs = output_of row.shown} {ys = poisoned_lines row.state row.sweeps} c.in_ok-write_shown.ensures.ok rest))
    c.write_poisoned.ensures.ok

pub returns-clause-prefix : goal.returns-clause-prefix
returns-clause-prefix g c =
    let row = c.args.row.now in
    let line : AddsBytes (g.W.Sink.taken c.args.sink.now) (g.W.Sink.taken c.write_whole.new.sink) (ended (job_line row.job row.state row.queue)) =
    subst (AddsBytes (g.W.Sink.taken c.args.sink.now) (g.W.Sink.taken c.write_whole.new.sink)) (c.as_bytes.ensures.value ∙ c.in_ok-line.ensures) c.in_ok-write_whole.ensures.ok in
    AddsPrefix-then line (AddsPrefix-then c.in_ok-write_shown.ensures.ok c.write_poisoned.ensures.prefix)
