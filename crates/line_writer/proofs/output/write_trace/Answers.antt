use Rattle.std.proofs.Common.{ℕ, List, arith, subst}
use Rattle.line_writer.specs.Added.{AddsBytes, AddsPrefix}
use Rattle.hog_json.specs.Lines.{ended, trace_line}
use Rattle.line_writer.proofs.AddedLemmas.{AddsBytes-item, AddsPrefix-item, AddsPrefix-items, AddsPrefix-all}
use Rattle.line_writer.proofs.output.write_trace.Goals as goal

pub loop-item-preserved : goal.loop-item-preserved
loop-item-preserved g c =
    let line = subst (λ (text : List ℕ). AddsBytes (g.W.Sink.taken c.loop-item.sink) (g.W.Sink.taken c.write_line.new.sink) (ended text)) c.in_ok-line.ensures c.in_ok-write_line.ensures.ok in
    (AddsBytes-item (λ item. ended (trace_line item)) c.args.items.now c.loop-item.item-index c.item-item.result c.loop-item-test.true c.item-item.is c.loop-item.invariant.0 line, omega arith)

pub returns-in_err-line-clause-prefix : goal.returns-in_err-line-clause-prefix
returns-in_err-line-clause-prefix g c =
    AddsPrefix-items (λ item. ended (trace_line item)) c.args.items.now c.loop-item.item-index (AddsPrefix-all c.loop-item.invariant.0)

pub returns-in_err-write_line-clause-prefix : goal.returns-in_err-write_line-clause-prefix
returns-in_err-write_line-clause-prefix g c =
    let line = subst (λ (text : List ℕ). AddsPrefix (g.W.Sink.taken c.loop-item.sink) (g.W.Sink.taken c.write_line.new.sink) (ended text)) c.in_ok-line.ensures c.in_err-write_line.ensures.prefix in
    AddsPrefix-item (λ item. ended (trace_line item)) c.args.items.now c.loop-item.item-index c.item-item.result c.loop-item-test.true c.item-item.is c.loop-item.invariant.0 line

pub returns-clause-prefix : goal.returns-clause-prefix
returns-clause-prefix g c =
    AddsPrefix-items (λ item. ended (trace_line item)) c.args.items.now c.loop-item.item-index (AddsPrefix-all c.loop-item.invariant.0)
