use Rattle.std.proofs.Common.{arith, refl}
use Rattle.line_writer.proofs.AddedLemmas.{AddsBytes-on, AddsPrefix-on, AddsPrefix-front}
use Rattle.line_writer.proofs.output.write_lines.Goals as goal

pub returns-in_err-write_whole-clause-prefix : goal.returns-in_err-write_whole-clause-prefix
returns-in_err-write_whole-clause-prefix g c =
    AddsPrefix-on c.loop-at.at c.line_end-end.result c.args.text.now (omega (arith, c.line_end-end.ensures.after)) c.loop-at.invariant.1 c.in_err-write_whole.ensures.prefix

pub loop-at-preserved : goal.loop-at-preserved
loop-at-preserved g c = (
  c.line_end-end.ensures.within,
  AddsBytes-on c.loop-at.at c.line_end-end.result c.args.text.now (omega (arith, c.line_end-end.ensures.after)) c.loop-at.invariant.1 c.in_ok-write_whole.ensures.ok,
  omega (arith, c.loop-at.invariant.2, c.in_ok-write_whole.ensures.count),
)

pub returns-clause-prefix : goal.returns-clause-prefix
returns-clause-prefix g c = AddsPrefix-front c.loop-at.at c.args.text.now c.loop-at.invariant.1 refl
