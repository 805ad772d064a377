use Rattle.std.proofs.Common.{arith, refl}
use Rattle.line_writer.proofs.AddedLemmas.{AddsBytes-more, AddsPrefix-front}
use Rattle.line_writer.proofs.output.write_whole.Goals as goal

pub loop-at-preserved : goal.loop-at-preserved
loop-at-preserved g c =
    (omega (arith, c.in_ok-at.ensures.within), AddsBytes-more c.loop-at.at c.in_ok-at.field-0 c.args.piece.now c.loop-at.invariant.1 c.in_ok-at.ensures.bytes, omega arith)

pub returns-in_err-at-clause-prefix : goal.returns-in_err-at-clause-prefix
returns-in_err-at-clause-prefix g c =
    AddsPrefix-front c.loop-at.at c.args.piece.now c.loop-at.invariant.1 c.in_err-at.ensures.unwritten

pub returns-clause-prefix : goal.returns-clause-prefix
returns-clause-prefix g c =
    AddsPrefix-front c.loop-at.at c.args.piece.now c.loop-at.invariant.1 refl
