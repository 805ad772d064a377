use Rattle.std.proofs.Common.{◌+◌, ◌-◌, arith, vec_len}
use Rattle.hog_runner.specs.Commands.{most_bytes}
use Rattle.hog_runner.proofs.TakesLemmas.{ReadsInto-then, ReadsInto-whole, ReadsInto-ended, ReadsInto-large, TakesAtMost-ReadsInto, TakesAtMost-then}
use Rattle.hog_runner.proofs.input.read_all.Goals as goal

pub returns-in_err-read_more-clause-bounded : goal.returns-in_err-read_more-clause-bounded
returns-in_err-read_more-clause-bounded g c =
    TakesAtMost-then (most_bytes + 1) (most_bytes + 1 - vec_len c.loop-source.text) c.loop-source.invariant.0 c.in_err-read_more.ensures.bounded (omega (arith, c.loop-source.text.ok.0))

pub returns-then-branch-eq0-clause-text : goal.returns-then-branch-eq0-clause-text
returns-then-branch-eq0-clause-text g c =
    ReadsInto-whole c.loop-source.invariant.0 c.in_ok-read_more.ensures.moves (c.in_ok-read_more.ensures.end c.if-branch-eq0.true)

pub returns-then-branch-eq0-clause-end : goal.returns-then-branch-eq0-clause-end
returns-then-branch-eq0-clause-end g c =
    ReadsInto-ended c.loop-source.invariant.0 (c.in_ok-read_more.ensures.end c.if-branch-eq0.true)

pub returns-then-branch-eq0-clause-bounded : goal.returns-then-branch-eq0-clause-bounded
returns-then-branch-eq0-clause-bounded g c =
    TakesAtMost-ReadsInto (most_bytes + 1) (ReadsInto-then c.loop-source.invariant.0 c.in_ok-read_more.ensures.moves) (omega (arith, c.in_ok-read_more.ensures.most, c.read_more.new.text.ok.0))

pub loop-source-preserved : goal.loop-source-preserved
loop-source-preserved g c =
    (ReadsInto-then c.loop-source.invariant.0 c.in_ok-read_more.ensures.moves, c.in_ok-read_more.ensures.most, omega arith, omega arith)

pub returns-clause-large : goal.returns-clause-large
returns-clause-large g c same =
    ReadsInto-large most_bytes c.loop-source.invariant.0 (omega (arith, c.loop-source.text.ok.0))

pub returns-clause-bounded : goal.returns-clause-bounded
returns-clause-bounded g c =
    TakesAtMost-ReadsInto (most_bytes + 1) c.loop-source.invariant.0 (omega (arith, c.loop-source.text.ok.0))
