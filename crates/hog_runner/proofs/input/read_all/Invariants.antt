use Rattle.std.proofs.Common.{◌+◌, ◌-◌, ◌≤◌, ◌<◌, [], vec_len}
use Rattle.hog_runner.specs.Takes.{ReadsInto}
use Rattle.hog_runner.specs.Commands.{most_bytes}
use Rattle.hog_runner.proofs.input.read_all.Given as goal

-- the text is what the source gave so far
abbrev pub invariant-loop-source : goal.invariant-loop-source
invariant-loop-source g l =
    ReadsInto (g.S.Source.left l.fn.source) (g.S.Source.left l.source) [] l.text.items × (vec_len l.text ≤ most_bytes + 1) × (0 < vec_len l.chunk) × (g.S.Source.faults l.fn.source ≤ g.S.Source.faults l.source)

abbrev pub decreases-loop-source : goal.decreases-loop-source
decreases-loop-source g l = most_bytes + 1 - vec_len l.text
