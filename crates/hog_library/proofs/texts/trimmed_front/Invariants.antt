use Rattle.std.proofs.Common.{◌≡◌, ◌+◌, ◌-◌, length, drop}
use Rattle.std.specs.List.{prefix_len}
use Rattle.std.specs.Str.{IsCharBoundary}
use Rattle.hog_library.specs.Texts.{is_blank}
use Rattle.hog_library.proofs.texts.trimmed_front.Given as goal

abbrev pub invariant-loop-start : goal.invariant-loop-start
invariant-loop-start l = record {
  counted : prefix_len is_blank l.bytes ≡ l.start + prefix_len is_blank (drop l.start l.bytes);
  boundary : IsCharBoundary l.bytes l.start;
}

abbrev pub decreases-loop-start : goal.decreases-loop-start
decreases-loop-start l = length l.bytes - l.start
