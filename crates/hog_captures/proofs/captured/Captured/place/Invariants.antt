use Rattle.std.proofs.Common.{◌≡◌, take, None}
use Rattle.hog_captures.specs.Frames.{find_up}
use Rattle.hog_captures.specs.View.{words_at}
use Rattle.hog_captures.proofs.captured.Captured.place.Given as goal

abbrev pub invariant-loop-i : goal.invariant-loop-i
invariant-loop-i l = find_up (words_at (take l.i l.name-items)) l.word ≡ None
