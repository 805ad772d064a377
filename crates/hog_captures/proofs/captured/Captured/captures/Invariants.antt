use Rattle.std.proofs.Common.{◌≡◌, take}
use Rattle.hog_captures.specs.Frames.{captures_of}
use Rattle.hog_captures.specs.View.{words_at}
use Rattle.hog_captures.proofs.captured.Captured.captures.Given as goal

abbrev pub invariant-loop-word : goal.invariant-loop-word
invariant-loop-word l = l.list.items ≡ captures_of l.frame (words_at (take l.word-index l.word-items))
