use Rattle.std.proofs.Common.{◌≡◌, take}
use Rattle.hog_tree.specs.View.{words_of}
use Rattle.hog_captures.specs.Frames.{inner_frame}
use Rattle.hog_captures.proofs.frame.Frame.inner.Given as goal

abbrev pub invariant-loop-param : goal.invariant-loop-param
invariant-loop-param l = l.frame ≡ inner_frame (words_of (take l.param-index l.param-items)) l.fn.captured
