use Rattle.std.proofs.Common.{◌≡◌, drop}
use Rattle.hog_tree.specs.View.{words_of}
use Rattle.hog_captures.specs.Frees.{is_among}
use Rattle.hog_captures.proofs.takes.is_one.Given as goal

abbrev pub invariant-loop-name : goal.invariant-loop-name
invariant-loop-name l = is_among l.word (words_of (drop l.name-index l.name-items)) ≡ is_among l.word (words_of l.name-items)
