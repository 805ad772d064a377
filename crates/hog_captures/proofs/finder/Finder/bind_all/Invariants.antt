use Rattle.std.proofs.Common.{◌≡◌, take}
use Rattle.hog_tree.specs.View.{words_of}
use Rattle.hog_captures.specs.Finding.{bind_all}
use Rattle.hog_captures.proofs.finder.Finder.bind_all.Given as goal

abbrev pub invariant-loop-name : goal.invariant-loop-name
invariant-loop-name l = l.self ≡ bind_all (words_of (take l.name-index l.name-items)) l.fn.self
