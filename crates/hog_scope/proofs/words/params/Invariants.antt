use Rattle.std.proofs.Common.{take}
use Rattle.hog_tree.specs.View.{words_of}
use Rattle.hog_scope.specs.Words.{all_declared}
use Rattle.hog_scope.specs.Events.{AddsEvents}
use Rattle.hog_scope.proofs.words.params.Given as goal

abbrev pub invariant-loop-name : goal.invariant-loop-name
invariant-loop-name l = AddsEvents l.fn.out l.out (all_declared (words_of (take l.name-index l.name-items))) (take l.name-index l.name-items)
