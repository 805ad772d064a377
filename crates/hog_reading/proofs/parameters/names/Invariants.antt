use Rattle.std.proofs.Common.{◌-◌, false}
use Rattle.hog_tree.specs.View.{words_of}
use Rattle.hog_terms.specs.Marks.{after_close}
use Rattle.hog_reading.specs.Read.{listing, name}
use Rattle.hog_terms.specs.View.{left, IsPlaced}
use Rattle.hog_reading.proofs.ListLoops.{Lists}
use Rattle.hog_reading.proofs.parameters.names.Given as goal

abbrev pub invariant-items : goal.invariant-items
invariant-items l = record {
  same : Lists name false after_close (l.end - l.counter) (words_of l.list.items) 0 (left l.tokens l.begin) (listing name false after_close (left l.tokens l.at));
  placed : IsPlaced l.list.items l.tokens l.at l.begin;
}
