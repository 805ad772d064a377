use denote.Shadow.{shadow}
use denote.Text.{Utf8}
use Rattle.std.proofs.Common.{◌≡◌, ◌+◌, ◌++◌, length}
use Rattle.hog_library.specs.Texts.{pieces}
use Rattle.hog_library.specs.Cells.{cost_of_items}
use Rattle.hog_library.proofs.texts.pieces.Given as goal

abbrev pub invariant-loop-piece : goal.invariant-loop-piece
invariant-loop-piece l = record {
  so_far : pieces l.separator l.text ≡ l.made.items ++ pieces l.separator l.rest;
  left : l.left + cost_of_items l.made.items ≡ l.units;
  text : shadow (Utf8 l.rest);
}

abbrev pub decreases-loop-piece : goal.decreases-loop-piece
decreases-loop-piece l = length l.rest
