use Rattle.std.proofs.Common.{◌≡◌, ◌+◌, take}
use Rattle.std.specs.Map.{keys_of}
use Rattle.hog_library.specs.Cells.{cost_of_items}
use Rattle.hog_library.proofs.list_natives.key_texts.Given as goal

abbrev pub invariant-loop-i : goal.invariant-loop-i
invariant-loop-i l = record {
  so_far : l.made.items ≡ keys_of (take l.i l.pairs);
  left : l.left + cost_of_items l.made.items ≡ l.units;
}
