use Rattle.std.proofs.Common.{◌≡◌, ◌≤◌, length, take, string_bytes}
use Rattle.std.specs.Prelude.{codes}
use Rattle.std.specs.List.{join_by}
use Rattle.hog_json.specs.Texts.{shown}
use Rattle.hog_library.proofs.call.printed.Given as goal

abbrev pub invariant-loop-i : goal.invariant-loop-i
invariant-loop-i l = record {
  so_far : string_bytes l.made ≡ join_by (shown l.heap) (codes " ") (take l.i l.args);
  fits : length (string_bytes l.made) ≤ l.units;
}
