use denote.Shadow.{shadow}
use denote.Text.{Utf8}
use Rattle.std.proofs.Common.{◌≡◌, ◌≤◌, ◌++◌, length, string_bytes}
use Rattle.std.specs.List.{join_by}
use Rattle.hog_library.specs.Texts.{pieces}
use Rattle.hog_library.proofs.texts.replaced.Given as goal

abbrev pub invariant-loop-piece : goal.invariant-loop-piece
invariant-loop-piece l = record {
  so_far : join_by (λ x. x) l.to (pieces l.from l.text) ≡ string_bytes l.made ++ join_by (λ x. x) l.to (pieces l.from l.rest);
  fits : length (string_bytes l.made) ≤ l.units;
  text : shadow (Utf8 l.rest);
}

abbrev pub decreases-loop-piece : goal.decreases-loop-piece
decreases-loop-piece l = length l.rest
