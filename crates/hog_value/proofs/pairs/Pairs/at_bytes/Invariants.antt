use Rattle.std.proofs.Common.{◌≡◌, take, None}
use Rattle.std.specs.Str.{bytes_eq}
use Rattle.std.specs.Map.{lookup}
use Rattle.hog_value.proofs.pairs.Pairs.at_bytes.Given as goal

abbrev pub invariant-loop-i : goal.invariant-loop-i
invariant-loop-i l = lookup (bytes_eq l.key) (take l.i l.self-inside.map.entries) ≡ None
