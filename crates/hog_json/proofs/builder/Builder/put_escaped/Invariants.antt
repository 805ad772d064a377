use Rattle.std.proofs.Common.{◌≡◌, List, ℕ, ◌++◌, flat_map}
use Rattle.std.specs.Str.Iter.{chars_rest}
use Rattle.hog_json.specs.Texts.{shown_byte}
use Rattle.hog_json.specs.Building.{added}
use Rattle.hog_json.proofs.builder.Builder.put_escaped.Given as goal

abbrev pub invariant-loop-ch : goal.invariant-loop-ch
invariant-loop-ch l = (done : List ℕ) × (l.text ≡ done ++ chars_rest l.ch-iterator) × (l.self ≡ added (flat_map shown_byte done) l.fn.self)
