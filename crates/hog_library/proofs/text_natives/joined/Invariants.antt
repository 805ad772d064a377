use Rattle.std.proofs.Common.{◌≡◌, ◌≤◌, length, take, string_bytes}
use Rattle.std.specs.Prelude.{flat_map}
use Rattle.hog_library.specs.Natives.{concat_text}
use Rattle.hog_library.proofs.text_natives.joined.Given as goal

abbrev pub invariant-loop-v : goal.invariant-loop-v
invariant-loop-v l = record {
  so_far : string_bytes l.made ≡ flat_map (concat_text l.heap) (take l.v-index l.args);
  fits : length (string_bytes l.made) ≤ l.units;
}
