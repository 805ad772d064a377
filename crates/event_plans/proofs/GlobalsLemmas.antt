-- How long the text of globals is.
use Rattle.std.proofs.Common.{◌≡◌, ◌≤◌, ◌+◌, [], ◌∷◌, length, true, arith}
use Rattle.std.specs.Prelude.{codes}
use Rattle.std.proofs.lemmas.List.{length-append}
use Rattle.json.specs.Print.{escape_byte}
use Rattle.serde_json.specs.Data.{Data, no_members, member, depth}
use Rattle.serde_json.specs.Written.{members_text}
use Rattle.hog_json.specs.Nulled.{count_nulled, globals_data, nulled, nulled_text}
use Rattle.event_plans.specs.Event.{size_of}

pub globals_length : (event inputs : Data) → size_of (globals_data event inputs) ≡ size_of event + size_of inputs + 20
unfolding globals_data escape_byte
globals_length event inputs =
    let behind = length-append (nulled_text inputs) (125 ∷ []) in
    let before = length-append (nulled_text event) (members_text true (member (codes "inputs") (nulled inputs) no_members)) in
    omega (arith, behind, before)

pub globals_count : (event inputs : Data) → count_nulled (globals_data event inputs) ≡ count_nulled event + count_nulled inputs
unfolding globals_data
globals_count event inputs = omega arith

pub globals_depth : (event inputs : Data) → depth event ≤ 126 → depth inputs ≤ 126 → depth (globals_data event inputs) ≤ 127
unfolding globals_data
globals_depth event inputs e i = omega (arith, e, i)

pub ruleset globals = (globals_length, globals_count, globals_depth)
