-- The events and the functions of a made plan are short.
use Rattle.std.proofs.Common.{◌≡◌, ℕ, zero, suc, ◌+◌, ◌*◌, ◌%◌, ◌<◌, ◌≤◌, List, [], ◌∷◌, ◌++◌, length, length-append, map, Bool, true, false, cond, decimal, codes, All, arith}
use Rattle.std.specs.List.{range_with_len}
use Rattle.std.proofs.lemmas.Bool.Decides.{nat_tests}
use Rattle.std.proofs.lemmas.Fmt.{length-decimal-le}
use Rattle.std.proofs.lemmas.List.Elements.{All-nil, All-cons, All-map}
use Rattle.json.specs.Print.{escape, escape_byte}
use Rattle.serde_json.specs.Data.{string, unsigned, member, no_members}
use Rattle.serde_json.specs.Written.{members_text}
use Rattle.uuid.proofs.TextLemmas.{by_index_length}
use Rattle.hog_json.specs.Nulled.{is_whole}
use Rattle.event_plans.specs.Event.{size_of}
use Rattle.made_plans.specs.Made.{echo, event_data, high, made_event, made_events, made_functions, made_uuid, sum}
use Rattle.made_jobs.proofs.Planned.{IsShortEvent, IsShortFunction}

uuid_length : (i : ℕ) → length (made_uuid i) ≡ 36
unfolding made_uuid
uuid_length i = by_index_length 36 _

escapes : (short low : Bool) (letter high digit plain : ℕ)
    → length (cond short (92 ∷ letter ∷ []) (cond low (92 ∷ 117 ∷ 48 ∷ 48 ∷ high ∷ digit ∷ []) (plain ∷ []))) ≤ 6
escapes true low letter high digit plain = omega arith
escapes false true letter high digit plain = omega arith
escapes false false letter high digit plain = omega arith

escape_byte_length : (x : ℕ) → length (escape_byte x) ≤ 6
unfolding escape_byte
escape_byte_length x = escapes _ _ _ _ _ _

escape_length : (s : List ℕ) → length (escape s) ≤ 6 * length s
escape_length [] = omega arith
escape_length (x ∷ s) = omega (arith, length-append (escape_byte x) (escape s), escape_byte_length x, escape_length s)

whole : (m : ℕ) → m < 100 → is_whole (unsigned m) ≡ true
whole m small = grind (arith, nat_tests)

data_short : (uuid : List ℕ) (m : ℕ) → length uuid ≡ 36 → m < 100 → size_of (event_data uuid m) ≤ 1000
unfolding escape_byte
data_short uuid m is small =
    let digits = length-decimal-le 2 m (omega arith) (omega (arith, small)) (omega (arith, small)) in
    let text = escape_length uuid in
    let last = members_text true (member (codes "uuid") (string uuid) no_members) in
    rw (whole m small) (omega (
      arith,
      digits,
      text,
      is,
      length-append (decimal m ++ 125 ∷ []) last,
      length-append (decimal m) (125 ∷ []),
      length-append (escape uuid ++ 34 ∷ []) (125 ∷ []),
      length-append (escape uuid) (34 ∷ []),
    ))

event_short : (n i : ℕ) → IsShortEvent (made_event n i)
event_short n i = data_short (made_uuid i) ((n + i) % 100) (uuid_length i) (omega arith)

pub events_short : (n : ℕ) → All IsShortEvent (made_events n)
unfolding made_events
events_short n = All-map IsShortEvent (made_event n) (range_with_len 0 (n + 1000)) (λ k d below. event_short n _)

pub functions_short : All IsShortFunction made_functions
functions_short =
    All-cons IsShortFunction echo (high ∷ sum ∷ []) (record { source = omega arith; inputs = omega arith; bodies = omega arith })
    (All-cons IsShortFunction high (sum ∷ []) (record { source = omega arith; inputs = omega arith; bodies = omega arith })
    (All-cons IsShortFunction sum [] (record { source = omega arith; inputs = omega arith; bodies = omega arith }) (All-nil IsShortFunction)))
