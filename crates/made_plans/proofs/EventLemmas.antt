-- The events of a made plan are events.
use Rattle.std.proofs.Common.{◌≡◌, ℕ, zero, suc, ◌+◌, ◌*◌, ◌%◌, ◌<◌, ◌≤◌, List, [], ◌∷◌, ◌++◌, length, length-append, Bool, true, false, cond, Some, decimal, All, codes, inl, arith, refl, sym, ap}
use Rattle.std.specs.Prelude.{option_map}
use Rattle.std.specs.Int.{byte_at, bytes_high_first, to_be_bytes, w128}
use Rattle.std.proofs.lemmas.Bool.Decides.{nat_tests}
use Rattle.std.proofs.lemmas.Fmt.{length-decimal-le}
use Rattle.std.proofs.lemmas.List.Elements.{All-cons, All-nil}
use Rattle.json.specs.Print.{escape, escape_byte}
use Rattle.serde_json.specs.Data.{string, unsigned, member, no_members}
use Rattle.serde_json.specs.Written.{members_text}
use Rattle.uuid.specs.Text.{hyphenated_text, lower}
use Rattle.uuid.proofs.RoundTrips.{parses_hyphenated}
use Rattle.uuid.proofs.TextLemmas.{by_index_length}
use Rattle.hog_json.specs.Nulled.{is_whole}
use Rattle.event_plans.specs.Event.{size_of, uuid_of}
use Rattle.made_plans.specs.Made.{event_data, made_event, made_uuid}

byte_small : (i n : ℕ) → byte_at i n < 256
byte_small zero n = omega arith
byte_small (suc i) n = omega arith

bytes_small : (k n : ℕ) → All (λ b. b < 256) (bytes_high_first k n)
bytes_small zero n = All-nil (λ b. b < 256)
bytes_small (suc k) n = All-cons (λ b. b < 256) (byte_at k n) (bytes_high_first k n) (byte_small k n) (bytes_small k n)

-- the uuid of a number reads as itself
pub uuid_reads : (i : ℕ) → uuid_of (made_uuid i) ≡ Some (made_uuid i)
unfolding made_uuid uuid_of
uuid_reads i = ap (option_map (hyphenated_text lower)) (sym (parses_hyphenated lower (to_be_bytes w128 i) (inl refl) refl (bytes_small 16 i)))

uuid_length : (i : ℕ) → length (made_uuid i) ≡ 36
unfolding made_uuid
uuid_length i = by_index_length 36 _

escapes : (short low : Bool) (letter high digit plain : ℕ)
    → length (cond short (92 ∷ letter ∷ []) (cond low (92 ∷ 117 ∷ 48 ∷ 48 ∷ high ∷ digit ∷ []) (plain ∷ []))) ≤ 6
escapes true low letter high digit plain = omega arith
escapes false true letter high digit plain = omega arith
escapes false false letter high digit plain = omega arith

escape_byte_length : (x : ℕ) → length (escape_byte x) ≤ 6
unfolding escape_byte
escape_byte_length x = escapes _ _ _ _ _ _

escape_length : (s : List ℕ) → length (escape s) ≤ 6 * length s
escape_length [] = omega arith
escape_length (x ∷ s) = omega (arith, length-append (escape_byte x) (escape s), escape_byte_length x, escape_length s)

whole : (m : ℕ) → m < 100 → is_whole (unsigned m) ≡ true
whole m small = grind (arith, nat_tests)

-- an event is short
pub data_short : (uuid : List ℕ) (m : ℕ) → length uuid ≡ 36 → m < 100 → size_of (event_data uuid m) ≤ 32768
unfolding escape_byte
data_short uuid m is small =
    let digits = length-decimal-le 2 m (omega arith) (omega (arith, small)) (omega (arith, small)) in
    let text = escape_length uuid in
    let last = members_text true (member (codes "uuid") (string uuid) no_members) in
    rw (whole m small) (omega (
      arith,
      digits,
      text,
      is,
      length-append (decimal m ++ 125 ∷ []) last,
      length-append (decimal m) (125 ∷ []),
      length-append (escape uuid ++ 34 ∷ []) (125 ∷ []),
      length-append (escape uuid) (34 ∷ []),
    ))

pub event_short : (n i : ℕ) → size_of (made_event n i) ≤ 32768
event_short n i = data_short (made_uuid i) ((n + i) % 100) (uuid_length i) (omega arith)
