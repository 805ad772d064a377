-- Ids of leases as numbers of 128 bits, and their texts.
use Rattle.std.specs.Prelude.{ℕ, ◌≤◌, ◌+◌, ◌*◌, ◌/◌, ◌^◌, List, Option, option_map, IfSome}
use Rattle.std.specs.Int.{from_be_bytes, to_be_bytes, w128}
use Rattle.uuid.specs.Text.{parsed, hyphenated_text, lower}
use Rattle.lock_ids.specs.declared.lock.LockId.{LockId}

-- the 128 bits of an id: the job above, the draw below
abbrev pub bits_of : LockId → ℕ
bits_of id = id.job * 2 ^ 64 + id.draw

-- the sixteen bytes of a number, the highest first
unfoldable pub bytes_of_bits : ℕ → List ℕ
bytes_of_bits n = to_be_bytes w128 n

-- the number of sixteen bytes, the highest first
unfoldable pub bits_of_bytes : List ℕ → ℕ
bits_of_bytes bytes = from_be_bytes w128 bytes

-- the text of an id, with hyphens and in lower case
abbrev pub id_text : LockId → List ℕ
id_text id = hyphenated_text lower (bytes_of_bits (bits_of id))

-- the 128 bits that a text is, where `uuid` reads it
abbrev pub read_bits : List ℕ → Option ℕ
read_bits text = option_map bits_of_bytes (parsed text)

-- no id stands there: `uuid` reads nothing, or 128 bits whose upper half is 2^32 or more
abbrev pub IsNoId : List ℕ → Type 0
IsNoId text = IfSome (read_bits text) (λ n. 2 ^ 32 ≤ n / 2 ^ 64)
