-- The text of an id reads as that id.
use Rattle.std.proofs.Common.{◌≡◌, ℕ, zero, suc, mod-lt, ◌+◌, ◌*◌, ◌/◌, ◌%◌, ◌<◌, ◌≤◌, ◌^◌, List, All, length, Option, Some, None, inl, refl, sym, ap, ◌∙◌, subst, arith}
use Rattle.std.specs.Prelude.{option_map, IfSome}
use Rattle.std.specs.Int.{to_be_bytes, w128, byte_at, bytes_high_first}
use Rattle.std.proofs.lemmas.List.Elements.{All-cons}
use Rattle.std.proofs.lemmas.Option.{same_Some}
use Rattle.uuid.specs.Text.{parsed, parsed_hyphenated, hyphenated_text, lower}
use Rattle.uuid.proofs.RoundTrips.{parses_hyphenated_text}
use Rattle.uuid.proofs.TextLemmas.{by_index_length}
use Rattle.uuid.proofs.OrderLemmas.{from_be_bytes-to_be_bytes_16}
use Rattle.lock_ids.specs.declared.lock.LockId.{LockId}
use Rattle.lock_ids.specs.Lock.{bits_of, bytes_of_bits, bits_of_bytes, id_text, read_bits, IsNoId}

byte_at-lt : (k n : ℕ) → byte_at k n < 256
byte_at-lt zero n = let pos : 0 < 256 = omega arith in mod-lt n pos
byte_at-lt (suc k) n = let pos : 0 < 256 = omega arith in mod-lt (n / 256 ^ suc k) pos

bytes_are_small : (k n : ℕ) → All (λ b. b < 256) (bytes_high_first k n)
bytes_are_small zero n = λ i d h. absurd (omega arith)
bytes_are_small (suc k) n = All-cons (λ b. b < 256) (byte_at k n) (bytes_high_first k n) (byte_at-lt k n) (bytes_are_small k n)

text_reads_back : (n : ℕ) → n < 2 ^ 128 → read_bits (hyphenated_text lower (bytes_of_bits n)) ≡ Some n
unfolding bytes_of_bits bits_of_bytes
text_reads_back n fits =
    let bytes = to_be_bytes w128 n in
    let text = hyphenated_text lower bytes in
    let long : length text ≡ 36 = by_index_length 36 _ in
    let hyphens : parsed text ≡ parsed_hyphenated text = rw long refl in
    ap (option_map bits_of_bytes) (hyphens ∙ sym (parses_hyphenated_text lower bytes (inl refl) refl (bytes_are_small 16 n)))
    ∙ ap Some (from_be_bytes-to_be_bytes_16 n fits)

pub id_reads_back : (id : LockId) → id.job < 2 ^ 32 → id.draw < 2 ^ 64 → read_bits (id_text id) ≡ Some (bits_of id)
id_reads_back id job draw = text_reads_back (bits_of id) (omega arith)

-- the two halves of the bits that the text of an id has
pub halves_of_id : {text : List ℕ} {n : ℕ} (id : LockId) → read_bits text ≡ Some n → id.job < 2 ^ 32 → id.draw < 2 ^ 64 → text ≡ id_text id
    → (n / 2 ^ 64 ≡ id.job) × (n % 2 ^ 64 ≡ id.draw)
halves_of_id {n = n} id got job draw is =
    let same : n ≡ bits_of id = same_Some n (bits_of id) (sym got ∙ (ap read_bits is ∙ id_reads_back id job draw)) in
    (omega arith, omega arith)

-- what is read nowhere is no bits
pub bits_of_none : (o : Option (List ℕ)) (P : ℕ → Type 0) → ((x : List ℕ) → o ≡ Some x → ⊥) → IfSome (option_map bits_of_bytes o) P
bits_of_none None P none = tt
bits_of_none (Some x) P none = absurd (none x refl)

pub parsed-from_bits : (o : Option (List ℕ)) {n : ℕ} → option_map bits_of_bytes o ≡ Some n → (x : List ℕ) × (o ≡ Some x)
parsed-from_bits None is = absurd cc
parsed-from_bits (Some x) is = (x, refl)

-- bits whose upper half is no u32 are no id
pub IsNoId-from_halves : (text : List ℕ) {n : ℕ} → read_bits text ≡ Some n → (n / 2 ^ 64 < 2 ^ 32 → ⊥) → IsNoId text
IsNoId-from_halves text {n} got large = subst (λ (o : Option ℕ). IfSome o (λ n. 2 ^ 32 ≤ n / 2 ^ 64)) (sym got) (omega arith)

pub not_IsNoId : (text : List ℕ) {n : ℕ} → read_bits text ≡ Some n → n / 2 ^ 64 < 2 ^ 32 → IsNoId text → ⊥
not_IsNoId text {n} got small none = let large : 2 ^ 32 ≤ n / 2 ^ 64 = subst (λ (o : Option ℕ). IfSome o (λ n. 2 ^ 32 ≤ n / 2 ^ 64)) got none in omega arith

pub bits_from_halves : (n : ℕ) → n ≡ n / 2 ^ 64 * 2 ^ 64 + n % 2 ^ 64
bits_from_halves n = omega arith
