use Rattle.std.proofs.Common.{◌≡◌, ◌<◌, ◌/◌, ◌%◌, ◌^◌, ◌*◌, ◌+◌, ℕ, List, Some, Ok, true≢false, refl, ap, ap₂, sym, ◌∙◌, arith, rules}
use Rattle.std.specs.Prelude.{option_map}
use Rattle.uuid.specs.Text.{parsed}
use Rattle.lock_ids.specs.Lock.{bits_of_bytes, read_bits}
use Rattle.lock_ids.proofs.Back.{halves_of_id, id_reads_back, bits_of_none, parsed-from_bits, IsNoId-from_halves, not_IsNoId, bits_from_halves}
use Rattle.lock_ids.proofs.lock.LockId.read.Goals as goal

-- where `uuid` reads nothing
reads_nothing : (c : goal.In_default-parse_str) → (x : List ℕ) → parsed c.args.text.now ≡ Some x → ⊥
reads_nothing c x is =
    let text : c.in-Ok.text.now ≡ c.args.text.now = search rules in
    true≢false (sym (c.in_default-parse_str.ensures.ok.1 (x, ap parsed text ∙ is)))

pub returns-in_default-parse_str-clause-not_an_id : goal.returns-in_default-parse_str-clause-not_an_id
returns-in_default-parse_str-clause-not_an_id c = (λ _. bits_of_none _ _ (reads_nothing c), λ _. refl)

pub returns-in_default-parse_str-clause-reads_back : goal.returns-in_default-parse_str-clause-reads_back
returns-in_default-parse_str-clause-reads_back c = λ id job draw is.
    let some = parsed-from_bits (parsed c.args.text.now) (ap read_bits is ∙ id_reads_back id job draw) in
    absurd (reads_nothing c some.0 some.1)

-- where the upper half is no u32
bits_past : (c : goal.In_default-try_from) → read_bits c.args.text.now ≡ Some (bits_of_bytes c.in-Ok-parse_str.id)
bits_past c =
    let text : c.in-Ok.text.now ≡ c.args.text.now = search rules in
    ap (option_map bits_of_bytes) (ap parsed (sym text) ∙ sym c.in-Ok-parse_str.ensures.bytes)

high_past : (c : goal.In_default-try_from) → bits_of_bytes c.in-Ok-parse_str.id / 2 ^ 64 < 2 ^ 32 → ⊥
unfolding bits_of_bytes
high_past c = rw c.as_u64_pair-high.ensures.high at c.in_default-try_from.ensures

pub returns-in_default-try_from-clause-not_an_id : goal.returns-in_default-try_from-clause-not_an_id
returns-in_default-try_from-clause-not_an_id c = (λ _. IsNoId-from_halves c.args.text.now (bits_past c) (high_past c), λ _. refl)

pub returns-in_default-try_from-clause-reads_back : goal.returns-in_default-try_from-clause-reads_back
returns-in_default-try_from-clause-reads_back c = λ id job draw is.
    let halves = halves_of_id id (bits_past c) job draw is in
    absurd (high_past c (omega (arith, halves.0)))

-- where an id is read
bits_there : (c : goal.In-Ok-try_from) → read_bits c.args.text.now ≡ Some (bits_of_bytes c.in-Ok-parse_str.id)
bits_there c =
    let text : c.in-Ok.text.now ≡ c.args.text.now = search rules in
    ap (option_map bits_of_bytes) (ap parsed (sym text) ∙ sym c.in-Ok-parse_str.ensures.bytes)

high_there : (c : goal.In-Ok-try_from) → bits_of_bytes c.in-Ok-parse_str.id / 2 ^ 64 ≡ c.in-Ok-try_from.job
unfolding bits_of_bytes
high_there c = sym c.as_u64_pair-high.ensures.high ∙ (search rules)

low_there : (c : goal.In-Ok-try_from) → bits_of_bytes c.in-Ok-parse_str.id % 2 ^ 64 ≡ c.as_u64_pair-high.result.1
unfolding bits_of_bytes
low_there c = sym c.as_u64_pair-high.ensures.low

pub returns-clause-ok : goal.returns-clause-ok
returns-clause-ok c =
    let n = bits_of_bytes c.in-Ok-parse_str.id in
    bits_there c ∙ ap Some (bits_from_halves n ∙ ap₂ (λ high low. high * 2 ^ 64 + low) (high_there c) (low_there c))

pub returns-clause-not_an_id : goal.returns-clause-not_an_id
returns-clause-not_an_id c = (λ e. absurd cc, λ none. absurd (not_IsNoId c.args.text.now (bits_there c) (omega (arith, high_there c)) none))

pub returns-clause-reads_back : goal.returns-clause-reads_back
returns-clause-reads_back c = λ id job draw is.
    let halves = halves_of_id id (bits_there c) job draw is in
    ap₂ (λ j d. Ok (record { job = j; draw = d })) (sym (high_there c) ∙ halves.0) (sym (low_there c) ∙ halves.1)
