use Rattle.std.proofs.Common.{◌≡◌, ◌∙◌, ap, arith}
use Rattle.uuid.specs.Text.{hyphenated_text, lower}
use Rattle.lock_ids.specs.Lock.{id_text, bytes_of_bits, read_bits}
use Rattle.lock_ids.proofs.Back.{id_reads_back}
use Rattle.lock_ids.proofs.lock.LockId.text.Goals as goal

is_text : (c : goal.In-Ok) → c.in-Ok.text ≡ id_text c.args.self.now
unfolding bytes_of_bits
is_text c =
    c.in-Ok.ensures.value
    ∙ c.as_bytes.ensures.value
    ∙ c.encode_lower-text.ensures.text
    ∙ ap (hyphenated_text lower) (c.hyphenated.ensures ∙ c.from_u64_pair-id.ensures)

pub returns-in-Ok-clause-text : goal.returns-in-Ok-clause-text
returns-in-Ok-clause-text c = is_text c

pub returns-in-Ok-clause-reads_back : goal.returns-in-Ok-clause-reads_back
returns-in-Ok-clause-reads_back c = ap read_bits (is_text c) ∙ id_reads_back c.args.self.now (omega arith) (omega arith)
