use Rattle.std.proofs.Common.{◌≡◌, ◌+◌, ◌%◌, Some, length, arith, sym, ap, ◌∙◌}
use Rattle.serde_json.specs.View.{view}
use Rattle.event_plans.specs.Event.{size_of, uuid_in, uuid_of}
use Rattle.made_plans.specs.Made.{event_data, made_event}
use Rattle.made_plans.proofs.EventLemmas.{event_short, uuid_reads}
use Rattle.made_plans.proofs.events.made_event.Goals as goal

pub invariant_of-result-clause-has_uuid : goal.invariant_of-result-clause-has_uuid
invariant_of-result-clause-has_uuid c =
    ap uuid_in c.in_ok-value.ensures
    ∙ ap uuid_of (c.as_str.ensures.value ∙ c.in_ok-uuid.ensures)
    ∙ uuid_reads c.args.i
    ∙ ap Some (sym (c.from_string.ensures ∙ c.in_ok-uuid.ensures))

pub invariant_of-result-clause-has_size : goal.invariant_of-result-clause-has_size
invariant_of-result-clause-has_size c = ap length (c.bytes.ensures.value ∙ c.in_ok-kept.ensures.text)

pub invariant_of-result-clause-is_short : goal.invariant_of-result-clause-is_short
invariant_of-result-clause-is_short c =
    let n = c.args.n in
    let i = c.args.i in
    let value : view c.in_ok-value.value ≡ made_event n i =
    c.in_ok-value.ensures ∙ ap (λ u. event_data u ((n + i) % 100)) (c.as_str.ensures.value ∙ c.in_ok-uuid.ensures) in
    let size : length c.bytes.result.now ≡ size_of (made_event n i) =
    ap length (c.bytes.ensures.value ∙ c.in_ok-kept.ensures.text) ∙ ap size_of value in
    omega (arith, size, event_short n i)
