use Rattle.std.proofs.Common.{◌≡◌, ◌+◌, map, Some, sym, ap, ◌∙◌, arith}
use Rattle.std.specs.Prelude.{slice_get}
use Rattle.std.specs.Option.{option_copied}
use Rattle.hog_scope.specs.Events.{event_of}
use Rattle.hog_scope.specs.Literals.{text_of}
use Rattle.hog_scope.proofs.LiteralLemmas.{item_got, item_count-le, counted_more, collected_none, collected_some}
use Rattle.hog_scope.proofs.texts.literal_set.Goals as goal
use Rattle.hog_scope.proofs.texts.literal_set.Goals.{in-Some+in_ok-insert, in_default}

pub loop-event-preserved : goal.loop-event-preserved
loop-event-preserved c =
    let xs = c.deref-event-items.result.now in
    let i = c.loop-event.event-index in
    let x = c.event-item.result in
    let items = c.items-items.result.now in
    let next = c.loop-event.next in
    let ks = c.loop-event.texts.keys in
    let text : option_copied c.text_of.result ≡ text_of (event_of x) (slice_get items next) =
    c.text_of.ensures ∙ ap (text_of (event_of x)) (c.copied.ensures ∙ item_got items next c.get.result c.get.ensures.lookup) in
    record {
      few = (let one = item_count-le (event_of x) in let is = c.item_count-next.ensures in let few = c.loop-event.invariant.few in omega (arith, one, is, few));
      counted = ap (λ n. next + n) c.item_count-next.ensures ∙ counted_more xs i x c.loop-event-test.true c.event-item.is items next c.loop-event.invariant.counted;
      collected = elim c.match-text_of.branch [
        | in-Some+in_ok-insert w ↦
            ap (λ s. map (λ t. t.now) s.keys) w.texts-is
            ∙ ap (map (λ t. t.now)) w.in_ok-insert.ensures.keys
            ∙ collected_some xs i x c.loop-event-test.true c.event-item.is items next c.loop-event.invariant.counted ks c.loop-event.invariant.collected
            w.as_str.result (sym text ∙ ap option_copied w.in-Some.is ∙ ap Some (sym w.as_str.ensures))
        | in_default w ↦
            ap (λ s. map (λ t. t.now) s.keys) w.texts-is
            ∙ collected_none xs i x c.loop-event-test.true c.event-item.is items next c.loop-event.invariant.counted ks c.loop-event.invariant.collected
            (sym text ∙ ap option_copied w.in_default.is)
      ];
    }
