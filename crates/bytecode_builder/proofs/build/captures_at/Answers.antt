use Rattle.std.proofs.Common.{◌≡◌, ◌+◌, ◌-◌, ◌∷◌, ◌++◌, [], length, drop, take, sym, ap, ◌∙◌, Some, None}
use Rattle.serde_json.specs.Find.{as_bool}
use Rattle.serde_json.specs.View.{view}
use Rattle.bytecode_front.specs.Front.{small_in, capture_by, with_more, captures_in}
use Rattle.bytecode_front.specs.Views.{views}
use Rattle.bytecode_front.proofs.Captures.{captures_turn, captures_few, prepend, prepend_more, not_none}
use Rattle.bytecode_builder.proofs.build.captures_at.Goals as goal

pub unreachable-requires : goal.unreachable-requires
unreachable-requires c =
    not_none c.loop-i.captures.items (captures_in c.args.n (views c.args.items.now)) (captures_in (c.args.n - c.loop-i.i) (views c.loop-i.rest.now)) c.requires c.loop-i.invariant
    (captures_few c.args.n c.loop-i.i c.loop-i.rest.now c.loop-i-test.true c.in_default.len_below)

pub unreachable-requires-in-None : goal.unreachable-requires-in-None
unreachable-requires-in-None c =
    let vs = c.loop-i.rest.now in
    let none : capture_by (as_bool (view c.local-item.result)) (small_in (view c.index-item.result)) ≡ None = sym c.capture_in.ensures ∙ c.in-None.is in
    not_none c.loop-i.captures.items (captures_in c.args.n (views c.args.items.now)) (captures_in (c.args.n - c.loop-i.i) (views vs)) c.requires c.loop-i.invariant
    (captures_turn c.args.n c.loop-i.i vs c.local-item.result c.index-item.result c.loop-i-test.true c.in-len2-up.len_at_least c.local-item.is c.index-item.is
    ∙ ap (λ o. with_more o (captures_in (c.args.n - (c.loop-i.i + 1)) (views (take (length vs - 2) (drop 2 vs))))) none)

pub loop-i-preserved : goal.loop-i-preserved
loop-i-preserved c =
    let vs = c.loop-i.rest.now in
    let rest = captures_in (c.args.n - (c.loop-i.i + 1)) (views (take (length vs - 2) (drop 2 vs))) in
    let one : capture_by (as_bool (view c.local-item.result)) (small_in (view c.index-item.result)) ≡ Some c.in-Some.capture = sym c.capture_in.ensures ∙ c.in-Some.is in
    c.loop-i.invariant
    ∙ ap (prepend c.loop-i.captures.items) (captures_turn c.args.n c.loop-i.i vs c.local-item.result c.index-item.result c.loop-i-test.true c.in-len2-up.len_at_least c.local-item.is c.index-item.is ∙ ap (λ o. with_more o rest) one)
    ∙ prepend_more c.loop-i.captures.items c.in-Some.capture rest ∙ ap (λ xs. prepend xs rest) (sym c.in_ok-push-in-Some.ensures.items)
