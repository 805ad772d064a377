use Rattle.std.proofs.Common.{◌≡◌, ◌-◌, ◌+◌, length, take, drop, sym, ap, ◌∙◌, None, true}
use Rattle.std.specs.Prelude.{is_some}
use Rattle.serde_json.specs.Find.{as_bool}
use Rattle.serde_json.specs.View.{view}
use Rattle.bytecode_front.specs.Front.{small_in, capture_by, with_more, captures_in}
use Rattle.bytecode_front.specs.Views.{views}
use Rattle.bytecode_front.proofs.Captures.{captures_turn, captures_few, captures_end, none_from, more_some}
use Rattle.bytecode_front.proofs.front.captures_are_there.Goals as goal

pub returns-in_default : goal.returns-in_default
returns-in_default c =
    sym (sym c.loop-i.invariant ∙ ap is_some (captures_few c.args.n c.loop-i.i c.loop-i.rest.now c.loop-i-test.true c.in_default.len_below))

pub returns-then-is_none : goal.returns-then-is_none
returns-then-is_none c =
    let none : capture_by (as_bool (view c.local-item.result)) (small_in (view c.index-item.result)) ≡ None = sym c.capture_in.ensures ∙ none_from c.capture_in.result c.if-is_none.ensures in
    sym (sym c.loop-i.invariant
    ∙ ap is_some (captures_turn c.args.n c.loop-i.i c.loop-i.rest.now c.local-item.result c.index-item.result c.loop-i-test.true c.in-len2-up.len_at_least c.local-item.is c.index-item.is
    ∙ ap (λ o. with_more o (captures_in (c.args.n - (c.loop-i.i + 1)) (views (take (length c.loop-i.rest.now - 2) (drop 2 c.loop-i.rest.now))))) none))

pub returns : goal.returns
returns c = sym (sym c.loop-i.invariant ∙ ap is_some (captures_end c.args.n c.loop-i.i _ c.loop-i-test.false))

pub loop-i-preserved : goal.loop-i-preserved
loop-i-preserved c =
    let some : is_some (capture_by (as_bool (view c.local-item.result)) (small_in (view c.index-item.result))) ≡ true = ap is_some (sym c.capture_in.ensures) ∙ c.if-is_none.ensures in
    sym (ap is_some (captures_turn c.args.n c.loop-i.i c.loop-i.rest.now c.local-item.result c.index-item.result c.loop-i-test.true c.in-len2-up.len_at_least c.local-item.is c.index-item.is)
    ∙ more_some _ _ some) ∙ c.loop-i.invariant
