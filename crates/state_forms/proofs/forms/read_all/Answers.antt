use Rattle.std.proofs.Common.{map, ap, sym, ◌∙◌, Some, [], ◌∷◌, ◌++◌, take, subst}
use Rattle.std.proofs.lemmas.List.{take_more}
use Rattle.serde_json.specs.View.{view}
use Rattle.std.specs.List.{AllByRecursion}
use Rattle.state_forms.specs.Shapes.{each}
use Rattle.state_forms.proofs.Lists.{each_push, each_fails, all_push}
use Rattle.state_forms.proofs.forms.read_all.Goals as goal

pub returns-in-Err-clause-gives : goal.returns-in-Err-clause-gives
returns-in-Err-clause-gives g c = each_fails c.in-Err.e g.T.Json.reads view c.args.items.now c.loop-item.item-index c.item-item.result c.loop-item-test.true c.item-item.is c.in-Err.ensures.gives

pub loop-item-preserved : goal.loop-item-preserved
loop-item-preserved g c =
    let xs = c.args.items.now in
    let i = c.loop-item.item-index in
    let x = c.item-item.result in
    let more = take_more xs i x c.loop-item-test.true ∙ ap (λ y. take i xs ++ y ∷ []) (sym c.item-item.is) in (
      ap (λ ys. each g.T.Json.reads (map view ys)) more
          ∙ each_push g.T.Json.reads view (take i xs) c.loop-item.found.items x c.in-Ok.x c.loop-item.invariant.0 c.in-Ok.ensures.gives
          ∙ ap Some (sym c.in_ok-push-in-Ok.ensures.items),
      subst (AllByRecursion g.T.Json.fits) (sym c.in_ok-push-in-Ok.ensures.items) (all_push g.T.Json.fits c.loop-item.found.items c.in-Ok.x c.loop-item.invariant.1 c.in-Ok.ensures.ranged),
    )
