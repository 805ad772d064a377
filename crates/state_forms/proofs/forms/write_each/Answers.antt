use Rattle.std.proofs.Common.{◌≡◌, ◌+◌, map, take, [], ◌∷◌, ◌++◌, sym, ap, ◌∙◌, subst}
use Rattle.std.proofs.lemmas.List.{take_more}
use Rattle.std.specs.List.{AllByRecursion}
use Rattle.serde_json.specs.View.{view}
use Rattle.state_forms.proofs.Lists.{one_more, all_push}
use Rattle.state_forms.proofs.forms.write_each.Goals as goal

pub loop-item-preserved : goal.loop-item-preserved
loop-item-preserved g c =
    let xs = c.args.items.now in
    let i = c.loop-item.item-index in
    let x = c.item-item.result in
    let more : take (i + 1) xs ≡ take i xs ++ x ∷ [] = take_more xs i x c.loop-item-test.true ∙ ap (λ y. take i xs ++ y ∷ []) (sym c.item-item.is) in record {
      form =
          ap (map view) c.in_ok-push.ensures.items
          ∙ one_more view g.T.Json.written c.loop-item.written.items (take i xs) c.in_ok-write.field-0 x c.loop-item.invariant.form c.in_ok-write.ensures.form
          ∙ ap (map g.T.Json.written) (sym more);
      ranged = subst (AllByRecursion g.T.Json.fits) (sym more) (all_push g.T.Json.fits (take i xs) x c.loop-item.invariant.ranged c.in_ok-write.ensures.ranged);
    }
