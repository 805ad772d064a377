use Rattle.std.proofs.Common.{◌≡◌, ◌+◌, map, drop, [], ◌∷◌, ◌++◌, Option, None, Some, false, refl, sym, ap, ◌∙◌, subst}
use Rattle.std.specs.Prelude.{is_some}
use Rattle.std.specs.Str.{bytes_eq}
use Rattle.std.specs.Map.{lookup}
use Rattle.serde_json.specs.View.{view}
use Rattle.indexmap.proofs.CallerLemmas.{insert_entry-new}
use Rattle.state_forms.specs.Values.{pair_in, pairs_from, PairFits}
use Rattle.state_forms.proofs.Lists.{all_push, drop_here}
use Rattle.std.specs.List.{AllByRecursion}
use Rattle.state_forms.proofs.Back.{turn_some}
use Rattle.state_forms.proofs.values.read_pairs.Goals as goal

none_from : {A : Type 0} (o : Option A) → is_some o ≡ false → o ≡ None
none_from None h = refl
none_from (Some x) h = absurd cc

pub loop-item-preserved : goal.loop-item-preserved
loop-item-preserved c =
    let xs = c.args.items.now in
    let i = c.loop-item.item-index in
    let x = c.item-item.result in
    let done = c.loop-item.map.entries in
    let k = c.in-Ok.key in
    let v = c.in-Ok.value in
    let pair : pair_in (view x) ≡ Some (k, v) = c.in-Ok.ensures.gives in
    let fresh : lookup (bytes_eq k) done ≡ None = none_from _ (ap is_some (sym c.in_ok-insert-in-Ok.ensures.old) ∙ sym c.is_some.ensures ∙ c.if-is_some.false) in
    let put : c.insert.new.self.entries ≡ done ++ (k, v) ∷ [] = c.in_ok-insert-in-Ok.ensures.entries ∙ insert_entry-new bytes_eq c.loop-item.map k v fresh in (
      ap (λ es. pairs_from es (map view (drop (i + 1) xs))) put
          ∙ sym (turn_some done (view x) (map view (drop (i + 1) xs)) (k, v) pair (ap is_some fresh))
          ∙ ap (λ ys. pairs_from done (map view ys)) (sym (drop_here xs i x c.loop-item-test.true c.item-item.is))
          ∙ c.loop-item.invariant.0,
      subst (AllByRecursion PairFits) (sym put) (all_push PairFits done (k, v) c.loop-item.invariant.1 c.in-Ok.ensures.ranged),
      c.in_ok-insert-in-Ok.ensures.unique,
    )
