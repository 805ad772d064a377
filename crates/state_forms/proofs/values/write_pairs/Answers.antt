use Rattle.std.proofs.Common.{◌≡◌, ℕ, ◌+◌, ◌<◌, ◌≤◌, length, map, take, get_or, List, [], ◌∷◌, ◌++◌, sym, ap, ◌∙◌, subst, arith}
use Rattle.std.proofs.lemmas.List.{take_more, take_all}
use Rattle.std.proofs.lemmas.Option.{get_or_from_slice_get}
use Rattle.std.specs.List.{AllByRecursion}
use Rattle.serde_json.specs.View.{view}
use Rattle.hog_value.specs.declared.value.Value.{Value}
use Rattle.state_forms.specs.Shapes.{list}
use Rattle.state_forms.specs.Values.{pair_data, PairFits}
use Rattle.state_forms.proofs.Lists.{one_more, all_push}
use Rattle.state_forms.proofs.values.write_pairs.Goals as goal

pub loop-i-preserved : goal.loop-i-preserved
loop-i-preserved c =
    let es = c.map-map.result.now.entries in
    let i = c.loop-i.i in
    let p : List ℕ × Value = (c.in-Some.key.now, c.in-Some.value.now) in
    let within : i < length es = omega (arith, c.len-i-end.ensures.len) in
    let at : get_or es i p ≡ p = get_or_from_slice_get es i p p (sym c.in-Some.ensures.entry) in
    let more : take (i + 1) es ≡ take i es ++ p ∷ [] = take_more es i p within ∙ ap (λ e. take i es ++ e ∷ []) at in record {
      form =
          ap (map view) c.in_ok-push.ensures.items
          ∙ one_more view pair_data c.loop-i.written.items (take i es) c.in_ok-write_pair.field-0 p c.loop-i.invariant.form c.in_ok-write_pair.ensures.form
          ∙ ap (map pair_data) (sym more);
      ranged = subst (AllByRecursion PairFits) (sym more) (all_push PairFits (take i es) p c.loop-i.invariant.ranged c.in_ok-write_pair.ensures.ranged);
    }

pub returns-clause-form : goal.returns-clause-form
returns-clause-form c =
    let es = c.map-map.result.now.entries in
    let past : length es ≤ c.loop-i.i = omega (arith, c.len-i-end.ensures.len) in
    c.list_value.ensures ∙ ap list (c.loop-i.invariant.form ∙ ap (map pair_data) (take_all c.loop-i.i es past ∙ c.map-map.ensures.pairs))

pub returns-clause-ranged : goal.returns-clause-ranged
returns-clause-ranged c =
    let es = c.map-map.result.now.entries in
    let past : length es ≤ c.loop-i.i = omega (arith, c.len-i-end.ensures.len) in
    subst (AllByRecursion PairFits) (take_all c.loop-i.i es past ∙ c.map-map.ensures.pairs) c.loop-i.invariant.ranged
