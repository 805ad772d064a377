use Rattle.std.proofs.Common.{◌≡◌, ◌+◌, ◌<◌, ◌≤◌, length, map, take, get_or, [], ◌∷◌, ◌++◌, sym, ap, ◌∙◌, subst, arith}
use Rattle.std.proofs.lemmas.List.{take_more, take_all}
use Rattle.std.proofs.lemmas.Option.{get_or_from_slice_get}
use Rattle.std.specs.List.{AllByRecursion}
use Rattle.serde_json.specs.View.{view}
use Rattle.hog_value.specs.declared.cell.FunCell.{FunCell}
use Rattle.hog_value.specs.Cells.{CellOf}
use Rattle.hog_value.specs.Views.{cell_of}
use Rattle.state_forms.specs.Shapes.{list}
use Rattle.state_forms.specs.Values.{cell_data, CellFits}
use Rattle.state_forms.proofs.Lists.{one_more, all_push}
use Rattle.state_forms.proofs.values.write_cells.Goals as goal

pub loop-i-preserved : goal.loop-i-preserved
loop-i-preserved c =
    let h = c.args.heap.now in
    let i = c.loop-i.i in
    let d : CellOf FunCell = cell_of c.get.result.now in
    let within : i < length h = omega (arith, c.len-i-end.ensures.count) in
    let at : get_or h i d ≡ d = get_or_from_slice_get h i d d c.get.ensures.cell in
    let more : take (i + 1) h ≡ take i h ++ d ∷ [] = take_more h i d within ∙ ap (λ e. take i h ++ e ∷ []) at in record {
      form =
          ap (map view) c.in_ok-push.ensures.items
          ∙ one_more view cell_data c.loop-i.written.items (take i h) c.in_ok-write_cell.field-0 d c.loop-i.invariant.form c.in_ok-write_cell.ensures.form
          ∙ ap (map cell_data) (sym more);
      ranged = subst (AllByRecursion CellFits) (sym more) (all_push CellFits (take i h) d c.loop-i.invariant.ranged c.in_ok-write_cell.ensures.ranged);
    }

pub returns-clause-form : goal.returns-clause-form
returns-clause-form c =
    let h = c.args.heap.now in
    let past : length h ≤ c.loop-i.i = omega (arith, c.len-i-end.ensures.count) in
    c.list_value.ensures ∙ ap list (c.loop-i.invariant.form ∙ ap (map cell_data) (take_all c.loop-i.i h past))

pub returns-clause-ranged : goal.returns-clause-ranged
returns-clause-ranged c =
    let h = c.args.heap.now in
    let past : length h ≤ c.loop-i.i = omega (arith, c.len-i-end.ensures.count) in
    subst (AllByRecursion CellFits) (take_all c.loop-i.i h past) c.loop-i.invariant.ranged
