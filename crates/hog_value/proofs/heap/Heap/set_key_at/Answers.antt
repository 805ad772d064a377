-- `text` and `dict` say what the program read; from them each exit knows what the operation gives.
use Rattle.std.proofs.Common.{◌≡◌, ◌+◌, ◌≤◌, length, set, arith, ap, ap₂, sym, subst, ◌∙◌, refl, All, bytes_eq, Some}
use Rattle.std.specs.Prelude.{slice_get}
use Rattle.std.proofs.lemmas.Option.{slice_get_within}
use Rattle.std.proofs.lemmas.List.{length-map}
use Rattle.indexmap.specs.IndexMap.{insert_entry, set_value_at}
use Rattle.hog_value.specs.declared.cell.Cell.TheVariants as cell
use Rattle.hog_value.specs.Values.{NamesBelow}
use Rattle.hog_value.specs.Meters.{max_units}
use Rattle.hog_value.specs.Cells.{Dict, Text, CellNamesBelow, IsSound, cost_of_pair}
use Rattle.hog_value.specs.Operations.{Gives}
use Rattle.hog_value.specs.Views.{cell_of}
use Rattle.hog_value.proofs.Closed.{All-slice_get, All-insert_entry, cells_set, IsSound-cells_set, pairs_again, is_dict}
use Rattle.hog_value.proofs.Charges.{set_key-there, set_key-new, charged-fits}
use Rattle.hog_value.proofs.Places.{set-place}
use Rattle.hog_value.proofs.heap.Heap.set_key_at.Goals as goal

pub invariant_of-self : goal.invariant_of-self
invariant_of-self c =
    let h = c.args.self.now in
    let n = c.args.dict in
    let key = c.in-Text.text in
    let ps = c.in-Dict.pairs in
    let m = length h in
    let dict : slice_get h n ≡ Some (Dict ps) = c.get-2.ensures.cell ∙ ap (λ x. Some (cell_of x)) c.in-Dict.is in
    let again = pairs_again c.self.inside.cells.items h n _ ps c.self.view_is c.index_mut.ensures.value dict c.in-Dict-index_mut.pairs c.in-Dict-index_mut.is in
    let replaced : c.set_at.new.self ≡ insert_entry bytes_eq ps key c.args.v =
    c.set_at.ensures.value ∙ ap (λ qs. set_value_at qs c.in-Some.place c.args.v) again
    ∙ set-place key ps c.in-Some.place c.args.v (sym c.in-Some.ensures.place) in
    let before : All (λ p. NamesBelow m p.1) ps = All-slice_get (CellNamesBelow m) h n (Dict ps) (subst IsSound c.self.view_is c.self.invariant).0 dict in
    let names = subst (All (λ p. NamesBelow m p.1)) (sym replaced) (All-insert_entry m ps key c.args.v before c.requires.names) in
    IsSound-cells_set c.self.inside.cells.items h n (cell.Dict c.set_at.new.self) c.self.view_is c.self.invariant names c.set_at.ensures.distinct

pub returns-in-Some-clause-ok : goal.returns-in-Some-clause-ok
returns-in-Some-clause-ok c =
    let h = c.args.self.now in
    let n = c.args.dict in
    let units = c.args.m.now.units in
    let key = c.in-Text.text in
    let ps = c.in-Dict.pairs in
    let text : slice_get h c.args.key ≡ Some (Text key) = c.get.ensures.cell ∙ ap (λ x. Some (cell_of x)) c.in-Text.is in
    let dict : slice_get h n ≡ Some (Dict ps) = c.get-2.ensures.cell ∙ ap (λ x. Some (cell_of x)) c.in-Dict.is in
    let again = pairs_again c.self.inside.cells.items h n _ ps c.self.view_is c.index_mut.ensures.value dict c.in-Dict-index_mut.pairs c.in-Dict-index_mut.is in
    let replaced : c.set_at.new.self ≡ insert_entry bytes_eq ps key c.args.v =
    c.set_at.ensures.value ∙ ap (λ qs. set_value_at qs c.in-Some.place c.args.v) again
    ∙ set-place key ps c.in-Some.place c.args.v (sym c.in-Some.ensures.place) in
    let gives =
    set_key-there h n key c.args.v units ps dict (sym c.in-Some.ensures.there)
    ∙ ap (λ qs. Gives tt (set h n (Dict qs)) units) (sym replaced)
    ∙ ap (λ g. Gives tt g units) (sym (cells_set c.self.inside.cells.items h n (cell.Dict c.set_at.new.self) c.self.view_is)) in
    rw text gives

pub index_mut-requires-2 : goal.index_mut-requires-2
index_mut-requires-2 c =
    let h = c.args.self.now in
    let dict : slice_get h c.args.dict ≡ Some (Dict c.in-Dict.pairs) = c.get-2.ensures.cell ∙ ap (λ x. Some (cell_of x)) c.in-Dict.is in
    let within = slice_get_within h c.args.dict _ dict in
    let same = ap length (sym c.self.view_is) ∙ length-map c.self.inside.cells.items cell_of in
    omega (arith, within, same)

pub unreachable-requires-in_default-index_mut-2 : goal.unreachable-requires-in_default-index_mut-2
unreachable-requires-in_default-index_mut-2 c =
    let h = c.args.self.now in
    let dict : slice_get h c.args.dict ≡ Some (Dict c.in-Dict.pairs) = c.get-2.ensures.cell ∙ ap (λ x. Some (cell_of x)) c.in-Dict.is in
    is_dict c.self.inside.cells.items h c.args.dict _ c.in-Dict.pairs c.self.view_is c.index_mut-2.ensures.value dict c.in_default-index_mut-2.not-Dict

pub invariant_of-self-2 : goal.invariant_of-self-2
invariant_of-self-2 c =
    let h = c.args.self.now in
    let n = c.args.dict in
    let key = c.in-Text.text in
    let ps = c.in-Dict.pairs in
    let m = length h in
    let dict : slice_get h n ≡ Some (Dict ps) = c.get-2.ensures.cell ∙ ap (λ x. Some (cell_of x)) c.in-Dict.is in
    let again = pairs_again c.self.inside.cells.items h n _ ps c.self.view_is c.index_mut-2.ensures.value dict c.in-Dict-index_mut-2.pairs c.in-Dict-index_mut-2.is in
    let inserted : c.insert.new.self ≡ insert_entry bytes_eq ps key c.args.v =
    c.in_ok-insert.ensures.ok ∙ ap₂ (λ qs k. insert_entry bytes_eq qs k c.args.v) again c.in_ok-text.ensures in
    let before : All (λ p. NamesBelow m p.1) ps = All-slice_get (CellNamesBelow m) h n (Dict ps) (subst IsSound c.self.view_is c.self.invariant).0 dict in
    let names = subst (All (λ p. NamesBelow m p.1)) (sym inserted) (All-insert_entry m ps key c.args.v before c.requires.names) in
    IsSound-cells_set c.self.inside.cells.items h n (cell.Dict c.insert.new.self) c.self.view_is c.self.invariant names c.in_ok-insert.ensures.distinct

pub returns-clause-ok : goal.returns-clause-ok
returns-clause-ok c =
    let h = c.args.self.now in
    let n = c.args.dict in
    let units = c.args.m.now.units in
    let key = c.in-Text.text in
    let ps = c.in-Dict.pairs in
    let text : slice_get h c.args.key ≡ Some (Text key) = c.get.ensures.cell ∙ ap (λ x. Some (cell_of x)) c.in-Text.is in
    let dict : slice_get h n ≡ Some (Dict ps) = c.get-2.ensures.cell ∙ ap (λ x. Some (cell_of x)) c.in-Dict.is in
    let again = pairs_again c.self.inside.cells.items h n _ ps c.self.view_is c.index_mut-2.ensures.value dict c.in-Dict-index_mut-2.pairs c.in-Dict-index_mut-2.is in
    let inserted : c.insert.new.self ≡ insert_entry bytes_eq ps key c.args.v =
    c.in_ok-insert.ensures.ok ∙ ap₂ (λ qs k. insert_entry bytes_eq qs k c.args.v) again c.in_ok-text.ensures in
    let left = c.if-not-spend_units.ensures.left.0 refl in
    let cost : c.cost_of_pair.result ≡ cost_of_pair key = c.cost_of_pair.ensures in
    let fits : units + cost_of_pair key ≤ max_units = omega arith in
    let spent : c.spend_units.new.self.units ≡ units + cost_of_pair key =
    ap (λ m. m.units) c.if-not-spend_units.ensures.spent ∙ ap (λ n. units + n) cost in
    let gives =
    set_key-new h n key c.args.v units ps dict (sym c.in_default-place.ensures.there)
    ∙ charged-fits (cost_of_pair key) tt _ units fits
    ∙ ap (λ qs. Gives tt (set h n (Dict qs)) (units + cost_of_pair key)) (sym inserted)
    ∙ ap₂ (λ g u. Gives tt g u) (sym (cells_set c.self.inside.cells.items h n (cell.Dict c.insert.new.self) c.self.view_is)) (sym spent) in
    rw text gives
