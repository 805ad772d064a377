-- `dict` says what the program read; from it each exit knows what the operation gives.
use Rattle.std.proofs.Common.{◌≡◌, ◌+◌, ◌≤◌, ◌<◌, length, set, arith, ap, ap₂, sym, subst, ◌∙◌, refl, All, bytes_eq}
use Rattle.indexmap.specs.IndexMap.{insert_entry}
use Rattle.hog_value.specs.declared.cell.Cell.TheVariants as cell
use Rattle.hog_value.specs.Values.{NamesBelow}
use Rattle.hog_value.specs.Meters.{max_units}
use Rattle.hog_value.specs.Cells.{Dict, CellNamesBelow, IsSound, cost_of_pair}
use Rattle.hog_value.specs.Operations.{Gives}
use Rattle.hog_value.proofs.Closed.{All-slice_get, All-insert_entry, dict_read, cells_set, IsSound-cells_set}
use Rattle.hog_value.proofs.Charges.{set_key-there, set_key-new, charged-fits, charged-spends, not_left}
use Rattle.hog_value.proofs.Places.{set-place}
use Rattle.hog_value.proofs.heap.Heap.set_key.Goals as goal

pub invariant_of-self : goal.invariant_of-self
invariant_of-self c =
    let h = c.args.self.now in
    let n = c.args.dict in
    let key = c.args.key.now in
    let ps = c.in-Dict.pairs in
    let m = length h in
    let dict = dict_read c.self.inside.cells.items h n _ ps c.self.view_is c.requires.dict c.index_mut.ensures.value c.in-Dict.is in
    let replaced : c.set_at.new.self ≡ insert_entry bytes_eq ps key c.args.v =
    c.set_at.ensures.value ∙ set-place key ps c.in-Some.place c.args.v (sym c.in-Some.ensures.place) in
    let before : All (λ p. NamesBelow m p.1) ps = All-slice_get (CellNamesBelow m) h n (Dict ps) (subst IsSound c.self.view_is c.self.invariant).0 dict in
    let names = subst (All (λ p. NamesBelow m p.1)) (sym replaced) (All-insert_entry m ps key c.args.v before c.requires.names) in
    IsSound-cells_set c.self.inside.cells.items h n (cell.Dict c.set_at.new.self) c.self.view_is c.self.invariant names c.set_at.ensures.distinct

pub returns-in-Some-clause-ok : goal.returns-in-Some-clause-ok
returns-in-Some-clause-ok c =
    let h = c.args.self.now in
    let n = c.args.dict in
    let units = c.args.m.now.units in
    let key = c.args.key.now in
    let ps = c.in-Dict.pairs in
    let dict = dict_read c.self.inside.cells.items h n _ ps c.self.view_is c.requires.dict c.index_mut.ensures.value c.in-Dict.is in
    let replaced : c.set_at.new.self ≡ insert_entry bytes_eq ps key c.args.v =
    c.set_at.ensures.value ∙ set-place key ps c.in-Some.place c.args.v (sym c.in-Some.ensures.place) in
    set_key-there h n key c.args.v units ps dict (sym c.in-Some.ensures.there)
    ∙ ap (λ qs. Gives tt (set h n (Dict qs)) units) (sym replaced)
    ∙ ap (λ g. Gives tt g units) (sym (cells_set c.self.inside.cells.items h n (cell.Dict c.set_at.new.self) c.self.view_is))

pub returns-in-Some-clause-spent : goal.returns-in-Some-clause-spent
returns-in-Some-clause-spent c =
    let h = c.args.self.now in
    let n = c.args.dict in
    let ps = c.in-Dict.pairs in
    let dict = dict_read c.self.inside.cells.items h n _ ps c.self.view_is c.requires.dict c.index_mut.ensures.value c.in-Dict.is in
    let gives = set_key-there h n c.args.key.now c.args.v c.args.m.now.units ps dict (sym c.in-Some.ensures.there) in
    (λ r. cc, λ d. cc)

pub returns-then-not-spend_units-clause-spent : goal.returns-then-not-spend_units-clause-spent
returns-then-not-spend_units-clause-spent c =
    let h = c.args.self.now in
    let n = c.args.dict in
    let units = c.args.m.now.units in
    let key = c.args.key.now in
    let ps = c.in-Dict.pairs in
    let dict = dict_read c.self.inside.cells.items h n _ ps c.self.view_is c.requires.dict c.index_mut.ensures.value c.in-Dict.is in
    let cost : c.cost_of_pair.result ≡ cost_of_pair key = c.cost_of_pair.ensures in
    let left = not_left (units + c.cost_of_pair.result) max_units c.if-not-spend_units.ensures.left.1 in
    let over : max_units < units + cost_of_pair key = omega (arith, cost, left) in
    let spends = set_key-new h n key c.args.v units ps dict (sym c.in_default-place.ensures.there) ∙ charged-spends (cost_of_pair key) tt _ units over in
    (λ r. cc, λ d. cc)

pub invariant_of-self-2 : goal.invariant_of-self-2
invariant_of-self-2 c =
    let h = c.args.self.now in
    let n = c.args.dict in
    let key = c.args.key.now in
    let ps = c.in-Dict.pairs in
    let m = length h in
    let dict = dict_read c.self.inside.cells.items h n _ ps c.self.view_is c.requires.dict c.index_mut.ensures.value c.in-Dict.is in
    let inserted : c.insert.new.self ≡ insert_entry bytes_eq ps key c.args.v =
    c.in_ok-insert.ensures.ok ∙ ap (λ k. insert_entry bytes_eq ps k c.args.v) c.in_ok-copy.ensures in
    let before : All (λ p. NamesBelow m p.1) ps = All-slice_get (CellNamesBelow m) h n (Dict ps) (subst IsSound c.self.view_is c.self.invariant).0 dict in
    let names = subst (All (λ p. NamesBelow m p.1)) (sym inserted) (All-insert_entry m ps key c.args.v before c.requires.names) in
    IsSound-cells_set c.self.inside.cells.items h n (cell.Dict c.insert.new.self) c.self.view_is c.self.invariant names c.in_ok-insert.ensures.distinct

pub returns-clause-ok : goal.returns-clause-ok
returns-clause-ok c =
    let h = c.args.self.now in
    let n = c.args.dict in
    let units = c.args.m.now.units in
    let key = c.args.key.now in
    let ps = c.in-Dict.pairs in
    let dict = dict_read c.self.inside.cells.items h n _ ps c.self.view_is c.requires.dict c.index_mut.ensures.value c.in-Dict.is in
    let inserted : c.insert.new.self ≡ insert_entry bytes_eq ps key c.args.v =
    c.in_ok-insert.ensures.ok ∙ ap (λ k. insert_entry bytes_eq ps k c.args.v) c.in_ok-copy.ensures in
    let left = c.if-not-spend_units.ensures.left.0 refl in
    let cost : c.cost_of_pair.result ≡ cost_of_pair key = c.cost_of_pair.ensures in
    let fits : units + cost_of_pair key ≤ max_units = omega (arith, cost, left) in
    let spent : c.spend_units.new.self.units ≡ units + cost_of_pair key =
    ap (λ m. m.units) c.if-not-spend_units.ensures.spent ∙ ap (λ n. units + n) cost in
    set_key-new h n key c.args.v units ps dict (sym c.in_default-place.ensures.there)
    ∙ charged-fits (cost_of_pair key) tt _ units fits
    ∙ ap (λ qs. Gives tt (set h n (Dict qs)) (units + cost_of_pair key)) (sym inserted)
    ∙ ap₂ (λ g u. Gives tt g u) (sym (cells_set c.self.inside.cells.items h n (cell.Dict c.insert.new.self) c.self.view_is)) (sym spent)
