-- `array` and `place` say what the program read; from them each exit knows what the operation gives.
use Rattle.std.proofs.Common.{◌≡◌, ◌+◌, ◌<◌, length, set, Some, arith, ap, ap₂, sym, subst, ◌∙◌, refl, All}
use Rattle.std.proofs.lemmas.List.Elements.{All-set, All-push}
use Rattle.hog_value.specs.declared.cell.Cell.TheVariants as cell
use Rattle.hog_value.specs.Values.{NamesBelow}
use Rattle.hog_value.specs.Meters.{max_units}
use Rattle.hog_value.specs.Cells.{Array, CellNamesBelow, IsSound}
use Rattle.hog_value.specs.Operations.{Gives}
use Rattle.hog_value.proofs.Closed.{All-slice_get, array_read, cells_set, IsSound-cells_set}
use Rattle.hog_value.proofs.Charges.{set_item-within, set_item-past, set_item-end, charged-fits, charged-spends, not_left, place_is, is_out}
use Rattle.hog_value.proofs.heap.Heap.set_item.Goals as goal

pub invariant_of-self-then-place-len : goal.invariant_of-self-then-place-len
invariant_of-self-then-place-len c =
    let h = c.args.self.now in
    let n = c.args.array in
    let units = c.args.m.now.units in
    let vs = c.in-Array.items in
    let array = array_read c.self.inside.cells.items h n _ vs c.self.view_is c.requires.array c.index_mut.ensures.value c.in-Array.is in
    let k = c.in-Some.place in
    let m = length h in
    let before : All (NamesBelow m) vs = All-slice_get (CellNamesBelow m) h n (Array vs) (subst IsSound c.self.view_is c.self.invariant).0 array in
    let names = subst (All (NamesBelow m)) (sym c.set.ensures) (All-set (NamesBelow m) vs k c.args.v c.requires.names before) in
    IsSound-cells_set c.self.inside.cells.items h n (cell.Array c.set.new.self) c.self.view_is c.self.invariant names tt

pub returns-then-place-len-clause-ok : goal.returns-then-place-len-clause-ok
returns-then-place-len-clause-ok c =
    let h = c.args.self.now in
    let n = c.args.array in
    let units = c.args.m.now.units in
    let vs = c.in-Array.items in
    let array = array_read c.self.inside.cells.items h n _ vs c.self.view_is c.requires.array c.index_mut.ensures.value c.in-Array.is in
    let k = c.in-Some.place in
    let place = place_is c.args.index (Some k) c.ranges.index c.in-Some.ensures in
    let within : k < length vs = omega (arith, ap length c.items-len.ensures) in
    let gives = set_item-within h n c.args.index c.args.v units vs k array place within in
    gives
    ∙ ap (λ ws. Gives tt (set h n (Array ws)) units) (sym c.set.ensures)
    ∙ ap (λ g. Gives tt g units) (sym (cells_set c.self.inside.cells.items h n (cell.Array c.set.new.self) c.self.view_is))

pub returns-then-place-len-clause-thrown : goal.returns-then-place-len-clause-thrown
returns-then-place-len-clause-thrown c =
    let h = c.args.self.now in
    let n = c.args.array in
    let units = c.args.m.now.units in
    let vs = c.in-Array.items in
    let array = array_read c.self.inside.cells.items h n _ vs c.self.view_is c.requires.array c.index_mut.ensures.value c.in-Array.is in
    let k = c.in-Some.place in
    let place = place_is c.args.index (Some k) c.ranges.index c.in-Some.ensures in
    let within : k < length vs = omega (arith, ap length c.items-len.ensures) in
    let gives = set_item-within h n c.args.index c.args.v units vs k array place within in
    λ kind. (λ r. cc, λ d. cc)

pub returns-then-place-len-clause-spent : goal.returns-then-place-len-clause-spent
returns-then-place-len-clause-spent c =
    let h = c.args.self.now in
    let n = c.args.array in
    let units = c.args.m.now.units in
    let vs = c.in-Array.items in
    let array = array_read c.self.inside.cells.items h n _ vs c.self.view_is c.requires.array c.index_mut.ensures.value c.in-Array.is in
    let k = c.in-Some.place in
    let place = place_is c.args.index (Some k) c.ranges.index c.in-Some.ensures in
    let within : k < length vs = omega (arith, ap length c.items-len.ensures) in
    let gives = set_item-within h n c.args.index c.args.v units vs k array place within in
    (λ r. cc, λ d. cc)

pub returns-then-place-len-2-clause-thrown : goal.returns-then-place-len-2-clause-thrown
returns-then-place-len-2-clause-thrown c =
    let h = c.args.self.now in
    let n = c.args.array in
    let units = c.args.m.now.units in
    let vs = c.in-Array.items in
    let array = array_read c.self.inside.cells.items h n _ vs c.self.view_is c.requires.array c.index_mut.ensures.value c.in-Array.is in
    let k = c.in-Some.place in
    let place = place_is c.args.index (Some k) c.ranges.index c.in-Some.ensures in
    let past : length vs < k = omega (arith, ap length c.items-len.ensures) in
    let throws = set_item-past h n c.args.index c.args.v units vs k array place past in
    λ kind. (λ r. cc, λ d. cc)

pub returns-then-place-len-2-clause-spent : goal.returns-then-place-len-2-clause-spent
returns-then-place-len-2-clause-spent c =
    let h = c.args.self.now in
    let n = c.args.array in
    let units = c.args.m.now.units in
    let vs = c.in-Array.items in
    let array = array_read c.self.inside.cells.items h n _ vs c.self.view_is c.requires.array c.index_mut.ensures.value c.in-Array.is in
    let k = c.in-Some.place in
    let place = place_is c.args.index (Some k) c.ranges.index c.in-Some.ensures in
    let past : length vs < k = omega (arith, ap length c.items-len.ensures) in
    let throws = set_item-past h n c.args.index c.args.v units vs k array place past in
    (λ r. cc, λ d. cc)

pub returns-then-not-spend_units-clause-thrown : goal.returns-then-not-spend_units-clause-thrown
returns-then-not-spend_units-clause-thrown c =
    let h = c.args.self.now in
    let n = c.args.array in
    let units = c.args.m.now.units in
    let vs = c.in-Array.items in
    let array = array_read c.self.inside.cells.items h n _ vs c.self.view_is c.requires.array c.index_mut.ensures.value c.in-Array.is in
    let k = c.in-Some.place in
    let place = place_is c.args.index (Some k) c.ranges.index c.in-Some.ensures in
    let end : k ≡ length vs = omega (arith, ap length c.items-len.ensures) in
    let over = not_left (units + 8) max_units c.if-not-spend_units.ensures.left.1 in
    let spends = set_item-end h n c.args.index c.args.v units vs k array place end ∙ charged-spends 8 tt _ units over in
    λ kind. (λ r. cc, λ d. cc)

pub returns-then-not-spend_units-clause-spent : goal.returns-then-not-spend_units-clause-spent
returns-then-not-spend_units-clause-spent c =
    let h = c.args.self.now in
    let n = c.args.array in
    let units = c.args.m.now.units in
    let vs = c.in-Array.items in
    let array = array_read c.self.inside.cells.items h n _ vs c.self.view_is c.requires.array c.index_mut.ensures.value c.in-Array.is in
    let k = c.in-Some.place in
    let place = place_is c.args.index (Some k) c.ranges.index c.in-Some.ensures in
    let end : k ≡ length vs = omega (arith, ap length c.items-len.ensures) in
    let over = not_left (units + 8) max_units c.if-not-spend_units.ensures.left.1 in
    let spends = set_item-end h n c.args.index c.args.v units vs k array place end ∙ charged-spends 8 tt _ units over in
    (λ r. cc, λ d. cc)

pub returns-in_err-push-clause-thrown : goal.returns-in_err-push-clause-thrown
returns-in_err-push-clause-thrown c =
    let h = c.args.self.now in
    let n = c.args.array in
    let units = c.args.m.now.units in
    let vs = c.in-Array.items in
    let array = array_read c.self.inside.cells.items h n _ vs c.self.view_is c.requires.array c.index_mut.ensures.value c.in-Array.is in
    let k = c.in-Some.place in
    let place = place_is c.args.index (Some k) c.ranges.index c.in-Some.ensures in
    let end : k ≡ length vs = omega (arith, ap length c.items-len.ensures) in
    let fits = c.if-not-spend_units.ensures.left.0 refl in
    let gives = set_item-end h n c.args.index c.args.v units vs k array place end ∙ charged-fits 8 tt _ units fits in
    let out = is_out c.from_residual.result c.from_residual.ensures.1 in
    λ kind. (λ r. cc, λ d. cc)

pub invariant_of-self-2 : goal.invariant_of-self-2
invariant_of-self-2 c =
    let h = c.args.self.now in
    let n = c.args.array in
    let units = c.args.m.now.units in
    let vs = c.in-Array.items in
    let array = array_read c.self.inside.cells.items h n _ vs c.self.view_is c.requires.array c.index_mut.ensures.value c.in-Array.is in
    let m = length h in
    let before : All (NamesBelow m) vs = All-slice_get (CellNamesBelow m) h n (Array vs) (subst IsSound c.self.view_is c.self.invariant).0 array in
    let names = subst (All (NamesBelow m)) (sym c.in_ok-push.ensures.ok) (All-push (NamesBelow m) vs c.args.v before c.requires.names) in
    IsSound-cells_set c.self.inside.cells.items h n (cell.Array c.push.new.self) c.self.view_is c.self.invariant names tt

pub returns-clause-ok : goal.returns-clause-ok
returns-clause-ok c =
    let h = c.args.self.now in
    let n = c.args.array in
    let units = c.args.m.now.units in
    let vs = c.in-Array.items in
    let array = array_read c.self.inside.cells.items h n _ vs c.self.view_is c.requires.array c.index_mut.ensures.value c.in-Array.is in
    let k = c.in-Some.place in
    let place = place_is c.args.index (Some k) c.ranges.index c.in-Some.ensures in
    let end : k ≡ length vs = omega (arith, ap length c.items-len.ensures) in
    let fits = c.if-not-spend_units.ensures.left.0 refl in
    let gives = set_item-end h n c.args.index c.args.v units vs k array place end ∙ charged-fits 8 tt _ units fits in
    let spent = ap (λ m. m.units) c.if-not-spend_units.ensures.spent in
    gives
    ∙ ap (λ ws. Gives tt (set h n (Array ws)) (units + 8)) (sym c.in_ok-push.ensures.ok)
    ∙ ap₂ (λ g u. Gives tt g u) (sym (cells_set c.self.inside.cells.items h n (cell.Array c.push.new.self) c.self.view_is)) (sym spent)

pub returns-clause-thrown : goal.returns-clause-thrown
returns-clause-thrown c =
    let h = c.args.self.now in
    let n = c.args.array in
    let units = c.args.m.now.units in
    let vs = c.in-Array.items in
    let array = array_read c.self.inside.cells.items h n _ vs c.self.view_is c.requires.array c.index_mut.ensures.value c.in-Array.is in
    let k = c.in-Some.place in
    let place = place_is c.args.index (Some k) c.ranges.index c.in-Some.ensures in
    let end : k ≡ length vs = omega (arith, ap length c.items-len.ensures) in
    let fits = c.if-not-spend_units.ensures.left.0 refl in
    let gives = set_item-end h n c.args.index c.args.v units vs k array place end ∙ charged-fits 8 tt _ units fits in
    λ kind. (λ r. cc, λ d. cc)
