use Rattle.std.proofs.Common.{◌≡◌, Some, length, arith, sym, ap, subst, ◌∙◌, All}
use Rattle.std.specs.Prelude.{Err}
use Rattle.hog_value.specs.Values.{NamesBelow}
use Rattle.hog_value.specs.Cells.{Array, Dict}
use Rattle.hog_value.specs.Views.{cell_of}
use Rattle.hog_value.specs.Operations.{made}
use Rattle.hog_value.proofs.Charges.{charged-spends}
use Rattle.hog_library.specs.Given.{argument, cell_given, with_given}
use Rattle.hog_library.specs.Natives.{keys_called, keys_of_cell, numbers_to}
use Rattle.hog_library.proofs.Found.{found_given, finds_stop}
use Rattle.hog_library.proofs.Keys.{numbers_to_name}
use Rattle.hog_library.proofs.Together.{array_spends, length-numbers_to}
use Rattle.hog_library.proofs.list_natives.keys.Goals as goal

pub returns-then-n-units_left : goal.returns-then-n-units_left
unfolding keys_called made
returns-then-n-units_left c =
    let h = c.args.heap.now in
    let units = c.args.m.now.units in
    let given : cell_given h (argument c.args.args.now 0) ≡ Some (Array c.in-Some-Array.items) =
    ap (cell_given h) (sym c.argument.ensures.value) ∙ sym c.in-Some-Array.ensures.value ∙ ap (λ x. Some (cell_of x)) c.in-Some-Array.field-0-is in
    let count = length-numbers_to (length c.in-Some-Array.items) in
    let same = ap length c.items-n.ensures in
    let left = c.units_left.ensures in
    ap (λ o. with_given o (keys_of_cell h units)) given
    ∙ charged-spends _ _ _ units (omega (arith, count, same, left, c.if-n-units_left.true))

pub returns-in_err-key_texts-in-Some-Dict : goal.returns-in_err-key_texts-in-Some-Dict
unfolding keys_called
returns-in_err-key_texts-in-Some-Dict c =
    let h = c.args.heap.now in
    let units = c.args.m.now.units in
    let given : cell_given h (argument c.args.args.now 0) ≡ Some (Dict c.in-Some-Dict.pairs) =
    ap (cell_given h) (sym c.argument.ensures.value) ∙ sym c.in-Some-Dict.ensures.value ∙ ap (λ x. Some (cell_of x)) c.in-Some-Dict.field-0-is in
    let r = c.from_residual-in_err-key_texts-in-Some-Dict.result in
    found_given _ _ _ r h units given
    (finds_stop _ c.in_err-key_texts-in-Some-Dict.field-0.0 r h units c.from_residual-in_err-key_texts-in-Some-Dict.ensures.1
    (λ is. array_spends _ h units _ c.units_left-in-Some-Dict.ensures (c.in_err-key_texts-in-Some-Dict.ensures.spent (ap Err is))))

pub returns-in_ok-numbers_to-in-Some-Array : goal.returns-in_ok-numbers_to-in-Some-Array
unfolding keys_called
returns-in_ok-numbers_to-in-Some-Array c =
    let h = c.args.heap.now in
    let units = c.args.m.now.units in
    let given : cell_given h (argument c.args.args.now 0) ≡ Some (Array c.in-Some-Array.items) =
    ap (cell_given h) (sym c.argument.ensures.value) ∙ sym c.in-Some-Array.ensures.value ∙ ap (λ x. Some (cell_of x)) c.in-Some-Array.field-0-is in
    let numbers : c.new.result ≡ numbers_to (length c.in-Some-Array.items) =
    c.new.ensures ∙ c.in_ok-numbers_to-in-Some-Array.ensures ∙ ap (λ vs. numbers_to (length vs)) c.items-n.ensures in (
      ap (λ o. with_given o (keys_of_cell h units)) given ∙ ap (λ vs. made (Array vs) h units) (sym numbers),
      subst (All (NamesBelow (length h))) (sym numbers) (numbers_to_name (length h) (length c.in-Some-Array.items)),
    )
