use Rattle.std.proofs.Common.{◌≡◌, Some, length, sym, ap, ◌∙◌}
use Rattle.std.specs.Prelude.{option_and_then, option_map}
use Rattle.hog_value.specs.Cells.{Array}
use Rattle.hog_value.specs.Views.{cell_of}
use Rattle.hog_value.specs.Operations.{made}
use Rattle.hog_library.specs.Given.{argument, cell_given, with_given}
use Rattle.hog_library.specs.Natives.{values_called, values_of_cell}
use Rattle.hog_library.proofs.Keys.{values_name}
use Rattle.hog_library.proofs.list_natives.values.Goals as goal

pub returns-in-Some-2 : goal.returns-in-Some-2
unfolding values_called
returns-in-Some-2 c =
    let h = c.args.heap.now in
    let units = c.args.m.now.units in
    let cell = cell_of c.in-Some.cell.now in
    let given : cell_given h (argument c.args.args.now 0) ≡ Some cell =
    ap (cell_given h) (sym c.argument.ensures.value) ∙ sym c.in-Some.ensures.value in
    let listed : Some c.new.result ≡ values_of_cell cell =
    ap Some c.new.ensures ∙ ap (option_map (λ vs. vs.items)) (sym c.in-Some-2.is) ∙ c.in_ok-values.ensures in (
      ap (λ o. with_given (option_and_then values_of_cell o) (λ vs. made (Array vs) h units)) given
          ∙ ap (λ o. with_given o (λ vs. made (Array vs) h units)) (sym listed),
      values_name (length h) cell c.new.result c.in-Some.ensures.names listed,
    )
