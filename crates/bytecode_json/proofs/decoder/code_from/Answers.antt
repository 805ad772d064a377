use Rattle.std.proofs.Common.{◌≡◌, ◌<◌, ◌^◌, length, Some, sym, ap, ◌∙◌, subst, arith}
use Rattle.serde_json.specs.Find.{as_array}
use Rattle.serde_json.specs.View.{view, items_of}
use Rattle.bytecode_builder.specs.Placed.{Answers}
use Rattle.bytecode_json.specs.Text.{IsShort, items_list, behind_header, of_elements, of_array}
use Rattle.bytecode_front.specs.Views.{views}
use Rattle.bytecode_json.proofs.Decoded.{items_back}
use Rattle.bytecode_front.proofs.Slices.{views_length}
use Rattle.bytecode_json.proofs.decoder.code_from.Goals as goal

pub code_in-requires : goal.code_in-requires
code_in-requires c =
    let vs = c.in-Some.items.now.items in
    let short : length (items_list (items_of (views vs))) < 2 ^ 32 = subst IsShort (sym c.in-Some.ensures) c.requires in
    omega (arith, short, ap length (items_back (views vs)), views_length vs, c.as_slice.ensures.len, ap length c.as_slice.ensures.value)

pub returns-in-Some : goal.returns-in-Some
returns-in-Some c =
    let vs = c.in-Some.items.now.items in
    subst (Answers c.code_in.result)
    (ap (λ xs. of_elements (behind_header (views xs))) c.as_slice.ensures.value ∙ ap (λ ds. of_elements (behind_header ds)) (sym (items_back (views vs))) ∙ ap of_array c.in-Some.ensures)
    c.code_in.ensures
