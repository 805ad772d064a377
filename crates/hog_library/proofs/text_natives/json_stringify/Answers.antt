use Rattle.std.proofs.Common.{subst}
use Rattle.hog_json.specs.Texts.{json_text_of}
use Rattle.hog_library.specs.Natives.{json_stringify_called, text_made}
use Rattle.hog_library.specs.Products.{Finds}
use Rattle.hog_library.proofs.Found.{found_text}
use Rattle.hog_library.proofs.text_natives.json_stringify.Goals as goal

pub returns : goal.returns
unfolding json_stringify_called
returns c =
    let h = c.args.heap.now in
    let units = c.args.m.now.units in
    subst (λ v. Finds (text_made h units (json_text_of h v)) c.new_text.result h units) c.argument.ensures.value
    (found_text _ c.json_text.result _ h units _ c.new_text.ensures c.units_left.ensures c.json_text.ensures.text c.json_text.ensures.spent)
