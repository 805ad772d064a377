use Rattle.std.proofs.Common.{subst}
use Rattle.hog_json.specs.Texts.{shown}
use Rattle.hog_library.specs.Natives.{to_string_called, text_made}
use Rattle.hog_library.specs.Products.{Finds}
use Rattle.hog_library.proofs.Found.{found_text}
use Rattle.hog_library.proofs.text_natives.to_string.Goals as goal

pub returns : goal.returns
unfolding to_string_called
returns c =
    let h = c.args.heap.now in
    let units = c.args.m.now.units in
    subst (λ v. Finds (text_made h units (shown h v)) c.new_text.result h units) c.argument.ensures.value
    (found_text _ c.show.result _ h units _ c.new_text.ensures c.units_left.ensures c.show.ensures.text c.show.ensures.spent)
