use Rattle.std.proofs.Common.{map, ap, sym, ◌∙◌, Some}
use Rattle.serde_json.specs.View.{view}
use Rattle.serde_json.specs.Find.{as_array}
use Rattle.state_forms.proofs.Lists.{items_list-map}
use Rattle.state_forms.proofs.forms.array_of.Goals as goal

pub returns-in-Some : goal.returns-in-Some
returns-in-Some c = items_list-map view c.in-Some.items.now.items (as_array (view c.args.v.now)) c.in-Some.ensures ∙ ap (λ xs. Some (map view xs)) (sym c.as_slice.ensures.value)
