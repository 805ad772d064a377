use Rattle.serde_json.specs.View.{view}
use Rattle.event_reader.proofs.Globals.{are_globals, are_short}
use Rattle.event_reader.proofs.meeting.globals_for.Goals as goal

pub returns-clause-globals : goal.returns-clause-globals
returns-clause-globals c =
    let event = c.args.event.now in
    let function = c.args.function.now in
    let e = view event.value in
    let i = view function.inputs in
    let text = c.in_ok-globals_of.field-0.text in
    are_globals c.kept_globals.ensures.kept e i text c.in_ok-globals_of.ensures.reads_back
    (are_short e i text event.size function.size c.in_ok-globals_of.ensures.text (c.globals_size.ensures.size e i) event.has_size function.has_size event.is_short c.requires)
