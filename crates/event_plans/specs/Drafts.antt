-- What is seen of the types of drafts.
use Rattle.std.specs.Prelude.{map, List}
use Rattle.serde_json.specs.Data.{Data}
use Rattle.serde_json.specs.View.{view}
use Rattle.event_plans.specs.declared.draft.Draft.{Draft}
use Rattle.event_plans.specs.declared.event.Event.{Event}
use Rattle.event_plans.specs.declared.function.Function.{Function}
use Rattle.event_plans.specs.Draft.{DraftOf}
use Rattle.event_plans.specs.Function.{FunctionOf}

abbrev pub data_of : Event → Data
data_of e = view e.value

abbrev pub function_of : Function → FunctionOf
function_of f = record {
  name = f.name;
  source = f.source;
  filter = f.filter;
  pattern = f.pattern;
  inputs = view f.inputs;
  priority = f.priority;
  answers = f.answers;
}

abbrev pub datas_of : List Event → List Data
datas_of es = map data_of es

abbrev pub functions_of : List Function → List FunctionOf
functions_of fs = map function_of fs

abbrev pub draft_of : Draft → DraftOf
draft_of draft = record { events = datas_of draft.events.items; functions = functions_of draft.functions.items }
