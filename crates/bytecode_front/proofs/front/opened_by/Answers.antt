use Rattle.std.proofs.Common.{sym, ◌∙◌}
use Rattle.serde_json.specs.Find.{as_str}
use Rattle.serde_json.specs.View.{view}
use Rattle.bytecode_front.specs.Views.{views}
use Rattle.bytecode_front.proofs.Shown.{opened_shown}
use Rattle.bytecode_front.proofs.front.opened_by.Goals as goal

pub returns-then-callable_is_there : goal.returns-then-callable_is_there
returns-then-callable_is_there c =
    opened_shown c.args.room c.args.params c.args.n c.args.len (as_str (view c.args.name.now)) (views c.args.rest.now) (sym c.callable_is_there.ensures ∙ c.if-callable_is_there.true)
