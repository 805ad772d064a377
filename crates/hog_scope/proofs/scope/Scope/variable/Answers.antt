use Rattle.std.proofs.Common.{ap, ◌∙◌}
use Rattle.hog_scope.specs.Scopes.{variable_in}
use Rattle.hog_scope.proofs.Shown.{shown, lookup-shown}
use Rattle.hog_scope.proofs.scope.Scope.variable.Goals as goal

pub returns : goal.returns
returns c =
    c.copied.ensures ∙ c.get.ensures.value
    ∙ lookup-shown c.as_str.result.now c.self.inside.names.entries
    ∙ ap (variable_in (shown c.self.inside.names.entries)) c.as_str.ensures
    ∙ ap (λ s. variable_in s c.args.word.now) c.self.view_is
