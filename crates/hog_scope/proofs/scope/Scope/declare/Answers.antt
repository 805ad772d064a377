use Rattle.std.proofs.Common.{◌≡◌, [], ◌∷◌, ◌++◌, None, false, ap, ap₂, ◌∙◌}
use Rattle.std.specs.Map.{lookup}
use Rattle.std.specs.Prelude.{bytes_eq}
use Rattle.std.proofs.lemmas.List.{map-append}
use Rattle.indexmap.proofs.CallerLemmas.{insert_entry-new}
use Rattle.hog_scope.specs.declared.scope.Variable.{Variable}
use Rattle.hog_scope.specs.Scopes.{variable_in}
use Rattle.hog_scope.proofs.Shown.{shown, lookup-shown}
use Rattle.hog_scope.proofs.scope.Scope.declare.Goals as goal

pub returns : goal.returns
returns c =
    let es = c.self.inside.names.entries in
    let x : Variable = record { number = c.args.number; is_seen = false } in
    let none : lookup (λ k. bytes_eq c.as_str.result.now k.now) es ≡ None =
    lookup-shown c.as_str.result.now es ∙ ap₂ variable_in c.self.view_is c.as_str.ensures ∙ c.requires in
    record {
      ok = ap shown (c.in_ok-insert.ensures.entries ∙ insert_entry-new _ c.self.inside.names c.as_str.result x none)
          ∙ map-append (λ e. (e.0.now, e.1)) es ((c.as_str.result, x) ∷ [])
          ∙ ap₂ (λ s w. s ++ (w, x) ∷ []) c.self.view_is c.as_str.ensures;
    }
