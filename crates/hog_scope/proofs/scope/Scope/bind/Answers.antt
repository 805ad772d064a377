use Rattle.std.proofs.Common.{◌≡◌, Some, None, true, sym, ap, ap₂, ◌∙◌}
use Rattle.std.specs.Map.{lookup}
use Rattle.std.specs.Prelude.{bytes_eq}
use Rattle.hog_scope.specs.Scopes.{variable_in, with_seen}
use Rattle.hog_scope.proofs.Shown.{shown, lookup-shown, seen-shown, absent-seen}
use Rattle.hog_scope.proofs.scope.Scope.bind.Goals.{in-Some, in_default}
use Rattle.hog_scope.proofs.scope.Scope.bind.Goals as goal

pub returns : goal.returns
returns c =
    let es = c.self.inside.names.entries in
    elim c.match-get_mut.branch [
      | in-Some w ↦
          (let x = w.in-Some.variable.now in
          let there : lookup (λ k. bytes_eq c.as_str.result.now k.now) es ≡ Some x = sym w.in-Some.ensures.value in
          ap (λ s. shown s.names.entries) w.self-inside-is
          ∙ ap shown (c.get_mut.follows.holds (record x { is_seen = true })).0
          ∙ seen-shown c.as_str.result.now es x there
          ∙ ap₂ with_seen c.self.view_is c.as_str.ensures)
      | in_default w ↦
          (let none : variable_in (shown es) c.as_str.result.now ≡ None = sym (lookup-shown c.as_str.result.now es) ∙ sym w.in_default.ensures.value in
          ap (λ s. shown s.names.entries) w.self-inside-is
          ∙ ap (λ m. shown m.entries) c.get_mut.follows.holds-at-none
          ∙ sym (absent-seen c.as_str.result.now (shown es) none)
          ∙ ap₂ with_seen c.self.view_is c.as_str.ensures)
    ]
