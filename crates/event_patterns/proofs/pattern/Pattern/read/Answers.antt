use Rattle.std.proofs.Common.{rules, ◌≡◌, ℕ, List, inr, subst, sym}
use Rattle.event_patterns.specs.Patterns.{HasBrace, GrammarRefuses, IsPattern}
use Rattle.event_patterns.proofs.Alike.{read_is_pattern}
use Rattle.event_patterns.proofs.pattern.Pattern.read.Goals as goal

pub returns-in-Ok-new-clause-pattern : goal.returns-in-Ok-new-clause-pattern
returns-in-Ok-new-clause-pattern c =
    let is = c.in-Ok-new.ensures in
    let same : c.in-Ok.source.now ≡ c.args.text.now = search rules in
    let plain : ¬ (HasBrace c.args.text.now) = search rules in
    subst IsPattern (sym is.source) (read_is_pattern c.in-Ok-new.regex c.in-Ok.source.now is.source is.config is.read (subst (λ (t : List ℕ). ¬ (HasBrace t)) (sym same) plain))

pub returns-in-Err-Syntax-clause-refused : goal.returns-in-Err-Syntax-clause-refused
returns-in-Err-Syntax-clause-refused c =
    let e = c.in-Err-Syntax.field-0-0 in
    let same : c.in-Ok.source.now ≡ c.args.text.now = search rules in
    let by = c.in-Err-Syntax.ensures.by_grammar e c.in-Err-Syntax.field-0-is in
    let kind = rw c.in-Err-Syntax.field-0-is at c.in-Err-Syntax.ensures.kind in
    λ _. inr (subst GrammarRefuses same (e.kind, by, kind))
