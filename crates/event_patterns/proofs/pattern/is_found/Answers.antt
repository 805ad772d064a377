use Rattle.std.proofs.Common.{rules, ◌≡◌, ℕ, List, ap, ◌∙◌, is_some}
use Rattle.regex_hir.specs.Find.{find_str}
use Rattle.regex_hir.specs.Re.{Re}
use Rattle.regex.specs.Strings.{regex_pattern}
use Rattle.event_patterns.proofs.Alike.{built_matches}
use Rattle.event_patterns.proofs.pattern.is_found.Goals as goal

pub returns : goal.returns
returns c =
    let is : c.in-Ok.haystack.now ≡ c.args.bytes.now = search rules in
    c.is_match.ensures.found ∙ ap (λ (re : Re). is_some (find_str re c.in-Ok.haystack.now 0)) c.in_ok-matcher.ensures.pattern
    ∙ ap (λ (text : List ℕ). is_some (find_str (regex_pattern c.args.regex.now) text 0)) is
    ∙ built_matches c.args.regex.now c.args.bytes.now c.requires.built (λ k. (c.type_inv.bytes k).fits)
