-- A regex that was built from a text matches where the expression of that text does.
use Rattle.std.proofs.Common.{◌≡◌, ◌<◌, ◌≤◌, ℕ, List, length, true, Option, Some, None, IsSomeAnd, is_some, get_or, chars, subst}
use Rattle.regex.specs.Strings.{regex_source, regex_config, regex_pattern, regex_names, IsReadFromSource}
use Rattle.regex.specs.declared.string.regex.Regex.{Regex}
use Rattle.regex.proofs.ForCallers.{is_match_alike}
use Rattle.regex_hir.specs.Re.{Re}
use Rattle.regex_hir.specs.Find.{find_str}
use Rattle.regex_syntax.specs.Brackets.{Nested}
use Rattle.regex_syntax.specs.Captures.{SameCaptures}
use Rattle.regex_syntax.specs.Grammar.{Names, read, group_count}
use Rattle.regex_syntax.specs.Verdict.{Reads, default_config}
use Rattle.regex_syntax.specs.declared.Config.{Config}
use Rattle.event_patterns.specs.Patterns.{matches, matches_of, IsBuilt, IsPattern, HasBrace, read_of}

by_read : (text : List ℕ) (o : Option (Nested Re × Names)) (re : Re) (names : Names) (limit : ℕ) → ((k : ℕ) → get_or text k 0 < 256)
    → IsSomeAnd o (λ (r, found). (r.depth ≤ limit) × SameCaptures re r.value × (names ≡ found) × (group_count re ≤ length names))
    → is_some (find_str re text 0) ≡ matches_of o text
by_read text None re names limit bytes h = absurd h
by_read text (Some (r, found)) re names limit bytes h = is_match_alike h.1 text bytes true 0

pub built_matches : (regex : Regex) (text : List ℕ) → IsBuilt regex → ((k : ℕ) → get_or text k 0 < 256)
    → is_some (find_str (regex_pattern regex) text 0) ≡ matches (regex_source regex) text
unfolding Reads
built_matches regex text built bytes =
    by_read text (read default_config (chars (regex_source regex))) (regex_pattern regex) (regex_names regex) default_config.nest_limit bytes
    (subst (λ (config : Config). Reads config (regex_source regex) regex.pattern.program.hir (regex_names regex)) built.config built.read)

by_depth : (o : Option (Nested Re × Names)) (re : Re) (names : Names) (limit : ℕ)
    → IsSomeAnd o (λ (r, found). (r.depth ≤ limit) × SameCaptures re r.value × (names ≡ found) × (group_count re ≤ length names))
    → IsSomeAnd o (λ (r, found). r.depth ≤ limit)
by_depth None re names limit h = h
by_depth (Some (r, found)) re names limit h = h.0

-- what regex has read of a text without an open brace is a pattern
pub read_is_pattern : (regex : Regex) (text : List ℕ) → regex_source regex ≡ text → regex_config regex ≡ default_config → IsReadFromSource regex → ¬ (HasBrace text) → IsPattern text
unfolding Reads
read_is_pattern regex text same config is plain =
    let reads : Reads default_config text regex.pattern.program.hir (regex_names regex) =
    subst (λ (t : List ℕ). Reads default_config t regex.pattern.program.hir (regex_names regex)) same
    (subst (λ (config : Config). Reads config (regex_source regex) regex.pattern.program.hir (regex_names regex)) config is) in
    record { plain = plain; reads = by_depth (read_of text) (regex_pattern regex) (regex_names regex) default_config.nest_limit reads }
