use Rattle.std.proofs.Common.{◌≤◌, length, refl, sym, ap, ◌∙◌, subst, arith}
use Rattle.std.proofs.lemmas.Result.{err_from_is_err_and}
use Rattle.hog_tree.specs.View.{tree_of}
use Rattle.hog_tree.specs.Names.{tree_names}
use Rattle.hog_tree.specs.Nesting.{deepest, stms_nesting}
use Rattle.hog_scope.specs.Scopes.{items_of}
use Rattle.hog_program.specs.Build.{IsUnbuilt}
use Rattle.hog_program.specs.Source.{longest}
use Rattle.hog_program.specs.Stops.{of_scope}
use Rattle.hog_program.proofs.Refusals.{lexer_refuses, parser_refuses, same_err}
use Rattle.hog_program.proofs.Nesting.{whole_low}
use Rattle.hog_program.proofs.Wholes.{none_unbuilt, source_of, resolved, faulty, own_of}
use Rattle.hog_program.proofs.source.whole_of.Goals as goal

pub returns-in_err-tokens-clause-unbuilt : goal.returns-in_err-tokens-clause-unbuilt
returns-in_err-tokens-clause-unbuilt c s same other =
    let p = err_from_is_err_and c.from_residual.result c.from_residual.ensures.1 in
    let short : length c.args.source.now ≤ longest = omega (arith, c.if-source-gt-MOST_BYTES.false) in
    let e = c.in_err-tokens.ensures in
    none_unbuilt c.args.source.now s (lexer_refuses c.args.source.now c.in_err-tokens.field-0.0 short e.not_utf8 e.longest e.fault e.utf8 s (same_err c.from_residual.result _ _ same p.1 ∙ p.2) other)

pub returns-in_err-program-clause-unbuilt : goal.returns-in_err-program-clause-unbuilt
returns-in_err-program-clause-unbuilt c s same other =
    let p = err_from_is_err_and c.from_residual-in_err-program.result c.from_residual-in_err-program.ensures.1 in
    let short : length c.args.source.now ≤ longest = omega (arith, c.if-source-gt-MOST_BYTES.false) in
    let e = rw c.in_ok-tokens.ensures.text at c.in_err-program.ensures in
    none_unbuilt c.args.source.now s (parser_refuses c.args.source.now c.in_ok-tokens.tokens.list c.in_err-program.field-0.0 short c.in_ok-tokens.ensures.tokens
    e.syntax e.nested e.after_forty s (same_err c.from_residual-in_err-program.result _ _ same p.1 ∙ p.2) other)

pub returns-in_err-resolve-clause-unbuilt : goal.returns-in_err-resolve-clause-unbuilt
returns-in_err-resolve-clause-unbuilt c s same other =
    let p = err_from_is_err_and c.from_residual-in_err-resolve.result c.from_residual-in_err-resolve.ensures.1 in
    let short : length c.args.source.now ≤ longest = omega (arith, c.if-source-gt-MOST_BYTES.false) in
    let found = c.in_ok-program.ensures.found in
    let source = source_of c.args.source.now c.in_ok-tokens.tokens (tree_of c.in_ok-program.program) (tree_of c.in_ok-whole.whole) found.0 c.in_ok-tokens.ensures.text short c.in_ok-tokens.ensures.tokens found.1 found.2 c.in_ok-whole.ensures.whole in
    let is = same_err c.from_residual-in_err-resolve.result _ _ same p.1 ∙ p.2 in
    let e = c.in_err-resolve.field-0.0 in
    let found_fault = c.in_err-resolve.ensures.refused e refl (λ om. other (is ∙ ap of_scope om)) in
    let own = own_of c.args.source.now c.in_ok-tokens.tokens c.in_ok-program.program (tree_of c.in_ok-whole.whole) (tree_names c.in_ok-whole.whole)
    c.in_ok-tokens.ensures.text c.in_ok-whole.ensures.whole c.in_ok-program.ensures.names c.in_ok-whole.ensures.names in
    subst (IsUnbuilt c.args.source.now) (sym is)
    (faulty c.args.source.now (tree_of c.in_ok-whole.whole) source (tree_names c.in_ok-whole.whole) own (items_of (tree_of c.in_ok-whole.whole)) refl e found_fault)

pub returns-clause-whole : goal.returns-clause-whole
returns-clause-whole c =
    let short : length c.args.source.now ≤ longest = omega (arith, c.if-source-gt-MOST_BYTES.false) in
    let found = c.in_ok-program.ensures.found in
    let source = source_of c.args.source.now c.in_ok-tokens.tokens (tree_of c.in_ok-program.program) (tree_of c.in_ok-whole.whole) found.0 c.in_ok-tokens.ensures.text short c.in_ok-tokens.ensures.tokens found.1 found.2 c.in_ok-whole.ensures.whole in
    record { source = source; items = c.in_ok-resolve.field-0.items; resolved = resolved (tree_names c.in_ok-whole.whole) (items_of (tree_of c.in_ok-whole.whole)) c.in_ok-resolve.field-0.items c.in_ok-resolve.ensures.items }

pub returns-clause-low : goal.returns-clause-low
returns-clause-low c =
    subst (λ w. stms_nesting w ≤ deepest) (sym c.in_ok-whole.ensures.whole)
    (omega (arith, whole_low c.in_ok-tokens.tokens (tree_of c.in_ok-program.program), c.in_ok-program.ensures.nesting))
