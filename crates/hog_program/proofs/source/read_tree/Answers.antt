use Rattle.std.proofs.Common.{◌≤◌, length, ◌∙◌, arith}
use Rattle.std.proofs.lemmas.Result.{err_from_is_err_and}
use Rattle.hog_program.specs.Source.{longest}
use Rattle.hog_program.proofs.Refusals.{lexer_refuses, parser_refuses, tokens_fit, same_err}
use Rattle.hog_program.proofs.source.read_tree.Goals as goal

pub returns-in_err-tokens-clause-refused : goal.returns-in_err-tokens-clause-refused
returns-in_err-tokens-clause-refused c s same other =
    let p = err_from_is_err_and c.from_residual.result c.from_residual.ensures.1 in
    let short : length c.args.source.now ≤ longest = omega (arith, c.if-source-gt-MOST_BYTES.false) in
    let e = c.in_err-tokens.ensures in
    lexer_refuses c.args.source.now c.in_err-tokens.field-0.0 short e.not_utf8 e.longest e.fault e.utf8 s (same_err c.from_residual.result _ _ same p.1 ∙ p.2) other

pub returns-in_err-tree-clause-refused : goal.returns-in_err-tree-clause-refused
returns-in_err-tree-clause-refused c s same other =
    let p = err_from_is_err_and c.from_residual-in_err-tree.result c.from_residual-in_err-tree.ensures.1 in
    let short : length c.args.source.now ≤ longest = omega (arith, c.if-source-gt-MOST_BYTES.false) in
    let e = rw c.in_ok-tokens.ensures.text at c.in_err-tree.ensures in
    parser_refuses c.args.source.now c.in_ok-tokens.tokens.list c.in_err-tree.field-0.0 short c.in_ok-tokens.ensures.tokens
    e.syntax e.nested e.after_forty s (same_err c.from_residual-in_err-tree.result _ _ same p.1 ∙ p.2) other

pub returns-clause-count : goal.returns-clause-count
returns-clause-count c =
    let fit = tokens_fit 0 (length c.args.source.now) c.in_ok-tokens.tokens.list c.in_ok-tokens.ensures.in_order in
    omega (arith, fit, c.in_ok-tree.ensures.count)
