use Rattle.std.proofs.Common.{◌++◌, drop, Some, ◌∙◌, ap}
use Rattle.hog_runner.proofs.TakesLemmas.{ReadsInto-first}
use Rattle.hog_runner.proofs.input.read_some.Goals as goal

pub returns-clause-moves : goal.returns-clause-moves
returns-clause-moves g c =
    ReadsInto-first {a = g.S.Source.left c.args.source.now} c.in_ok-n.n
    (λ xs told. c.in_ok-extend_from_slice.ensures.items ∙ ap (λ zs. c.args.text.now.items ++ zs) (c.in_ok-n.ensures.bytes xs told))
    c.in_ok-n.ensures.rest

pub returns-clause-end : goal.returns-clause-end
returns-clause-end g c none xs told =
    c.in_ok-n.ensures.rest xs told ∙ ap Some (ap (λ k. drop k xs) none ∙ c.in_ok-n.ensures.end none c.requires xs told)
