use Rattle.std.proofs.Common.{refl, subst}
use Rattle.hog_tree.specs.View.{words_of}
use Rattle.hog_scope.specs.Words.{all_declared}
use Rattle.hog_scope.specs.Events.{AddsEvents}
use Rattle.hog_scope.proofs.Added.{adds_nothing, adds_more, adds_all}
use Rattle.hog_scope.proofs.Rows.{all_declared-append}
use Rattle.hog_scope.proofs.words.params.Goals as goal

pub loop-name-init : goal.loop-name-init
loop-name-init c = adds_nothing c.args.out.now

pub loop-name-preserved : goal.loop-name-preserved
loop-name-preserved c =
    adds_more (λ ns. all_declared (words_of ns)) (λ ns. ns) all_declared-append (λ xs ys. refl)
    c.items-name-items.result.now c.loop-name.name-index c.name-item.result c.loop-name-test.true c.name-item.is
    c.loop-name.invariant c.in_ok-declared.ensures

pub returns : goal.returns
returns c =
    subst (λ ns. AddsEvents c.args.out.now c.loop-name.out (all_declared (words_of ns)) ns) c.items-name-items.ensures
    (adds_all (λ ns. all_declared (words_of ns)) (λ ns. ns) c.items-name-items.result.now c.loop-name.name-index c.loop-name-test.false c.loop-name.invariant)
