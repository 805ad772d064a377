use Rattle.std.proofs.Common.{ap, sym, ◌∙◌}
use Rattle.hog_captures.specs.Frames.{find_up}
use Rattle.hog_captures.specs.View.{words_at}
use Rattle.hog_captures.proofs.Places.{up_passed, up_found}
use Rattle.hog_captures.proofs.captured.Captured.place.Goals as goal

pub returns-then-eq : goal.returns-then-eq
returns-then-eq c =
    up_found c.deref-name-items.result.now c.loop-i.i c.name-item.result c.args.word.now c.loop-i-test.true c.name-item.is c.loop-i.invariant (sym c.eq.ensures ∙ c.if-eq.true)
    ∙ ap (λ xs. find_up (words_at xs) c.args.word.now) c.deref-name-items.ensures.value
    ∙ ap (λ ws. find_up ws c.args.word.now) c.self.view_is

pub loop-i-preserved : goal.loop-i-preserved
loop-i-preserved c =
    up_passed c.deref-name-items.result.now c.loop-i.i c.name-item.result c.args.word.now c.loop-i-test.true c.name-item.is c.loop-i.invariant (sym c.eq.ensures ∙ c.if-eq.false)
