use Rattle.std.proofs.Common.{[], ◌∷◌, ◌++◌, ap₂, sym, ◌∙◌}
use Rattle.hog_captures.proofs.Places.{captures_more}
use Rattle.hog_captures.proofs.captured.Captured.captures.Goals as goal

pub loop-word-preserved : goal.loop-word-preserved
loop-word-preserved c =
    c.in_ok-push.ensures.items
    ∙ ap₂ (λ r x. r ++ x ∷ []) c.loop-word.invariant c.capture.ensures
    ∙ sym (captures_more c.args.frame.now c.deref-word-items.result.now c.loop-word.word-index c.word-item.result c.loop-word-test.true c.word-item.is)
