use Rattle.std.proofs.Common.{[], ◌∷◌, ◌++◌, take, Some, ap, sym, ◌∙◌}
use Rattle.std.proofs.lemmas.List.{map-append, take_more}
use Rattle.hog_tree.specs.View.{word_of, words_of}
use Rattle.hog_captures.specs.Frames.{with_local, inner_frame}
use Rattle.hog_captures.proofs.Places.{params_more}
use Rattle.hog_captures.proofs.frame.Frame.inner.Goals as goal

pub loop-param-preserved : goal.loop-param-preserved
loop-param-preserved c =
    let ps = c.items-param-items.result.now in
    let i = c.loop-param.param-index in
    let p = c.param-item.result in
    c.in_ok-declare.ensures.ok
    ∙ ap (with_local (Some p.word)) c.loop-param.invariant
    ∙ ap (λ ls. record { locals = ls; ups = c.args.captured }) (sym (params_more (words_of (take i ps)) p.word []))
    ∙ ap (λ ws. inner_frame ws c.args.captured) (sym (map-append word_of (take i ps) (p ∷ [])))
    ∙ ap (λ qs. inner_frame (words_of qs) c.args.captured) (sym (take_more ps i p c.loop-param-test.true ∙ ap (λ q. take i ps ++ q ∷ []) (sym c.param-item.is)))
