use Rattle.std.proofs.Common.{[], ◌∷◌, ◌++◌, take, ap, sym, ◌∙◌}
use Rattle.std.proofs.lemmas.List.{map-append, take_more}
use Rattle.hog_tree.specs.View.{word_of, words_of}
use Rattle.hog_captures.specs.Finding.{bind, bind_all}
use Rattle.hog_captures.proofs.Finds.{binds_more}
use Rattle.hog_captures.proofs.finder.Finder.bind_all.Goals as goal

pub loop-name-preserved : goal.loop-name-preserved
loop-name-preserved c =
    let ns = c.items-name-items.result.now in
    let i = c.loop-name.name-index in
    let n = c.name-item.result in
    c.in_ok-bind.ensures
    ∙ ap (bind n.word) c.loop-name.invariant
    ∙ sym (binds_more (words_of (take i ns)) n.word c.args.self.now)
    ∙ ap (λ ws. bind_all ws c.args.self.now) (sym (map-append word_of (take i ns) (n ∷ [])))
    ∙ ap (λ qs. bind_all (words_of qs) c.args.self.now) (sym (take_more ns i n c.loop-name-test.true ∙ ap (λ q. take i ns ++ q ∷ []) (sym c.name-item.is)))
