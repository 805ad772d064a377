use Rattle.std.proofs.Common.{rules, ◌≡◌, map, sym, ap, ◌∙◌}
use Rattle.std.specs.Map.Iter.{deref}
use Rattle.std.proofs.lemmas.Map.Iter.{iter_end}
use Rattle.std.proofs.lemmas.Simd.{map-map}
use Rattle.hog_scope.proofs.texts.literals.Goals as goal

pub returns : goal.returns
returns c =
    let all : map deref c.loop-text.yielded ≡ c.in_ok-set.set.keys = search (rules, iter_end) in
    c.new.ensures ∙ c.loop-text.invariant
    ∙ sym (map-map (λ t. t.now) deref c.loop-text.yielded)
    ∙ ap (map (λ t. t.now)) all
    ∙ c.in_ok-set.ensures
