use Rattle.std.proofs.Common.{◌+◌, ◌++◌, ◌∷◌, [], arith, sym, ap₂, ◌∙◌}
use Rattle.std.specs.Prelude.{pos}
use Rattle.std.proofs.lemmas.List.FromFn.{map-range_with_len_more}
use Rattle.hog_value.specs.declared.value.Value.TheVariants.{Int}
use Rattle.hog_library.proofs.list_natives.numbers_to.Goals as goal

pub loop-k-preserved : goal.loop-k-preserved
loop-k-preserved c =
    c.in_ok-push.ensures.items
    ∙ ap₂ (λ vs v. vs ++ v ∷ []) c.loop-k.invariant c.in_ok-count_value.ensures
    ∙ sym (map-range_with_len_more (λ k. Int (pos k)) 1 c.loop-k.k (c.loop-k.k + 1) (omega arith))
