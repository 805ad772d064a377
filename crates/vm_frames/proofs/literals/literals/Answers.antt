use Rattle.std.proofs.Common.{rules, ◌≡◌, map, sym, ap, subst, ◌∙◌}
use Rattle.std.specs.Map.Iter.{deref}
use Rattle.std.proofs.lemmas.Map.Iter.{iter_end}
use Rattle.vm_frames.specs.Places.{shown, AreInOrder}
use Rattle.vm_frames.proofs.literals.literals.Goals as goal

pub returns : goal.returns
returns c =
    let all : map deref c.loop-text.yielded ≡ c.in_ok-set.set.keys = search (rules, iter_end) in
    record {
      distinct = ap shown (c.loop-text.invariant ∙ all) ∙ c.in_ok-set.ensures;
      in_order = subst AreInOrder (sym (c.loop-text.invariant ∙ all)) c.len.ensures.ordered;
    }
