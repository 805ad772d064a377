use Rattle.std.proofs.Common.{ℕ, List, take, sum_by, length, sym, ap, ◌∙◌, arith}
use Rattle.std.proofs.lemmas.List.Sums.{sum_by_push}
use Rattle.hog_value.specs.Values.{Val}
use Rattle.hog_value.specs.Cells.{cost_of_pair}
use Rattle.hog_value.proofs.Lists.{take_more_at}
use Rattle.hog_value.proofs.pairs.Pairs.cost.Goals as goal

pub loop-i-preserved : goal.loop-i-preserved
loop-i-preserved c =
    let ps = c.self.inside.map.entries in
    let p : List ℕ × Val = (c.in-Some.key.now, c.in-Some.field-0-1.now) in
    let sum = ap (sum_by (λ q. cost_of_pair q.0)) (take_more_at ps c.loop-i.i p (sym c.in-Some.ensures.entry))
    ∙ sum_by_push (λ q. cost_of_pair q.0) (take c.loop-i.i ps) p in
    let len = ap length c.bytes.ensures.value in
    omega (arith, sum, len)
