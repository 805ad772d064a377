use Rattle.std.proofs.Common.{◌≡◌, ◌-◌, length, take, drop, ap, sym, arith, false}
use Rattle.std.proofs.Math.Seq.{drop-length}
use Rattle.std.proofs.lemmas.List.{length-drop, take_all}
use Rattle.hog_tree.specs.View.{stm_of, stms_from}
use Rattle.hog_captures.specs.Frees.{stms_frees}
use Rattle.hog_compiler.specs.Code.{name_pop, block_pops}
use Rattle.hog_compiler.proofs.Joins.{adds_none, adds_at}
use Rattle.hog_compiler.proofs.BlockPops.{adds_pop}
use Rattle.hog_compiler.proofs.pops.block_pops.Goals as goal

pub locals-init : goal.locals-init
locals-init c = record {
  within = omega arith;
  code = adds_at (sym (ap (λ ys. block_pops (stms_from ys)) (drop-length c.args.list.now))) (adds_none c.args.out.now);
}

pub locals-preserved : goal.locals-preserved
locals-preserved c =
    let within = c.locals.invariant.within in
    let some = c.locals-test.true in
    let xs = c.args.list.now in
    let n = c.locals.rest in
    let behind : take (length xs - n) (drop n xs) ≡ drop n xs = take_all (length xs - n) (drop n xs) (omega (arith, length-drop n xs)) in
    let pop = adds_at (ap (λ ys. name_pop (stm_of c.index-list-at.result) (stms_frees false (stms_from ys))) behind) c.in_ok-name_pop.ensures in
    record {
      within = omega arith;
      code = adds_pop xs _ n c.index-list-at.result (omega arith) (omega arith) c.index-list-at.is c.locals.invariant.code pop;
    }
