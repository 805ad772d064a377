use Rattle.std.proofs.Common.{◌≤◌, length, drop}
use Rattle.hog_tree.specs.View.{stms_from}
use Rattle.hog_compiler.specs.AddsCode.{AddsCode}
use Rattle.hog_compiler.specs.Code.{block_pops}
use Rattle.hog_compiler.proofs.pops.block_pops.Given as goal

abbrev pub invariant-locals : goal.invariant-locals
invariant-locals l = record {
  within : l.rest ≤ length l.list;
  code : AddsCode l.fn.out l.out (block_pops (stms_from (drop l.rest l.list)));
}

abbrev pub decreases-locals : goal.decreases-locals
decreases-locals l = l.rest
