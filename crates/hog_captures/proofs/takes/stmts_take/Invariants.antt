use Rattle.std.proofs.Common.{◌≡◌, drop, false}
use Rattle.hog_tree.specs.View.{stms_from}
use Rattle.hog_captures.specs.Frees.{is_among, stms_frees}
use Rattle.hog_captures.proofs.takes.stmts_take.Given as goal

abbrev pub invariant-loop-s : goal.invariant-loop-s
invariant-loop-s l = is_among l.word (stms_frees false (stms_from (drop l.s-index l.list))) ≡ is_among l.word (stms_frees false (stms_from l.list))
