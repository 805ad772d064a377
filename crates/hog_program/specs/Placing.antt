-- Placing functions of the prelude one by one. No reader has to trust this file.
use Rattle.std.specs.Prelude.{Bool, true, false}
use Rattle.hog_tree.specs.Plain.{Stm, Stms}
use Rattle.hog_tree.proofs.Rows.{add_stm}

-- with one more behind, if it is wanted
abbrev pub added : Bool → Stm → Stms → Stms
added true s ss = add_stm ss s
added false s ss = ss
