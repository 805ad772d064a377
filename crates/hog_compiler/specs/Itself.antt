-- Functions that take their own variable.
use Rattle.std.specs.Prelude.{Bool, true, false}
use Rattle.hog_tree.specs.Plain.{Stm, Fun}
use Rattle.hog_captures.specs.Frees.{is_among, without_all, stms_frees}

-- whether a statement is a `fun` whose body names it
abbrev pub names_itself : Stm → Bool
names_itself (Fun w ps b) = is_among w (without_all ps (stms_frees true b))
names_itself s = false
