-- What more replies change of what a program shows: nothing, unless it waits for one.
use Rattle.std.specs.Prelude.{◌≡◌, ℕ, List, ◌++◌, Some, None}
use Rattle.hog_value.specs.declared.trace.TraceItem.{TraceItem}
use Rattle.hog_value.specs.declared.trace.End.{End}
use Rattle.hog_tree.specs.Plain.{Stms}
use Rattle.hog_meaning.specs.World.{Reply}
use Rattle.hog_meaning.specs.Program.{Shows, meaning}

-- b goes on where a waits: where a has an end, it is all that b shows, and where a waits, its trace is a prefix of b's
pub record Longer (a b : Shows) : Type 0 where
  pub ended : (end : End) → a.end ≡ Some end → b ≡ a
  pub waits : a.end ≡ None → (rest : List TraceItem) × (b.trace ≡ a.trace ++ rest)

-- more replies than a run has taken change nothing of it, and a run that waits for one goes on
abbrev pub MoreReplies : Type 0
MoreReplies = (program : Stms) (globals : List ℕ) (replies more : List Reply) → Longer (meaning program globals replies) (meaning program globals (replies ++ more))
