use Rattle.std.proofs.Common.{◌≡◌, drop}
use Rattle.hog_program.specs.Prelude.{mentions}
use Rattle.hog_program.proofs.prelude.mentions.Given as goal

-- the word stands among the tokens that are left where it stands among all
abbrev pub invariant-loop-i : goal.invariant-loop-i
invariant-loop-i l =
    mentions (record { text = l.fn.tokens.text; list = drop l.i l.fn.tokens.list }) l.fn.name ≡ mentions l.fn.tokens l.fn.name
