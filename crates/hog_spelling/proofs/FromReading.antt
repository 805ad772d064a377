-- From what reading gives to what the tokens spell.
use Rattle.std.proofs.Common.{◌≡◌, ℕ, ◌<◌, ◌≤◌, List, [], Ok, Err}
use Rattle.hog_tree.specs.Plain.{Stms}
use Rattle.hog_grammar.specs.Terminal.{Terminal}
use Rattle.hog_grammar.specs.Spelling.{Spells}
use Rattle.hog_reading.specs.Read.{Syntax, TooNested, Got}
use Rattle.hog_reading.specs.ReadStatements.{program}
use Rattle.hog_spelling.proofs.Comes.{Ends, ends, deeper}
use Rattle.hog_spelling.proofs.Complete.{program_reads}
use Rattle.hog_spelling.proofs.SoundLoops.{program_sound}

pub found : (d : ℕ) (ts : List Terminal) (g : Got Stms) → program d ts ≡ Ok g → (h : ℕ) × (h ≤ d) × Spells g.tree ts h
found d ts g is = let s = program_sound d ts g is in (g.height, s.1, s.0)

-- what is refused for its syntax is spelled at no height
pub no_syntax : (d : ℕ) (ts : List Terminal) → program d ts ≡ Err Syntax → (ss : Stms) (h : ℕ) → Spells ss ts h → ⊥
no_syntax d ts is ss h b = of (program_reads ss ts h b d)
  where
    of : Ends (program d ts) d [] ss h → ⊥
    of (ends fits it) = absurd (cc)
    of (deeper high n it) = absurd (cc)

-- what is refused as too nested is spelled at no height up to d
pub too_high : (d n : ℕ) (ts : List Terminal) → program d ts ≡ Err (TooNested n) → (ss : Stms) (h : ℕ) → Spells ss ts h → d < h
too_high d n ts is ss h b = of (program_reads ss ts h b d)
  where
    of : Ends (program d ts) d [] ss h → d < h
    of (ends fits it) = absurd (cc)
    of (deeper high m it) = high
