-- What the program answers for its words and its input: a status, and what is written at it.
use Rattle.std.specs.Prelude.{◌≡◌, ℕ, List, ◌++◌, codes, Some, None}
use Rattle.hog_runner.specs.Commands.{command_of, Outputs, OutputsPart, RefusesInput}
use Rattle.hog_json.specs.Lines.{ended}
use Rattle.hog_runner.specs.declared.words.Command.{Command}

-- the line of a refusal
abbrev pub refusal : List ℕ → List ℕ
refusal cause = ended (codes "refused: " ++ cause)

pub data Writes (words : List (List ℕ)) (text : List ℕ) (status : ℕ) (out : List ℕ) : Type 0 where
  -- the words are no command
  BadWords : command_of words ≡ None → status ≡ 2 → out ≡ refusal (codes "words") → Writes words text status out
  -- the command refuses its input
  Refused :
      (command : Command) → command_of words ≡ Some command → (cause : List ℕ) → RefusesInput command text cause →
      status ≡ 1 → out ≡ refusal cause → Writes words text status out
  -- the command is done
  Done :
      (command : Command) → command_of words ≡ Some command → Outputs command text out →
      status ≡ 0 → Writes words text status out

-- what there is to write where a write fails, or memory is wanted
pub record WritesPart {K : Type 0} (faults : K → ℕ) (keeper : K) (words : List (List ℕ)) (text : List ℕ) (out : List ℕ) : Type 0 where
  pub command : Command
  pub asked : command_of words ≡ Some command
  pub part : OutputsPart faults keeper command text out
