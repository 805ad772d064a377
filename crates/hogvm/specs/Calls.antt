-- What the calls of a machine take and answer.
use Rattle.std.specs.Prelude.{◌≡◌, ℕ, List, Bool, false, ◌&&◌, ◌==◌, Option, Some, None, is_some}
use Rattle.serde_json.specs.Data.{Data}
use Rattle.serde_json.specs.Find.{as_object}
use Rattle.serde_json.specs.Read.{read}
use Rattle.hog_json.specs.Nulled.{count_nulled}
use Rattle.vm_course.specs.State.{Running, Waiting, Ended, Mode}
use Rattle.hogvm.specs.declared.steps.Pause.{Pause}
use Rattle.hogvm.specs.declared.steps.Pause.TheVariants as pause

-- the value is an object, and its numbers are whole numbers of 64 bits
abbrev pub is_whole_object : Option Data → Bool
is_whole_object None = false
is_whole_object (Some d) = is_some (as_object d) && (count_nulled d == 0)

-- the text is JSON, that of such an object
abbrev pub is_globals : List ℕ → Bool
is_globals text = is_whole_object (read text)

abbrev pub pause_of : Mode → Pause
pause_of Running = pause.Sliced
pause_of Waiting = pause.Asks
pause_of (Ended e) = pause.Ended
