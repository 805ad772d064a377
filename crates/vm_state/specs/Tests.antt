-- Which of what was read is a state, in its format.
use Rattle.std.specs.Prelude.{◌&&◌, ◌==◌, Bool, true, not}
use Rattle.vm_course.specs.State.{Mode}
use Rattle.vm_course.specs.States.{requests_in, ended_with, is_state}
use Rattle.vm_state.specs.declared.parts.Format.{Format}
use Rattle.vm_state.specs.declared.parts.Format.TheVariants.{First, Second}
use Rattle.vm_state.specs.Saved.{Written, is_fetches}

-- the number of requests is the one that is said, and no text in the first format says that there were too many fetches
abbrev pub format_stands : Format → Mode → Bool
format_stands First mode = not (ended_with is_fetches mode)
format_stands Second mode = true

unfoldable pub is_written : Written → Bool
is_written w = (w.asked == requests_in w.saved.state.trace) && format_stands w.format w.saved.state.mode && is_state w.saved
