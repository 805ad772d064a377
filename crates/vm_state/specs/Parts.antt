-- What was read of a state, as contracts see it.
use Rattle.std.specs.Prelude.{ℕ, ◌*◌, ◌&&◌, List, [], length, reverse, Bool, nat_le, map}
use Rattle.std.specs.List.{list_all}
use Rattle.hog_value.specs.Meters.{max_turns, max_units}
use Rattle.hog_value.specs.Views.{cell_of}
use Rattle.hog_meaning.specs.Meaning.{most_requests}
use Rattle.vm_frames.specs.Views.{upvalue_of}
use Rattle.vm_course.specs.State.{Slot}
use Rattle.vm_course.specs.Run.{RunState}
use Rattle.vm_course.specs.Belongs.{is_place, cell_belongs, literals_belong}
use Rattle.state_forms.specs.Calls.{mode_of}
use Rattle.vm_state.specs.declared.parts.Counts as counts
use Rattle.vm_state.specs.declared.parts.Calls as calls
use Rattle.vm_state.specs.declared.parts.Held as held
use Rattle.vm_state.specs.declared.parts.Parts.{Parts}
use Rattle.vm_state.specs.declared.parts.Written as written
use Rattle.vm_course.specs.States.{requests_in, names, cell_stands, frames_stand, throws_stand, upvalues_stand, counts_stand, calls_stand, globals_stand, waits_for}
use Rattle.vm_state.specs.Saved.{Written}
use Rattle.vm_state.specs.Layout.{Counts, Calls, Held, saved_of}

abbrev pub counts_of : counts.Counts → Counts
counts_of n = record { ops = n.ops; turns = n.turns; units = n.units; used = n.used }

abbrev pub calls_of : calls.Calls → Calls
calls_of c = record { stack = c.stack.items; frames = c.frames.items; throws = c.throws.items }

abbrev pub held_of : held.Held → Held
held_of h = record { upvalues = map upvalue_of h.upvalues.items; heap = map cell_of h.cells.items; trace = h.trace.items }

abbrev pub state_of : Parts → RunState
state_of p = saved_of (counts_of p.counts) p.globals (mode_of p.waiting p.end) (calls_of p.calls) (held_of p.held)

abbrev pub written_of : written.Written → Written
written_of w = record { format = w.format; asked = w.asked; saved = state_of w.parts }

-- what makes a state, but for its upvalues
abbrev pub rest_stands : RunState → Bool
rest_stands m =
    counts_stand m.state && calls_stand m.state
    && (list_all (names (length m.state.heap)) (reverse m.state.stack) && list_all (cell_stands (length m.state.heap) (length m.state.upvalues)) m.state.heap)
    && globals_stand m.state.heap m.state.mode m.globals && waits_for m.state.mode m.state.trace

-- the same of what was read, whose lists are those that were written
abbrev pub counts_hold : counts.Counts → held.Held → Bool
counts_hold n h = nat_le n.turns max_turns && nat_le n.units max_units && nat_le (8 * length h.cells.items) n.units && nat_le (requests_in h.trace.items) most_requests

abbrev pub calls_hold : calls.Calls → held.Held → Bool
calls_hold c h =
    frames_stand (map cell_of h.cells.items) (length c.stack.items) c.frames.items
    && throws_stand c.frames.items (length c.stack.items) 0 0 c.throws.items

abbrev pub values_hold : calls.Calls → held.Held → Bool
values_hold c h =
    list_all (names (length h.cells.items)) c.stack.items
    && list_all (λ cell. cell_stands (length h.cells.items) (length h.upvalues.items) (cell_of cell)) h.cells.items

abbrev pub parts_hold : Parts → Bool
parts_hold p =
    counts_hold p.counts p.held && calls_hold p.calls p.held && values_hold p.calls p.held
    && globals_stand (map cell_of p.held.cells.items) (mode_of p.waiting p.end) p.globals && waits_for (mode_of p.waiting p.end) p.held.trace.items

abbrev pub upvalues_hold : Parts → Bool
upvalues_hold p = upvalues_stand (length p.held.cells.items) (length p.calls.stack.items) [] (map upvalue_of p.held.upvalues.items)

-- the same of whether it belongs to a code with these slots and literals
abbrev pub places_hold : List Slot → Parts → Bool
places_hold code p =
    list_all (λ f. is_place code f.place) p.calls.frames.items && list_all (λ t. is_place code t.catch) p.calls.throws.items
    && list_all (λ cell. cell_belongs code (cell_of cell)) p.held.cells.items

abbrev pub literals_hold : List (List ℕ) → Parts → Bool
literals_hold literals p = literals_belong literals p.globals (map cell_of p.held.cells.items)
