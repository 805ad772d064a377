-- A state stands where what it holds does, and its upvalues do.
use Rattle.std.proofs.Common.{◌≡◌, List, [], length, Bool, true, false, ◌&&◌, refl, ap}
use Rattle.std.proofs.lemmas.List.{length-map, length-reverse, reverse-reverse}
use Rattle.std.proofs.lemmas.List.Folds.{list_all-map}
use Rattle.std.specs.Prelude.{reverse}
use Rattle.std.specs.List.{list_all}
use Rattle.hog_value.specs.Views.{cell_of}
use Rattle.vm_frames.specs.Views.{upvalue_of}
use Rattle.hog_ops.specs.Plain.{Ops}
use Rattle.vm_course.specs.State.{Slot, code_slots}
use Rattle.vm_course.specs.Course.{literals_of_code}
use Rattle.vm_course.specs.Run.{RunState}
use Rattle.vm_course.specs.Belongs.{is_place, cell_belongs, places_belong, belongs}
use Rattle.vm_course.specs.States.{names, cell_stands, upvalues_stand, counts_stand, calls_stand, globals_stand, waits_for, is_state}
use Rattle.vm_state.specs.declared.parts.Parts.{Parts}
use Rattle.vm_state.specs.Parts.{state_of, rest_stands, parts_hold, upvalues_hold, places_hold, literals_hold}
use Rattle.vm_operations.proofs.Passing.{list_all-reverse}

moved : (a b c d e g u : Bool) → (a && b && (c && d && u) && e && g) ≡ ((a && b && (c && d) && e && g) && u)
moved false b c d e g u = refl
moved true false c d e g u = refl
moved true true false d e g u = refl
moved true true true false e g u = refl
moved true true true true false g false = refl
moved true true true true false g true = refl
moved true true true true true false false = refl
moved true true true true true false true = refl
moved true true true true true true false = refl
moved true true true true true true true = refl

pub parted : (m : RunState) → is_state m ≡ (rest_stands m && upvalues_stand (length m.state.heap) (length m.state.stack) [] m.state.upvalues)
unfolding is_state
parted m =
    moved (counts_stand m.state) (calls_stand m.state) (list_all (names (length m.state.heap)) (reverse m.state.stack))
    (list_all (cell_stands (length m.state.heap) (length m.state.upvalues)) m.state.heap)
    (globals_stand m.state.heap m.state.mode m.globals) (waits_for m.state.mode m.state.trace)
    (upvalues_stand (length m.state.heap) (length m.state.stack) [] m.state.upvalues)

-- what was read is a state where its parts hold
pub is_held : (p : Parts) → is_state (state_of p) ≡ (parts_hold p && upvalues_hold p)
is_held p =
    rw (
      parted (state_of p),
      reverse-reverse p.calls.stack.items,
      reverse-reverse p.calls.frames.items,
      reverse-reverse p.calls.throws.items,
      length-reverse p.calls.stack.items,
      length-map p.held.cells.items cell_of,
      length-map p.held.upvalues.items upvalue_of,
      list_all-map (cell_stands (length p.held.cells.items) (length p.held.upvalues.items)) cell_of p.held.cells.items,
    ) refl

places_held : (code : List Slot) (p : Parts) → places_belong code (state_of p).state ≡ places_hold code p
places_held code p =
    rw (
      list_all-reverse (λ f. is_place code f.place) p.calls.frames.items,
      list_all-reverse (λ t. is_place code t.catch) p.calls.throws.items,
      list_all-map (cell_belongs code) cell_of p.held.cells.items,
    ) refl

pub belongs_held : (code : Ops) (p : Parts) → belongs code (state_of p) ≡ (places_hold (code_slots code) p && literals_hold (literals_of_code code) p)
unfolding belongs
belongs_held code p = ap (λ b. b && literals_hold (literals_of_code code) p) (places_held (code_slots code) p)
