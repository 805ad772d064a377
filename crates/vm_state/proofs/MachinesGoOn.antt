-- A machine of a code stays one, by a slice and by a reply.
use Rattle.std.proofs.Common.{◌≡◌, ℕ, zero, suc, [], ◌∷◌, Option, Some, None, true, refl, sym, ap, ◌∙◌, subst}
use Rattle.hog_ops.specs.Plain.{Ops}
use Rattle.hog_meaning.specs.World.{Fixed, Reply}
use Rattle.vm_course.specs.State.{code_slots, Running, Waiting, Ended, Mode}
use Rattle.vm_course.specs.Step.{step}
use Rattle.vm_course.specs.Course.{literals_of_code}
use Rattle.vm_course.specs.Run.{RunState, begun, fixed_of, one_more, where_running, run_for, resumed}
use Rattle.vm_course.specs.Belongs.{belongs}
use Rattle.vm_course.proofs.Slices.{slices}
use Rattle.vm_course.proofs.CodesBelong.{replies_belong, slices_belong}
use Rattle.vm_course.proofs.OnCourseReplies.{step_leaves}
use Rattle.vm_course.proofs.OnCourseRuns.{begins_on_course, reply_leaves}
use Rattle.vm_course.specs.States.{ended_with, is_memory, globals_stand, is_state}
use Rattle.vm_state.specs.Laws.{NumbersFit, IsMachineOf, RunsBegin, SlicesKeep, RepliesKeep, SavedSlicesCompose}
use Rattle.vm_operations.proofs.Passing.{both}
use Rattle.vm_state.proofs.StatesStand.{Stand}
use Rattle.vm_state.proofs.ActsStand.{steps_stand, reply_stands}
use Rattle.vm_state.proofs.Loading.{loads_saved}
use Rattle.vm_state.proofs.MachinesStand.{machine_stands}
use Rattle.vm_state.proofs.RunsStand.{stands, machine_from, runs_are_machines}

-- the globals of a machine, where it has none it has ended
globals_of : (code : Ops) (m : RunState) → IsMachineOf code m → globals_stand m.state.heap m.state.mode m.globals ≡ true
unfolding is_state
globals_of code m is = (both _ _ (both _ _ is.state).0).1

ended_without : (m : RunState) → m.globals ≡ None → globals_stand m.state.heap m.state.mode m.globals ≡ true → ended_with is_memory m.state.mode ≡ true
ended_without m none e = sym (ap (globals_stand m.state.heap m.state.mode) none) ∙ e

-- one that has ended does nothing more
stays_ended : (code : Ops) (n : ℕ) (m : RunState) → ended_with is_memory m.state.mode ≡ true → run_for code n m ≡ m
stays_ended code zero m e = refl
stays_ended code (suc n) m e = go m.state.mode e
  where
    go : (mode : Mode) → ended_with is_memory mode ≡ true → where_running mode (run_for code n (one_more code m)) m ≡ m
    go Running e = absurd cc
    go Waiting e = refl
    go (Ended x) e = refl

not_waiting : (mode : Mode) → mode ≡ Waiting → ended_with is_memory mode ≡ true → ⊥
not_waiting Running w e = absurd cc
not_waiting Waiting w e = absurd cc
not_waiting (Ended x) w e = absurd cc

module _ (code : Ops) (n : ℕ) where
  abbrev fixed : Fixed
  fixed = record { literals = literals_of_code code; globals = n }

  record Goes (r : RunState) : Type 0 where
    cell : r.globals ≡ Some n
    stand : Stand fixed r.state
    none : r.state.replies ≡ []

  one_goes : (r : RunState) → r.state.mode ≡ Running → Goes r → Goes (one_more code r)
  one_goes r e g = record {
    cell = g.cell;
    stand = subst (λ o. Stand fixed (step (fixed_of code o) (code_slots code) r.state)) (sym g.cell) (steps_stand fixed (code_slots code) 1 r.state g.stand);
    none = step_leaves (fixed_of code r.globals) (code_slots code) r.state e ∙ g.none;
  }

  goes_on : (k : ℕ) (r : RunState) → Goes r → Goes (run_for code k r)
  goes_on zero r g = g
  goes_on (suc k) r g = by_mode r.state.mode refl (goes_on k (one_more code r))
    where
      by_mode : (m : Mode) → r.state.mode ≡ m → (Goes (one_more code r) → Goes (run_for code k (one_more code r))) → Goes (where_running m (run_for code k (one_more code r)) r)
      by_mode Running e rest = rest (one_goes r e g)
      by_mode Waiting e rest = g
      by_mode (Ended x) e rest = g

  reply_goes : (reply : Reply) (r : RunState) → Goes r → Goes (resumed reply r)
  reply_goes reply r g = record { cell = g.cell; stand = reply_stands fixed (reply ∷ []) r.state g.stand; none = reply_leaves reply r.state g.none }

  machine_goes : (m : RunState) → m.globals ≡ Some n → IsMachineOf code m → Goes m
  machine_goes m cell is = record { cell = cell; stand = machine_stands code m n cell is; none = is.fits.replies }

  goes_machine : (r : RunState) → Goes r → NumbersFit r → belongs code r ≡ true → IsMachineOf code r
  goes_machine r g fit there = machine_from code r (stands fixed r g.stand g.cell g.none) fit there

pub slices_keep : SlicesKeep
slices_keep code n m is_code is fit = go m.globals refl
  where
    go : (o : Option ℕ) → m.globals ≡ o → IsMachineOf code (run_for code n m)
    go None e = subst (IsMachineOf code) (sym (stays_ended code n m (ended_without m e (globals_of code m is)))) is
    go (Some k) e = goes_machine code k (run_for code n m) (goes_on code k n m (machine_goes code k m e is)) fit (slices_belong code n m is_code is.belongs)

pub replies_keep : RepliesKeep
replies_keep code reply m is waiting fit = go m.globals refl
  where
    go : (o : Option ℕ) → m.globals ≡ o → IsMachineOf code (resumed reply m)
    go None e = absurd (not_waiting m.state.mode waiting (ended_without m e (globals_of code m is)))
    go (Some k) e = goes_machine code k (resumed reply m) (reply_goes code k reply m (machine_goes code k m e is)) fit (replies_belong code reply m is.belongs)

pub runs_begin : RunsBegin
runs_begin code globals is_code object fit = runs_are_machines code globals [] (begun code globals) is_code object (begins_on_course code globals []) fit

pub saved_slices : SavedSlicesCompose
saved_slices code a b m is_code is fit = record {
  loaded = run_for code a m;
  loads = loads_saved code (run_for code a m) (slices_keep code a m is_code is fit);
  comes = sym (slices code a b m);
}
