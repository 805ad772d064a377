-- Loading what was saved, and saving what was loaded.
use Rattle.std.proofs.Common.{◌≡◌, ◌≢◌, ℕ, Bool, true, false, cond, ◌&&◌, ◌==◌, Some, None, Ok, Err, refl, ap, ◌∙◌, arith}
use Rattle.std.proofs.lemmas.Bool.Decides.{nat_tests}
use Rattle.std.specs.Prelude.{bytes_eq}
use Rattle.std.specs.Cmp.Lexicographic.{nat_list_eq_equiv}
use Rattle.hog_value.specs.declared.trace.End.TheVariants as end
use Rattle.hog_ops.specs.Plain.{Ops}
use Rattle.vm_course.specs.State.{Running, Waiting, Ended, Mode}
use Rattle.vm_state.specs.declared.stop.StateStop.TheVariants as stops
use Rattle.vm_course.specs.Run.{RunState}
use Rattle.vm_state.specs.declared.parts.Format.{Format}
use Rattle.vm_state.specs.declared.parts.Format.TheVariants.{First, Second}
use Rattle.vm_course.specs.States.{requests_in, is_state}
use Rattle.vm_state.specs.Layout.{saved_data}
use Rattle.vm_state.specs.Tests.{is_written, format_stands}
use Rattle.vm_course.specs.Belongs.{belongs}
use Rattle.vm_state.specs.Text.{text_in, where_state, state_in, of_written, of_read, load_of}
use Rattle.vm_state.specs.Laws.{IsMachineOf, LoadsSaved, LoadsOld, Renews}
use Rattle.vm_state.proofs.Back.{written_of, saved_back}
use Rattle.vm_state.proofs.Plain.{text_back}

pub cond_true : {A : Type 0} (b : Bool) (x y : A) → b ≡ true → cond b x y ≡ x
cond_true b x y e = ap (λ c. cond c x y) e

pub cond_false : {A : Type 0} (b : Bool) (x y : A) → b ≡ false → cond b x y ≡ y
cond_false b x y e = ap (λ c. cond c x y) e

same_number : (n : ℕ) → (n == n) ≡ true
same_number n = grind (arith, nat_tests)

all_three : (a b c : Bool) → a ≡ true → b ≡ true → c ≡ true → (a && b && c) ≡ true
all_three a b c x y z = rw (x, y, z) refl

written_stands : (format : Format) (m : RunState) → format_stands format m.state.mode ≡ true → is_state m ≡ true → is_written (written_of format m) ≡ true
unfolding is_written
written_stands format m f s = all_three (requests_in m.state.trace == requests_in m.state.trace) (format_stands format m.state.mode) (is_state m) (same_number (requests_in m.state.trace)) f s

state_back : (format : Format) (code : Ops) (m : RunState) → IsMachineOf code m → format_stands format m.state.mode ≡ true → state_in (saved_data format m) ≡ Some (written_of format m)
unfolding state_in
state_back format code m h f =
    ap where_state (saved_back format m h.fits)
    ∙ cond_true (is_written (written_of format m)) (Some (written_of format m)) None (written_stands format m f h.state)

loads : (format : Format) (code : Ops) (m : RunState) → IsMachineOf code m → format_stands format m.state.mode ≡ true → load_of code (text_in format m) ≡ Ok m
unfolding load_of of_read
loads format code m h f =
    let bytes = text_in format m in
    ap (of_read code bytes) (text_back format m h.fits)
    ∙ ap (of_written code bytes) (state_back format code m h f)
    ∙ cond_true (belongs code m) (cond (bytes_eq bytes bytes) (Ok m) (Err stops.NotCanonical)) (Err stops.NotThisCode) h.belongs
    ∙ cond_true (bytes_eq bytes bytes) (Ok m) (Err stops.NotCanonical) (nat_list_eq_equiv.refl bytes)

pub loads_saved : LoadsSaved
loads_saved code m h = loads Second code m h refl

otherwise : (mode : Mode) → mode ≢ Ended end.TooManyFetches → format_stands First mode ≡ true
otherwise Running h = refl
otherwise Waiting h = refl
otherwise (Ended (end.Done t)) h = refl
otherwise (Ended (end.Threw t)) h = refl
otherwise (Ended end.TurnsSpent) h = refl
otherwise (Ended end.MemorySpent) h = refl
otherwise (Ended end.TooDeep) h = refl
otherwise (Ended end.TooManyFetches) h = absurd (h refl)

pub loads_old : LoadsOld
loads_old code m h other = loads First code m h (otherwise m.state.mode other)

pub renews : Renews
renews m = refl
