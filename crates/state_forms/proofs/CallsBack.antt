-- Frames, throw frames, upvalues and modes are read from what was written of them, which is plain and shallow.
use Rattle.std.proofs.Common.{◌≡◌, Some, refl, arith}
use Rattle.std.specs.Prelude.{codes}
use Rattle.plain_json.proofs.Fine.{Fine, ◌&◌, done, fine_list}
use Rattle.hog_value.specs.declared.trace.End.TheVariants as end
use Rattle.vm_course.specs.State.{Upvalue, Opened, Closed, Frame, ThrowFrame, Running, Waiting, Ended, Mode}
use Rattle.state_forms.specs.Calls.{frame_in, frame_data, FrameFits, throw_in, throw_data, ThrowFits, upvalue_in, upvalue_data, UpvalueFits, mode_in, mode_data}
use Rattle.state_forms.proofs.Back.{u32_back, value_back}
use Rattle.state_forms.proofs.ShownBack.{maybe_back}
use Rattle.state_forms.proofs.Plain.{small_fine, word_fine, value_fine, maybe_fine, end_fine}

pub frame_back : (f : Frame) → FrameFits f → frame_in (frame_data f) ≡ Some f
frame_back f h = rw (u32_back f.place h.0, u32_back f.base h.1, maybe_back f.function h.2) refl

pub throw_back : (t : ThrowFrame) → ThrowFits t → throw_in (throw_data t) ≡ Some t
throw_back t h = rw (u32_back t.frames h.0, u32_back t.height h.1, u32_back t.catch h.2) refl

pub upvalue_back : (u : Upvalue) → UpvalueFits u → upvalue_in (upvalue_data u) ≡ Some u
upvalue_back (Opened p) h = rw (u32_back p h) refl
upvalue_back (Closed v) h = rw (value_back v h) refl

pub mode_back : (m : Mode) → mode_in (mode_data m) ≡ Some m
mode_back Running = refl
mode_back Waiting = refl
mode_back (Ended (end.Done t)) = refl
mode_back (Ended (end.Threw t)) = refl
mode_back (Ended end.TurnsSpent) = refl
mode_back (Ended end.MemorySpent) = refl
mode_back (Ended end.TooDeep) = refl
mode_back (Ended end.TooManyFetches) = refl

pub frame_fine : (f : Frame) → FrameFits f → Fine 1 (frame_data f)
frame_fine f h = fine_list 0 (small_fine 0 f.place h.0 & small_fine 0 f.base h.1 & maybe_fine 0 f.function h.2 & done)

pub throw_fine : (t : ThrowFrame) → ThrowFits t → Fine 1 (throw_data t)
throw_fine t h = fine_list 0 (small_fine 0 t.frames h.0 & small_fine 0 t.height h.1 & small_fine 0 t.catch h.2 & done)

pub upvalue_fine : (u : Upvalue) → UpvalueFits u → Fine 2 (upvalue_data u)
upvalue_fine (Opened p) h = fine_list 1 (small_fine 1 0 (omega arith) & small_fine 1 p h & done)
upvalue_fine (Closed v) h = fine_list 1 (small_fine 1 1 (omega arith) & value_fine v h & done)

pub mode_fine : (m : Mode) → Fine 1 (mode_data m)
mode_fine Running = record { plain = tt; shallow = omega arith }
mode_fine Waiting = word_fine 1 (codes "wait")
mode_fine (Ended e) = end_fine e
