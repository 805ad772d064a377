-- A machine's data is plain and shallow, so its text reads as it.
use Rattle.std.proofs.Common.{◌≡◌, Some, reverse, arith}
use Rattle.std.specs.Prelude.{codes}
use Rattle.serde_json.specs.Read.{read}
use Rattle.plain_json.proofs.Fine.{Fine, AllFine, ◌&◌, done, fine_list, fine_map, fine_more}
use Rattle.plain_json.proofs.Inverse.{reads_back}
use Rattle.state_forms.specs.Values.{value_data, cell_data, ValueFits, CellFits}
use Rattle.state_forms.specs.Shown.{item_data}
use Rattle.state_forms.specs.Calls.{frame_data, FrameFits, throw_data, ThrowFits, upvalue_data, UpvalueFits}
use Rattle.state_forms.proofs.Plain.{number_fine, small_fine, word_fine, value_fine, cell_fine, maybe_fine, item_fine}
use Rattle.state_forms.proofs.CallsBack.{frame_fine, throw_fine, upvalue_fine, mode_fine}
use Rattle.vm_course.specs.Run.{RunState}
use Rattle.vm_state.specs.declared.parts.Format.{Format}
use Rattle.vm_state.specs.declared.parts.Format.TheVariants.{First, Second}
use Rattle.vm_course.specs.States.{requests_in}
use Rattle.vm_state.specs.Layout.{rest_data, saved_data}
use Rattle.vm_state.specs.Text.{text_in}
use Rattle.vm_state.specs.Laws.{SavedFits}
use Rattle.vm_state.proofs.Back.{all_reverse, all_any}

rest_fine : (m : RunState) → SavedFits m → AllFine 5 (rest_data m)
rest_fine m h =
    maybe_fine 5 m.globals h.globals & fine_more 1 5 (omega arith) (mode_fine m.state.mode)
    & fine_more 2 5 (omega arith) (fine_map 1 value_data ValueFits value_fine (reverse m.state.stack) (all_reverse ValueFits m.state.stack h.stack))
    & fine_more 2 5 (omega arith) (fine_map 1 frame_data FrameFits frame_fine (reverse m.state.frames) (all_reverse FrameFits m.state.frames h.frames))
    & fine_more 2 5 (omega arith) (fine_map 1 throw_data ThrowFits throw_fine (reverse m.state.throws) (all_reverse ThrowFits m.state.throws h.throws))
    & fine_more 3 5 (omega arith) (fine_map 2 upvalue_data UpvalueFits upvalue_fine m.state.upvalues h.upvalues)
    & fine_map 4 cell_data CellFits cell_fine m.state.heap h.heap
    & fine_more 2 5 (omega arith) (fine_map 1 item_data (λ _. Unit {0}) item_fine m.state.trace (all_any m.state.trace)) & done

pub saved_fine : (format : Format) (m : RunState) → SavedFits m → Fine 6 (saved_data format m)
saved_fine First m h =
    fine_list 5 (
    word_fine 5 (codes "hog-state") & small_fine 5 1 (omega arith) & number_fine 5 m.ops h.ops & small_fine 5 m.state.turns h.turns
    & small_fine 5 m.state.units h.units & number_fine 5 m.used h.used & rest_fine m h
    )
saved_fine Second m h =
    fine_list 5 (
    word_fine 5 (codes "hog-state") & small_fine 5 2 (omega arith) & number_fine 5 m.ops h.ops & small_fine 5 m.state.turns h.turns
    & small_fine 5 m.state.units h.units & number_fine 5 m.used h.used & small_fine 5 (requests_in m.state.trace) h.asked & rest_fine m h
    )

pub text_back : (format : Format) (m : RunState) → SavedFits m → read (text_in format m) ≡ Some (saved_data format m)
unfolding text_in
text_back format m h = let f = saved_fine format m h in reads_back (saved_data format m) f.plain (omega (arith, f.shallow))
