-- What was written of a machine is read as that machine.
use Rattle.std.proofs.Common.{◌≡◌, List, [], ◌∷◌, Some, map, reverse, refl, sym, ap, ◌∙◌, subst}
use Rattle.std.proofs.lemmas.List.{reverse-reverse, reverse-append}
use Rattle.std.specs.List.{AllByRecursion}
use Rattle.hog_value.specs.declared.trace.TraceItem.{TraceItem}
use Rattle.state_forms.specs.Shapes.{◌>>=◌, list, number_data}
use Rattle.state_forms.specs.Values.{value_in, value_data, cell_in, cell_data, ValueFits, CellFits}
use Rattle.state_forms.specs.Shown.{item_in, item_data}
use Rattle.state_forms.proofs.Lists.{list_in-list, list_by_back, all_push}
use Rattle.state_forms.specs.Calls.{frame_in, frame_data, FrameFits, throw_in, throw_data, ThrowFits, upvalue_in, upvalue_data, UpvalueFits}
use Rattle.state_forms.proofs.Back.{u32_back, value_back, cell_back}
use Rattle.state_forms.proofs.ShownBack.{maybe_back, item_back}
use Rattle.state_forms.proofs.CallsBack.{frame_back, throw_back, upvalue_back, mode_back}
use Rattle.vm_course.specs.State.{State}
use Rattle.vm_course.specs.Run.{RunState}
use Rattle.vm_state.specs.declared.parts.Format.{Format}
use Rattle.vm_state.specs.declared.parts.Format.TheVariants.{First, Second}
use Rattle.vm_course.specs.States.{requests_in}
use Rattle.vm_state.specs.Saved.{Written}
use Rattle.vm_state.specs.Layout.{Counts, counts_in, Calls, calls_in, Held, held_in, lists_in, rest_in, rest_data, written_in, written_in_list, elements_of, saved_data}
use Rattle.vm_state.specs.Laws.{SavedFits}

pub all_reverse : {A : Type 0} (P : A → Type 0) (xs : List A) → AllByRecursion P xs → AllByRecursion P (reverse xs)
all_reverse P [] h = tt
all_reverse P (x ∷ xs) h = subst (AllByRecursion P) (sym (reverse-append (x ∷ []) xs)) (all_push P (reverse xs) x (all_reverse P xs h.1) h.0)

abbrev counts_of : RunState → Counts
counts_of m = record { ops = m.ops; turns = m.state.turns; units = m.state.units; used = m.used }

counts_back : (m : RunState) → SavedFits m → counts_in (number_data m.ops) (number_data m.state.turns) (number_data m.state.units) (number_data m.used) ≡ Some (counts_of m)
unfolding counts_in
counts_back m h = rw (u32_back m.state.turns h.turns, u32_back m.state.units h.units) refl

abbrev calls_of : State → Calls
calls_of s = record { stack = reverse s.stack; frames = reverse s.frames; throws = reverse s.throws }

calls_back : (m : RunState) → SavedFits m → calls_in (list (map value_data (reverse m.state.stack))) (list (map frame_data (reverse m.state.frames))) (list (map throw_data (reverse m.state.throws))) ≡ Some (calls_of m.state)
unfolding calls_in
calls_back m h =
    rw (
      list_by_back value_in value_data ValueFits value_back (reverse m.state.stack) (all_reverse ValueFits m.state.stack h.stack),
      list_by_back frame_in frame_data FrameFits frame_back (reverse m.state.frames) (all_reverse FrameFits m.state.frames h.frames),
      list_by_back throw_in throw_data ThrowFits throw_back (reverse m.state.throws) (all_reverse ThrowFits m.state.throws h.throws),
    ) refl

pub all_any : (xs : List TraceItem) → AllByRecursion (λ _. Unit {0}) xs
all_any [] = tt
all_any (x ∷ xs) = (tt, all_any xs)

abbrev held_of : State → Held
held_of s = record { upvalues = s.upvalues; heap = s.heap; trace = s.trace }

held_back : (m : RunState) → SavedFits m → held_in (list (map upvalue_data m.state.upvalues)) (list (map cell_data m.state.heap)) (list (map item_data m.state.trace)) ≡ Some (held_of m.state)
unfolding held_in
held_back m h =
    rw (
      list_by_back upvalue_in upvalue_data UpvalueFits upvalue_back m.state.upvalues h.upvalues,
      list_by_back cell_in cell_data CellFits cell_back m.state.heap h.heap,
      list_by_back item_in item_data (λ _. Unit {0}) item_back m.state.trace (all_any m.state.trace),
    ) refl

-- three lists reversed twice, and no replies
turned : (m : RunState) → m.state.replies ≡ [] → Some record m { state = record m.state { stack = reverse (reverse m.state.stack); frames = reverse (reverse m.state.frames); throws = reverse (reverse m.state.throws); replies = [] } } ≡ Some m
turned m none = rw (reverse-reverse m.state.stack, reverse-reverse m.state.frames, reverse-reverse m.state.throws, sym none) refl

rest_back : (m : RunState) → SavedFits m → rest_in (counts_of m) (rest_data m) ≡ Some m
unfolding rest_in lists_in
rest_back m h = rw (maybe_back m.globals h.globals, mode_back m.state.mode, calls_back m h, held_back m h) (turned m h.replies)

abbrev pub written_of : Format → RunState → Written
written_of format m = record { format = format; asked = requests_in m.state.trace; saved = m }

elements_back : (format : Format) (m : RunState) → SavedFits m → written_in_list (elements_of format m) ≡ Some (written_of format m)
elements_back First m h = rw (counts_back m h, rest_back m h) refl
elements_back Second m h = rw (counts_back m h, u32_back (requests_in m.state.trace) h.asked, rest_back m h) refl

pub saved_back : (format : Format) (m : RunState) → SavedFits m → written_in (saved_data format m) ≡ Some (written_of format m)
saved_back format m h = ap (λ o. o >>= written_in_list) (list_in-list (elements_of format m)) ∙ elements_back format m h
