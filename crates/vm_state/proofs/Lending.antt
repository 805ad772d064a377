-- The forms of a machine's parts are the elements of its text, and what was written of it fits.
use Rattle.std.proofs.Common.{◌≡◌, ◌↔◌, ◌<◌, ◌^◌, List, [], ◌∷◌, ◌++◌, Bool, true, false, IfSome, map, reverse, refl, sym, ap, ◌∙◌, subst}
use Rattle.std.proofs.lemmas.List.{reverse-reverse, reverse-append}
use Rattle.std.specs.Prelude.{IsTrue}
use Rattle.std.specs.List.{AllByRecursion}
use Rattle.serde_json.specs.View.{view}
use Rattle.hog_value.specs.declared.trace.Shown.{Shown}
use Rattle.hog_value.specs.Values.{Val}
use Rattle.vm_course.specs.State.{Frame, ThrowFrame, Running, Waiting, Ended, Mode}
use Rattle.vm_course.specs.Course as course
use Rattle.vm_course.specs.Run.{RunState}
use Rattle.vm_frames.specs.declared.upvalues.Upvalue as u
use Rattle.vm_frames.specs.Views.{upvalue_of}
use Rattle.vm_frames.specs.Parts.{others_of}
use Rattle.state_forms.specs.Shapes.{list, number_data, maybe_data}
use Rattle.state_forms.specs.Values.{value_data, cell_data, ValueFits, CellFits}
use Rattle.state_forms.specs.Shown.{item_data}
use Rattle.state_forms.specs.Calls.{frame_data, FrameFits, throw_data, ThrowFits, upvalue_data, UpvalueFits, mode_data, mode_of}
use Rattle.vm_state.specs.declared.writing.Forms.{Forms}
use Rattle.vm_state.specs.Forms.{forms_shown, ListsFit}
use Rattle.vm_state.specs.Layout.{rest_data}
use Rattle.vm_state.proofs.Back.{all_reverse}

-- what a machine lends: its lists from the bottom, and what it has shown
pub record Lends (m : RunState) (waiting : Bool) (stack : List Val) (around : List Frame) (inner : Frame) (throws : List ThrowFrame) (us : List u.Upvalue) (shown : Shown) : Type 0 where
  pub waits : IsTrue waiting ↔ (m.state.mode ≡ Waiting)
  pub stack_is : m.state.stack ≡ reverse stack
  pub inner_is : m.state.frames ≡ inner ∷ others_of m.state.frames
  pub around_is : others_of m.state.frames ≡ reverse around
  pub throws_are : m.state.throws ≡ reverse throws
  pub upvalues_are : m.state.upvalues ≡ map upvalue_of us
  pub shown_is : shown ≡ course.shown_by m.state

mode_same : (mode : Mode) (waiting : Bool) → (IsTrue waiting ↔ (mode ≡ Waiting)) → mode_of waiting (course.end_in mode) ≡ mode
mode_same Running true h = sym (h.0 refl)
mode_same Running false h = refl
mode_same Waiting true h = refl
mode_same Waiting false h = absurd (let no : false ≡ true = h.1 refl in cc)
mode_same (Ended e) waiting h = refl

turned : {A : Type 0} (xs ys : List A) → xs ≡ reverse ys → ys ≡ reverse xs
turned xs ys e = sym (ap reverse e ∙ reverse-reverse ys)

frames_turned : (fs around : List Frame) (inner : Frame) → fs ≡ inner ∷ others_of fs → others_of fs ≡ reverse around → around ++ inner ∷ [] ≡ reverse fs
frames_turned fs around inner e h = turned fs (around ++ inner ∷ []) (e ∙ ap (λ xs. inner ∷ xs) h ∙ sym (reverse-append around (inner ∷ [])))

eight : {A : Type 0} (a b c d e f g h : A) (a' b' c' d' e' f' g' h' : A) → a ≡ a' → b ≡ b' → c ≡ c' → d ≡ d' → e ≡ e' → f ≡ f' → g ≡ g' → h ≡ h'
    → (a ∷ b ∷ c ∷ d ∷ e ∷ f ∷ g ∷ h ∷ []) ≡ (a' ∷ b' ∷ c' ∷ d' ∷ e' ∷ f' ∷ g' ∷ h' ∷ [])
eight a b c d e f g h a' b' c' d' e' f' g' h' p1 p2 p3 p4 p5 p6 p7 p8 = rw (p1, p2, p3, p4, p5, p6, p7, p8) refl

-- the forms that were written
pub record AreForms (m : RunState) (f : Forms) (waiting : Bool) (stack : List Val) (around : List Frame) (inner : Frame) (throws : List ThrowFrame) (us : List u.Upvalue) (shown : Shown) : Type 0 where
  pub globals_form : view f.globals ≡ maybe_data number_data m.globals
  pub end_form : view f.end ≡ mode_data (mode_of waiting shown.end)
  pub stack_form : view f.calls.stack ≡ list (map value_data stack)
  pub frames_form : view f.calls.frames ≡ list (map frame_data (around ++ inner ∷ []))
  pub throws_form : view f.calls.throws ≡ list (map throw_data throws)
  pub upvalues_form : view f.held.upvalues ≡ list (map upvalue_data (map upvalue_of us))
  pub heap_form : view f.held.heap ≡ list (map cell_data m.state.heap)
  pub trace_form : view f.held.trace ≡ list (map item_data shown.trace)

pub same_forms : (m : RunState) (f : Forms) (waiting : Bool) (stack : List Val) (around : List Frame) (inner : Frame) (throws : List ThrowFrame) (us : List u.Upvalue) (shown : Shown)
    → Lends m waiting stack around inner throws us shown → AreForms m f waiting stack around inner throws us shown → forms_shown f ≡ rest_data m
same_forms m f waiting stack around inner throws us shown l w =
    eight (view f.globals) (view f.end) (view f.calls.stack) (view f.calls.frames) (view f.calls.throws) (view f.held.upvalues) (view f.held.heap) (view f.held.trace)
    (maybe_data number_data m.globals) (mode_data m.state.mode) (list (map value_data (reverse m.state.stack)))
    (list (map frame_data (reverse m.state.frames))) (list (map throw_data (reverse m.state.throws)))
    (list (map upvalue_data m.state.upvalues)) (list (map cell_data m.state.heap)) (list (map item_data m.state.trace))
    w.globals_form
    (w.end_form ∙ ap mode_data (ap (λ (s : Shown). mode_of waiting s.end) l.shown_is ∙ mode_same m.state.mode waiting l.waits))
    (w.stack_form ∙ ap (λ xs. list (map value_data xs)) (turned m.state.stack stack l.stack_is))
    (w.frames_form ∙ ap (λ xs. list (map frame_data xs)) (frames_turned m.state.frames around inner l.inner_is l.around_is))
    (w.throws_form ∙ ap (λ xs. list (map throw_data xs)) (turned m.state.throws throws l.throws_are))
    (w.upvalues_form ∙ ap (λ xs. list (map upvalue_data xs)) (sym l.upvalues_are))
    w.heap_form
    (w.trace_form ∙ ap (λ (s : Shown). list (map item_data s.trace)) l.shown_is)

-- what was written fits
pub record HaveFit (m : RunState) (stack : List Val) (around : List Frame) (inner : Frame) (throws : List ThrowFrame) (us : List u.Upvalue) : Type 0 where
  pub globals_fit : IfSome m.globals (λ n. n < 2 ^ 32)
  pub stack_fit : AllByRecursion ValueFits stack
  pub frames_fit : AllByRecursion FrameFits (around ++ inner ∷ [])
  pub throws_fit : AllByRecursion ThrowFits throws
  pub upvalues_fit : AllByRecursion UpvalueFits (map upvalue_of us)
  pub heap_fit : AllByRecursion CellFits m.state.heap

fit_turned : {A : Type 0} (P : A → Type 0) (xs ys : List A) → ys ≡ reverse xs → AllByRecursion P ys → AllByRecursion P xs
fit_turned P xs ys e all = subst (AllByRecursion P) (ap reverse e ∙ reverse-reverse xs) (all_reverse P ys all)

pub lists_fit : (m : RunState) (waiting : Bool) (stack : List Val) (around : List Frame) (inner : Frame) (throws : List ThrowFrame) (us : List u.Upvalue) (shown : Shown)
    → Lends m waiting stack around inner throws us shown → HaveFit m stack around inner throws us → ListsFit m
lists_fit m waiting stack around inner throws us shown l w = record {
  globals = w.globals_fit;
  stack = fit_turned ValueFits m.state.stack stack (turned m.state.stack stack l.stack_is) w.stack_fit;
  frames = fit_turned FrameFits m.state.frames (around ++ inner ∷ []) (frames_turned m.state.frames around inner l.inner_is l.around_is) w.frames_fit;
  throws = fit_turned ThrowFits m.state.throws throws (turned m.state.throws throws l.throws_are) w.throws_fit;
  upvalues = subst (AllByRecursion UpvalueFits) (sym l.upvalues_are) w.upvalues_fit;
  heap = w.heap_fit;
}
