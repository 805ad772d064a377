-- What was loaded is a state, belongs to the code, and has the format of its text.
use Rattle.std.proofs.Common.{◌≡◌, ℕ, List, [], ◌∷◌, Bool, true, false, cond, ◌&&◌, ◌==◌, Option, Some, None, refl, sym, ap, ◌∙◌}
use Rattle.std.proofs.lemmas.Option.{same_Some}
use Rattle.std.specs.Prelude.{option_and_then}
use Rattle.serde_json.specs.Data.{Data}
use Rattle.hog_ops.specs.Plain.{Ops}
use Rattle.state_forms.specs.Shapes.{◌>>=◌, list_in, u32_in}
use Rattle.vm_course.specs.Run.{RunState}
use Rattle.vm_state.specs.declared.parts.Format.{Format}
use Rattle.vm_state.specs.declared.parts.Format.TheVariants.{First, Second}
use Rattle.vm_course.specs.States.{requests_in, is_state}
use Rattle.vm_state.specs.Saved.{Written}
use Rattle.vm_state.specs.Layout.{Counts, counts_in, rest_in, rest_by, format_in, written_by, behind_format, written_in_list, written_in}
use Rattle.vm_state.specs.Tests.{is_written, format_stands}
use Rattle.vm_state.specs.Text.{text_in, where_state, state_in}
use Rattle.vm_state.specs.Refusals.{IsLoaded}
use Rattle.vm_state.specs.Laws.{format_of_text, SavesLoaded, HasFormat, LoadsStates}
use Rattle.vm_state.proofs.Exact.{loads_exactly}

-- where a chain gives something, its first link does
linked : {A B : Type 0} (o : Option A) (f : A → Option B) (y : B) → (o >>= f) ≡ Some y → (x : A) × (o ≡ Some x) × (f x ≡ Some y)
linked None f y e = absurd cc
linked (Some x) f y e = (x, refl, e)

abbrev first_form : RunState → Written
first_form m = record { format = First; asked = requests_in m.state.trace; saved = m }

abbrev second_form : ℕ → RunState → Written
second_form n m = record { format = Second; asked = n; saved = m }

rest_format : (format : Format) (n : Counts) (ds : List Data) (w : Written) → rest_by format n ds ≡ Some w → w.format ≡ format
rest_format First n ds w e =
    let a = linked (rest_in n ds) (λ m. Some (first_form m)) w e in
    ap (λ (x : Written). x.format) (sym (same_Some (first_form a.0) w a.2))
rest_format Second n [] w e = absurd cc
rest_format Second n (asked ∷ ds) w e =
    let a = linked (u32_in asked) (λ k. rest_in n ds >>= λ m. Some (second_form k m)) w e in
    let b = linked (rest_in n ds) (λ m. Some (second_form a.0 m)) w a.2 in
    ap (λ (x : Written). x.format) (sym (same_Some (second_form a.0 b.0) w b.2))

by_format : (format : Format) (ds : List Data) (w : Written) → written_by format ds ≡ Some w → w.format ≡ format
by_format format [] w e = absurd cc
by_format format (a ∷ []) w e = absurd cc
by_format format (a ∷ b ∷ []) w e = absurd cc
by_format format (a ∷ b ∷ c ∷ []) w e = absurd cc
by_format format (a ∷ b ∷ c ∷ d ∷ ds) w e = let n = linked (counts_in a b c d) (λ n. rest_by format n ds) w e in rest_format format n.0 ds w n.2

list_format : (ds : List Data) (w : Written) → written_in_list ds ≡ Some w → format_in ds ≡ Some w.format
list_format ds w e =
    let a = linked (format_in ds) (λ format. written_by format (behind_format ds)) w e in
    a.1 ∙ ap Some (sym (by_format a.0 (behind_format ds) w a.2))

data_format : (d : Data) (w : Written) → written_in d ≡ Some w → option_and_then format_in (list_in d) ≡ Some w.format
data_format d w e =
    let a = linked (list_in d) written_in_list w e in
    ap (option_and_then format_in) a.1 ∙ list_format a.0 w a.2

kept : (o : Option Written) (w : Written) → where_state o ≡ Some w → (o ≡ Some w) × (is_written w ≡ true)
kept None w e = absurd cc
kept (Some x) w e = choose (is_written x) refl e
  where
    choose : (b : Bool) → is_written x ≡ b → cond b (Some x) None ≡ Some w → (Some x ≡ Some w) × (is_written w ≡ true)
    choose true is e = (e, ap is_written (sym (same_Some _ _ e)) ∙ is)
    choose false is e = absurd cc

read_state : (d : Data) (w : Written) → state_in d ≡ Some w → (written_in d ≡ Some w) × (is_written w ≡ true)
unfolding state_in
read_state d w e = kept (written_in d) w e

both : (a b : Bool) → (a && b) ≡ true → (a ≡ true) × (b ≡ true)
both true true e = (refl, refl)
both true false e = absurd cc
both false b e = absurd cc

pub stands : (w : Written) → is_written w ≡ true → is_state w.saved ≡ true
unfolding is_written
stands w e = (both ((w.asked == requests_in w.saved.state.trace) && format_stands w.format w.saved.state.mode) (is_state w.saved) e).1

format_there : (code : Ops) (bytes : List ℕ) (m : RunState) (h : IsLoaded code bytes m) → format_of_text bytes ≡ Some h.0.format
format_there code bytes m h =
    let w = h.0 in
    let d = h.1.0 in
    ap (λ o. option_and_then format_in (option_and_then list_in o)) h.1.1 ∙ data_format d w (read_state d w h.1.2).0

pub has_format : HasFormat
has_format code bytes m e = let h = (loads_exactly code bytes m).0 e in (h.0.format, format_there code bytes m h)

pub saves_loaded : SavesLoaded
saves_loaded code bytes m format e is =
    let h = (loads_exactly code bytes m).0 e in
    let same : format ≡ h.0.format = same_Some _ _ (sym is ∙ format_there code bytes m h) in
    ap (λ f. text_in f m) same ∙ h.4

pub loads_states : LoadsStates
loads_states code bytes m e =
    let h = (loads_exactly code bytes m).0 e in
    (ap is_state (sym h.2) ∙ stands h.0 (read_state h.1.0 h.0 h.1.2).1, h.3)
