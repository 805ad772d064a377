-- What loading gives comes exactly where it is said.
use Rattle.std.proofs.Common.{◌≡◌, ◌≢◌, ℕ, List, Bool, true, false, cond, Option, Some, None, Result, Ok, Err, refl, sym, ap, ◌∙◌}
use Rattle.std.specs.Prelude.{bytes_eq}
use Rattle.std.specs.Cmp.Lexicographic.{nat_list_eq_equiv, bytes_decides}
use Rattle.serde_json.specs.Data.{Data}
use Rattle.serde_json.specs.Read.{read}
use Rattle.hog_ops.specs.Plain.{Ops}
use Rattle.vm_state.specs.declared.stop.StateStop.{StateStop}
use Rattle.vm_state.specs.declared.stop.StateStop.TheVariants as stops
use Rattle.vm_course.specs.Run.{RunState}
use Rattle.vm_state.specs.Saved.{Written}
use Rattle.vm_course.specs.Belongs.{belongs}
use Rattle.vm_state.specs.Text.{text_in, state_in, of_written, of_read, load_of}
use Rattle.vm_state.specs.Refusals.{IsStateOf, IsLoaded, IsRefused}
use Rattle.vm_state.specs.Laws.{LoadsExactly, RefusesExactly}

-- what is answered of a state: whether it belongs to the code, and whether the bytes are its text
abbrev answer : Bool → Bool → RunState → Result RunState StateStop
answer mine same m = cond mine (cond same (Ok m) (Err stops.NotCanonical)) (Err stops.NotThisCode)

accepted : (mine same : Bool) (x m : RunState) → answer mine same x ≡ Ok m → (mine ≡ true) × (same ≡ true) × (x ≡ m)
accepted true true x m e = (refl, refl, cc)
accepted true false x m e = absurd cc
accepted false same x m e = absurd cc

never_json : (mine same : Bool) (x : RunState) → answer mine same x ≡ Err stops.NotJson → ⊥
never_json true true x e = cc
never_json true false x e = cc
never_json false same x e = cc

never_state : (mine same : Bool) (x : RunState) → answer mine same x ≡ Err stops.NotAState → ⊥
never_state true true x e = cc
never_state true false x e = cc
never_state false same x e = cc

other_code : (mine same : Bool) (x : RunState) → answer mine same x ≡ Err stops.NotThisCode → mine ≡ false
other_code true true x e = absurd cc
other_code true false x e = absurd cc
other_code false same x e = refl

other_text : (mine same : Bool) (x : RunState) → answer mine same x ≡ Err stops.NotCanonical → (mine ≡ true) × (same ≡ false)
other_text true true x e = absurd cc
other_text true false x e = (refl, refl)
other_text false same x e = absurd cc

is_false : (b : Bool) → (b ≡ true → ⊥) → b ≡ false
is_false true h = absurd (h refl)
is_false false h = refl

differ : (b : Bool) → b ≡ true → b ≡ false → ⊥
differ true e f = cc
differ false e f = cc

same_bytes : (xs ys : List ℕ) → xs ≡ ys → bytes_eq xs ys ≡ true
same_bytes xs ys e = ap (bytes_eq xs) (sym e) ∙ nat_list_eq_equiv.refl xs

other_bytes : (xs ys : List ℕ) → xs ≢ ys → bytes_eq xs ys ≡ false
other_bytes xs ys h = is_false (bytes_eq xs ys) (λ e. h ((bytes_decides xs ys).0 e))

-- from the state that was read
from_state : (code : Ops) (bytes : List ℕ) (w : Written) → IsStateOf bytes w → load_of code bytes ≡ answer (belongs code w.saved) (bytes_eq (text_in w.format w.saved) bytes) w.saved
unfolding load_of of_read
from_state code bytes w h = ap (of_read code bytes) h.1 ∙ ap (of_written code bytes) h.2

answered : (mine same : Bool) (x : RunState) (b c : Bool) → mine ≡ b → same ≡ c → answer mine same x ≡ answer b c x
answered mine same x b c e f = ap (λ p. answer p same x) e ∙ ap (λ p. answer b p x) f

-- to the state that was read, or to where there is none
read_as : (code : Ops) (bytes : List ℕ) (P : Type 0) (r : Result RunState StateStop) → (read bytes ≡ None → Err stops.NotJson ≡ r → P) → ((d : Data) → read bytes ≡ Some d → state_in d ≡ None → Err stops.NotAState ≡ r → P)
    → ((w : Written) → IsStateOf bytes w → answer (belongs code w.saved) (bytes_eq (text_in w.format w.saved) bytes) w.saved ≡ r → P) → load_of code bytes ≡ r → P
unfolding load_of of_read
read_as code bytes P r none other found e = on_read (read bytes) refl e
  where
    on_state : (d : Data) (o : Option Written) → read bytes ≡ Some d → state_in d ≡ o → of_written code bytes o ≡ r → P
    on_state d None is h e = other d is h e
    on_state d (Some w) is h e = found w (d, is, h) e

    on_read : (o : Option Data) → read bytes ≡ o → of_read code bytes o ≡ r → P
    on_read None is e = none is e
    on_read (Some d) is e = on_state d (state_in d) is refl e

loaded : (code : Ops) (bytes : List ℕ) (m : RunState) → load_of code bytes ≡ Ok m → IsLoaded code bytes m
loaded code bytes m =
    read_as code bytes (IsLoaded code bytes m) (Ok m) (λ h e. absurd cc) (λ d h g e. absurd cc)
    (λ w is e.
    let a = accepted (belongs code w.saved) (bytes_eq (text_in w.format w.saved) bytes) w.saved m e in
    (w, is, a.2, ap (belongs code) (sym a.2) ∙ a.0, ap (text_in w.format) (sym a.2) ∙ (bytes_decides (text_in w.format w.saved) bytes).0 a.1))

loads : (code : Ops) (bytes : List ℕ) (m : RunState) → IsLoaded code bytes m → load_of code bytes ≡ Ok m
loads code bytes m h =
    let w = h.0 in
    let same = h.2 in
    from_state code bytes w h.1
    ∙ answered (belongs code w.saved) (bytes_eq (text_in w.format w.saved) bytes) w.saved true true (ap (belongs code) same ∙ h.3) (same_bytes (text_in w.format w.saved) bytes (ap (text_in w.format) same ∙ h.4))
    ∙ ap Ok same

pub loads_exactly : LoadsExactly
loads_exactly code bytes m = (loaded code bytes m, loads code bytes m)

refused : (code : Ops) (bytes : List ℕ) (e : StateStop) → e ≢ stops.OutOfMemory → load_of code bytes ≡ Err e → IsRefused code bytes e
refused code bytes stops.NotJson h =
    read_as code bytes (IsRefused code bytes stops.NotJson) (Err stops.NotJson) (λ none e. none) (λ d is g e. absurd cc) (λ w is e. absurd (never_json _ _ _ e))
refused code bytes stops.NotAState h =
    read_as code bytes (IsRefused code bytes stops.NotAState) (Err stops.NotAState) (λ none e. absurd cc) (λ d is g e. (d, is, g)) (λ w is e. absurd (never_state _ _ _ e))
refused code bytes stops.NotThisCode h =
    read_as code bytes (IsRefused code bytes stops.NotThisCode) (Err stops.NotThisCode) (λ none e. absurd cc) (λ d is g e. absurd cc) (λ w is e. (w, is, other_code _ _ _ e))
refused code bytes stops.NotCanonical h =
    read_as code bytes (IsRefused code bytes stops.NotCanonical) (Err stops.NotCanonical) (λ none e. absurd cc) (λ d is g e. absurd cc)
    (λ w is e. let a = other_text _ _ _ e in (w, is, a.0, λ same. differ (bytes_eq (text_in w.format w.saved) bytes) (same_bytes _ _ same) a.1))
refused code bytes stops.OutOfMemory h = absurd (h refl)

refuses : (code : Ops) (bytes : List ℕ) (e : StateStop) → e ≢ stops.OutOfMemory → IsRefused code bytes e → load_of code bytes ≡ Err e
unfolding load_of of_read
refuses code bytes stops.NotJson h is = ap (of_read code bytes) is
refuses code bytes stops.NotAState h is = ap (of_read code bytes) is.1 ∙ ap (of_written code bytes) is.2
refuses code bytes stops.NotThisCode h is =
    let w = is.0 in
    from_state code bytes w is.1 ∙ answered (belongs code w.saved) (bytes_eq (text_in w.format w.saved) bytes) w.saved false (bytes_eq (text_in w.format w.saved) bytes) is.2 refl
refuses code bytes stops.NotCanonical h is =
    let w = is.0 in
    from_state code bytes w is.1
    ∙ answered (belongs code w.saved) (bytes_eq (text_in w.format w.saved) bytes) w.saved true false is.2 (other_bytes (text_in w.format w.saved) bytes is.3)
refuses code bytes stops.OutOfMemory h is = absurd (h refl)

pub refuses_exactly : RefusesExactly
refuses_exactly code bytes e h = (refused code bytes e h, refuses code bytes e h)
