use Rattle.std.proofs.Common.{◌≡◌, ℕ, List, ap, ◌∙◌, subst}
use Rattle.std.specs.Prelude.{Result, Ok, Err, IfOk}
use Rattle.std.specs.Str.{IsUtf8}
use Rattle.hog_ops.specs.Plain.{Ops}
use Rattle.vm_operations.specs.Machine.{MachineView}
use Rattle.vm_state.specs.declared.stop.StateStop.{StateStop}
use Rattle.vm_state.specs.Laws.{SavedFits}
use Rattle.vm_state.specs.Text.{Answers, load_of}
use Rattle.vm_state.proofs.Loading.{loads_saved, loads_old}
use Rattle.vm_state.proofs.Formats.{has_format, saves_loaded, loads_states}
use Rattle.vm_state.proofs.saved.load.Goals as goal

-- what holds where a machine was loaded
where_loaded : (r : Result MachineView StateStop) (code : Ops) (bytes : List ℕ) (P : MachineView → Type 0) → IfOk r (λ _. IsUtf8 bytes) → IfOk r (λ m. SavedFits m.run)
    → (IsUtf8 bytes → Answers (λ (m : MachineView). m.run) r (load_of code bytes)) → ((m : MachineView) → SavedFits m.run → load_of code bytes ≡ Ok m.run → P m) → IfOk r P
where_loaded (Ok m) code bytes P utf8 fits exact f = f m fits (exact utf8)
where_loaded (Err e) code bytes P utf8 fits exact f = tt

pub returns-in-Ok-clause-back : goal.returns-in-Ok-clause-back
returns-in-Ok-clause-back c = λ m is utf8 e.
    subst (Answers (λ (x : MachineView). x.run) c.load_text.result) (ap (load_of c.args.code.now) e ∙ loads_saved c.args.code.now m is) (c.load_text.ensures.exact c.args.code.now c.in-Ok.ensures utf8)

pub returns-in-Ok-clause-old : goal.returns-in-Ok-clause-old
returns-in-Ok-clause-old c = λ m is utf8 e other.
    subst (Answers (λ (x : MachineView). x.run) c.load_text.result) (ap (load_of c.args.code.now) e ∙ loads_old c.args.code.now m is other) (c.load_text.ensures.exact c.args.code.now c.in-Ok.ensures utf8)

pub returns-in-Ok-clause-same : goal.returns-in-Ok-clause-same
returns-in-Ok-clause-same c =
    let code = c.args.code.now in
    let bytes = c.args.bytes.now in
    where_loaded c.load_text.result code bytes _ c.load_text.ensures.utf8 c.load_text.ensures.fits (c.load_text.ensures.exact code c.in-Ok.ensures)
    (λ m fits e. let f = has_format code bytes m.run e in (f.0, f.1, saves_loaded code bytes m.run f.0 e f.1))

pub returns-in-Ok-clause-machine : goal.returns-in-Ok-clause-machine
returns-in-Ok-clause-machine c =
    let code = c.args.code.now in
    let bytes = c.args.bytes.now in
    where_loaded c.load_text.result code bytes _ c.load_text.ensures.utf8 c.load_text.ensures.fits (c.load_text.ensures.exact code c.in-Ok.ensures)
    (λ m fits e. let s = loads_states code bytes m.run e in record { fits = fits; state = s.0; belongs = s.1 })
