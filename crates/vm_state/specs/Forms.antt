-- The elements of a state whose parts have these forms.
use Rattle.std.specs.Prelude.{ℕ, ◌<◌, ◌^◌, List, [], ◌∷◌, ◌++◌, IfSome, codes}
use Rattle.std.specs.List.{AllByRecursion}
use Rattle.serde_json.specs.Data.{Data, string}
use Rattle.serde_json.specs.View.{view}
use Rattle.vm_course.specs.Run.{RunState}
use Rattle.state_forms.specs.Shapes.{number_data}
use Rattle.state_forms.specs.Values.{ValueFits, CellFits}
use Rattle.state_forms.specs.Calls.{FrameFits, ThrowFits, UpvalueFits}
use Rattle.vm_state.specs.declared.parts.Format.{Format}
use Rattle.vm_state.specs.declared.parts.Format.TheVariants.{First, Second}
use Rattle.vm_state.specs.declared.parts.Counts.{Counts}
use Rattle.vm_state.specs.declared.writing.Forms.{Forms}
use Rattle.vm_state.specs.Layout.{number_of_format}

abbrev pub counts_shown : Counts → List Data
counts_shown n = number_data n.ops ∷ number_data n.turns ∷ number_data n.units ∷ number_data n.used ∷ []

abbrev pub forms_shown : Forms → List Data
forms_shown f =
    view f.globals ∷ view f.end ∷ view f.calls.stack ∷ view f.calls.frames ∷ view f.calls.throws ∷ view f.held.upvalues ∷ view f.held.heap
    ∷ view f.held.trace ∷ []

abbrev pub asked_shown : Format → ℕ → List Data
asked_shown First n = []
asked_shown Second n = number_data n ∷ []

abbrev pub elements_by : Format → Counts → ℕ → Forms → List Data
elements_by format n asked f = string (codes "hog-state") ∷ number_data (number_of_format format) ∷ counts_shown n ++ (asked_shown format asked ++ forms_shown f)

-- the numbers in a machine's lists are of their types, and no dictionary has a key twice
pub record ListsFit (m : RunState) : Type 0 where
  pub globals : IfSome m.globals (λ n. n < 2 ^ 32)
  pub stack : AllByRecursion ValueFits m.state.stack
  pub frames : AllByRecursion FrameFits m.state.frames
  pub throws : AllByRecursion ThrowFits m.state.throws
  pub upvalues : AllByRecursion UpvalueFits m.state.upvalues
  pub heap : AllByRecursion CellFits m.state.heap
