-- Which functions of a plan are ready to run, and why one isn't.
use Rattle.std.specs.Prelude.{◌≡◌, ◌<◌, ◌≤◌, ◌⊎◌, ℕ, suc, List, [], ◌∷◌, Option, Some, None}
use Rattle.serde_json.specs.Data.{Data}
use Rattle.hog_tree.specs.Plain.{Stms}
use Rattle.hog_program.specs.Build.{IsBuilt, IsUnbuilt}
use Rattle.event_patterns.specs.Patterns.{IsPattern, IsRefused}
use Rattle.event_plans.specs.Event.{size_of}
use Rattle.event_plans.specs.Function.{FunctionOf}
use Rattle.event_destinations.specs.declared.stop.DestinationStop.{DestinationStop}
use Rattle.event_destinations.specs.declared.stop.DestinationStop.TheVariants.{BadFunction, BadPattern, TooLarge, OutOfMemory}

-- the most bytes of a function's inputs
abbrev pub most_inputs : ℕ
most_inputs = 32768

-- the text is a program whose names are without fault
abbrev pub IsBuiltText : List ℕ → Type 0
IsBuiltText text = (whole : Stms) × IsBuilt text whole

-- there is no text, or it is one of which this holds
abbrev pub IfAny : (List ℕ → Type 0) → Option (List ℕ) → Type 0
IfAny P None = Unit {0}
IfAny P (Some text) = P text

-- The function is ready: its source is built, its filter too where it has one, its pattern is one where it has one, and its inputs
-- are not too large as they are kept.
pub record IsReady (f : FunctionOf) : Type 0 where
  pub source : IsBuiltText f.source
  pub filter : IfAny IsBuiltText f.filter
  pub pattern : IfAny IsPattern f.pattern
  pub short : size_of f.inputs ≤ most_inputs

-- ---- refusals of the function that stands at a place, counted from 0

-- the text isn't built, for this reason
abbrev pub IsUnbuiltAt : ℕ → DestinationStop → List ℕ → Type 0
IsUnbuiltAt n (BadFunction m why) text = (m ≡ n) × IsUnbuilt text why
IsUnbuiltAt n (BadPattern m) text = ⊥
IsUnbuiltAt n (TooLarge m) text = ⊥
IsUnbuiltAt n OutOfMemory text = ⊥

-- the text is no pattern
abbrev pub IsRefusedAt : ℕ → DestinationStop → List ℕ → Type 0
IsRefusedAt n (BadFunction m why) text = ⊥
IsRefusedAt n (BadPattern m) text = (m ≡ n) × IsRefused text
IsRefusedAt n (TooLarge m) text = ⊥
IsRefusedAt n OutOfMemory text = ⊥

-- the inputs are too large
abbrev pub IsLargeAt : ℕ → DestinationStop → Data → Type 0
IsLargeAt n (BadFunction m why) inputs = ⊥
IsLargeAt n (BadPattern m) inputs = ⊥
IsLargeAt n (TooLarge m) inputs = (m ≡ n) × (most_inputs < size_of inputs)
IsLargeAt n OutOfMemory inputs = ⊥

-- there is a text of which this holds
abbrev pub IsAny : (List ℕ → Type 0) → Option (List ℕ) → Type 0
IsAny P None = ⊥
IsAny P (Some text) = P text

-- Why the function at that place isn't ready: the first of these.
pub data IsDestinationStop (n : ℕ) (f : FunctionOf) (stop : DestinationStop) : Type 0 where
  -- its source isn't built
  OfSource : IsUnbuiltAt n stop f.source → IsDestinationStop n f stop
  -- its filter isn't
  OfFilter : IsBuiltText f.source → IsAny (IsUnbuiltAt n stop) f.filter → IsDestinationStop n f stop
  -- its pattern is none
  OfPattern : IsBuiltText f.source → IfAny IsBuiltText f.filter → IsAny (IsRefusedAt n stop) f.pattern → IsDestinationStop n f stop
  -- its inputs are too large
  OfInputs : IsBuiltText f.source → IfAny IsBuiltText f.filter → IfAny IsPattern f.pattern → IsLargeAt n stop f.inputs → IsDestinationStop n f stop

-- Why functions aren't ready, of which the first stands at that place: the refusal of the first that isn't.
abbrev pub IsFirstStop : ℕ → List FunctionOf → DestinationStop → Type 0
IsFirstStop n [] stop = ⊥
IsFirstStop n (f ∷ fs) stop = IsDestinationStop n f stop ⊎ (IsReady f × IsFirstStop (suc n) fs stop)
