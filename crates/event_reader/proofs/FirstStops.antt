-- Functions have one first refusal at most, but for the reason why one isn't built.
use Rattle.std.proofs.Common.{◌≡◌, ◌≤◌, ℕ, suc, List, [], ◌∷◌, Option, Some, None, inl, inr, refl, sym, ap, ◌∙◌, subst, arith}
use Rattle.std.specs.Prelude.{◌⊎◌}
use Rattle.serde_json.specs.Data.{Data, no_members, object}
use Rattle.hog_program.specs.declared.stop.BuildStop.{BuildStop}
use Rattle.event_patterns.specs.Patterns.{IsPattern}
use Rattle.event_plans.specs.Function.{FunctionOf}
use Rattle.event_destinations.specs.Destinations.{IfAny, IsAny, IsBuiltText, IsDestinationStop, OfSource, OfFilter, OfPattern, OfInputs, IsFirstStop, IsLargeAt, IsReady, IsRefusedAt, IsUnbuiltAt}
use Rattle.event_destinations.specs.declared.stop.DestinationStop.{DestinationStop}
use Rattle.event_destinations.specs.declared.stop.DestinationStop.TheVariants.{BadFunction, BadPattern, TooLarge, OutOfMemory}

-- a function that is ready has no refusal
abbrev pub NeverBoth : Type 0
NeverBoth = (n : ℕ) (f : FunctionOf) (stop : DestinationStop) → IsReady f → IsDestinationStop n f stop → ⊥

abbrev pub OfOneFunction : DestinationStop → DestinationStop → Type 0
OfOneFunction a b = (n : ℕ) × (s : BuildStop) × (t : BuildStop) × (a ≡ BadFunction n s) × (b ≡ BadFunction n t)

abbrev pub Alike : DestinationStop → DestinationStop → Type 0
Alike a b = (a ≡ b) ⊎ OfOneFunction a b

-- the function with that pattern, and with no inputs
with_pattern : Option (List ℕ) → FunctionOf → FunctionOf
with_pattern pattern f = record {
  name = f.name;
  source = f.source;
  filter = f.filter;
  pattern = pattern;
  inputs = object no_members;
  priority = f.priority;
  answers = f.answers;
}

-- ---- of which kind a refusal is

abbrev Unbuilt : ℕ → FunctionOf → DestinationStop → Type 0
Unbuilt n f stop = (why : BuildStop) × (stop ≡ BadFunction n why) × (IsBuiltText f.source → IfAny IsBuiltText f.filter → ⊥)

abbrev Unread : ℕ → FunctionOf → DestinationStop → Type 0
Unread n f stop = (stop ≡ BadPattern n) × IsBuiltText f.source × IfAny IsBuiltText f.filter × (IfAny IsPattern f.pattern → ⊥)

abbrev Large : ℕ → FunctionOf → DestinationStop → Type 0
Large n f stop = (stop ≡ TooLarge n) × IsBuiltText f.source × IfAny IsBuiltText f.filter × IfAny IsPattern f.pattern

abbrev Kind : ℕ → FunctionOf → DestinationStop → Type 0
Kind n f stop = Unbuilt n f stop ⊎ (Unread n f stop ⊎ Large n f stop)

any_text : (P : List ℕ → Type 0) (o : Option (List ℕ)) → IsAny P o → (text : List ℕ) × P text
any_text P None is = absurd is
any_text P (Some text) is = (text, is)

unbuilt_at : (n : ℕ) (stop : DestinationStop) (text : List ℕ) → IsUnbuiltAt n stop text → (why : BuildStop) × (stop ≡ BadFunction n why)
unbuilt_at n (BadFunction m why) text is = (why, ap (λ k. BadFunction k why) is.0)
unbuilt_at n (BadPattern m) text is = absurd is
unbuilt_at n (TooLarge m) text is = absurd is
unbuilt_at n OutOfMemory text is = absurd is

refused_at : (n : ℕ) (stop : DestinationStop) (text : List ℕ) → IsRefusedAt n stop text → stop ≡ BadPattern n
refused_at n (BadFunction m why) text is = absurd is
refused_at n (BadPattern m) text is = ap (λ k. BadPattern k) is.0
refused_at n (TooLarge m) text is = absurd is
refused_at n OutOfMemory text is = absurd is

large_at : (n : ℕ) (stop : DestinationStop) (inputs : Data) → IsLargeAt n stop inputs → stop ≡ TooLarge n
large_at n (BadFunction m why) inputs is = absurd is
large_at n (BadPattern m) inputs is = absurd is
large_at n (TooLarge m) inputs is = ap (λ k. TooLarge k) is.0
large_at n OutOfMemory inputs is = absurd is

kind : NeverBoth → (n : ℕ) (f : FunctionOf) (stop : DestinationStop) → IsDestinationStop n f stop → Kind n f stop
unfolding with_pattern
kind never n f stop (OfSource is) =
    let why = unbuilt_at n stop f.source is in
    inl (why.0, why.1, λ source filter. never n (with_pattern None f) stop (record { source = source; filter = filter; pattern = tt; short = omega arith }) (OfSource is))
kind never n f stop (OfFilter source is) =
    let text = any_text (IsUnbuiltAt n stop) f.filter is in
    let why = unbuilt_at n stop text.0 text.1 in
    inl (why.0, why.1, λ source filter. never n (with_pattern None f) stop (record { source = source; filter = filter; pattern = tt; short = omega arith }) (OfFilter source is))
kind never n f stop (OfPattern source filter is) =
    let text = any_text (IsRefusedAt n stop) f.pattern is in
    inr (inl (
      refused_at n stop text.0 text.1,
      source,
      filter,
      λ pattern. never n (with_pattern f.pattern f) stop (record { source = source; filter = filter; pattern = pattern; short = omega arith }) (OfPattern source filter is),
    ))
kind never n f stop (OfInputs source filter pattern is) = inr (inr (large_at n stop f.inputs is, source, filter, pattern))

kinds : (n : ℕ) (f : FunctionOf) (a b : DestinationStop) → Kind n f a → Kind n f b → Alike a b
kinds n f a b (inl x) (inl y) = inr (n, x.0, y.0, x.1, y.1)
kinds n f a b (inl x) (inr (inl y)) = absurd (x.2 y.1 y.2)
kinds n f a b (inl x) (inr (inr y)) = absurd (x.2 y.1 y.2)
kinds n f a b (inr (inl x)) (inl y) = absurd (y.2 x.1 x.2)
kinds n f a b (inr (inl x)) (inr (inl y)) = inl (x.0 ∙ sym y.0)
kinds n f a b (inr (inl x)) (inr (inr y)) = absurd (x.3 y.3)
kinds n f a b (inr (inr x)) (inl y) = absurd (y.2 x.1 x.2)
kinds n f a b (inr (inr x)) (inr (inl y)) = absurd (y.3 x.3)
kinds n f a b (inr (inr x)) (inr (inr y)) = inl (x.0 ∙ sym y.0)

pub one_first : NeverBoth → (fs : List FunctionOf) (n : ℕ) (a b : DestinationStop) → IsFirstStop n fs a → IsFirstStop n fs b → Alike a b
one_first never [] n a b p q = absurd p
one_first never (f ∷ fs) n a b (inl x) (inl y) = kinds n f a b (kind never n f a x) (kind never n f b y)
one_first never (f ∷ fs) n a b (inl x) (inr y) = absurd (never n f a y.0 x)
one_first never (f ∷ fs) n a b (inr x) (inl y) = absurd (never n f b x.0 y)
one_first never (f ∷ fs) n a b (inr x) (inr y) = one_first never fs (suc n) a b x.1 y.1
