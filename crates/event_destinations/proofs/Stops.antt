-- Refusals of functions, and that one that is ready has none.
use Rattle.std.proofs.Common.{◌≡◌, ◌<◌, ◌≤◌, ℕ, suc, ◌+◌, List, [], ◌∷◌, ◌++◌, Option, Some, None, length, inl, inr, refl, ap, sym, subst, ◌∙◌, arith}
use Rattle.std.specs.List.{All}
use Rattle.std.specs.Prelude.{◌⊎◌, IsSomeAnd, IfSome}
use Rattle.regex_hir.specs.Re.{Re}
use Rattle.regex_syntax.specs.Brackets.{Nested}
use Rattle.regex_syntax.specs.Grammar.{Names}
use Rattle.regex_syntax.specs.Verdict.{Refuses, default_config}
use Rattle.serde_json.specs.Data.{Data}
use Rattle.event_plans.specs.Event.{size_of}
use Rattle.std.proofs.lemmas.List.{append-nil, length-map}
use Rattle.std.proofs.lemmas.List.Elements.{All-push, All-rest}
use Rattle.hog_tree.specs.Plain.{Stms}
use Rattle.hog_program.specs.Build.{IsBuilt, IsUnbuilt}
use Rattle.hog_program.specs.declared.stop.BuildStop.{BuildStop}
use Rattle.event_patterns.specs.Patterns.{IsPattern, IsRefused, read_of}
use Rattle.event_plans.specs.Drafts.{function_of, functions_of}
use Rattle.event_plans.specs.Function.{FunctionOf}
use Rattle.event_plans.specs.declared.function.Function.{Function}
use Rattle.event_destinations.specs.Seen.{of_destinations}
use Rattle.event_destinations.specs.declared.destination.Destination.{Destination}
use Rattle.event_destinations.specs.Destinations.{IfAny, IsAny, IsBuiltText, IsDestinationStop, OfSource, OfFilter, OfPattern, OfInputs, IsFirstStop, IsLargeAt, IsReady, IsRefusedAt, IsUnbuiltAt, most_inputs}
use Rattle.event_destinations.specs.declared.stop.DestinationStop.{DestinationStop}
use Rattle.event_destinations.specs.declared.stop.DestinationStop.TheVariants.{BadFunction, BadPattern, TooLarge, OutOfMemory}

first_ready : (f : FunctionOf) (fs : List FunctionOf) → All IsReady (f ∷ fs) → IsReady f
first_ready f fs all = all 0 f (omega arith)

of_push : (ds : List Destination) (d : Destination) → of_destinations (ds ++ d ∷ []) ≡ of_destinations ds ++ function_of d.function ∷ []
of_push [] d = refl
of_push (e ∷ ds) d = ap (λ fs. function_of e.function ∷ fs) (of_push ds d)

of_pushed : (ds : List Destination) (d : Destination) (rest : List FunctionOf) → of_destinations (ds ++ d ∷ []) ++ rest ≡ of_destinations ds ++ function_of d.function ∷ rest
of_pushed [] d rest = refl
of_pushed (e ∷ ds) d rest = ap (λ fs. function_of e.function ∷ fs) (of_pushed ds d rest)

-- the refusal of a function that stands behind others that are ready
pub stop_behind : (fs : List FunctionOf) (n : ℕ) (f : FunctionOf) (rest : List FunctionOf) (stop : DestinationStop) → All IsReady fs
    → IsDestinationStop (n + length fs) f stop → IsFirstStop n (fs ++ f ∷ rest) stop
stop_behind [] n f rest stop ready is = inl (subst (λ k. IsDestinationStop k f stop) (omega arith) is)
stop_behind (g ∷ fs) n f rest stop ready is =
    inr (first_ready g fs ready, stop_behind fs (suc n) f rest stop (All-rest IsReady g fs (g ∷ fs) refl ready) (subst (λ k. IsDestinationStop k f stop) (omega arith) is))

-- the refusal of the next function, behind those that are ready
pub stop_next : (fs : List Function) (ds : List Destination) (next : Function) (left rest : List Function) (n : ℕ) (stop : DestinationStop)
    → functions_of fs ≡ of_destinations ds ++ functions_of left → left ≡ next ∷ rest → All IsReady (of_destinations ds) → n ≡ length ds
    → IsDestinationStop n (function_of next) stop → IsFirstStop 0 (functions_of fs) stop
stop_next fs ds next left rest n stop split first ready place is =
    subst (λ all. IsFirstStop 0 all stop) (sym (split ∙ ap (λ (l : List Function). of_destinations ds ++ functions_of l) first))
    (stop_behind (of_destinations ds) 0 (function_of next) (functions_of rest) stop ready
    (subst (λ k. IsDestinationStop k (function_of next) stop) (omega (arith, place, length-map ds (λ (d : Destination). function_of d.function))) is))

-- one more destination
pub split_more : (fs : List Function) (ds : List Destination) (next : Function) (left rest : List Function) (d : Destination)
    → functions_of fs ≡ of_destinations ds ++ functions_of left → left ≡ next ∷ rest → function_of d.function ≡ function_of next
    → functions_of fs ≡ of_destinations (ds ++ d ∷ []) ++ functions_of rest
split_more fs ds next left rest d split first is =
    split ∙ (ap (λ (l : List Function). of_destinations ds ++ functions_of l) first ∙ (ap (λ f. of_destinations ds ++ f ∷ functions_of rest) (sym is) ∙ sym (of_pushed ds d (functions_of rest))))

pub ready_more : (ds : List Destination) (d : Destination) (next : Function) → All IsReady (of_destinations ds) → function_of d.function ≡ function_of next
    → IsReady (function_of next) → All IsReady (of_destinations (ds ++ d ∷ []))
ready_more ds d next all is ready =
    subst (λ fs. All IsReady fs) (sym (of_push ds d)) (All-push IsReady (of_destinations ds) (function_of d.function) all (subst IsReady (sym is) ready))

-- all are ready where nothing is left
pub ready_all : (fs : List Function) (ds : List Destination) (left : List Function) → functions_of fs ≡ of_destinations ds ++ functions_of left → left ≡ []
    → All IsReady (of_destinations ds) → All IsReady (functions_of fs)
ready_all fs ds left split none all =
    subst (λ gs. All IsReady gs) (sym (split ∙ (ap (λ (l : List Function). of_destinations ds ++ functions_of l) none ∙ append-nil (of_destinations ds)))) all

-- ---- ready, and no refusal

abbrev pub BuiltOrUnbuilt : Type 0
BuiltOrUnbuilt = (source : List ℕ) (whole : Stms) (stop : BuildStop) → IsBuilt source whole → IsUnbuilt source stop → ⊥

built_is : BuiltOrUnbuilt → (n : ℕ) (stop : DestinationStop) (text : List ℕ) → IsBuiltText text → IsUnbuiltAt n stop text → ⊥
built_is law n (BadFunction m why) text built unbuilt = law text built.0 why built.1 unbuilt.1
built_is law n (BadPattern m) text built unbuilt = unbuilt
built_is law n (TooLarge m) text built unbuilt = unbuilt
built_is law n OutOfMemory text built unbuilt = unbuilt

both_any : (P Q : List ℕ → Type 0) → ((text : List ℕ) → P text → Q text → ⊥) → (o : Option (List ℕ)) → IfAny P o → IsAny Q o → ⊥
both_any P Q never None if is = is
both_any P Q never (Some text) if is = never text if is

reads_not : (most : ℕ) (o : Option (Nested Re × Names)) → IsSomeAnd o (λ (re, names). re.depth ≤ most)
    → (o ≡ None) ⊎ IfSome o (λ (re, names). most < re.depth) → ⊥
reads_not most None reads refused = reads
reads_not most (Some (re, names)) reads (inl none) = absurd cc
reads_not most (Some (re, names)) reads (inr deep) = absurd (omega (arith, reads, deep))

pattern_is : (text : List ℕ) → IsPattern text → IsRefused text → ⊥
unfolding Refuses
pattern_is text is (inl brace) = is.plain brace
pattern_is text is (inr (kind, inl memory, other)) = other memory
pattern_is text is (inr (kind, inr (inl none), other)) = reads_not default_config.nest_limit (read_of text) is.reads (inl none)
pattern_is text is (inr (kind, inr (inr (limit, deep)), other)) = reads_not default_config.nest_limit (read_of text) is.reads (inr deep)

pattern_refused : (n : ℕ) (stop : DestinationStop) (text : List ℕ) → IsPattern text → IsRefusedAt n stop text → ⊥
pattern_refused n (BadFunction m why) text is refused = refused
pattern_refused n (BadPattern m) text is refused = pattern_is text is refused.1
pattern_refused n (TooLarge m) text is refused = refused
pattern_refused n OutOfMemory text is refused = refused

short_is : (n : ℕ) (stop : DestinationStop) (inputs : Data) → size_of inputs ≤ most_inputs → IsLargeAt n stop inputs → ⊥
short_is n (BadFunction m why) inputs short large = large
short_is n (BadPattern m) inputs short large = large
short_is n (TooLarge m) inputs short large = absurd (omega (arith, short, large.1))
short_is n OutOfMemory inputs short large = large

pub never_both : BuiltOrUnbuilt → (n : ℕ) (f : FunctionOf) (stop : DestinationStop) → IsReady f → IsDestinationStop n f stop → ⊥
never_both law n f stop ready (OfSource is) = built_is law n stop f.source ready.source is
never_both law n f stop ready (OfFilter source is) = both_any IsBuiltText (IsUnbuiltAt n stop) (built_is law n stop) f.filter ready.filter is
never_both law n f stop ready (OfPattern source filter is) = both_any IsPattern (IsRefusedAt n stop) (pattern_refused n stop) f.pattern ready.pattern is
never_both law n f stop ready (OfInputs source filter pattern is) = short_is n stop f.inputs ready.short is

pub none_first : ((n : ℕ) (f : FunctionOf) (stop : DestinationStop) → IsReady f → IsDestinationStop n f stop → ⊥)
    → (fs : List FunctionOf) (n : ℕ) (stop : DestinationStop) → All IsReady fs → IsFirstStop n fs stop → ⊥
none_first never [] n stop ready is = is
none_first never (f ∷ fs) n stop ready (inl here) = never n f stop (first_ready f fs ready) here
none_first never (f ∷ fs) n stop ready (inr behind) = none_first never fs (suc n) stop (All-rest IsReady f fs (f ∷ fs) refl ready) behind.1
