-- A text is read in one way.
use Rattle.std.proofs.Common.{◌≡◌, ℕ, zero, suc, List, [], ◌∷◌, length, Bool, true, false, Option, Some, None, Result, Ok, Err, inl, inr, refl, sym, ap, ◌∙◌, subst}
use Rattle.std.specs.Prelude.{◌⊎◌, codes, nat_lt, if◌then◌else◌}
use Rattle.serde_json.specs.Data.{Data}
use Rattle.event_plans.specs.Draft.{DraftOf, Drafts, IsDraft, IsNoDraft, checked_shape, draft_in, most_events, most_functions, shape_in, unless}
use Rattle.event_plans.specs.Event.{event_stop, events_stop, first_of, most_event, size_of, text_stop, uuid_of, uuid_stop}
use Rattle.event_plans.specs.Members.{text_at}
use Rattle.event_plans.specs.declared.stop.DraftStop.{DraftStop}
use Rattle.event_plans.specs.declared.stop.DraftStop.TheVariants.{NotJson, NotAPlan, TooManyEvents, TooManyFunctions, Missing, BadUuid, TooLarge, OutOfMemory}

same : (text : List ℕ) (a b : Result DraftOf DraftStop) → Drafts text a → Drafts text b → a ≡ b
same text a b x y =
    let both : Some x.value ≡ Some y.value = sym x.json ∙ y.json in
    let value : x.value ≡ y.value = cc in
    sym x.is ∙ ap draft_in value ∙ y.is

pub one_draft : (text : List ℕ) (a b : DraftOf) → IsDraft text a → IsDraft text b → a ≡ b
one_draft text a b x y = let both = same text (Ok a) (Ok b) x y in cc

-- a refusal is that there is no JSON, or that of a value
refused : (text : List ℕ) (stop : DraftStop) → IsNoDraft text stop → (stop ≡ NotJson) ⊎ Drafts text (Err stop)
refused text NotJson none = inl refl
refused text NotAPlan none = inr none
refused text TooManyEvents none = inr none
refused text TooManyFunctions none = inr none
refused text (Missing n) none = inr none
refused text (BadUuid n) none = inr none
refused text (TooLarge n) none = inr none
refused text OutOfMemory none = absurd none

-- where there is no JSON nothing is read
unread : (text : List ℕ) (stop : DraftStop) (a : Result DraftOf DraftStop) → stop ≡ NotJson → IsNoDraft text stop → Drafts text a → ⊥
unread text NotJson a is none x = let bad = sym (none x.utf8) ∙ x.json in absurd cc
unread text NotAPlan a is none x = absurd cc
unread text TooManyEvents a is none x = absurd cc
unread text TooManyFunctions a is none x = absurd cc
unread text (Missing n) a is none x = absurd cc
unread text (BadUuid n) a is none x = absurd cc
unread text (TooLarge n) a is none x = absurd cc
unread text OutOfMemory a is none x = absurd none

apart : (text : List ℕ) (stop : DraftStop) (draft : DraftOf) → IsNoDraft text stop → Drafts text (Ok draft) → (stop ≡ NotJson) ⊎ Drafts text (Err stop) → ⊥
apart text stop draft none is (inl json) = unread text stop (Ok draft) json none is
apart text stop draft none is (inr other) = let both = same text (Ok draft) (Err stop) is other in absurd cc

pub draft_or_none : (text : List ℕ) (draft : DraftOf) (stop : DraftStop) → IsDraft text draft → IsNoDraft text stop → ⊥
draft_or_none text draft stop is none = apart text stop draft none is (refused text stop none)

one_of : (text : List ℕ) (a b : DraftStop) → IsNoDraft text a → IsNoDraft text b → (a ≡ NotJson) ⊎ Drafts text (Err a) → (b ≡ NotJson) ⊎ Drafts text (Err b) → a ≡ b
one_of text a b x y (inl e) (inl f) = e ∙ sym f
one_of text a b x y (inl e) (inr g) = absurd (unread text a (Err b) e x g)
one_of text a b x y (inr h) (inl f) = absurd (unread text b (Err a) f y h)
one_of text a b x y (inr h) (inr g) = let both = same text (Err a) (Err b) h g in cc

pub one_refusal : (text : List ℕ) (a b : DraftStop) → IsNoDraft text a → IsNoDraft text b → a ≡ b
one_refusal text a b x y = one_of text a b x y (refused text a x) (refused text b y)

-- the refusals of values
abbrev OfValue : DraftStop → Type 0
OfValue NotJson = ⊥
OfValue NotAPlan = Unit {0}
OfValue TooManyEvents = Unit {0}
OfValue TooManyFunctions = Unit {0}
OfValue (Missing n) = Unit {0}
OfValue (BadUuid n) = Unit {0}
OfValue (TooLarge n) = Unit {0}
OfValue OutOfMemory = ⊥

size_says : (n : ℕ) (large : Bool) (stop : DraftStop) → (if large then Some (TooLarge n) else None) ≡ Some stop → OfValue stop
size_says n true stop is = let here : TooLarge n ≡ stop = cc in subst OfValue here tt
size_says n false stop is = absurd cc

uuid_says : (n : ℕ) (d : Data) (uuid : Option (List ℕ)) (stop : DraftStop) → uuid_stop n d uuid ≡ Some stop → OfValue stop
uuid_says n d None stop is = let here : BadUuid n ≡ stop = cc in subst OfValue here tt
uuid_says n d (Some uuid) stop is = size_says n (nat_lt most_event (size_of d)) stop is

text_says : (n : ℕ) (d : Data) (text : Option (List ℕ)) (stop : DraftStop) → text_stop n d text ≡ Some stop → OfValue stop
text_says n d None stop is = let here : Missing n ≡ stop = cc in subst OfValue here tt
text_says n d (Some text) stop is = uuid_says n d (uuid_of text) stop is

first_says : (a b : Option DraftStop) (stop : DraftStop) → (a ≡ Some stop → OfValue stop) → (b ≡ Some stop → OfValue stop) → first_of a b ≡ Some stop → OfValue stop
first_says None b stop x y is = y is
first_says (Some s) b stop x y is = x is

events_say : (n : ℕ) (ds : List Data) (stop : DraftStop) → events_stop n ds ≡ Some stop → OfValue stop
events_say n [] stop is = absurd cc
events_say n (d ∷ ds) stop is =
    first_says (event_stop n d) (events_stop (suc n) ds) stop (text_says n d (text_at (codes "uuid") d) stop) (events_say (suc n) ds stop) is

unless_says : (draft : DraftOf) (o : Option DraftStop) (stop : DraftStop) → ((s : DraftStop) → o ≡ Some s → OfValue s) → unless draft o ≡ Err stop → OfValue stop
unless_says draft None stop of_value is = absurd cc
unless_says draft (Some s) stop of_value is = let here : s ≡ stop = cc in subst OfValue here (of_value s refl)

functions_say : (draft : DraftOf) (many : Bool) (stop : DraftStop)
    → (if many then Err TooManyFunctions else unless draft (events_stop 0 draft.events)) ≡ Err stop → OfValue stop
functions_say draft true stop is = let here : TooManyFunctions ≡ stop = cc in subst OfValue here tt
functions_say draft false stop is = unless_says draft (events_stop 0 draft.events) stop (events_say 0 draft.events) is

counts_say : (draft : DraftOf) (many : Bool) (stop : DraftStop)
    → (if many then Err TooManyEvents else if nat_lt most_functions (length draft.functions) then Err TooManyFunctions else unless draft (events_stop 0 draft.events)) ≡ Err stop
    → OfValue stop
counts_say draft true stop is = let here : TooManyEvents ≡ stop = cc in subst OfValue here tt
counts_say draft false stop is = functions_say draft (nat_lt most_functions (length draft.functions)) stop is

shape_says : (o : Option DraftOf) (stop : DraftStop) → checked_shape o ≡ Err stop → OfValue stop
shape_says None stop is = let here : NotAPlan ≡ stop = cc in subst OfValue here tt
shape_says (Some draft) stop is = counts_say draft (nat_lt most_events (length draft.events)) stop is

of_value_text : (text : List ℕ) (stop : DraftStop) → OfValue stop → Drafts text (Err stop) → IsNoDraft text stop
of_value_text text NotJson of_value x = absurd of_value
of_value_text text NotAPlan of_value x = x
of_value_text text TooManyEvents of_value x = x
of_value_text text TooManyFunctions of_value x = x
of_value_text text (Missing n) of_value x = x
of_value_text text (BadUuid n) of_value x = x
of_value_text text (TooLarge n) of_value x = x
of_value_text text OutOfMemory of_value x = absurd of_value

-- the refusal of a value is that of its text
pub refused_text : (text : List ℕ) (stop : DraftStop) → Drafts text (Err stop) → IsNoDraft text stop
refused_text text stop x = of_value_text text stop (shape_says (shape_in x.value) stop x.is) x
