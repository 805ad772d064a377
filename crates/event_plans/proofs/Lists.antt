-- What is read of the values up to a place.
use Rattle.std.proofs.Common.{◌≡◌, ◌≤◌, ◌<◌, ℕ, zero, suc, ◌+◌, List, [], ◌∷◌, ◌++◌, Option, Some, None, length, get_or, take, refl, sym, ap, ◌∙◌, arith}
use Rattle.std.specs.Prelude.{map, option_map, option_and_then}
use Rattle.std.proofs.lemmas.List.{take_more}
use Rattle.serde_json.specs.Data.{Data}
use Rattle.serde_json.specs.View.{view}
use Rattle.serde_json.specs.declared.value.Value.{Value}
use Rattle.event_plans.specs.Event.{event_stop, events_stop, first_of}
use Rattle.event_plans.specs.Members.{read_all, views}
use Rattle.event_plans.specs.declared.stop.DraftStop.{DraftStop}

pub map_push : {X Y : Type 0} (f : X → Y) (xs : List X) (x : X) → map f (xs ++ x ∷ []) ≡ map f xs ++ f x ∷ []
map_push f [] x = refl
map_push f (y ∷ xs) x = ap (λ rest. f y ∷ rest) (map_push f xs x)

views_take : (n : ℕ) (vs : List Value) → take n (views vs) ≡ views (take n vs)
views_take zero vs = refl
views_take (suc n) [] = refl
views_take (suc n) (v ∷ vs) = ap (λ ds. view v ∷ ds) (views_take n vs)

-- one more value
pub views_more : (vs : List Value) (i : ℕ) (v : Value) → i < length vs → v ≡ get_or vs i v → views (take (i + 1) vs) ≡ views (take i vs) ++ view v ∷ []
views_more vs i v within here =
    ap views (take_more vs i v within ∙ ap (λ x. take i vs ++ x ∷ []) (sym here)) ∙ map_push view (take i vs) v

-- the value at a place, and what stands before and behind it
pub split_at : (vs : List Value) (i : ℕ) (v : Value) → i < length vs → v ≡ get_or vs i v → (rest : List Data) × (views vs ≡ views (take i vs) ++ view v ∷ rest)
split_at [] i v within here = absurd (omega (arith, within))
split_at (x ∷ vs) zero v within here = (views vs, ap (λ y. view y ∷ views vs) (sym here))
split_at (x ∷ vs) (suc i) v within here =
    let rest = split_at vs i v (omega (arith, within)) here in
    (rest.0, ap (λ ds. view x ∷ ds) rest.1)

both_read : {X : Type 0} (x : X) (xs : List X) (first : Option X) (rest longer : Option (List X))
    → ((ys : List X) → rest ≡ Some ys → longer ≡ Some (ys ++ x ∷ []))
    → option_and_then (λ y. option_map (λ ys. y ∷ ys) rest) first ≡ Some xs
    → option_and_then (λ y. option_map (λ ys. y ∷ ys) longer) first ≡ Some (xs ++ x ∷ [])
both_read x xs None rest longer more all = absurd cc
both_read x xs (Some y) None longer more all = absurd cc
both_read x xs (Some y) (Some ys) longer more all =
    let same : y ∷ ys ≡ xs = cc in
    ap (option_map (λ zs. y ∷ zs)) (more ys refl) ∙ ap (λ zs. Some (zs ++ x ∷ [])) same

-- one more that is read
pub read_push : {X : Type 0} (read : Data → Option X) (ds : List Data) (d : Data) (xs : List X) (x : X) → read_all read ds ≡ Some xs → read d ≡ Some x
    → read_all read (ds ++ d ∷ []) ≡ Some (xs ++ x ∷ [])
read_push read [] d xs x all one =
    let none : [] ≡ xs = cc in
    ap (option_and_then (λ y. option_map (λ ys. y ∷ ys) (Some []))) one ∙ ap (λ ys. Some (ys ++ x ∷ [])) none
read_push read (e ∷ ds) d xs x all one =
    both_read x xs (read e) (read_all read ds) (read_all read (ds ++ d ∷ [])) (λ ys are. read_push read ds d ys x are one) all

none_of : {X : Type 0} (o : Option X) (rest : Option (List X)) → rest ≡ None → option_and_then (λ y. option_map (λ ys. y ∷ ys) rest) o ≡ None
none_of None rest none = refl
none_of (Some x) rest none = ap (option_map (λ ys. x ∷ ys)) none

-- where nothing is read of one, nothing is read of all
pub read_none : {X : Type 0} (read : Data → Option X) (ds : List Data) (d : Data) (rest : List Data) → read d ≡ None → read_all read (ds ++ d ∷ rest) ≡ None
read_none read [] d rest none = ap (option_and_then (λ y. option_map (λ ys. y ∷ ys) (read_all read rest))) none
read_none read (e ∷ ds) d rest none = none_of (read e) (read_all read (ds ++ d ∷ rest)) (read_none read ds d rest none)

none_both : (a b : Option DraftStop) → first_of a b ≡ None → (a ≡ None) × (b ≡ None)
none_both None b none = (refl, none)
none_both (Some stop) b none = absurd cc

-- one more event
pub stop_none : (ds : List Data) (n : ℕ) (d : Data) → events_stop n ds ≡ None → event_stop (n + length ds) d ≡ None → events_stop n (ds ++ d ∷ []) ≡ None
stop_none [] n d all one =
    let here : n ≡ n + 0 = omega arith in
    ap (λ o. first_of o None) (ap (λ m. event_stop m d) here ∙ one)
stop_none (e ∷ ds) n d all one =
    let both = none_both (event_stop n e) (events_stop (suc n) ds) all in
    let here : suc n + length ds ≡ n + length (e ∷ ds) = omega arith in
    ap (λ o. first_of o (events_stop (suc n) (ds ++ d ∷ []))) both.0
    ∙ stop_none ds (suc n) d both.1 (ap (λ m. event_stop m d) here ∙ one)

-- the first that is none
pub stop_some : (ds : List Data) (n : ℕ) (d : Data) (rest : List Data) (stop : DraftStop) → events_stop n ds ≡ None → event_stop (n + length ds) d ≡ Some stop
    → events_stop n (ds ++ d ∷ rest) ≡ Some stop
stop_some [] n d rest stop all one =
    let here : n ≡ n + 0 = omega arith in
    ap (λ o. first_of o (events_stop (suc n) rest)) (ap (λ m. event_stop m d) here ∙ one)
stop_some (e ∷ ds) n d rest stop all one =
    let both = none_both (event_stop n e) (events_stop (suc n) ds) all in
    let here : suc n + length ds ≡ n + length (e ∷ ds) = omega arith in
    ap (λ o. first_of o (events_stop (suc n) (ds ++ d ∷ rest))) both.0
    ∙ stop_some ds (suc n) d rest stop both.1 (ap (λ m. event_stop m d) here ∙ one)

-- so many values stand before a place
pub place_of : (vs : List Value) (i : ℕ) → i < length vs → 0 + length (views (take i vs)) ≡ i
place_of vs zero within = refl
place_of [] (suc i) within = absurd (omega (arith, within))
place_of (v ∷ vs) (suc i) within = let rest = place_of vs i (omega (arith, within)) in omega (arith, rest)
