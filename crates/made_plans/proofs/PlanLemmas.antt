-- The made plan is within bounds.
use Rattle.std.proofs.Common.{◌≡◌, ℕ, suc, ◌+◌, ◌≤◌, List, [], ◌∷◌, length, map, None, Ok, arith, refl, ap, ◌∙◌, le-ltb}
use Rattle.std.proofs.lemmas.List.FromFn.{length-map-range_with_len}
use Rattle.std.specs.List.{range_with_len}
use Rattle.event_plans.specs.Draft.{checked, unless}
use Rattle.event_plans.specs.Event.{event_stop, events_stop, first_of, size_of, size_stop, uuid_stop}
use Rattle.made_plans.specs.Made.{made_draft, made_event, made_events}
use Rattle.made_plans.proofs.EventLemmas.{event_short, uuid_reads}

stop_none : (k size : ℕ) → size ≤ 32768 → size_stop k size ≡ None
stop_none k size short = rw (le-ltb 32768 size short) refl

event_is : (k n i : ℕ) → event_stop k (made_event n i) ≡ None
event_is k n i =
    let d = made_event n i in
    ap (uuid_stop k d) (uuid_reads i) ∙ stop_none k (size_of d) (event_short n i)

events_are : (n k : ℕ) (is : List ℕ) → events_stop k (map (made_event n) is) ≡ None
events_are n k [] = refl
events_are n k (i ∷ is) =
    ap (λ o. first_of o (events_stop (suc k) (map (made_event n) is))) (event_is k n i) ∙ events_are n (suc k) is

made_are : (n : ℕ) → events_stop 0 (made_events n) ≡ None
unfolding made_events
made_are n = events_are n 0 (range_with_len 0 (n + 1000))

pub made_length : (n : ℕ) → length (made_events n) ≡ n + 1000
unfolding made_events
made_length n = length-map-range_with_len (made_event n) 0 (n + 1000)

pub made_checked : (n : ℕ) → n ≤ 3000 → checked (made_draft n) ≡ Ok (made_draft n)
made_checked n small =
    let few : length (made_events n) ≤ 4096 = omega (arith, made_length n, small) in
    rw (le-ltb 4096 (length (made_events n)) few) (ap (unless (made_draft n)) (made_are n))
