-- What one more job or broken run adds.
use Rattle.std.proofs.Common.{◌≡◌, ◌+◌, ℕ, List, [], ◌∷◌, ◌++◌, length, Bool, true, false, Option, Some, None, refl, sym, ap, ◌∙◌, subst, arith, append-nil, length-append}
use Rattle.std.specs.Prelude.{◌&&◌, is_some, option_and_then}
use Rattle.std.specs.List.{All}
use Rattle.std.proofs.lemmas.List.Elements.{All-push}
use Rattle.std.proofs.lemmas.List.Sums.{sum_by_push}
use Rattle.event_reader.specs.Gathering.{HasGathered, keeps, left}
use Rattle.event_reader.specs.Plans.{IsTaken, input_size, jobs_size, most_bytes, most_jobs}
use Rattle.event_reader.specs.declared.gather.Gathered.{Gathered}
use Rattle.event_reader.specs.declared.plan.BrokenRun.{BrokenRun}
use Rattle.event_reader.specs.declared.plan.PlanJob.{PlanJob}
use Rattle.event_reader.proofs.Left.{then_left}

pub and_both : (a b : Bool) → (a && b) ≡ true → (a ≡ true) × (b ≡ true)
and_both true true is = (refl, refl)
and_both true false is = absurd cc
and_both false b is = absurd cc

both_and : (a b : Bool) → a ≡ true → b ≡ true → (a && b) ≡ true
both_and true true p q = refl
both_and true false p q = q
both_and false b p q = p

some_before : {A B : Type 0} (f : A → Option B) (o : Option A) → is_some (option_and_then f o) ≡ true → is_some o ≡ true
some_before f None is = is
some_before f (Some x) is = refl

-- what is still kept was kept before
kept_before : (job : PlanJob) (g h : Gathered)
    → h.places ≡ option_and_then (λ n. left n 1) g.places → h.room ≡ option_and_then (λ n. left n (input_size job.input)) g.room
    → keeps h ≡ true → keeps g ≡ true
kept_before job g h places room kept =
    let both = and_both (is_some h.places) (is_some h.room) kept in
    both_and (is_some g.places) (is_some g.room)
    (some_before (λ n. left n 1) g.places (sym (ap is_some places) ∙ both.0))
    (some_before (λ n. left n (input_size job.input)) g.room (sym (ap is_some room) ∙ both.1))

places_more : (xs : List PlanJob) (job : PlanJob) (g h : Gathered) → g.places ≡ left most_jobs (length xs) → h.places ≡ option_and_then (λ n. left n 1) g.places
    → h.places ≡ left most_jobs (length (xs ++ job ∷ []))
places_more xs job g h before places =
    places ∙ then_left most_jobs (length xs) 1 g.places before ∙ ap (left most_jobs) (sym (length-append xs (job ∷ [])))

room_more : (xs : List PlanJob) (job : PlanJob) (g h : Gathered) → g.room ≡ left most_bytes (jobs_size xs)
    → h.room ≡ option_and_then (λ n. left n (input_size job.input)) g.room → h.room ≡ left most_bytes (jobs_size (xs ++ job ∷ []))
room_more xs job g h before room =
    room ∙ then_left most_bytes (jobs_size xs) (input_size job.input) g.room before
    ∙ ap (left most_bytes) (sym (sum_by_push (λ (j : PlanJob). input_size j.input) xs job))

pub job_kept : (xs : List PlanJob) (ys : List BrokenRun) (job : PlanJob) (g h : Gathered) → IsTaken job → HasGathered xs ys g
    → h.places ≡ option_and_then (λ n. left n 1) g.places → h.room ≡ option_and_then (λ n. left n (input_size job.input)) g.room
    → h.jobs.items ≡ g.jobs.items ++ job ∷ [] → h.broken.items ≡ g.broken.items → HasGathered (xs ++ job ∷ []) (ys ++ []) h
job_kept xs ys job g h taken has places room jobs broken = record {
  places = places_more xs job g h has.places places;
  room = room_more xs job g h has.room room;
  kept = λ still.
      let before = has.kept (kept_before job g h places room still) in
      (jobs ∙ ap (λ js. js ++ job ∷ []) before.0, broken ∙ before.1 ∙ sym (append-nil ys));
  taken = subst (All IsTaken) (sym jobs) (All-push IsTaken g.jobs.items job has.taken taken);
}

pub job_dropped : (xs : List PlanJob) (ys : List BrokenRun) (job : PlanJob) (g h : Gathered) → HasGathered xs ys g
    → h.places ≡ option_and_then (λ n. left n 1) g.places → h.room ≡ option_and_then (λ n. left n (input_size job.input)) g.room
    → h.jobs.items ≡ g.jobs.items → keeps h ≡ false → HasGathered (xs ++ job ∷ []) (ys ++ []) h
job_dropped xs ys job g h has places room jobs dropped = record {
  places = places_more xs job g h has.places places;
  room = room_more xs job g h has.room room;
  kept = λ still. absurd (let bad = sym dropped ∙ still in cc);
  taken = subst (All IsTaken) (sym jobs) has.taken;
}

pub run_kept : (xs : List PlanJob) (ys : List BrokenRun) (run : BrokenRun) (g h : Gathered) → HasGathered xs ys g
    → h.places ≡ g.places → h.room ≡ g.room → h.jobs.items ≡ g.jobs.items → h.broken.items ≡ g.broken.items ++ run ∷ []
    → HasGathered (xs ++ []) (ys ++ run ∷ []) h
run_kept xs ys run g h has places room jobs broken = record {
  places = places ∙ has.places ∙ ap (λ zs. left most_jobs (length zs)) (sym (append-nil xs));
  room = room ∙ has.room ∙ ap (λ zs. left most_bytes (jobs_size zs)) (sym (append-nil xs));
  kept = λ still.
      let both = and_both (is_some h.places) (is_some h.room) still in
      let before = has.kept (both_and (is_some g.places) (is_some g.room) (sym (ap is_some places) ∙ both.0) (sym (ap is_some room) ∙ both.1)) in
      (jobs ∙ before.0 ∙ sym (append-nil xs), broken ∙ ap (λ zs. zs ++ run ∷ []) before.1);
  taken = subst (All IsTaken) (sym jobs) has.taken;
}

pub run_dropped : (xs : List PlanJob) (ys : List BrokenRun) (run : BrokenRun) (g : Gathered) → HasGathered xs ys g → keeps g ≡ false
    → HasGathered (xs ++ []) (ys ++ run ∷ []) g
run_dropped xs ys run g has dropped = record {
  places = has.places ∙ ap (λ zs. left most_jobs (length zs)) (sym (append-nil xs));
  room = has.room ∙ ap (λ zs. left most_bytes (jobs_size zs)) (sym (append-nil xs));
  kept = λ still. absurd (let bad = sym dropped ∙ still in cc);
  taken = has.taken;
}
