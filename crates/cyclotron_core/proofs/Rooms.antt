-- Each running job keeps room for one more reply, and a step, a refusal and a new job leave a queue one.
use Rattle.std.proofs.Common.{◌≡◌, ◌≢◌, ℕ, ℤ, ◌+◌, ◌<◌, Bool, true, false, cond, List, [], ◌∷◌, ◌++◌, inl, inr, length, get_or, set, ap, sym, ◌∙◌, subst, arith, Some, Option, slice_get, length-set}
use Rattle.std.specs.Prelude.{if◌then◌else◌, nat_le}
use Rattle.std.proofs.lemmas.List.{length_push}
use Rattle.std.specs.declared.vec.Vec.{Vec}
use Rattle.std.specs.declared.alloc.Global.{Global}
use Rattle.cyclotron_jobs.specs.declared.input.JobInput.{JobInput}
use Rattle.cyclotron_jobs.specs.declared.input.Reply.{Reply}
use Rattle.cyclotron_jobs.specs.declared.row.After.TheVariants as after
use Rattle.cyclotron_jobs.specs.Course.{shows_nothing}
use Rattle.cyclotron_jobs.specs.declared.entry.Entry.TheVariants.{Queued}
use Rattle.cyclotron_jobs.specs.declared.row.Row.{Row}
use Rattle.cyclotron_jobs.specs.declared.entry.Entry.{Entry}
use Rattle.cyclotron_jobs.specs.declared.row.Next.{Next}
use Rattle.cyclotron_jobs.specs.declared.row.Next.TheVariants as next
use Rattle.cyclotron_jobs.specs.declared.row.JobState.TheVariants.{Available, Running, Completed, Failed}
use Rattle.queue_history.specs.declared.TheConstants.{MOST_JOBS}
use Rattle.queue_history.specs.Rules.{InputRule, CourseRule, ReplyRule}
use Rattle.queue_history.specs.Facts.{is_taken, state_after, swept_state}
use Rattle.queue_history.specs.Legal.{MayFollow}
use Rattle.queue_history.specs.Rows.{IsNewRow, inputs_of}
use Rattle.queue_history.proofs.Step.{IsStep}
use Rattle.queue_history.proofs.Places.{slice_get_set, slice_get_push}
use Rattle.job_keeper.specs.Held.{PutsRow, SameRows}
use Rattle.index_lists.specs.Lists.{ListsOf}
use Rattle.cyclotron_core.specs.Queue.{IsQueue, IsRoom, IsRoomy}
use Rattle.cyclotron_core.specs.Listing.{IsListing}
use Rattle.cyclotron_core.proofs.Sound.{IsSound-step, IsSound-refused, IsSound-enqueue, set-undone}
use Rattle.std.proofs.lemmas.Option.{slice_get_within}

pub IsRoomy-step : {rows : List Row} {rooms : List (Vec Reply Global)} {old : Row} → IsRoomy rows rooms → (i : ℕ) → slice_get rows i ≡ Some old → (new : Row) → (new.state ≡ Running → (old.state ≡ Running) × (old.replies ≡ new.replies)) → IsRoomy (set rows i new) rooms
IsRoomy-step {rows} {rooms} {old} roomy i at new same = record {
  count = roomy.count ∙ sym (length-set rows i new);
  each = λ k row room there here runs. elim (slice_get_set rows i new k row there) [
    | inl (place, is) ↦ (
        let was = same (ap (λ r. r.state) (sym is) ∙ runs) in
        let old_at : slice_get rows k ≡ Some old = ap (λ j. slice_get rows j) place ∙ at in
        let r = roomy.each k old room old_at here was.0 in
        record { items = r.items ∙ (was.1 ∙ ap (λ r. r.replies) (sym is)); space = r.space })
    | inr (apart, is) ↦ roomy.each k row room is here runs
  ];
}

pub IsRoomy-both : {rows : List Row} {rooms : List (Vec Reply Global)} → IsRoomy rows rooms → (i : ℕ) (new : Row) (room : Vec Reply Global) → (new.state ≡ Running → IsRoom new.replies room) → IsRoomy (set rows i new) (set rooms i room)
IsRoomy-both {rows} {rooms} roomy i new room fresh = record {
  count = length-set rooms i room ∙ (roomy.count ∙ sym (length-set rows i new));
  each = λ k row r there here runs. elim (slice_get_set rows i new k row there) [
    | inl (place, is) ↦ elim (slice_get_set rooms i room k r here) [
      | inl (again, same) ↦ subst (λ (x : Vec Reply Global). IsRoom row.replies x) (sym same) (subst (λ (y : Row). IsRoom y.replies room) (sym is) (fresh (ap (λ r. r.state) (sym is) ∙ runs)))
      | inr (apart, other) ↦ absurd (apart place)
    ]
    | inr (apart, is) ↦ elim (slice_get_set rooms i room k r here) [
      | inl (again, same) ↦ absurd (apart again)
      | inr (away, other) ↦ roomy.each k row r is other runs
    ]
  ];
}

pub IsRoomy-push : {rows : List Row} {rooms : List (Vec Reply Global)} → IsRoomy rows rooms → (row : Row) (room : Vec Reply Global) → row.state ≡ Available → IsRoomy (rows ++ row ∷ []) (rooms ++ room ∷ [])
IsRoomy-push {rows} {rooms} roomy row room free = record {
  count = length_push rooms room ∙ (ap (λ n. n + 1) roomy.count ∙ sym (length_push rows row));
  each = λ k x r there here runs. elim (slice_get_push rows row k x there) [
    | inl was ↦ elim (slice_get_push rooms room k r here) [
      | inl of ↦ roomy.each k x r was of runs
      | inr (end, is) ↦ (let lt : k < length rows = slice_get_within rows k x was in absurd (omega (arith, roomy.count)))
    ]
    | inr (end, is) ↦ (let bad : Available ≡ Running = sym free ∙ (ap (λ r. r.state) (sym is) ∙ runs) in absurd (cc (bad)))
  ];
}

pub state_after-rests : (n : Next) → state_after n ≢ Running
state_after-rests next.Hog = λ (e : Available ≡ Running). absurd cc
state_after-rests next.Fetch = λ (e : Available ≡ Running). absurd cc
state_after-rests next.Finished = λ (e : Completed ≡ Running). absurd cc

swept_rests : (b : Bool) → (if b then Failed else Available) ≢ Running
swept_rests true = λ (e : Failed ≡ Running). absurd cc
swept_rests false = λ (e : Available ≡ Running). absurd cc

pub swept_state-rests : (n : ℕ) → swept_state n ≢ Running
swept_state-rests n = swept_rests (nat_le 3 n)

module _ {takes : InputRule} {on_course : CourseRule} {reply_ok : ReplyRule} {tells : Bool} {rows : List Row} {history : List Entry} {drawn : ℕ} {held : ℕ → Option Row} {rooms : List (Vec Reply Global)} {lists : ListsOf} (queue : IsQueue takes on_course reply_ok tells rows history drawn held rooms lists) where
  pub IsQueue-step : {held' : ℕ → Option Row} {old new : Row} {e : Entry} {drawn' i : ℕ} {lists' : ListsOf}
      → slice_get rows i ≡ Some old → MayFollow takes reply_ok (inputs_of rows) history e → IsStep on_course history i old new e
      → drawn' ≡ drawn + cond (is_taken e) 1 0 → PutsRow tells held held' new
      → (new.state ≡ Running → (old.state ≡ Running) × (old.replies ≡ new.replies)) → IsListing (set rows i new) lists'
      → IsQueue takes on_course reply_ok tells (set rows i new) (history ++ e ∷ []) drawn' held' rooms lists'
  IsQueue-step {i = i} at may step draws put rests listed = record { sound = IsSound-step queue.sound at may step draws put; roomy = IsRoomy-step queue.roomy i at _ rests; listed = listed }

  pub IsQueue-step_room : {held' : ℕ → Option Row} {old new : Row} {e : Entry} {drawn' i : ℕ} {room : Vec Reply Global} {lists' : ListsOf}
      → slice_get rows i ≡ Some old → MayFollow takes reply_ok (inputs_of rows) history e → IsStep on_course history i old new e
      → drawn' ≡ drawn + cond (is_taken e) 1 0 → PutsRow tells held held' new
      → (new.state ≡ Running → IsRoom new.replies room) → IsListing (set rows i new) lists'
      → IsQueue takes on_course reply_ok tells (set rows i new) (history ++ e ∷ []) drawn' held' (set rooms i room) lists'
  IsQueue-step_room {i = i} {room = room} at may step draws put fresh listed = record { sound = IsSound-step queue.sound at may step draws put; roomy = IsRoomy-both queue.roomy i _ room fresh; listed = listed }

  -- the keeper refused, and more nodes were reserved
  pub IsQueue-told : {held' : ℕ → Option Row} {lists' : ListsOf} → SameRows tells held held' → IsListing rows lists'
      → IsQueue takes on_course reply_ok tells rows history drawn held' rooms lists'
  IsQueue-told put listed = record {
    sound = record {
      kept = queue.sound.kept;
      draws = queue.sound.draws;
      holds = λ tells k row there. put tells k ∙ queue.sound.holds tells k row there;
    };
    roomy = queue.roomy;
    listed = listed;
  }

  pub IsQueue-refused : {held' : ℕ → Option Row} {old new : Row} → (i : ℕ) → old ≡ get_or rows i old → new ≡ old → SameRows tells held held'
      → IsQueue takes on_course reply_ok tells (set rows i new) history drawn held' rooms lists
  IsQueue-refused {old = old} i is undone put = record {
    sound = IsSound-refused queue.sound i is undone put;
    roomy = subst (λ (rs : List Row). IsRoomy rs rooms) (sym (set-undone rows i is undone)) queue.roomy;
    listed = subst (λ (rs : List Row). IsListing rs lists) (sym (set-undone rows i is undone)) queue.listed;
  }

  pub IsQueue-refused_room : {held' : ℕ → Option Row} {old new : Row} {room : Vec Reply Global} → (i : ℕ) → old ≡ get_or rows i old → new ≡ old → SameRows tells held held' → IsRoom old.replies room
      → IsQueue takes on_course reply_ok tells (set rows i new) history drawn held' (set rooms i room) lists
  IsQueue-refused_room {old = old} {new} {room} i is undone put fresh = record {
    sound = IsSound-refused queue.sound i is undone put;
    roomy = IsRoomy-both queue.roomy i new room (λ _. subst (λ (r : Row). IsRoom r.replies room) (sym undone) fresh);
    listed = subst (λ (rs : List Row). IsListing rs lists) (sym (set-undone rows i is undone)) queue.listed;
  }

  pub IsQueue-enqueue : {held' : ℕ → Option Row} {row : Row} {job : ℕ} {input : JobInput} {priority : ℤ} {at : ℕ} {lists' : ListsOf} (room : Vec Reply Global)
      → IsNewRow row job input priority at → job ≡ length rows → job < MOST_JOBS → takes input → on_course input [] 0 [] shows_nothing after.Hog
      → PutsRow tells held held' row → IsListing (rows ++ row ∷ []) lists'
      → IsQueue takes on_course reply_ok tells (rows ++ row ∷ []) (history ++ Queued job priority at ∷ []) drawn held' (rooms ++ room ∷ []) lists'
  IsQueue-enqueue {row = row} room new number few taken begins put listed = record {
    sound = IsSound-enqueue queue.sound new number few taken begins put;
    roomy = IsRoomy-push queue.roomy row room new.state;
    listed = listed;
  }
