-- Which replies a job of a queue has.
use Rattle.std.proofs.Common.{◌≡◌, ◌≢◌, ℕ, suc, ◌⊎◌, List, [], ◌∷◌, ◌++◌, length, Option, Some, true, false, refl, sym, ap, ◌∙◌, subst, inl, inr, arith}
use Rattle.std.specs.Prelude.{◌==◌, slice_get, option_map}
use Rattle.std.proofs.lemmas.Bool.Decides.{eqb_tells}
use Rattle.std.proofs.lemmas.List.{append-nil, append_assoc, length-append}
use Rattle.std.proofs.lemmas.Option.{slice_get-map}
use Rattle.std.proofs.Math.Seq.{take-append_seam}
use Rattle.cyclotron_jobs.specs.declared.entry.Entry.{Entry}
use Rattle.cyclotron_jobs.specs.declared.entry.Entry.TheVariants.{Queued, Taken, Beat, Ran, Replied, Swept, PutBack}
use Rattle.cyclotron_jobs.specs.declared.input.Answers.{Answers}
use Rattle.cyclotron_jobs.specs.declared.input.Answers.TheVariants.{Free, Listed}
use Rattle.cyclotron_jobs.specs.declared.input.JobInput.{JobInput}
use Rattle.cyclotron_jobs.specs.declared.input.Reply.{Reply}
use Rattle.cyclotron_jobs.specs.declared.row.Row.{Row}
use Rattle.cyclotron_jobs.specs.Replies.{AllowsReply}
use Rattle.queue_history.specs.Facts.{facts_of, job_of}
use Rattle.queue_history.specs.Legal.{MayFollow, IsLegal}
use Rattle.queue_history.specs.Rows.{inputs_of}
use Rattle.queue_history.proofs.Push.{replies_after, facts_of-push, facts_of-other}
use Rattle.hog_jobs.specs.Inputs.{IsInput}
use Rattle.job_lines.specs.Laws.{RepliesAreListed}
use Rattle.job_lines.specs.Lines.{allowed_replies, AreListed, known_replies, listed_replies}

abbrev is_listed : ℕ → Answers → List Entry → Type 0
is_listed job answers history = (facts_of job history).replies ≡ known_replies answers (length (facts_of job history).replies)

one_more : (answers : Answers) (replies : List Reply) (reply : Reply) → AreListed answers → replies ≡ known_replies answers (length replies)
    → AllowsReply (record { source = []; globals = []; answers = answers }) (length replies) reply
    → replies ++ reply ∷ [] ≡ known_replies answers (length (replies ++ reply ∷ []))
one_more Free replies reply listed before allowed = absurd listed
one_more (Listed answers) replies reply listed before allowed =
    let count : length (replies ++ reply ∷ []) ≡ suc (length replies) = omega (arith, length-append replies (reply ∷ [])) in
    ap (λ rs. rs ++ reply ∷ []) before
    ∙ ap (λ r. listed_replies answers (length replies) ++ r ∷ []) allowed
    ∙ sym (ap (listed_replies answers) count)

there_at : {X : Type 0} (xs ys : List X) (y : X) → slice_get (xs ++ y ∷ ys) (length xs) ≡ Some y
there_at [] ys y = refl
there_at (x ∷ xs) ys y = there_at xs ys y

none_at_first : (job : ℕ) → (facts_of job []).replies ≡ []
unfolding facts_of
none_at_first job = refl

module _ (job : ℕ) (answers : Answers) (listed : AreListed answers) (inputs : List JobInput) (has : (input : JobInput) → slice_get inputs job ≡ Some input → input.answers ≡ answers) where
  abbrev Follows : List Entry → Entry → Type 0
  Follows history e = MayFollow IsInput AllowsReply inputs history e

  same_replies : (history : List Entry) (e : Entry) → job_of e ≡ job → replies_after (facts_of job history).replies e ≡ (facts_of job history).replies → is_listed job answers history → is_listed job answers (history ++ e ∷ [])
  same_replies history e is same before =
      let now : (facts_of job (history ++ e ∷ [])).replies ≡ (facts_of job history).replies = ap (λ f. f.replies) (facts_of-push job history e is) ∙ same in
      subst (λ rs. rs ≡ known_replies answers (length rs)) (sym now) before

  own : (history : List Entry) (e : Entry) → job_of e ≡ job → Follows history e → is_listed job answers history → is_listed job answers (history ++ e ∷ [])
  own history (Queued j priority at) is may before = same_replies history (Queued j priority at) is refl before
  own history (Taken j on lock now) is may before = same_replies history (Taken j on lock now) is refl before
  own history (Beat j lock now) is may before = same_replies history (Beat j lock now) is refl before
  own history (Ran j lock from to next) is may before = same_replies history (Ran j lock from to next) is refl before
  own history (Swept j now beat) is may before = same_replies history (Swept j now beat) is refl before
  own history (PutBack j lock at) is may before = same_replies history (PutBack j lock at) is refl before
  own history (Replied j lock reply) is may before =
      let replies = (facts_of job history).replies in
      let may_here = subst (λ n. Follows history (Replied n lock reply)) is may in
      let input = may_here.1.0 in
      let mine : input.answers ≡ answers = has input may_here.1.1 in
      let allowed : AllowsReply (record { source = []; globals = []; answers = answers }) (length replies) reply =
      subst (λ a. AllowsReply (record { source = []; globals = []; answers = a }) (length replies) reply) mine may_here.1.2 in
      let now : (facts_of job (history ++ Replied j lock reply ∷ [])).replies ≡ replies ++ reply ∷ [] = ap (λ f. f.replies) (facts_of-push job history (Replied j lock reply) is) in
      subst (λ rs. rs ≡ known_replies answers (length rs)) (sym now) (one_more answers replies reply listed before allowed)

  next : (history : List Entry) (e : Entry) → Follows history e → is_listed job answers history → is_listed job answers (history ++ e ∷ [])
  next history e may before = by_job (eqb_tells (job_of e) job)
    where
      by_job : (((job_of e == job) ≡ true) × (job_of e ≡ job)) ⊎ (((job_of e == job) ≡ false) × (job_of e ≢ job)) → is_listed job answers (history ++ e ∷ [])
      by_job (inl here) = own history e here.1 may before
      by_job (inr apart) = subst (λ f. f.replies ≡ known_replies answers (length f.replies)) (sym (facts_of-other job history e apart.1)) before

  from : (done rest : List Entry) → IsLegal IsInput AllowsReply inputs (done ++ rest) → is_listed job answers done → is_listed job answers (done ++ rest)
  from done [] legal before = subst (is_listed job answers) (sym (append-nil done)) before
  from done (e ∷ es) legal before =
      let may : Follows done e = subst (λ h. Follows h e) (take-append_seam done (e ∷ es)) (legal (length done) e (there_at done es e)) in
      let moved : done ++ e ∷ [] ++ es ≡ done ++ e ∷ es = append_assoc done (e ∷ []) es in
      subst (is_listed job answers) moved (from (done ++ e ∷ []) es (subst (IsLegal IsInput AllowsReply inputs) (sym moved) legal) (next done e may before))

  pub all_listed : (history : List Entry) → IsLegal IsInput AllowsReply inputs history → is_listed job answers history
  all_listed history legal =
      from [] history legal
      (subst (λ rs. rs ≡ known_replies answers (length rs)) (sym (none_at_first job)) (none_known answers listed))
    where
      none_known : (a : Answers) → AreListed a → [] ≡ known_replies a 0
      none_known Free is = refl
      none_known (Listed answers) is = refl

input_there : (rows : List Row) (k : ℕ) (row : Row) (input : JobInput) → slice_get rows k ≡ Some row → slice_get (inputs_of rows) k ≡ Some input → input.answers ≡ row.input.answers
input_there rows k row input there found =
    let same : Some row.input ≡ Some input = sym (ap (λ (o : Option Row). option_map (λ (r : Row). r.input) o) there) ∙ sym (slice_get-map (λ (r : Row). r.input) rows k) ∙ found in
    let one : row.input ≡ input = cc in
    ap (λ (i : JobInput). i.answers) (sym one)

pub replies_are_listed : RepliesAreListed
unfolding allowed_replies
replies_are_listed rows history keeps k row there listed =
    let facts = keeps.each k row there in
    let all = all_listed k row.input.answers listed (inputs_of rows) (λ input found. input_there rows k row input there found) history keeps.legal in
    subst (λ rs. rs ≡ known_replies row.input.answers (length rs)) (sym facts.replies) all
