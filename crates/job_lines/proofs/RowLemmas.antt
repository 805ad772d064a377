-- What a completed row shows, beside what its input says.
use Rattle.std.proofs.Common.{◌≡◌, ℕ, zero, suc, ◌+◌, ◌-◌, ◌≤◌, List, [], ◌∷◌, ◌++◌, length, Some, refl, sym, ap, ◌∙◌, subst, arith}
use Rattle.std.specs.Prelude.{drop}
use Rattle.std.proofs.lemmas.List.{append-nil, append_assoc, map-append}
use Rattle.hog_value.specs.declared.trace.End.{End}
use Rattle.hog_value.specs.declared.trace.Shown.{Shown}
use Rattle.hog_value.specs.declared.trace.TraceItem.{TraceItem}
use Rattle.hog_ops.specs.Plain.{Ops}
use Rattle.hog_meaning.specs.Laws.{MoreReplies}
use Rattle.hog_meaning.specs.Program.{Shows, shows, outcome, meaning}
use Rattle.hog_meaning.specs.World as world
use Rattle.hog_tree.specs.Plain.{Stms}
use Rattle.hog_program.specs.Course.{OneMeaning}
use Rattle.vm_course.specs.Course.{end_in}
use Rattle.vm_course.specs.State.{Running, Waiting, Ended, Mode}
use Rattle.cyclotron_jobs.specs.declared.input.Answers.{Answers}
use Rattle.cyclotron_jobs.specs.declared.input.Answers.TheVariants.{Free, Listed}
use Rattle.cyclotron_jobs.specs.declared.input.JobInput.{JobInput}
use Rattle.cyclotron_jobs.specs.declared.input.Reply.{Reply}
use Rattle.cyclotron_jobs.specs.declared.row.After.TheVariants.{Finished}
use Rattle.cyclotron_jobs.specs.Replies.{listed_reply}
use Rattle.queue_history.specs.Rows.{after_in}
use Rattle.hog_jobs.specs.Course.{reply_of, replies_of, ComesNext, StandsAt}
use Rattle.job_lines.specs.Laws.{OneShown, RepliesAreListed, RowsShowLines}
use Rattle.job_lines.specs.Lines.{allowed_replies, enough_replies, known_replies, listed_replies}

-- a completed row has an end

ended_by : (m : Mode) (rest : List world.Reply) (trace : List TraceItem) → ComesNext m rest trace Finished → (end : End) × (end_in m ≡ Some end)
ended_by Running rest trace is = absurd cc
ended_by Waiting [] trace is = let bad = is.fetches in absurd cc
ended_by Waiting (r ∷ rs) trace is = absurd cc
ended_by (Ended end) rest trace is = (end, refl)

end_there : (code : Ops) (globals : List ℕ) (replies : List world.Reply) (ops : ℕ) (saved : List ℕ) (seen : Shown)
    → StandsAt code globals replies ops saved seen Finished → (end : End) × (seen.end ≡ Some end)
end_there code globals replies zero saved seen stands = let bad = stands.2 in absurd cc
end_there code globals replies (suc k) saved seen stands =
    let run = stands.run in
    let end = ended_by run.state.mode (drop run.used replies) run.state.trace stands.after in
    (end.0, ap (λ (s : Shown). s.end) stands.seen ∙ end.1)

-- the first replies are a beginning of more of them

abbrev Begins : List Reply → List Reply → Type 0
Begins few more = (rest : List Reply) × (more ≡ few ++ rest)

begins_by : (answers : List Reply) (m d : ℕ) → Begins (listed_replies answers m) (listed_replies answers (m + d))
begins_by answers m zero =
    let same : m + 0 ≡ m = omega arith in
    ([], ap (listed_replies answers) same ∙ sym (append-nil (listed_replies answers m)))
begins_by answers m (suc d) =
    let before = begins_by answers m d in
    let next = listed_reply answers (m + d) in
    let one : m + suc d ≡ suc (m + d) = omega arith in (
      before.0 ++ next ∷ [],
      ap (listed_replies answers) one ∙ ap (λ rs. rs ++ next ∷ []) before.1 ∙ append_assoc (listed_replies answers m) before.0 (next ∷ []),
    )

known_by : (answers : Answers) (m n : ℕ) → m ≤ n → Begins (known_replies answers m) (known_replies answers n)
known_by Free m n below = ([], refl)
known_by (Listed answers) m n below =
    let whole : m + (n - m) ≡ n = omega (arith, below) in
    subst (λ k. Begins (listed_replies answers m) (listed_replies answers k)) whole (begins_by answers m (n - m))

allowed_by : (input : JobInput) (m n : ℕ) → m ≤ n → Begins (allowed_replies input m) (allowed_replies input n)
unfolding allowed_replies
allowed_by input m n below = known_by input.answers m n below

-- what more replies change of what is shown

same_shown : (whole : Stms) (globals : List ℕ) (replies more : List world.Reply) (seen : Shows) (end : End) → MoreReplies
    → shows (outcome whole globals replies) ≡ seen → seen.end ≡ Some end → shows (outcome whole globals (replies ++ more)) ≡ seen
unfolding meaning
same_shown whole globals replies more seen end law is ends =
    (law whole globals replies more).ended end (ap (λ (s : Shows). s.end) is ∙ ends) ∙ is

module _ (listed_law : RepliesAreListed) (more_law : MoreReplies) where
  pub rows_show_lines : RowsShowLines
  rows_show_lines rows history keeps k row there listed completed few =
      let input = row.input in
      let agree = keeps.agree k row there in
      let course = keeps.courses k row there in
      let globals = input.globals in
      let replies = row.replies in
      let stands =
      subst (StandsAt course.taken.code globals (replies_of replies) row.ops row.saved row.shown) (ap (λ s. after_in s row.asks) completed) course.stands in
      let end = end_there course.taken.code globals (replies_of replies) row.ops row.saved row.shown stands in
      let seen : Shows = record { trace = row.shown.trace; end = row.shown.end } in
      let mine : replies ≡ allowed_replies input (length replies) = listed_law rows history keeps k row there listed in
      let more = allowed_by input (length replies) enough_replies few in
      let all : allowed_replies input enough_replies ≡ replies ++ more.0 = more.1 ∙ ap (λ rs. rs ++ more.0) (sym mine) in
      let split : replies_of (allowed_replies input enough_replies) ≡ replies_of replies ++ replies_of more.0 = ap replies_of all ∙ map-append reply_of replies more.0 in
      let whole = agree.means.whole in
      let now : shows (outcome whole globals (replies_of replies)) ≡ seen = ap shows (sym agree.means.is) ∙ agree.whole completed in
      let then = same_shown whole globals (replies_of replies) (replies_of more.0) seen end.0 more_law now end.1 in
      record {
        got = outcome whole globals (replies_of (allowed_replies input enough_replies));
        means = record { whole = whole; is_built = agree.means.is_built; is = refl };
        shown = subst (λ rs. shows (outcome whole globals rs) ≡ seen) (sym split) then;
      }

-- one thing at most is shown

abbrev seen : Shown → Shows
seen s = record { trace = s.trace; end = s.end }

same_by : (a b : Shown) → seen a ≡ seen b → a ≡ b
same_by a b e =
    let trace : a.trace ≡ b.trace = ap (λ (s : Shows). s.trace) e in
    let end : a.end ≡ b.end = ap (λ (s : Shows). s.end) e in
    λ i. record { trace = trace i; end = end i }

module _ (law : OneMeaning) where
  pub one_shown : OneShown
  one_shown input a b x y =
      let same = law input.source input.globals (replies_of (allowed_replies input enough_replies)) x.got y.got x.means y.means in
      same_by a b (sym x.shown ∙ ap shows same ∙ y.shown)
