use Rattle.std.proofs.Common.{List, ℕ, inl, inr, ⊎_elim}
use Rattle.hog_runner.specs.Serves.{Taken}
use Rattle.hog_runner.proofs.ServesLemmas.{puts_so}
use Rattle.hog_runner.proofs.top.run_command.Goals as goal

pub returns-in-Source-clause-at : goal.returns-in-Source-clause-at
returns-in-Source-clause-at g c = rw c.in-Source.is (rw c.ended.ensures (inr c.run_source.ensures.at))

pub returns-in-Replay-clause-at : goal.returns-in-Replay-clause-at
returns-in-Replay-clause-at g c = rw c.in-Replay.is (inr c.replay.ensures.serves.at)

pub returns-in-Make-clause-at : goal.returns-in-Make-clause-at
returns-in-Make-clause-at g c =
    rw c.in-Make.is (⊎_elim (λ six. inl six) (λ puts. inr (Taken (puts_so _ _ (λ (out : List ℕ) is text told. is) (λ (out : List ℕ) is text told. is) puts))) c.make_plan.ensures.output)
