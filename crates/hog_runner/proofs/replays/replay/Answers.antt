use Rattle.std.proofs.Common.{Err, List, ℕ, refl, ap, arith}
use Rattle.hog_runner.specs.Commands.{TooMuch, NoScript}
use Rattle.hog_runner.specs.Serves.{Taken, Refused, Told}
use Rattle.hog_runner.proofs.ServesLemmas.{not_done, puts_so}
use Rattle.hog_runner.proofs.TopLemmas.{if_some_then}
use Rattle.hog_runner.proofs.replays.replay.Goals as goal

pub returns-in-Ok-clause-serves : goal.returns-in-Ok-clause-serves
returns-in-Ok-clause-serves g c = record {
  at =
      Taken (puts_so _ _
      (λ (out : List ℕ) is text told. record { steps = c.in-Ok.script; script = c.in-Ok.ensures.script text told; lines = is })
      (λ (out : List ℕ) is text told. record { steps = c.in-Ok.script; script = c.in-Ok.ensures.script text told; lines = is })
      c.replay_script.ensures.output);
  end = λ zero. c.in-Ok.ensures.end;
  bounded = c.in-Ok.ensures.bounded;
  reads_rise = c.in-Ok.ensures.count;
  writes_rise = c.replay_script.ensures.count;
}

pub returns-in-Ok-clause-played : goal.returns-in-Ok-clause-played
returns-in-Ok-clause-played g c =
    if_some_then c.replay_script.result.closed _ _
    (λ closed p. record { steps = c.in-Ok.script; script = c.in-Ok.ensures.script; written = p }) c.replay_script.ensures.played

pub returns-in-Err-TooLarge-clause-serves : goal.returns-in-Err-TooLarge-clause-serves
returns-in-Err-TooLarge-clause-serves g c =
    rw c.ended.ensures (record {
      at = Refused _ (λ text told. TooMuch (c.in-Err-TooLarge.ensures.large (ap Err c.in-Err-TooLarge.field-0-is) text told) refl) (Told refl c.refuse.ensures.line);
      end = λ zero. absurd (omega (arith, zero));
      bounded = c.in-Err-TooLarge.ensures.bounded;
      reads_rise = c.in-Err-TooLarge.ensures.count;
      writes_rise = c.refuse.ensures.count;
    })

pub returns-in-Err-Refused-clause-serves : goal.returns-in-Err-Refused-clause-serves
returns-in-Err-Refused-clause-serves g c =
    let line = rw c.in-Err-Refused.stop-is at c.refuse_script.ensures.line in
    rw c.ended-in-Err-Refused.ensures (record {
      at =
          Refused _
          (λ text told. let r = c.in-Err-Refused.ensures.refused c.in-Err-Refused.stop (ap Err c.in-Err-Refused.field-0-is) text told in NoScript r.0 c.in-Err-Refused.stop r.1 refl)
          line;
      end = λ zero. absurd (not_done line zero);
      bounded = c.in-Err-Refused.ensures.bounded;
      reads_rise = c.in-Err-Refused.ensures.count;
      writes_rise = c.refuse_script.ensures.count;
    })
