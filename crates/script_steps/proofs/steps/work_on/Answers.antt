use Rattle.std.proofs.Common.{refl, inr}
use Rattle.script_steps.proofs.steps.work_on.Goals as goal

pub returns : goal.returns
returns c = λ rows history.
    let can = c.can_make.ensures.0 c.if-not-can_make.false in
    inr (record {
      can = record { held = c.in-Some.held; is = c.in-Some.is; leased = can.0; free = can.1 };
      run = c.in_ok-run.run';
      work = c.in_ok-run.ensures;
      word = c.said_of-said.ensures;
      hands = record { rows = refl; history = refl; held = refl };
    })
