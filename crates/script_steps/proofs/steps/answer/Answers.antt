use Rattle.std.proofs.Common.{refl, inr, ap, Some}
use Rattle.script_steps.specs.declared.said.Product.TheVariants as kind
use Rattle.script_steps.proofs.steps.answer.Goals as goal

pub returns : goal.returns
returns c = λ rows history.
    let can = c.can_make.ensures.0 c.if-not-can_make.false in
    inr (record {
      can = record { held = c.in-Some.held; is = c.in-Some.is; leased = can.0; free = can.1 };
      word = refl;
      hands = record { rows = refl; history = refl; held = ap (λ answered. Some (record c.in-Some.held { product = Some (kind.Reply answered) })) c.in_ok-answered.ensures };
    })
