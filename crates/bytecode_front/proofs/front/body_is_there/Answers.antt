use Rattle.std.proofs.Common.{◌≡◌, ◌&&◌, true, length, drop, sym, ap, ap₂, ◌∙◌, arith}
use Rattle.std.proofs.lemmas.Bool.Decides.{nat_tests}
use Rattle.std.specs.Prelude.{nat_le, is_some}
use Rattle.bytecode_front.specs.Front.{closure_in}
use Rattle.bytecode_front.specs.Views.{views}
use Rattle.bytecode_front.proofs.Slices.{views_drop, views_length}
use Rattle.bytecode_front.proofs.front.body_is_there.Goals as goal

pub returns-then-len-rest : goal.returns-then-len-rest
returns-then-len-rest c =
    let vs = c.args.rest.now in
    let within : nat_le c.args.len (length vs) ≡ true = grind (arith, nat_tests, c.if-len-rest.true) in
    let closure = ap (λ ds. is_some (closure_in c.args.n ds)) (ap views c.behind.ensures ∙ sym (views_drop c.args.len vs)) in
    c.closure_is_there.ensures ∙ closure ∙ sym (ap (λ b. b && is_some (closure_in c.args.n (drop c.args.len (views vs)))) (ap (nat_le c.args.len) (views_length vs) ∙ within))
