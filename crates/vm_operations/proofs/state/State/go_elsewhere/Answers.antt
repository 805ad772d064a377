use Rattle.std.proofs.Common.{◌≡◌, ℤ, rules, subst, w64, to_z, of_z}
use Rattle.std.specs.Prelude.{OnOk}
use Rattle.hog_ops.specs.Plain as o
use Rattle.vm_operations.specs.Here.{Does}
use Rattle.vm_operations.proofs.state.State.go_elsewhere.Goals as goal

pub returns-in-Try : goal.returns-in-Try
returns-in-Try c =
    let same : to_z w64 (of_z w64 c.in-Try.distance) ≡ c.in-Try.distance = search rules in
    rw c.in-Try.is (subst (λ (z : ℤ). OnOk c.open_try.result (Does (o.Try z) c.args.behind c.args.self.now c.open_try.new.self)) same c.open_try.ensures)

pub returns-in-Jump : goal.returns-in-Jump
returns-in-Jump c =
    let same : to_z w64 (of_z w64 c.in-Jump.distance) ≡ c.in-Jump.distance = search rules in
    rw c.in-Jump.is (subst (λ (z : ℤ). Does (o.Jump z) c.args.behind c.args.self.now c.jump.new.self) same c.jump.ensures)

pub returns-in-JumpIfFalse : goal.returns-in-JumpIfFalse
returns-in-JumpIfFalse c =
    let same : to_z w64 (of_z w64 c.in-JumpIfFalse.distance) ≡ c.in-JumpIfFalse.distance = search rules in
    rw c.in-JumpIfFalse.is (subst (λ (z : ℤ). Does (o.JumpIfFalse z) c.args.behind c.args.self.now c.jump_if_false.new.self) same c.jump_if_false.ensures)

pub returns-in-JumpIfStackNotNull : goal.returns-in-JumpIfStackNotNull
returns-in-JumpIfStackNotNull c =
    let same : to_z w64 (of_z w64 c.in-JumpIfStackNotNull.distance) ≡ c.in-JumpIfStackNotNull.distance = search rules in
    rw c.in-JumpIfStackNotNull.is (subst (λ (z : ℤ). Does (o.JumpIfStackNotNull z) c.args.behind c.args.self.now c.jump_if_stack_not_null.new.self) same c.jump_if_stack_not_null.ensures)

pub returns-in-PopTry : goal.returns-in-PopTry
returns-in-PopTry c = rw c.in-PopTry.is c.pop_try.ensures
