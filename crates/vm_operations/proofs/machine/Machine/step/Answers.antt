use Rattle.std.proofs.Common.{◌+◌, ap, ◌∙◌}
use Rattle.hog_meaning.specs.World.{Fixed}
use Rattle.vm_course.specs.Run.{RunState}
use Rattle.vm_course.specs.Belongs.{literals_belong}
use Rattle.vm_operations.specs.Machine.{MachineView}
use Rattle.vm_operations.proofs.Standing.{stands_on, literals_there, fresh_holds, on_fresh}
use Rattle.vm_operations.proofs.machine.Machine.step.Goals as goal

pub step-requires-clause-literals : goal.step-requires-clause-literals
step-requires-clause-literals c =
    let i = c.self.inside in
    let literals = c.args.table.now.literals in
    let r : RunState = record { ops = i.ops; used = i.used; globals = i.globals; state = i.state } in
    literals_there literals r (ap (λ (m : MachineView). m.run.state.mode) c.self.view_is ∙ c.requires.runs)
    (fresh_holds i.spent (ap (λ (m : MachineView). m.spent) c.self.view_is ∙ c.requires.fresh) c.self.invariant)
    (ap (λ (m : MachineView). literals_belong literals m.run.globals m.run.state.heap) c.self.view_is ∙ c.requires.literals)

pub invariant_of-self : goal.invariant_of-self
invariant_of-self c =
    let i = c.self.inside in
    let code = c.args.table.now in
    let fixed : Fixed = record { literals = code.literals; globals = c.unwrap_or-globals.result } in
    let r : RunState = record { ops = i.ops; used = i.used; globals = i.globals; state = i.state } in
    on_fresh i.spent (stands_on c.heap_grows.ensures fixed code.slots r c.step.new.self (i.ops + 1) i.used (ap (λ (m : MachineView). m.run.state.mode) c.self.view_is ∙ c.requires.runs) c.in-Ok.ensures) c.self.invariant
