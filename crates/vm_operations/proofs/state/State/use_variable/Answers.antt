use Rattle.std.proofs.Common.{inl, inr}
use Rattle.vm_operations.proofs.state.State.use_variable.Goals as goal

pub returns-in-GetLocal : goal.returns-in-GetLocal
returns-in-GetLocal c = rw c.in-GetLocal.is c.get_local.ensures

pub returns-in-GetUpvalue : goal.returns-in-GetUpvalue
returns-in-GetUpvalue c = rw c.in-GetUpvalue.is c.get_upvalue.ensures

pub returns-in-SetLocal : goal.returns-in-SetLocal
returns-in-SetLocal c = rw c.in-SetLocal.is c.set_local.ensures

pub returns-in-SetUpvalue : goal.returns-in-SetUpvalue
returns-in-SetUpvalue c = rw c.in-SetUpvalue.is c.set_upvalue.ensures

pub returns-in-Pop : goal.returns-in-Pop
returns-in-Pop c = elim c.in-Pop.is [ inl e ↦ rw e c.pop.ensures.pop | inr e ↦ rw e c.pop.ensures.close ]
