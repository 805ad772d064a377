use Rattle.vm_operations.proofs.state.State.take_arguments.Goals as goal

pub invariant_of-self : goal.invariant_of-self
invariant_of-self c = record { values = c.fill.ensures.names _ c.self.invariant.values; taken = c.self.invariant.taken; covered = c.self.invariant.covered }

pub invariant_of-self-in_err-push_nulls : goal.invariant_of-self-in_err-push_nulls
invariant_of-self-in_err-push_nulls c =
    record { values = c.push_nulls.ensures.names _ (c.fill.ensures.names _ c.self.invariant.values); taken = c.self.invariant.taken; covered = c.self.invariant.covered }

pub invariant_of-self-2 : goal.invariant_of-self-2
invariant_of-self-2 c =
    record { values = c.push_nulls.ensures.names _ (c.fill.ensures.names _ c.self.invariant.values); taken = c.self.invariant.taken; covered = c.self.invariant.covered }
