use Rattle.std.proofs.Common.{All, sym, subst}
use Rattle.hog_value.specs.Values.{NamesBelow}
use Rattle.vm_frames.proofs.Lists.{All-keep}
use Rattle.vm_frames.proofs.stack.Stack.put_nulls.Goals as goal

pub returns-in_err-push_nulls-clause-names : goal.returns-in_err-push_nulls-clause-names
returns-in_err-push_nulls-clause-names c = λ m all.
    c.push_nulls.ensures.names m (subst (All (NamesBelow m)) (sym c.keep.ensures) (All-keep (NamesBelow m) c.args.self.now c.args.floor all))

pub returns-clause-names : goal.returns-clause-names
returns-clause-names c = λ m all.
    c.push_all.ensures.names m
    (subst (All (NamesBelow m)) (sym c.deref.ensures.value) (c.in_ok-above.ensures.names m all))
    (c.push_nulls.ensures.names m (subst (All (NamesBelow m)) (sym c.keep.ensures) (All-keep (NamesBelow m) c.args.self.now c.args.floor all)))
