use Rattle.std.proofs.Common.{◌≡◌, ◌≤◌, true, rules, arith, refl, ap, ◌∙◌}
use Rattle.vm_course.specs.Step.{act, make_function}
use Rattle.vm_operations.specs.Here.{here_of}
use Rattle.vm_operations.proofs.Landing.{on_ok}
use Rattle.vm_operations.proofs.state.State.call.Goals as goal

pub call_global-requires : goal.call_global-requires
call_global-requires c = rw c.in-CallGlobal.is at c.requires.next.allowed

pub callable-requires : goal.callable-requires
callable-requires c = let ends = rw c.in-Callable.is at c.requires.next.ends in omega arith

pub returns-in-CallGlobal : goal.returns-in-CallGlobal
returns-in-CallGlobal c = λ fixed. rw c.in-CallGlobal.is (on_ok c.call_global.result (λ is. is fixed c.args.table.now.slots) c.call_global.ensures)

pub returns-in-CallLocal : goal.returns-in-CallLocal
returns-in-CallLocal c = λ fixed. rw c.in-CallLocal.is (c.call_local.ensures fixed)

pub returns-in-Callable : goal.returns-in-Callable
unfolding act
returns-in-Callable c = λ fixed. rw c.in-Callable.is (on_ok c.callable.result (λ is. is ∙ ap (λ cs. make_function (here_of c.args.behind c.args.self.now) cs c.args.self.now) c.items.ensures) c.callable.ensures)

pub returns-in-Return : goal.returns-in-Return
returns-in-Return c = λ fixed. rw c.in-Return.is (on_ok c.give.result (λ is. is fixed c.args.table.now.slots) c.give.ensures)

pub returns-in-Throw : goal.returns-in-Throw
returns-in-Throw c = λ fixed. rw c.in-Throw.is (on_ok c.throw.result (λ is. is fixed c.args.table.now.slots) (c.throw.ensures c.args.behind))
