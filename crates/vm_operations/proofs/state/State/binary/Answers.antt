use Rattle.std.proofs.Common.{sym, ap, ◌∙◌}
use Rattle.vm_course.specs.State.{State}
use Rattle.vm_course.specs.Step.{on_and_push}
use Rattle.vm_course.specs.Stack.{keep}
use Rattle.vm_course.specs.Throws.{on_result}
use Rattle.vm_operations.specs.Here.{here_of}
use Rattle.vm_operations.proofs.Landing.{on_ok}
use Rattle.vm_operations.proofs.Tops.{by_two}
use Rattle.std.proofs.Common.{length, subst}
use Rattle.std.specs.Prelude.{IfOk}
use Rattle.hog_value.specs.Values.{NamesBelow}
use Rattle.hog_meaning.specs.Operators.{operated}
use Rattle.vm_operations.proofs.state.State.binary.Goals as goal

pub settle-requires-clause-names : goal.settle-requires-clause-names
settle-requires-clause-names c = subst (λ (x : State). IfOk c.operate-v.result (NamesBelow (length x.heap))) c.self.view_is c.operate-v.ensures.names

pub returns : goal.returns
returns c =
    let s = c.args.self.now in
    let b = c.args.behind in
    let op = c.args.op in
    let t = c.top-x.result in
    let u = c.top-y.result in
    let value = c.operate-v.ensures.value ∙ ap (λ (x : State). operated op x.heap t.0 u.0) c.self.view_is in
    on_ok c.settle.result (λ is.
    is
    ∙ ap (λ r. on_result r (on_and_push (here_of b s) (keep u.1 s.stack)) s) value
    ∙ sym (by_two s b _ _ c.floor-floor.ensures c.len-all.ensures (λ x y rest. on_result (operated op s.heap x y) (on_and_push (here_of b s) rest) s) t.0 u.0 t.1 u.1 c.top-x.ensures.is c.top-y.ensures.is)) c.settle.ensures
