use Rattle.std.proofs.Common.{List, refl, sym, ap, ◌∙◌}
use Rattle.std.specs.Prelude.{unwrap_or}
use Rattle.hog_value.specs.Values.{Val}
use Rattle.vm_course.specs.Stack.{keep}
use Rattle.vm_course.specs.Step.{act, call_function, call_value}
use Rattle.vm_operations.specs.Here.{here_of}
use Rattle.vm_operations.proofs.Calling.{bare, call_some, call_none}
use Rattle.vm_operations.proofs.Landing.{on_ok}
use Rattle.vm_operations.proofs.Tops.{first}
use Rattle.vm_operations.proofs.state.State.call_local.Goals as goal

pub returns-in-Some : goal.returns-in-Some
unfolding act
returns-in-Some c = λ fixed.
    let s = c.args.self.now in
    let here = here_of c.args.behind s in
    let t = c.top-v.result in
    let code = c.args.table.now.slots in
    let callee = c.in-Some.callee in
    on_ok c.call_function.result (λ is.
    is ∙ ap (λ p. call_function here c.args.n callee.cell (bare callee) p (keep t.1 s.stack) s) (c.unwrap_or-params.ensures ∙ ap (λ o. unwrap_or o 0) c.params.ensures)
    ∙ sym (ap (λ (r : Val × List Val). call_value code here c.args.n r s) (first s c.args.behind _ _ c.floor-floor.ensures c.len-all.ensures (t.0, keep t.1 s.stack) c.top-v.ensures.is)
    ∙ call_some code here c.args.n (keep t.1 s.stack) s t.0 callee (sym c.callee.ensures ∙ c.in-Some.is))) (c.call_function.ensures (bare callee) refl)

pub returns-in-None : goal.returns-in-None
unfolding act
returns-in-None c = λ fixed.
    let s = c.args.self.now in
    let here = here_of c.args.behind s in
    let t = c.top-v.result in
    let code = c.args.table.now.slots in
    on_ok c.throw_kind.result (λ is.
    is
    ∙ sym (ap (λ (r : Val × List Val). call_value code here c.args.n r s) (first s c.args.behind _ _ c.floor-floor.ensures c.len-all.ensures (t.0, keep t.1 s.stack) c.top-v.ensures.is)
    ∙ call_none code here c.args.n (keep t.1 s.stack) s t.0 (sym c.callee.ensures ∙ c.in-None.is))) c.throw_kind.ensures
