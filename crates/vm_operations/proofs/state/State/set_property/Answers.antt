use Rattle.std.proofs.Common.{◌≡◌, sym, ap, ap₂, subst, ◌∙◌}
use Rattle.vm_course.specs.State.{State}
use Rattle.vm_course.specs.Step.{act, on_with}
use Rattle.vm_course.specs.Stack.{keep}
use Rattle.vm_course.specs.Throws.{on_outcome}
use Rattle.vm_operations.specs.Here.{here_of, IsStopped}
use Rattle.vm_operations.proofs.Landing.{on_ok}
use Rattle.vm_operations.proofs.Tops.{by_three}
use Rattle.hog_value.specs.Meters.{Spent}
use Rattle.hog_meaning.specs.Operators.{assigned}
use Rattle.vm_operations.specs.Seen.{seen}
use Rattle.vm_course.specs.Throws.{with_heap}
use Rattle.std.specs.Prelude.{Err}
use Rattle.vm_operations.proofs.JumpLemmas.{on_err, stopped_is}
use Rattle.vm_operations.proofs.state.State.set_property.Goals as goal

pub returns-in-Ok : goal.returns-in-Ok
unfolding act
returns-in-Ok c = λ fixed code.
    let s = c.args.self.now in
    let b = c.args.behind in
    let t = c.top-v.result in
    let u = c.top-key.result in
    let z = c.top-base.result in
    let h = c.assign-done.new.heap in
    let n = c.assign-done.new.m in
    let turns = ap (λ (m : Spent). m.turns) c.assign-done.ensures.turns_and_depth in
    let same = ap (λ k. record (seen c.self.inside) { heap = h; turns = k; units = n.units }) turns ∙ ap (with_heap h n.units) c.self.view_is in
    let outcome = ap (λ (x : State). assigned x.heap z.0 u.0 t.0 x.units) (sym c.self.view_is) ∙ c.in-Ok.ensures.ok in
    c.go_on.ensures
    ∙ ap (λ (x : State). on_with (here_of b x) (keep z.1 x.stack) x) same
    ∙ sym (by_three s b _ _ c.floor-floor.ensures c.len-all.ensures (λ v k x rest. on_outcome (assigned s.heap x k v s.units) (λ w s1. on_with (here_of b s) rest s1) s) t.0 u.0 z.0 t.1 u.1 z.1 c.top-v.ensures.is c.top-key.ensures.is c.top-base.ensures.is
    ∙ ap (λ o. on_outcome o (λ w s1. on_with (here_of b s) (keep z.1 s.stack) s1) s) outcome)

pub returns-in-Err : goal.returns-in-Err
unfolding act
returns-in-Err c =
    let s = c.args.self.now in
    let b = c.args.behind in
    let t = c.top-v.result in
    let u = c.top-key.result in
    let z = c.top-base.result in
    let e = c.assign-done.ensures in
    let why = c.in-Err.why in
    let is_err : c.assign-done.result ≡ Err why = c.in-Err.is in
    let same = ap₂ (λ h (n : Spent). record (seen c.self.inside) { heap = h; turns = n.turns; units = n.units }) (on_err _ _ is_err e.err) (on_err _ _ is_err e.err_meter) ∙ c.self.view_is in
    let inside = ap (λ (x : State). assigned x.heap z.0 u.0 t.0 x.units) (sym c.self.view_is) in
    let go : Unit {0} → State → State = λ w s1. on_with (here_of b s) (keep z.1 s.stack) s1 in
    on_ok c.stop.result (λ is fixed code.
    stopped_is (assigned s.heap z.0 u.0 t.0 s.units) go s c.stop.new.self why (subst (λ x. IsStopped why x c.stop.new.self) same is)
    (λ kind thrown. inside ∙ e.thrown kind (is_err ∙ ap Err thrown))
    (λ spent. inside ∙ e.spent (is_err ∙ ap Err spent))
    ∙ sym (by_three s b _ _ c.floor-floor.ensures c.len-all.ensures (λ v k x rest. on_outcome (assigned s.heap x k v s.units) (λ w s1. on_with (here_of b s) rest s1) s) t.0 u.0 z.0 t.1 u.1 z.1 c.top-v.ensures.is c.top-key.ensures.is c.top-base.ensures.is)) c.stop.ensures
