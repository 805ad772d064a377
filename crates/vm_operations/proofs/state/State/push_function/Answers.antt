use Rattle.std.proofs.Common.{◌≡◌, sym, ap, ap₂, subst, ◌∙◌}
use Rattle.std.specs.Prelude.{Err}
use Rattle.hog_value.specs.Meters.{Spent}
use Rattle.hog_value.specs.Cells.{Fun}
use Rattle.hog_value.specs.Operations.{made}
use Rattle.vm_course.specs.State.{State}
use Rattle.vm_course.specs.Stack.{push}
use Rattle.vm_course.specs.Throws.{with_heap, on_outcome}
use Rattle.vm_operations.specs.Seen.{seen}
use Rattle.vm_operations.specs.Here.{here_of, IsStopped, set_stop}
use Rattle.vm_operations.specs.Calls.{push_and_go}
use Rattle.vm_operations.proofs.Gathered.{stop_spent, stop_thrown}
use Rattle.vm_operations.proofs.JumpLemmas.{on_err, stopped_is}
use Rattle.vm_operations.proofs.Landing.{on_ok}
use Rattle.vm_operations.proofs.state.State.push_function.Goals as goal

pub returns-in-Ok : goal.returns-in-Ok
returns-in-Ok c =
    let s = c.args.self.now in
    let b = c.args.behind in
    let e = c.in-Ok.ensures in
    let h = c.make-made.new.self in
    let n = c.make-made.new.m in
    let cell = Fun (record { place = c.args.place; captured = c.args.captured }) in
    let same = ap (λ (m : Spent). record (seen c.self.inside) { heap = h; turns = m.turns; units = n.units }) e.charge ∙ ap (with_heap h n.units) c.self.view_is in
    let outcome = ap (λ (x : State). made cell x.heap x.units) (sym c.self.view_is) ∙ e.ok in
    on_ok c.push.result (λ is.
    is
    ∙ ap (push c.in-Ok.v) c.go_to.ensures
    ∙ ap (λ (x : State). push_and_go (here_of b x) c.in-Ok.v x) same
    ∙ sym (ap (λ o. on_outcome o (push_and_go (here_of b s)) s) outcome)) c.push.ensures

pub returns-in-Err : goal.returns-in-Err
returns-in-Err c =
    let s = c.args.self.now in
    let b = c.args.behind in
    let e = c.make-made.ensures in
    let why = c.in-Err.why in
    let there : State = seen (record c.self.inside { heap = c.make-made.new.self; meter = c.make-made.new.m }) in
    let cell = Fun (record { place = c.args.place; captured = c.args.captured }) in
    let is_err : c.make-made.result ≡ Err why = c.in-Err.is in
    let same = ap₂ (λ h (n : Spent). record (seen c.self.inside) { heap = h; turns = n.turns; units = n.units }) (on_err _ _ is_err e.err) (on_err _ _ is_err e.err_meter) ∙ c.self.view_is in
    let inside = ap (λ (x : State). made cell x.heap x.units) (sym c.self.view_is) in
    on_ok c.stop.result (λ is.
    stopped_is (made cell s.heap s.units) (push_and_go (here_of b s)) s c.stop.new.self (set_stop why)
    (subst (λ x. IsStopped (set_stop why) x c.stop.new.self) same (subst (λ w. IsStopped w there c.stop.new.self) c.set_stop.ensures is))
    (λ kind thrown. absurd (stop_thrown why kind thrown))
    (λ spent. inside ∙ e.spent.0 (is_err ∙ ap Err (stop_spent why spent)))) c.stop.ensures
