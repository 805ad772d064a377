use Rattle.std.proofs.Common.{◌≡◌, List, sym, ap, ap₂, subst, ◌∙◌}
use Rattle.std.proofs.lemmas.List.{reverse-reverse}
use Rattle.std.specs.Prelude.{Err, reverse}
use Rattle.hog_value.specs.Values.{Val}
use Rattle.hog_value.specs.Meters.{Spent}
use Rattle.hog_value.specs.Cells.{Array}
use Rattle.hog_value.specs.Operations.{made}
use Rattle.vm_course.specs.State.{State}
use Rattle.vm_operations.specs.Seen.{seen}
use Rattle.vm_course.specs.Stack.{keep, taken, floor_of}
use Rattle.vm_course.specs.Step.{act, on_and_push}
use Rattle.vm_course.specs.Throws.{with_heap, on_outcome}
use Rattle.vm_frames.specs.Parts.{innermost}
use Rattle.vm_operations.specs.Here.{here_of, IsStopped, set_stop}
use Rattle.vm_operations.proofs.Landing.{on_ok}
use Rattle.vm_operations.proofs.JumpLemmas.{on_err, stopped_is}
use Rattle.vm_operations.proofs.Gathered.{stop_spent, stop_thrown}
use Rattle.vm_operations.proofs.state.State.array.Goals as goal

pub returns-in-Ok : goal.returns-in-Ok
unfolding act
returns-in-Ok c =
    let s = c.args.self.now in
    let b = c.args.behind in
    let rest = c.in_ok-values.rest in
    let e = c.in-Ok.ensures in
    let h = c.make-made.new.self in
    let n = c.make-made.new.m in
    let taken_is = ap (λ k. taken (floor_of (innermost s.frames) s) k s.stack) (sym c.from.ensures) ∙ c.in_ok-values.ensures.is in
    let same = ap (λ (m : Spent). record (seen c.self.inside) { heap = h; turns = m.turns; units = n.units }) e.charge ∙ ap (with_heap h n.units) c.self.view_is in
    let outcome = ap₂ (λ vs (x : State). made (Array vs) x.heap x.units) (reverse-reverse _ ∙ sym c.new.ensures) (sym c.self.view_is) ∙ e.ok in
    on_ok c.go_on_with.result (λ is fixed code.
    is
    ∙ ap (λ (x : State). on_and_push (here_of b x) (keep rest x.stack) c.in-Ok.v x) same
    ∙ sym (ap (λ (t : List Val × List Val). on_outcome (made (Array (reverse t.0)) s.heap s.units) (on_and_push (here_of b s) t.1) s) taken_is
    ∙ ap (λ o. on_outcome o (on_and_push (here_of b s) (keep rest s.stack)) s) outcome)) c.go_on_with.ensures

pub returns-in-Err : goal.returns-in-Err
unfolding act
returns-in-Err c =
    let s = c.args.self.now in
    let b = c.args.behind in
    let rest = c.in_ok-values.rest in
    let e = c.make-made.ensures in
    let why = c.in-Err.why in
    let there : State = seen (record c.self.inside { heap = c.make-made.new.self; meter = c.make-made.new.m }) in
    let is_err : c.make-made.result ≡ Err why = c.in-Err.is in
    let taken_is = ap (λ k. taken (floor_of (innermost s.frames) s) k s.stack) (sym c.from.ensures) ∙ c.in_ok-values.ensures.is in
    let same = ap₂ (λ h (n : Spent). record (seen c.self.inside) { heap = h; turns = n.turns; units = n.units }) (on_err _ _ is_err e.err) (on_err _ _ is_err e.err_meter) ∙ c.self.view_is in
    let inside = ap₂ (λ vs (x : State). made (Array vs) x.heap x.units) (reverse-reverse _ ∙ sym c.new.ensures) (sym c.self.view_is) in
    on_ok c.stop.result (λ is fixed code.
    stopped_is (made (Array (reverse (reverse c.in_ok-values.values.items))) s.heap s.units) (on_and_push (here_of b s) (keep rest s.stack)) s c.stop.new.self (set_stop why)
    (subst (λ x. IsStopped (set_stop why) x c.stop.new.self) same (subst (λ w. IsStopped w there c.stop.new.self) c.set_stop.ensures is))
    (λ kind thrown. absurd (stop_thrown why kind thrown))
    (λ spent. inside ∙ e.spent.0 (is_err ∙ ap Err (stop_spent why spent)))
    ∙ sym (ap (λ (t : List Val × List Val). on_outcome (made (Array (reverse t.0)) s.heap s.units) (on_and_push (here_of b s) t.1) s) taken_is)) c.stop.ensures
