use Rattle.std.proofs.Common.{◌+◌, sym, ap, ◌∙◌}
use Rattle.std.proofs.lemmas.Result.{IfOk-weaker}
use Rattle.vm_course.specs.State.{State}
use Rattle.vm_frames.specs.Parts.{innermost}
use Rattle.vm_operations.proofs.Making.{captured_is}
use Rattle.vm_operations.proofs.state.State.capture.Goals as goal

pub returns-clause-numbers : goal.returns-clause-numbers
returns-clause-numbers c =
    let s = c.args.self.now in
    let captures = c.args.captures.now in
    let same = captured_is s captures _ _ _ _ _ (ap (λ n. n + 1) c.len.ensures) c.captured_by.ensures c.function-function.ensures (ap (λ (x : State). x.heap) c.self.view_is) (ap (λ (x : State). x.upvalues) c.self.view_is) in
    IfOk-weaker c.capture_all.result _ _ (λ ns is. sym (ap (λ p. p.0) (is (innermost s.frames) (sym c.base-base.ensures))) ∙ ap (λ p. p.0) same) c.capture_all.ensures.is

pub returns-clause-upvalues : goal.returns-clause-upvalues
returns-clause-upvalues c =
    let s = c.args.self.now in
    let captures = c.args.captures.now in
    let new = c.capture_all.new.self in
    let same = captured_is s captures _ _ _ _ _ (ap (λ n. n + 1) c.len.ensures) c.captured_by.ensures c.function-function.ensures (ap (λ (x : State). x.heap) c.self.view_is) (ap (λ (x : State). x.upvalues) c.self.view_is) in
    IfOk-weaker c.capture_all.result _ _ (λ ns is.
    ap (λ (x : State). record x { upvalues = new }) c.self.view_is
    ∙ ap (λ us. record s { upvalues = us }) (sym (ap (λ p. p.1) (is (innermost s.frames) (sym c.base-base.ensures))) ∙ ap (λ p. p.1) same)) c.capture_all.ensures.is

pub invariant_of-self : goal.invariant_of-self
invariant_of-self c = record { values = c.self.invariant.values; taken = c.capture_all.ensures.names _ c.self.invariant.taken; covered = c.self.invariant.covered }
