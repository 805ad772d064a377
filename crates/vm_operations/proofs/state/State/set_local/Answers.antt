use Rattle.std.proofs.Common.{sym, ap, ◌∙◌}
use Rattle.hog_value.specs.Values.{Val}
use Rattle.vm_course.specs.State.{State}
use Rattle.vm_course.specs.Step.{act, on_with}
use Rattle.vm_course.specs.Stack.{keep}
use Rattle.vm_operations.specs.Here.{here_of}
use Rattle.vm_operations.proofs.Tops.{by_one}
use Rattle.std.proofs.Common.{ℕ, ◌+◌}
use Rattle.vm_course.specs.Stack.{with_value}
use Rattle.vm_frames.specs.Parts.{innermost}
use Rattle.vm_operations.proofs.state.State.set_local.Goals as goal

pub returns : goal.returns
unfolding act
returns c = λ fixed code.
    let s = c.args.self.now in
    let b = c.args.behind in
    let t = c.top-v.result in
    let set : ℕ → Val → State → State = λ place v x. record x { stack = with_value x.stack place v } in
    let place = ap (λ n. n + c.args.index) c.base.ensures in
    c.set_value.ensures
    ∙ ap (set _ t.0) c.go_on.ensures
    ∙ ap (λ n. set n t.0 (on_with (here_of b s) (keep t.1 s.stack) s)) place
    ∙ sym (by_one s b _ _ c.floor-floor.ensures c.len-all.ensures (λ v rest. set ((innermost s.frames).base + c.args.index) v (on_with (here_of b s) rest s)) t.0 t.1 c.top-v.ensures.is)
