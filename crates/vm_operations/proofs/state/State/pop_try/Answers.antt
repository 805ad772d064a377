use Rattle.std.proofs.Common.{◌≡◌, ap, ◌∙◌}
use Rattle.vm_course.specs.State.{State}
use Rattle.vm_course.specs.Step.{act, on_with}
use Rattle.vm_operations.specs.Here.{here_of}
use Rattle.std.proofs.Common.{◌+◌, length, arith}
use Rattle.vm_operations.specs.Seen.{seen}
use Rattle.vm_course.specs.Step.{without_try}
use Rattle.vm_frames.proofs.Lists.{keep-all}
use Rattle.vm_operations.proofs.state.State.pop_try.Goals as goal

pub returns : goal.returns
unfolding act
returns c = λ fixed code.
    let s = c.args.self.now in
    let b = c.args.behind in
    let count : c.len-frames.result + 1 ≡ length s.frames = omega (arith, c.len-frames.ensures.count, ap (λ (x : State). length x.frames) c.self.view_is) in
    ap (λ ts. record (seen c.self-2.inside) { throws = ts }) c.pop_of.ensures
    ∙ ap (λ (x : State). record x { throws = without_try (c.len-frames.result + 1) x.throws }) (c.self-2.view_is ∙ c.go_on.ensures ∙ ap (λ ys. on_with (here_of b s) ys s) (keep-all s.stack _ c.len-all.ensures))
    ∙ ap (λ n. record (on_with (here_of b s) s.stack s) { throws = without_try n s.throws }) count
