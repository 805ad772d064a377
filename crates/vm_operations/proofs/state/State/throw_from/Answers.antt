use Rattle.std.proofs.Common.{◌≡◌, ◌<◌, Some, length, min, arith, ap, sym, ◌∙◌}
use Rattle.vm_course.specs.State.{State, ThrowFrame}
use Rattle.vm_operations.specs.Seen.{seen}
use Rattle.vm_frames.specs.Parts.{first_of, others_of}
use Rattle.vm_operations.proofs.Landing.{on_ok, lands}
use Rattle.vm_operations.proofs.state.State.throw_from.Goals as goal

pub returns : goal.returns
returns c =
    let s = c.args.self.now in
    let t : ThrowFrame = record { frames = c.t.inside.frames; height = c.t.inside.height; catch = c.t.inside.catch } in
    let last : first_of s.throws ≡ Some t = ap (λ (x : State). first_of x.throws) (sym c.self.view_is) ∙ sym c.last.ensures ∙ c.in-Some.is ∙ ap Some (sym c.t.view_is) in
    let framed : 0 < length s.frames = omega (arith, ap (λ (x : State). length x.frames) c.self.view_is) in
    let some : 0 < t.frames = omega (arith, c.if-t-eq0.false) in
    let least = c.min-height.ensures ∙ ap (min t.height) c.len.ensures in
    let second = ap (λ ts. record (seen c.self-2.inside) { throws = ts }) c.pop.ensures.rest ∙ ap (λ (x : State). record x { throws = others_of x.throws }) c.self-2.view_is in
    on_ok c.push.result (λ is. is ∙ lands c.args.v t s _ _ _ _ _ _ last some framed least c.cut.ensures second c.land.ensures c.go_to.ensures) c.push.ensures
