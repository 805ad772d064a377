use Rattle.std.proofs.Common.{◌≡◌, ap, ◌∙◌}
use Rattle.vm_course.specs.State.{State}
use Rattle.vm_course.specs.Step.{act, on_with}
use Rattle.vm_operations.specs.Here.{here_of}
use Rattle.vm_operations.proofs.Landing.{on_ok}
use Rattle.std.proofs.Common.{◌∷◌, ◌+◌, ℕ, length, arith}
use Rattle.vm_course.specs.State.{ThrowFrame}
use Rattle.vm_operations.specs.Seen.{seen}
use Rattle.vm_course.specs.Step.{place_at}
use Rattle.vm_frames.proofs.Lists.{keep-all}
use Rattle.std.proofs.lemmas.Int.{to_z-of_z}
use Rattle.std.specs.Int.{w64}
use Rattle.vm_operations.proofs.state.State.open_try.Goals as goal

pub returns : goal.returns
unfolding act
returns c =
    let s = c.args.self.now in
    let b = c.args.behind in
    let frame : ℕ → ℕ → ℕ → ThrowFrame = λ n height place. record { frames = n; height = height; catch = place } in
    let count : c.len-frames.result + 1 ≡ length s.frames = omega (arith, c.len-frames.ensures.count, ap (λ (x : State). length x.frames) c.self.view_is) in
    on_ok c.push.result (λ is fixed code.
    ap (λ ts. record (seen c.self-2.inside) { throws = ts }) is
    ∙ ap (λ (x : State). record x { throws = frame (c.len-frames.result + 1) c.len-height.result c.place_at-catch.result ∷ x.throws }) (c.self-2.view_is ∙ c.go_on.ensures ∙ ap (λ ys. on_with (here_of b s) ys s) (keep-all s.stack _ c.len-height.ensures))
    ∙ ap (λ n. record (on_with (here_of b s) s.stack s) { throws = frame n c.len-height.result c.place_at-catch.result ∷ s.throws }) count
    ∙ ap (λ n. record (on_with (here_of b s) s.stack s) { throws = frame (length s.frames) n c.place_at-catch.result ∷ s.throws }) c.len-height.ensures
    ∙ ap (λ n. record (on_with (here_of b s) s.stack s) { throws = frame (length s.frames) (length s.stack) n ∷ s.throws }) (c.place_at-catch.ensures ∙ ap (place_at b) (to_z-of_z w64 c.args.distance c.ranges.distance))) c.push.ensures.ok
