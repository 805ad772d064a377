use Rattle.std.proofs.Common.{◌≡◌, List, cond, sym, ap, ap₂, subst, ◌∙◌}
use Rattle.std.proofs.lemmas.List.{reverse-reverse}
use Rattle.std.specs.Prelude.{Err, reverse}
use Rattle.hog_value.specs.declared.trace.End.TheVariants.{TooManyFetches}
use Rattle.hog_value.specs.Values.{Val}
use Rattle.hog_value.specs.Meters.{Spent}
use Rattle.hog_library.specs.Called.{called}
use Rattle.hog_library.specs.Answers.{Keeps}
use Rattle.vm_course.specs.State.{State}
use Rattle.vm_operations.specs.Seen.{seen}
use Rattle.vm_course.specs.Stack.{keep, taken, floor_of}
use Rattle.vm_course.specs.Step.{act, of_native, spent_by}
use Rattle.vm_course.specs.Throws.{ends}
use Rattle.vm_frames.specs.Parts.{innermost}
use Rattle.vm_operations.specs.Here.{here_of, answer_taken, IsCallStopped}
use Rattle.vm_operations.proofs.Landing.{on_ok}
use Rattle.vm_operations.proofs.JumpLemmas.{on_err}
use Rattle.vm_operations.proofs.Answered.{after_call, answer_is, call_stopped}
use Rattle.vm_operations.proofs.state.State.call_global.Goals as goal

pub returns-then-is_one_too_many : goal.returns-then-is_one_too_many
unfolding act
returns-then-is_one_too_many c = λ fixed code.
    let s = c.args.self.now in
    let b = c.args.behind in
    let o = taken (floor_of (innermost s.frames) s) c.args.n s.stack in
    let other = of_native (here_of b s) o.1 (called c.args.native (reverse o.0) s.heap (spent_by s)) s in
    c.end.ensures ∙ ap (λ x. cond x (ends TooManyFetches s) other) (sym c.if-is_one_too_many.true ∙ c.is_one_too_many.ensures)

pub returns-in-Ok : goal.returns-in-Ok
unfolding act
returns-in-Ok c =
    let s = c.args.self.now in
    let b = c.args.behind in
    let rest = c.in_ok-values.rest in
    let e = c.in-Ok.ensures in
    let h = c.call_native-answer.new.heap in
    let m = c.call_native-answer.new.m in
    let taken_is = ap (λ k. taken (floor_of (innermost s.frames) s) k s.stack) (sym c.from.ensures) ∙ c.in_ok-values.ensures.is in
    let same = ap (λ (x : State). after_call x b rest h m) c.self.view_is in
    let kept = subst (λ (x : State). Keeps c.in-Ok.answer x.heap h (spent_by s) m) c.self.view_is (subst (λ n. Keeps c.in-Ok.answer c.self.inside.heap h n m) c.spent-meter.ensures e.kept) in
    let outcome = ap₂ (λ vs (x : State). called c.args.native vs x.heap (spent_by s)) (reverse-reverse _ ∙ sym c.as_slice.ensures.value) (sym c.self.view_is)
    ∙ ap (λ n. called c.args.native c.as_slice.result.now c.self.inside.heap n) (sym c.spent-meter.ensures) ∙ e.ok in
    on_ok c.take_answer.result (λ is fixed code.
    let go : List Val × List Val → State = λ t. of_native (here_of b s) t.1 (called c.args.native (reverse t.0) s.heap (spent_by s)) s in
    is
    ∙ ap (answer_taken b rest c.in-Ok.answer) same
    ∙ answer_is s b rest c.in-Ok.answer h m kept
    ∙ sym (ap (λ x. cond x (ends TooManyFetches s) (go (taken (floor_of (innermost s.frames) s) c.args.n s.stack))) (sym c.is_one_too_many.ensures ∙ c.if-is_one_too_many.false)
    ∙ ap go taken_is
    ∙ ap (λ o. of_native (here_of b s) (keep rest s.stack) o s) outcome)) c.take_answer.ensures

pub returns : goal.returns
unfolding act
returns c =
    let s = c.args.self.now in
    let b = c.args.behind in
    let rest = c.in_ok-values.rest in
    let e = c.call_native-answer.ensures in
    let why = c.in-Err.why in
    let is_err : c.call_native-answer.result ≡ Err why = c.in-Err.is in
    let taken_is = ap (λ k. taken (floor_of (innermost s.frames) s) k s.stack) (sym c.from.ensures) ∙ c.in_ok-values.ensures.is in
    let same = ap₂ (λ h (n : Spent). after_call (seen c.self.inside) b rest h n) (on_err _ _ is_err e.err) (on_err _ _ is_err e.err_meter ∙ c.spent-meter.ensures) ∙ ap (λ (x : State). after_call x b rest x.heap (spent_by s)) c.self.view_is in
    let inside = ap₂ (λ vs (x : State). called c.args.native vs x.heap (spent_by s)) (reverse-reverse _ ∙ sym c.as_slice.ensures.value) (sym c.self.view_is)
    ∙ ap (λ n. called c.args.native c.as_slice.result.now c.self.inside.heap n) (sym c.spent-meter.ensures) in
    on_ok c.stop_call.result (λ is fixed code.
    let go : List Val × List Val → State = λ t. of_native (here_of b s) t.1 (called c.args.native (reverse t.0) s.heap (spent_by s)) s in
    call_stopped s b rest why c.stop_call.new.self (called c.args.native (reverse (reverse c.in_ok-values.values.items)) s.heap (spent_by s)) (subst (λ x. IsCallStopped why x c.stop_call.new.self) same is)
    (λ spent. inside ∙ e.turns (is_err ∙ ap Err spent))
    (λ spent. inside ∙ e.units (is_err ∙ ap Err spent))
    ∙ sym (ap (λ x. cond x (ends TooManyFetches s) (go (taken (floor_of (innermost s.frames) s) c.args.n s.stack))) (sym c.is_one_too_many.ensures ∙ c.if-is_one_too_many.false)
    ∙ ap go taken_is)) c.stop_call.ensures
