use Rattle.std.proofs.Common.{◌≡◌, ◌+◌, ◌*◌, List, sym, ap, ap₂, subst, ◌∙◌, arith}
use Rattle.std.proofs.lemmas.List.{reverse-reverse}
use Rattle.std.specs.Prelude.{Err, reverse}
use Rattle.hog_value.specs.Values.{Val}
use Rattle.hog_value.specs.Meters.{Spent}
use Rattle.hog_meaning.specs.Operators.{dictionary_made}
use Rattle.vm_course.specs.State.{State}
use Rattle.vm_operations.specs.Seen.{seen}
use Rattle.vm_course.specs.Stack.{keep, taken, floor_of}
use Rattle.vm_course.specs.Step.{act, on_and_push, in_pairs}
use Rattle.vm_course.specs.Throws.{with_heap, on_outcome}
use Rattle.vm_frames.specs.Parts.{innermost}
use Rattle.vm_operations.specs.Here.{here_of, IsStopped}
use Rattle.vm_operations.proofs.Landing.{on_ok}
use Rattle.vm_operations.proofs.JumpLemmas.{on_err, stopped_is}
use Rattle.vm_operations.proofs.Gathered.{pairs_same}
use Rattle.vm_operations.proofs.state.State.dict.Goals as goal

pub returns-in-Ok : goal.returns-in-Ok
unfolding act
returns-in-Ok c =
    let s = c.args.self.now in
    let b = c.args.behind in
    let rest = c.in_ok-values.rest in
    let e = c.make_dictionary-made.ensures in
    let h = c.make_dictionary-made.new.heap in
    let n = c.make_dictionary-made.new.m in
    let twice : c.args.n + c.args.n ≡ 2 * c.from.result = omega (arith, c.from.ensures) in
    let taken_is = ap (λ k. taken (floor_of (innermost s.frames) s) k s.stack) twice ∙ c.in_ok-values.ensures.is in
    let same = ap (λ (m : Spent). record (seen c.self.inside) { heap = h; turns = m.turns; units = n.units }) e.turns_and_depth ∙ ap (with_heap h n.units) c.self.view_is in
    let pairs = ap in_pairs (reverse-reverse _ ∙ sym c.as_slice.ensures.value) ∙ sym (pairs_same _) in
    let outcome = ap₂ (λ vs (x : State). dictionary_made vs x.heap x.units) pairs (sym c.self.view_is) ∙ c.in-Ok.ensures.ok in
    on_ok c.go_on_with.result (λ is fixed code.
    is
    ∙ ap (λ (x : State). on_and_push (here_of b x) (keep rest x.stack) c.in-Ok.v x) same
    ∙ sym (ap (λ (t : List Val × List Val). on_outcome (dictionary_made (in_pairs (reverse t.0)) s.heap s.units) (on_and_push (here_of b s) t.1) s) taken_is
    ∙ ap (λ o. on_outcome o (on_and_push (here_of b s) (keep rest s.stack)) s) outcome)) c.go_on_with.ensures

pub returns : goal.returns
unfolding act
returns c =
    let s = c.args.self.now in
    let b = c.args.behind in
    let rest = c.in_ok-values.rest in
    let e = c.make_dictionary-made.ensures in
    let why = c.in-Err.why in
    let is_err : c.make_dictionary-made.result ≡ Err why = c.in-Err.is in
    let twice : c.args.n + c.args.n ≡ 2 * c.from.result = omega (arith, c.from.ensures) in
    let taken_is = ap (λ k. taken (floor_of (innermost s.frames) s) k s.stack) twice ∙ c.in_ok-values.ensures.is in
    let same = ap₂ (λ h (n : Spent). record (seen c.self.inside) { heap = h; turns = n.turns; units = n.units }) (on_err _ _ is_err e.err) (on_err _ _ is_err e.err_meter) ∙ c.self.view_is in
    let pairs = ap in_pairs (reverse-reverse _ ∙ sym c.as_slice.ensures.value) ∙ sym (pairs_same _) in
    let inside = ap₂ (λ vs (x : State). dictionary_made vs x.heap x.units) pairs (sym c.self.view_is) in
    on_ok c.stop.result (λ is fixed code.
    stopped_is (dictionary_made (in_pairs (reverse (reverse c.in_ok-values.values.items))) s.heap s.units) (on_and_push (here_of b s) (keep rest s.stack)) s c.stop.new.self why
    (subst (λ x. IsStopped why x c.stop.new.self) same is)
    (λ kind thrown. inside ∙ e.thrown kind (is_err ∙ ap Err thrown))
    (λ spent. inside ∙ e.spent (is_err ∙ ap Err spent))
    ∙ sym (ap (λ (t : List Val × List Val). on_outcome (dictionary_made (in_pairs (reverse t.0)) s.heap s.units) (on_and_push (here_of b s) t.1) s) taken_is)) c.stop.ensures
