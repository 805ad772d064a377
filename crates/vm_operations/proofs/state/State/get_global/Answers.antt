use Rattle.std.proofs.Common.{◌≡◌, ◌<◌, List, length, drop, get_or, sym, ap, ◌∙◌, arith}
use Rattle.std.proofs.lemmas.Bool.Decides.{nat_tests}
use Rattle.hog_value.specs.declared.value.Value.TheVariants.{Null}
use Rattle.hog_value.specs.Values.{Val}
use Rattle.hog_json.specs.Texts.{named_text}
use Rattle.vm_course.specs.Stack.{keep, taken, floor_of}
use Rattle.vm_course.specs.Step.{act, on_and_push, get_global, global_of, property_path}
use Rattle.vm_course.specs.Throws.{on_result}
use Rattle.vm_frames.specs.Parts.{innermost}
use Rattle.vm_operations.specs.Here.{here_of}
use Rattle.vm_operations.proofs.Landing.{on_ok}
use Rattle.vm_operations.proofs.Paths.{global_read, no_global, tail_is}
use Rattle.vm_operations.proofs.state.State.get_global.Goals as goal

pub returns-then-is_empty : goal.returns-then-is_empty
unfolding act
returns-then-is_empty c =
    let s = c.args.self.now in
    let b = c.args.behind in
    let none : length c.as_slice-names.result.now ≡ 0 = grind (arith, nat_tests) in
    let taken_is = ap (λ k. taken (floor_of (innermost s.frames) s) k s.stack) (sym c.from.ensures) ∙ c.in_ok-values.ensures.is in
    on_ok c.go_on_with.result (λ is fixed code same.
    is
    ∙ sym (ap (λ (t : List Val × List Val). get_global fixed (here_of b s) t.0 t.1 s) taken_is
    ∙ no_global fixed (here_of b s) c.in_ok-values.values.items (keep c.in_ok-values.rest s.stack) s (ap length (sym c.as_slice-names.ensures.value) ∙ none))) c.go_on_with.ensures

pub returns : goal.returns
unfolding act
returns c =
    let s = c.args.self.now in
    let b = c.args.behind in
    let items = c.in_ok-values.values.items in
    let names = c.as_slice-names.result.now in
    let seen = c.as_slice-names.ensures.value in
    let some : 0 < length names = grind (arith, nat_tests) in
    let framed : 0 < length items = omega (arith, some, ap length seen) in
    let taken_is = ap (λ k. taken (floor_of (innermost s.frames) s) k s.stack) (sym c.from.ensures) ∙ c.in_ok-values.ensures.is in
    on_ok c.settle.result (λ is fixed code same.
    is
    ∙ ap (λ r. on_result r (on_and_push (here_of b s) (keep c.in_ok-values.rest s.stack)) s)
    (c.global_path-v.ensures.value fixed same
    ∙ ap (λ ks. property_path (global_of fixed s (named_text s.heap (get_or names 0 Null))) ks s) (tail_is names)
    ∙ ap (λ vs. property_path (global_of fixed s (named_text s.heap (get_or vs 0 Null))) (drop 1 vs) s) seen)
    ∙ sym (ap (λ (t : List Val × List Val). get_global fixed (here_of b s) t.0 t.1 s) taken_is
    ∙ global_read fixed (here_of b s) items (keep c.in_ok-values.rest s.stack) s framed)) c.settle.ensures
