use Rattle.std.proofs.Common.{◌≡◌, ◌-◌, length, All, ap, sym, subst, ◌∙◌}
use Rattle.std.proofs.lemmas.List.Elements.{All-take}
use Rattle.std.proofs.lemmas.Result.{IfOk-weaker}
use Rattle.std.specs.Prelude.{reverse, slice_range}
use Rattle.hog_value.specs.Values.{NamesBelow}
use Rattle.vm_frames.proofs.Filling.{above-reverse, All-reverse}
use Rattle.vm_frames.proofs.stack.Stack.above.Goals as goal

seen : goal.returns-in-Some-clause-is
seen c =
    let xs = c.deref.result.now in
    let k = c.args.floor in
    let part = c.in-Some.ensures.lookup.0 in
    let stack : reverse xs ≡ c.args.self.now = ap reverse c.deref.ensures.value ∙ c.self.view_is in
    IfOk-weaker c.from_slice.result _ _
    (λ vs same. ap reverse (same ∙ part.2) ∙ above-reverse xs k part.0 ∙ ap (λ ys. slice_range ys 0 (length ys - k)) stack)
    c.from_slice.ensures.items

pub returns-in-Some-clause-is : goal.returns-in-Some-clause-is
returns-in-Some-clause-is c = seen c

pub returns-in-Some-clause-names : goal.returns-in-Some-clause-names
returns-in-Some-clause-names c = λ m all.
    let ys = c.args.self.now in
    IfOk-weaker c.from_slice.result _ _
    (λ vs same. All-reverse (NamesBelow m) vs.items (subst (All (NamesBelow m)) (sym same) (All-take (NamesBelow m) (length ys - c.args.floor - 0) ys all)))
    (seen c)
