use Rattle.std.proofs.Common.{◌≡◌, Some, arith, ap, sym, subst, ◌∙◌}
use Rattle.std.specs.Prelude.{IfSome}
use Rattle.hog_value.specs.Values.{NamesBelow}
use Rattle.vm_course.specs.Stack.{value_at}
use Rattle.vm_frames.proofs.Lists.{value_at-read, value_at-past, names-value_at}
use Rattle.vm_frames.proofs.stack.Stack.at.Goals as goal

pub returns-then-place-len-clause-value : goal.returns-then-place-len-clause-value
returns-then-place-len-clause-value c = sym (ap (λ ys. value_at ys c.args.place) (sym c.self.view_is) ∙ value_at-past c.self.inside.values.items c.args.place (omega arith))

pub returns-clause-value : goal.returns-clause-value
returns-clause-value c =
    sym (ap (λ ys. value_at ys c.args.place) (sym c.self.view_is) ∙ value_at-read c.self.inside.values.items c.args.place c.index.result.now (omega arith) c.index.ensures)

pub returns-clause-names : goal.returns-clause-names
returns-clause-names c = λ n all.
    let is : value_at c.args.self.now c.args.place ≡ Some c.index.result.now =
    ap (λ ys. value_at ys c.args.place) (sym c.self.view_is) ∙ value_at-read c.self.inside.values.items c.args.place c.index.result.now (omega arith) c.index.ensures in
    subst (λ o. IfSome o (NamesBelow n)) is (names-value_at n c.args.self.now c.args.place all)
