use Rattle.std.proofs.Common.{arith, ap, sym, ◌∙◌}
use Rattle.vm_course.specs.Stack.{with_value}
use Rattle.vm_frames.proofs.Lists.{with_value-reverse, with_value-past}
use Rattle.vm_frames.proofs.stack.Stack.set.Goals as goal

pub returns-then-place-len : goal.returns-then-place-len
returns-then-place-len c =
    sym (with_value-reverse c.self.inside.values.items c.args.place c.args.v) ∙ ap (λ ys. with_value ys c.args.place c.args.v) c.self.view_is

pub returns-else-place-len : goal.returns-else-place-len
returns-else-place-len c =
    sym (ap (λ ys. with_value ys c.args.place c.args.v) (sym c.self.view_is) ∙ with_value-past c.self.inside.values.items c.args.place c.args.v (omega arith) ∙ c.self.view_is)
