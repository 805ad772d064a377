use Rattle.std.proofs.Common.{ap, sym, ◌∙◌}
use Rattle.std.specs.Prelude.{reverse}
use Rattle.vm_course.specs.Stack.{keep}
use Rattle.vm_frames.proofs.Lists.{keep-reverse}
use Rattle.vm_frames.proofs.stack.Stack.keep.Goals as goal

pub returns : goal.returns
returns c = ap reverse c.truncate.ensures.items ∙ sym (keep-reverse c.self.inside.values.items c.args.len) ∙ ap (keep c.args.len) c.self.view_is
