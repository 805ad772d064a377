use Rattle.std.proofs.Common.{ap, sym, ◌∙◌}
use Rattle.std.specs.Prelude.{reverse}
use Rattle.vm_course.specs.Stack.{keep}
use Rattle.vm_frames.proofs.Lists.{keep-reverse}
use Rattle.vm_frames.proofs.frames.Frames.keep.Goals as goal

pub returns : goal.returns
returns c = ap reverse c.truncate.ensures.items ∙ sym (keep-reverse c.self.inside.list.items c.args.count) ∙ ap (keep c.args.count) c.self.view_is
