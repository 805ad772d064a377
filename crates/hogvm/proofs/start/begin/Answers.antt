use Rattle.std.proofs.Common.{◌≡◌, ap, sym, ◌∙◌}
use Rattle.vm_frames.specs.Reading.{Reading}
use Rattle.hog_meaning.specs.Program.{first_cells}
use Rattle.vm_course.specs.Run.{begun_with}
use Rattle.hogvm.proofs.Firsts.{first_some}
use Rattle.hogvm.proofs.start.begin.Goals as goal

pub begun-requires-clause-globals : goal.begun-requires-clause-globals
begun-requires-clause-globals c = first_some _ _ _ c.in_ok-texts.texts.items c.args.globals.now c.requires c.in-Ok.ensures.ok

pub returns-in-Ok-clause-begun : goal.returns-in-Ok-clause-begun
returns-in-Ok-clause-begun c =
    let texts = c.in_ok-texts.ensures ∙ ap (λ (t : Reading). t.literals) c.in_ok-new.ensures in
    c.begun.ensures.run c.in-Ok.field-0 ∙ ap begun_with (sym c.in-Ok.ensures.ok) ∙ ap (λ ts. begun_with (first_cells ts c.args.globals.now)) texts
