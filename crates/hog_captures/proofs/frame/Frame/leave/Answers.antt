use Rattle.std.proofs.Common.{◌-◌, length, drop, ap, ◌∙◌}
use Rattle.hog_captures.specs.Frames.{Frame}
use Rattle.hog_captures.specs.View.{names_of}
use Rattle.hog_captures.proofs.Places.{names_of-take, drop-front}
use Rattle.hog_captures.proofs.frame.Frame.leave.Goals as goal

pub returns-clause-exact : goal.returns-clause-exact
returns-clause-exact c =
    let n = c.args.count in
    ap (λ xs. record { locals = names_of xs; ups = c.self.inside.ups }) c.truncate.ensures.items
    ∙ ap (λ ls. record { locals = ls; ups = c.self.inside.ups }) (names_of-take n c.self.inside.locals.items)
    ∙ ap (λ (fr : Frame). record { locals = drop (length fr.locals - n) fr.locals; ups = fr.ups }) c.self.view_is

pub returns-clause-back : goal.returns-clause-back
returns-clause-back c = λ fr names was count.
    let n = c.args.count in
    returns-clause-exact c
    ∙ ap (λ (f : Frame). record { locals = drop (length f.locals - n) f.locals; ups = f.ups }) was
    ∙ ap (λ ls. record { locals = ls; ups = fr.ups }) (drop-front names fr.locals n count)
