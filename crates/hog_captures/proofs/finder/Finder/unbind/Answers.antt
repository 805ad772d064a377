use Rattle.std.proofs.Common.{◌-◌, length, drop, reverse, ap, ◌∙◌}
use Rattle.hog_captures.specs.Finding.{Finding}
use Rattle.hog_captures.specs.View.{last_first}
use Rattle.hog_captures.proofs.Places.{last_first-take, drop-front}
use Rattle.hog_captures.proofs.Finds.{binds_before}
use Rattle.hog_captures.proofs.finder.Finder.unbind.Goals as goal

pub returns : goal.returns
returns c = λ f names was depth.
    let n = c.args.depth in
    ap (λ ws. record { frame = c.self.inside.frame.now; bound = last_first ws; found = c.self.inside.found }) c.truncate.ensures.items
    ∙ ap (λ ws. record { frame = c.self.inside.frame.now; bound = ws; found = c.self.inside.found }) (last_first-take n c.self.inside.bound.items)
    ∙ ap (λ (g : Finding). record g { bound = drop (length g.bound - n) g.bound }) (c.self.view_is ∙ was ∙ binds_before names f)
    ∙ ap (λ ws. record f { bound = ws }) (drop-front (reverse names) f.bound n depth)
