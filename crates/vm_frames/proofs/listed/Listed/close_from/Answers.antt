use Rattle.std.proofs.Common.{◌≡◌, ap, ◌∙◌}
use Rattle.std.specs.Prelude.{unwrap_or}
use Rattle.hog_value.specs.declared.value.Value.TheVariants.{Null}
use Rattle.vm_course.specs.Stack.{value_at, or_null}
use Rattle.vm_frames.proofs.Closing.{closed_next, none_left}
use Rattle.vm_frames.proofs.listed.Listed.close_from.Goals as goal

pub front-preserved : goal.front-preserved
front-preserved c =
    let v : c.unwrap_or-v.result ≡ or_null (value_at c.args.stack.now c.in-Some.place) = c.unwrap_or-v.ensures ∙ ap (λ o. unwrap_or o Null) c.at.ensures.value in
    record {
      so_far = closed_next c.args.height c.args.stack.now c.front.self.list.items c.shut.new.self.list.items c.in-Some.number c.in-Some.place c.unwrap_or-v.result c.in-Some.ensures.there c.in-Some.ensures.high v c.shut.ensures.written ∙ c.front.invariant.so_far;
      kept = c.shut.ensures.kept;
    }

pub returns-clause-closed : goal.returns-clause-closed
returns-clause-closed c = none_left c.args.height c.args.stack.now c.front.self.list.items c.in_default.ensures.none ∙ c.front.invariant.so_far
