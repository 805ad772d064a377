use Rattle.std.proofs.Common.{◌≡◌, ◌+◌, ◌-◌, Some, arith, inl, inr, ap, sym, subst, ◌∙◌}
use Rattle.std.specs.Prelude.{IfSome}
use Rattle.hog_value.specs.Values.{NamesBelow}
use Rattle.vm_course.specs.Stack.{value_at, keep, top_of}
use Rattle.vm_frames.proofs.Lists.{top_of-missing, top_of-operand, value_at-read, names-value_at, length_seen}
use Rattle.vm_frames.proofs.stack.Stack.top.Goals as goal
use Rattle.vm_frames.proofs.stack.Stack.top.Goals.{then-len-eq0-via-then-len-eq0, then-len-eq0-via-else-len-eq0+then-len-floor}

pub returns-then-len-eq0-clause-is : goal.returns-then-len-eq0-clause-is
returns-then-len-eq0-clause-is c = top_of-missing c.args.floor c.args.self.now c.args.len c.requires (elim c.then-len-eq0.branch [
  | then-len-eq0-via-then-len-eq0 w ↦ inl w.if-len-eq0.true
  | then-len-eq0-via-else-len-eq0+then-len-floor w ↦ inr w.if-len-floor.true
])

pub returns-clause-is : goal.returns-clause-is
returns-clause-is c =
    let len = c.args.len in
    let is : value_at c.args.self.now (len - 1) ≡ Some c.index.result.now =
    ap (λ ys. value_at ys (len - 1)) (sym c.self.view_is) ∙ value_at-read c.self.inside.values.items (len - 1) c.index.result.now (omega (arith, length_seen c.self.inside.values.items c.args.self.now c.self.view_is)) c.index.ensures in
    let whole : len ≡ len - 1 + 1 = omega arith in
    ap (λ n. top_of c.args.floor (keep n c.args.self.now)) whole ∙ top_of-operand c.args.floor c.args.self.now (len - 1) c.index.result.now (omega arith) is

pub returns-clause-names : goal.returns-clause-names
returns-clause-names c = λ n all.
    let len = c.args.len in
    let is : value_at c.args.self.now (len - 1) ≡ Some c.index.result.now =
    ap (λ ys. value_at ys (len - 1)) (sym c.self.view_is) ∙ value_at-read c.self.inside.values.items (len - 1) c.index.result.now (omega (arith, length_seen c.self.inside.values.items c.args.self.now c.self.view_is)) c.index.ensures in
    subst (λ o. IfSome o (NamesBelow n)) is (names-value_at n c.args.self.now (len - 1) all)
