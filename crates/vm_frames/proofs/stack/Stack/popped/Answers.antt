use Rattle.std.proofs.Common.{◌≡◌, ◌-◌, ◌+◌, ◌∷◌, [], length, length-append, arith, ap, sym, subst, ◌∙◌, All}
use Rattle.std.proofs.lemmas.List.Elements.{All-push, All-nil}
use Rattle.hog_value.specs.Values.{NamesBelow}
use Rattle.vm_frames.proofs.Taking.{behind, behind-first, behind-next, behind-last}
use Rattle.vm_frames.proofs.stack.Stack.popped.Goals as goal

pub loop-init : goal.loop-init
loop-init c =
    let none : c.args.n - 0 ≡ c.args.n = omega arith in
    let ys = c.args.self.now in
    record {
      so_far = behind-first c.args.floor ys c.args.n c.len-rest.result c.len-rest.ensures
          ∙ ap (λ vs. behind c.args.floor ys c.args.n c.len-rest.result vs) (sym c.new-values.ensures.items)
          ∙ ap (λ k. behind c.args.floor ys k c.len-rest.result c.new-values.result.items) (sym none);
      count = ap length c.new-values.ensures.items;
      within = omega (arith, c.len-rest.ensures);
      names = λ m all. subst (All (NamesBelow m)) (sym c.new-values.ensures.items) (All-nil _);
    }

pub loop-preserved : goal.loop-preserved
loop-preserved c =
    let ys = c.args.self.now in
    let e = c.top-v.ensures in
    let items = c.in_ok-push.ensures.items in
    record {
      so_far = c.loop.invariant.so_far
          ∙ behind-next c.args.floor ys c.args.n c.loop.counter c.loop.rest c.top-v.result.1 c.top-v.result.0 c.loop.values.items c.loop-test.true e.is
          ∙ ap (λ vs. behind c.args.floor ys (c.args.n - (c.loop.counter + 1)) c.top-v.result.1 vs) (sym items);
      count = omega (arith, ap length items, length-append c.loop.values.items (c.top-v.result.0 ∷ []), c.loop.invariant.count);
      within = omega (arith, e.within, c.loop.invariant.within);
      names = λ m all. subst (All (NamesBelow m)) (sym items) (All-push (NamesBelow m) c.loop.values.items c.top-v.result.0 (c.loop.invariant.names m all) (e.names m all));
    }

pub returns-clause-is : goal.returns-clause-is
returns-clause-is c = c.loop.invariant.so_far ∙ behind-last c.args.floor c.args.self.now c.args.n c.loop.counter c.loop.rest c.loop.values.items c.loop-test.false

pub returns-clause-names : goal.returns-clause-names
returns-clause-names c = λ m all. c.loop.invariant.names m all

pub returns-clause-count : goal.returns-clause-count
returns-clause-count c = omega (arith, c.loop.invariant.count, c.loop-test.false, c.loop.auto.counter-end)
