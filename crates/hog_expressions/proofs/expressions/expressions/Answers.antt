use Rattle.std.proofs.Common.{◌≡◌, ◌+◌, ◌-◌, ◌++◌, max, map, [], ◌∷◌, length, sym, ap, ◌∙◌, arith}
use Rattle.std.proofs.lemmas.Grind.{common_steps}
use Rattle.std.specs.List.{flat_map}
use Rattle.hog_tree.specs.Names.{exp_names}
use Rattle.std.proofs.lemmas.Result.{err_from_is_err_and}
use Rattle.hog_tree.specs.View.{exp_of}
use Rattle.hog_reading.specs.Read.{got}
use Rattle.hog_reading.specs.ReadStatements.{readers}
use Rattle.hog_terms.specs.View.{left, named_from}
use Rattle.hog_terms.specs.Listed.{comma_of, shut_of}
use Rattle.hog_reading.proofs.ListLoops.{lists_begin, lists_empty, lists_go, lists_end, lists_stray, lists_fail, lists_out, map_snoc, one_less}
use Rattle.hog_reading.proofs.Placing.{placed_more}
use Rattle.hog_expressions.proofs.expressions.expressions.Goals as goal

pub returns-in-Some-clause-gives : goal.returns-in-Some-clause-gives
returns-in-Some-clause-gives g c =
    let none : map exp_of c.new-list.result.items ≡ [] = ap (map exp_of) c.new-list.ensures.items in
    rw (none) (lists_empty ((readers c.args.room).expression 1) (comma_of c.args.closer) (shut_of c.args.closer) (left c.args.tokens.now c.args.at) (left c.args.tokens.now c.in-Some.at) (sym c.in-Some.ensures.value))

pub items-init : goal.items-init
items-init g c =
    let e : c.remaining-end.result - 0 ≡ length (left c.args.tokens.now c.args.at) = (let v = c.remaining-end.ensures.value in omega (arith, v)) in
    let none : map exp_of c.new-list.result.items ≡ [] = ap (map exp_of) c.new-list.ensures.items in
    record {
      low = omega arith;
      same = rw (e, none) (lists_begin ((readers c.args.room).expression 1) (comma_of c.args.closer) (shut_of c.args.closer) (left c.args.tokens.now c.args.at) (sym c.in_default.ensures.value));
      placed = sym (ap (λ xs. flat_map exp_names xs ++ named_from c.args.tokens.now c.args.at) c.new-list.ensures.items);
    }

pub returns-in_err-item-clause-gives : goal.returns-in_err-item-clause-gives
returns-in_err-item-clause-gives g c =
    let p = err_from_is_err_and c.from_residual.result c.from_residual.ensures.1 in
    rw (p.1, p.2) (lists_fail ((readers c.args.room).expression 1) (comma_of c.args.closer) (shut_of c.args.closer) c.args.tokens.now c.in_err-item.field-0.0 (c.remaining-end.result - c.items.counter) (c.remaining-end.result - (c.items.counter + 1)) (map exp_of c.items.list.items) c.items.height (left c.args.tokens.now c.items.begin) _
    (one_less c.remaining-end.result c.items.counter c.items-test.true) c.in_err-item.ensures.gives c.items.invariant.same)

pub returns-in-End-clause-gives : goal.returns-in-End-clause-gives
returns-in-End-clause-gives g c =
    let hs : c.max-height.result ≡ max c.items.height c.in_ok-item.item.height = grind (arith, common_steps) in
    let ws : map exp_of c.push.new.self.items ≡ map exp_of c.items.list.items ++ exp_of c.in_ok-item.item.tree ∷ [] = ap (map exp_of) c.in_ok-push.ensures.items ∙ map_snoc exp_of c.items.list.items c.in_ok-item.item.tree in
    rw (ws, hs) (lists_end ((readers c.args.room).expression 1) (comma_of c.args.closer) (shut_of c.args.closer) (c.remaining-end.result - c.items.counter) (c.remaining-end.result - (c.items.counter + 1)) (map exp_of c.items.list.items) c.items.height (left c.args.tokens.now c.items.begin) (left c.args.tokens.now c.in-End.at) (got (exp_of c.in_ok-item.item.tree) c.in_ok-item.item.height (left c.args.tokens.now c.in_ok-item.item.at)) _
    (one_less c.remaining-end.result c.items.counter c.items-test.true) c.in_ok-item.ensures.gives (sym c.in-End.ensures.value) c.items.invariant.same)

pub returns-in-Neither-clause-gives : goal.returns-in-Neither-clause-gives
returns-in-Neither-clause-gives g c =
    lists_stray ((readers c.args.room).expression 1) (comma_of c.args.closer) (shut_of c.args.closer) (c.remaining-end.result - c.items.counter) (c.remaining-end.result - (c.items.counter + 1)) (map exp_of c.items.list.items) c.items.height (left c.args.tokens.now c.items.begin) (got (exp_of c.in_ok-item.item.tree) c.in_ok-item.item.height (left c.args.tokens.now c.in_ok-item.item.at)) _
    (one_less c.remaining-end.result c.items.counter c.items-test.true) c.in_ok-item.ensures.gives (sym c.in-Neither.ensures.value) c.items.invariant.same

pub items-preserved : goal.items-preserved
items-preserved g c =
    let hs : c.max-height.result ≡ max c.items.height c.in_ok-item.item.height = grind (arith, common_steps) in
    let ws : map exp_of c.push.new.self.items ≡ map exp_of c.items.list.items ++ exp_of c.in_ok-item.item.tree ∷ [] = ap (map exp_of) c.in_ok-push.ensures.items ∙ map_snoc exp_of c.items.list.items c.in_ok-item.item.tree in
    record {
      low = (let h = c.in_ok-item.ensures.low in let i = c.items.invariant.low in omega (arith, h, i, hs));
      same = rw (ws, hs) (lists_go ((readers c.args.room).expression 1) (comma_of c.args.closer) (shut_of c.args.closer) (c.remaining-end.result - c.items.counter) (c.remaining-end.result - (c.items.counter + 1)) (map exp_of c.items.list.items) c.items.height (left c.args.tokens.now c.items.begin) (left c.args.tokens.now c.in-More.at) (got (exp_of c.in_ok-item.item.tree) c.in_ok-item.item.height (left c.args.tokens.now c.in_ok-item.item.at)) _
          (one_less c.remaining-end.result c.items.counter c.items-test.true) c.in_ok-item.ensures.gives (sym c.in-More.ensures.value) c.items.invariant.same);
      placed = placed_more exp_names c.items.list.items c.push.new.self.items c.in_ok-item.item.tree _ _ _ c.in_ok-push.ensures.items c.items.invariant.placed (c.in_ok-item.ensures.places ∙ ap (λ z. exp_names c.in_ok-item.item.tree ++ z) c.in-More.ensures.names);
    }

pub returns-clause-gives : goal.returns-clause-gives
returns-clause-gives g c =
    let over : c.remaining-end.result - c.items.counter ≡ 0 = (let u = c.items-test.false in omega (arith, u)) in
    lists_out ((readers c.args.room).expression 1) (comma_of c.args.closer) (shut_of c.args.closer) (c.remaining-end.result - c.items.counter) (map exp_of c.items.list.items) c.items.height (left c.args.tokens.now c.items.begin) _ over c.items.invariant.same

pub returns-in-End-clause-places : goal.returns-in-End-clause-places
returns-in-End-clause-places g c =
    placed_more exp_names c.items.list.items c.push.new.self.items c.in_ok-item.item.tree _ _ _ c.in_ok-push.ensures.items c.items.invariant.placed (c.in_ok-item.ensures.places ∙ ap (λ z. exp_names c.in_ok-item.item.tree ++ z) c.in-End.ensures.names)
