use Rattle.std.proofs.Common.{◌≡◌, ◌+◌, ◌-◌, ◌++◌, true, max, map, [], ◌∷◌, length, sym, ap, ◌∙◌, arith}
use Rattle.std.proofs.lemmas.Grind.{common_steps}
use Rattle.std.specs.List.{flat_map}
use Rattle.hog_reading.specs.NamesOf.{entry_names}
use Rattle.std.proofs.lemmas.Result.{err_from_is_err_and}
use Rattle.hog_tree.specs.declared.tree.ArrowBody.TheViews.{out-roll-DictItems}
use Rattle.hog_terms.specs.Marks.{after_close_brace}
use Rattle.hog_reading.specs.Read.{got, entry}
use Rattle.hog_reading.specs.ReadStatements.{readers}
use Rattle.hog_terms.specs.View.{left, named_from}
use Rattle.hog_reading.specs.Gives.{entry_of}
use Rattle.hog_reading.proofs.ListLoops.{lists_begin, lists_empty, lists_go, lists_end, lists_stray, lists_fail, lists_out, map_snoc, one_less}
use Rattle.hog_reading.proofs.Placing.{placed_more}
use Rattle.hog_expressions.proofs.expressions.entries.Goals as goal

pub returns-in-Some-clause-gives : goal.returns-in-Some-clause-gives
returns-in-Some-clause-gives g c =
    let none : map entry_of c.new-list.result.items ≡ [] = ap (map entry_of) c.new-list.ensures.items in
    rw (out-roll-DictItems, none) (lists_empty (entry ((readers c.args.room).expression 1)) (true) (after_close_brace) (left c.args.tokens.now c.args.at) (left c.args.tokens.now c.in-Some.at) (sym c.in-Some.ensures.value))

pub items-init : goal.items-init
items-init g c =
    let e : c.remaining-end.result - 0 ≡ length (left c.args.tokens.now c.args.at) = (let v = c.remaining-end.ensures.value in omega (arith, v)) in
    let none : map entry_of c.new-list.result.items ≡ [] = ap (map entry_of) c.new-list.ensures.items in
    record {
      low = omega arith;
      same = rw (e, none) (lists_begin (entry ((readers c.args.room).expression 1)) (true) (after_close_brace) (left c.args.tokens.now c.args.at) (sym c.in_default.ensures.value));
      placed = sym (ap (λ xs. flat_map entry_names xs ++ named_from c.args.tokens.now c.args.at) c.new-list.ensures.items);
    }

pub returns-in_err-found-clause-gives : goal.returns-in_err-found-clause-gives
returns-in_err-found-clause-gives g c =
    let p = err_from_is_err_and c.from_residual.result c.from_residual.ensures.1 in
    rw (p.1, p.2) (lists_fail (entry ((readers c.args.room).expression 1)) (true) (after_close_brace) c.args.tokens.now c.in_err-found.field-0.0 (c.remaining-end.result - c.items.counter) (c.remaining-end.result - (c.items.counter + 1)) (map entry_of c.items.list.items) c.items.height (left c.args.tokens.now c.items.begin) _
    (one_less c.remaining-end.result c.items.counter c.items-test.true) c.in_err-found.ensures.gives c.items.invariant.same)

pub returns-in-End-clause-gives : goal.returns-in-End-clause-gives
returns-in-End-clause-gives g c =
    let hs : c.max-height.result ≡ max c.items.height c.in_ok-found.found.height = grind (arith, common_steps) in
    let ws : map entry_of c.push.new.self.items ≡ map entry_of c.items.list.items ++ entry_of c.in_ok-found.found.tree ∷ [] = ap (map entry_of) c.in_ok-push.ensures.items ∙ map_snoc entry_of c.items.list.items c.in_ok-found.found.tree in
    rw (out-roll-DictItems, ws, hs) (lists_end (entry ((readers c.args.room).expression 1)) (true) (after_close_brace) (c.remaining-end.result - c.items.counter) (c.remaining-end.result - (c.items.counter + 1)) (map entry_of c.items.list.items) c.items.height (left c.args.tokens.now c.items.begin) (left c.args.tokens.now c.in-End.at) (got (entry_of c.in_ok-found.found.tree) c.in_ok-found.found.height (left c.args.tokens.now c.in_ok-found.found.at)) _
    (one_less c.remaining-end.result c.items.counter c.items-test.true) c.in_ok-found.ensures.gives (sym c.in-End.ensures.value) c.items.invariant.same)

pub returns-in-Neither-clause-gives : goal.returns-in-Neither-clause-gives
returns-in-Neither-clause-gives g c =
    lists_stray (entry ((readers c.args.room).expression 1)) (true) (after_close_brace) (c.remaining-end.result - c.items.counter) (c.remaining-end.result - (c.items.counter + 1)) (map entry_of c.items.list.items) c.items.height (left c.args.tokens.now c.items.begin) (got (entry_of c.in_ok-found.found.tree) c.in_ok-found.found.height (left c.args.tokens.now c.in_ok-found.found.at)) _
    (one_less c.remaining-end.result c.items.counter c.items-test.true) c.in_ok-found.ensures.gives (sym c.in-Neither.ensures.value) c.items.invariant.same

pub items-preserved : goal.items-preserved
items-preserved g c =
    let hs : c.max-height.result ≡ max c.items.height c.in_ok-found.found.height = grind (arith, common_steps) in
    let ws : map entry_of c.push.new.self.items ≡ map entry_of c.items.list.items ++ entry_of c.in_ok-found.found.tree ∷ [] = ap (map entry_of) c.in_ok-push.ensures.items ∙ map_snoc entry_of c.items.list.items c.in_ok-found.found.tree in
    record {
      low = (let h = c.in_ok-found.ensures.low in let i = c.items.invariant.low in omega (arith, h, i, hs));
      same = rw (ws, hs) (lists_go (entry ((readers c.args.room).expression 1)) (true) (after_close_brace) (c.remaining-end.result - c.items.counter) (c.remaining-end.result - (c.items.counter + 1)) (map entry_of c.items.list.items) c.items.height (left c.args.tokens.now c.items.begin) (left c.args.tokens.now c.in-More.at) (got (entry_of c.in_ok-found.found.tree) c.in_ok-found.found.height (left c.args.tokens.now c.in_ok-found.found.at)) _
          (one_less c.remaining-end.result c.items.counter c.items-test.true) c.in_ok-found.ensures.gives (sym c.in-More.ensures.value) c.items.invariant.same);
      placed = placed_more entry_names c.items.list.items c.push.new.self.items c.in_ok-found.found.tree _ _ _ c.in_ok-push.ensures.items c.items.invariant.placed (c.in_ok-found.ensures.places ∙ ap (λ z. entry_names c.in_ok-found.found.tree ++ z) c.in-More.ensures.names);
    }

pub returns-clause-gives : goal.returns-clause-gives
returns-clause-gives g c =
    let over : c.remaining-end.result - c.items.counter ≡ 0 = (let u = c.items-test.false in omega (arith, u)) in
    lists_out (entry ((readers c.args.room).expression 1)) (true) (after_close_brace) (c.remaining-end.result - c.items.counter) (map entry_of c.items.list.items) c.items.height (left c.args.tokens.now c.items.begin) _ over c.items.invariant.same

pub returns-in-End-clause-places : goal.returns-in-End-clause-places
returns-in-End-clause-places g c =
    rw out-roll-DictItems (placed_more entry_names c.items.list.items c.push.new.self.items c.in_ok-found.found.tree _ _ _ c.in_ok-push.ensures.items c.items.invariant.placed (c.in_ok-found.ensures.places ∙ ap (λ z. entry_names c.in_ok-found.found.tree ++ z) c.in-End.ensures.names))

pub returns-in-Some-clause-places : goal.returns-in-Some-clause-places
returns-in-Some-clause-places g c =
    rw out-roll-DictItems (c.in-Some.ensures.names ∙ sym (ap (λ xs. flat_map entry_names xs ++ named_from c.args.tokens.now c.in-Some.at) c.new-list.ensures.items))
