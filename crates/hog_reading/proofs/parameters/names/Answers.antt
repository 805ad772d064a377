use Rattle.std.proofs.Common.{◌≡◌, ◌+◌, ◌-◌, ◌++◌, false, [], ◌∷◌, length, Some, None, sym, ap, ◌∙◌, arith}
use Rattle.std.proofs.lemmas.Grind.{common_steps}
use Rattle.hog_tree.specs.View.{word_of, words_of}
use Rattle.hog_reading.specs.declared.found.Stop.TheVariants as s
use Rattle.hog_terms.specs.Marks.{after_close, after_name}
use Rattle.hog_reading.specs.Read.{got, name}
use Rattle.hog_terms.specs.View.{left, named_from}
use Rattle.hog_reading.proofs.ListLoops.{lists_begin, lists_empty, lists_go, lists_end, lists_stray, lists_fail, lists_out, name_none, name_some, map_snoc, one_less}
use Rattle.hog_reading.proofs.Placing.{placed_name}
use Rattle.hog_reading.proofs.parameters.names.Goals as goal

pub returns-in-Some-clause-gives : goal.returns-in-Some-clause-gives
returns-in-Some-clause-gives c =
    let none : words_of c.new.result ≡ [] = ap words_of (c.new.ensures ∙ c.new-list.ensures.items) in
    rw none (lists_empty name false after_close (left c.args.tokens.now c.args.at) (left c.args.tokens.now c.in-Some.at) (sym c.in-Some.ensures.value))

pub items-init : goal.items-init
items-init c =
    let e : c.remaining-end.result - 0 ≡ length (left c.args.tokens.now c.args.at) = (let v = c.remaining-end.ensures.value in omega (arith, v)) in
    let none : words_of c.new-list.result.items ≡ [] = ap words_of c.new-list.ensures.items in
    record {
      same = rw (e, none) (lists_begin name false after_close (left c.args.tokens.now c.args.at) (sym c.in_default.ensures.value));
      placed = sym (ap (λ xs. xs ++ named_from c.args.tokens.now c.args.at) c.new-list.ensures.items);
    }

pub returns-in_default-2-clause-gives : goal.returns-in_default-2-clause-gives
returns-in_default-2-clause-gives c =
    let stray : after_name (left c.args.tokens.now c.items.begin) ≡ None = grind (arith, common_steps) in
    lists_fail name false after_close c.args.tokens.now (s.Syntax 0) (c.remaining-end.result - c.items.counter) (c.remaining-end.result - (c.items.counter + 1)) (words_of c.items.list.items) 0 (left c.args.tokens.now c.items.begin) _
    (one_less c.remaining-end.result c.items.counter c.items-test.true) (name_none (left c.args.tokens.now c.items.begin) stray) c.items.invariant.same

pub returns-in-End-clause-gives : goal.returns-in-End-clause-gives
returns-in-End-clause-gives c =
    let found : after_name (left c.args.tokens.now c.items.begin) ≡ Some (c.in-Some-2.word.word, left c.args.tokens.now c.in-Some-2.after) = grind (arith, common_steps) in
    let ws : words_of c.new-in-End.result ≡ words_of c.items.list.items ++ c.in-Some-2.word.word ∷ [] = ap words_of (c.new-in-End.ensures ∙ c.in_ok-push.ensures.items) ∙ map_snoc word_of c.items.list.items c.in-Some-2.word in
    rw ws (lists_end name false after_close (c.remaining-end.result - c.items.counter) (c.remaining-end.result - (c.items.counter + 1)) (words_of c.items.list.items) 0 (left c.args.tokens.now c.items.begin) (left c.args.tokens.now c.in-End.at) (got c.in-Some-2.word.word 0 (left c.args.tokens.now c.in-Some-2.after)) _
    (one_less c.remaining-end.result c.items.counter c.items-test.true) (name_some _ _ _ found) (sym c.in-End.ensures.value) c.items.invariant.same)

pub returns-in-Neither-clause-gives : goal.returns-in-Neither-clause-gives
returns-in-Neither-clause-gives c =
    let found : after_name (left c.args.tokens.now c.items.begin) ≡ Some (c.in-Some-2.word.word, left c.args.tokens.now c.in-Some-2.after) = grind (arith, common_steps) in
    lists_stray name false after_close (c.remaining-end.result - c.items.counter) (c.remaining-end.result - (c.items.counter + 1)) (words_of c.items.list.items) 0 (left c.args.tokens.now c.items.begin) (got c.in-Some-2.word.word 0 (left c.args.tokens.now c.in-Some-2.after)) _
    (one_less c.remaining-end.result c.items.counter c.items-test.true) (name_some _ _ _ found) (sym c.in-Neither.ensures.value) c.items.invariant.same

pub items-preserved : goal.items-preserved
items-preserved c =
    let found : after_name (left c.args.tokens.now c.items.begin) ≡ Some (c.in-Some-2.word.word, left c.args.tokens.now c.in-Some-2.after) = grind (arith, common_steps) in
    let ws : words_of c.push.new.self.items ≡ words_of c.items.list.items ++ c.in-Some-2.word.word ∷ [] = ap words_of c.in_ok-push.ensures.items ∙ map_snoc word_of c.items.list.items c.in-Some-2.word in
    record {
      same = rw ws (lists_go name false after_close (c.remaining-end.result - c.items.counter) (c.remaining-end.result - (c.items.counter + 1)) (words_of c.items.list.items) 0 (left c.args.tokens.now c.items.begin) (left c.args.tokens.now c.in-More.at) (got c.in-Some-2.word.word 0 (left c.args.tokens.now c.in-Some-2.after)) _
          (one_less c.remaining-end.result c.items.counter c.items-test.true) (name_some _ _ _ found) (sym c.in-More.ensures.value) c.items.invariant.same);
      placed = placed_name c.items.list.items c.push.new.self.items c.in-Some-2.word _ _ _ c.in_ok-push.ensures.items c.items.invariant.placed (grind (arith, common_steps));
    }

pub returns-clause-gives : goal.returns-clause-gives
returns-clause-gives c =
    let over : c.remaining-end.result - c.items.counter ≡ 0 = (let t = c.items-test.false in omega (arith, t)) in
    lists_out name false after_close (c.remaining-end.result - c.items.counter) (words_of c.items.list.items) 0 (left c.args.tokens.now c.items.begin) _ over c.items.invariant.same
