use Rattle.std.proofs.Common.{◌≡◌, ◌+◌, ◌-◌, true, max, refl, ap, ◌∙◌, arith}
use Rattle.std.proofs.lemmas.Grind.{common_steps}
use Rattle.std.proofs.lemmas.Result.{err_from_is_err_and}
use Rattle.hog_tree.specs.Plain.{Template, MoreText}
use Rattle.hog_tree.specs.View.{exp_of}
use Rattle.hog_reading.specs.Read.{got, grown}
use Rattle.hog_reading.specs.ReadStatements.{readers}
use Rattle.hog_terms.specs.View.{left, named_from}
use Rattle.hog_reading.specs.Gives.{followed}
use Rattle.hog_reading.proofs.Unfold.{template_found, followed_fails}
use Rattle.hog_reading.proofs.ListLoops.{one_less}
use Rattle.hog_reading.proofs.Placing.{placed_more}
use Rattle.hog_tree.specs.Names.{part_names}
use Rattle.hog_expressions.proofs.Placing.{template_placed}
use Rattle.hog_expressions.proofs.ExpressionLoops.{parts_text, parts_hole, parts_hole_fails, parts_end, parts_stray, parts_out}
use Rattle.hog_expressions.proofs.expressions.template.Goals.{in-Characters+in_ok-characters-in-Characters+in_ok-push-in-Characters, in-Hole+in_ok-part-in-Hole+in_ok-push-in-Hole}
use Rattle.hog_expressions.proofs.expressions.template.Goals as goal

pub returns-in_err-part-in-Hole-clause-gives : goal.returns-in_err-part-in-Hole-clause-gives
returns-in_err-part-in-Hole-clause-gives g c =
    let p = err_from_is_err_and c.from_residual-in_err-part-in-Hole.result c.from_residual-in_err-part-in-Hole.ensures.1 in
    rw (p.1, p.2) (followed_fails c.args.tokens.now c.in_err-part-in-Hole.field-0.0 _ (grown Template) (parts_hole_fails c.args.tokens.now c.in_err-part-in-Hole.field-0.0 ((readers c.args.room).expression 1) (c.remaining-end.result - c.parts.counter) (c.remaining-end.result - (c.parts.counter + 1)) c.parts.list.items c.parts.height (left c.args.tokens.now c.parts.begin) (left c.args.tokens.now c.in-Hole.after) _
    (one_less c.remaining-end.result c.parts.counter c.parts-test.true) c.in-Hole.ensures.value c.in_err-part-in-Hole.ensures.gives c.parts.invariant.same))

pub returns-in-End-clause-gives : goal.returns-in-End-clause-gives
returns-in-End-clause-gives g c =
    template_found _ (record { list = c.parts.list }) c.parts.height (left c.args.tokens.now c.in-End.after) (parts_end ((readers c.args.room).expression 1) (c.remaining-end.result - c.parts.counter) (c.remaining-end.result - (c.parts.counter + 1)) c.parts.list.items c.parts.height (left c.args.tokens.now c.parts.begin) (left c.args.tokens.now c.in-End.after) _
    (one_less c.remaining-end.result c.parts.counter c.parts-test.true) c.in-End.ensures.value c.parts.invariant.same)

pub returns-in-Neither-clause-gives : goal.returns-in-Neither-clause-gives
returns-in-Neither-clause-gives g c =
    ap (λ r. followed r (grown Template)) (parts_stray ((readers c.args.room).expression 1) (c.remaining-end.result - c.parts.counter) (c.remaining-end.result - (c.parts.counter + 1)) c.parts.list.items c.parts.height (left c.args.tokens.now c.parts.begin) _
    (one_less c.remaining-end.result c.parts.counter c.parts-test.true) c.in-Neither.ensures.value c.parts.invariant.same)

pub parts-preserved : goal.parts-preserved
parts-preserved g c = elim c.match-part_at.branch [
  | in-Characters+in_ok-characters-in-Characters+in_ok-push-in-Characters w ↦
      (let items = w.in_ok-push-in-Characters.ensures.items in
      let same_text = w.in_ok-characters-in-Characters.ensures in
      record {
        low = (let e = w.height-is in let i = c.parts.invariant.low in omega (arith, e, i));
        same = rw (w.list-is, w.height-is, w.begin-is, items) (parts_text ((readers c.args.room).expression 1) (c.remaining-end.result - c.parts.counter) (c.remaining-end.result - (c.parts.counter + 1)) c.parts.list.items c.parts.height (left c.args.tokens.now c.parts.begin) (left c.args.tokens.now w.in-Characters.after) _ _ _
            (one_less c.remaining-end.result c.parts.counter c.parts-test.true) w.in-Characters.ensures.value.0 (λ rs. ap (λ b. MoreText b rs) same_text) c.parts.invariant.same);
        placed = rw (w.list-is, w.begin-is) (placed_more part_names c.parts.list.items _ _ _ _ _ items c.parts.invariant.placed w.in-Characters.ensures.names);
      })
  | in-Hole+in_ok-part-in-Hole+in_ok-push-in-Hole w ↦
      (let items = w.in_ok-push-in-Hole.ensures.items in
      let hs : w.max-height.result ≡ max c.parts.height w.in_ok-part-in-Hole.part.height = grind (arith, common_steps) in
      record {
        low = (let e = w.height-is in let i = c.parts.invariant.low in let l = w.in_ok-part-in-Hole.ensures.low in omega (arith, e, i, l, hs));
        same = rw (w.list-is, w.height-is, w.begin-is, items, hs) (parts_hole ((readers c.args.room).expression 1) (c.remaining-end.result - c.parts.counter) (c.remaining-end.result - (c.parts.counter + 1)) c.parts.list.items c.parts.height (left c.args.tokens.now c.parts.begin) (left c.args.tokens.now w.in-Hole.after) (got (exp_of w.in_ok-part-in-Hole.part.tree) w.in_ok-part-in-Hole.part.height (left c.args.tokens.now w.in_ok-part-in-Hole.part.at)) _ _
            (one_less c.remaining-end.result c.parts.counter c.parts-test.true) w.in-Hole.ensures.value w.in_ok-part-in-Hole.ensures.gives (λ rs. refl) c.parts.invariant.same);
        placed = rw (w.list-is, w.begin-is) (placed_more part_names c.parts.list.items _ _ _ _ _ items c.parts.invariant.placed (w.in-Hole.ensures.names ∙ w.in_ok-part-in-Hole.ensures.places));
      })
]

pub returns-clause-gives : goal.returns-clause-gives
returns-clause-gives g c =
    let over : c.remaining-end.result - c.parts.counter ≡ 0 = (let u = c.parts-test.false in omega (arith, u)) in
    ap (λ r. followed r (grown Template)) (parts_out ((readers c.args.room).expression 1) (c.remaining-end.result - c.parts.counter) c.parts.list.items c.parts.height (left c.args.tokens.now c.parts.begin) _ over c.parts.invariant.same)

pub returns-in-End-clause-places : goal.returns-in-End-clause-places
returns-in-End-clause-places g c =
    template_placed (record { list = c.parts.list }) (named_from c.args.tokens.now c.args.at) (named_from c.args.tokens.now c.parts.begin) (named_from c.args.tokens.now c.in-End.after) c.parts.invariant.placed c.in-End.ensures.names
