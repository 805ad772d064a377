use Rattle.std.proofs.Common.{rules, arith, sym, ap, subst, ◌∙◌, length, ◌++◌, ◌<◌, string_bytes, ◌≡◌, ◌∷◌}
use Rattle.std.specs.List.{join_by}
use Rattle.std.proofs.lemmas.Grind.{common_steps}
use Rattle.hog_library.specs.Texts.{pieces, replaced}
use Rattle.hog_library.proofs.Pieces.{replaced_more, longer_still}
use Rattle.hog_library.proofs.texts.replaced.Goals as goal

pub returns-in_err-put-2-clause-spent : goal.returns-in_err-put-2-clause-spent
unfolding replaced
returns-in_err-put-2-clause-spent c =
    let made = string_bytes c.loop-piece.made in
    let piece = c.in-Some.piece.now in
    let to = c.args.to.now in
    let cut : pieces c.args.from.now c.loop-piece.rest.now ≡ piece ∷ pieces c.args.from.now c.in-Some.behind.now =
    subst (λ f. pieces f c.loop-piece.rest.now ≡ piece ∷ pieces f c.in-Some.behind.now) c.as_str.ensures c.in-Some.ensures.some in
    let more = replaced_more _ made to piece _ _ _ c.loop-piece.invariant.so_far cut in
    λ is.
    let long : c.args.units < length ((made ++ piece) ++ to) = grind (arith, common_steps, c.put-in-Some.ensures.spent) in
    longer_still _ ((made ++ piece) ++ to) _ _ more long

pub loop-piece-preserved : goal.loop-piece-preserved
loop-piece-preserved c =
    let made = string_bytes c.loop-piece.made in
    let piece = c.in-Some.piece.now in
    let to = c.args.to.now in
    let cut : pieces c.args.from.now c.loop-piece.rest.now ≡ piece ∷ pieces c.args.from.now c.in-Some.behind.now =
    subst (λ f. pieces f c.loop-piece.rest.now ≡ piece ∷ pieces f c.in-Some.behind.now) c.as_str.ensures c.in-Some.ensures.some in
    let more = replaced_more _ made to piece _ _ _ c.loop-piece.invariant.so_far cut in
    let now : string_bytes c.put-in-Some.new.text ≡ (made ++ piece) ++ to = cc (c.in_ok-put-2.ensures.ok, c.in_ok-put.ensures.ok) in
    record {
      so_far = more ∙ ap (λ t. t ++ join_by (λ x. x) to (pieces c.args.from.now c.in-Some.behind.now)) (sym now);
      fits = c.put-in-Some.ensures.fits;
      text = search rules;
    }
