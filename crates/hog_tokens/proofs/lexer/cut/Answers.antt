use Rattle.std.proofs.Common.{◌≡◌, ℕ, List, Some, None, Option, refl, sym, ap, ◌∙◌, subst, arith}
use Rattle.std.proofs.lemmas.Grind.{common_steps}
use Rattle.hog_grammar.specs.declared.token.Fault.{Fault}
use Rattle.hog_grammar.specs.declared.token.Fault.TheVariants.{BadByte, Unclosed, TooLarge}
use Rattle.hog_grammar.specs.Faults.{IsFirstFault}
use Rattle.hog_tokens.specs.declared.lexer.LexStop.{LexStop}
use Rattle.hog_tokens.specs.Reading.{begin, spot_of}
use Rattle.hog_tokens.specs.View.{begun_of, stop_of, TellsFault}
use Rattle.hog_tokens.proofs.Cutting.{IsRead, piece_more, all_read, first_is, open_is, same_read, Chosen, chosen_outside, chosen_inside}
use Rattle.hog_tokens.proofs.Bounds.{shorter, fault_inside, few_braces, not_longer}
use Rattle.hog_tokens.proofs.lexer.cut.Goals as goal
use Rattle.hog_tokens.proofs.lexer.cut.Goals.{then-outside+in_default+else-is_empty, else-outside, In-Some-begin, After-begin}

tells : (text : List ℕ) (f : Fault) (at : ℕ) (stop : LexStop) → stop ≡ stop_of f at → IsFirstFault text f at → TellsFault text stop
tells text BadByte at stop e h = subst (TellsFault text) (sym e) h
tells text Unclosed at stop e h = subst (TellsFault text) (sym e) h
tells text TooLarge at stop e h = subst (TellsFault text) (sym e) h

pub overflow_sub-at : goal.overflow_sub-at
overflow_sub-at c = not_longer _ _ _ _ _ _ c.pieces.invariant

pub returns-in-Some-clause-fault : goal.returns-in-Some-clause-fault
returns-in-Some-clause-fault c =
    let r : IsRead c.args.text.now c.pieces.place c.pieces.rest.now c.pieces.start (Some (c.in-Some.fault, c.in-Some.at)) c.pieces.list.items = subst (λ (z : Option (Fault × ℕ)). IsRead c.args.text.now c.pieces.place c.pieces.rest.now c.pieces.start z c.pieces.list.items) c.in-Some.is c.pieces.invariant in
    tells c.args.text.now c.in-Some.fault c.in-Some.at c.stop.result c.stop.ensures (first_is _ _ _ _ _ _ _ r (sym c.if-outside.ensures))

pub returns-then-is_empty-clause-tokens : goal.returns-then-is_empty-clause-tokens
returns-then-is_empty-clause-tokens c =
    let r : IsRead c.args.text.now c.pieces.place c.pieces.rest.now c.pieces.start None c.pieces.list.items = subst (λ (z : Option (Fault × ℕ)). IsRead c.args.text.now c.pieces.place c.pieces.rest.now c.pieces.start z c.pieces.list.items) c.in_default.is c.pieces.invariant in
    all_read _ _ _ _ _ c.requires.utf8 r (sym c.if-outside.ensures) (grind (arith, common_steps))

chosen : (c : After-begin) → Chosen c.args.text.now c.pieces.place c.pieces.rest.now c.pieces.start c.if-outside.start c.pieces.found
chosen c = elim c.if-outside.branch [
  | then-outside+in_default+else-is_empty w ↦ chosen_outside _ _ _ _ _ _ (sym w.if-outside.ensures) w.in_default.is (grind (arith, common_steps)) w.start-is
  | else-outside w ↦ chosen_inside _ _ _ _ _ _ (sym w.if-outside.ensures) w.start-is
]

pub returns-in_default-begin-clause-fault : goal.returns-in_default-begin-clause-fault
returns-in_default-begin-clause-fault c =
    let x = chosen (goal.at.returns-in_default-begin-clause-fault c).After-begin in
    open_is _ _ _ _ _ _ _ _ c.pieces.invariant (ap (λ z. begin z c.pieces.rest.now) (sym c.spot.ensures) ∙ sym c.in_default-begin.ensures) refl x.clean x.some x.at

begun_is : (c : In-Some-begin) → begin (spot_of c.pieces.place) c.pieces.rest.now ≡ Some (begun_of c.in-Some-begin.piece)
begun_is c = ap (λ z. begin z c.pieces.rest.now) (sym c.spot.ensures) ∙ sym c.in-Some-begin.ensures

pub first_fault-found-requires : goal.first_fault-found-requires
first_fault-found-requires c = λ x is.
    let inside = fault_inside c.pieces.place c.pieces.rest.now (begun_of c.in-Some-begin.piece) x.0 x.1 (begun_is c) is in
    let longer = not_longer _ _ _ _ _ _ c.pieces.invariant in
    omega (arith, inside, longer, c.requires.short)

pub overflow_sub-text : goal.overflow_sub-text
overflow_sub-text c =
    let less = shorter c.pieces.place c.pieces.rest.now (begun_of c.in-Some-begin.piece) (begun_is (goal.at.overflow_sub-text c).In-Some-begin) in
    let longer = not_longer _ _ _ _ _ _ c.pieces.invariant in
    omega (arith, less, longer)

pub go-requires : goal.go-requires
go-requires c = let few = few_braces _ _ _ _ _ _ c.pieces.invariant in omega (arith, few, c.requires.short)

pub pieces-smaller : goal.pieces-smaller
pieces-smaller c = shorter c.pieces.place c.pieces.rest.now (begun_of c.in-Some-begin.piece) (begun_is (goal.at.pieces-smaller c).In-Some-begin)

pub pieces-preserved : goal.pieces-preserved
pieces-preserved c =
    let x = chosen (goal.at.pieces-preserved c).After-begin in
    same_read _ _ _ _ _ _ _ _ _ c.in_ok-go.ensures c.first_fault-found.ensures c.in_ok-add.ensures
    (piece_more _ _ _ _ _ _ _ (begun_of c.in-Some-begin.piece) _ _ c.pieces.invariant (begun_is (goal.at.pieces-preserved c).In-Some-begin) x.clean x.at refl refl)
