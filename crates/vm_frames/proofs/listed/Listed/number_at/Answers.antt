use Rattle.std.proofs.Common.{◌≡◌, ◌≢◌, Some, None, List, sym, ap, ◌∙◌, arith}
use Rattle.std.proofs.lemmas.Option.{same_Some}
use Rattle.index_lists.specs.Lists.{nodes_of}
use Rattle.index_lists.proofs.Walk.{walk-step, walk-shrinks, walk-Contains}
use Rattle.vm_frames.specs.declared.upvalues.Upvalue.{Upvalue}
use Rattle.vm_frames.specs.Order.{open_at, by_place, by_place-strict}
use Rattle.vm_frames.proofs.Found.{IsAbove, open-listed, none-at_end, none-behind}
use Rattle.vm_frames.proofs.Opening.{found-Some, found-None}
use Rattle.vm_frames.proofs.listed.Listed.number_at.Goals as goal

pub returns-then-p-place : goal.returns-then-p-place
returns-then-p-place c =
    let us = c.args.self.now.list.items in
    let here : open_at c.args.self.now.list.items c.in-Some.number ≡ Some c.in-Some-open_place.p = ap (λ (us : List Upvalue). open_at us c.in-Some.number) (sym c.as_slice.ensures.value) ∙ sym c.in-Some-open_place.ensures in
    let at : open_at c.args.self.now.list.items c.in-Some.number ≡ Some c.args.place = here ∙ ap Some c.if-p-place.true in
    sym (found-Some us c.in-Some.number c.args.place at (λ m also. c.requires.apart m c.in-Some.number c.args.place also at))

pub returns-then-p-place-2 : goal.returns-then-p-place-2
returns-then-p-place-2 c =
    let us = c.args.self.now.list.items in
    let here : open_at c.args.self.now.list.items c.in-Some.number ≡ Some c.in-Some-open_place.p = ap (λ (us : List Upvalue). open_at us c.in-Some.number) (sym c.as_slice.ensures.value) ∙ sym c.in-Some-open_place.ensures in
    sym (found-None us c.args.place (none-behind us c.args.self.now.open_ones c.requires c.args.place c.in-Some.number c.in-Some-open_place.p (rw c.in-Some.is at c.walk.invariant) here c.if-p-place-2.true))

pub returns-in-None : goal.returns-in-None
returns-in-None c =
    let us = c.args.self.now.list.items in
    let here : open_at c.args.self.now.list.items c.in-Some.number ≡ None = ap (λ (us : List Upvalue). open_at us c.in-Some.number) (sym c.as_slice.ensures.value) ∙ sym c.in-None.ensures in
    absurd (open-listed us c.args.self.now.open_ones c.requires c.in-Some.number
    (walk-Contains (nodes_of c.args.self.now.open_ones 0) (IsAbove us c.args.place) c.in-Some.number (rw c.in-Some.is at c.walk.invariant)) here)

pub walk-smaller : goal.walk-smaller
walk-smaller c = rw c.in-Some.is (walk-shrinks (by_place c.args.self.now.list.items) (by_place-strict c.args.self.now.list.items) (nodes_of c.args.self.now.open_ones 0) (IsAbove c.args.self.now.list.items c.args.place) c.in-Some.number c.next-at.result
    c.requires.open_list.in_order (rw c.in-Some.is at c.walk.invariant) (λ i at. c.next-at.ensures 0 i at))

pub walk-preserved : goal.walk-preserved
walk-preserved c =
    let here : open_at c.args.self.now.list.items c.in-Some.number ≡ Some c.in-Some-open_place.p = ap (λ (us : List Upvalue). open_at us c.in-Some.number) (sym c.as_slice.ensures.value) ∙ sym c.in-Some-open_place.ensures in
    walk-step (nodes_of c.args.self.now.open_ones 0) (IsAbove c.args.self.now.list.items c.args.place) c.in-Some.number c.next-at.result (rw c.in-Some.is at c.walk.invariant)
    (λ q at. let same : q ≡ c.in-Some-open_place.p = same_Some q c.in-Some-open_place.p (sym at ∙ here) in let ne : c.in-Some-open_place.p ≢ c.args.place = c.if-p-place.false in omega arith) (λ i at. c.next-at.ensures 0 i at)

pub returns : goal.returns
returns c = sym (found-None c.args.self.now.list.items c.args.place (none-at_end c.args.self.now.list.items c.args.self.now.open_ones c.requires c.args.place (rw c.in_default.is at c.walk.invariant)))
