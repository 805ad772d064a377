use Rattle.std.proofs.Common.{◌≡◌, map, ap, sym, ◌∙◌, Some, [], ◌∷◌, ◌++◌, take, subst}
use Rattle.std.proofs.lemmas.List.{take_more, map-append}
use Rattle.serde_json.specs.View.{view}
use Rattle.std.specs.List.{AllByRecursion}
use Rattle.vm_frames.specs.Views.{upvalue_of}
use Rattle.state_forms.specs.Shapes.{each}
use Rattle.state_forms.specs.Calls.{upvalue_in, UpvalueFits}
use Rattle.state_forms.proofs.Lists.{each_push, each_fails, all_push}
use Rattle.state_forms.proofs.upvalues.read_all_upvalues.Goals as goal

pub returns-in-Err-clause-gives : goal.returns-in-Err-clause-gives
returns-in-Err-clause-gives c = each_fails c.in-Err.e upvalue_in view c.args.items.now c.loop-item.item-index c.item-item.result c.loop-item-test.true c.item-item.is c.in-Err.ensures.gives

pub loop-item-preserved : goal.loop-item-preserved
loop-item-preserved c =
    let xs = c.args.items.now in
    let i = c.loop-item.item-index in
    let x = c.item-item.result in
    let more = take_more xs i x c.loop-item-test.true ∙ ap (λ y. take i xs ++ y ∷ []) (sym c.item-item.is) in
    let put : map upvalue_of c.push.new.self.items ≡ map upvalue_of c.loop-item.found.items ++ upvalue_of c.in-Ok.u ∷ [] = ap (map upvalue_of) c.in_ok-push-in-Ok.ensures.items ∙ map-append upvalue_of c.loop-item.found.items (c.in-Ok.u ∷ []) in (
      ap (λ ys. each upvalue_in (map view ys)) more
          ∙ each_push upvalue_in view (take i xs) (map upvalue_of c.loop-item.found.items) x (upvalue_of c.in-Ok.u) c.loop-item.invariant.0 c.in-Ok.ensures.gives
          ∙ ap Some (sym put),
      subst (AllByRecursion UpvalueFits) (sym put) (all_push UpvalueFits (map upvalue_of c.loop-item.found.items) (upvalue_of c.in-Ok.u) c.loop-item.invariant.1 c.in-Ok.ensures.ranged),
    )
