use Rattle.std.proofs.Common.{◌≡◌, ◌+◌, map, take, get_or, [], ◌∷◌, ◌++◌, sym, ap, ◌∙◌, subst}
use Rattle.std.proofs.lemmas.List.{take_more, map-append}
use Rattle.std.specs.List.{AllByRecursion}
use Rattle.serde_json.specs.View.{view}
use Rattle.vm_frames.specs.declared.upvalues.Upvalue.TheVariants.{Opened}
use Rattle.vm_frames.specs.Views.{upvalue_of}
use Rattle.state_forms.specs.Calls.{upvalue_data, UpvalueFits}
use Rattle.state_forms.proofs.Lists.{one_more, all_push}
use Rattle.state_forms.proofs.upvalues.write_upvalues.Goals as goal

pub loop-upvalue-preserved : goal.loop-upvalue-preserved
loop-upvalue-preserved c =
    let xs = c.args.upvalues.now in
    let i = c.loop-upvalue.upvalue-index in
    let x = get_or xs i (Opened 0) in
    let seen = map upvalue_of (take i xs) in
    let more : map upvalue_of (take (i + 1) xs) ≡ seen ++ upvalue_of x ∷ [] =
    ap (map upvalue_of) (take_more xs i (Opened 0) c.loop-upvalue-test.true) ∙ map-append upvalue_of (take i xs) (x ∷ []) in record {
      form =
          ap (map view) c.in_ok-push.ensures.items
          ∙ one_more view upvalue_data c.loop-upvalue.written.items seen c.in_ok-write_upvalue.field-0 (upvalue_of x) c.loop-upvalue.invariant.form c.in_ok-write_upvalue.ensures.form
          ∙ ap (map upvalue_data) (sym more);
      ranged = subst (AllByRecursion UpvalueFits) (sym more) (all_push UpvalueFits seen (upvalue_of x) c.loop-upvalue.invariant.ranged c.in_ok-write_upvalue.ensures.ranged);
    }
