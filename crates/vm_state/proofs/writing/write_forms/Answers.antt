use Rattle.std.proofs.Common.{map, ap, ◌∙◌, subst}
use Rattle.std.specs.Prelude.{IfSome}
use Rattle.std.specs.List.{AllByRecursion}
use Rattle.std.proofs.Common.{◌<◌, ◌^◌}
use Rattle.state_forms.specs.Shapes.{list, number_data, maybe_data}
use Rattle.state_forms.specs.Shown.{item_data}
use Rattle.state_forms.specs.Values.{cell_data, CellFits}
use Rattle.vm_state.proofs.Lending.{same_forms, lists_fit}
use Rattle.vm_state.proofs.writing.write_forms.Goals as goal

pub returns-clause-form : goal.returns-clause-form
returns-clause-form c =
    let m = c.args.m.now.run in
    same_forms m _ c.is_waiting.result c.stack.result.now c.around.result.now c.innermost.result c.throws.result.now c.upvalues.result.now c.shown-shown.result.now
    record {
      waits = c.is_waiting.ensures;
      stack_is = c.stack.ensures;
      inner_is = c.innermost.ensures;
      around_is = c.around.ensures;
      throws_are = c.throws.ensures;
      upvalues_are = c.upvalues.ensures;
      shown_is = c.shown-shown.ensures;
    }
    record {
      globals_form = c.in_ok-globals.ensures.form ∙ ap (maybe_data number_data) c.globals.ensures;
      end_form = c.in_ok-end.ensures;
      stack_form = c.in_ok-calls.ensures.stack;
      frames_form = c.in_ok-calls.ensures.frames;
      throws_form = c.in_ok-calls.ensures.throws;
      upvalues_form = c.in_ok-held.ensures.upvalues;
      heap_form = c.in_ok-held.ensures.heap ∙ ap (λ h. list (map cell_data h)) c.heap.ensures.cells;
      trace_form = c.in_ok-held.ensures.trace ∙ ap (λ xs. list (map item_data xs)) c.items.ensures;
    }

pub returns-clause-fits : goal.returns-clause-fits
returns-clause-fits c =
    let m = c.args.m.now.run in
    lists_fit m c.is_waiting.result c.stack.result.now c.around.result.now c.innermost.result c.throws.result.now c.upvalues.result.now c.shown-shown.result.now
    record {
      waits = c.is_waiting.ensures;
      stack_is = c.stack.ensures;
      inner_is = c.innermost.ensures;
      around_is = c.around.ensures;
      throws_are = c.throws.ensures;
      upvalues_are = c.upvalues.ensures;
      shown_is = c.shown-shown.ensures;
    }
    record {
      globals_fit = subst (λ o. IfSome o (λ n. n < 2 ^ 32)) c.globals.ensures c.in_ok-globals.ensures.ranged;
      stack_fit = c.in_ok-calls.ensures.stack_fits;
      frames_fit = c.in_ok-calls.ensures.frames_fit;
      throws_fit = c.in_ok-calls.ensures.throws_fit;
      upvalues_fit = c.in_ok-held.ensures.upvalues_fit;
      heap_fit = subst (AllByRecursion CellFits) c.heap.ensures.cells c.in_ok-held.ensures.heap_fits;
    }
