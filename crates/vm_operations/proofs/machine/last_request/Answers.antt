use Rattle.std.proofs.Common.{◌≡◌, Some, None, ap, sym, ◌∙◌}
use Rattle.std.specs.Prelude.{option_and_then}
use Rattle.std.specs.List.{last_or}
use Rattle.vm_operations.specs.Machine.{request_of}
use Rattle.vm_operations.proofs.Waits.{last_is}
use Rattle.vm_operations.proofs.machine.last_request.Goals as goal

pub returns-in-Some-Asked : goal.returns-in-Some-Asked
returns-in-Some-Asked c =
    ap (option_and_then request_of)
    (ap Some (sym c.in-Some-Asked.field-0-is) ∙ c.in-Some-Asked.ensures.value ∙ last_is c.items.result.now ∙ ap (last_or None) c.items.ensures)

pub returns-in-Some-Printed : goal.returns-in-Some-Printed
returns-in-Some-Printed c =
    ap (option_and_then request_of)
    (ap Some (sym c.in-Some-Printed.field-0-is) ∙ c.in-Some-Printed.ensures.value ∙ last_is c.items.result.now ∙ ap (last_or None) c.items.ensures)
