use Rattle.std.proofs.Common.{ap, refl, sym}
use Rattle.hog_ops.specs.View.{op_of}
use Rattle.hog_meaning.specs.World.{Fixed}
use Rattle.vm_operations.proofs.Landing.{on_ok}
use Rattle.vm_operations.proofs.state.State.perform.Goals as goal

pub string-requires : goal.string-requires
string-requires c = c.requires.known c.in-Str.text (ap op_of c.in-Str.is)

pub returns-in-Str : goal.returns-in-Str
returns-in-Str c =
    let code = c.args.table.now in
    let fixed : Fixed = record { literals = code.literals; globals = c.args.globals } in
    rw c.in-Str.is (on_ok c.string.result (λ is. is fixed code.slots (sym (c.requires.literal c.in-Str.text (ap op_of c.in-Str.is)))) c.string.ensures)

pub returns-in-GetGlobal : goal.returns-in-GetGlobal
returns-in-GetGlobal c =
    let code = c.args.table.now in
    let fixed : Fixed = record { literals = code.literals; globals = c.args.globals } in
    rw c.in-GetGlobal.is (on_ok c.get_global.result (λ is. is fixed code.slots refl) c.get_global.ensures)

pub returns-in-Not : goal.returns-in-Not
returns-in-Not c =
    let code = c.args.table.now in
    let fixed : Fixed = record { literals = code.literals; globals = c.args.globals } in
    rw c.in-Not.is (on_ok c.not.result (λ is. is fixed code.slots) c.not.ensures)

pub returns-in-And : goal.returns-in-And
returns-in-And c =
    let code = c.args.table.now in
    let fixed : Fixed = record { literals = code.literals; globals = c.args.globals } in
    rw c.in-And.is (on_ok c.and.result (λ is. is fixed code.slots) c.and.ensures)

pub returns-in-Or : goal.returns-in-Or
returns-in-Or c =
    let code = c.args.table.now in
    let fixed : Fixed = record { literals = code.literals; globals = c.args.globals } in
    rw c.in-Or.is (on_ok c.or.result (λ is. is fixed code.slots) c.or.ensures)
