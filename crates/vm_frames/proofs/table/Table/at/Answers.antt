use Rattle.std.proofs.Common.{arith}
use Rattle.hog_ops.specs.View.{op_of}
use Rattle.vm_frames.proofs.Fitting.{opened, read, op_fits, ends_near, op_leads_near, has_extent, size_is, literal_is, literal_known}
use Rattle.vm_frames.proofs.table.Table.at.Goals as goal

pub overflow_cast-result : goal.overflow_cast-result
overflow_cast-result c =
    let keeps = opened _ c.args.self.now c.self.inside.extents.items c.self.view_is c.self.invariant in
    let begins = read c.args.self.now.slots c.args.place c.slot.result c.in-Some-Begins.field-0 c.in-Some-Begins.op c.slot.ensures c.in-Some-Begins.is c.in-Some-Begins.field-0-is in
    omega (arith, ends_near c.args.self.now c.self.inside.extents.items keeps c.args.place (op_of c.in-Some-Begins.op.now) begins, size_is c.args.self.now c.self.inside.extents.items keeps c.args.place (op_of c.in-Some-Begins.op.now) begins c.index-extent.result.now c.index-extent.ensures)

pub overflow_add-result : goal.overflow_add-result
overflow_add-result c =
    let keeps = opened _ c.args.self.now c.self.inside.extents.items c.self.view_is c.self.invariant in
    let begins = read c.args.self.now.slots c.args.place c.slot.result c.in-Some-Begins.field-0 c.in-Some-Begins.op c.slot.ensures c.in-Some-Begins.is c.in-Some-Begins.field-0-is in
    omega (arith, ends_near c.args.self.now c.self.inside.extents.items keeps c.args.place (op_of c.in-Some-Begins.op.now) begins, size_is c.args.self.now c.self.inside.extents.items keeps c.args.place (op_of c.in-Some-Begins.op.now) begins c.index-extent.result.now c.index-extent.ensures)

pub index-extent-requires : goal.index-extent-requires
index-extent-requires c =
    let keeps = opened _ c.args.self.now c.self.inside.extents.items c.self.view_is c.self.invariant in
    let begins = read c.args.self.now.slots c.args.place c.slot.result c.in-Some-Begins.field-0 c.in-Some-Begins.op c.slot.ensures c.in-Some-Begins.is c.in-Some-Begins.field-0-is in
    omega (arith, has_extent c.args.self.now c.self.inside.extents.items keeps c.args.place (op_of c.in-Some-Begins.op.now) begins)

pub returns-in-Some-Begins-clause-fits : goal.returns-in-Some-Begins-clause-fits
returns-in-Some-Begins-clause-fits c =
    let keeps = opened _ c.args.self.now c.self.inside.extents.items c.self.view_is c.self.invariant in
    let begins = read c.args.self.now.slots c.args.place c.slot.result c.in-Some-Begins.field-0 c.in-Some-Begins.op c.slot.ensures c.in-Some-Begins.is c.in-Some-Begins.field-0-is in
    rw (size_is c.args.self.now c.self.inside.extents.items keeps c.args.place (op_of c.in-Some-Begins.op.now) begins c.index-extent.result.now c.index-extent.ensures) (op_fits c.args.self.now c.self.inside.extents.items keeps c.args.place (op_of c.in-Some-Begins.op.now) begins)

pub returns-in-Some-Begins-clause-near : goal.returns-in-Some-Begins-clause-near
returns-in-Some-Begins-clause-near c =
    let keeps = opened _ c.args.self.now c.self.inside.extents.items c.self.view_is c.self.invariant in
    let begins = read c.args.self.now.slots c.args.place c.slot.result c.in-Some-Begins.field-0 c.in-Some-Begins.op c.slot.ensures c.in-Some-Begins.is c.in-Some-Begins.field-0-is in
    rw (size_is c.args.self.now c.self.inside.extents.items keeps c.args.place (op_of c.in-Some-Begins.op.now) begins c.index-extent.result.now c.index-extent.ensures) (op_leads_near c.args.self.now c.self.inside.extents.items keeps c.args.place (op_of c.in-Some-Begins.op.now) begins)

pub returns-in-Some-Begins-clause-literal : goal.returns-in-Some-Begins-clause-literal
returns-in-Some-Begins-clause-literal c =
    let keeps = opened _ c.args.self.now c.self.inside.extents.items c.self.view_is c.self.invariant in
    let begins = read c.args.self.now.slots c.args.place c.slot.result c.in-Some-Begins.field-0 c.in-Some-Begins.op c.slot.ensures c.in-Some-Begins.is c.in-Some-Begins.field-0-is in
    literal_is c.args.self.now c.self.inside.extents.items keeps c.args.place (op_of c.in-Some-Begins.op.now) begins c.index-extent.result.now c.index-extent.ensures

pub returns-in-Some-Begins-clause-known : goal.returns-in-Some-Begins-clause-known
returns-in-Some-Begins-clause-known c =
    let keeps = opened _ c.args.self.now c.self.inside.extents.items c.self.view_is c.self.invariant in
    let begins = read c.args.self.now.slots c.args.place c.slot.result c.in-Some-Begins.field-0 c.in-Some-Begins.op c.slot.ensures c.in-Some-Begins.is c.in-Some-Begins.field-0-is in
    literal_known c.args.self.now c.self.inside.extents.items keeps c.args.place (op_of c.in-Some-Begins.op.now) begins c.index-extent.result.now c.index-extent.ensures
