use Rattle.std.proofs.Common.{◌≡◌, length, arith}
use Rattle.vm_frames.proofs.Adding.{pushed-below, roomy-added}
use Rattle.vm_frames.proofs.listed.Listed.add.Goals as goal

pub note-requires-clause-before : goal.note-requires-clause-before
note-requires-clause-before c =
    let count : c.len-number.result ≡ length c.args.self.now.list.items = omega (arith, c.len-number.ensures, c.args.self.now.list.ok.0) in
    pushed-below c.args.self.now.list.items c.push_reserved.new.self.items c.as_slice.result.now c.args.upvalue c.args.self.now.open_ones c.len-number.result c.requires.room.kept count c.push_reserved.ensures.items c.as_slice.ensures.value

pub returns-clause-room : goal.returns-clause-room
returns-clause-room c =
    let count : c.len-number.result ≡ length c.args.self.now.list.items = omega (arith, c.len-number.ensures, c.args.self.now.list.ok.0) in
    roomy-added c.args.self.now (record { list = c.push_reserved.new.self; open_ones = c.note.new.open_ones }) c.args.upvalue c.as_slice.result.now c.len-number.result count c.push_reserved.ensures.items c.as_slice.ensures.value
    c.note.ensures.with_it c.requires.apart c.note.ensures.reserved c.push_reserved.ensures.capacity
