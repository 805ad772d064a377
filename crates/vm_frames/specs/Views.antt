-- The machine's parts as those that contracts see.
use Rattle.vm_frames.specs.declared.upvalues.Upvalue as u
use Rattle.vm_frames.specs.declared.upvalues.Upvalue.TheVariants as up
use Rattle.vm_course.specs.State.{Upvalue, Opened, Closed}

abbrev pub upvalue_of : u.Upvalue → Upvalue
upvalue_of (up.Opened p) = Opened p
upvalue_of (up.Closed v) = Closed v
