use Rattle.std.proofs.Common.{◌≡◌, Some, take}
use Rattle.event_reader.specs.Gathering.{left}
use Rattle.event_reader.specs.Plans.{bodies_size}
use Rattle.event_reader.proofs.gather.room_behind_bodies.Given as goal

-- so much is left behind the bodies up to this one
abbrev pub invariant-loop-reply : goal.invariant-loop-reply
invariant-loop-reply l = left l.room (bodies_size (take l.reply-index l.replies)) ≡ Some l.rest
