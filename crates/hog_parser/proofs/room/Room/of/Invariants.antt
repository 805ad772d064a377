use Rattle.std.proofs.Common.{◌≡◌}
use Rattle.hog_parser.specs.Room.{rooms}
use Rattle.hog_parser.proofs.room.Room.of.Given as goal

abbrev pub invariant-loop : goal.invariant-loop
invariant-loop l = rooms l.room ≡ l.counter
