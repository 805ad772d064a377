-- How many levels are left.
use Rattle.std.specs.Prelude.{ℕ, zero, suc}
use Rattle.hog_parser.specs.declared.room.Room.{Room, Out, More'}

abbrev pub rooms : Room → ℕ
rooms Out = 0
rooms (More' p r) = suc (rooms r)
