use Rattle.std.proofs.Common.{sym}
use Rattle.hog_library.proofs.Days.{sum_far}
use Rattle.hog_library.proofs.date_natives.day_later.Goals as goal

pub returns-in-Err : goal.returns-in-Err
returns-in-Err c = sym (sum_far _ _ c.args.day c.args.days c.from.ensures c.from-2.ensures c.ranges.day c.ranges.days c.in-Err.ensures)
