use Rattle.std.proofs.Common.{◌≡◌, length}
use Rattle.hog_captures.specs.Frames.{with_hidden}
use Rattle.hog_captures.proofs.frame.Frame.hide.Given as goal

abbrev pub invariant-loop : goal.invariant-loop
invariant-loop l = record {
  hidden : l.self ≡ with_hidden l.counter l.fn.self;
  base : l.before ≡ length l.fn.self.locals;
}
