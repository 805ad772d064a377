use Rattle.std.proofs.Common.{length, arith, ap}
use Rattle.hog_json.proofs.Escapes.{quoted_too_long}
use Rattle.hog_json.proofs.builder.Builder.put_quoted.Goals as goal

pub returns-then-bytes-room-clause-spent : goal.returns-then-bytes-room-clause-spent
returns-then-bytes-room-clause-spent c spent =
    quoted_too_long c.args.self.now.limit c.args.self.now.text c.args.text.now (omega (arith, ap length c.bytes.ensures.value))
